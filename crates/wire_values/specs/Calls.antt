-- The value of a call, and the call of a value: a request, with the number under which it is asked. This project's own.
use Rattle.std.specs.Prelude.{ℕ, [], ◌∷◌, Bool, ◌&&◌, ◌==◌, if◌then◌else◌}
use Rattle.tl_types.specs.Values.{ValueView, int, long, list, call, ValueViews, no_values, values_of}
use Rattle.box_events.specs.declared.requests.Request.{Request}
use Rattle.box_events.specs.declared.requests.Request.TheVariants as request
use Rattle.box_events.specs.declared.requests.Numbered.{Numbered}
use Rattle.wire_forms.specs.Forms.{is_request}
use Rattle.wire_forms.specs.Parts.{at, parts_of, entry_of, int_of, long_of, word_of, number, each, row}
use Rattle.wire_forms.specs.declared.numbers.TheConstants.{GET_STATE, GET_DIFFERENCE, GET_CHANNEL_DIFFERENCE, INVOKE, POST}
use Rattle.wire_values.specs.Posts.{post_tree, post_in}

-- a request
abbrev pub request_tree : Request → ValueView
request_tree request.State = call GET_STATE no_values
request_tree (request.Difference pts qts date) = call GET_DIFFERENCE (values_of (int pts ∷ int qts ∷ number date ∷ []))
request_tree (request.Channel id pts) = call GET_CHANNEL_DIFFERENCE (values_of (long id ∷ int pts ∷ []))
request_tree (request.Post random_id posts) = call POST (values_of (long random_id ∷ list (row post_tree posts) ∷ []))

-- a call
abbrev pub call_tree : Numbered → ValueView
call_tree n = call INVOKE (values_of (number n.number ∷ request_tree n.request ∷ []))

-- ---- back: the last form stands for whatever else there is

-- the request of a call of form k
abbrev pub request_at : ℕ → ValueViews → Request
request_at k ts =
    if k == GET_STATE then request.State
    else if k == GET_DIFFERENCE then request.Difference (int_of (at 0 ts)) (int_of (at 1 ts)) (word_of (at 2 ts))
    else if k == GET_CHANNEL_DIFFERENCE then request.Channel (long_of (at 0 ts)) (int_of (at 1 ts))
    else request.Post (long_of (at 0 ts)) (each post_in (parts_of (at 1 ts)))

-- the call of a record's fields
abbrev pub call_at : ValueViews → Numbered
call_at ts = record { number = word_of (at 0 ts); request = request_at (entry_of (at 1 ts)) (parts_of (at 1 ts)) }

-- the call of a value
abbrev pub call_in : ValueView → Numbered
call_in t = call_at (parts_of t)

-- a call that carries a request
abbrev pub is_served : ValueView → Bool
is_served t = (entry_of t == INVOKE) && is_request (entry_of (at 1 (parts_of t)))
