-- What the message of a value is spelled as: where a value may say the same in two ways, one of them. This project's own.
use Rattle.std.specs.Prelude.{ℕ, [], ◌∷◌, ◌||◌, ◌==◌, if◌then◌else◌}
use Rattle.tl_types.specs.Values.{ValueView, list, node, ValueViews, value, values_of}
use Rattle.wire_forms.specs.Parts.{at, rest, parts_of, entry_of, word_of, number, is_final}
use Rattle.wire_forms.specs.declared.numbers.TheConstants.{UPDATES, UPDATES_COMBINED, DIFFERENCE, PUSH, DIFFERENCE_REPLY, CHANNEL_REPLY}
use Rattle.wire_values.specs.Others.{joined, others_of, settings_of}
use Rattle.wire_values.specs.Frames.{bits}
use Rattle.wire_values.specs.declared.saved_writer.TheConstants.{VERSION}

-- a container with a start that is its seq, or with seq 0, becomes one without
abbrev pub normal_updates : ℕ → ValueViews → ValueView
normal_updates k ts =
    if k == UPDATES_COMBINED
    then (if (word_of (at 2 ts) == word_of (at 3 ts)) || (word_of (at 3 ts) == 0) then node UPDATES (values_of (at 0 ts ∷ at 1 ts ∷ at 3 ts ∷ [])) else node k ts)
    else node k ts

-- the settings of the last difference go after the other updates; both keep their order
abbrev pub normal_difference : ℕ → ValueViews → ValueView
normal_difference k ts =
    if k == DIFFERENCE
    then node k (values_of (at 0 ts ∷ at 1 ts ∷ list (joined (others_of (parts_of (at 2 ts))) (settings_of (parts_of (at 2 ts)))) ∷ at 3 ts ∷ []))
    else node k ts

-- other bits of the flags are cleared
abbrev pub normal_channel_reply : ℕ → ValueViews → ValueView
normal_channel_reply k ts = node k (value (bits (is_final (at 0 ts))) (rest ts))

-- a frame of form k
abbrev pub normal_frame_at : ℕ → ValueViews → ValueView
normal_frame_at k ts =
    if k == PUSH then node k (values_of (normal_updates (entry_of (at 0 ts)) (parts_of (at 0 ts)) ∷ []))
    else if k == DIFFERENCE_REPLY then node k (values_of (at 0 ts ∷ normal_difference (entry_of (at 1 ts)) (parts_of (at 1 ts)) ∷ []))
    else if k == CHANNEL_REPLY then node k (values_of (at 0 ts ∷ normal_channel_reply (entry_of (at 1 ts)) (parts_of (at 1 ts)) ∷ []))
    else node k ts

-- the value of a frame
abbrev pub normal_frame : ValueView → ValueView
normal_frame t = normal_frame_at (entry_of t) (parts_of t)

-- the version becomes the one that is written
abbrev pub normal_saved : ValueView → ValueView
normal_saved t = node (entry_of t) (value (number VERSION) (rest (parts_of t)))
