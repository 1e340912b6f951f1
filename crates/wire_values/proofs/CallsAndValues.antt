-- Calls and their values.
use Rattle.std.proofs.Common.{◌≡◌, ℕ, List, [], ◌∷◌, Bool, true, false, refl, sym, ap, ◌∙◌, subst}
use Rattle.std.specs.Prelude.{IsTrue, ◌==◌, ◌&&◌}
use Rattle.std.proofs.lemmas.Bool.{eqb-true}
use Rattle.tl_types.specs.Values.{ValueView, long, list, call, ValueViews, values_of}
use Rattle.box_events.specs.declared.requests.Request.{Request}
use Rattle.box_events.specs.declared.requests.Request.TheVariants as request
use Rattle.box_events.specs.declared.requests.Numbered.{Numbered}
use Rattle.wire_forms.specs.declared.form.Cell.{Cell}
use Rattle.wire_forms.specs.declared.form.Cell.TheVariants.{Whole, Signed, Long, Many, Query}
use Rattle.wire_forms.specs.declared.numbers.TheConstants.{POST_TYPE, GET_STATE, GET_DIFFERENCE, GET_CHANNEL_DIFFERENCE, INVOKE, POST}
use Rattle.wire_forms.specs.Forms.{forms, is_function, cells_of, is_request}
use Rattle.wire_forms.specs.Parts.{first, at, parts_of, entry_of, long_of, word_of, number}
use Rattle.wire_forms.specs.IsOf.{IsOf, AreOf}
use Rattle.wire_forms.proofs.Words.{clash, again, number_is}
use Rattle.wire_forms.proofs.Cells.{fields_are, field_at}
use Rattle.wire_forms.proofs.Records.{opened_call, by_function}
use Rattle.wire_values.specs.Calls.{request_tree, call_tree, request_at, call_at, call_in, is_served}
use Rattle.wire_values.specs.Carried.{FitsRequest, FitsCall}
use Rattle.wire_values.proofs.PostsAndSteps.{posts_same, posts_back, posts_fit}

abbrev SameRequest : ℕ → List Cell → Type 0
SameRequest k cs = (ts : ValueViews) → AreOf (first ts) cs ts → IsTrue (is_request k) → request_tree (request_at k ts) ≡ call k ts

post_request : SameRequest POST (Long ∷ Many POST_TYPE ∷ [])
post_request ts s e =
    ap (λ (u : ValueViews). call POST (values_of (long (long_of (at 0 ts)) ∷ list u ∷ []))) (posts_same (at 1 ts) (field_at (first ts) 1 (Long ∷ Many POST_TYPE ∷ []) ts s))
    ∙ ap (call POST) (fields_are (first ts) (Long ∷ Many POST_TYPE ∷ []) ts s)

request_forms : (k : ℕ) → IsTrue (is_function k) → SameRequest k (cells_of k)
unfolding forms
request_forms = by_function SameRequest (
  (λ ts s e. ap (call GET_STATE) (fields_are (first ts) [] ts s)),
  (
    (λ ts s e. ap (call GET_DIFFERENCE) (fields_are (first ts) (Signed ∷ Signed ∷ Whole ∷ []) ts s)),
    (
      (λ ts s e. ap (call GET_CHANNEL_DIFFERENCE) (fields_are (first ts) (Long ∷ Signed ∷ []) ts s)),
      (
        (λ ts s e. absurd (clash e)),
        (
          post_request,
          tt,
        ),
      ),
    ),
  ),
)

request_same : (t : ValueView) → IsOf Query t → IsTrue (is_request (entry_of t)) → request_tree (request_at (entry_of t) (parts_of t)) ≡ t
request_same t s e =
    let o = opened_call t s in
    request_forms (entry_of t) o.member (parts_of t) o.fields e ∙ sym o.is

both : (a b : Bool) → (a && b) ≡ true → (a ≡ true) × (b ≡ true)
both true b e = (refl, e)
both false b e = absurd (clash e)

invoked : (ts : ValueViews) → AreOf (first ts) (cells_of INVOKE) ts → IsTrue (is_request (entry_of (at 1 ts))) → call_tree (call_at ts) ≡ call INVOKE ts
unfolding forms
invoked ts s e =
    ap (λ (u : ValueView). call INVOKE (values_of (number (word_of (at 0 ts)) ∷ u ∷ []))) (request_same (at 1 ts) (field_at (first ts) 1 (Whole ∷ Query ∷ []) ts s) e)
    ∙ ap (call INVOKE) (fields_are (first ts) (Whole ∷ Query ∷ []) ts s)

pub call_same : (t : ValueView) → IsOf Query t → IsTrue (is_served t) → call_tree (call_in t) ≡ t
call_same t s e =
    let b = both (entry_of t == INVOKE) (is_request (entry_of (at 1 (parts_of t)))) e in
    let o = opened_call t s in
    let entry : entry_of t ≡ INVOKE = eqb-true (entry_of t) INVOKE b.0 in
    invoked (parts_of t) (subst (λ (k : ℕ). AreOf (first (parts_of t)) (cells_of k) (parts_of t)) entry o.fields) b.1
    ∙ ap (λ (k : ℕ). call k (parts_of t)) (sym entry) ∙ sym o.is

request_back : (r : Request) → request_at (entry_of (request_tree r)) (parts_of (request_tree r)) ≡ r
request_back request.State = refl
request_back (request.Difference pts qts date) = ap (request.Difference pts qts) (again date)
request_back (request.Channel id pts) = refl
request_back (request.Post random_id posts) = ap (request.Post random_id) (posts_back posts)

abbrev numbered : ℕ → Request → Numbered
numbered n r = record { number = n; request = r }

pub call_back : (n : Numbered) → call_in (call_tree n) ≡ n
call_back n =
    ap (λ (k : ℕ). numbered k (request_at (entry_of (request_tree n.request)) (parts_of (request_tree n.request)))) (again n.number)
    ∙ ap (numbered n.number) (request_back n.request)

request_fits : (r : Request) → FitsRequest r → IsOf Query (request_tree r)
unfolding forms
request_fits request.State s = (refl, tt)
request_fits (request.Difference pts qts date) s = (refl, (s.0, (s.1, (number_is date s.2, tt))))
request_fits (request.Channel id pts) s = (refl, (s.0, (s.1, tt)))
request_fits (request.Post random_id posts) s = (refl, (s.0, (posts_fit posts s.1, tt)))

pub call_fits : (n : Numbered) → FitsCall n → IsOf Query (call_tree n)
unfolding forms
call_fits n s = (refl, (number_is n.number s.0, (request_fits n.request s.1, tt)))

served_by : (r : Request) → IsTrue (is_request (entry_of (request_tree r)))
served_by request.State = refl
served_by (request.Difference pts qts date) = refl
served_by (request.Channel id pts) = refl
served_by (request.Post random_id posts) = refl

pub call_served : (n : Numbered) → IsTrue (is_served (call_tree n))
call_served n = served_by n.request
