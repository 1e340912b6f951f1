-- The parts of a value of which all is kept.
use Rattle.std.proofs.Common.{◌≡◌, ℕ, zero, suc, List, sym, ap, ◌∙◌, arith}
use Rattle.std.specs.Prelude.{IsTrue, length}
use Rattle.std.proofs.lemmas.Bool.Decides.{nat_tests}
use Rattle.tl_types.specs.Values.{ValueView, list, node, call, ValueViews, no_values, value, count}
use Rattle.box_events.specs.Events.{deleted}
use Rattle.wire_forms.specs.Parts.{first, rest, at, parts_of, int_of, held}
use Rattle.wire_forms.proofs.Words.{by_test}
use Rattle.wire_forms.proofs.Records.{AllOf, length_each}
use Rattle.wire_values.specs.Updates.{has_ids, deletion, ids_in}
use Rattle.wire_values.specs.Kept.{CountsIds, AllKept, EachKept}

pub kept_parts : (t : ValueView) → AllKept t → EachKept (parts_of t)
kept_parts (list ts) c = c
kept_parts (node k ts) c = c.1
kept_parts (call k ts) c = c.1
kept_parts t c = tt

kept_first : (ts : ValueViews) → EachKept ts → AllKept (first ts)
kept_first no_values c = tt
kept_first (value t ts) c = c.0

kept_rest : (ts : ValueViews) → EachKept ts → EachKept (rest ts)
kept_rest no_values c = c
kept_rest (value t ts) c = c.1

pub kept_at : (k : ℕ) (ts : ValueViews) → EachKept ts → AllKept (at k ts)
kept_at zero ts c = kept_first ts c
kept_at (suc k) ts c = kept_at k (rest ts) (kept_rest ts c)

pub kept_all : (ts : ValueViews) → EachKept ts → AllOf AllKept ts
kept_all no_values c = tt
kept_all (value t ts) c = (c.0, kept_all ts c.1)

pub deletion_is : (ids : List _) → IsTrue (has_ids (length ids)) → deletion ids ≡ deleted ids
deletion_is ids e = by_test (has_ids (length ids)) _ _ e

pub held_ids : (n : ℕ) → IsTrue (has_ids n) → held n ≡ n
held_ids n e = grind (arith, nat_tests, e)

-- the ids of a delete that is kept: it is one, and its count is theirs
pub counted_ids : (t : ValueView) (n : ℕ) → CountsIds t n → IsTrue (has_ids (length (ids_in t))) × (held (length (ids_in t)) ≡ n)
counted_ids t n c =
    let many = length_each int_of (parts_of t) in
    (ap has_ids many ∙ c.0, ap held many ∙ held_ids (count (parts_of t)) c.0 ∙ sym c.1)
