-- What an answer does to the open calls.
use Rattle.std.proofs.Common.{◌≡◌, ℕ, zero, suc, ◌<◌, ◌≤◌, List, [], ◌∷◌, length, map, slice_get, cond, Some, None, Ok, Err, Bool, true, false, refl, ap, sym, ◌∙◌, subst, arith}
use Rattle.std.specs.Map.{lookup, remove_entry}
use Rattle.tl_numbers.specs.Bytes.{AreBytes}
use Rattle.tl_schema.specs.Schemas.{Declared}
use Rattle.tl_schema.specs.CheckedPrograms.{IsSchema}
use Rattle.tl_types.specs.Values.{ValueView}
use Rattle.tl_types.specs.Seen.{view}
use Rattle.tl_types.specs.declared.value.Value.{Value}
use Rattle.tl_types.specs.declared.value.TheConstants.{MAX_LEVELS}
use Rattle.tl_types.proofs.Exactly.{exactly_one}
use Rattle.tl_calls.specs.Results.{result_type, HasResult}
use Rattle.tl_calls.specs.Calling.{CallsView, IsCalls, AreOpenIn, Answers, AnswersTo, LogsCame, open_at, is_number, without_call}
use Rattle.tl_calls.specs.Laws.{AnsweredInFormed}
use Rattle.tl_base.specs.declared.fault.Fault.{Fault}
use Rattle.tl_base.specs.declared.fault.Fault.TheVariants as fault
use Rattle.tl_decode.specs.Wholes.{ReadsBytes}
use Rattle.tl_decode.specs.declared.whole.WholeCause.{WholeCause}
use Rattle.tl_decode.specs.declared.whole.WholeCause.TheVariants as whole
use Rattle.tl_calls.proofs.Stands.{came_stands, gave_stands, open_found, found_open}
use Rattle.tl_calls.specs.Seen.{calls_of}
use Rattle.tl_calls.proofs.Entries.{removed_seen}
use Rattle.tl_calls.proofs.Refusals.{refused_gives, trailing_gives}

none_some : {X : Type 0} (x : X) → None ≡ Some x → ⊥
none_some x same = cc

some_is : {X : Type 0} (x y : X) → Some x ≡ Some y → x ≡ y
some_is x y same = cc

-- what is found by its number stands in the list
found_in : {X : Type 0} (n : ℕ) (ps : List (ℕ × X)) (x : X) → lookup (is_number n) ps ≡ Some x → (k : ℕ) × (p : ℕ × X) × (slice_get ps k ≡ Some p) × (p.1 ≡ x)
found_in n [] x at = absurd (none_some x at)
found_in n (p ∷ ps) x at = by (is_number n p.0) at (found_in n ps x)
  where
    by : (t : Bool) → cond t (Some p.1) (lookup (is_number n) ps) ≡ Some x → (lookup (is_number n) ps ≡ Some x → (k : ℕ) × (q : _) × (slice_get ps k ≡ Some q) × (q.1 ≡ x)) → (k : ℕ) × (q : _) × (slice_get (p ∷ ps) k ≡ Some q) × (q.1 ≡ x)
    by true e rest = (0, p, refl, some_is p.1 x e)
    by false e rest = let r = rest e in (suc r.0, r.1, r.2, r.3)

-- what is left after one entry went stood there before, and in the same order
left_at : {X : Type 0} (n : ℕ) (ps : List (ℕ × X)) (k : ℕ) (p : ℕ × X) → slice_get (remove_entry (is_number n) ps) k ≡ Some p → (j : ℕ) × (k ≤ j) × (j ≤ suc k) × (slice_get ps j ≡ Some p)
left_at n [] k p at = absurd (none_some p at)
left_at n (q ∷ ps) k p at = by (is_number n q.0) k at (left_at n ps)
  where
    by : (t : Bool) (k : ℕ) → slice_get (cond t ps (q ∷ remove_entry (is_number n) ps)) k ≡ Some p → ((i : ℕ) (r : _) → slice_get (remove_entry (is_number n) ps) i ≡ Some r → (j : ℕ) × (i ≤ j) × (j ≤ suc i) × (slice_get ps j ≡ Some r)) → (j : ℕ) × (k ≤ j) × (j ≤ suc k) × (slice_get (q ∷ ps) j ≡ Some p)
    by true k e rest = (suc k, omega arith, omega arith, e)
    by false zero e rest = (0, omega arith, omega arith, e)
    by false (suc k) e rest = let r = rest k p e in (suc r.0, (let low = r.1 in omega (arith, low)), (let high = r.2 in omega (arith, high)), r.3)

module _ (schema : Declared) (c : CallsView) (n : ℕ) (b : List ℕ) where
  pub none_answers : open_at c n ≡ None → Answers schema c c n b (Ok None)
  none_answers e = subst (AnswersTo schema c c n b (Ok None)) (sym e) (refl, refl)

  pub none_logs : open_at c n ≡ None → LogsCame schema c c n b (Ok None)
  none_logs e = λ past s. came_stands schema c past n b (λ d v here a. none_some d (sym e ∙ open_found schema c past n d s here)) s

  module _ (call : ValueView) (e : open_at c n ≡ Some call) where
    pub has_result : AreOpenIn schema c → HasResult schema call
    has_result are = let f = found_in n c.calls call e in subst (HasResult schema) f.3 (are f.0 f.1 f.2)

    pub fault_answers : (fault : Fault WholeCause) → ReadsBytes schema (result_type schema.decls call) b (Err fault) → Answers schema c c n b (Err fault)
    fault_answers fault r = subst (AnswersTo schema c c n b (Err fault)) (sym e) (r, refl)

    pub value_answers : (v : Value) → ReadsBytes schema (result_type schema.decls call) b (Ok v) → Answers schema c (without_call n c) n b (Ok (Some v))
    value_answers v r = subst (AnswersTo schema c (without_call n c) n b (Ok (Some v))) (sym e) (r, refl)

    pub value_logs : (v : Value) → ReadsBytes schema (result_type schema.decls call) b (Ok v) → LogsCame schema c (without_call n c) n b (Ok (Some v))
    value_logs v r = λ past s. gave_stands schema c past n b call (view v) (found_open schema c past n call s e) r s

    pub fault_logs : AnsweredInFormed → IsSchema schema → AreOpenIn schema c → AreBytes b → (fault : Fault WholeCause) → ReadsBytes schema (result_type schema.decls call) b (Err fault) → LogsCame schema c c n b (Err fault)
    fault_logs answered good are bytes (fault.Refused (whole.Refused place cause)) r = λ past s.
        came_stands schema c past n b (refused_gives schema past n b call (found_open schema c past n call s e)
        (exactly_one schema good MAX_LEVELS (result_type schema.decls call) b (answered schema good call (has_result are)) bytes) r.0 cause r.1) s
    fault_logs answered good are bytes (fault.Refused (whole.Trailing place)) r = λ past s.
        came_stands schema c past n b (trailing_gives schema past n b call (found_open schema c past n call s e)
        (exactly_one schema good MAX_LEVELS (result_type schema.decls call) b (answered schema good call (has_result are)) bytes) r.0 r.1 r.2 r.3 r.4 r.5 r.6) s
    fault_logs answered good are bytes fault.Memory r = λ past s. s

pub closed_fitting : (schema : Declared) (c : CallsView) (n : ℕ) → AreOpenIn schema c → AreOpenIn schema (without_call n c)
closed_fitting schema c n are k p at = let l = left_at n c.calls k p at in are l.0 p l.3

abbrev pair_of : ℕ → List (ℕ × ValueView) → CallsView
pair_of n ps = record { next = n; calls = ps }

pub closed_view : (next : ℕ) (es new : List (ℕ × Value)) (n : ℕ) → new ≡ remove_entry (is_number n) es → calls_of next new ≡ without_call n (calls_of next es)
closed_view next es new n e = ap (λ (ps : List (ℕ × ValueView)). pair_of next ps) (ap (map {B = ℕ × ValueView} (λ (f : ℕ × Value). (f.0, view f.1))) e ∙ removed_seen n es)

-- ---- the invariant

removed_few : {X : Type 0} (n : ℕ) (ps : List (ℕ × X)) → length (remove_entry (is_number n) ps) ≤ length ps
removed_few n [] = omega arith
removed_few n (p ∷ ps) = by (is_number n p.0) (removed_few n ps)
  where
    by : (t : Bool) → length (remove_entry (is_number n) ps) ≤ length ps → length (cond t ps (p ∷ remove_entry (is_number n) ps)) ≤ suc (length ps)
    by true rest = omega arith
    by false rest = omega (arith, rest)

left_two : {X : Type 0} (n : ℕ) (ps : List (ℕ × X)) (j k : ℕ) (p q : ℕ × X) → j < k → slice_get (remove_entry (is_number n) ps) j ≡ Some p → slice_get (remove_entry (is_number n) ps) k ≡ Some q
    → (i : ℕ) × (m : ℕ) × (i < m) × (slice_get ps i ≡ Some p) × (slice_get ps m ≡ Some q)
left_two n [] j k p q below at_j at_k = absurd (none_some p at_j)
left_two n (r ∷ ps) j k p q below at_j at_k = by (is_number n r.0) j k below at_j at_k (left_at n ps) (left_two n ps)
  where
    by : (t : Bool) (j k : ℕ) → j < k → slice_get (cond t ps (r ∷ remove_entry (is_number n) ps)) j ≡ Some p → slice_get (cond t ps (r ∷ remove_entry (is_number n) ps)) k ≡ Some q
        → ((i : ℕ) (x : _) → slice_get (remove_entry (is_number n) ps) i ≡ Some x → (m : ℕ) × (i ≤ m) × (m ≤ suc i) × (slice_get ps m ≡ Some x))
        → ((a b : ℕ) (x y : _) → a < b → slice_get (remove_entry (is_number n) ps) a ≡ Some x → slice_get (remove_entry (is_number n) ps) b ≡ Some y → (i : ℕ) × (m : ℕ) × (i < m) × (slice_get ps i ≡ Some x) × (slice_get ps m ≡ Some y))
        → (i : ℕ) × (m : ℕ) × (i < m) × (slice_get (r ∷ ps) i ≡ Some p) × (slice_get (r ∷ ps) m ≡ Some q)
    by true j k less e f one two = (suc j, suc k, omega (arith, less), e, f)
    by false j zero less e f one two = absurd (omega (arith, less))
    by false zero (suc k) less e f one two = let r = one k q f in (0, suc r.0, omega arith, e, r.3)
    by false (suc j) (suc k) less e f one two = let r = two j k p q (omega (arith, less)) e f in (suc r.0, suc r.1, (let below = r.2 in omega (arith, below)), r.3, r.4)

pub closed_is_calls : (c : CallsView) (n : ℕ) → IsCalls c → IsCalls (without_call n c)
closed_is_calls c n is = record {
  first = is.first;
  some_left = is.some_left;
  few = (let less = removed_few n c.calls in let few = is.few in omega (arith, less, few));
  ascending = λ j k p q below at_j at_k. (let l = left_two n c.calls j k p q below at_j at_k in is.ascending l.0 l.1 p q l.2 l.3 l.4);
  sent_before = λ k p at. (let l = left_at n c.calls k p at in is.sent_before l.0 p l.3);
}
