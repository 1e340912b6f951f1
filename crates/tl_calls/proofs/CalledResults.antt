-- The result of a variable is that of the value of its field.
use Rattle.std.proofs.Common.{◌≡◌, ℕ, zero, suc, ◌<◌, List, [], ◌∷◌, length, get_or, set, replicate, slice_get, Option, Some, None, refl, ap, sym, ◌∙◌, arith}
use Rattle.std.proofs.lemmas.List.{get_or-set_same, get_or-set_other, length-set, length-replicate}
use Rattle.std.proofs.lemmas.Option.{none-some, same_Some}
use Rattle.tl_schema.specs.Types.{Shape}
use Rattle.tl_schema.specs.Types as type
use Rattle.tl_schema.specs.Schemas.{Slot, Declaration}
use Rattle.tl_types.specs.Values.{ValueView, ValueViews, no_values, value, list_of}
use Rattle.tl_calls.specs.Results.{result_type, results, with_result}
use Rattle.tl_calls.specs.Laws.{EachVariableIsCalled, ResultsAreTheCalls}

module _ (ds : List Declaration) (j : ℕ) (e : Shape) where
  other_kept : (o : Option ℕ) (T : Shape) (Ts : List Shape) → (o ≡ Some j → ⊥) → get_or (with_result o T Ts) j e ≡ get_or Ts j e
  other_kept None T Ts other = refl
  other_kept (Some i) T Ts other = get_or-set_other Ts i j T e (λ same. other (ap Some (sym same)))

  -- where no field is a call of the variable
  kept : (Ts : List Shape) (fs : List Slot) (vs : ValueViews) → ((m : ℕ) (g : Slot) → slice_get fs m ≡ Some g → g.var ≡ Some j → ⊥) → get_or (results ds Ts fs vs) j e ≡ get_or Ts j e
  kept Ts fs no_values other = refl
  kept Ts [] (value v vs) other = refl
  kept Ts (f ∷ fs) (value v vs) other = kept (with_result f.var (result_type ds v) Ts) fs vs (λ m g at var. other (suc m) g at var) ∙ other_kept f.var (result_type ds v) Ts (λ is. other zero f refl is)

  count_kept : (o : Option ℕ) (T : Shape) (Ts : List Shape) → length (with_result o T Ts) ≡ length Ts
  count_kept None T Ts = refl
  count_kept (Some i) T Ts = length-set Ts i T

  here_set : (o : Option ℕ) (T : Shape) (Ts : List Shape) → o ≡ Some j → j < length Ts → get_or (with_result o T Ts) j e ≡ T
  here_set None T Ts is within = absurd (none-some j is)
  here_set (Some i) T Ts is within = ap (λ (k : ℕ). get_or (set Ts k T) j e) (same_Some i j is) ∙ get_or-set_same Ts j T e within

  -- where one field is, and no other
  called : (Ts : List Shape) (fs : List Slot) (vs : ValueViews) (k : ℕ) (f : Slot) (v : ValueView) → j < length Ts → slice_get fs k ≡ Some f → f.var ≡ Some j → ((m : ℕ) (g : Slot) → slice_get fs m ≡ Some g → g.var ≡ Some j → m ≡ k)
      → slice_get (list_of vs) k ≡ Some v → get_or (results ds Ts fs vs) j e ≡ result_type ds v
  called Ts fs no_values k f v within there var alone at = absurd (none-some v at)
  called Ts [] (value w vs) k f v within there var alone at = absurd (none-some f there)
  called Ts (g ∷ fs) (value w vs) zero f v within there var alone at =
      kept (with_result g.var (result_type ds w) Ts) fs vs (λ m h there_too var_too. (let same = alone (suc m) h there_too var_too in absurd (omega (arith, same))))
      ∙ here_set g.var (result_type ds w) Ts (ap (λ (s : Slot). s.var) (same_Some g f there) ∙ var) within ∙ ap (result_type ds) (same_Some w v at)
  called Ts (g ∷ fs) (value w vs) (suc k) f v within there var alone at =
      called (with_result g.var (result_type ds w) Ts) fs vs k f v (let same = count_kept g.var (result_type ds w) Ts in omega (arith, same, within)) there var
      (λ m h there_too var_too. (let same = alone (suc m) h there_too var_too in omega (arith, same))) at

pub results_are_the_calls : EachVariableIsCalled → ResultsAreTheCalls
results_are_the_calls each schema good i d f vs j k below c v at =
    let one = each schema good i d f j below in
    called schema.decls j type.call (replicate d.vars type.call) d.fields vs k c.f v (let count = length-replicate d.vars type.call in omega (arith, count, below)) c.there c.var
    (λ m g there var. one.2 m (record { f = g; there = there; var = var }) ∙ sym (one.2 k c)) at
