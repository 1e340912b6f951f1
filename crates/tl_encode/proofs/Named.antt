-- The member that a search by halves finds.
use Rattle.std.proofs.Common.{◌≡◌, ℕ, ◌<◌, ◌≤◌, List, length, get_or, Some, Ok, Err, refl, sym, ap, ◌∙◌, arith}
use Rattle.std.specs.Prelude.{slice_get}
use Rattle.std.specs.Option.{option_map}
use Rattle.std.specs.Ordering.{nat_cmp, ordering_index}
use Rattle.std.specs.List.Sorted.{IsBinarySearchResult, IsNonDecreasingBy}
use Rattle.std.proofs.Math.Logic.{⊎_elim}
use Rattle.std.proofs.lemmas.Bool.{cases_lt}
use Rattle.std.proofs.lemmas.Bool.Decides.{nat_tests}
use Rattle.std.proofs.lemmas.Cmp.{ranked}
use Rattle.std.proofs.lemmas.Option.{slice_get-map, slice_get-get_or, slice_get_read, slice_get_within, get_or_from_slice_get}
use Rattle.tl_plan.proofs.FormedReached.{in_map}
use Rattle.tl_plan.specs.declared.instances.Member.{Member}
use Rattle.tl_encode.specs.inner.Openings.{Ascend, IsNamed, Names, entries_of}

module _ (ms : List Member) (i : ℕ) where
  pub found : (k : ℕ) (m : Member) → k < length ms → m ≡ get_or ms k m → IsBinarySearchResult (λ (x : Member). nat_cmp x.entry i) ms (Ok k) → IsNamed ms i m
  found k m within is equal = (k, slice_get_read ms (length ms) k m refl within is, ap (λ (x : Member). x.entry) is ∙ ranked _ i _ (sym (equal m)))

  entry_at : (k : ℕ) (d : Member) → k < length ms → slice_get (entries_of ms) k ≡ Some (get_or ms k d).entry
  entry_at k d within = slice_get-map (λ (m : Member). m.entry) ms k ∙ ap (option_map (λ (m : Member). m.entry)) (slice_get-get_or ms k d within)

  module _ (ascending : Ascend ms) where
    higher : (a b : ℕ) → a ≤ b → ordering_index (nat_cmp a i) ≤ ordering_index (nat_cmp b i)
    higher a b le = grind (arith, nat_tests)

    rise : (a b : ℕ) (d : Member) → a < b → b < length ms → (get_or ms a d).entry < (get_or ms b d).entry
    rise a b d lt within = ascending a b _ _ lt (entry_at a d (omega (arith, lt, within))) (entry_at b d within)

    comparisons_rise : IsNonDecreasingBy (λ (m : Member). ordering_index (nat_cmp m.entry i)) ms
    comparisons_rise a b d le within =
        ⊎_elim (λ lt. let up = rise a b d lt within in higher (get_or ms a d).entry (get_or ms b d).entry (omega (arith, up)))
        (λ ge. let same : a ≡ b = omega (arith, le, ge) in higher (get_or ms a d).entry (get_or ms b d).entry (let e = ap (λ (k : ℕ). (get_or ms k d).entry) same in omega (arith, e))) (cases_lt a b)

    pub never_missing : (at : ℕ) → IsBinarySearchResult (λ (x : Member). nat_cmp x.entry i) ms (Err at) → Names ms i → ⊥
    never_missing at parted (k, there) =
        let own = in_map (λ (m : Member). m.entry) ms k i there in
        let within = slice_get_within ms k own.0 own.1 in
        let here : (get_or ms k own.0).entry ≡ i = ap (λ (m : Member). m.entry) (get_or_from_slice_get ms k own.0 own.0 own.1) ∙ sym own.2 in
        let cut = parted comparisons_rise in
        ⊎_elim (λ lt. let less = ranked (get_or ms k own.0).entry i _ (sym (cut.0 k own.0 (omega arith) lt)) in omega (arith, here, less))
        (λ le. let more = ranked (get_or ms k own.0).entry i _ (sym (cut.1 k own.0 le within)) in omega (arith, here, more)) (cases_lt k at)
