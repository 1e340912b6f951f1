-- The entries of the map of open calls, and what contracts see of them.
use Rattle.std.proofs.Common.{◌≡◌, ℕ, suc, ◌<◌, List, [], ◌∷◌, ◌++◌, map, slice_get, cond, Some, Bool, true, false, refl, ap, ◌∙◌, arith}
use Rattle.std.specs.Option.{option_map}
use Rattle.std.specs.Map.{lookup, remove_entry}
use Rattle.std.specs.BTreeMap.{insert_entry}
use Rattle.std.specs.Ordering.{nat_cmp, match_ordering}
use Rattle.std.specs.declared.cmp.Ordering.{Ordering}
use Rattle.std.specs.declared.cmp.Ordering.TheVariants.{Greater}
use Rattle.std.proofs.lemmas.Bool.Decides.{nat_tests}
use Rattle.tl_types.specs.Values.{ValueView}
use Rattle.tl_types.specs.Seen.{view}
use Rattle.tl_types.specs.declared.value.Value.{Value}
use Rattle.tl_calls.specs.Calling.{is_number}

abbrev seen : ℕ × Value → ℕ × ValueView
seen e = (e.0, view e.1)

pub lookup_seen : (n : ℕ) (es : List (ℕ × Value)) → lookup (is_number n) (map (λ e. (e.0, view e.1)) es) ≡ option_map view (lookup (is_number n) es)
lookup_seen n [] = refl
lookup_seen n (e ∷ es) = by (is_number n e.0) (lookup_seen n es)
  where
    by : (t : Bool) → lookup (is_number n) (map (λ e. (e.0, view e.1)) es) ≡ option_map view (lookup (is_number n) es)
        → cond t (Some (view e.1)) (lookup (is_number n) (map (λ e. (e.0, view e.1)) es)) ≡ option_map view (cond t (Some e.1) (lookup (is_number n) es))
    by true rest = refl
    by false rest = rest

pub removed_seen : (n : ℕ) (es : List (ℕ × Value)) → map (λ e. (e.0, view e.1)) (remove_entry (is_number n) es) ≡ remove_entry (is_number n) (map (λ e. (e.0, view e.1)) es)
removed_seen n [] = refl
removed_seen n (e ∷ es) = by (is_number n e.0) (removed_seen n es)
  where
    by : (t : Bool) → map (λ e. (e.0, view e.1)) (remove_entry (is_number n) es) ≡ remove_entry (is_number n) (map (λ e. (e.0, view e.1)) es)
        → map (λ e. (e.0, view e.1)) (cond t es (e ∷ remove_entry (is_number n) es)) ≡ cond t (map (λ e. (e.0, view e.1)) es) ((e.0, view e.1) ∷ remove_entry (is_number n) (map (λ e. (e.0, view e.1)) es))
    by true rest = refl
    by false rest = ap (λ (ps : List (ℕ × ValueView)). (e.0, view e.1) ∷ ps) rest

above : (n m : ℕ) → m < n → nat_cmp n m ≡ Greater
above n m less = grind (arith, nat_tests)

-- a number above all goes to the end
pub inserted_last : (es : List (ℕ × Value)) (n : ℕ) (v : Value) → ((k : ℕ) (e : ℕ × Value) → slice_get es k ≡ Some e → e.0 < n) → insert_entry nat_cmp es n v ≡ es ++ (n, v) ∷ []
inserted_last [] n v below = refl
inserted_last (e ∷ es) n v below =
    ap (λ (o : Ordering). match_ordering o ((n, v) ∷ e ∷ es) ((e.0, v) ∷ es) (e ∷ insert_entry nat_cmp es n v)) (above n e.0 (below 0 e refl))
    ∙ ap (λ (ps : List (ℕ × Value)). e ∷ ps) (inserted_last es n v (λ k f at. below (suc k) f at))
