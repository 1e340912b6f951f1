-- Values that are moved, each and at an index.
use Rattle.std.proofs.Common.{◌≡◌, ℕ, zero, suc, ◌≤◌, List, [], ◌∷◌, map, length, slice_get, Option, Some, refl, ap, sym, arith}
use Rattle.std.proofs.lemmas.Option.{none-some, same_Some}
use Rattle.tl_types.specs.Values.{ValueView, absent}
use Rattle.tl_types.specs.Seen.{view, views}
use Rattle.tl_types.specs.declared.value.Value.{Value}
use Rattle.tl_layers.specs.inner.Tables.{moved_by, moved_each, picked}
use Rattle.tl_layers.specs.declared.moved.Moved.{Moved}

module _ (moved : List (Option Moved)) where
  pub each_moved : (vs : List Value) → map (λ v. moved_by moved (view v)) vs ≡ moved_each moved (views vs)
  each_moved [] = refl
  each_moved (v ∷ vs) = ap (λ (us : List ValueView). moved_by moved (view v) ∷ us) (each_moved vs)

  pub moved_at : (vs : List Value) (k : ℕ) (v : Value) → slice_get vs k ≡ Some v → moved_by moved (view v) ≡ picked (moved_each moved (views vs)) (Some k)
  moved_at [] k v at = absurd (none-some v at)
  moved_at (w ∷ vs) zero v at = ap (λ (u : Value). moved_by moved (view u)) (sym (same_Some w v at))
  moved_at (w ∷ vs) (suc k) v at = moved_at vs k v at

  pub moved_past : (vs : List Value) (k : ℕ) → length vs ≤ k → absent ≡ picked (moved_each moved (views vs)) (Some k)
  moved_past [] k past = refl
  moved_past (w ∷ vs) zero past = absurd (omega (arith, past))
  moved_past (w ∷ vs) (suc k) past = moved_past vs k (omega (arith, past))
