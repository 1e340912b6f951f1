-- There is one first index with a property at most.
use Rattle.std.proofs.Common.{◌≡◌, inl, inr, ℕ, Option, Some, None, refl, ap}
use Rattle.std.proofs.lemmas.Bool.{cases_order}
use Rattle.tl_graph.specs.Firsts.{First}

module _ (P : ℕ → Type 0) where
  pub one_first : (o p : Option ℕ) → First P o → First P p → o ≡ p
  one_first None None f g = refl
  one_first None (Some k) f g = absurd (f k g.0)
  one_first (Some k) None f g = absurd (g k f.0)
  one_first (Some k) (Some l) f g = elim (cases_order k l) [
    | inl e ↦ ap Some e
    | inr (inl less) ↦ absurd (g.1 k less f.0)
    | inr (inr more) ↦ absurd (f.1 l more g.0)
  ]
