-- What draws choose, draw by draw.
use Rattle.std.proofs.Common.{◌≡◌, ℕ, suc, ℤ, List, [], ◌∷◌, ◌++◌, append_assoc, refl, sym, subst}
use Rattle.std.specs.Int.{w32, cast_signed}
use Rattle.update_replay.specs.Draws.{drawn, draw_of}
use Rattle.update_replay.specs.Made.{drawn_ids}

-- the ids that are still to be drawn, after one more
module _ (ids : List ℤ) (x m : ℕ) where
  pub one_id : (n : ℕ) → n ≡ suc m → (ids ++ cast_signed w32 (draw_of x) ∷ []) ++ (drawn_ids m (drawn x)).it ≡ ids ++ (drawn_ids n x).it
  one_id n e = subst (λ (k : ℕ). (ids ++ cast_signed w32 (draw_of x) ∷ []) ++ (drawn_ids m (drawn x)).it ≡ ids ++ (drawn_ids k x).it) (sym e) (append_assoc ids (cast_signed w32 (draw_of x) ∷ []) (drawn_ids m (drawn x)).it)

  pub one_number : (n : ℕ) → n ≡ suc m → (drawn_ids m (drawn x)).x ≡ (drawn_ids n x).x
  one_number n e = subst (λ (k : ℕ). (drawn_ids m (drawn x)).x ≡ (drawn_ids k x).x) (sym e) refl
