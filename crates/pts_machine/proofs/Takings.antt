-- Items that a vector took in turn.
use Rattle.std.proofs.Common.{◌≡◌, ◌+◌, ◌≤◌, List, [], ◌∷◌, ◌++◌, length, Vec, vec_len, vec_capacity, sym, ap, ◌∙◌, arith, append_assoc, append-nil}
use Rattle.pts_machine.specs.Takings.{InTurn, Pushed}
use Rattle.pts_machine.specs.Takings.InTurn.{none, one_more}

-- they stand after the others
pub record Stand {E A : Type 0} (v : Vec E A) (xs : List E) (w : Vec E A) : Type 0 where
  pub items : w.items ≡ v.items ++ xs
  pub len : vec_len w ≡ vec_len v + length xs
  pub capacity : vec_capacity v ≤ vec_capacity w

pub stand : {E A : Type 0} (v w : Vec E A) (items : List E) → InTurn Pushed v items w → Stand v items w
stand v w [] (none x) = record { items = sym (append-nil x.items); len = omega arith; capacity = omega arith }
stand v w (item ∷ items) (one_more x u z item2 items2 first rest) =
    let s = stand u z items2 rest in
    record {
      items = s.items ∙ ap (λ xs. xs ++ items2) first.0 ∙ append_assoc x.items (item2 ∷ []) items2;
      len = omega (arith, s.len, first.1);
      capacity = omega (arith, s.capacity, first.2);
    }
