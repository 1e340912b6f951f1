-- A formed type stays formed where formed arguments stand in place of its variables.
use Rattle.std.proofs.Common.{◌≡◌, ℕ, zero, suc, ◌<◌, get_or, refl, ap, subst, arith}
use Rattle.tl_schema.specs.Types.{Shape, int, long, nat, opaque, str, raw, flag, call, var, vector, boxed, bare, Shapes, no_shapes, shape}
use Rattle.tl_schema.specs.Schemas.{Declared}
use Rattle.tl_schema.specs.Closing.{closed_each, list_of_shapes}
use Rattle.tl_schema.specs.Formed.{IsFormedOver, AreArguments, AppliesType, AppliesBare, IsEmpty, count_of}
use Rattle.tl_schema.specs.FormedLaws.{ClosesFormed, ClosingKeepsFormed}

closed_count : (args : Shapes) (ss : Shapes) → count_of ss ≡ count_of (closed_each (list_of_shapes args) ss)
closed_count args no_shapes = refl
closed_count args (shape s ss) = ap suc (closed_count args ss)

module _ (schema : Declared) (m : ℕ) where
  -- one of the arguments, by its index
  argument_at : (args : Shapes) (i : ℕ) (d : Shape) → AreArguments schema m args → i < count_of args → IsFormedOver schema m (get_or (list_of_shapes args) i d) × (IsEmpty schema (get_or (list_of_shapes args) i d) → ⊥)
  argument_at no_shapes i d are below = absurd (omega (arith, below))
  argument_at (shape s ss) zero d are below = (are.0, are.1)
  argument_at (shape s ss) (suc i) d are below = argument_at ss i d are.2 (omega (arith, below))

  module _ (n : ℕ) (args : Shapes) (count : count_of args ≡ n) (are : AreArguments schema m args) where
    abbrev Closes : Shape → Type 0
    Closes s = ClosesFormed schema n m args s

    variable_closes : (i : ℕ) → i < n → Closes (var i)
    variable_closes i below =
        let at = argument_at args i (var i) are (omega (arith, below, count)) in record { formed = at.0; bytes = λ _. at.1 }

    mutual
      closes : (s : Shape) → IsFormedOver schema n s → Closes s
      closes int h = record { formed = tt; bytes = λ full. full }
      closes long h = record { formed = tt; bytes = λ full. full }
      closes nat h = record { formed = tt; bytes = λ full. full }
      closes (opaque k) h = record { formed = tt; bytes = λ full. full }
      closes str h = record { formed = tt; bytes = λ full. full }
      closes raw h = record { formed = tt; bytes = λ full. full }
      closes flag h = absurd h
      closes call h = record { formed = tt; bytes = λ full. full }
      closes (var i) below = variable_closes i below
      closes (vector is_boxed s) h = let item = closes s h.0 in record { formed = (item.formed, item.bytes h.1); bytes = λ full. full }
      closes (boxed k ss) h = record {
        formed = (subst (AppliesType schema k) (closed_count args ss) h.0, closes_each ss h.1);
        bytes = λ full. full;
      }
      closes (bare k ss) h = record {
        formed = (subst (AppliesBare schema k) (closed_count args ss) h.0, closes_each ss h.1);
        bytes = λ full. full;
      }

      closes_each : (ss : Shapes) → AreArguments schema n ss → AreArguments schema m (closed_each (list_of_shapes args) ss)
      closes_each no_shapes h = tt
      closes_each (shape s ss) h = let one = closes s h.0 in (one.formed, one.bytes h.1, closes_each ss h.2)

pub closing_keeps_formed : ClosingKeepsFormed
closing_keeps_formed schema n m args s count are formed = closes schema m n args count are s formed
