-- Calls over a sink, one after the other.
use Rattle.std.proofs.Common.{ℕ, ◌∙◌, arith, refl}
use Rattle.tl_base.specs.Using.{SinkState, Wrote, WritesOnly}

pub writes_none : (x : SinkState) (F : Type 0) → (F → ⊥) → WritesOnly x x F
writes_none x F never = record { later = omega arith; cause = λ f. absurd (never f); kept = refl; room_kept = refl; told = λ t. t; untold = λ t. t; stays = λ t s. s }

pub writes_of : (x y : SinkState) (n : ℕ) (P F : Type 0) → Wrote x y n P → (F → P) → WritesOnly x y F
writes_of x y n P F p tells = record { later = p.later; cause = λ f. p.cause (tells f); kept = p.kept; room_kept = p.room_kept; told = p.told; untold = p.untold; stays = p.stays }

pub writes_then : (x y z : SinkState) (P F : Type 0) → WritesOnly x y P → WritesOnly y z F → WritesOnly x z F
writes_then x y z P F p q =
    record {
      later = omega (arith, p.later, q.later);
      cause = λ f. omega (arith, p.later, q.cause f);
      kept = q.kept ∙ p.kept;
      room_kept = q.room_kept ∙ p.room_kept;
      told = λ t. q.told (p.told t);
      untold = λ t. q.untold (p.untold t);
      stays = λ t s. q.stays (p.told t) (p.stays t s);
    }

pub writes_as : (x y : SinkState) (P F : Type 0) → WritesOnly x y P → (F → P) → WritesOnly x y F
writes_as x y P F p f = record { later = p.later; cause = λ e. p.cause (f e); kept = p.kept; room_kept = p.room_kept; told = p.told; untold = p.untold; stays = p.stays }
