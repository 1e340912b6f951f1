-- Two calls over a source or a sink, one after the other.
use Rattle.std.proofs.Common.{◌∙◌, arith, refl}
use Rattle.tl_base.specs.Using.{SourceState, Used}

pub used_none : (x : SourceState) (F : Type 0) → (F → ⊥) → Used x x F
used_none x F never = record { later = omega arith; cause = λ f. absurd (never f); kept = refl; told = λ t. t; untold = λ t. t; stays = λ t s. s; never = λ t s f. never f }

pub used_then : (x y z : SourceState) (P F : Type 0) → Used x y P → Used y z F → Used x z F
used_then x y z P F p q =
    record {
      later = omega (arith, p.later, q.later);
      cause = λ f. omega (arith, p.later, q.cause f);
      kept = q.kept ∙ p.kept;
      told = λ t. q.told (p.told t);
      untold = λ t. q.untold (p.untold t);
      stays = λ t s. q.stays (p.told t) (p.stays t s);
      never = λ t s f. q.never (p.told t) (p.stays t s) f;
    }

pub used_as : (x y : SourceState) (P F : Type 0) → Used x y P → (F → P) → Used x y F
used_as x y P F p f = record { later = p.later; cause = λ e. p.cause (f e); kept = p.kept; told = p.told; untold = p.untold; stays = p.stays; never = λ t s e. p.never t s (f e) }
