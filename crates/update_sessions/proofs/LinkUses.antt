-- Calls over a link, one after the other.
use Rattle.std.proofs.Common.{◌≡◌, ℕ, List, Bool, Option, refl, sym, ◌∙◌, subst, arith}
use Rattle.std.specs.Prelude.{IsSome, IsTrue}
use Rattle.tl_base.specs.Causes.{Rose}
use Rattle.tl_base.specs.Using.{SourceState, SinkState, Used, Wrote}
use Rattle.update_sessions.specs.Links.{UsesLink}

some_as : (a b : Option (List ℕ)) → a ≡ b → IsSome a → IsSome b
some_as a b e t = subst (λ (o : Option (List ℕ)). IsSome o) e t

true_as : (a b : Bool) → a ≡ b → IsTrue a → IsTrue b
true_as a b e t = subst (λ (o : Bool). IsTrue o) e t

pub uses_none : (a : SourceState) (x : SinkState) (F : Type 0) → (F → ⊥) → UsesLink a a x x F
uses_none a x F never =
    record {
      later = omega arith;
      cause = λ f. absurd (never f);
      left_told = λ t. t;
      left_untold = λ t. t;
      written_told = λ t. t;
      written_untold = λ t. t;
      room_kept = refl;
      stays = λ l w s. s;
    }

pub uses_then : (a b c : SourceState) (x y z : SinkState) (P F : Type 0) → UsesLink a b x y P → UsesLink b c y z F → UsesLink a c x z F
uses_then a b c x y z P F p q =
    record {
      later = omega (arith, p.later, q.later);
      cause = λ f. omega (arith, p.later, q.cause f);
      left_told = λ t. q.left_told (p.left_told t);
      left_untold = λ t. q.left_untold (p.left_untold t);
      written_told = λ t. q.written_told (p.written_told t);
      written_untold = λ t. q.written_untold (p.written_untold t);
      room_kept = q.room_kept ∙ p.room_kept;
      stays = λ l w s. q.stays (p.left_told l) (p.written_told w) (p.stays l w s);
    }

pub uses_as : (a b : SourceState) (x y : SinkState) (P F : Type 0) → UsesLink a b x y P → (F → P) → UsesLink a b x y F
uses_as a b x y P F p f =
    record {
      later = p.later;
      cause = λ e. p.cause (f e);
      left_told = p.left_told;
      left_untold = p.left_untold;
      written_told = p.written_told;
      written_untold = p.written_untold;
      room_kept = p.room_kept;
      stays = p.stays;
    }

-- a call that only reads
pub uses_read : (a b : SourceState) (x y : SinkState) (F : Type 0) → Used a b F → x.written ≡ y.written → x.room ≡ y.room → UsesLink a b x y F
uses_read a b x y F u written room =
    record {
      later = u.later;
      cause = u.cause;
      left_told = u.told;
      left_untold = u.untold;
      written_told = λ t. some_as x.written y.written written t;
      written_untold = λ e. sym written ∙ e;
      room_kept = sym room;
      stays = λ l w s. u.stays l s;
    }

-- what ties a link as a source to it as a sink
pub record IsOne (a : SourceState) (x : SinkState) : Type 0 where
  pub faults : a.faults ≡ x.faults
  pub sound : a.sound ≡ x.sound

-- a call that only writes
pub uses_write : (a b : SourceState) (x y : SinkState) (n : ℕ) (F : Type 0) → Wrote x y n F → IsOne a x → IsOne b y → a.left ≡ b.left → UsesLink a b x y F
uses_write a b x y n F u old new left =
    record {
      later = omega (arith, u.later, old.faults, new.faults);
      cause = λ f. subst (λ (k : ℕ). Rose k b.faults) (sym old.faults) (subst (λ (k : ℕ). Rose x.faults k) (sym new.faults) (u.cause f));
      left_told = λ t. some_as a.left b.left left t;
      left_untold = λ e. sym left ∙ e;
      written_told = u.told;
      written_untold = u.untold;
      room_kept = u.room_kept;
      stays = λ l w s. true_as y.sound b.sound (sym new.sound) (u.stays w (true_as a.sound x.sound old.sound s));
    }
