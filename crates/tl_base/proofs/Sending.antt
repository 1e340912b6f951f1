-- How a packet is written: its length, and then its bytes.
use Rattle.std.proofs.Common.{◌≡◌, ℕ, ◌+◌, ◌≤◌, List, ◌++◌, append_assoc, length, Option, Some, None, Result, Ok, Err, refl, sym, ap, ◌∙◌, subst, arith}
use Rattle.std.specs.Prelude.{IsErrAnd, IsSome, IsTrue, IfSome}
use Rattle.std.specs.Io.KnownBytes.{Appends}
use Rattle.std.proofs.KnownBytes.{Appends-trans}
use Rattle.std.proofs.lemmas.List.{length-append}
use Rattle.tl_base.specs.Using.{SinkState, Wrote}
use Rattle.tl_base.specs.Writing.{AppendsPrefix, WritesPiece}

pub head_failed : {E : Type 0} (a b : Option (List ℕ)) (head piece whole : List ℕ) (Q : E → Type 0) (r : Result (Unit {0}) E) → IsErrAnd r Q → whole ≡ head ++ piece → AppendsPrefix a b head → WritesPiece a b whole r
head_failed a b head piece whole Q (Ok u) q e h = absurd q
head_failed a b head piece whole Q (Err x) q e h = (h.0, h.1 ++ piece, sym (append_assoc h.0 h.1 piece) ∙ (ap (λ (l : List ℕ). l ++ piece) h.2 ∙ sym e), h.3)

pub body_written : {E : Type 0} (a b c : Option (List ℕ)) (head piece whole : List ℕ) (r : Result (Unit {0}) E) → whole ≡ head ++ piece → Appends a b head → WritesPiece b c piece r → WritesPiece a c whole r
body_written a b c head piece whole (Ok u) e h g = subst (Appends a c) (sym e) (Appends-trans a b c head piece h g)
body_written a b c head piece whole (Err x) e h g = (head ++ g.0, g.1, append_assoc head g.0 g.1 ∙ (ap (λ (l : List ℕ). head ++ l) g.2 ∙ sym e), Appends-trans a b c head g.0 h g.3)

never_then : (a b : Option (List ℕ)) (first second : Type 0) (room then_room n : ℕ) (head : List ℕ) (F : Type 0) → Appends a b head → (IsSome a → first → second) → then_room ≡ room
    → IfSome b (λ mid. second → length mid + n ≤ then_room → F → ⊥) → IfSome a (λ before. first → length before + (length head + n) ≤ room → F → ⊥)
never_then None b first second room then_room n head F h stays e never = tt
never_then (Some x) None first second room then_room n head F h stays e never = absurd h
never_then (Some x) (Some y) first second room then_room n head F h stays e never = λ s fits f. never (stays refl s) (omega (arith, ap length h, length-append x head, fits, e)) f

-- two pieces, one after the other
pub wrote_then : (x y z : SinkState) (head : List ℕ) (n : ℕ) (P F : Type 0) → Appends x.written y.written head → Wrote x y (length head) P → Wrote y z n F → Wrote x z (length head + n) F
wrote_then x y z head n P F h p q =
    record {
      later = omega (arith, p.later, q.later);
      cause = λ f. omega (arith, p.later, q.cause f);
      kept = q.kept ∙ p.kept;
      room_kept = q.room_kept ∙ p.room_kept;
      told = λ t. q.told (p.told t);
      untold = λ t. q.untold (p.untold t);
      stays = λ t s. q.stays (p.told t) (p.stays t s);
      never = never_then x.written y.written (IsTrue x.sound) (IsTrue y.sound) x.room y.room n head F h p.stays p.room_kept q.never;
    }
