-- A line of which pieces are written while it is made. This project's own.
use Rattle.std.specs.Prelude.{◌≡◌, ℕ, List, [], ◌++◌, Bool, true, false, Some}
use Rattle.std.proofs.Common.{refl, sym, ap, ◌∙◌, subst, append-nil, append_assoc}
use Rattle.tl_base.specs.declared.host.Out.TheVariants.{Output}
use Rattle.outside.specs.Begun.{Did}
use Rattle.outside.specs.Events.{HostState}
use Rattle.outside.specs.Pieces.{Writes}
use Rattle.outside.proofs.Printed.{wrote_nothing}
use Rattle.codec_rooms.specs.inner.Written.{writes_both, writes_fail, writes_longer}

-- what happened, what waits to be written, whether a write failed, and the reference to the host
pub record Waiting : Type 0 where
  pub host : HostState
  pub piece : List ℕ
  pub failed : Bool
  pub reference : ℕ

abbrev pub waiting : HostState → List ℕ → Bool → ℕ → Waiting
waiting host piece failed reference = record { host = host; piece = piece; failed = failed; reference = reference }

-- These bytes came after what waited: they were written, or wait. Where a write failed, a prefix of them was written; after that nothing is.
abbrev pub Moves : Bool → Bool → HostState → HostState → List ℕ → List ℕ → List ℕ → Type 0
Moves true true p q a b bytes = q ≡ p
Moves true false p q a b bytes = ⊥
Moves false true p q a b bytes = Did (Writes Output (a ++ bytes)) p q (Some false)
Moves false false p q a b bytes = (written : List ℕ) × Did (Writes Output written) p q (Some true) × (a ++ bytes ≡ written ++ b)

abbrev pub Puts : Waiting → Waiting → List ℕ → Type 0
Puts x y bytes = (y.reference ≡ x.reference) × Moves x.failed y.failed x.host y.host x.piece y.piece bytes

-- what waited is written, and whether that was done is told; after a write that failed nothing is
abbrev pub Ends : Bool → List ℕ → HostState → HostState → Bool → Type 0
Ends true piece p q whole = (whole ≡ false) × (q ≡ p)
Ends false piece p q whole = Did (Writes Output piece) p q (Some whole)

moves_none : (f : Bool) (p : HostState) (a : List ℕ) → Moves f f p p a a []
moves_none true p a = refl
moves_none false p a = ([], wrote_nothing Output p, append-nil a)

moves_both : (f g h : Bool) (p q r : HostState) (a b c x y : List ℕ) → Moves f g p q a b x → Moves g h q r b c y → Moves f h p r a c (x ++ y)
moves_both true true true p q r a b c x y first next = next ∙ first
moves_both true true false p q r a b c x y first next = absurd next
moves_both true false h p q r a b c x y first next = absurd first
moves_both false true true p q r a b c x y first next =
    subst (λ (l : List ℕ). Did (Writes Output l) p r (Some false)) (append_assoc a x y)
    (writes_longer Output (a ++ x) y p r (subst (λ (s : HostState). Did (Writes Output (a ++ x)) p s (Some false)) (sym next) first))
moves_both false true false p q r a b c x y first next = absurd next
moves_both false false true p q r a b c x y first next =
    let whole = sym (append_assoc first.0 b y) ∙ ap (λ l. l ++ y) (sym first.2) ∙ append_assoc a x y in
    subst (λ (l : List ℕ). Did (Writes Output l) p r (Some false)) whole (writes_fail Output first.0 (b ++ y) p q r first.1 next)
moves_both false false false p q r a b c x y first next =
    let whole = sym (append_assoc a x y) ∙ ap (λ l. l ++ y) first.2 ∙ append_assoc first.0 b y ∙ ap (λ l. first.0 ++ l) next.2 ∙ sym (append_assoc first.0 next.0 c) in
    (first.0 ++ next.0, writes_both Output first.0 next.0 p q r first.1 next.1, whole)

pub puts_none : (x : Waiting) → Puts x x []
puts_none x = (refl, moves_none x.failed x.host x.piece)

pub puts_both : (x y z : Waiting) (a b : List ℕ) → Puts x y a → Puts y z b → Puts x z (a ++ b)
puts_both x y z a b first next = (next.0 ∙ first.0, moves_both x.failed y.failed z.failed x.host y.host z.host x.piece y.piece z.piece a b first.1 next.1)
