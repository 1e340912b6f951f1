-- Steps of an exchange over a link that may tell its bytes or not.
use Rattle.std.proofs.Common.{◌≡◌, Bool, ℕ, ◌+◌, ◌<◌, ◌≤◌, List, [], ◌∷◌, ◌++◌, length, Option, Some, None, Result, Ok, Err, refl, sym, ap, ◌∙◌, subst, length-append, arith}
use Rattle.std.specs.Prelude.{IsSome, IsTrue, IfSome}
use Rattle.std.specs.Io.KnownBytes.{Appends}
use Rattle.std.proofs.KnownBytes.{Appends-nil, Appends-trans}
use Rattle.tl_base.specs.Using.{SourceState, SinkState, Used, Wrote}
use Rattle.tl_base.specs.Writing.{AppendsPrefix}
use Rattle.wire_profile.specs.declared.wire_fault.WireFault.{WireFault}
use Rattle.update_sessions.specs.Links.{OverLink, UsesLink, LinkNeverFails}
use Rattle.update_sessions.specs.Packed.{Packed}
use Rattle.update_sessions.specs.Exchanges.{Side, Exchanged, MaySendFor}
use Rattle.update_sessions.specs.Receiving.{Receives}
use Rattle.update_sessions.specs.inner.Steps.{SoFar, SoMany, BreaksOff}
use Rattle.update_sessions.proofs.Packets.{partly_of, partly_none}
use Rattle.update_sessions.proofs.LinkUses.{IsOne}
use Rattle.update_sessions.proofs.Exchanging.{exchanged_then, exchanged_none, exchanged_one, cut_one, may_send_more}

pub same_some : (x y : List ℕ) → Some x ≡ Some y → x ≡ y
same_some x y e = cc

pub no_some : (x : List ℕ) → None ≡ Some x → ⊥
no_some x e = cc

some_of : (o : Option (List ℕ)) (x : List ℕ) → o ≡ Some x → IsSome o
some_of o x e = subst (λ (p : Option (List ℕ)). IsSome p) (sym e) refl

-- what was written is told after an append to what is told
record Appended (before : List ℕ) (now : Option (List ℕ)) (out : List ℕ) : Type 0 where
  after : List ℕ
  told : now ≡ Some after
  is : after ≡ before ++ out

appended : (before : List ℕ) (now : Option (List ℕ)) (out : List ℕ) → Appends (Some before) now out → Appended before now out
appended before None out h = absurd h
appended before (Some after) out h = record { after = after; told = refl; is = h }

-- nothing was written
pub over_same : (left before after : Option (List ℕ)) (P : List ℕ → List ℕ → Type 0) → before ≡ after → IfSome left (λ bytes. P bytes []) → OverLink left before after P
over_same None before after P e h = tt
over_same (Some bytes) None after P e h = tt
over_same (Some bytes) (Some written) after P e h = ([], subst (λ (o : Option (List ℕ)). Appends (Some written) o []) e (Appends-nil (Some written)), h)

-- what follows of what was written
pub over_as : (left before after : Option (List ℕ)) (P Q : List ℕ → List ℕ → Type 0) → ((bytes out : List ℕ) → P bytes out → Q bytes out) → OverLink left before after P → OverLink left before after Q
over_as None before after P Q f h = tt
over_as (Some bytes) None after P Q f h = tt
over_as (Some bytes) (Some written) after P Q f (out, wrote, h) = (out, wrote, f bytes out h)

-- a call that only reads doesn't fail over a sound link
pub reads_never : (a b : SourceState) (x : SinkState) (Q : List ℕ → List ℕ → Type 0) (F : Type 0) → Used a b F → LinkNeverFails a x Q F
reads_never a b x Q F used bytes before from to sound room failed = used.never (some_of a.left bytes from) sound failed

-- neither does one that fails where another does that doesn't
pub never_as : (a : SourceState) (x : SinkState) (Q : List ℕ → List ℕ → Type 0) (F G : Type 0) → LinkNeverFails a x Q F → (G → F) → LinkNeverFails a x Q G
never_as a x Q F G never f bytes before from to sound room failed = never bytes before from to sound room (f failed)

-- where the fault of one call is handed on by another, both are that fault
pub failed_as : {A B E : Type 0} (r : Result A E) (q : Result B E) (x y z : E) → r ≡ Err x → x ≡ y → q ≡ Err y → r ≡ Err z → q ≡ Err z
failed_as r q x y z a b c e = cc

module _ {S M N : Type 0} (side : Side S M N) where
  -- ---- many steps

  pub so_far_none : (s : S) (left written : Option (List ℕ)) → SoFar side s [] left written left written s
  so_far_none s None written = tt
  so_far_none s (Some bytes) None = tt
  so_far_none s (Some bytes) (Some before) = (bytes, [], Appends-nil (Some before), refl, exchanged_none side s bytes)

  pub so_far_then : (s u t : S) (ms ns : List M) (l0 w0 l1 w1 l2 w2 : Option (List ℕ)) → SoFar side s ms l0 w0 l1 w1 u → SoFar side u ns l1 w1 l2 w2 t → SoFar side s (ms ++ ns) l0 w0 l2 w2 t
  so_far_then s u t ms ns None w0 l1 w1 l2 w2 p q = tt
  so_far_then s u t ms ns (Some bytes) None l1 w1 l2 w2 p q = tt
  so_far_then s u t ms ns (Some bytes) (Some before) None w1 l2 w2 (left, x, wrote, is, ex) q = absurd (no_some left is)
  so_far_then s u t ms ns (Some bytes) (Some before) (Some mid) None l2 w2 (left, x, wrote, is, ex) q = absurd wrote
  so_far_then s u t ms ns (Some bytes) (Some before) (Some mid) (Some now) l2 w2 (left, x, wrote, is, ex) (rest, y, more, told, then_ex) = (
    rest,
    x ++ y,
    Appends-trans (Some before) (Some now) w2 x y wrote more,
    told,
    exchanged_then side s u t bytes left rest x y ms ns ex (subst (λ (l : List ℕ). Exchanged side u l rest y t ns) (same_some mid left is) then_ex),
  )

  -- so many messages
  pub many_none : (s : S) (left written : Option (List ℕ)) → SoMany side s 0 left written left written s
  many_none s left written = ([], refl, so_far_none s left written)

  pub many_then : (s u t : S) (n m k : ℕ) (l0 w0 l1 w1 l2 w2 : Option (List ℕ)) → SoMany side s n l0 w0 l1 w1 u → SoMany side u m l1 w1 l2 w2 t → k ≡ n + m → SoMany side s k l0 w0 l2 w2 t
  many_then s u t n m k l0 w0 l1 w1 l2 w2 p q e = (p.0 ++ q.0, omega (arith, length-append p.0 q.0, p.1, q.1, e), so_far_then s u t p.0 q.0 l0 w0 l1 w1 l2 w2 p.2 q.2)

  -- the last step ends them
  pub over_then : (s u : S) (ms : List M) (l0 w0 l1 w1 w2 : Option (List ℕ)) (P Q : List ℕ → List ℕ → Type 0) → SoFar side s ms l0 w0 l1 w1 u → OverLink l1 w1 w2 P
      → ((bytes mid x y : List ℕ) → Exchanged side s bytes mid x u ms → P mid y → Q bytes (x ++ y)) → OverLink l0 w0 w2 Q
  over_then s u ms None w0 l1 w1 w2 P Q p q f = tt
  over_then s u ms (Some bytes) None l1 w1 w2 P Q p q f = tt
  over_then s u ms (Some bytes) (Some before) None w1 w2 P Q (left, x, wrote, is, ex) q f = absurd (no_some left is)
  over_then s u ms (Some bytes) (Some before) (Some mid) None w2 P Q (left, x, wrote, is, ex) q f = absurd wrote
  over_then s u ms (Some bytes) (Some before) (Some mid) (Some now) w2 P Q (left, x, wrote, is, ex) (y, more, h) f =
      (x ++ y, Appends-trans (Some before) (Some now) w2 x y wrote more, f bytes left x y ex (subst (λ (l : List ℕ). P l y) (same_some mid left is) h))

  -- they end by themselves
  pub over_now : (s u : S) (ms : List M) (l0 w0 l1 w1 : Option (List ℕ)) (Q : List ℕ → List ℕ → Type 0) → SoFar side s ms l0 w0 l1 w1 u
      → ((bytes mid x : List ℕ) → Exchanged side s bytes mid x u ms → Q bytes x) → OverLink l0 w0 w1 Q
  over_now s u ms None w0 l1 w1 Q p f = tt
  over_now s u ms (Some bytes) None l1 w1 Q p f = tt
  over_now s u ms (Some bytes) (Some before) l1 w1 Q (left, x, wrote, is, ex) f = (x, wrote, f bytes left x ex)

  -- so many messages, and one step after them
  pub never_then : (most : ℕ) (s u : S) (n : ℕ) (a b : SourceState) (x y : SinkState) (P F : Type 0) → n < most → SoMany side s n a.left x.written b.left y.written u → UsesLink a b x y P → LinkNeverFails b y (MaySendFor side 1 u) F
      → LinkNeverFails a x (MaySendFor side most s) F
  never_then most s u n a b x y P F few so uses never bytes before from to sound room failed =
      let here : SoFar side s so.0 (Some bytes) (Some before) b.left y.written u =
      subst (λ (o : Option (List ℕ)). SoFar side s so.0 (Some bytes) o b.left y.written u) to (subst (λ (o : Option (List ℕ)). SoFar side s so.0 o x.written b.left y.written u) from so.2) in
      let now : Appended before y.written here.1 = appended before y.written here.1 here.2 in
      never here.0 now.after here.3 now.told (uses.stays (some_of a.left bytes from) (some_of x.written before to) sound)
      (λ more may. omega (arith, room (here.1 ++ more) (may_send_more side most n 1 s u bytes here.0 here.1 more so.0 so.1 (omega (arith, few)) here.4 may), uses.room_kept, ap length now.is, length-append before here.1, length-append here.1 more))
      failed

  -- ---- one step: a message came, and what is sent for it is written at once

  module _ (Refused : List ℕ → WireFault → Type 0) (s t : S) (m : M) (out : List ℕ) (takes : side.takes s m) where
    pub step_done : (l0 w0 l1 w1 l2 w2 : Option (List ℕ)) → IfSome l0 (λ bytes. Receives side.means Refused bytes l1 (Ok (Some m))) → w0 ≡ w1 → Packed side.spells (side.sends s m) out → t ≡ side.next s m → l1 ≡ l2 → Appends w1 w2 out
        → SoFar side s (m ∷ []) l0 w0 l2 w2 t
    step_done None w0 l1 w1 l2 w2 r w packed is l wrote = tt
    step_done (Some bytes) None l1 w1 l2 w2 r w packed is l wrote = tt
    step_done (Some bytes) (Some before) l1 w1 l2 w2 r w packed is l wrote =
        (r.0, out, subst (λ (o : Option (List ℕ)). Appends o w2 out) (sym w) wrote, sym l ∙ r.2, exchanged_one side s t bytes r.0 out m r.1 takes packed is)

    -- a fault while that is written
    pub step_cut : (l0 w0 l1 w1 w2 : Option (List ℕ)) → IfSome l0 (λ bytes. Receives side.means Refused bytes l1 (Ok (Some m))) → w0 ≡ w1 → Packed side.spells (side.sends s m) out → t ≡ side.next s m → AppendsPrefix w1 w2 out
        → OverLink l0 w0 w2 (λ bytes y. BreaksOff side s bytes y t (m ∷ []))
    step_cut None w0 l1 w1 w2 r w packed is wrote = tt
    step_cut (Some bytes) None l1 w1 w2 r w packed is wrote = tt
    step_cut (Some bytes) (Some before) l1 w1 w2 r w packed is (prefix, rest, whole, wrote) = (
      prefix,
      subst (λ (o : Option (List ℕ)). Appends o w2 prefix) (sym w) wrote,
      (omega arith, cut_one side s t bytes r.0 prefix m r.1 takes (partly_of side.spells (side.sends s m) out prefix rest packed whole) is),
    )

    -- a fault before anything is written
    pub step_kept : (l0 w0 l1 w1 : Option (List ℕ)) → IfSome l0 (λ bytes. Receives side.means Refused bytes l1 (Ok (Some m))) → w0 ≡ w1 → t ≡ side.next s m → OverLink l0 w0 w1 (λ bytes y. BreaksOff side s bytes y t (m ∷ []))
    step_kept None w0 l1 w1 r w is = tt
    step_kept (Some bytes) None l1 w1 r w is = tt
    step_kept (Some bytes) (Some before) l1 w1 r w is = (
      [],
      subst (λ (o : Option (List ℕ)). Appends (Some before) o []) w (Appends-nil (Some before)),
      (omega arith, cut_one side s t bytes r.0 [] m r.1 takes (partly_none side.spells (side.sends s m)) is),
    )

    pub step_never : (a b : SourceState) (x y z : SinkState) (P F : Type 0) → IfSome a.left (λ bytes. Receives side.means Refused bytes b.left (Ok (Some m))) → UsesLink a b x y P → x.written ≡ y.written → Packed side.spells (side.sends s m) out → t ≡ side.next s m
        → IsOne b y → Wrote y z (length out) F → LinkNeverFails a x (MaySendFor side 1 s) F
    step_never a b x y z P F r uses written packed is one wrote bytes before from to sound room failed =
        let came : Receives side.means Refused bytes b.left (Ok (Some m)) = subst (λ (o : Option (List ℕ)). IfSome o (λ bytes. Receives side.means Refused bytes b.left (Ok (Some m)))) from r in
        let told : y.written ≡ Some before = sym written ∙ to in
        let never : IfSome (Some before) (λ before. IsTrue y.sound → length before + length out ≤ y.room → F → ⊥) = subst (λ (o : Option (List ℕ)). IfSome o (λ before. IsTrue y.sound → length before + length out ≤ y.room → F → ⊥)) told wrote.never in
        never (subst (λ (v : Bool). IsTrue v) one.sound (uses.stays (some_of a.left bytes from) (some_of x.written before to) sound))
        (omega (arith, room out (m ∷ [], came.0, t, exchanged_one side s t bytes came.0 out m came.1 takes packed is, omega arith), uses.room_kept)) failed
