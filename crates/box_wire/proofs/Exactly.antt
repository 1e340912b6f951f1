-- Bytes are one message of a kind, or are none for one cause; and what is answered of them.
use Rattle.std.proofs.Common.{◌≡◌, ℕ, ◌<◌, List, [], ◌++◌, length, append-nil, length-append, Option, Some, None, Result, Ok, Err, sym, ap, ◌∙◌, subst, refl, inl, inr, arith}
use Rattle.std.specs.Prelude.{IfOk, IfErr}
use Rattle.tl_numbers.specs.Bytes.{AreBytes}
use Rattle.tl_schema.specs.Formed.{IsFormed}
use Rattle.tl_schema.specs.Schemas.{Declared}
use Rattle.tl_schema.specs.Types.{Shape}
use Rattle.tl_types.specs.Seen.{view}
use Rattle.tl_types.specs.Values.{ValueView}
use Rattle.tl_types.specs.Refusal as refusal
use Rattle.tl_types.specs.Exactly.{BeginsWith, ExactlyOne}
use Rattle.tl_types.specs.Offsets.{moved}
use Rattle.tl_types.specs.declared.cause.Cause.{Cause}
use Rattle.tl_types.specs.declared.value.TheConstants.{MAX_LEVELS}
use Rattle.tl_types.specs.declared.value.Value.{Value}
use Rattle.tl_types.proofs.Exactly.{exactly_one}
use Rattle.tl_decode.specs.Wholes.{ReadsBytes}
use Rattle.tl_decode.specs.declared.whole.WholeCause.{WholeCause}
use Rattle.tl_decode.specs.declared.whole.WholeCause.TheVariants as whole
use Rattle.wire_forms.specs.IsOf.{IsOf}
use Rattle.wire_profile.specs.Indexes.{ProfileView, cell_shape}
use Rattle.wire_profile.specs.Profiles.{IsProfile}
use Rattle.wire_profile.specs.SpelledForms.{owned, IsServed, StandsAlone}
use Rattle.wire_profile.proofs.OwnValues.{own_of}
use Rattle.wire_profile.specs.declared.wire_fault.WireFault.{WireFault}
use Rattle.wire_profile.specs.declared.wire_fault.WireFault.TheVariants as wire
use Rattle.box_wire.specs.Kinds.{Kind}
use Rattle.box_wire.specs.Framing.{SpellsWhole, Means, WireRefused, no_value, goes_on, no_message}
use Rattle.box_wire.specs.Answers.{HasCause, Reads}
use Rattle.box_wire.specs.FramesRead.{IsUnread}
use Rattle.tl_base.specs.declared.fault.Fault.{Fault}
use Rattle.tl_base.specs.declared.fault.Fault.TheVariants as fault
use Rattle.box_wire.specs.inner.Wholes.{ReadsValue, AnswersMessage, as_wire_fault}

-- Messages of a kind, and their values.
pub record KindLaws {M : Type 0} (kind : Kind) (tree : M → ValueView) (inside : ValueView → M) (Is : M → Type 0) : Type 0 where
  pub alone : StandsAlone kind.cell
  pub served : (t : ValueView) → kind.cause t ≡ None → IsServed kind.cell t
  pub same : (t : ValueView) → IsOf kind.cell t → kind.cause t ≡ None → tree (inside t) ≡ kind.normal t
  pub back : (m : M) → Is m → inside (tree m) ≡ m
  pub read : (t : ValueView) → IsOf kind.cell t → kind.cause t ≡ None → Is (inside t)

none_some : {A : Type 0} (x : A) → None ≡ Some x → ⊥
none_some x e = cc

some_is : {A : Type 0} (x y : A) → Some x ≡ Some y → x ≡ y
some_is x y e = cc

ok_or_err : {M : Type 0} (x : M) (e : Fault WireFault) → ◌≡◌ {A = Result M (Fault WireFault)} (Ok x) (Err e) → ⊥
ok_or_err x e is = cc

err_is : {M : Type 0} (f e : Fault WireFault) → ◌≡◌ {A = Result M (Fault WireFault)} (Err f) (Err e) → f ≡ e
err_is f e is = cc

refused_as : (p q : ℕ) (c d : Cause) → p ≡ q → c ≡ d → wire.Refused (moved 0 p) c ≡ wire.Refused (moved 0 q) d
refused_as p q c d e f = cc

no_more : (bytes x rest : List ℕ) → bytes ≡ x → bytes ≡ x ++ rest → 0 < length rest → ⊥
no_more bytes x rest same is some = let e = ap length same in let f = ap length is ∙ length-append x rest in omega (arith, e, f, some)

-- a value that is read is spelled
pub value_spelled : (p : ProfileView) (kind : Kind) (bytes : List ℕ) (r : Result Value (Fault WireFault)) → ReadsValue p.schema (cell_shape p kind.cell) bytes r → IfOk r (λ value. SpellsWhole p kind (view value) bytes)
value_spelled p kind bytes (Ok value) spelled = spelled
value_spelled p kind bytes (Err e) none = tt

-- what isn't read is so for its bytes
unread_as : (e : Fault WireFault) (f : Fault WholeCause) → e ≡ as_wire_fault f → IsUnread e
unread_as e (fault.Refused (whole.Refused place cause)) is = subst IsUnread (sym is) tt
unread_as e (fault.Refused (whole.Trailing place)) is = subst IsUnread (sym is) tt
unread_as e fault.Memory is = subst IsUnread (sym is) tt

pub value_unread : (S : Declared) (T : Shape) (bytes : List ℕ) (r : Result Value (Fault WireFault)) → ReadsValue S T bytes r → IfErr r IsUnread
value_unread S T bytes (Ok value) spelled = tt
value_unread S T bytes (Err e) none = unread_as e none.0 none.2

module _ (p : ProfileView) (good : IsProfile p) (kind : Kind) (formed : IsFormed p.schema (cell_shape p kind.cell)) (bytes : List ℕ) (are : AreBytes bytes) where
  one : ExactlyOne p.schema MAX_LEVELS (cell_shape p kind.cell) bytes
  one = exactly_one p.schema good.schema MAX_LEVELS (cell_shape p kind.cell) bytes formed are

  begins_whole : (v : ValueView) → SpellsWhole p kind v bytes → BeginsWith p.schema MAX_LEVELS (cell_shape p kind.cell) bytes v bytes
  begins_whole v s = ([], sym (append-nil bytes), s.0, s.1)

  begins_first : (v : ValueView) (x rest : List ℕ) → SpellsWhole p kind v x → bytes ≡ x ++ rest → BeginsWith p.schema MAX_LEVELS (cell_shape p kind.cell) bytes v x
  begins_first v x rest s is = (rest, is, s.0, s.1)

  same_whole : (v w : ValueView) → SpellsWhole p kind v bytes → SpellsWhole p kind w bytes → v ≡ w
  same_whole v w s r = (one.one_value v w bytes bytes (begins_whole v s) (begins_whole w r)).0

  not_on : (v w : ValueView) (x rest : List ℕ) → SpellsWhole p kind v bytes → SpellsWhole p kind w x → bytes ≡ x ++ rest → 0 < length rest → ⊥
  not_on v w x rest s r is some = no_more bytes x rest (one.one_value v w bytes x (begins_whole v s) (begins_first w x rest r is)).1 is some

  whole_or_refused : (v : ValueView) (offset : ℕ) (cause : Cause) → SpellsWhole p kind v bytes → refusal.Refused p.schema MAX_LEVELS (cell_shape p kind.cell) bytes offset cause → ⊥
  whole_or_refused v offset cause s r = one.never_both v bytes offset cause (begins_whole v s) r

  first_or_refused : (v : ValueView) (x rest : List ℕ) (offset : ℕ) (cause : Cause) → SpellsWhole p kind v x → bytes ≡ x ++ rest → refusal.Refused p.schema MAX_LEVELS (cell_shape p kind.cell) bytes offset cause → ⊥
  first_or_refused v x rest offset cause s is r = one.never_both v x offset cause (begins_first v x rest s is) r

  cause_as : (v w : ValueView) (a b : Option WireFault) → SpellsWhole p kind v bytes → SpellsWhole p kind w bytes → kind.cause (owned p v) ≡ a → kind.cause (owned p w) ≡ b → a ≡ b
  cause_as v w a b s r d e = sym d ∙ ap (λ (u : ValueView). kind.cause (owned p u)) (same_whole v w s r) ∙ e

  -- what means a message isn't refused
  pub never_both : (t : ValueView) → Means p kind t bytes → (e : WireFault) → WireRefused p kind bytes e → ⊥
  never_both t m e (no_value offset cause r is) = whole_or_refused m.v offset cause m.spelled r
  never_both t m e (goes_on w x rest s is some at) = not_on m.v w x rest m.spelled s is some
  never_both t m e (no_message w s c) = none_some e (cause_as m.v w None (Some e) m.spelled s m.clear c)

  -- what is refused is so for one cause
  pub one_fault : (e f : WireFault) → WireRefused p kind bytes e → WireRefused p kind bytes f → e ≡ f
  one_fault e f (no_value i a r is) (no_value j b s at) = let same = one.one_fault i j a b r s in is ∙ refused_as i j a b same.0 same.1 ∙ sym at
  one_fault e f (no_value i a r is) (goes_on w x rest s on some at) = absurd (first_or_refused w x rest i a s on r)
  one_fault e f (no_value i a r is) (no_message w s c) = absurd (whole_or_refused w i a s r)
  one_fault e f (goes_on w x rest s on some at) (no_value i a r is) = absurd (first_or_refused w x rest i a s on r)
  one_fault e f (goes_on w x rest s on some at) (goes_on u y more r off any is) =
      at ∙ ap (λ (z : List ℕ). wire.Trailing (moved 0 (length z))) (one.one_value w u x y (begins_first w x rest s on) (begins_first u y more r off)).1 ∙ sym is
  one_fault e f (goes_on w x rest s on some at) (no_message v r c) = absurd (not_on v w x rest r s on some)
  one_fault e f (no_message w s c) (no_value i a r is) = absurd (whole_or_refused w i a s r)
  one_fault e f (no_message v r c) (goes_on w x rest s on some at) = absurd (not_on v w x rest r s on some)
  one_fault e f (no_message w s c) (no_message v r d) = some_is e f (cause_as w v (Some e) (Some f) s r c d)

  told_of : (e : Fault WireFault) (f : Fault WholeCause) → ReadsBytes p.schema (cell_shape p kind.cell) bytes (Err f) → e ≡ as_wire_fault f → HasCause (WireRefused p kind bytes) e
  told_of e (fault.Refused (whole.Refused place cause)) (offset, r, at) is = subst (HasCause (WireRefused p kind bytes)) (sym is) (no_value offset cause r (ap (λ (n : ℕ). wire.Refused n cause) at))
  told_of e (fault.Refused (whole.Trailing place)) (v, x, rest, split, some, spells, deep, at) is = subst (HasCause (WireRefused p kind bytes)) (sym is) (goes_on v x rest (spells, deep) split some (ap (λ (n : ℕ). wire.Trailing n) at))
  told_of e fault.Memory r is = subst (HasCause (WireRefused p kind bytes)) (sym is) tt

  module _ {M : Type 0} (tree : M → ValueView) (inside : ValueView → M) (Is : M → Type 0) (laws : KindLaws kind tree inside Is) where
    -- what is answered, of the bytes
    abbrev Given : Result M (Fault WireFault) → Type 0
    Given r = IfOk r (λ m. Is m × Means p kind (tree m) bytes)

    abbrev Told : Result M (Fault WireFault) → Type 0
    Told r = IfErr r (HasCause (WireRefused p kind bytes))

    abbrev ReadsThem : Result M (Fault WireFault) → Type 0
    ReadsThem r = Reads Is (λ m. Means p kind (tree m) bytes) (WireRefused p kind bytes) r

    -- bytes mean one message
    pub one_message : (m n : M) → Is m → Is n → Means p kind (tree m) bytes → Means p kind (tree n) bytes → m ≡ n
    one_message m n a b s r =
        sym (laws.back m a) ∙ ap inside (sym s.same ∙ ap (λ (u : ValueView). kind.normal (owned p u)) (same_whole s.v r.v s.spelled r.spelled) ∙ r.same) ∙ laws.back n b

    reads_by : (r : Result M (Fault WireFault)) → Given r → Told r → ReadsThem r
    reads_by (Ok x) given told = record {
      given = given;
      told = tt;
      meant = λ m is means. inl (ap Ok (one_message x m given.0 is given.1 means));
      refused = λ e s. absurd (never_both (tree x) given.1 e s);
    }
    reads_by (Err (fault.Refused e)) given told = record {
      given = tt;
      told = told;
      meant = λ m is means. absurd (never_both (tree m) means e told);
      refused = λ f s. inl (ap (λ (x : WireFault). Err (fault.Refused x)) (one_fault e f told s));
    }
    reads_by (Err fault.Memory) given told = record { given = tt; told = tt; meant = λ m is means. inr refl; refused = λ f s. inr refl }

    pub reads_none : (e : Fault WireFault) → ReadsValue p.schema (cell_shape p kind.cell) bytes (Err e) → ReadsThem (Err e)
    reads_none e none = reads_by (Err e) tt (told_of e none.0 none.1 none.2)

    pub none_read : (r : Result Value (Fault WireFault)) → ReadsValue p.schema (cell_shape p kind.cell) bytes r → IfErr r (λ e. ReadsThem (Err e))
    none_read (Ok value) spelled = tt
    none_read (Err e) none = reads_none e none

    answered : (v : ValueView) → SpellsWhole p kind v bytes → (o : Option WireFault) → kind.cause (owned p v) ≡ o → (r : Result M (Fault WireFault)) → AnswersMessage o (inside (owned p v)) r → Given r × Told r
    answered v s (Some e) c (Ok x) is = absurd (ok_or_err x (fault.Refused e) is)
    answered v s (Some e) c (Err f) is = (tt, subst (HasCause (WireRefused p kind bytes)) (sym (err_is f (fault.Refused e) is)) (no_message v s c))
    answered v s None c (Ok x) is =
        let t_is = own_of p good v kind.cell bytes laws.alone s.0 (laws.served (owned p v) c) in
        ((subst Is (sym is) (laws.read (owned p v) t_is c), record { v = v; spelled = s; clear = c; same = sym (laws.same (owned p v) t_is c) ∙ ap tree (sym is) }), tt)
    answered v s None c (Err f) is = (tt, subst (HasCause (WireRefused p kind bytes)) (sym is) tt)

    pub reads_value : (v : ValueView) → SpellsWhole p kind v bytes → (t : ValueView) → t ≡ owned p v → (r : Result M (Fault WireFault)) → AnswersMessage (kind.cause t) (inside t) r → ReadsThem r
    reads_value v s t is r answers =
        let here : AnswersMessage (kind.cause (owned p v)) (inside (owned p v)) r = subst (λ (u : ValueView). AnswersMessage (kind.cause u) (inside u) r) is answers in
        let both = answered v s (kind.cause (owned p v)) refl r here in
        reads_by r both.0 both.1
