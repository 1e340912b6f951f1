-- Each list of events has one log.
use Rattle.std.proofs.Common.{◌≡◌, ◌⊎◌, inl, inr, ℕ, zero, suc, ◌≤◌, List, [], ◌∷◌, ◌++◌, length, append-nil, length-append, slice_get, Option, Some, None, Bool, true, false, true≢false, refl, ap, ap₂, sym, ◌∙◌, subst, arith}
use Rattle.tl_numbers.specs.Bytes.{AreBytes}
use Rattle.tl_schema.specs.Schemas.{Declared}
use Rattle.tl_schema.specs.CheckedPrograms.{IsSchema}
use Rattle.tl_types.specs.Values.{ValueView, depth}
use Rattle.tl_types.specs.Spelling.{Spells}
use Rattle.tl_types.specs.Exactly.{BeginsWith, ExactlyOne}
use Rattle.tl_types.specs.declared.value.TheConstants.{MAX_LEVELS}
use Rattle.tl_types.proofs.Exactly.{exactly_one}
use Rattle.tl_calls.specs.Results.{result_type, HasResult}
use Rattle.tl_calls.specs.Events.{Event, sent, came, Logged, Log, sent_in, call_in, is_given, IsOpen, IsAnswer, Gives, Given}
use Rattle.tl_calls.specs.Laws.{AnsweredInFormed, EachHasOneLog, IsLogOf, IsProper, AreProper, events_of}

some_is : {X : Type 0} (x y : X) → Some x ≡ Some y → x ≡ y
some_is x y same = cc

none_some : {X : Type 0} (x : X) → None ≡ Some x → ⊥
none_some x same = cc

get_snoc : {X : Type 0} (xs : List X) (x : X) (k : ℕ) (y : X) → slice_get (xs ++ x ∷ []) k ≡ Some y → (slice_get xs k ≡ Some y) ⊎ (x ≡ y)
get_snoc [] x zero y e = inr (some_is x y e)
get_snoc [] x (suc k) y e = absurd (none_some y e)
get_snoc (z ∷ xs) x zero y e = inl e
get_snoc (z ∷ xs) x (suc k) y e = get_snoc xs x k y e

module _ (schema : Declared) where
  -- each call that was sent is answered in its result
  sent_proper : (past : Log) → AreProper schema (events_of past) → (k : ℕ) (c : ValueView) → slice_get (sent_in past) k ≡ Some c → HasResult schema c
  sent_proper [] p k c at = absurd (none_some c at)
  sent_proper ((sent v, given) ∷ past) p k c at = elim (get_snoc (sent_in past) v k c at) [
    | inl before ↦ sent_proper past p.1 k c before
    | inr same ↦ subst (HasResult schema) same p.0
  ]
  sent_proper ((came n b, given) ∷ past) p k c at = sent_proper past p.1 k c at

  pub call_proper : (past : Log) → AreProper schema (events_of past) → (n : ℕ) (c : ValueView) → call_in past n ≡ Some c → HasResult schema c
  call_proper past p zero c at = absurd (none_some c at)
  call_proper past p (suc k) c at = sent_proper past p k c at

  module _ (answered : AnsweredInFormed) (good : IsSchema schema) where
    exactly : (c : ValueView) (b : List ℕ) → HasResult schema c → AreBytes b → ExactlyOne schema MAX_LEVELS (result_type schema.decls c) b
    exactly c b has bytes = exactly_one schema good MAX_LEVELS (result_type schema.decls c) b (answered schema good c has) bytes

    begins : (c : ValueView) (b : List ℕ) (v : ValueView) → IsAnswer schema c b v → BeginsWith schema MAX_LEVELS (result_type schema.decls c) b v b
    begins c b v a = ([], sym (append-nil b), a.0, a.1)

    same_given : (past : Log) → AreProper schema (events_of past) → (e : Event) → IsProper schema e → (g h : Option ValueView) → Gives schema past e g → Gives schema past e h → g ≡ h
    same_given past p (sent v) q g h x y = x ∙ sym y
    same_given past p (came n b) q (Some v) (Some w) x y =
        let same : y.0 ≡ x.0 = some_is y.0 x.0 (sym y.1.sent ∙ x.1.sent) in
        ap Some ((exactly x.0 b (call_proper past p n x.0 x.1.sent) q).one_value v w b b (begins x.0 b v x.2) (begins x.0 b w (subst (λ (c : ValueView). IsAnswer schema c b w) same y.2))).0
    same_given past p (came n b) q (Some v) None x y = absurd (y x.0 v x.1 x.2)
    same_given past p (came n b) q None (Some w) x y = absurd (x y.0 w y.1 y.2)
    same_given past p (came n b) q None None x y = refl

    first_same : (e f : Event) (es fs : List Event) → e ∷ es ≡ f ∷ fs → e ≡ f
    first_same e f es fs is = cc

    rest_same : (e f : Event) (es fs : List Event) → e ∷ es ≡ f ∷ fs → es ≡ fs
    rest_same e f es fs is = cc

    no_first : (e : Event) (es : List Event) → [] ≡ e ∷ es → ⊥
    no_first e es is = cc

    only : (a b : Log) → events_of a ≡ events_of b → AreProper schema (events_of a) → Given schema a → Given schema b → a ≡ b
    only [] [] e p g h = refl
    only [] (y ∷ b) e p g h = absurd (no_first y.0 (events_of b) e)
    only (x ∷ a) [] e p g h = absurd (no_first x.0 (events_of a) (sym e))
    only ((ex, gx) ∷ a) ((ey, gy) ∷ b) e p g h =
        let first = first_same ex ey (events_of a) (events_of b) e in
        let rest = only a b (rest_same ex ey (events_of a) (events_of b) e) p.1 g.1 h.1 in
        let there = subst (λ (l : Log). Gives schema l ex gy) (sym rest) (subst (λ (f : Event). Gives schema b f gy) (sym first) h.0) in
        let given = same_given a p.1 ex p.0 gx gy g.0 there in
        ap₂ (λ (l : Logged) (ls : Log). l ∷ ls) (ap₂ (λ (f : Event) (o : Option ValueView). (f, o)) first given) rest

    longer : (x : List ℕ) (y : ℕ) (ys : List ℕ) → x ≡ x ++ y ∷ ys → ⊥
    longer x y ys is = let lengths = ap length is in omega (arith, lengths, length-append x (y ∷ ys))

    value_or_none : (past : Log) (n : ℕ) (b : List ℕ) (c v : ValueView) (x rest : List ℕ) → ExactlyOne schema MAX_LEVELS (result_type schema.decls c) b → IsOpen past n c → b ≡ x ++ rest → Spells schema (result_type schema.decls c) v x → depth v ≤ MAX_LEVELS
        → (g : Option ValueView) × Gives schema past (came n b) g
    value_or_none past n b c v x [] one here is spells deep = (Some v, (c, here, (subst (Spells schema (result_type schema.decls c) v) (sym (is ∙ append-nil x)) spells, deep)))
    value_or_none past n b c v x (y ∷ ys) one here is spells deep = (
      None,
      λ d w other a.
          let same : d ≡ c = some_is d c (sym other.sent ∙ here.sent) in
          let b_is = (one.one_value v w x b (y ∷ ys, is, spells, deep) (begins c b w (subst (λ (z : ValueView). IsAnswer schema z b w) same a))).1 in
          longer x y ys (b_is ∙ is),
    )

    gives_open : (past : Log) (n : ℕ) (b : List ℕ) (c : ValueView) → IsOpen past n c → ExactlyOne schema MAX_LEVELS (result_type schema.decls c) b → (g : Option ValueView) × Gives schema past (came n b) g
    gives_open past n b c here one = elim one.either [
      | inl (v, x, (rest, is, spells, deep)) ↦ value_or_none past n b c v x rest one here is spells deep
      | inr (at, cause, r) ↦ (
        None,
        λ d w other a.
            let same : d ≡ c = some_is d c (sym other.sent ∙ here.sent) in
            one.never_both w b at cause (begins c b w (subst (λ (z : ValueView). IsAnswer schema z b w) same a)) r,
      )
    ]

    gives : (past : Log) → AreProper schema (events_of past) → (e : Event) → IsProper schema e → (g : Option ValueView) × Gives schema past e g
    gives past p (sent v) q = (None, refl)
    gives past p (came n b) q = by (call_in past n) refl (is_given past n) refl
      where
        by : (o : Option ValueView) → call_in past n ≡ o → (t : Bool) → is_given past n ≡ t → (g : Option ValueView) × Gives schema past (came n b) g
        by None e t f = (None, λ c v here a. none_some c (sym e ∙ here.sent))
        by (Some c) e true f = (None, λ d v here a. true≢false (sym f ∙ here.left))
        by (Some c) e false f = gives_open past n b c (record { sent = e; left = f }) (exactly c b (call_proper past p n c e) q)

    one : (es : List Event) → AreProper schema es → (log : Log) × IsLogOf schema es log
    one [] p = ([], (refl, tt))
    one (e ∷ es) p =
        let rest = one es p.1 in
        let g = gives rest.0 (subst (AreProper schema) (sym rest.1.0) p.1) e p.0 in
        ((e, g.0) ∷ rest.0, (ap (λ (l : List Event). e ∷ l) rest.1.0, (g.1, rest.1.1)))

pub each_has_one_log : AnsweredInFormed → EachHasOneLog
each_has_one_log answered schema good es p = record {
  one = one schema answered good es p;
  only = λ a b x y. only schema answered good a b (x.0 ∙ sym y.0) (subst (AreProper schema) (sym x.0) p) x.1 y.1;
}
