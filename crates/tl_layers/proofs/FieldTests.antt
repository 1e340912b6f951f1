-- The tests of fields say which fields break.
use Rattle.std.proofs.Common.{◌≡◌, ◌≢◌, ◌⊎◌, inl, inr, ◌↔◌, ℕ, suc, ◌≤◌, IsTrue, List, length, slice_get, Option, Some, None, Bool, true, false, not, ◌&&◌, ◌||◌, nat_lt, is_none, refl, ap, ap₂, sym, ◌∙◌, subst, true≢false, arith, lt-ltb, ltb-true}
use Rattle.std.specs.Option.{option_map}
use Rattle.std.proofs.lemmas.Option.{none-some, same_Some, slice_get_within}
use Rattle.tl_schema.specs.Types.{nat, Shape}
use Rattle.tl_schema.specs.Schemas.{Slot, Declared}
use Rattle.tl_plan.specs.Types.{is_same}
use Rattle.tl_plan.proofs.SameTypes.{same_is, same_self}
use Rattle.tl_layers.specs.Counterparts.{image}
use Rattle.tl_layers.specs.Breaks.{field_index, named_condition, LacksField, IsBefore, IsChanged, NamesBit, IsSpare, IsAdded}
use Rattle.tl_plan.proofs.SameTypes.{both, both_of}

-- ---- tests in general

either_of : (a b : Bool) → (a || b) ≡ true → (a ≡ true) ⊎ (b ≡ true)
either_of true b e = inl refl
either_of false b e = inr e

either : (a b : Bool) → (a ≡ true) ⊎ (b ≡ true) → (a || b) ≡ true
either true b h = refl
either false b (inl e) = absurd (true≢false (sym e))
either false b (inr e) = e

-- the test fails where it is negated
pub is_not : {P : Type 0} (b : Bool) → IsTrue b ↔ P → IsTrue (not b) ↔ (P → ⊥)
is_not true t = (λ h. absurd (true≢false (sym h)), λ n. absurd (n (t.0 refl)))
is_not false t = (λ h p. true≢false (sym (t.1 p)), λ n. refl)

pub is_false : {P : Type 0} → (P → ⊥) → IsTrue false ↔ P
is_false none = (λ h. absurd (true≢false (sym h)), λ p. absurd (none p))

pub as_well : {P Q : Type 0} (b : Bool) → (P → Q) → (Q → P) → IsTrue b ↔ P → IsTrue b ↔ Q
as_well b to from t = (λ h. to (t.0 h), λ q. t.1 (from q))

is_none_is : {X : Type 0} (o : Option X) → IsTrue (is_none o) ↔ (o ≡ None)
is_none_is None = (λ h. refl, λ e. refl)
is_none_is (Some x) = (λ h. absurd (true≢false (sym h)), λ e. absurd (none-some x (sym e)))

-- ---- old fields

module _ (fs gs : List Slot) (k : ℕ) (f : Slot) (at : slice_get fs k ≡ Some f) where
  pub lacks_is : (b : Bool) → b ≡ is_none (field_index gs f.name) → IsTrue b ↔ LacksField fs gs k
  lacks_is b is = (
    λ h. (f, at, (is_none_is (field_index gs f.name)).0 (sym is ∙ h)),
    λ l. is ∙ (is_none_is (field_index gs f.name)).1 (ap (λ (x : Slot). field_index gs x.name) (same_Some f l.0 (sym at ∙ l.1)) ∙ l.2),
  )

  -- one that stands before the field that it stood after
  module _ (p : ℕ) (e : Slot) (next : k ≡ suc p) (before : slice_get fs p ≡ Some e) where
    one_before : (h : IsBefore fs gs k) → (e ≡ h.1) × (f ≡ h.2)
    one_before h =
        let same : h.0 ≡ p = (let is = h.5 in omega (arith, is, next)) in
        (same_Some e h.1 (sym before ∙ ap (slice_get fs) (sym same) ∙ h.6), same_Some f h.2 (sym at ∙ h.7))

    pub before_is : (m n : ℕ) → field_index gs e.name ≡ Some m → field_index gs f.name ≡ Some n → (b : Bool) → b ≡ nat_lt n m → IsTrue b ↔ IsBefore fs gs k
    before_is m n at_m at_n b is = (
      λ h. (p, e, f, m, n, next, before, at, at_m, at_n, ltb-true n m (sym is ∙ h)),
      λ h.
          let o = one_before h in
          let same_m : m ≡ h.3 = same_Some m h.3 (sym at_m ∙ ap (λ (x : Slot). field_index gs x.name) o.0 ∙ h.8) in
          let same_n : n ≡ h.4 = same_Some n h.4 (sym at_n ∙ ap (λ (x : Slot). field_index gs x.name) o.1 ∙ h.9) in
          let less = h.10 in is ∙ lt-ltb n m (omega (arith, same_m, same_n, less)),
    )

    pub before_gone : field_index gs e.name ≡ None → IsBefore fs gs k → ⊥
    before_gone none h = none-some h.3 (sym none ∙ ap (λ (x : Slot). field_index gs x.name) (one_before h).0 ∙ h.8)

    pub here_gone : field_index gs f.name ≡ None → IsBefore fs gs k → ⊥
    here_gone none h = none-some h.4 (sym none ∙ ap (λ (x : Slot). field_index gs x.name) (one_before h).1 ∙ h.9)

  pub first_before : k ≡ 0 → IsBefore fs gs k → ⊥
  first_before first h = let is = h.5 in omega (arith, first, is)

  -- one that has changed
  module _ (old new : Declared) where
    pub changed_gone : field_index gs f.name ≡ None → IsChanged old new fs gs k → ⊥
    changed_gone none h = none-some h.1 (sym none ∙ ap (λ (x : Slot). field_index gs x.name) (same_Some f h.0 (sym at ∙ h.3)) ∙ h.4.0)

    module _ (m : ℕ) (g : Slot) (index : field_index gs f.name ≡ Some m) (there : slice_get gs m ≡ Some g) (a b : Bool) (types : a ≡ is_same g.of (image old new f.of)) (conds : IsTrue b ↔ (named_condition gs g.cond ≡ named_condition fs f.cond)) where
      to : (not a ≡ true) ⊎ (not b ≡ true) → (g.of ≢ image old new f.of) ⊎ (named_condition gs g.cond ≢ named_condition fs f.cond)
      to (inl h) = inl (λ e. both_ways a (types ∙ ap (λ (T : Shape). is_same g.of T) (sym e) ∙ same_self g.of) h)
        where
          both_ways : (a : Bool) → a ≡ true → not a ≡ true → ⊥
          both_ways true e h = true≢false (sym h)
          both_ways false e h = true≢false (sym e)
      to (inr h) = inr (λ e. (is_not b conds).0 h e)

      from : (g.of ≢ image old new f.of) ⊎ (named_condition gs g.cond ≢ named_condition fs f.cond) → (not a ≡ true) ⊎ (not b ≡ true)
      from (inl other) = inl (by a refl)
        where
          by : (c : Bool) → a ≡ c → not c ≡ true
          by true e = absurd (other (same_is g.of (image old new f.of) (sym types ∙ e)))
          by false e = refl
      from (inr other) = inr ((is_not b conds).1 other)

      pub changed_is : IsTrue (not a || not b) ↔ IsChanged old new fs gs k
      changed_is = (
        λ h. (f, m, g, at, (index, there), to (either_of (not a) (not b) h)),
        λ h.
            let same_f : f ≡ h.0 = same_Some f h.0 (sym at ∙ h.3) in
            let same_m : m ≡ h.1 = same_Some m h.1 (sym index ∙ ap (λ (x : Slot). field_index gs x.name) same_f ∙ h.4.0) in
            let same_g : g ≡ h.2 = same_Some g h.2 (sym there ∙ ap (slice_get gs) same_m ∙ h.4.1) in
            either (not a) (not b) (from (subst (λ (x : Slot). (g.of ≢ image old new x.of) ⊎ (named_condition gs g.cond ≢ named_condition fs x.cond)) (sym same_f)
            (subst (λ (y : Slot). (y.of ≢ image old new h.0.of) ⊎ (named_condition gs y.cond ≢ named_condition fs h.0.cond)) (sym same_g) h.5))),
      )

      -- by the type alone, and where this is the image by the condition
      pub changed_type : a ≡ false → IsTrue (not a) ↔ IsChanged old new fs gs k
      changed_type e = (λ h. (f, m, g, at, (index, there), to (inl h)), λ c. ap not e)

      pub changed_condition : a ≡ true → IsTrue (not b) ↔ IsChanged old new fs gs k
      changed_condition e = (
        λ h. (f, m, g, at, (index, there), to (inr h)),
        λ c. elim (either_of (not a) (not b) (changed_is.1 c)) [ inl h ↦ absurd (true≢false (sym h ∙ ap not e)) | inr h ↦ h ],
      )

-- ---- new fields

module _ (fs gs : List Slot) where
  module _ (m : ℕ) (g : Slot) (at : slice_get gs m ≡ Some g) where
    pub added_is : (a b : Bool) → a ≡ is_none (field_index fs g.name) → IsTrue b ↔ IsSpare fs gs g.cond → IsTrue (a && not b) ↔ IsAdded fs gs m
    added_is a b is spare = (
      λ h. (let two = both_of a (not b) h in (g, at, (is_none_is (field_index fs g.name)).0 (sym is ∙ two.0), (is_not b spare).0 two.1)),
      λ h.
          let same : g ≡ h.0 = same_Some g h.0 (sym at ∙ h.1) in
          both a (not b) (is ∙ (is_none_is (field_index fs g.name)).1 (ap (λ (x : Slot). field_index fs x.name) same ∙ h.2))
          ((is_not b spare).1 (λ s. h.3 (subst (λ (x : Slot). IsSpare fs gs x.cond) same s))),
    )

  -- spare bits

  pub no_condition : IsSpare fs gs None → ⊥
  no_condition s = none-some _ s.is

  module _ (m bit : ℕ) where
    same_at : (s : IsSpare fs gs (Some (m, bit))) → (s.at ≡ m) × (s.bit ≡ bit)
    same_at s = let e = same_Some _ _ s.is in (sym (ap (λ (p : ℕ × ℕ). p.0) e), sym (ap (λ (p : ℕ × ℕ). p.1) e))

    pub spare_past : length gs ≤ m → IsSpare fs gs (Some (m, bit)) → ⊥
    spare_past past s = let within = slice_get_within gs s.at s.h s.there in let e = (same_at s).0 in omega (arith, past, within, e)

    module _ (h : Slot) (there : slice_get gs m ≡ Some h) where
      same_h : (s : IsSpare fs gs (Some (m, bit))) → h ≡ s.h
      same_h s = same_Some h s.h (sym there ∙ ap (slice_get gs) (sym (same_at s).0) ∙ s.there)

      pub spare_gone : field_index fs h.name ≡ None → IsSpare fs gs (Some (m, bit)) → ⊥
      spare_gone none s = none-some s.k (sym none ∙ ap (λ (x : Slot). field_index fs x.name) (same_h s) ∙ s.here.0)

      module _ (k : ℕ) (f : Slot) (index : field_index fs h.name ≡ Some k) (here : slice_get fs k ≡ Some f) (a b : Bool) (number : a ≡ is_same f.of nat) (named : IsTrue b ↔ NamesBit fs k bit) where
        pub spare_is : IsTrue (a && not b) ↔ IsSpare fs gs (Some (m, bit))
        spare_is = (
          λ t.
              let two = both_of a (not b) t in
              record {
                at = m;
                bit = bit;
                h = h;
                k = k;
                f = f;
                is = refl;
                there = there;
                here = (index, here);
                number = same_is f.of nat (sym number ∙ two.0);
                spare = (is_not b named).0 two.1;
              },
          λ s.
              let same_k : k ≡ s.k = same_Some k s.k (sym index ∙ ap (λ (x : Slot). field_index fs x.name) (same_h s) ∙ s.here.0) in
              let same_f : f ≡ s.f = same_Some f s.f (sym here ∙ ap (slice_get fs) same_k ∙ s.here.1) in
              both a (not b) (number ∙ ap (λ (x : Slot). is_same x.of nat) same_f ∙ ap (λ (T : Shape). is_same T nat) s.number ∙ refl)
              ((is_not b named).1 (λ n. s.spare (subst (λ (j : ℕ). NamesBit fs j s.bit) same_k (subst (NamesBit fs k) (sym (same_at s).1) n)))),
        )

        pub spare_then : a ≡ true → IsTrue (not b) ↔ IsSpare fs gs (Some (m, bit))
        spare_then e = subst (λ (x : Bool). IsTrue (x && not b) ↔ IsSpare fs gs (Some (m, bit))) e spare_is

      pub spare_else : (k : ℕ) (f : Slot) → field_index fs h.name ≡ Some k → slice_get fs k ≡ Some f → is_same f.of nat ≡ false → IsSpare fs gs (Some (m, bit)) → ⊥
      spare_else k f index here other s =
          let same_k : k ≡ s.k = same_Some k s.k (sym index ∙ ap (λ (x : Slot). field_index fs x.name) (same_h s) ∙ s.here.0) in
          let same_f : f ≡ s.f = same_Some f s.f (sym here ∙ ap (slice_get fs) same_k ∙ s.here.1) in
          true≢false (sym (ap (λ (x : Slot). is_same x.of nat) same_f ∙ ap (λ (T : Shape). is_same T nat) s.number) ∙ other)

-- ---- conditions

module _ (fs gs : List Slot) where
  pub conditions_none : (b : Bool) (new : Option (ℕ × ℕ)) → b ≡ is_none new → IsTrue b ↔ (named_condition gs new ≡ named_condition fs None)
  conditions_none b None is = (λ h. refl, λ e. is)
  conditions_none b (Some c) is = (λ h. absurd (true≢false (sym (sym is ∙ h))), λ e. absurd (none-some _ (sym e)))

  pub condition_gone : (c : ℕ × ℕ) → named_condition gs None ≡ named_condition fs (Some c) → ⊥
  condition_gone c e = none-some _ e

  name_in : Option Slot → Option (List ℕ)
  name_in o = option_map (λ f. f.name) o

  pub conditions_are : (k bit m also : ℕ) (a b : Bool) → (IsTrue a ↔ (also ≡ bit)) → (IsTrue b ↔ (option_map (λ (f : Slot). f.name) (slice_get gs m) ≡ option_map (λ (f : Slot). f.name) (slice_get fs k)))
      → IsTrue (a && b) ↔ (named_condition gs (Some (m, also)) ≡ named_condition fs (Some (k, bit)))
  conditions_are k bit m also a b bits names = (
    λ h.
        let two = both_of a b h in
        ap₂ (λ (o : Option (List ℕ)) (n : ℕ). Some (o, n)) (names.0 two.1) (bits.0 two.0),
    λ e.
        let s = same_Some _ _ e in
        both a b (bits.1 (ap (λ (p : Option (List ℕ) × ℕ). p.1) s)) (names.1 (ap (λ (p : Option (List ℕ) × ℕ). p.0) s)),
  )

-- a test of what is decided
pub some_test : {P : Type 0} → P ⊎ (P → ⊥) → (b : Bool) × (IsTrue b ↔ P)
some_test (inl p) = (true, (λ _. p, λ _. refl))
some_test (inr none) = (false, is_false none)
