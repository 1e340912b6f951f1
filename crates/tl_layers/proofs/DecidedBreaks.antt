-- Breaks of fields are decided, so where no field is the first with one, none has one.
use Rattle.std.proofs.Common.{◌≡◌, ◌≢◌, ◌⊎◌, inl, inr, ℕ, zero, suc, ◌<◌, List, slice_get, Option, Some, None, refl, ap, sym, ◌∙◌, subst, true≢false, arith}
use Rattle.std.proofs.lemmas.Bool.{cases_Bool, cases_eq}
use Rattle.std.proofs.lemmas.Option.{none-some, same_Some}
use Rattle.tl_lexer.proofs.Whole.{Decided}
use Rattle.tl_combinators.proofs.Decided.{decided_as, decided_not, decided_and, decided_or, text_decided}
use Rattle.tl_graph.specs.Firsts.{First}
use Rattle.tl_schema.specs.Types.{Shape, nat}
use Rattle.tl_schema.specs.Schemas.{Slot, Declared}
use Rattle.tl_schema.proofs.Firsts as firsts
use Rattle.tl_schema.proofs.IndexesDecided.{less_decided, option_decided, some_decided}
use Rattle.tl_plan.specs.Types.{is_same}
use Rattle.tl_plan.proofs.SameTypes.{same_is, same_types}
use Rattle.tl_layers.specs.Counterparts.{image}
use Rattle.tl_layers.specs.Breaks.{field_index, named_condition, LacksField, IsBefore, IsChanged, NamesBit, IsSpare, IsAdded}

-- ---- equalities

pub shape_decided : (S T : Shape) → Decided (S ≡ T)
shape_decided S T = elim (cases_Bool (is_same S T)) [ inl e ↦ inl (same_is S T e) | inr e ↦ inr (λ same. true≢false (sym ((same_types S T).1 same) ∙ e)) ]

option_equal : {X : Type 0} (test : (x y : X) → Decided (x ≡ y)) (a b : Option X) → Decided (a ≡ b)
option_equal test None None = inl refl
option_equal test None (Some y) = inr (λ e. none-some y e)
option_equal test (Some x) None = inr (λ e. none-some x (sym e))
option_equal test (Some x) (Some y) = decided_as (λ e. ap Some e) (λ e. same_Some x y e) (test x y)

pair_equal : {X : Type 0} (test : (x y : X) → Decided (x ≡ y)) (p q : X × ℕ) → Decided (p ≡ q)
pair_equal test (x, m) (y, n) = decided_as (λ h. cc) (λ e. (ap (λ p. p.0) e, ap (λ p. p.1) e)) (decided_and (test x y) (cases_eq m n))

pub condition_equal : (a b : Option (ℕ × ℕ)) → Decided (a ≡ b)
condition_equal a b = option_equal (pair_equal cases_eq) a b

pub named_equal : (a b : Option (Option (List ℕ) × ℕ)) → Decided (a ≡ b)
named_equal a b = option_equal (pair_equal (option_equal text_decided)) a b

is_none : {X : Type 0} (o : Option X) → Decided (o ≡ None)
is_none None = inl refl
is_none (Some x) = inr (λ e. none-some x (sym e))

-- ---- breaks of fields

pub lacks_decided : (fs gs : List Slot) (k : ℕ) → Decided (LacksField fs gs k)
lacks_decided fs gs k = option_decided (slice_get fs k) (λ f. field_index gs f.name ≡ None) (λ f. is_none (field_index gs f.name))

pub before_decided : (fs gs : List Slot) (k : ℕ) → Decided (IsBefore fs gs k)
before_decided fs gs zero = inr (λ h. omega (arith, h.5))
before_decided fs gs (suc p) =
    decided_as (λ h. (p, h.0, h.2.0, h.2.2.0, h.2.2.2.0, refl, h.1, h.2.1, h.2.2.1, h.2.2.2.1, h.2.2.2.2))
    (λ h. (h.1, ap (slice_get fs) (let same : suc p ≡ suc h.0 = h.5 in omega (arith, same)) ∙ h.6, (h.2, h.7, (h.3, h.8, (h.4, h.9, h.10)))))
    (option_decided (slice_get fs p) _ (λ f. option_decided (slice_get fs (suc p)) _ (λ g. option_decided (field_index gs f.name) _ (λ m. option_decided (field_index gs g.name) (λ n. n < m) (λ n. less_decided n m)))))

pub changed_decided : (old new : Declared) (fs gs : List Slot) (k : ℕ) → Decided (IsChanged old new fs gs k)
changed_decided old new fs gs k =
    decided_as (λ h. (h.0, h.2.0, h.2.2.0, h.1, (h.2.1, h.2.2.1), h.2.2.2)) (λ h. (h.0, h.3, (h.1, h.4.0, (h.2, h.4.1, h.5))))
    (option_decided (slice_get fs k) _ (λ f. option_decided (field_index gs f.name) _ (λ m. option_decided (slice_get gs m) (λ g. (g.of ≢ image old new f.of) ⊎ (named_condition gs g.cond ≢ named_condition fs f.cond))
    (λ g. decided_or (decided_not (shape_decided g.of (image old new f.of))) (decided_not (named_equal (named_condition gs g.cond) (named_condition fs f.cond)))))))

pub names_bit_decided : (fs : List Slot) (k bit : ℕ) → Decided (NamesBit fs k bit)
names_bit_decided fs k bit = some_decided fs (λ i f. f.cond ≡ Some (k, bit)) (λ i f. condition_equal f.cond (Some (k, bit)))

pub spare_decided : (fs gs : List Slot) (cond : Option (ℕ × ℕ)) → Decided (IsSpare fs gs cond)
spare_decided fs gs None = inr (λ s. none-some _ s.is)
spare_decided fs gs (Some (at, bit)) =
    decided_as
    (λ h. record { at = at; bit = bit; h = h.0; k = h.2.0; f = h.2.2.0; is = refl; there = h.1; here = (h.2.1, h.2.2.1); number = h.2.2.2.0; spare = h.2.2.2.1 })
    (λ s. let same = same_Some _ _ s.is in
    (s.h, ap (λ (p : ℕ × ℕ). slice_get gs p.0) same ∙ s.there, (s.k, s.here.0, (s.f, s.here.1, (s.number, subst (λ (b : ℕ). NamesBit fs s.k b → ⊥) (sym (ap (λ (p : ℕ × ℕ). p.1) same)) s.spare)))))
    (option_decided (slice_get gs at) _ (λ h. option_decided (field_index fs h.name) _ (λ k. option_decided (slice_get fs k) (λ f. (f.of ≡ nat) × (NamesBit fs k bit → ⊥))
    (λ f. decided_and (shape_decided f.of nat) (decided_not (names_bit_decided fs k bit))))))

pub added_decided : (fs gs : List Slot) (m : ℕ) → Decided (IsAdded fs gs m)
added_decided fs gs m =
    decided_as (λ h. (h.0, h.1, h.2.0, h.2.1)) (λ h. (h.0, h.1, (h.2, h.3)))
    (option_decided (slice_get gs m) (λ g. (field_index fs g.name ≡ None) × (IsSpare fs gs g.cond → ⊥)) (λ g. decided_and (is_none (field_index fs g.name)) (decided_not (spare_decided fs gs g.cond))))

-- ---- no first, no one

pub none_first : (P : ℕ → Type 0) (n : ℕ) → ((k : ℕ) → Decided (P k)) → ((k : ℕ) → P k → k < n) → ((k : ℕ) → First P (Some k) → ⊥) → (k : ℕ) → P k → ⊥
none_first P n test within never k p = by (firsts.first_of P n test within)
  where
    by : ((o : Option ℕ) × First P o) → ⊥
    by (None, none) = none k p
    by (Some j, first) = never j first
