-- The constructors of a type by its number, and the type that a declaration constructs.
use Rattle.std.proofs.Common.{◌≡◌, ◌↔◌, ℕ, Bool, true, false, not, ◌==◌, List, Option, Some, None, refl, ap, sym, subst, ◌∙◌, true≢false}
use Rattle.std.specs.Prelude.{IsTrue, is_some}
use Rattle.std.proofs.lemmas.Bool.{not-true, eqb-false, eqb-true}
use Rattle.std.proofs.lemmas.Option.{none-some, same_Some}
use Rattle.tl_program.specs.Program.{DeclText}
use Rattle.tl_names.specs.Writing.{own_type, IsConstructorOf}
use Rattle.tl_names.specs.Constructors.{FirstOf, IsFamily, IsSingle, IsUneven}
use Rattle.tl_names.specs.MeantDecls.{head_number}
use Rattle.tl_names.specs.What.{type_named}
use Rattle.tl_names.specs.declared.index.Constructors.{Constructors}
use Rattle.tl_names.proofs.NameMeanings.{type_first}
use Rattle.tl_schema.specs.inner.Arities.{VarsOfFirst, IsArity}
use Rattle.tl_schema.specs.WrongArity.{ConstructsUneven, IsMisapplied}
use Rattle.tl_schema.proofs.ArityCases.{first_has, none_has}

module _ (ds : List DeclText) (type : List ℕ) where
  pub none_single : IsFamily ds type None → IsTrue false ↔ IsSingle ds type
  none_single none = (λ h. absurd (true≢false (sym h)), λ one. absurd (none one.0 (one.1, one.2.one)))

  pub some_vars : (c : Constructors) → IsFamily ds type (Some c) → VarsOfFirst (IsConstructorOf ds type) (Some c.vars)
  some_vars c family = first_has (IsConstructorOf ds type) c.first c.vars family.first (λ d there. family.vars d there.there)

  pub none_vars : IsFamily ds type None → VarsOfFirst (IsConstructorOf ds type) None
  none_vars none = none_has (IsConstructorOf ds type) none

-- ---- the type that d constructs

module _ (ds : List DeclText) (d : DeclText) where
  type_of_head : (o : Option (List ℕ)) (n : ℕ) → Some n ≡ head_number ds o → (type : List ℕ) × (o ≡ Some type) × (type_named ds type ≡ Some n)
  type_of_head None n e = absurd (none-some n (sym e))
  type_of_head (Some type) n e = (type, refl, sym e)

  pub some_uneven : (n : ℕ) (c : Constructors) → Some n ≡ head_number ds (own_type d) → ((type : List ℕ) → type_named ds type ≡ Some n → IsFamily ds type (Some c)) → IsTrue c.uneven ↔ ConstructsUneven ds d
  some_uneven n c head family =
      let own = type_of_head (own_type d) n head in
      let has = family own.0 own.2 in (
        λ h. record { type = own.0; own = own.1; uneven = has.uneven.0 h },
        λ u. has.uneven.1 (subst (IsUneven ds) (same_Some u.type own.0 (sym u.own ∙ own.1)) u.uneven),
      )

  pub none_uneven : (n : ℕ) → Some n ≡ head_number ds (own_type d) → ((type : List ℕ) → type_named ds type ≡ Some n → IsFamily ds type None) → IsTrue false ↔ ConstructsUneven ds d
  none_uneven n head family =
      let own = type_of_head (own_type d) n head in
      (λ h. absurd (true≢false (sym h)), λ u. absurd (family own.0 own.2 u.uneven.i (u.uneven.b, subst (λ (x : List ℕ). IsConstructorOf ds x u.uneven.i u.uneven.b) (same_Some u.type own.0 (sym u.own ∙ own.1)) u.uneven.one)))

  no_head : (type : List ℕ) → type_named ds type ≡ None → IsUneven ds type → ⊥
  no_head type at u = by (type_first ds type None at)
    where
      by : ((k : Option ℕ) × FirstOf ds type k × (is_some k ≡ false)) → ⊥
      by (Some k, first, e) = true≢false e
      by (None, none, e) = none u.i (u.b, u.one)

  pub no_uneven : None ≡ head_number ds (own_type d) → IsTrue false ↔ ConstructsUneven ds d
  no_uneven head = (λ h. absurd (true≢false (sym h)), λ u. absurd (no_head u.type (sym (head ∙ ap (head_number ds) u.own)) u.uneven))

  module _ (name : List ℕ) (count : ℕ) where
    pub misapplied_by : (n : ℕ) → IsArity ds d name (Some n) → IsTrue (not (count == n)) ↔ IsMisapplied ds d name count
    misapplied_by n arity = (
      λ h. record { n = n; arity = (arity n).1 refl; other = eqb-false _ _ (not-true _ h) },
      λ m. by m (count == n) refl,
    )
      where
        by : IsMisapplied ds d name count → (b : Bool) → (count == n) ≡ b → IsTrue (not b)
        by m true e = absurd (m.other (eqb-true _ _ e ∙ same_Some n m.n ((arity m.n).0 m.arity)))
        by m false e = refl

    pub not_misapplied : IsArity ds d name None → IsTrue false ↔ IsMisapplied ds d name count
    not_misapplied none = (λ h. absurd (true≢false (sym h)), λ m. absurd (none-some m.n ((none m.n).0 m.arity)))
