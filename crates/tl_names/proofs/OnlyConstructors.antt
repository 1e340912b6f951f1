-- The only constructor of a type, by what an index keeps of the type's constructors.
use Rattle.std.proofs.Common.{◌≡◌, ℕ, true, false, List, Some, None, ap, sym, subst, ◌∙◌, true≢false}
use Rattle.std.proofs.lemmas.Option.{none-some, same_Some}
use Rattle.tl_program.specs.Program.{DeclText}
use Rattle.tl_names.specs.Constructors.{IsFamily, IsOnlyConstructor}
use Rattle.tl_names.specs.declared.index.Constructors.{Constructors}
use Rattle.tl_names.specs.inner.BareSteps.{OnlyOf}

module _ (ds : List DeclText) (type : List ℕ) where
  pub some_only : (c : Constructors) → IsFamily ds type (Some c) → c.only ≡ true → OnlyOf ds type (Some c.first)
  some_only c family only j =
      let one = family.only.0 only in
      let first = one.2.only c.first family.first.0.0 family.first.0.1 in (
        λ has. ap Some (first ∙ has.1.only one.0 one.1 one.2.one),
        λ e. let same : one.0 ≡ j = sym first ∙ same_Some c.first j e in (one.1, subst (λ k. IsOnlyConstructor ds type k one.1) same one.2),
      )

  pub some_others : (c : Constructors) → IsFamily ds type (Some c) → c.only ≡ false → OnlyOf ds type None
  some_others c family several j = (λ has. absurd (true≢false (sym (family.only.1 (j, has.0, has.1)) ∙ several)), λ e. absurd (none-some j e))

  pub none_only : IsFamily ds type None → OnlyOf ds type None
  none_only none j = (λ has. absurd (none j (has.0, has.1.one)), λ e. absurd (none-some j e))
