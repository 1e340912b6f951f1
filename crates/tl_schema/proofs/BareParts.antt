-- Types with a bare form, and `%` before one that has none.
use Rattle.std.proofs.Common.{◌≡◌, inl, inr, ℕ, List, Bool, true, false, not, IsTrue, ◌↔◌, codes, refl, ap, sym, ◌∙◌, subst, true≢false}
use Rattle.tl_program.specs.Trees.{Tree, Trees, named, percent}
use Rattle.tl_program.specs.Program.{DeclText}
use Rattle.tl_names.proofs.HeadNames.{type_name}
use Rattle.tl_names.specs.Writing.{is_variable}
use Rattle.tl_schema.specs.NotBare.{HasBare, vector, single, HasNoBare}
use Rattle.tl_schema.specs.inner.BareForms.{IsBareName}

module _ (ds : List DeclText) (d : DeclText) where
  -- a name that is applied has the bare form of its type
  pub bare_named : (name : List ℕ) (args : Trees) → IsBareName ds d name ↔ HasBare ds d (named name args)
  bare_named name args = (to, from)
    where
      to : IsBareName ds d name → HasBare ds d (named name args)
      to bare =
          elim bare.form [
            | inl is ↦ vector args (ap (is_variable d) (sym is) ∙ bare.no_variable) (ap (λ n. named n args) is)
            | inr one ↦ single name args one.1.0 one.1.1 bare.no_variable one.0 refl one.1.2
          ]

      from : HasBare ds d (named name args) → IsBareName ds d name
      from (vector _ hidden is) =
          let e : name ≡ codes "Vector" = ap type_name is in
          record { no_variable = ap (is_variable d) e ∙ hidden; form = inl e }
      from (single type _ j c hidden upper is only) =
          let e : name ≡ type = ap type_name is in
          subst (IsBareName ds d) (sym e) (record { no_variable = hidden; form = inr (upper, (j, c, only)) })

  pub no_bare : (t : Tree) (b : Bool) → IsTrue b ↔ HasBare ds d t → IsTrue (not b) ↔ HasNoBare ds d (percent t)
  no_bare t true told = (λ h. absurd (true≢false (sym h)), λ none. absurd (none (told.0 refl)))
  no_bare t false told = (λ h bare. true≢false (sym (told.1 bare)), λ none. refl)
