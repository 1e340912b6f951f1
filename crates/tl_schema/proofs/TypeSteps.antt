-- The checks of a type, one after another.
use Rattle.std.proofs.Common.{◌≡◌, inl, inr, ℕ, List, Result, Ok, Err, refl, sym, subst}
use Rattle.std.specs.Prelude.{IsErrAnd}
use Rattle.tl_program.specs.Trees.{Tree}
use Rattle.tl_program.specs.Program.{DeclText}
use Rattle.tl_schema.specs.AskedTypes.{TypeHas, type_causes, RefusedTypeBy, AsksFor, NamesType}
use Rattle.tl_schema.specs.inner.TypeSteps.{PassesType, ChecksType}
use Rattle.tl_schema.specs.declared.schema.TypeRef.{TypeRef}
use Rattle.tl_schema.specs.declared.fault.TypeCause.TheVariants.{UnknownType, WrongArity, NotBare, EmptyElement}
use Rattle.tl_schema.specs.declared.fault.TypeFault.{TypeFault}
use Rattle.tl_schema.specs.declared.fault.TypeFault.TheVariants.{Lex, Syntax, Refused, Memory}

module _ (ds : List DeclText) (t : Tree) where
  -- the fault of a type is the answer
  pub stops : (e : TypeFault) (r : Result TypeRef TypeFault) → PassesType ds t (Err e) → IsErrAnd r (λ z. z ≡ e) → ChecksType ds t r
  stops e (Ok x) refused h = absurd h
  stops e (Err z) refused h = subst (λ (y : TypeFault). ChecksType ds t (Err y)) (sym h) (by e refused)
    where
      by : (y : TypeFault) → PassesType ds t (Err y) → ChecksType ds t (Err y)
      by (Lex fault) h = h
      by (Syntax fault) h = h
      by (Refused cause) h = h
      by Memory h = h

  pub no_memory : (r : Result TypeRef TypeFault) → IsErrAnd r (λ z. z ≡ Memory) → ChecksType ds t r
  no_memory r h = stops Memory r tt h

  module _ (known : TypeHas ds UnknownType t → ⊥) where
    pub wrong_arity : TypeHas ds WrongArity t → RefusedTypeBy ds type_causes t WrongArity
    wrong_arity has = inr (known, inl (refl, has))

    module _ (right : TypeHas ds WrongArity t → ⊥) where
      pub not_bare : TypeHas ds NotBare t → RefusedTypeBy ds type_causes t NotBare
      not_bare has = inr (known, inr (right, inl (refl, has)))

      pub empty_element : (TypeHas ds NotBare t → ⊥) → TypeHas ds EmptyElement t → RefusedTypeBy ds type_causes t EmptyElement
      empty_element bare has = inr (known, inr (right, inr (bare, inl (refl, has))))

-- what a tree is as a type, the text is that asks for it
pub names_type : (ds : List DeclText) (text : List ℕ) (t : Tree) → AsksFor text t → (r : Result TypeRef TypeFault) → ChecksType ds t r → NamesType ds text r
names_type ds text t asks (Ok type) h = record { t = t; asks = asks; passes = h.0; means = h.1 }
names_type ds text t asks (Err (Lex fault)) h = absurd h
names_type ds text t asks (Err (Syntax fault)) h = absurd h
names_type ds text t asks (Err (Refused cause)) h = (t, asks, h)
names_type ds text t asks (Err Memory) h = tt
