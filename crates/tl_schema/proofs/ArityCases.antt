-- How many variables a name has, by what it means.
use Rattle.std.proofs.Common.{◌≡◌, ℕ, true, false, List, length, Option, Some, None, ap, subst}
use Rattle.std.proofs.lemmas.Option.{same_Some, none-some}
use Rattle.tl_program.specs.Program.{DeclText}
use Rattle.tl_graph.specs.Firsts.{First}
use Rattle.tl_names.specs.Writing.{is_type_name, is_built_in, is_variable, IsConstructorOf, IsConstructorNamed}
use Rattle.tl_schema.specs.WrongArity.{HasArity}
use Rattle.tl_schema.specs.WrongArity as has
use Rattle.tl_schema.specs.inner.Arities.{VarsOfFirst, IsArity}
use Rattle.tl_schema.proofs.OneArity.{one_arity, type_has, name_has}

-- the number of variables of the first is that of the declaration at its place
pub first_has : (Q : ℕ → DeclText → Type 0) (k n : ℕ) → First (λ j. (c : DeclText) × Q j c) (Some k) → ((c : DeclText) → Q k c → length c.vars ≡ n) → VarsOfFirst Q (Some n)
first_has Q k n first number = (k, first.0.0, (first.0.1, λ j b below there. first.1 j below (b, there)), number first.0.0 first.0.1)

pub none_has : (Q : ℕ → DeclText → Type 0) → First (λ j. (c : DeclText) × Q j c) None → VarsOfFirst Q None
none_has Q none = λ k c there. none k (c, there)

module _ (ds : List DeclText) (d : DeclText) (name : List ℕ) where
  -- a name that has a number of variables has no other
  pub is_arity : (m : ℕ) → HasArity ds d name m → IsArity ds d name (Some m)
  is_arity m h = λ n. (λ g. ap Some (one_arity ds d name m n h g), λ e. subst (HasArity ds d name) (same_Some m n e) h)

  no_arity : ((n : ℕ) → HasArity ds d name n → ⊥) → IsArity ds d name None
  no_arity none = λ n. (λ h. absurd (none n h), λ e. absurd (none-some n e))

  module _ (v : is_variable d name ≡ false) (b : is_built_in name ≡ false) where
    -- a type has those of its first constructor
    pub of_type : is_type_name name ≡ true → (o : Option ℕ) → VarsOfFirst (IsConstructorOf ds name) o → IsArity ds d name o
    of_type u (Some n) first =
        subst (λ m. IsArity ds d name (Some m)) first.3 (is_arity (length first.1.vars) (has.type first.0 first.1 v b u first.2.0 first.2.1))
    of_type u None none = no_arity (λ n h. let g = type_has ds d name v b u n h in none g.0 g.1 g.2.0)

    -- any other name has those of the first constructor with this name
    pub of_constructor : is_type_name name ≡ false → (o : Option ℕ) → VarsOfFirst (IsConstructorNamed ds name) o → IsArity ds d name o
    of_constructor u (Some n) first =
        subst (λ m. IsArity ds d name (Some m)) first.3 (is_arity (length first.1.vars) (has.constructor first.0 first.1 v b u first.2.0 first.2.1))
    of_constructor u None none = no_arity (λ n h. let g = name_has ds d name v b u n h in none g.0 g.1 g.2.0)
