-- Which constructor a type is, bare.
use Rattle.std.proofs.Common.{◌≡◌, ℕ, List, Option, Some, true, false, refl, ap, sym, subst}
use Rattle.tl_program.specs.Trees.{Tree, Trees, named, percent, any_call}
use Rattle.tl_program.specs.Program.{DeclText}
use Rattle.tl_names.proofs.HeadNames.{type_name}
use Rattle.tl_names.specs.Writing.{is_type_name, is_built_in, is_variable}
use Rattle.tl_names.specs.Constructors.{IsOnlyConstructor}
use Rattle.tl_names.specs.Constructors.{FirstNamed}
use Rattle.tl_names.specs.BareReferences.{IsBareOf, by_name, by_type}
use Rattle.tl_names.specs.inner.BareSteps.{BareIs, OnlyOf}
use Rattle.tl_names.proofs.Firsts.{one_first}

-- what stands after `%`
abbrev behind : Tree → Tree
behind (named name args) = named name args
behind (percent t) = t
behind any_call = any_call

module _ (ds : List DeclText) (d : DeclText) where
  module _ (name : List ℕ) (args : Trees) where
    -- a name means the first constructor with it
    pub bare_name : (o : Option ℕ) → is_variable d name ≡ false → is_built_in name ≡ false → is_type_name name ≡ false → FirstNamed ds name o → BareIs ds d (named name args) o
    bare_name o free own lower first j = (to, from)
      where
        to : IsBareOf ds d (named name args) j → o ≡ Some j
        to (by_name n _ is v b t there) =
            one_first _ o (Some j) first (subst (λ (x : List ℕ). FirstNamed ds x (Some j)) (sym (ap type_name is)) there)
        to (by_type type _ c is v b t only) = cc

        from : o ≡ Some j → IsBareOf ds d (named name args) j
        from e = by_name name args refl free own lower (subst (FirstNamed ds name) e first)

    -- after `%` it means the only constructor of the type
    pub bare_type : (o : Option ℕ) → is_variable d name ≡ false → is_built_in name ≡ false → is_type_name name ≡ true → OnlyOf ds name o → BareIs ds d (percent (named name args)) o
    bare_type o free own upper only j = (to, from)
      where
        to : IsBareOf ds d (percent (named name args)) j → o ≡ Some j
        to (by_name n _ is v b t first) = cc
        to (by_type type _ c is v b t one) =
            let e : name ≡ type = ap (λ u. type_name (behind u)) is in
            (only j).0 (subst (λ (x : List ℕ). (y : DeclText) × IsOnlyConstructor ds x j y) (sym e) (c, one))

        from : o ≡ Some j → IsBareOf ds d (percent (named name args)) j
        from e = let has = (only j).1 e in by_type name args has.0 refl free own upper has.1
