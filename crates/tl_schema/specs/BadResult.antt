-- The fifth check: results of constructors.
-- From "Formal description of TL" (core.telegram.org/mtproto/TL-formal), its combinator declarations.
use Rattle.std.specs.Prelude.{◌≡◌, ℕ, List, map, true, false}
use Rattle.tl_program.specs.Trees.{named, plain, trees_of}
use Rattle.tl_program.specs.Program.{DeclText}
use Rattle.tl_names.specs.Writing.{is_type_name, is_variable, is_constructor}
use Rattle.tl_names.specs.Writing.{DeclarationHas}

-- the result is the name of a type, applied to exactly the declaration's variables in order
pub record IsGoodResult (d : DeclText) : Type 0 where
  pub type : List ℕ
  pub upper : is_type_name type ≡ true
  pub no_variable : is_variable d type ≡ false
  pub applied : d.result ≡ named type (trees_of (map plain d.vars))

-- d is an own constructor with another result
pub record HasBadResult (d : DeclText) : Type 0 where
  pub own : is_constructor d ≡ true
  pub bad : IsGoodResult d → ⊥

-- declaration k is one
abbrev pub BadResult : List DeclText → ℕ → Type 0
BadResult ds = DeclarationHas HasBadResult ds
