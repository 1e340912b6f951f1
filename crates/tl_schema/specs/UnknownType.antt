-- The second check: each name of a type has a declaration.
-- From "TL language" (core.telegram.org/mtproto/TL): a type is what its constructors make.
use Rattle.std.specs.Prelude.{◌≡◌, ℕ, List, true, false}
use Rattle.tl_program.specs.Trees.{Tree, named, percent, any_call}
use Rattle.tl_program.specs.Program.{DeclText}
use Rattle.tl_names.specs.Writing.{is_type_name, is_built_in, is_variable, IsConstructorOf, IsConstructorNamed}
use Rattle.tl_names.specs.Writing.{DeclarationHas}
use Rattle.tl_names.specs.Parts.{SomeWritten}

-- no constructor makes the type, or no constructor has the name
pub data IsUnknown (ds : List DeclText) (name : List ℕ) : Type 0 where
  no_type : is_type_name name ≡ true → ((j : ℕ) (c : DeclText) → IsConstructorOf ds name j c → ⊥) → IsUnknown ds name
  no_constructor : is_type_name name ≡ false → ((j : ℕ) (c : DeclText) → IsConstructorNamed ds name j c → ⊥) → IsUnknown ds name

-- where d writes it, the name is unknown: no variable, not built in, and declared by none
pub record IsUnknownIn (ds : List DeclText) (d : DeclText) (name : List ℕ) : Type 0 where
  pub no_variable : is_variable d name ≡ false
  pub no_built_in : is_built_in name ≡ false
  pub unknown : IsUnknown ds name

-- where d writes it, the type begins with such a name
abbrev pub BeginsUnknown : List DeclText → DeclText → Tree → Type 0
BeginsUnknown ds d (named name args) = IsUnknownIn ds d name
BeginsUnknown ds d (percent t) = ⊥
BeginsUnknown ds d any_call = ⊥

-- declaration k writes such a type
abbrev pub UnknownType : List DeclText → ℕ → Type 0
UnknownType ds = DeclarationHas (SomeWritten (BeginsUnknown ds)) ds
