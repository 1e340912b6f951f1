-- What declarations are like that some text reads as.
use Rattle.std.proofs.Common.{◌≡◌, ℕ, suc, ◌+◌, ◌^◌, ◌<◌, ◌≤◌, List, length, Bool, true, false, IsTrue, Option, Some, None}
use Rattle.std.specs.Prelude.{max, codes}
use Rattle.tl_program.specs.declared.built_in.BuiltIn.{BuiltIn}
use Rattle.tl_program.specs.declared.built_in.BuiltIn.TheVariants.{Int, Long, Double, Str, Bytes, Vector, Int128, Int256}
use Rattle.tl_program.specs.Letters.{first_is, is_lower, is_letter}
use Rattle.tl_combinators.specs.Names.{joined, vector_number}
use Rattle.tl_program.specs.Trees.{Tree, Trees, named, percent, any_call, no_trees, tree}
use Rattle.tl_program.specs.Program.{KindText, nat, flag, call, of, CondText, FieldText, DeclText}
use Rattle.tl_combinators.specs.Fields.{conditional}
use Rattle.tl_program.specs.BuiltIns.{built_in}
use Rattle.tl_combinators.specs.BuiltInLines.{line_text}
use Rattle.tl_print.proofs.Givens.{EachIs}
use Rattle.tl_print.proofs.PrintedPieces.{is_run}

-- ---- names

pub record IsWordOf (test : ℕ → Bool) (bytes : List ℕ) : Type 0 where
  pub run : is_run bytes ≡ true
  pub first : first_is test bytes ≡ true

-- a Word, or two that are joined by `.`
pub data IsName (test : ℕ → Bool) (bytes : List ℕ) : Type 0 where
  one_word : IsWordOf test bytes → IsName test bytes
  two_words : (space last : List ℕ) → bytes ≡ joined space last → IsWordOf is_lower space → IsWordOf test last → IsName test bytes

pub record IsTypeName (bytes : List ℕ) : Type 0 where
  pub name : IsName is_letter bytes
  pub other : bytes ≡ codes "Object" → ⊥

abbrev pub IsSmall : Option ℕ → Type 0
IsSmall None = Unit {0}
IsSmall (Some n) = n < 2 ^ 32

-- ---- types

abbrev mutual
  pub IsShape : Tree → Type 0
  IsShape (named name args) = IsTypeName name × AreShapes args
  IsShape (percent t) = IsShape t
  IsShape any_call = ⊥

  pub AreShapes : Trees → Type 0
  AreShapes no_trees = Unit {0}
  AreShapes (tree t ts) = IsShape t × AreShapes ts

-- the levels of a type, of `%` and a type, and the most levels of some types
abbrev mutual
  pub levels : Tree → ℕ
  levels (named name args) = suc (most args)
  levels (percent t) = bare_levels t
  levels any_call = 0

  pub bare_levels : Tree → ℕ
  bare_levels (named name args) = suc (most args)
  bare_levels (percent t) = suc (bare_levels t)
  bare_levels any_call = 0

  pub most : Trees → ℕ
  most no_trees = 0
  most (tree t ts) = max (levels t) (most ts)

-- a type that is read with n levels
pub record IsTree (n : ℕ) (t : Tree) : Type 0 where
  pub shape : IsShape t
  pub few : levels t ≤ n

-- ---- fields

pub record IsCond (c : CondText) : Type 0 where
  pub flags : IsWordOf is_letter c.flags
  pub small : c.bit < 100

abbrev pub IsHeld : Bool → Option CondText → KindText → Type 0
IsHeld function None nat = Unit {0}
IsHeld function None flag = ⊥
IsHeld function None (call var) = IsTrue function × IsWordOf is_letter var
IsHeld function None (of t) = IsTree 16 t
IsHeld function (Some c) nat = ⊥
IsHeld function (Some c) flag = IsCond c
IsHeld function (Some c) (call var) = ⊥
IsHeld function (Some c) (of t) = IsCond c × IsTree 16 t × (conditional t ≡ of t)

pub record IsField (function : Bool) (f : FieldText) : Type 0 where
  pub name : IsWordOf is_letter f.name
  pub holds : IsHeld function f.cond f.kind

-- ---- declarations

-- the number of the line of vectors can't be another
abbrev pub IsLineNumber : BuiltIn → Option ℕ → Type 0
IsLineNumber Int i = IsSmall i
IsLineNumber Long i = IsSmall i
IsLineNumber Double i = IsSmall i
IsLineNumber Str i = IsSmall i
IsLineNumber Bytes i = IsSmall i
IsLineNumber Vector None = Unit {0}
IsLineNumber Vector (Some n) = n ≡ vector_number
IsLineNumber Int128 i = IsSmall i
IsLineNumber Int256 i = IsSmall i

pub record IsCombinator (d : DeclText) : Type 0 where
  pub free : built_in d.name ≡ None
  pub written : d.builtin ≡ false
  pub name : IsName is_lower d.name
  pub number : IsSmall d.number
  pub vars : EachIs (IsWordOf is_letter) d.vars
  pub fields : EachIs (IsField d.function) d.fields
  pub few : length d.vars + length d.fields ≤ 256
  pub result : IsTree 16 d.result

pub data IsDeclaration (d : DeclText) : Type 0 where
  line : (b : BuiltIn) (i : Option ℕ) → d ≡ line_text b i → IsLineNumber b i → IsDeclaration d
  combined : IsCombinator d → IsDeclaration d

pub record IsPrintable (ds : List DeclText) : Type 0 where
  pub each : EachIs IsDeclaration ds
  pub few : length ds ≤ 16384
