-- Printed programs: a text that reads as the same program, descriptions aside. This project's own.
use Rattle.std.specs.Prelude.{◌≡◌, ℕ, List, [], map}
use Rattle.tl_lexer.specs.declared.token.Token.{Token}
use Rattle.tl_lexer.specs.Tokens.{Tokens}
use Rattle.tl_lexer.specs.Spelled.{SpellsText}
use Rattle.tl_program.specs.Program.{DeclText}
use Rattle.tl_combinators.specs.Sentences.{Reads}

-- some text reads as these declarations
abbrev pub CanBeRead : List DeclText → Type 0
CanBeRead ds = (text : List ℕ) × (tokens : List Token) × Tokens text tokens × Reads text tokens ds

-- a declaration without its description
abbrev pub without_description : DeclText → DeclText
without_description d = record {
  name = d.name;
  number = d.number;
  vars = d.vars;
  fields = d.fields;
  result = d.result;
  function = d.function;
  builtin = d.builtin;
  text = [];
}

-- the text is tokens that read as the same declarations, descriptions aside; it may be longer than a text that lex takes
abbrev pub ReadsBack : List ℕ → List DeclText → Type 0
ReadsBack text ds =
    (tokens : List Token) × (es : List DeclText) × SpellsText text tokens × Reads text tokens es × (map without_description es ≡ map without_description ds)
