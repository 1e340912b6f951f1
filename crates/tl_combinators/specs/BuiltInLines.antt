-- Program text: the lines of the eight types that the language has from the start.
-- From "TL language" (core.telegram.org/mtproto/TL), its built-in types. Which forms these lines may have is this project's own.
use Rattle.std.specs.Prelude.{ℕ, List, [], true, false, Option, codes}
use Rattle.tl_lexer.specs.Rule.{Rule, gives, fails, chain, choice, Next}
use Rattle.tl_lexer.specs.declared.token.Token.{Token}
use Rattle.tl_lexer.specs.declared.token.TokenKind.TheVariants.{Hash, Colon, Semi, Equals, Query, LBrace, RBrace, LBracket, RBracket, Star}
use Rattle.tl_combinators.specs.declared.fault.SyntaxFault.{SyntaxFault}
use Rattle.tl_combinators.specs.declared.fault.UnsupportedForm.TheVariants.{DependentNumber, ObjectType}
use Rattle.tl_program.specs.declared.built_in.BuiltIn.{BuiltIn}
use Rattle.tl_program.specs.declared.built_in.BuiltIn.TheVariants.{Int, Long, Double, Str, Bytes, Vector, Int128, Int256}
use Rattle.tl_combinators.specs.Tokens.{not_profile, Begins, token, this_word}
use Rattle.tl_combinators.specs.Names.{NameText, IsObject, number, vector_line_number}
use Rattle.tl_program.specs.BuiltIns.{own_name, boxed_name}
use Rattle.tl_program.specs.Trees.{plain}
use Rattle.tl_program.specs.Program.{DeclText}

-- this name, in the place of the result's type
unfoldable pub this_type : List ℕ → List ℕ → Rule Token SyntaxFault Token
this_type text bytes = choice (Next (IsObject text)) (fails (not_profile text ObjectType)) (this_word text bytes)

-- after the colon in braces: the Word `Type`
unfoldable pub sort : List ℕ → Rule Token SyntaxFault Token
sort text = choice (Begins Hash) (fails (not_profile text DependentNumber)) (this_word text (codes "Type"))

-- `= Name;`
unfoldable pub boxed : List ℕ → List ℕ → Rule Token SyntaxFault (Unit {0})
boxed text name = chain (token text Equals) (λ e. chain (this_type text name) (λ t. chain (token text Semi) (λ s. gives tt)))

-- `? = Name;`
unfoldable pub opaque : List ℕ → List ℕ → Rule Token SyntaxFault (Unit {0})
opaque text name = chain (token text Query) (λ q. boxed text name)

-- `[ item ]`
unfoldable pub bracketed : List ℕ → List ℕ → Rule Token SyntaxFault (Unit {0})
bracketed text item = chain (token text LBracket) (λ l. chain (this_word text item) (λ t. chain (token text RBracket) (λ r. gives tt)))

-- `4*[ int ] = Name;`, or with another number of them
unfoldable pub repeated : List ℕ → List ℕ → List ℕ → Rule Token SyntaxFault (Unit {0})
repeated text count name =
    chain (this_word text count) (λ w. chain (token text Star) (λ s. chain (bracketed text (codes "int")) (λ _. boxed text name)))

-- `{t:Type}`
unfoldable pub element : List ℕ → Rule Token SyntaxFault (Unit {0})
element text =
    chain (token text LBrace) (λ l. chain (this_word text (codes "t")) (λ w. chain (token text Colon) (λ c. chain (sort text) (λ s.
    chain (token text RBrace) (λ r. gives tt)))))

-- `= Vector t;`
unfoldable pub vector_result : List ℕ → Rule Token SyntaxFault (Unit {0})
vector_result text =
    chain (token text Equals) (λ e. chain (this_type text (codes "Vector")) (λ v. chain (this_word text (codes "t")) (λ t.
    chain (token text Semi) (λ s. gives tt))))

-- `{t:Type} # [ t ] = Vector t;`
unfoldable pub vector : List ℕ → Rule Token SyntaxFault (Unit {0})
vector text = chain (element text) (λ _. chain (token text Hash) (λ h. chain (bracketed text (codes "t")) (λ _. vector_result text)))

-- what stands after the name and the number of a line
abbrev pub line_form : List ℕ → BuiltIn → Rule Token SyntaxFault (Unit {0})
line_form text Int = opaque text (boxed_name Int)
line_form text Long = opaque text (boxed_name Long)
line_form text Double = opaque text (boxed_name Double)
line_form text Str = opaque text (boxed_name Str)
line_form text Bytes = boxed text (boxed_name Bytes)
line_form text Vector = vector text
line_form text Int128 = repeated text (codes "4") (boxed_name Int128)
line_form text Int256 = repeated text (codes "8") (boxed_name Int256)

-- the number after its name
abbrev pub line_number : List ℕ → BuiltIn → ℕ → Rule Token SyntaxFault (Option ℕ)
line_number text Int edge = number text edge
line_number text Long edge = number text edge
line_number text Double edge = number text edge
line_number text Str edge = number text edge
line_number text Bytes edge = number text edge
line_number text Vector edge = vector_line_number text edge
line_number text Int128 edge = number text edge
line_number text Int256 edge = number text edge

-- the line of b, which declares nothing new
abbrev pub line_text : BuiltIn → Option ℕ → DeclText
line_text b number = record {
  name = own_name b;
  number = number;
  vars = [];
  fields = [];
  result = plain (boxed_name b);
  function = false;
  builtin = true;
  text = [];
}

-- a line, after its name
unfoldable pub built_in_line : List ℕ → BuiltIn → NameText → Rule Token SyntaxFault DeclText
built_in_line text b n = chain (line_number text b n.end) (λ i. chain (line_form text b) (λ _. gives (line_text b i)))
