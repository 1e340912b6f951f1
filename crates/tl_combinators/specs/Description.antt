-- Program text: the description of a declaration, on which an unwritten number rests. This project's own.
-- It is the kept tokens in order; one space exactly where white space, a comment or a `<` stands anywhere between two of
-- them, and nothing otherwise.
use Rattle.std.specs.Prelude.{◌≡◌, ◌⊎◌, ℕ, ◌<◌, List, [], ◌∷◌, ◌++◌, map, take, drop, Option, Some, None, bytes_eq, if◌then◌else◌, codes}
use Rattle.std.specs.List.{All}
use Rattle.tl_lexer.specs.Rule.{Rule}
use Rattle.tl_lexer.specs.declared.token.Token.{Token}
use Rattle.tl_lexer.specs.declared.token.TokenKind.{TokenKind}
use Rattle.tl_lexer.specs.declared.token.TokenKind.TheVariants.{Word, Dashes, Hash, Colon, Semi, Equals, Query, Dot, Bang, Percent, LBrace, RBrace, LBracket, RBracket, Less, Greater, LParen, RParen, Star, Comma, Plus}
use Rattle.tl_combinators.specs.declared.description.Showing.{Showing}
use Rattle.tl_combinators.specs.declared.description.Showing.TheVariants.{Itself, Nothing, Space}
use Rattle.tl_combinators.specs.declared.description.FieldShowing.{FieldShowing}
use Rattle.tl_combinators.specs.declared.description.FieldShowing.TheVariants.{Hidden, WithString, Written}
use Rattle.tl_combinators.specs.declared.fault.SyntaxFault.{SyntaxFault}
use Rattle.tl_combinators.specs.Tokens.{bytes_of}
use Rattle.tl_program.specs.Trees.{is_plain}
use Rattle.tl_program.specs.Program.{KindText, nat, flag, call, of, CondText, FieldText}

-- ---- pieces, and what describes them

-- a token of a declaration, and what it is in the description: kept as these bytes, left out, or a space, as `<` is
pub data Piece : Type 0 where
  kept : Token → List ℕ → Piece
  omitted : Token → Piece
  spaced : Token → Piece

-- the token of a piece
abbrev pub token_of : Piece → Token
token_of (kept t bytes) = t
token_of (omitted t) = t
token_of (spaced t) = t

-- no bytes of the piece are kept
abbrev pub IsLeftOut : Piece → Type 0
IsLeftOut (kept t bytes) = ⊥
IsLeftOut (omitted t) = Unit {0}
IsLeftOut (spaced t) = Unit {0}

-- the piece is a space
abbrev pub IsSpaced : Piece → Type 0
IsSpaced (kept t bytes) = ⊥
IsSpaced (omitted t) = ⊥
IsSpaced (spaced t) = Unit {0}

-- white space or a comment stands between two neighbours
abbrev pub AreParted : Token → Token → Type 0
AreParted a b = a.end < b.start

-- two tokens, with the pieces between them: white space, a comment or a `<` stands anywhere between the two
abbrev pub AreApart : Token → List Piece → Token → Type 0
AreApart a [] b = AreParted a b
AreApart a (p ∷ ps) b = AreParted a (token_of p) ⊎ IsSpaced p ⊎ AreApart (token_of p) ps b

-- one space exactly where P holds, and nothing otherwise
abbrev pub IsSpaceWhere : Type 0 → List ℕ → Type 0
IsSpaceWhere P space = (P × (space ≡ 32 ∷ [])) ⊎ ((P → ⊥) × (space ≡ []))

-- no piece is kept: nothing; one is kept: its bytes; else the first kept one's bytes, one space where the next kept one is
-- apart from it, and what describes the pieces from that one on
pub data Describes : List Piece → List ℕ → Type 0 where
  none_kept : (ps : List Piece) → All IsLeftOut ps → Describes ps []
  one_kept : (before after : List Piece) (a : Token) (bytes : List ℕ) → All IsLeftOut before → All IsLeftOut after → Describes (before ++ (kept a bytes ∷ after)) bytes
  next_kept : (before between after : List Piece) (a b : Token) (bytes others space text : List ℕ) → All IsLeftOut before → All IsLeftOut between → IsSpaceWhere (AreApart a between b) space
      → Describes (kept b others ∷ after) text → Describes (before ++ (kept a bytes ∷ (between ++ (kept b others ∷ after)))) (bytes ++ (space ++ text))

-- the description of the pieces, for which no token is taken
unfoldable pub description : List Piece → Rule Token SyntaxFault (List ℕ)
description ps = record { reads = λ ts text rest. Describes ps text × (rest ≡ ts); refused = λ ts fault. ⊥ }

-- ---- the pieces of a declaration: its number, braces, `;`, `>` and flags are left out, `<` is a space, and a Word
-- `bytes` that is a field's whole type is kept as `string`

-- what becomes of a token of a kind
abbrev pub showing : TokenKind → Showing
showing Word = Itself
showing Dashes = Itself
showing Hash = Itself
showing Colon = Itself
showing Semi = Nothing
showing Equals = Itself
showing Query = Itself
showing Dot = Itself
showing Bang = Itself
showing Percent = Itself
showing LBrace = Nothing
showing RBrace = Nothing
showing LBracket = Itself
showing RBracket = Itself
showing Less = Space
showing Greater = Nothing
showing LParen = Itself
showing RParen = Itself
showing Star = Itself
showing Comma = Itself
showing Plus = Itself

-- the piece of a token of which this becomes
abbrev pub piece_by : Showing → List ℕ → Token → Piece
piece_by Itself text t = kept t (bytes_of text t)
piece_by Nothing text t = omitted t
piece_by Space text t = spaced t

-- the piece of a token
abbrev pub piece : List ℕ → Token → Piece
piece text t = piece_by (showing t.kind) text t

-- that of a token of a field's type that is `bytes` alone
abbrev pub string_piece : List ℕ → Token → Piece
string_piece text t = if bytes_eq (bytes_of text t) (codes "bytes") then kept t (codes "string") else piece text t

-- the pieces of tokens
abbrev pub pieces : List ℕ → List Token → List Piece
pieces text ts = map (piece text) ts

-- those of a field's type that is `bytes` alone
abbrev pub string_pieces : List ℕ → List Token → List Piece
string_pieces text ts = map (string_piece text) ts

-- none of the tokens is kept
abbrev pub left_out : List Token → List Piece
left_out ts = map (λ t. omitted t) ts

-- ---- fields

-- how a field that holds this is shown: not at all, with `bytes` as `string`, or as it is written
abbrev pub field_showing : KindText → FieldShowing
field_showing nat = Written
field_showing flag = Hidden
field_showing (call var) = Written
field_showing (of t) = if is_plain (codes "bytes") t then WithString else Written

-- so many tokens of a field stand before its type: the name and `:`, and `F.N?`
abbrev pub before_type : Option CondText → ℕ
before_type None = 2
before_type (Some c) = 6

-- the pieces of a field, of whose tokens so many stand before its type
abbrev pub field_pieces_by : FieldShowing → List ℕ → ℕ → List Token → List Piece
field_pieces_by Hidden text first ts = left_out ts
field_pieces_by WithString text first ts = pieces text (take first ts) ++ string_pieces text (drop first ts)
field_pieces_by Written text first ts = pieces text ts

-- the pieces of a field
abbrev pub field_pieces : List ℕ → FieldText → List Token → List Piece
field_pieces text f ts = field_pieces_by (field_showing f.kind) text (before_type f.cond) ts
