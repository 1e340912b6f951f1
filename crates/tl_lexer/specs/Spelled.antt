-- The tokens of a text by their places: which bytes each token has, and what stands between them. Also its faults by their places.
-- From "Formal description of TL" (core.telegram.org/mtproto/TL-formal), its lexical part. That tokens go by their places is this project's own.
use Rattle.std.specs.Prelude.{◌≡◌, ◌⊎◌, ℕ, ◌+◌, ◌<◌, ◌≤◌, List, [], ◌∷◌, length, drop}
use Rattle.tl_lexer.specs.Rule.{Next}
use Rattle.tl_lexer.specs.declared.token.Token.{Token}
use Rattle.tl_lexer.specs.declared.token.TokenKind.{TokenKind}
use Rattle.tl_lexer.specs.declared.token.TokenKind.TheVariants.{Word, Dashes, Hash, Colon, Semi, Equals, Query, Dot, Bang, Percent, LBrace, RBrace, LBracket, RBracket, Less, Greater, LParen, RParen, Star, Comma, Plus}
use Rattle.tl_lexer.specs.declared.fault.LexFault.{LexFault}
use Rattle.tl_lexer.specs.declared.fault.LexFault.TheVariants.{TextTooLong, BadByte, OpenComment, Memory}
use Rattle.tl_lexer.specs.Tokens.{Is, HasKind, is_white, is_word}

-- a byte stands at this place, and P holds of it
abbrev pub At : (ℕ → Type 0) → List ℕ → ℕ → Type 0
At P text place = Next P (drop place text)

-- this byte stands at this place
abbrev pub ByteAt : ℕ → List ℕ → ℕ → Type 0
ByteAt byte text place = At (λ b. b ≡ byte) text place

-- this byte stands at this place, and that one after it
abbrev pub PairAt : ℕ → ℕ → List ℕ → ℕ → Type 0
PairAt first second text place = ByteAt first text place × ByteAt second text (place + 1)

-- `---` stands at this place
abbrev pub DashesAt : List ℕ → ℕ → Type 0
DashesAt text place = ByteAt 45 text place × PairAt 45 45 text (place + 1)

-- P holds of each byte from start on and before end
abbrev pub Between : (ℕ → Type 0) → List ℕ → ℕ → ℕ → Type 0
Between P text start end = (start ≤ end) × ((i : ℕ) → start ≤ i → i < end → At P text i)

-- ---- tokens

-- a Word: bytes of a Word, at least one, and no more of them after it
abbrev pub SpellsWord : List ℕ → ℕ → ℕ → Type 0
SpellsWord text start end = (start < end) × Between (Is is_word) text start end × (At (Is is_word) text end → ⊥)

-- `---`
abbrev pub SpellsDashes : List ℕ → ℕ → ℕ → Type 0
SpellsDashes text start end = (end ≡ start + 3) × DashesAt text start

-- this one byte
abbrev pub SpellsByte : ℕ → List ℕ → ℕ → ℕ → Type 0
SpellsByte byte text start end = (end ≡ start + 1) × ByteAt byte text start

-- the token's bytes
abbrev pub SpellsKind : TokenKind → List ℕ → ℕ → ℕ → Type 0
SpellsKind Word text start end = SpellsWord text start end
SpellsKind Dashes text start end = SpellsDashes text start end
SpellsKind Hash text start end = SpellsByte 35 text start end
SpellsKind Colon text start end = SpellsByte 58 text start end
SpellsKind Semi text start end = SpellsByte 59 text start end
SpellsKind Equals text start end = SpellsByte 61 text start end
SpellsKind Query text start end = SpellsByte 63 text start end
SpellsKind Dot text start end = SpellsByte 46 text start end
SpellsKind Bang text start end = SpellsByte 33 text start end
SpellsKind Percent text start end = SpellsByte 37 text start end
SpellsKind LBrace text start end = SpellsByte 123 text start end
SpellsKind RBrace text start end = SpellsByte 125 text start end
SpellsKind LBracket text start end = SpellsByte 91 text start end
SpellsKind RBracket text start end = SpellsByte 93 text start end
SpellsKind Less text start end = SpellsByte 60 text start end
SpellsKind Greater text start end = SpellsByte 62 text start end
SpellsKind LParen text start end = SpellsByte 40 text start end
SpellsKind RParen text start end = SpellsByte 41 text start end
SpellsKind Star text start end = SpellsByte 42 text start end
SpellsKind Comma text start end = SpellsByte 44 text start end
SpellsKind Plus text start end = SpellsByte 43 text start end

-- ---- gaps

-- one byte of white space
abbrev pub SpellsWhite : List ℕ → ℕ → ℕ → Type 0
SpellsWhite text start end = (end ≡ start + 1) × At (Is is_white) text start

-- `//` and what follows, up to the first line feed or the end of the text
abbrev pub SpellsLine : List ℕ → ℕ → ℕ → Type 0
SpellsLine text start end = PairAt 47 47 text start × Between (λ b. b ≡ 10 → ⊥) text (start + 2) end × ((end ≡ length text) ⊎ ByteAt 10 text end)

-- `/*` and what follows, up to the first `*/` that begins after it
abbrev pub SpellsBlock : List ℕ → ℕ → ℕ → Type 0
SpellsBlock text start end =
    PairAt 47 42 text start × (close : ℕ) × (start + 2 ≤ close) × (end ≡ close + 2) × PairAt 42 47 text close
    × ((i : ℕ) → start + 2 ≤ i → i < close → PairAt 42 47 text i → ⊥)

-- white space or a comment
abbrev pub SpellsFiller : List ℕ → ℕ → ℕ → Type 0
SpellsFiller text start end = SpellsWhite text start end ⊎ SpellsLine text start end ⊎ SpellsBlock text start end

-- from start to end stand white space and comments, one after the other, which end at these places
abbrev pub Fillers : List ℕ → ℕ → List ℕ → ℕ → Type 0
Fillers text start [] end = end ≡ start
Fillers text start (p ∷ ps) end = SpellsFiller text start p × Fillers text p ps end

-- from start to end stand white space and comments, or nothing
abbrev pub Gap : List ℕ → ℕ → ℕ → Type 0
Gap text start end = (ends : List ℕ) × Fillers text start ends end

-- ---- texts

-- from start to end stand these tokens, with gaps before, between and after them
abbrev pub SpellsRow : List ℕ → ℕ → List Token → ℕ → Type 0
SpellsRow text start [] end = Gap text start end
SpellsRow text start (t ∷ ts) end = Gap text start t.start × SpellsKind t.kind text t.start t.end × SpellsRow text t.end ts end

-- the whole text is these tokens and gaps
abbrev pub SpellsText : List ℕ → List Token → Type 0
SpellsText text ts = SpellsRow text 0 ts (length text)

-- ---- faults

-- no token, no white space and no comment begins at this place
pub record BeginsNothing (text : List ℕ) (place : ℕ) : Type 0 where
  pub white : At (Is is_white) text place → ⊥
  pub word : At (Is is_word) text place → ⊥
  pub line : PairAt 47 47 text place → ⊥
  pub block : PairAt 47 42 text place → ⊥
  pub dashes : DashesAt text place → ⊥
  pub single : At HasKind text place → ⊥

-- all before this place is tokens and gaps
abbrev pub SpellsPrefix : List ℕ → ℕ → Type 0
SpellsPrefix text place = (ts : List Token) × SpellsRow text 0 ts place

-- `/*` stands at this place, and no `*/` after it
abbrev pub IsOpenAt : List ℕ → ℕ → Type 0
IsOpenAt text place = PairAt 47 42 text place × ((i : ℕ) → place + 2 ≤ i → PairAt 42 47 text i → ⊥)

-- the text has this fault
abbrev pub HasFault : List ℕ → LexFault → Type 0
HasFault text TextTooLong = 4194304 < length text
HasFault text (BadByte at) = (length text ≤ 4194304) × SpellsPrefix text at × (at < length text) × BeginsNothing text at
HasFault text (OpenComment at) = (length text ≤ 4194304) × SpellsPrefix text at × IsOpenAt text at
HasFault text Memory = ⊥
