-- Program text: the tokens of a text.
-- From "Formal description of TL" (core.telegram.org/mtproto/TL-formal), its lexical part.
use Rattle.std.specs.Prelude.{◌≡◌, ◌⊎◌, ℕ, ◌-◌, ◌<◌, ◌≤◌, List, [], ◌∷◌, ◌++◌, length, Bool, true, Option, Some, None, nat_le, ◌==◌, ◌&&◌, ◌||◌, if◌then◌else◌}
use Rattle.tl_lexer.specs.Rule.{Rule, gives, fails, here, one, Next, chain, choice, loop}
use Rattle.tl_lexer.specs.declared.token.Token.{Token}
use Rattle.tl_lexer.specs.declared.token.TokenKind.{TokenKind}
use Rattle.tl_lexer.specs.declared.token.TokenKind.TheVariants.{Word, Dashes, Hash, Colon, Semi, Equals, Query, Dot, Bang, Percent, LBrace, RBrace, LBracket, RBracket, Less, Greater, LParen, RParen, Star, Comma, Plus}
use Rattle.tl_lexer.specs.declared.fault.LexFault.{LexFault}
use Rattle.tl_lexer.specs.declared.fault.LexFault.TheVariants.{TextTooLong, BadByte, OpenComment, Memory}

-- space, tab, carriage return, line feed
abbrev pub is_white : ℕ → Bool
is_white b = (b == 32) || (b == 9) || (b == 13) || (b == 10)

-- a letter, a digit or `_`
abbrev pub is_word : ℕ → Bool
is_word b = ((nat_le 48 b) && (nat_le b 57)) || ((nat_le 65 b) && (nat_le b 90)) || ((nat_le 97 b) && (nat_le b 122)) || (b == 95)

-- the bytes that are tokens by themselves: `# : ; = ? . ! % { } [ ] < > ( ) * , +`
abbrev pub single : ℕ → Option TokenKind
single b =
    if b == 35 then Some Hash else if b == 58 then Some Colon else if b == 59 then Some Semi else if b == 61 then Some Equals
    else if b == 63 then Some Query else if b == 46 then Some Dot else if b == 33 then Some Bang else if b == 37 then Some Percent
    else if b == 123 then Some LBrace else if b == 125 then Some RBrace else if b == 91 then Some LBracket else if b == 93 then Some RBracket
    else if b == 60 then Some Less else if b == 62 then Some Greater else if b == 40 then Some LParen else if b == 41 then Some RParen
    else if b == 42 then Some Star else if b == 44 then Some Comma else if b == 43 then Some Plus else None

-- where the first of these bytes stands, in a text of so many
abbrev pub place : ℕ → List ℕ → ℕ
place size bs = size - length bs

-- a byte that passes the test
abbrev pub Is : (ℕ → Bool) → ℕ → Type 0
Is test b = test b ≡ true

-- a byte that is a token by itself
abbrev pub HasKind : ℕ → Type 0
HasKind b = (k : TokenKind) × (single b ≡ Some k)

-- these two bytes come next
abbrev pub Starts : ℕ → ℕ → List ℕ → Type 0
Starts a b [] = ⊥
Starts a b (x ∷ []) = ⊥
Starts a b (x ∷ y ∷ bs) = (x ≡ a) × (y ≡ b)

-- `---` comes next
abbrev pub StartsDashes : List ℕ → Type 0
StartsDashes [] = ⊥
StartsDashes (x ∷ bs) = (x ≡ 45) × Starts 45 45 bs

-- the line goes on: there is a byte, and it's no line feed
abbrev pub InLine : List ℕ → Type 0
InLine bs = Next (λ b. b ≡ 10 → ⊥) bs

-- the comment goes on: there is a byte, and no `*/`
abbrev pub InBlock : List ℕ → Type 0
InBlock bs = (bs ≡ [] → ⊥) × (Starts 42 47 bs → ⊥)

-- ---- pieces, in a text of so many bytes

-- one byte, any
unfoldable pub any_byte : ℕ → Rule ℕ LexFault ℕ
any_byte size = one (λ bs. BadByte (place size bs)) (λ b. Unit {0})

-- one byte, whose value is let go
abbrev pub one_byte : ℕ → Unit {0} → Rule ℕ LexFault (Unit {0})
one_byte size u = chain (any_byte size) (λ b. gives tt)

-- bytes as long as P selects
unfoldable pub bytes_while : ℕ → (List ℕ → Type 0) → Rule ℕ LexFault (Unit {0})
bytes_while size P = loop P (one_byte size) tt

-- two bytes, any
unfoldable pub two_bytes : ℕ → Rule ℕ LexFault (Unit {0})
two_bytes size = chain (any_byte size) (λ a. chain (any_byte size) (λ b. gives tt))

-- a byte of white space
unfoldable pub white_byte : ℕ → Rule ℕ LexFault (Option TokenKind)
white_byte size = chain (any_byte size) (λ b. gives None)

-- a Word, as long as its bytes go on
unfoldable pub word : ℕ → Rule ℕ LexFault (Option TokenKind)
word size = chain (any_byte size) (λ b. chain (bytes_while size (Next (Is is_word))) (λ u. gives (Some Word)))

-- `//` and the rest of its line
unfoldable pub line : ℕ → Rule ℕ LexFault (Option TokenKind)
line size = chain (two_bytes size) (λ u. chain (bytes_while size InLine) (λ v. gives None))

-- the `*/` of the comment that begins at this place
unfoldable pub closes : ℕ → ℕ → Rule ℕ LexFault (Option TokenKind)
closes size start = choice (Starts 42 47) (chain (two_bytes size) (λ u. gives None)) (fails (λ bs. OpenComment start))

-- `/*`, and all up to the next `*/`
unfoldable pub block : ℕ → Rule ℕ LexFault (Option TokenKind)
block size = chain (here (place size)) (λ start. chain (two_bytes size) (λ u. chain (bytes_while size InBlock) (λ v. closes size start)))

-- `---`
unfoldable pub dashes : ℕ → Rule ℕ LexFault (Option TokenKind)
dashes size = chain (two_bytes size) (λ u. chain (any_byte size) (λ b. gives (Some Dashes)))

-- a byte that is a token by itself
unfoldable pub single_byte : ℕ → Rule ℕ LexFault (Option TokenKind)
single_byte size = chain (any_byte size) (λ b. gives (single b))

-- a piece: the kind of a token, or none for white space and comments
unfoldable pub piece : ℕ → Rule ℕ LexFault (Option TokenKind)
piece size =
    choice (Next (Is is_white)) (white_byte size)
    (choice (Next (Is is_word)) (word size)
    (choice (Starts 47 47) (line size)
    (choice (Starts 47 42) (block size)
    (choice StartsDashes (dashes size)
    (choice (Next HasKind) (single_byte size)
    (fails (λ bs. BadByte (place size bs))))))))

-- ---- texts

-- the tokens, and one more after them if the piece is one
abbrev pub with_piece : List Token → ℕ → ℕ → Option TokenKind → List Token
with_piece ts start end None = ts
with_piece ts start end (Some k) = ts ++ (record { kind = k; start = start; end = end } ∷ [])

-- one more piece, after these tokens
unfoldable pub more : ℕ → List Token → Rule ℕ LexFault (List Token)
more size ts = chain (here (place size)) (λ start. chain (piece size) (λ o. chain (here (place size)) (λ end. gives (with_piece ts start end o))))

-- all the pieces of a text of so many bytes
unfoldable pub pieces : ℕ → Rule ℕ LexFault (List Token)
pieces size = loop (λ bs. bs ≡ [] → ⊥) (more size) []

-- the fault that an error stands for; none when out of memory
abbrev pub fault_of : LexFault → Option LexFault
fault_of TextTooLong = Some TextTooLong
fault_of (BadByte at) = Some (BadByte at)
fault_of (OpenComment at) = Some (OpenComment at)
fault_of Memory = None

-- each token is a part of a text of n bytes
abbrev pub Spans : ℕ → List Token → Type 0
Spans n [] = Unit {0}
Spans n (t ∷ ts) = (t.start ≤ t.end) × (t.end ≤ n) × Spans n ts

-- these are the text's tokens, with white space and closed comments between them
abbrev pub Tokens : List ℕ → List Token → Type 0
Tokens text ts = (length text ≤ 4194304) × (pieces (length text)).reads text ts [] × Spans (length text) ts

-- the text has no tokens, for this fault
abbrev pub LexRefused : List ℕ → LexFault → Type 0
LexRefused text fault = ((4194304 < length text) × (fault ≡ TextTooLong)) ⊎ ((length text ≤ 4194304) × (pieces (length text)).refused text fault)
