-- Program text: single tokens as rules.
-- From "Formal description of TL" (core.telegram.org/mtproto/TL-formal), its tokens. The places of refusal are this project's own.
use Rattle.std.specs.Prelude.{◌≡◌, ℕ, ◌-◌, ◌≤◌, ◌<◌, ◌^◌, EachIndex, get_or, nat_le, ◌&&◌, ◌||◌, List, [], ◌∷◌, take, drop, length, Bool, true, false, Option, Some, None}
use Rattle.tl_lexer.specs.Rule.{Rule, one, Next}
use Rattle.tl_lexer.specs.declared.token.Token.{Token}
use Rattle.tl_lexer.specs.declared.token.TokenKind.{TokenKind}
use Rattle.tl_lexer.specs.declared.token.TokenKind.TheVariants.{Word}
use Rattle.tl_program.specs.Letters.{first_is, is_lower, is_upper, is_letter, is_digit}
use Rattle.tl_combinators.specs.declared.fault.SyntaxFault.{SyntaxFault}
use Rattle.tl_combinators.specs.declared.fault.SyntaxFault.TheVariants.{Unexpected, NotProfile, TooMany, Memory}
use Rattle.tl_combinators.specs.declared.fault.UnsupportedForm.{UnsupportedForm}
use Rattle.tl_combinators.specs.declared.reading.First.{First}
use Rattle.tl_combinators.specs.declared.reading.First.TheVariants.{Letter, Lower, Upper, Digit}

-- the bytes of a token
abbrev pub bytes_of : List ℕ → Token → List ℕ
bytes_of text t = take (t.end - t.start) (drop t.start text)

-- each token is a part of the text, whose length is a number of 32 bits
pub record Fits (text : List ℕ) (tokens : List Token) : Type 0 where
  pub small : length text < 2 ^ 32
  pub parts : EachIndex tokens (λ i. (d : Token) → ((get_or tokens i d).start ≤ (get_or tokens i d).end) × ((get_or tokens i d).end ≤ length text))

-- ---- faults

-- where the next token stands, or the length of the text
abbrev pub place : List ℕ → List Token → ℕ
place text [] = length text
place text (t ∷ ts) = t.start

-- no rule admits the next token, or the end of the text
abbrev pub unexpected : List ℕ → List Token → SyntaxFault
unexpected text ts = Unexpected (place text ts)

-- a form of the language that is left out begins here
abbrev pub not_profile : List ℕ → UnsupportedForm → List Token → SyntaxFault
not_profile text form ts = NotProfile (place text ts) form

-- one item more than there may be begins here
abbrev pub too_many : List ℕ → List Token → SyntaxFault
too_many text ts = TooMany (place text ts)

-- the fault that an error stands for; none when out of memory
abbrev pub fault_of : SyntaxFault → Option SyntaxFault
fault_of (Unexpected at) = Some (Unexpected at)
fault_of (NotProfile at form) = Some (NotProfile at form)
fault_of (TooMany at) = Some (TooMany at)
fault_of Memory = None

-- ---- tokens

-- a token of this kind
abbrev pub OfKind : TokenKind → Token → Type 0
OfKind kind t = t.kind ≡ kind

-- the next token is of this kind
abbrev pub Begins : TokenKind → List Token → Type 0
Begins kind ts = Next (OfKind kind) ts

-- one token of this kind
unfoldable pub token : List ℕ → TokenKind → Rule Token SyntaxFault Token
token text kind = one (unexpected text) (OfKind kind)

-- a token of this kind that begins at this byte, so that it adjoins the token before it
pub record IsAt (edge : ℕ) (kind : TokenKind) (t : Token) : Type 0 where
  pub kind_is : t.kind ≡ kind
  pub edge_is : t.start ≡ edge

-- ---- Words

-- the test that a first byte is to pass
abbrev pub passes : First → ℕ → Bool
passes Letter = is_letter
passes Lower = is_lower
passes Upper = is_upper
passes Digit = is_digit

-- a Word whose first byte passes the test
pub record IsWord (text : List ℕ) (test : ℕ → Bool) (t : Token) : Type 0 where
  pub word : t.kind ≡ Word
  pub first : first_is test (bytes_of text t) ≡ true

-- this very Word
pub record IsThis (text : List ℕ) (bytes : List ℕ) (t : Token) : Type 0 where
  pub word : t.kind ≡ Word
  pub bytes_are : bytes_of text t ≡ bytes

-- one Word that begins with a letter
unfoldable pub letter_word : List ℕ → Rule Token SyntaxFault Token
letter_word text = one (unexpected text) (IsWord text is_letter)

-- this very Word
unfoldable pub this_word : List ℕ → List ℕ → Rule Token SyntaxFault Token
this_word text bytes = one (unexpected text) (IsThis text bytes)
