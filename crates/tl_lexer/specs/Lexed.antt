-- What `lex` answers for a text. Out of memory is free. This project's own.
use Rattle.std.specs.Prelude.{◌≡◌, ◌⊎◌, ℕ, List, Some, None, Result, Ok, Err}
use Rattle.tl_lexer.specs.declared.token.Token.{Token}
use Rattle.tl_lexer.specs.declared.fault.LexFault.{LexFault}
use Rattle.tl_lexer.specs.declared.fault.LexFault.TheVariants.{TextTooLong, BadByte, OpenComment, Memory}
use Rattle.tl_lexer.specs.Tokens.{fault_of, Tokens, LexRefused}

-- an answer has the text's tokens, and a refusal says the text's fault
abbrev pub Lexes : {X : Type 0} → (X → List Token) → List ℕ → Result X LexFault → Type 0
Lexes view text (Ok x) = Tokens text (view x)
Lexes view text (Err TextTooLong) = LexRefused text TextTooLong
Lexes view text (Err (BadByte at)) = LexRefused text (BadByte at)
Lexes view text (Err (OpenComment at)) = LexRefused text (OpenComment at)
Lexes view text (Err Memory) = Unit {0}

-- these tokens are answered
abbrev pub Accepts : {X : Type 0} → (X → List Token) → List Token → Result X LexFault → Type 0
Accepts view ts (Ok x) = view x ≡ ts
Accepts view ts (Err e) = fault_of e ≡ None

-- this fault is answered
abbrev pub Refuses : {X : Type 0} → LexFault → Result X LexFault → Type 0
Refuses fault (Ok x) = ⊥
Refuses fault (Err e) = (fault_of e ≡ None) ⊎ (fault_of e ≡ Some fault)
