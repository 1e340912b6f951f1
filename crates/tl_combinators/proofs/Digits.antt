-- The digits after a `#`, read or refused.
use Rattle.std.proofs.Common.{◌≡◌, ℕ, ◌+◌, ◌<◌, List, length, drop, get_or, Ok, Err}
use Rattle.tl_numbers.specs.HexText.{hex_value}
use Rattle.tl_lexer.specs.Rule.{Next, Parses}
use Rattle.tl_lexer.specs.declared.token.Token.{Token}
use Rattle.tl_lexer.proofs.Steps.{then_ok, then_err, gives_ok, one_ok, next_of}
use Rattle.tl_combinators.specs.declared.fault.SyntaxFault.{SyntaxFault}
use Rattle.tl_combinators.specs.Tokens.{fault_of, unexpected, bytes_of}
use Rattle.tl_combinators.specs.Names.{IsHex, hex}
use Rattle.tl_combinators.proofs.OneToken.{one_err}

pub hex_ok : (text : List ℕ) (edge n : ℕ) (ts : List Token) (i : ℕ) (d : Token) → i < length ts → IsHex text edge (get_or ts i d) → n ≡ hex_value (bytes_of text (get_or ts i d)) → Parses fault_of (λ (n : ℕ). n) (hex text edge) (drop i ts) (drop (i + 1) ts) (Ok n)
unfolding hex
hex_ok text edge n ts i d h p e = then_ok _ (one_ok (unexpected text) (IsHex text edge) ts i d h (next_of (IsHex text edge) ts i d h p)) (gives_ok e)

pub hex_err : (text : List ℕ) (edge : ℕ) (ts rest : List Token) {e : SyntaxFault} → (Next (IsHex text edge) ts → ⊥) → e ≡ unexpected text ts → Parses {X = ℕ} fault_of (λ (n : ℕ). n) (hex text edge) ts rest (Err e)
unfolding hex
hex_err text edge ts rest n e = then_err _ (one_err text (IsHex text edge) ts rest n e)
