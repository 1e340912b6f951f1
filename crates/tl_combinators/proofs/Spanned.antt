-- Each token of a text is a part of it.
use Rattle.std.proofs.Common.{ℕ, List, arith}
use Rattle.tl_lexer.specs.Tokens.{Tokens}
use Rattle.tl_lexer.specs.declared.token.Token.{Token}
use Rattle.tl_lexer.proofs.Spans.{text_is_small, token_ordered, token_within}
use Rattle.tl_combinators.specs.Tokens.{Fits}

pub fits_of : (text : List ℕ) (tokens : List Token) → Tokens text tokens → Fits text tokens
fits_of text tokens h = record {
  small = omega (arith, text_is_small text tokens h);
  parts = λ i b d. (token_ordered text tokens h i d b, token_within text tokens h i d b);
}
