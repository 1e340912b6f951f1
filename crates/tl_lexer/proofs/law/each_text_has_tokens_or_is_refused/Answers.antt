use Rattle.tl_lexer.proofs.WholePieces.{one_answer}
use Rattle.tl_lexer.proofs.law.each_text_has_tokens_or_is_refused.Goals as goal

pub returns : goal.returns
returns c = one_answer
