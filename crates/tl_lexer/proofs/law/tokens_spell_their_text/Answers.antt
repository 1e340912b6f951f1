use Rattle.tl_lexer.proofs.ReadPieces.{spelled_once}
use Rattle.tl_lexer.proofs.law.tokens_spell_their_text.Goals as goal

pub returns : goal.returns
returns c = spelled_once
