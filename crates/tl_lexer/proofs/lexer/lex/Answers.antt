use Rattle.tl_lexer.proofs.SpelledPieces.{lexed_spells}
use Rattle.tl_lexer.proofs.SurePieces.{gives_lexes, lexes_reads, lexes_refuses}
use Rattle.tl_lexer.proofs.lexer.lex.Goals as goal

pub returns-clause-lexes : goal.returns-clause-lexes
returns-clause-lexes c = gives_lexes _ _ c.if-text-gt-TEXT_LIMIT.false _ c.pieces_of.ensures

pub returns-clause-reads : goal.returns-clause-reads
returns-clause-reads c = lexes_reads _ _ _ (gives_lexes _ _ c.if-text-gt-TEXT_LIMIT.false _ c.pieces_of.ensures)

pub returns-clause-refuses : goal.returns-clause-refuses
returns-clause-refuses c = lexes_refuses _ _ _ (gives_lexes _ _ c.if-text-gt-TEXT_LIMIT.false _ c.pieces_of.ensures)

pub returns-clause-spells : goal.returns-clause-spells
returns-clause-spells c = lexed_spells _ _ _ (gives_lexes _ _ c.if-text-gt-TEXT_LIMIT.false _ c.pieces_of.ensures)
