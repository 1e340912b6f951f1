use Rattle.std.proofs.Common.{refl, sym, arith}
use Rattle.tl_lexer.proofs.Steps.{then_ok, yes, no, gives_ok, fails_here}
use Rattle.tl_lexer.specs.Tokens.{piece, white_byte, word, line, dashes, single_byte, fault_of}
use Rattle.tl_lexer.proofs.Runs.{byte_ok, two_ok, third_ok, kind_next, no_kind}
use Rattle.tl_lexer.proofs.SurePieces.{fault_place}
use Rattle.tl_lexer.proofs.lexer.piece_at.Goals as goal

pub returns-then-in_white-clause-read : goal.returns-then-in_white-clause-read
unfolding piece white_byte
returns-then-in_white-clause-read c = yes _ _ (c.in_white.ensures.yes c.if-in_white.true) (then_ok _ (byte_ok _ _ c.args.at.now c.requires.left) (gives_ok refl))

pub returns-then-in_word-clause-read : goal.returns-then-in_word-clause-read
unfolding piece word
returns-then-in_word-clause-read c = no _ _ (c.in_white.ensures.no c.if-in_white.false) (yes _ _ (c.in_word.ensures.yes c.if-in_word.true) (then_ok _ (byte_ok _ _ c.args.at.now c.requires.left) (then_ok _ c.word_end.ensures.read (gives_ok refl))))

pub returns-then-starts-clause-read : goal.returns-then-starts-clause-read
unfolding piece line
returns-then-starts-clause-read c = no _ _ (c.in_white.ensures.no c.if-in_white.false) (no _ _ (c.in_word.ensures.no c.if-in_word.false) (yes _ _ (c.starts.ensures.yes c.if-starts.true) (then_ok _ (two_ok _ _ c.args.at.now (c.starts.ensures.within c.if-starts.true)) (then_ok _ c.line_end.ensures.read (gives_ok refl)))))

pub returns-then-starts-2-clause-read : goal.returns-then-starts-2-clause-read
unfolding piece
returns-then-starts-2-clause-read c = no _ _ (c.in_white.ensures.no c.if-in_white.false) (no _ _ (c.in_word.ensures.no c.if-in_word.false) (no _ _ (c.starts.ensures.no c.if-starts.false) (yes _ _ (c.starts-2.ensures.yes c.if-starts-2.true) c.block_at.ensures.read)))

pub returns-then-starts_dashes-clause-read : goal.returns-then-starts_dashes-clause-read
unfolding piece dashes
returns-then-starts_dashes-clause-read c = no _ _ (c.in_white.ensures.no c.if-in_white.false) (no _ _ (c.in_word.ensures.no c.if-in_word.false) (no _ _ (c.starts.ensures.no c.if-starts.false) (no _ _ (c.starts-2.ensures.no c.if-starts-2.false) (yes _ _ (c.starts_dashes.ensures.yes c.if-starts_dashes.true) (then_ok _ (two_ok _ _ c.args.at.now (omega (arith, c.starts_dashes.ensures.within c.if-starts_dashes.true))) (then_ok _ (third_ok _ _ c.args.at.now (c.starts_dashes.ensures.within c.if-starts_dashes.true)) (gives_ok refl)))))))

pub returns-in-Some-clause-read : goal.returns-in-Some-clause-read
unfolding piece single_byte
returns-in-Some-clause-read c = no _ _ (c.in_white.ensures.no c.if-in_white.false) (no _ _ (c.in_word.ensures.no c.if-in_word.false) (no _ _ (c.starts.ensures.no c.if-starts.false) (no _ _ (c.starts-2.ensures.no c.if-starts-2.false) (no _ _ (c.starts_dashes.ensures.no c.if-starts_dashes.false) (yes _ _ (kind_next _ c.args.at.now _ c.requires.left (sym c.in-Some.ensures)) (then_ok _ (byte_ok _ _ c.args.at.now c.requires.left) (gives_ok c.in-Some.ensures)))))))

pub returns-in-None-clause-read : goal.returns-in-None-clause-read
unfolding piece
returns-in-None-clause-read c = no _ _ (c.in_white.ensures.no c.if-in_white.false) (no _ _ (c.in_word.ensures.no c.if-in_word.false) (no _ _ (c.starts.ensures.no c.if-starts.false) (no _ _ (c.starts-2.ensures.no c.if-starts-2.false) (no _ _ (c.starts_dashes.ensures.no c.if-starts_dashes.false) (no _ _ (no_kind _ c.args.at.now c.requires.left (sym c.in-None.ensures)) (fails_here fault_of _ (fault_place c.args.text.now c.args.at.now (omega (arith, c.requires.left)))))))))
