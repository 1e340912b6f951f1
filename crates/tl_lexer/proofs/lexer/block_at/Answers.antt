use Rattle.std.proofs.Common.{refl, length, arith}
use Rattle.tl_lexer.proofs.Steps.{then_ok, yes, no, gives_ok, fails_here, here_ok}
use Rattle.tl_lexer.specs.Tokens.{block, closes, place, fault_of}
use Rattle.tl_lexer.proofs.Runs.{two_ok}
use Rattle.tl_lexer.proofs.SurePieces.{place_is}
use Rattle.tl_lexer.proofs.lexer.block_at.Goals as goal

pub returns-then-not-starts-clause-read : goal.returns-then-not-starts-clause-read
unfolding block closes
returns-then-not-starts-clause-read c = then_ok _ (here_ok (place (length c.args.text.now)) c.args.at.now _ (place_is _ c.args.at.now (omega (arith, c.requires.left)))) (then_ok _ (two_ok _ _ c.args.at.now c.requires.left) (then_ok _ c.block_end-close.ensures.read (no _ _ (c.starts.ensures.no c.if-not-starts.true) (fails_here fault_of _ refl))))

pub returns-clause-read : goal.returns-clause-read
unfolding block closes
returns-clause-read c = then_ok _ (here_ok (place (length c.args.text.now)) c.args.at.now _ (place_is _ c.args.at.now (omega (arith, c.requires.left)))) (then_ok _ (two_ok _ _ c.args.at.now c.requires.left) (then_ok _ c.block_end-close.ensures.read (yes _ _ (c.starts.ensures.yes c.if-not-starts.false) (then_ok _ (two_ok _ _ c.block_end-close.result (c.starts.ensures.within c.if-not-starts.false)) (gives_ok refl)))))
