use Rattle.std.proofs.Common.{refl, List, subst, drop, length, ℕ, Ok, Vec, Global}
use Rattle.tl_lexer.specs.Rule.{Parses}
use Rattle.tl_lexer.specs.declared.token.Token.{Token}
use Rattle.tl_lexer.specs.Tokens.{pieces, more, fault_of, place}
use Rattle.tl_lexer.proofs.Steps.{then_ok, then_err, as_err, gives_ok, here_ok, err_any}
use Rattle.tl_lexer.proofs.Turns.{came_more, loop_ok, loop_err}
use Rattle.tl_lexer.proofs.Runs.{some_left, none_left}
use Rattle.tl_lexer.proofs.SurePieces.{place_is}
use Rattle.tl_lexer.proofs.lexer.pieces_of.Goals as goal

pub returns-in_err-kind : goal.returns-in_err-kind
unfolding pieces more
returns-in_err-kind c = as_err c.from_residual.ensures.1 (err_any {look = λ (ts : List Token). ts} {other = drop c.piece_at.new.at c.args.text.now} (loop_err {look = λ (ts : List Token). ts} c.loop-at.invariant.came (some_left _ c.loop-at.at c.loop-at-test.true) (then_ok _ (here_ok (place (length c.args.text.now)) c.loop-at.at _ (place_is _ c.loop-at.at c.loop-at.invariant.inside)) (then_err _ c.in_err-kind.ensures.read))))

pub loop-at-preserved : goal.loop-at-preserved
unfolding more
loop-at-preserved c = record {
  inside = c.in_ok-kind.ensures.inside;
  came = came_more {look = λ (ts : List Token). ts} c.loop-at.invariant.came (some_left _ c.loop-at.at c.loop-at-test.true) (then_ok _ (here_ok (place (length c.args.text.now)) c.loop-at.at _ (place_is _ c.loop-at.at c.loop-at.invariant.inside)) (then_ok _ c.in_ok-kind.ensures.read (then_ok _ (here_ok (place (length c.args.text.now)) c.piece_at.new.at _ (place_is _ c.piece_at.new.at c.in_ok-kind.ensures.inside)) (gives_ok refl)))) c.in_ok-add_piece.ensures.added;
}

pub returns : goal.returns
unfolding pieces
returns c = subst (λ (ts : List ℕ). Parses fault_of (λ (v : Vec Token Global). v.items) (pieces (length c.args.text.now)) c.args.text.now ts (Ok c.loop-at.tokens)) (none_left c.args.text.now c.loop-at.at c.loop-at-test.false) (loop_ok c.loop-at.invariant.came (λ n. n (none_left c.args.text.now c.loop-at.at c.loop-at-test.false)) refl)
