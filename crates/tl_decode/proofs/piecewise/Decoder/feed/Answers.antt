use Rattle.tl_decode.proofs.FedBytes.{feeds_done, feeds_end, feeds_err, feeds_more, feeds_same, feeds_stopped, in_order, still_decoder}
use Rattle.tl_decode.proofs.piecewise.Decoder.feed.Goals as goal

pub returns-in-Stopped : goal.returns-in-Stopped
returns-in-Stopped c = feeds_same _ _ _ _ _ c.self.view_is (feeds_stopped _ c.args.piece.now c.self.invariant c.in-Stopped.fault c.in-Stopped.is)

pub returns-in-Done : goal.returns-in-Done
returns-in-Done c = feeds_same _ _ _ _ _ c.self.view_is (feeds_done _ c.args.piece.now c.self.invariant c.in-Done.value c.in-Done.is)

pub take_piece-requires : goal.take_piece-requires
take_piece-requires c = in_order _ c.in-Reading.reading c.self.invariant c.in-Reading.is

pub returns-in-Ok-None : goal.returns-in-Ok-None
returns-in-Ok-None c =
    let x = c.in-Ok-None in
    let now = c.take_piece.new in
    feeds_same _ _ _ _ _ c.self.view_is (feeds_more _ c.args.piece.now c.self.invariant c.in-Reading.reading c.in-Reading.is now.reading now.at (rw x.field-0-is at x.ensures.takes) (rw x.field-0-is at x.ensures.less))

pub returns-in-Ok-Some : goal.returns-in-Ok-Some
returns-in-Ok-Some c =
    let x = c.in-Ok-Some in
    let now = c.take_piece.new in
    feeds_same _ _ _ _ _ c.self.view_is (feeds_end _ c.args.piece.now c.self.invariant c.in-Reading.reading c.in-Reading.is now.reading now.at x.value x.used (rw x.field-0-is at x.ensures.takes))

pub returns-in-Err : goal.returns-in-Err
returns-in-Err c =
    let now = c.take_piece.new in
    feeds_same _ _ _ _ _ c.self.view_is (feeds_err _ c.args.piece.now c.self.invariant c.in-Reading.reading c.in-Reading.is now.reading now.at c.in-Err.fault c.in-Err.ensures.takes)

pub invariant_of-self-in-Ok-None : goal.invariant_of-self-in-Ok-None
invariant_of-self-in-Ok-None c =
    let x = c.in-Ok-None in
    let now = c.take_piece.new in
    still_decoder _ _ _ _ c.self.invariant (feeds_more _ c.args.piece.now c.self.invariant c.in-Reading.reading c.in-Reading.is now.reading now.at (rw x.field-0-is at x.ensures.takes) (rw x.field-0-is at x.ensures.less))

pub invariant_of-self-in-Ok-Some : goal.invariant_of-self-in-Ok-Some
invariant_of-self-in-Ok-Some c =
    let x = c.in-Ok-Some in
    let now = c.take_piece.new in
    still_decoder _ _ _ _ c.self.invariant (feeds_end _ c.args.piece.now c.self.invariant c.in-Reading.reading c.in-Reading.is now.reading now.at x.value x.used (rw x.field-0-is at x.ensures.takes))

pub invariant_of-self-in-Err : goal.invariant_of-self-in-Err
invariant_of-self-in-Err c =
    let now = c.take_piece.new in
    still_decoder _ _ _ _ c.self.invariant (feeds_err _ c.args.piece.now c.self.invariant c.in-Reading.reading c.in-Reading.is now.reading now.at c.in-Err.fault c.in-Err.ensures.takes)
