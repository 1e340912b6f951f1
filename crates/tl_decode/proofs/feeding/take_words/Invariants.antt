use Rattle.std.proofs.Common.{◌<◌, ◌≤◌}
use Rattle.tl_decode.specs.declared.stack.Found.TheVariants as found
use Rattle.tl_decode.specs.inner.Frames.{found_work, views}
use Rattle.tl_decode.specs.inner.Needs.{piece_work, reads_on}
use Rattle.tl_decode.proofs.PieceSteps.{SoFar}
use Rattle.tl_decode.proofs.feeding.take_words.Given as goal

abbrev pub invariant-words : goal.invariant-words
invariant-words l =
    record {
      so_far : SoFar l.plan (reads_on l.plan l.fn.reading l.fn.at) l.next l.used l.reading l.at;
      work : piece_work l.plan l.reading ≤ piece_work l.plan l.fn.reading;
      less : 0 < l.used → piece_work l.plan l.reading < piece_work l.plan l.fn.reading;
    }

abbrev pub decreases-words : goal.decreases-words
decreases-words l = found_work l.plan (views l.plan l.reading.frames.items) (found.Wants l.reading.wanted)
