use Rattle.std.proofs.Common.{rules}
use Rattle.tl_base.proofs.Appending.{appends_more, appends_kept}
use Rattle.tl_base.proofs.sink.write_all.Goals as goal

pub loop-at-preserved : goal.loop-at-preserved
loop-at-preserved g c =
    let i = c.loop-at.invariant in
    record {
      within = search rules;
      bytes = appends_more _ _ _ c.args.piece.now c.loop-at.at c.in-Ok.count i.bytes c.in-Ok.ensures.bytes;
      used = search rules;
    }

pub returns-in-Err-clause-bytes : goal.returns-in-Err-clause-bytes
returns-in-Err-clause-bytes g c = appends_kept _ _ _ c.args.piece.now c.loop-at.at c.loop-at.invariant.bytes c.in-Err.ensures.bytes
