use Rattle.std.proofs.Common.{rules, w64}
use Rattle.std.proofs.lemmas.Int.{to_z-of_z}
use Rattle.box_server.proofs.Taken.{receipts_back, receipts_more}
use Rattle.box_server.proofs.receipts.keep.Goals as goal

pub returns-in-Ok-clause-noted : goal.returns-in-Ok-clause-noted
returns-in-Ok-clause-noted g c =
    receipts_more c.args.receipts.now.entries c.insert.new.self.entries c.args.entry.random_id _ c.args.receipt (to_z-of_z w64 c.args.entry.random_id (search rules)) c.in_ok-insert.ensures.was_ordered c.in_ok-insert.ensures.ordered c.in_ok-insert.ensures.entries

pub returns-in-Err-clause-same : goal.returns-in-Err-clause-same
returns-in-Err-clause-same g c =
    let id = to_z-of_z w64 c.args.entry.random_id (search rules) in (
      receipts_back c.args.receipts.now.entries c.insert.new.self.entries c.remove.new.self.entries c.args.entry.random_id _ _ _ id id c.in_ok-insert.ensures.was_ordered c.requires.fresh c.in_ok-insert.ensures.entries c.remove.ensures.entries,
      c.in-Err.ensures.err,
    )
