use Rattle.std.proofs.Common.{rules}
use Rattle.std.specs.Ordering.{nat_cmp}
use Rattle.std.specs.Cmp.Lexicographic.{slice_cmp}
use Rattle.std.proofs.lemmas.Fn.{always_returns_same}
use Rattle.pts_machine.proofs.SortedRows.{spot_found, spot_missed}
use Rattle.pts_machine.proofs.table.spot_of.Goals as goal

pub returns-in-Ok-clause-place : goal.returns-in-Ok-clause-place
returns-in-Ok-clause-place c =
    let by_key = c.in-Ok.ensures.position (λ row. slice_cmp nat_cmp row.key c.args.key.now) (always_returns_same _ _ _ (λ row answer f called. search rules)) in
    spot_found c.args.rows.now c.args.key.now _ c.requires.sorted c.in-Ok.ensures.bound by_key

pub returns-in-Err-clause-place : goal.returns-in-Err-clause-place
returns-in-Err-clause-place c =
    let by_key = c.in-Err.ensures.position (λ row. slice_cmp nat_cmp row.key c.args.key.now) (always_returns_same _ _ _ (λ row answer f called. search rules)) in
    spot_missed c.args.rows.now c.args.key.now _ c.requires.sorted c.in-Err.ensures.bound by_key
