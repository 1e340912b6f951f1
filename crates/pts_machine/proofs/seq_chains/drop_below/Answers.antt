use Rattle.std.proofs.Common.{length, arith, ap, ◌∙◌}
use Rattle.pts_machine.proofs.Maps.{len_some, len_taken}
use Rattle.pts_machine.specs.Totals.{total}
use Rattle.pts_machine.proofs.Sums.{total_taken}
use Rattle.pts_machine.proofs.Below.{from_removed, all_from}
use Rattle.pts_machine.proofs.seq_chains.drop_below.Goals as goal

pub overflow_sub-waiting : goal.overflow_sub-waiting
overflow_sub-waiting c =
    let t = c.in-Some.ensures.taken in
    omega (arith, c.packs.invariant.total, total_taken c.packs.gap.held t.0 _ t.2, ap length c.open-settings.ensures.settings, c.open-settings.result.1.ok.0, c.len-waiting.ensures)

pub packs-smaller : goal.packs-smaller
packs-smaller c =
    let t = c.in-Some.ensures.taken in
    rw t.3 (omega (arith, len_some c.packs.gap.held t.0 _ t.2, len_taken c.packs.gap.held t.0 _ t.2))

pub packs-preserved : goal.packs-preserved
packs-preserved c =
    let i = c.packs.invariant in
    let t = c.in-Some.ensures.taken in
    record {
      held = rw t.3 (from_removed c.args.at t.0 c.packs.gap.held t.1 ∙ i.held);
      total = omega (arith, i.total, total_taken c.packs.gap.held t.0 _ t.2, ap length c.open-settings.ensures.settings, c.open-settings.result.1.ok.0, ap total t.3, c.len-waiting.ensures);
      less = omega (arith, i.less);
      spare = omega (arith, i.spare, c.in-Some.ensures.spare);
    }

pub returns-clause-held : goal.returns-clause-held
returns-clause-held c =
    let t = rw c.in_default.is at c.take_below.ensures.taken in
    ap (λ g. g.held) t.1 ∙ all_from c.args.at c.packs.gap.held t.0 ∙ c.packs.invariant.held
