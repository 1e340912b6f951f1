use Rattle.std.proofs.Common.{sym, ◌∙◌, ap}
use Rattle.box_client.specs.Saving.{unsorted}
use Rattle.box_client.proofs.Loadings.{next_is_bad, lane_is_bad, settings_are_bad, next_in_range, not_zero}
use Rattle.box_client.proofs.loading.check.Goals as goal

pub returns-then-next-eq0-clause-err : goal.returns-then-next-eq0-clause-err
returns-then-next-eq0-clause-err c = next_is_bad c.args.saved.now c.then-next-eq0.either

pub returns-in-Some-clause-err : goal.returns-in-Some-clause-err
returns-in-Some-clause-err c = lane_is_bad c.args.saved.now c.in-Some.lane (next_in_range c.args.saved.now.next (not_zero c.args.saved.now.next c.if-next-eq0.false) c.if-next-gt-MAX_NEXT.false) (sym c.uneven_lane.ensures ∙ c.in-Some.is)

pub returns-in-Some-unsorted-clause-err : goal.returns-in-Some-unsorted-clause-err
returns-in-Some-unsorted-clause-err c =
    settings_are_bad c.args.saved.now c.in-Some-unsorted.place (next_in_range c.args.saved.now.next (not_zero c.args.saved.now.next c.if-next-eq0.false) c.if-next-gt-MAX_NEXT.false) (sym c.uneven_lane.ensures ∙ c.in_default.is)
    (ap unsorted (sym c.as_slice.ensures) ∙ sym c.unsorted.ensures ∙ c.in-Some-unsorted.is)
