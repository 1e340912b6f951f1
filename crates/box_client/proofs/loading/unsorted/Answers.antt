use Rattle.std.proofs.Common.{sym, ◌∙◌, arith}
use Rattle.box_client.proofs.Orders.{search_goes_on, search_ends}
use Rattle.box_client.proofs.loading.unsorted.Goals as goal

pub loop-i-preserved : goal.loop-i-preserved
loop-i-preserved c = (
  omega arith,
  search_goes_on c.args.settings.now c.loop-i.i c.index-settings-i.result c.index-settings-i-in-loop-i.result c.loop-i.invariant.0 c.loop-i-test.true c.index-settings-i.is c.index-settings-i-in-loop-i.is
      (sym c.is_below.ensures ∙ c.if-not-is_below.false) c.loop-i.invariant.1,
)

pub returns : goal.returns
returns c = search_ends c.args.settings.now c.loop-i.i c.loop-i.invariant.0 c.loop-i-test.false c.loop-i.invariant.1
