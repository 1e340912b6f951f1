use Rattle.std.proofs.Common.{ℕ, List, sym, subst, arith}
use Rattle.box_events.specs.Events.{EventView}
use Rattle.box_events.specs.BoxViews.{BetweenOf}
use Rattle.box_events.proofs.Copying.{none_between, boundary_after, copies_join}
use Rattle.box_events.proofs.event_box.EventBox.between.Goals as goal

pub loop-at-init : goal.loop-at-init
loop-at-init c = record {
  stretch = subst (λ (l : List EventView). BetweenOf c.args.self.now c.args.from c.args.from l) (sym c.new-copies.ensures.items) (none_between c.args.self.now c.args.from c.requires.from);
  within = c.requires.order;
}

pub copy_run-requires-clause-from : goal.copy_run-requires-clause-from
copy_run-requires-clause-from c = boundary_after c.args.self.now c.args.from c.loop-at.at c.loop-at.copies.items c.loop-at.invariant.stretch

pub loop-at-preserved : goal.loop-at-preserved
loop-at-preserved c = record {
  stretch = copies_join c.args.self.now c.args.from c.loop-at.at c.args.to c.in_ok-at.at c.loop-at.copies.items c.copy_run.new.copies.items c.loop-at.invariant.stretch c.in_ok-at.ensures;
  within = c.in_ok-at.ensures.within;
}

pub returns : goal.returns
returns c = subst (λ (q : ℕ). BetweenOf c.args.self.now c.args.from q c.loop-at.copies.items) (let within = c.loop-at.invariant.within in omega (arith, within, c.loop-at-test.false)) c.loop-at.invariant.stretch
