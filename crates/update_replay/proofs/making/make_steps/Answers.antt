use Rattle.std.proofs.Common.{arith}
use Rattle.box_world.specs.Worlds.{run}
use Rattle.update_replay.specs.Made.{made_steps}
use Rattle.update_replay.proofs.MadeStepping.{begins, early, goes_further, goes_through, stops_so}
use Rattle.update_replay.proofs.making.make_steps.Goals as goal

pub loop-k-init : goal.loop-k-init
loop-k-init c = begins c.args.number c.new-from.result.number c.args.world.now c.new-from.ensures c.requires.new c.requires.fine

pub make_one-requires-clause-stands : goal.make_one-requires-clause-stands
make_one-requires-clause-stands c = (run 2 (made_steps c.args.number c.loop-k.k), c.loop-k.invariant.stands)

pub make_one-requires-clause-date : goal.make_one-requires-clause-date
make_one-requires-clause-date c = early c.args.number c.loop-k.k c.loop-k.at c.loop-k.from.number c.loop-k.world c.loop-k.invariant c.args.count c.loop-k-test.true c.requires.few

pub returns-in_err-at : goal.returns-in_err-at
returns-in_err-at c =
    stops_so c.args.number c.loop-k.k c.loop-k.at c.loop-k.from.number c.make_one.new.from.number c.args.count c.loop-k.world c.make_one.new.world c.in_err-at.field-0.0 c.from_residual.result c.loop-k.invariant c.loop-k-test.true
    (c.in_err-at.ensures.goes (run 2 (made_steps c.args.number c.loop-k.k)) c.loop-k.invariant.stands) c.from_residual.ensures.1

pub loop-k-preserved : goal.loop-k-preserved
loop-k-preserved c =
    goes_further c.args.number c.loop-k.k c.loop-k.at c.loop-k.from.number c.loop-k.world c.loop-k.invariant c.in_ok-at.field-0 c.make_one.new.from.number c.make_one.new.world
    (c.in_ok-at.ensures.goes (run 2 (made_steps c.args.number c.loop-k.k)) c.loop-k.invariant.stands) c.in_ok-at.ensures.clients c.in_ok-at.ensures.sound

pub returns : goal.returns
returns c = goes_through c.args.number c.loop-k.k c.loop-k.at c.loop-k.from.number c.args.count c.loop-k.world c.loop-k.invariant (omega (arith, c.loop-k-test.false, c.loop-k.auto.k-end))
