use Rattle.std.proofs.Common.{◌≡◌, ◌∙◌, ◌++◌, ◌∷◌, [], ap, arith}
use Rattle.box_world.specs.Worlds.{new_clients}
use Rattle.update_world.proofs.Steadying.{one_more_new}
use Rattle.update_world.proofs.world.new_clients.Goals as goal

pub loop-init : goal.loop-init
loop-init c = c.in_ok-clients.ensures.items

pub loop-preserved : goal.loop-preserved
loop-preserved c = c.in_ok-push.ensures.items ∙ (λ i. c.loop.invariant i ++ c.new.ensures i ∷ []) ∙ one_more_new c.loop.counter

pub returns : goal.returns
returns c = let same : c.loop.counter ≡ c.args.number = omega (arith, c.loop.auto.counter-end, c.loop-test.false) in c.loop.invariant ∙ ap new_clients same
