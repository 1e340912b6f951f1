use Rattle.std.proofs.Common.{◌≡◌, take, map}
use Rattle.tl_layers.specs.Breaks.{field_index}
use Rattle.tl_layers.proofs.moved.origins_of.Given as goal

abbrev pub invariant-loop-m : goal.invariant-loop-m
invariant-loop-m l = l.from.items ≡ map (λ g. field_index l.olds g.name) (take l.m l.news)
