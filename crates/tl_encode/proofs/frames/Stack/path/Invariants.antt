use Rattle.std.proofs.Common.{◌≡◌, ◌-◌, take, map}
use Rattle.tl_encode.proofs.frames.Stack.path.Given as goal

abbrev pub invariant-loop-frame : goal.invariant-loop-frame
invariant-loop-frame l = l.path.items ≡ map (λ f. f.at - 1) (take l.frame-index l.frame-items)
