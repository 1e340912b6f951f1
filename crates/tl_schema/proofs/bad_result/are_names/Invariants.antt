use Rattle.std.proofs.Common.{◌≡◌, take, map}
use Rattle.tl_program.specs.Trees.{plain, views}
use Rattle.tl_schema.proofs.bad_result.are_names.Given as goal

abbrev pub invariant-loop-i : goal.invariant-loop-i
invariant-loop-i l = take l.i (views l.trees) ≡ take l.i (map plain l.names)
