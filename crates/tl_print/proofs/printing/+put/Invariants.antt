use Rattle.std.proofs.Common.{◌≡◌, ◌++◌, drop, map, true}
use Rattle.tl_program.specs.Trees.{view, trees_of}
use Rattle.tl_print.specs.Written.{written_args}
use Rattle.tl_print.proofs.printing.+put.Given as goal

abbrev pub invariant-put_args-loop-arg : goal.invariant-put_args-loop-arg
invariant-put_args-loop-arg l =
    l.out.items ++ written_args l.first (trees_of (map view (drop l.arg-index l.arg-items))) ≡ l.fn.out.items ++ written_args true (trees_of (map view l.arg-items))
