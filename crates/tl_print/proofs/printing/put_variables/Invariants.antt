use Rattle.std.proofs.Common.{◌≡◌, ◌++◌, drop}
use Rattle.tl_print.specs.Written.{written_variables}
use Rattle.tl_print.proofs.printing.put_variables.Given as goal

abbrev pub invariant-loop-var : goal.invariant-loop-var
invariant-loop-var l = l.out.items ++ written_variables (drop l.var-index l.var-items) ≡ l.fn.out.items ++ written_variables l.var-items
