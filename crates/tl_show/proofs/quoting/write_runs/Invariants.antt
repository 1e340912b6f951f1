use Rattle.std.proofs.Common.{length}
use Rattle.json.specs.Print.{escape}
use Rattle.tl_show.proofs.Putting.{Leads}
use Rattle.tl_show.proofs.quoting.write_runs.Given as goal

abbrev pub invariant-loop-after : goal.invariant-loop-after
invariant-loop-after g l = Leads g.S.TextSink.puts l.fn.out l.out (escape l.rest) (escape l.text)

abbrev pub decreases-loop-after : goal.decreases-loop-after
decreases-loop-after g l = length l.rest
