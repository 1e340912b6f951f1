use Rattle.std.proofs.Common.{length}
use Rattle.hex.specs.Hex.{encode_lower}
use Rattle.json.specs.Print.{escape}
use Rattle.tl_show.proofs.Putting.{Leads}
use Rattle.tl_show.proofs.texts.write_digits.Given as goal

abbrev pub invariant-loop-rest : goal.invariant-loop-rest
invariant-loop-rest g l = Leads g.S.TextSink.puts l.fn.out l.out (escape (encode_lower l.rest)) (escape (encode_lower l.bytes))

abbrev pub decreases-loop-rest : goal.decreases-loop-rest
decreases-loop-rest g l = length l.rest
