use Rattle.std.proofs.Common.{◌+◌, length, vec_len}
use Rattle.tl_show.proofs.Putting.{Leads}
use Rattle.codec_rooms.specs.inner.Output.{Puts, waiting}
use Rattle.codec_rooms.proofs.output.OutputLineTextSink.put.Given as goal

abbrev pub invariant-loop-rest : goal.invariant-loop-rest
invariant-loop-rest g l =
    let state = g.H.Host.state in
    Leads Puts (waiting (state l.fn.self.host.now) l.fn.self.piece.now.bytes.items l.fn.self.failed l.fn.self.host.ghost_name) (waiting (state l.self.host.now) l.self.piece.now.bytes.items l.self.failed l.self.host.ghost_name) l.rest l.bytes

abbrev pub decreases-loop-rest : goal.decreases-loop-rest
decreases-loop-rest g l = length l.rest + vec_len l.self.piece.now.bytes
