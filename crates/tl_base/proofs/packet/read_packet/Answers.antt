use Rattle.std.proofs.Common.{rules}
use Rattle.tl_base.proofs.Framing.{body_fault}
use Rattle.tl_base.proofs.packet.read_packet.Goals as goal

pub returns-in-Err-clause-bytes : goal.returns-in-Err-clause-bytes
returns-in-Err-clause-bytes g c =
    let s = g.S.Source in
    rw c.from.ensures (body_fault (s.state c.args.from.now).left (s.state c.take_word.new.from).left (s.state c.take_up_to.new.from).left c.clear-in-Err.new.self c.in-Ok.head c.take_up_to.new.text c.u32_of-length.result c.in-Err.fault
    c.u32_of-length.ensures.bytes (search rules) c.in-Ok.ensures.bytes c.in-Err.ensures.bytes)
