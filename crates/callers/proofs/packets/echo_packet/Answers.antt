use Rattle.std.proofs.Common.{◌∙◌}
use Rattle.callers.proofs.packets.echo_packet.Goals as goal

pub returns-in_err-write_packet-clause-beside : goal.returns-in_err-write_packet-clause-beside
returns-in_err-write_packet-clause-beside g c =
    g.met.L.Link.writing_keeps_beside c.write_packet.new.to c.read_packet.new.from c.write_packet.ensures.used.kept ∙ g.met.L.Link.reading_keeps_beside c.read_packet.new.from c.args.link.now c.read_packet.ensures.used.kept

pub returns-clause-beside : goal.returns-clause-beside
returns-clause-beside g c =
    g.met.L.Link.writing_keeps_beside c.write_packet.new.to c.read_packet.new.from c.write_packet.ensures.used.kept ∙ g.met.L.Link.reading_keeps_beside c.read_packet.new.from c.args.link.now c.read_packet.ensures.used.kept
