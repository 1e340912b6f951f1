use Rattle.serve_rooms.proofs.Answered.{none_came, packet_taken}
use Rattle.serve_rooms.proofs.answering.answer_taken.Goals as goal

pub returns-in-Whole : goal.returns-in-Whole
returns-in-Whole g c = packet_taken c.args.profile.now c.args.store.now.server c.args.packet c.in-Whole.bytes c.deref.result.now _ _ _ c.in-Whole.is c.deref.ensures.value c.answer_bytes.ensures

pub returns-in_default : goal.returns-in_default
returns-in_default g c = none_came c.args.profile.now c.args.store.now.server c.args.packet _ c.no_packet.result c.in_default.not-Whole c.no_packet.ensures
