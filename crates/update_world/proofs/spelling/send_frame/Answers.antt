use Rattle.std.proofs.Common.{◌≡◌, ◌∙◌, List, [], ◌∷◌, ◌++◌, ap, sym, subst}
use Rattle.std.specs.List.{All}
use Rattle.update_world.specs.declared.sent.SentPacket.{SentPacket}
use Rattle.update_world.specs.inner.Pools.{IsPacket}
use Rattle.update_world.proofs.Carried.{one_packet}
use Rattle.update_world.proofs.spelling.send_frame.Goals as goal

pub send-requires-clause-sizes : goal.send-requires-clause-sizes
send-requires-clause-sizes c =
    let one : c.push_reserved.new.self.items ≡ record { bytes = c.in_ok-bytes.bytes; to = c.args.to } ∷ [] = c.push_reserved.ensures.items ∙ ap (λ (ss : List SentPacket). ss ++ record { bytes = c.in_ok-bytes.bytes; to = c.args.to } ∷ []) c.in_ok-one.ensures.items in
    subst (All IsPacket) (sym one) (one_packet c.args.profile.now c.requires.profile c.args.frame c.args.to c.in_ok-bytes.bytes c.requires.short c.in_ok-bytes.ensures)
