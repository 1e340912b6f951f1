use Rattle.std.proofs.Common.{◌≤◌, List, ℕ, Some, length, true, false, refl, subst, sym, inl}
use Rattle.tl_base.specs.Packets.{packet}
use Rattle.tl_base.specs.declared.host.Out.TheVariants.{Link}
use Rattle.outside.specs.Pieces.{Writes}
use Rattle.outside.specs.Begun.{Did, WritesOnly, to_link}
use Rattle.outside.proofs.Causing.{keeps_write}
use Rattle.outside.proofs.Growing.{did_any, did_both, did_then}
use Rattle.session_rooms.specs.Post.{after_sending}
use Rattle.session_rooms.proofs.post.exchange.Goals as goal

pub send_packet-requires : goal.send_packet-requires
send_packet-requires g c = subst (λ (b : List ℕ). length b ≤ 1048576) (sym c.as_slice.ensures.value) c.requires.short

pub returns-in-Ok : goal.returns-in-Ok
returns-in-Ok g c =
    did_then _ (after_sending c.args.profile.now c.args.call.now.number) _ _ _ true _ (keeps_write (WritesOnly to_link) Link (packet c.args.call.now.bytes) (λ _. inl refl) (inl refl))
    (did_any _ _ _ _ (subst (λ (b : List ℕ). Did (Writes Link (packet b)) (g.H.Host.state c.args.host.now) (g.H.Host.state c.send_packet.new.host) (Some true)) c.as_slice.ensures.value c.in-Ok.ensures)) c.take_reply.ensures

pub returns-in-Err : goal.returns-in-Err
returns-in-Err g c =
    did_both _ (after_sending c.args.profile.now c.args.call.now.number) _ _ _ false _
    (did_any _ _ _ _ (subst (λ (b : List ℕ). Did (Writes Link (packet b)) (g.H.Host.state c.args.host.now) (g.H.Host.state c.send_packet.new.host) (Some false)) c.as_slice.ensures.value c.in-Err.ensures)) (did_any _ _ _ _ c.tell.ensures)
