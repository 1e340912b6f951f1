use Rattle.std.proofs.Common.{Some, List, ℕ, subst}
use Rattle.tl_base.specs.declared.host.Out.TheVariants.{Link}
use Rattle.outside.specs.Pieces.{Writes}
use Rattle.outside.specs.Begun.{Did}
use Rattle.std.specs.Prelude.{is_ok}
use Rattle.update_sessions.specs.Packed.{SpellsFrame}
use Rattle.session_rooms.proofs.SentMessages.{sent_by}
use Rattle.serve_rooms.proofs.answering.send_frames.Goals as goal

pub returns : goal.returns
returns g c = λ p frames packed.
    sent_by (SpellsFrame p) frames c.args.out.now _ _ (Some (is_ok c.write_out.result)) packed
    (subst (λ (bytes : List ℕ). Did (Writes Link bytes) (g.H.Host.state c.args.host.now) (g.H.Host.state c.write_out.new.host) (Some (is_ok c.write_out.result))) c.as_slice.ensures.value c.write_out.ensures)
