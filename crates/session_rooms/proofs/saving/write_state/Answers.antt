use Rattle.std.proofs.Common.{Some, List, ℕ, true, false, subst}
use Rattle.tl_base.specs.declared.host.Out.TheVariants as outs
use Rattle.outside.specs.Pieces.{Writes}
use Rattle.outside.specs.Begun.{Did}
use Rattle.session_rooms.proofs.LeftClients.{saved_and_told, saved_not}
use Rattle.session_rooms.proofs.saving.write_state.Goals as goal

pub returns-in-Ok : goal.returns-in-Ok
returns-in-Ok g c = λ k is.
    saved_and_told k c.args.saving.now is _ _ _ c.deref.result.now _ c.deref.ensures.value
    (subst (λ (bytes : List ℕ). Did (Writes outs.State bytes) (g.H.Host.state c.args.host.now) (g.H.Host.state c.write_out.new.host) (Some true)) c.as_slice.ensures.value c.in-Ok.ensures) c.print.ensures

pub returns-in-Err : goal.returns-in-Err
returns-in-Err g c = λ k is.
    saved_not k c.args.saving.now is _ _ _ _
    (subst (λ (bytes : List ℕ). Did (Writes outs.State bytes) (g.H.Host.state c.args.host.now) (g.H.Host.state c.write_out.new.host) (Some false)) c.as_slice.ensures.value c.in-Err.ensures) c.tell.ensures
