use Rattle.std.proofs.Common.{List, ℕ, Some, false, ◌++◌, subst}
use Rattle.std.specs.Prelude.{is_ok}
use Rattle.std.proofs.lemmas.Result.{err_from_is_err_and}
use Rattle.tl_base.specs.declared.host.Out.TheVariants.{Link}
use Rattle.outside.specs.Pieces.{Writes}
use Rattle.outside.specs.Begun.{Did}
use Rattle.session_rooms.proofs.Posting.{written_both, written_cut}
use Rattle.session_rooms.proofs.sending.send_packet.Goals as goal

pub returns-in_err-write_out : goal.returns-in_err-write_out
returns-in_err-write_out g c =
    let q = err_from_is_err_and c.from_residual.result c.from_residual.ensures.1 in
    rw q.1 (subst (λ (h : List ℕ). Did (Writes Link (h ++ c.args.bytes.now)) (g.H.Host.state c.args.host.now) (g.H.Host.state c.write_out.new.host) (Some false)) c.bytes_of_u32.ensures.bytes
    (written_cut Link c.bytes_of_u32.result c.args.bytes.now _ _ c.in_err-write_out.ensures))

pub returns : goal.returns
returns g c =
    subst (λ (h : List ℕ). Did (Writes Link (h ++ c.args.bytes.now)) (g.H.Host.state c.args.host.now) (g.H.Host.state c.write_out-2.new.host) (Some (is_ok c.write_out-2.result))) c.bytes_of_u32.ensures.bytes
    (written_both Link c.bytes_of_u32.result c.args.bytes.now _ _ _ _ c.in_ok-write_out.ensures c.write_out-2.ensures)
