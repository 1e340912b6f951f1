use Rattle.std.proofs.Common.{ap, sym, subst, ◌+◌, ◌++◌, List, ℕ, length}
use Rattle.std.specs.Prelude.{IsErr}
use Rattle.tl_base.specs.Packets.{packet}
use Rattle.tl_base.specs.Using.{Wrote}
use Rattle.tl_base.proofs.Sending.{head_failed, body_written, wrote_then}
use Rattle.tl_base.proofs.packet.write_packet.Goals as goal

pub returns-in_err-write_all-clause-bytes : goal.returns-in_err-write_all-clause-bytes
returns-in_err-write_all-clause-bytes g c =
    head_failed _ _ c.bytes_of_u32.result c.args.piece.now (packet c.args.piece.now) _ c.from_residual.result c.from_residual.ensures.1 (ap (λ (h : List ℕ). h ++ c.args.piece.now) (sym c.bytes_of_u32.ensures.bytes)) c.in_err-write_all.ensures.bytes

pub returns-clause-bytes : goal.returns-clause-bytes
returns-clause-bytes g c =
    body_written _ _ _ c.bytes_of_u32.result c.args.piece.now (packet c.args.piece.now) c.write_all-2.result (ap (λ (h : List ℕ). h ++ c.args.piece.now) (sym c.bytes_of_u32.ensures.bytes)) c.in_ok-write_all.ensures.bytes c.write_all-2.ensures.bytes

pub returns-clause-used : goal.returns-clause-used
returns-clause-used g c =
    let s = g.K.Sink in
    let both = wrote_then (s.state c.args.to.now) (s.state c.write_all.new.to) (s.state c.write_all-2.new.to) c.bytes_of_u32.result (length c.args.piece.now) _ _ c.in_ok-write_all.ensures.bytes c.in_ok-write_all.ensures.used c.write_all-2.ensures.used in
    subst (λ (k : ℕ). Wrote (s.state c.args.to.now) (s.state c.write_all-2.new.to) (k + length c.args.piece.now) (IsErr c.write_all-2.result)) (ap length c.bytes_of_u32.ensures.bytes) both
