use Rattle.std.proofs.Common.{rules, ap, ◌∙◌}
use Rattle.std.proofs.lemmas.Result.{err_from_is_err_and}
use Rattle.tl_base.specs.declared.host.Out.TheVariants.{Output}
use Rattle.tl_schema.specs.Schemas.{Declared}
use Rattle.tl_schema.specs.Seen.{shape}
use Rattle.tl_types.specs.Seen.{view}
use Rattle.outside.specs.Pieces.{Writes}
use Rattle.schema_files.specs.Lines.{line_text}
use Rattle.outside.proofs.Growing.{did_none}
use Rattle.outside.proofs.Piecewise.{can_write}
use Rattle.codec_rooms.proofs.Decoding.{line_done}
use Rattle.codec_rooms.proofs.decode.write_line.Goals as goal

pub returns-in_err-printer : goal.returns-in_err-printer
returns-in_err-printer g c =
    let p = err_from_is_err_and c.from_residual.result c.from_residual.ensures.1 in
    let line = line_text c.args.schema.now.decls (shape c.args.of.now) (view c.args.value.now) in
    rw p.1 (did_none (Writes Output line) (g.H.Host.state c.args.host.now) (can_write Output line))

pub returns-in_err-piece : goal.returns-in_err-piece
returns-in_err-piece g c =
    let p = err_from_is_err_and c.from_residual-in_err-piece.result c.from_residual-in_err-piece.ensures.1 in
    let line = line_text c.args.schema.now.decls (shape c.args.of.now) (view c.args.value.now) in
    rw p.1 (did_none (Writes Output line) (g.H.Host.state c.args.host.now) (can_write Output line))

pub returns : goal.returns
returns g c =
    let line = line_text c.args.schema.now.decls (shape c.args.of.now) (view c.args.value.now) in
    let made = c.new-line.result in
    let now = c.put_line.new.out in
    let same = ap (λ (s : Declared). line_text s.decls (shape c.args.of.now) (view c.args.value.now)) c.in_ok-printer.ensures in
    line_done g.H.Host.state c.args.host.now made.host.now now.host.now c.end.new.self.host.now _ made.failed now.failed made.piece.now.bytes.items now.piece.now.bytes.items line c.end.result
    c.new-line.ensures.failed (c.new-line.ensures.piece ∙ c.in_ok-piece.ensures) c.new-line.ensures.value (rw same at c.put_line.ensures.1) c.end.ensures.ends (search rules)
