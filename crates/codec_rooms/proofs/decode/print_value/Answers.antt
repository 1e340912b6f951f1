use Rattle.std.proofs.Common.{true, false}
use Rattle.std.proofs.lemmas.Result.{err_from_is_err_and}
use Rattle.tl_base.specs.declared.host.Out.TheVariants.{Output}
use Rattle.tl_schema.specs.Seen.{shape}
use Rattle.tl_types.specs.Seen.{view}
use Rattle.outside.specs.Answer.{done}
use Rattle.outside.specs.Pieces.{Writes}
use Rattle.outside.specs.Printing.{after_output}
use Rattle.schema_files.specs.Lines.{line_text}
use Rattle.outside.proofs.Growing.{did_both_at, did_stop}
use Rattle.outside.proofs.Printed.{told_nothing}
use Rattle.codec_rooms.proofs.Decoding.{can_after}
use Rattle.codec_rooms.proofs.decode.print_value.Goals as goal

pub returns-in_err-write_line : goal.returns-in_err-write_line
returns-in_err-write_line g c =
    let p = err_from_is_err_and c.from_residual.result c.from_residual.ensures.1 in
    let line = line_text c.args.schema.now.decls (shape c.args.of.now) (view c.args.value.now) in
    rw p.1 (did_stop (Writes Output line) (after_output (done line)) _ _ (can_after (done line)) c.in_err-write_line.ensures)

pub returns-then-branch : goal.returns-then-branch
returns-then-branch g c =
    let line = line_text c.args.schema.now.decls (shape c.args.of.now) (view c.args.value.now) in
    did_both_at (Writes Output line) (after_output (done line)) _ _ _ c.in_ok-write_line.field-0 true _ c.if-branch.true c.in_ok-write_line.ensures (told_nothing _ _)

pub returns-else-branch : goal.returns-else-branch
returns-else-branch g c =
    let line = line_text c.args.schema.now.decls (shape c.args.of.now) (view c.args.value.now) in
    did_both_at (Writes Output line) (after_output (done line)) _ _ _ c.in_ok-write_line.field-0 false _ c.if-branch.false c.in_ok-write_line.ensures c.tell.ensures
