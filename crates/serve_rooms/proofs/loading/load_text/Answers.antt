use Rattle.std.proofs.Common.{Some, None}
use Rattle.std.proofs.lemmas.Result.{err_from_is_err_and}
use Rattle.serve_rooms.proofs.LoadedSchemas.{text_loaded, text_told}
use Rattle.serve_rooms.proofs.loading.load_text.Goals as goal

pub returns-in-Ok : goal.returns-in-Ok
returns-in-Ok g c = text_loaded c.args.text.now c.in-Ok.schema _ c.in-Ok.ensures

pub returns-in_ok-print_made-in-Err : goal.returns-in_ok-print_made-in-Err
returns-in_ok-print_made-in-Err g c = text_told c.args.text.now c.in-Err.fault _ _ (Some c.in_ok-print_made-in-Err.field-0) c.in-Err.ensures c.in_ok-print_made-in-Err.ensures

pub returns-in_err-print_made-in-Err : goal.returns-in_err-print_made-in-Err
returns-in_err-print_made-in-Err g c =
    let q = err_from_is_err_and c.from_residual.result c.from_residual.ensures.1 in
    rw q.1 (text_told c.args.text.now c.in-Err.fault _ _ None c.in-Err.ensures c.in_err-print_made-in-Err.ensures)
