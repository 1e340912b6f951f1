use Rattle.std.proofs.lemmas.Result.{err_from_is_err_and}
use Rattle.serde_json.specs.View.{view as data_of}
use Rattle.tl_schema.specs.Seen.{shape}
use Rattle.tl_types.specs.Seen.{view}
use Rattle.tl_show.proofs.ReadAnswers.{form_told, misfit_told}
use Rattle.tl_show.proofs.reading.read.Goals as goal

pub returns-in_err-value : goal.returns-in_err-value
returns-in_err-value c =
    let p = err_from_is_err_and c.from_residual.result c.from_residual.ensures.1 in
    rw (p.1, p.2) (record { reads = form_told c.args.schema.now.decls (shape c.args.of.now) (data_of c.args.json.now) _ c.in_err-value.ensures })

pub returns-in_err-fits : goal.returns-in_err-fits
returns-in_err-fits c =
    let p = err_from_is_err_and c.from_residual-in_err-fits.result c.from_residual-in_err-fits.ensures.1 in
    rw (p.1, p.2) (record {
      reads = misfit_told c.args.schema.now.decls (shape c.args.of.now) (data_of c.args.json.now) (view c.in_ok-value.value) c.in_err-fits.field-0.0 c.in_ok-value.ensures c.in_err-fits.ensures.fits;
    })
