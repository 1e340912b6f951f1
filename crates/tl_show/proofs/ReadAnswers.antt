-- What reading answers, by what its two halves answer.
use Rattle.std.proofs.Common.{◌≡◌, List, None, Ok, Err}
use Rattle.serde_json.specs.Data.{Data}
use Rattle.tl_schema.specs.Types.{Shape}
use Rattle.tl_schema.specs.Schemas.{Declaration}
use Rattle.tl_types.specs.Values.{ValueView}
use Rattle.tl_types.specs.Fitting.{TellsMisfit, misfit}
use Rattle.tl_types.specs.declared.misfit.FitFault.{FitFault}
use Rattle.tl_types.specs.declared.misfit.FitFault.TheVariants as fit
use Rattle.tl_types.specs.declared.value.TheConstants.{MAX_LEVELS}
use Rattle.tl_show.specs.Reading.{TellsRead, read}
use Rattle.tl_show.specs.inner.FormTells.{TellsFault}
use Rattle.tl_show.specs.inner.ReadFaults.{of_fit, of_form}
use Rattle.tl_show.specs.declared.fault.FormFault.{FormFault}
use Rattle.tl_show.specs.declared.fault.FormFault.TheVariants as form

module _ (ds : List Declaration) (T : Shape) (d : Data) where
  pub form_told : (fault : FormFault) → TellsFault (read ds T d) fault → TellsRead ds T d (Err (of_form fault))
  form_told (form.Form path cause) tells = tells
  form_told form.Memory tells = tt

  pub misfit_told : (v : ValueView) (fault : FitFault) → read ds T d ≡ Ok v → TellsMisfit (misfit ds MAX_LEVELS None T v) (Err fault) → TellsRead ds T d (Err (of_fit fault))
  misfit_told v (fit.Misfit m) is tells = (v, is, tells)
  misfit_told v fit.Memory is tells = tt
