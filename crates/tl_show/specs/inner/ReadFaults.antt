-- Faults of reading, made of those of its two halves. This project's own.
use Rattle.std.specs.Prelude.{◌≡◌, ◌⊎◌}
use Rattle.serde_json.specs.Errors.{IsMemory}
use Rattle.serde_json.specs.declared.error.Error.{Error}
use Rattle.tl_types.specs.declared.misfit.FitFault.{FitFault}
use Rattle.tl_types.specs.declared.misfit.FitFault.TheVariants as fit
use Rattle.tl_show.specs.declared.fault.FormFault.{FormFault}
use Rattle.tl_show.specs.declared.fault.FormFault.TheVariants as form
use Rattle.tl_show.specs.declared.fault.JsonFault.{JsonFault}
use Rattle.tl_show.specs.declared.fault.JsonFault.TheVariants as fault
use Rattle.tl_show.specs.declared.fault.JsonTextFault.{JsonTextFault}
use Rattle.tl_show.specs.declared.fault.JsonTextFault.TheVariants as text

abbrev pub of_form : FormFault → JsonFault
of_form (form.Form path cause) = fault.Form path cause
of_form form.Memory = fault.Memory

abbrev pub of_fit : FitFault → JsonFault
of_fit (fit.Misfit m) = fault.Misfit m
of_fit fit.Memory = fault.Memory

abbrev pub text_fault : FormFault → JsonTextFault
text_fault (form.Form path cause) = text.Form path cause
text_fault form.Memory = text.Memory

-- a text that is refused is no JSON, unless memory was out
abbrev pub OfJsonError : Error → JsonTextFault → Type 0
OfJsonError e f = (IsMemory e × (f ≡ text.Memory)) ⊎ ((IsMemory e → ⊥) × (f ≡ text.NoJson))
