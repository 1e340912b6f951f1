-- The value that an input of JSON is, from its text and its file.
use Rattle.std.proofs.Common.{◌≡◌, ℕ, ◌≤◌, List, length, None, Err}
use Rattle.tl_schema.specs.Types.{Shape}
use Rattle.tl_schema.specs.Schemas.{Declared}
use Rattle.tl_types.specs.Fitting.{TellsMisfit, misfit}
use Rattle.tl_types.specs.Values.{ValueView}
use Rattle.tl_types.specs.declared.misfit.FitFault.{FitFault}
use Rattle.tl_types.specs.declared.misfit.FitFault.TheVariants as fit
use Rattle.tl_types.specs.declared.value.TheConstants.{MAX_LEVELS}
use Rattle.tl_show.specs.Texts.{TellsText}
use Rattle.tl_show.specs.declared.fault.JsonTextFault.{JsonTextFault}
use Rattle.tl_show.specs.declared.fault.JsonTextFault.TheVariants as reading
use Rattle.outside.specs.declared.stop.LoadError.{LoadError}
use Rattle.outside.specs.Loading.{Refuses, RefusesAs}
use Rattle.outside.proofs.Loaded.{refuses_as, memory_refuses}
use Rattle.schema_files.specs.declared.json_input.TheConstants.{JSON_BYTES}
use Rattle.schema_files.specs.Causes.{JsonCause, NoJson, Unformed, Misfit}
use Rattle.schema_files.specs.Lines.{json_line}
use Rattle.schema_files.specs.JsonInput.{FormRefused, IsForm}
use Rattle.schema_files.specs.Parts.{TellsForm, TellsJson, TellsUnfit}
use Rattle.schema_files.specs.inner.Tellings.{TellsNoForm}

module _ (schema : Declared) (T : Shape) where
  -- ---- a text

  told : (bytes : List ℕ) (cause : JsonCause) (u : LoadError) → FormRefused schema T bytes cause → RefusesAs (json_line cause) u → Refuses (TellsForm schema T bytes) u
  told bytes cause u refused = refuses_as (λ line. line ≡ json_line cause) (TellsForm schema T bytes) u (λ line is. (cause, refused, is))

  pub no_form : (bytes : List ℕ) (f : JsonTextFault) (u : LoadError) → length bytes ≤ JSON_BYTES → TellsText schema.decls T bytes (Err f) → TellsNoForm f u → Refuses (TellsForm schema T bytes) u
  no_form bytes reading.NoJson u few none = told bytes NoJson u (few, none)
  no_form bytes (reading.Form path cause) u few (d, is, tells) = told bytes (Unformed path.items cause) u (d, (few, is.0, is.1), tells)
  no_form bytes reading.Memory u few tells = memory_refuses (TellsForm schema T bytes) u

  -- a value that doesn't fit is told of
  pub unfit : (bytes : List ℕ) (v : ValueView) (f : FitFault) (u : LoadError) → IsForm schema T bytes v → TellsMisfit (misfit schema.decls MAX_LEVELS None T v) (Err f) → TellsUnfit f u → Refuses (TellsJson schema T bytes) u
  unfit bytes v (fit.Misfit m) u (d, is, as_read) tells is_told =
      refuses_as (λ line. line ≡ json_line (Misfit m.path.items m.cause)) (TellsJson schema T bytes) u
      (λ line says. (Misfit m.path.items m.cause, (d, v, is, as_read, tells), says)) is_told
  unfit bytes v fit.Memory u is tells is_told = memory_refuses (TellsJson schema T bytes) u is_told
