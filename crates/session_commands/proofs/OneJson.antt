-- An input of JSON is one value of a type, or is refused for one cause.
use Rattle.std.proofs.Common.{◌≡◌, ℕ, ◌<◌, List, length, Option, Some, None, Result, Ok, Err, refl, sym, ap, ◌∙◌, subst, arith}
use Rattle.serde_json.specs.Data.{Data}
use Rattle.serde_json.specs.Read.{read as read_text}
use Rattle.tl_schema.specs.Types.{Shape}
use Rattle.tl_schema.specs.Schemas.{Declared}
use Rattle.tl_types.specs.Values.{ValueView}
use Rattle.tl_types.specs.Fitting.{MisfitView}
use Rattle.tl_types.specs.Fitting as fitting
use Rattle.tl_types.specs.declared.misfit.MisfitCause.{MisfitCause}
use Rattle.tl_types.specs.declared.value.TheConstants.{MAX_LEVELS}
use Rattle.tl_show.specs.Reading.{read, Read, FaultView}
use Rattle.tl_show.specs.declared.fault.FormCause.{FormCause}
use Rattle.schema_files.specs.declared.json_input.TheConstants.{JSON_BYTES}
use Rattle.schema_files.specs.Causes.{JsonCause, TooLong, NoJson, Unformed, Misfit}
use Rattle.schema_files.specs.JsonInput.{IsJson, IsNoJson, IsJsonOf, JsonRefused}

never_some : {A : Type 0} (o : Option A) (x : A) → o ≡ Some x → o ≡ None → ⊥
never_some o x some none = absurd cc

never_ok : {A E : Type 0} (r : Result A E) (x : A) (e : E) → r ≡ Ok x → r ≡ Err e → ⊥
never_ok r x e ok err = absurd cc

never_long : (bytes : List ℕ) (d : Data) → JSON_BYTES < length bytes → IsJson bytes d → ⊥
never_long bytes d long is = omega (arith, long, is.0)

never_none : (bytes : List ℕ) (d : Data) → IsNoJson bytes → IsJson bytes d → ⊥
never_none bytes d none is = never_some (read_text bytes) d is.2 (none.1 is.1)

same_json : (bytes : List ℕ) (d e : Data) → IsJson bytes d → IsJson bytes e → d ≡ e
same_json bytes d e is also = let same : ◌≡◌ {A = Option Data} (Some d) (Some e) = sym is.2 ∙ also.2 in cc

module _ (schema : Declared) (T : Shape) (bytes : List ℕ) where
  abbrev ReadTo : Data → Read ValueView → Type 0
  ReadTo d r = read schema.decls T d ≡ r

  read_too : (d e : Data) (r : Read ValueView) → IsJson bytes d → IsJson bytes e → ReadTo e r → ReadTo d r
  read_too d e r is also reads = subst (λ (x : Data). ReadTo x r) (same_json bytes e d also is) reads

  same_value : (r : Read ValueView) (v w : ValueView) → r ≡ Ok v → r ≡ Ok w → v ≡ w
  same_value r v w one other = let both : ◌≡◌ {A = Read ValueView} (Ok v) (Ok w) = sym one ∙ other in cc

  same_fault : (r : Read ValueView) (p q : List ℕ) (c d : FormCause) → r ≡ Err (p, c) → r ≡ Err (q, d) → Unformed p c ≡ Unformed q d
  same_fault r p q c d one other =
      let both : ◌≡◌ {A = Read ValueView} (Err (p, c)) (Err (q, d)) = sym one ∙ other in
      let same : ◌≡◌ {A = FaultView} (p, c) (q, d) = cc in
      ap (λ (f : FaultView). Unformed f.0 f.1) same

  same_misfit : (m : Option MisfitView) (p q : List ℕ) (c d : MisfitCause) → m ≡ Some (p, c) → m ≡ Some (q, d) → Misfit p c ≡ Misfit q d
  same_misfit m p q c d one other =
      let both : ◌≡◌ {A = Option MisfitView} (Some (p, c)) (Some (q, d)) = sym one ∙ other in
      let same : ◌≡◌ {A = MisfitView} (p, c) (q, d) = cc in
      ap (λ (f : MisfitView). Misfit f.0 f.1) same

  abbrev misfit_of : ValueView → Option MisfitView
  misfit_of v = fitting.misfit schema.decls MAX_LEVELS None T v

  pub one_json : (v w : ValueView) → IsJsonOf schema T bytes v → IsJsonOf schema T bytes w → v ≡ w
  one_json v w (d, is, reads, fits) (e, also, says, right) = same_value (read schema.decls T d) v w reads (read_too d e (Ok w) is also says)

  pub never_json : (v : ValueView) (cause : JsonCause) → IsJsonOf schema T bytes v → JsonRefused schema T bytes cause → ⊥
  never_json v TooLong (d, is, reads, fits) long = never_long bytes d long is
  never_json v NoJson (d, is, reads, fits) none = never_none bytes d none is
  never_json v (Unformed path why) (d, is, reads, fits) (e, also, says) = never_ok (read schema.decls T d) v (path, why) reads (read_too d e (Err (path, why)) is also says)
  never_json v (Misfit path why) (d, is, reads, fits) (e, w, also, says, has) =
      let same = same_value (read schema.decls T d) v w reads (read_too d e (Ok w) is also says) in
      never_some (misfit_of w) (path, why) has (subst (λ (x : ValueView). misfit_of x ≡ None) same fits)

  pub one_json_cause : (c d : JsonCause) → JsonRefused schema T bytes c → JsonRefused schema T bytes d → c ≡ d
  one_json_cause TooLong TooLong r s = refl
  one_json_cause TooLong NoJson long none = absurd (omega (arith, long, none.0))
  one_json_cause TooLong (Unformed q k) long (e, also, says) = absurd (never_long bytes e long also)
  one_json_cause TooLong (Misfit q k) long (e, w, also, says, has) = absurd (never_long bytes e long also)
  one_json_cause NoJson TooLong none long = absurd (omega (arith, long, none.0))
  one_json_cause NoJson NoJson r s = refl
  one_json_cause NoJson (Unformed q k) none (e, also, says) = absurd (never_none bytes e none also)
  one_json_cause NoJson (Misfit q k) none (e, w, also, says, has) = absurd (never_none bytes e none also)
  one_json_cause (Unformed p c) TooLong (d, is, reads) long = absurd (never_long bytes d long is)
  one_json_cause (Unformed p c) NoJson (d, is, reads) none = absurd (never_none bytes d none is)
  one_json_cause (Unformed p c) (Unformed q k) (d, is, reads) (e, also, says) = same_fault (read schema.decls T d) p q c k reads (read_too d e (Err (q, k)) is also says)
  one_json_cause (Unformed p c) (Misfit q k) (d, is, reads) (e, w, also, says, has) = absurd (never_ok (read schema.decls T d) w (p, c) (read_too d e (Ok w) is also says) reads)
  one_json_cause (Misfit p c) TooLong (d, v, is, reads, fits) long = absurd (never_long bytes d long is)
  one_json_cause (Misfit p c) NoJson (d, v, is, reads, fits) none = absurd (never_none bytes d none is)
  one_json_cause (Misfit p c) (Unformed q k) (d, v, is, reads, has) (e, also, says) = absurd (never_ok (read schema.decls T d) v (q, k) reads (read_too d e (Err (q, k)) is also says))
  one_json_cause (Misfit p c) (Misfit q k) (d, v, is, reads, has) (e, w, also, says, too) =
      let same = same_value (read schema.decls T d) v w reads (read_too d e (Ok w) is also says) in
      same_misfit (misfit_of v) p q c k has (subst (λ (x : ValueView). misfit_of x ≡ Some (q, k)) (sym same) too)
