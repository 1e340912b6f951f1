-- What `encode` answers is one.
use Rattle.std.proofs.Common.{◌≡◌, ℕ, ◌<◌, ◌≤◌, List, length, Option, Some, None, Result, Ok, Err, sym, ap, ◌∙◌, subst, arith}
use Rattle.serde_json.specs.Data.{Data}
use Rattle.serde_json.specs.Read.{read as read_text}
use Rattle.tl_base.specs.Contents.{Files}
use Rattle.tl_schema.specs.Types.{Shape}
use Rattle.tl_schema.specs.Schemas.{Declared}
use Rattle.tl_schema.specs.CheckedPrograms.{IsSchema}
use Rattle.tl_schema.specs.Formed.{IsFormed}
use Rattle.tl_types.specs.Values.{ValueView, depth}
use Rattle.tl_types.specs.Spelling.{Spells}
use Rattle.tl_types.specs.Fitting as fitting
use Rattle.tl_types.specs.declared.misfit.MisfitCause.{MisfitCause}
use Rattle.tl_types.specs.declared.value.TheConstants.{MAX_LEVELS}
use Rattle.tl_types.proofs.FitsAreSpelled.{each_fits_exactly}
use Rattle.tl_encode.proofs.OneSpelling.{one_spelling}
use Rattle.tl_show.specs.Reading.{read, Read, FaultView}
use Rattle.tl_show.specs.declared.fault.FormCause.{FormCause}
use Rattle.outside.specs.Answer.{Answer, done, refused}
use Rattle.schema_files.specs.declared.json_input.TheConstants.{JSON_BYTES}
use Rattle.schema_files.specs.JsonInput.{IsJson, IsNoJson}
use Rattle.schema_files.specs.Lines.{whole_input_line, form_text, misfit_text}
use Rattle.codec_commands.specs.Encode.{OfJson, too_long, no_json, badly_formed, misfit, spelled, EncodeAnswer}
use Rattle.codec_commands.proofs.OneTyped.{one_typed}

-- ---- what never holds of one input

never_some : {A : Type 0} (o : Option A) (x : A) → o ≡ Some x → o ≡ None → ⊥
never_some o x some none = absurd cc

never_ok : {A E : Type 0} (r : Result A E) (x : A) (e : E) → r ≡ Ok x → r ≡ Err e → ⊥
never_ok r x e ok err = absurd cc

never_long : (bytes : List ℕ) (d : Data) → JSON_BYTES < length bytes → IsJson bytes d → ⊥
never_long bytes d long is = omega (arith, is.0)

never_no_json : (bytes : List ℕ) (d : Data) → IsNoJson bytes → IsJson bytes d → ⊥
never_no_json bytes d none is = never_some (read_text bytes) d is.2 (none.1 is.1)

one_json : (bytes : List ℕ) (d e : Data) → IsJson bytes d → IsJson bytes e → d ≡ e
one_json bytes d e is also = let same : ◌≡◌ {A = Option Data} (Some d) (Some e) = sym is.2 ∙ also.2 in cc

-- ---- one answer

module _ (schema : Declared) (good : IsSchema schema) (T : Shape) (formed : IsFormed schema T) (bytes : List ℕ) where
  -- what the JSON is read to
  abbrev ReadTo : Data → Read ValueView → Type 0
  ReadTo d r = read schema.decls T d ≡ r

  -- what one of two JSONs is read to is what the other is
  read_too : (d e : Data) (r : Read ValueView) → IsJson bytes d → IsJson bytes e → ReadTo e r → ReadTo d r
  read_too d e r is also reads = subst (λ (x : Data). ReadTo x r) (one_json bytes e d also is) reads

  same_fault : (r : Read ValueView) (p q : List ℕ) (c d : FormCause) → r ≡ Err (p, c) → r ≡ Err (q, d) → refused (whole_input_line (form_text p c)) ≡ refused (whole_input_line (form_text q d))
  same_fault r p q c d one other =
      let both : ◌≡◌ {A = Read ValueView} (Err (p, c)) (Err (q, d)) = sym one ∙ other in
      let same : ◌≡◌ {A = FaultView} (p, c) (q, d) = cc in
      ap (λ (f : FaultView). refused (whole_input_line (form_text f.0 f.1))) same

  same_value : (r : Read ValueView) (v w : ValueView) → r ≡ Ok v → r ≡ Ok w → v ≡ w
  same_value r v w one other = let both : ◌≡◌ {A = Read ValueView} (Ok v) (Ok w) = sym one ∙ other in cc

  same_misfit : (m : Option fitting.MisfitView) (p q : List ℕ) (c d : MisfitCause) → m ≡ Some (p, c) → m ≡ Some (q, d)
      → refused (whole_input_line (misfit_text p c)) ≡ refused (whole_input_line (misfit_text q d))
  same_misfit m p q c d one other =
      let both : ◌≡◌ {A = Option fitting.MisfitView} (Some (p, c)) (Some (q, d)) = sym one ∙ other in
      let same : ◌≡◌ {A = fitting.MisfitView} (p, c) (q, d) = cc in
      ap (λ (f : fitting.MisfitView). refused (whole_input_line (misfit_text f.0 f.1))) same

  abbrev misfit_of : ValueView → Option fitting.MisfitView
  misfit_of v = fitting.misfit schema.decls MAX_LEVELS None T v

  fits : (v : ValueView) (x : List ℕ) → Spells schema T v x → depth v ≤ MAX_LEVELS → misfit_of v ≡ None
  fits v x s deep = (each_fits_exactly schema good MAX_LEVELS T v formed).fits x s deep

  -- what is misfit has no spelling within the levels
  never_spelled : (v w : ValueView) (m : fitting.MisfitView) (x : List ℕ) → v ≡ w → misfit_of v ≡ Some m → Spells schema T w x → depth w ≤ MAX_LEVELS → ⊥
  never_spelled v w m x same has s deep = never_some (misfit_of w) m (subst (λ (u : ValueView). misfit_of u ≡ Some m) same has) (fits w x s deep)

  same_spelling : (v w : ValueView) (x y : List ℕ) → v ≡ w → Spells schema T v x → Spells schema T w y → x ≡ y
  same_spelling v w x y same s r = one_spelling schema v T x y s (subst (λ (u : ValueView). Spells schema T u y) (sym same) r)

  pub one_input : (a c : Answer) → OfJson schema T bytes a → OfJson schema T bytes c → a ≡ c
  one_input a c (too_long long is) (too_long also at) = is ∙ sym at
  one_input a c (too_long long is) (no_json none at) = absurd (omega (arith, none.0))
  one_input a c (too_long long is) (badly_formed e q k json reads at) = absurd (never_long bytes e long json)
  one_input a c (too_long long is) (misfit e w q k json reads has at) = absurd (never_long bytes e long json)
  one_input a c (too_long long is) (spelled e w y json reads s deep at) = absurd (never_long bytes e long json)
  one_input a c (no_json none is) (too_long long at) = absurd (omega (arith, none.0))
  one_input a c (no_json none is) (no_json also at) = is ∙ sym at
  one_input a c (no_json none is) (badly_formed e q k json reads at) = absurd (never_no_json bytes e none json)
  one_input a c (no_json none is) (misfit e w q k json reads has at) = absurd (never_no_json bytes e none json)
  one_input a c (no_json none is) (spelled e w y json reads s deep at) = absurd (never_no_json bytes e none json)
  one_input a c (badly_formed d p k json reads is) (too_long long at) = absurd (never_long bytes d long json)
  one_input a c (badly_formed d p k json reads is) (no_json none at) = absurd (never_no_json bytes d none json)
  one_input a c (badly_formed d p k json reads is) (badly_formed e q l also says at) = is ∙ same_fault _ p q k l reads (read_too d e _ json also says) ∙ sym at
  one_input a c (badly_formed d p k json reads is) (misfit e w q l also says has at) = absurd (never_ok _ w (p, k) (read_too d e _ json also says) reads)
  one_input a c (badly_formed d p k json reads is) (spelled e w y also says s deep at) = absurd (never_ok _ w (p, k) (read_too d e _ json also says) reads)
  one_input a c (misfit d v p k json reads has is) (too_long long at) = absurd (never_long bytes d long json)
  one_input a c (misfit d v p k json reads has is) (no_json none at) = absurd (never_no_json bytes d none json)
  one_input a c (misfit d v p k json reads has is) (badly_formed e q l also says at) = absurd (never_ok _ v (q, l) reads (read_too d e _ json also says))
  one_input a c (misfit d v p k json reads has is) (misfit e w q l also says too at) =
      let same = same_value _ w v (read_too d e _ json also says) reads in
      is ∙ same_misfit (misfit_of v) p q k l has (subst (λ (u : ValueView). misfit_of u ≡ Some (q, l)) same too) ∙ sym at
  one_input a c (misfit d v p k json reads has is) (spelled e w y also says s deep at) =
      absurd (never_spelled v w (p, k) y (same_value _ v w reads (read_too d e _ json also says)) has s deep)
  one_input a c (spelled d v x json reads s deep is) (too_long long at) = absurd (never_long bytes d long json)
  one_input a c (spelled d v x json reads s deep is) (no_json none at) = absurd (never_no_json bytes d none json)
  one_input a c (spelled d v x json reads s deep is) (badly_formed e q l also says at) = absurd (never_ok _ v (q, l) reads (read_too d e _ json also says))
  one_input a c (spelled d v x json reads s deep is) (misfit e w q l also says has at) =
      absurd (never_spelled w v (q, l) x (same_value _ w v (read_too d e _ json also says) reads) has s deep)
  one_input a c (spelled d v x json reads s deep is) (spelled e w y also says r deep_too at) =
      is ∙ ap done (same_spelling v w x y (same_value _ v w reads (read_too d e _ json also says)) s r) ∙ sym at

pub one_encode : (files : Files) (s t i : List ℕ) (a c : Answer) → EncodeAnswer files s t i a → EncodeAnswer files s t i c → a ≡ c
one_encode = one_typed OfJson one_input
