-- What follows of a schema's file, of a type's word and of an input's file, also where it is cut short.
use Rattle.std.proofs.Common.{◌≡◌, ◌⊎◌, ℕ, ◌+◌, List, ◌++◌, length, take, refl, sym, subst, arith, inl, inr}
use Rattle.std.proofs.lemmas.Bool.{cases_lt}
use Rattle.std.proofs.lemmas.List.{take_all, length-take}
use Rattle.tl_base.specs.Contents.{Files}
use Rattle.tl_base.specs.Kinds.{slot_kind}
use Rattle.tl_base.specs.Outside.{HasFile}
use Rattle.tl_base.specs.declared.counts.Kind.TheVariants.{Reads}
use Rattle.tl_base.specs.declared.host.Slot.{Slot}
use Rattle.tl_base.specs.declared.host.Slot.TheVariants.{Input}
use Rattle.tl_schema.specs.AskedTypes.{IsTypeText}
use Rattle.tl_schema.specs.Schemas.{Declared}
use Rattle.tl_schema.specs.Types.{Shape}
use Rattle.tl_schema.proofs.OneType.{one_meaning}
use Rattle.outside.specs.Answer.{Answer, refused}
use Rattle.outside.specs.declared.status.Status.{Status}
use Rattle.outside.specs.Events.{Event, Outside}
use Rattle.outside.specs.Printing.{Answers}
use Rattle.outside.specs.Fits.{Fits}
use Rattle.outside.proofs.Fitting.{fits_keeps, reliable_on}
use Rattle.schema_files.specs.Answering.{OfSchemaText, OfSchemaFile}
use Rattle.schema_files.specs.Answering as answering
use Rattle.schema_files.specs.Lines.{schema_line, type_line, plan_line}
use Rattle.schema_files.specs.Loaded.{HasPlan, IsSchemaText}
use Rattle.schema_files.specs.declared.schema_text.TheConstants.{SCHEMA_BYTES}
use Rattle.schema_files.proofs.Answering.{of_schema}
use Rattle.schema_files.proofs.OneTypeName.{never_type}
use Rattle.schema_files.proofs.TypePlans.{never_plan}
use Rattle.codec_commands.specs.Typed.{HasPlannedType, ToInput}
use Rattle.codec_commands.specs.Typed as typing
use Rattle.codec_rooms.specs.Typed.{OfFile, OfInput, OfSchema, OfText, OfType, OfWord, after_input, after_schema, no_plan, no_schema, no_type, planned, schema_of, typed}
use Rattle.codec_rooms.proofs.TypedFiles.{text_stays}
use Rattle.run_laws.proofs.files.Coming.{Comes, ComesTo, comes_as, comes_file, comes_print}
use Rattle.run_laws.proofs.files.Ending.{IsPrinted, refused_printed}
use Rattle.run_laws.proofs.files.Spared.{IsFileSlot, IsSchemaSlot}

-- ---- a schema's file

-- a schema's text is all of its file
pub schema_whole : (file : List ℕ) (schema : Declared) → IsSchemaText (take (4194304 + 1) file) schema → take (4194304 + 1) file ≡ file
schema_whole file schema is = elim (cases_lt 4194304 (length file)) [
  | inl long ↦ absurd (omega (arith, long, is.lexed.0, length-take (4194304 + 1) file))
  | inr few ↦ take_all (4194304 + 1) file (omega (arith, few))
]

module _ (what : List ℕ) (Tells : Declared → Answer → Type 0) (each : (S : Declared) (a : Answer) → Tells S a → IsPrinted a) where
  text_printed : (text : List ℕ) (a : Answer) → OfSchemaText what Tells text a → IsPrinted a
  text_printed text a (answering.no_schema cause r is) = refused_printed (schema_line what cause) a is
  text_printed text a (answering.schema_of S is tells) = each S a tells

  pub file_printed : (files : Files) (name : List ℕ) (a : Answer) → OfSchemaFile what Tells files name a → IsPrinted a
  file_printed files name a (text, has, h) = text_printed text a h

module _ (what : List ℕ) (Rest : OfSchema) (Tells : Declared → Files → Answer → Type 0) (Came : Declared → Type 0) (each : (S : Declared) → Comes (λ s. Tells S s.view.files) (λ s. Came S) (Rest S))
    (slot : Slot) (own : IsFileSlot slot) (kind : slot_kind slot ≡ Reads) (name : List ℕ) (C : Outside → Type 0) (dry : (s : Outside) → IsSchemaSlot slot ⊎ C s)
    (reached : (s : Outside) (file : List ℕ) (S : Declared) → HasFile s.view.files name file → IsSchemaText file S → Came S → C s) where
  abbrev Is : Outside → Answer → Type 0
  Is s a = OfSchemaFile what (λ S b. Tells S s.view.files b) s.view.files name a

  text_comes : (file : List ℕ) (t u v : List Event) (status : Status) (s m n : Outside) → HasFile s.view.files name file → OfText what Rest (take (4194304 + 1) file) (u ++ v) status → Fits t s m → Fits u m n → ComesTo (Is s) (C s) s u v status
  text_comes file t u v status s m n has (no_schema cause r h) f g =
      comes_print (Is s) (C s) s (refused (schema_line what cause)) u v status (file, has, text_stays what (λ S b. Tells S s.view.files b) file (refused (schema_line what cause)) (answering.no_schema cause r refl)) h
  text_comes file t u v status s m n has (schema_of S is h) f g =
      let read : IsSchemaText file S = subst (λ (l : List ℕ). IsSchemaText l S) (schema_whole file S is) is in
      let kept = fits_keeps t s m f in
      let into : (a : Answer) → Tells S m.view.files a → Is s a = λ a tells. (file, has, answering.schema_of S read (subst (λ (fs : Files). Tells S fs a) kept.files tells)) in
      let back : (a : Answer) → Is s a → Tells S m.view.files a =
      λ a is. subst (λ (fs : Files). Tells S fs a) (sym kept.files) (of_schema what (λ X b. Tells X s.view.files b) s.view.files name file S a has read is) in
      comes_as (Tells S m.view.files) (Is s) (Came S) (C s) s m into back (reached s file S has read) (reliable_on s m kept) u v status (each S u v status m n h g)

  pub comes_schema : Comes Is C (OfFile slot what Rest name)
  comes_schema =
      comes_file slot name SCHEMA_BYTES (after_schema what Rest) Is C own kind dry (λ t status h. h) (λ s a is. (is.0, is.1))
      (λ text file t u v status s m n read has is h f g. text_comes file t u v status s m n has (subst (λ (l : List ℕ). OfText what Rest l (u ++ v) status) is h) f g)

-- ---- a type and an input

module _ (Tells : ToInput) (each : (schema : Declared) (T : Shape) (bytes : List ℕ) (a : Answer) → Tells schema T bytes a → IsPrinted a) where
  pub type_printed : (schema : Declared) (word input : List ℕ) (files : Files) (a : Answer) → typing.OfType Tells schema word input files a → IsPrinted a
  type_printed schema word input files a (typing.no_type cause r is) = refused_printed (type_line cause) a is
  type_printed schema word input files a (typing.no_plan T cause means lacks is) = refused_printed (plan_line cause) a is
  type_printed schema word input files a (typing.typed T bytes means has there tells) = each schema T bytes a tells

-- what is answered to the file of an input
abbrev pub ToFile : ToInput → List ℕ → Declared → Shape → Outside → Answer → Type 0
ToFile Tells input schema T s a = (bytes : List ℕ) × HasFile s.view.files input bytes × Tells schema T bytes a

-- the work came to it
abbrev pub Reached : Outside → Type 0
Reached s = Unit {0}

module _ (Rest : OfType) (Tells : ToInput) (input : List ℕ) (each : (schema : Declared) (T : Shape) → Comes (ToFile Tells input schema T) Reached (Rest schema T)) where
  type_tells : (schema : Declared) (word : List ℕ) (T : Shape) (s : Outside) (a : Answer) → IsTypeText schema.program word T → HasPlan schema T → typing.OfType Tells schema word input s.view.files a → ToFile Tells input schema T s a
  type_tells schema word T s a is has (typing.no_type cause r at) = absurd (never_type schema word T cause is r)
  type_tells schema word T s a is has (typing.no_plan U cause also lacks at) = absurd (never_plan schema U cause (subst (HasPlan schema) (one_meaning schema.program word T U is also) has) lacks)
  type_tells schema word T s a is has (typing.typed U bytes also plan there tells) = (bytes, there, subst (λ (x : Shape). Tells schema x bytes a) (one_meaning schema.program word U T also is) tells)

  pub comes_word : (word : List ℕ) (schema : Declared) → Comes (λ s. typing.OfType Tells schema word input s.view.files) (λ s. HasPlannedType schema word) (OfWord Rest word schema)
  comes_word word schema t u status s n (no_type cause r h) f =
      comes_print (typing.OfType Tells schema word input s.view.files) (HasPlannedType schema word) s (refused (type_line cause)) t u status (typing.no_type cause r refl) h
  comes_word word schema t u status s n (typed T is (no_plan cause r h)) f =
      comes_print (typing.OfType Tells schema word input s.view.files) (HasPlannedType schema word) s (refused (plan_line cause)) t u status (typing.no_plan T cause is r refl) h
  comes_word word schema t u status s n (typed T is (planned has h)) f =
      comes_as (ToFile Tells input schema T s) (typing.OfType Tells schema word input s.view.files) (Reached s) (HasPlannedType schema word) s s
      (λ a tells. typing.typed T tells.0 is has tells.1 tells.2) (λ a tells. type_tells schema word T s a is has tells) (λ c. record { meant = T; named = is; planned = has }) (λ r. r) t u status (each schema T t u status s n h f)

-- an input's file, whose bytes up to one past the limit tell what all of them do
module _ (name : List ℕ) (limit : ℕ) (Tells : List ℕ → Answer → Type 0) (stays : (file : List ℕ) (a : Answer) → Tells (take (limit + 1) file) a → Tells file a) where
  abbrev Named : Outside → Answer → Type 0
  Named s a = (bytes : List ℕ) × HasFile s.view.files name bytes × Tells bytes a

  pub bytes_come : (file text : List ℕ) (t u : List Event) (status : Status) (s : Outside) → HasFile s.view.files name file → text ≡ take (limit + 1) file → Answers (Tells text) (t ++ u) status → ComesTo (Named s) (Reached s) s t u status
  bytes_come file text t u status s has is (a, tells, h) = comes_print (Named s) (Reached s) s a t u status (file, has, stays file a (subst (λ (l : List ℕ). Tells l a) is tells)) h

pub comes_input : (Tells : ToInput) (input : List ℕ) (limit : ℕ) (schema : Declared) (T : Shape) → ((file : List ℕ) (a : Answer) → Tells schema T (take (limit + 1) file) a → Tells schema T file a)
    → Comes (ToFile Tells input schema T) Reached (OfInput Tells input limit schema T)
comes_input Tells input limit schema T stays =
    comes_file Input input limit (after_input Tells schema T) (ToFile Tells input schema T) Reached tt refl (λ s. inr tt) (λ t status h. h) (λ s a is. (is.0, is.1))
    (λ text file t u v status s m n read has is h f g. bytes_come input limit (Tells schema T) stays file text u v status s has is h)
