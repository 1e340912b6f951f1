-- What `layers` answers: how many declarations the type reaches, or the first break, or where and why a schema or the type is refused. This project's own.
use Rattle.std.specs.Prelude.{◌≡◌, ℕ, List, ◌++◌, codes, decimal, Result, Ok, Err, Vec}
use Rattle.std.specs.declared.alloc.Global.{Global}
use Rattle.tl_base.specs.Contents.{Files}
use Rattle.tl_base.specs.Outside.{HasFile, IsFile}
use Rattle.tl_schema.specs.Types.{Shape}
use Rattle.tl_schema.specs.Schemas.{Declared}
use Rattle.tl_schema.specs.AskedTypes.{IsTypeText}
use Rattle.outside.specs.Answer.{Answer, done, refused, decl_line}
use Rattle.outside.specs.Jobs.{Job, unlinked_job}
use Rattle.outside.specs.Kept.{KeepsUnread}
use Rattle.outside.specs.Loading.{Refuses}
use Rattle.outside.specs.declared.stop.LoadError.{LoadError}
use Rattle.schema_files.specs.Answering.{OfSchemaFile}
use Rattle.schema_files.specs.Causes.{TypeNameCause}
use Rattle.schema_files.specs.Loaded.{IsSchemaText, TypeNameRefused}
use Rattle.schema_files.specs.Lines.{type_line}
use Rattle.tl_layers.specs.Reached.{Reached}
use Rattle.tl_layers.specs.Breaks.{IsUnbroken, Breaks}
use Rattle.tl_layers.specs.Compared.{IsCount}
use Rattle.tl_layers.specs.declared.fault.Break.{Break}
use Rattle.tl_layers.specs.declared.fault.Break.TheVariants.{Gone, NewNumber, NewVars, TypeSplit, FieldGone, FieldOrder, FieldChanged, FieldAdded}

-- ---- lines

-- a break, and the index of its field
abbrev pub break_text : Break → List ℕ
break_text Gone = codes "Gone"
break_text NewNumber = codes "NewNumber"
break_text NewVars = codes "NewVars"
break_text TypeSplit = codes "TypeSplit"
break_text (FieldGone k) = codes "FieldGone " ++ decimal k
break_text (FieldOrder k) = codes "FieldOrder " ++ decimal k
break_text (FieldChanged k) = codes "FieldChanged " ++ decimal k
break_text (FieldAdded m) = codes "FieldAdded " ++ decimal m

abbrev pub layers_line : ℕ → Break → List ℕ
layers_line decl cause = decl_line (codes "layers") decl (break_text cause)

abbrev pub yes_line : ℕ → List ℕ
yes_line n = (codes "yes " ++ decimal n) ++ codes "\n"

-- ---- layers

-- the type reaches nothing that breaks, or this is the first break
pub data OfLayers (old new : Declared) (T : Shape) (a : Answer) : Type 0 where
  broken : (decl : ℕ) (cause : Break) → Breaks old new T decl cause → a ≡ refused (layers_line decl cause) → OfLayers old new T a
  whole : (n : ℕ) → IsUnbroken old new T → IsCount (Reached old T) n → a ≡ done (yes_line n) → OfLayers old new T a

-- the line of what is answered, or its refusal; out of memory is free
abbrev pub TellsLayers : Declared → Declared → Shape → Result (Vec ℕ Global) LoadError → Type 0
TellsLayers old new T (Ok line) = OfLayers old new T (done line.items)
TellsLayers old new T (Err fault) = Refuses (λ line. OfLayers old new T (refused line)) fault

-- the word is refused as a type, or it is one, and then the new schema's file tells
pub data OfType (old : Declared) (type new : List ℕ) (files : Files) (a : Answer) : Type 0 where
  no_type : (cause : TypeNameCause) → TypeNameRefused old type cause → a ≡ refused (type_line cause) → OfType old type new files a
  typed : (T : Shape) → IsTypeText old.program type T → OfSchemaFile (codes "new") (λ S. OfLayers old S T) files new a → OfType old type new files a

-- layers' answer: the old schema's text is refused, or the type of its schema tells
abbrev pub LayersAnswer : Files → List ℕ → List ℕ → List ℕ → Answer → Type 0
LayersAnswer files old new type a = OfSchemaFile (codes "schema") (λ S. OfType S type new files) files old a

-- files have one answer at most, and one where both are there
pub record HasOneAnswer (files : Files) (old new type : List ℕ) : Type 0 where
  pub one : (a b : Answer) → LayersAnswer files old new type a → LayersAnswer files old new type b → a ≡ b
  pub there : IsFile files old → IsFile files new → (a : Answer) × LayersAnswer files old new type a

abbrev pub EachHasOneAnswer : Type 0
EachHasOneAnswer = (files : Files) (old new type : List ℕ) → HasOneAnswer files old new type

-- the word is one of the schema's types
abbrev pub NamesType : Declared → List ℕ → Type 0
NamesType schema type = (T : Shape) × IsTypeText schema.program type T

-- the work comes to the new schema: the old text is a schema's, and the word is one of its types
pub record ReachesNew (files : Files) (old type : List ℕ) : Type 0 where
  pub text : List ℕ
  pub of : Declared
  pub there : HasFile files old text
  pub accepted : IsSchemaText text of
  pub named : NamesType of type

-- `layers OLD NEW TYPE`
abbrev pub layers_job : List ℕ → List ℕ → List ℕ → Job
layers_job old new type = unlinked_job (λ v a. LayersAnswer v.files old new type a) ⊥ (λ v w. KeepsUnread (ReachesNew v.files old type) v w)
