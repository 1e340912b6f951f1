-- Which events what follows of a schema and of a type can have, and what a fault's status comes of.
use Rattle.std.proofs.Common.{◌≡◌, ℕ, List, [], ◌++◌, Bool, Option, Some, None, subst}
use Rattle.tl_base.specs.Kinds.{slot_kind}
use Rattle.tl_base.specs.declared.counts.Kind.{Kind}
use Rattle.tl_base.specs.declared.counts.Kind.TheVariants.{Reads}
use Rattle.tl_base.specs.declared.host.Slot.{Slot}
use Rattle.tl_base.specs.declared.host.Slot.TheVariants.{Input}
use Rattle.tl_base.specs.declared.host.Out.TheVariants as outs
use Rattle.tl_schema.specs.Schemas.{Declared}
use Rattle.tl_schema.specs.Types.{Shape}
use Rattle.outside.specs.Answer.{Answer, refused}
use Rattle.outside.specs.declared.status.Status.{Status}
use Rattle.outside.specs.declared.status.Status.TheVariants.{ReadFault}
use Rattle.outside.specs.Events.{Event, opened, took, ended, read_failed, put, write_failed}
use Rattle.outside.specs.Laws.{Happened, IsFailure, Keeps, Explains, HasCause}
use Rattle.outside.specs.Pieces.{ReadsFile}
use Rattle.outside.specs.Printing.{Prints}
use Rattle.outside.proofs.Causing.{keeps_then, keeps_file, keeps_tell, keeps_print, keeps_answer, cause_then, cause_print, cause_answer, cause_tell, explains_last, unread_file}
use Rattle.schema_files.specs.Lines.{schema_line, type_line, plan_line}
use Rattle.schema_files.specs.declared.schema_text.TheConstants.{SCHEMA_BYTES}
use Rattle.codec_commands.specs.Typed.{ToInput}
use Rattle.codec_rooms.specs.Laws.{Named, IsRead, IsOf}
use Rattle.codec_rooms.specs.Typed.{OfSchema, OfType, OfText, no_schema, schema_of, OfPlan, no_plan, planned, OfAsked, no_type, typed, OfWord, after_schema, after_input, OfFile, OfInput}

-- ---- events

module _ (P : Event → Type 0) (errors : (piece : List ℕ) → P (put outs.Errors piece)) (unwritten : P (write_failed outs.Errors)) (output : (piece : List ℕ) → P (put outs.Output piece)) (lost : P (write_failed outs.Output)) where
  refusal : (line : List ℕ) → Keeps P (Prints (refused line))
  refusal line = keeps_print P errors unwritten output lost (refused line)

  keeps_text : (what : List ℕ) (Rest : OfSchema) → ((schema : Declared) → Keeps P (Rest schema)) → (text : List ℕ) → Keeps P (OfText what Rest text)
  keeps_text what Rest rest text t s (no_schema cause r h) = refusal (schema_line what cause) t s h
  keeps_text what Rest rest text t s (schema_of schema is h) = rest schema t s h

  keeps_schema : (what : List ℕ) (Rest : OfSchema) → ((schema : Declared) → Keeps P (Rest schema)) → (text : Option (List ℕ)) → Keeps P (after_schema what Rest text)
  keeps_schema what Rest rest (Some text) = keeps_text what Rest rest text
  keeps_schema what Rest rest None = keeps_tell P errors unwritten _ _

  keeps_plan : (Rest : OfType) (s : Shape) (schema : Declared) → Keeps P (Rest schema s) → Keeps P (OfPlan Rest s schema)
  keeps_plan Rest s schema rest t status (no_plan cause r h) = refusal (plan_line cause) t status h
  keeps_plan Rest s schema rest t status (planned has h) = rest t status h

  pub keeps_asked : (Rest : OfType) (word : List ℕ) → ((schema : Declared) (s : Shape) → Keeps P (Rest schema s)) → (schema : Declared) → Keeps P (OfAsked Rest word schema)
  keeps_asked Rest word rest schema t status (no_type cause r h) = refusal (type_line cause) t status h
  keeps_asked Rest word rest schema t status (typed s is h) = rest schema s t status h

  pub keeps_word : (Rest : OfType) (word : List ℕ) → ((schema : Declared) (s : Shape) → Keeps P (Rest schema s)) → (schema : Declared) → Keeps P (OfWord Rest word schema)
  keeps_word Rest word rest = keeps_asked (λ schema s. OfPlan Rest s schema) word (λ schema s. keeps_plan Rest s schema (rest schema s))

  keeps_told : (Tells : ToInput) (schema : Declared) (s : Shape) (bytes : Option (List ℕ)) → Keeps P (after_input Tells schema s bytes)
  keeps_told Tells schema s (Some bytes) = keeps_answer P errors unwritten output lost (Tells schema s bytes)
  keeps_told Tells schema s None = keeps_tell P errors unwritten _ _

  pub keeps_input : (Tells : ToInput) (input : List ℕ) (limit : ℕ) → ((ok : Bool) → P (opened Input input ok)) → ((bytes : List ℕ) → P (took Input bytes)) → P (ended Input)
      → P (read_failed Input) → (schema : Declared) (s : Shape) → Keeps P (OfInput Tells input limit schema s)
  keeps_input Tells input limit opens each end fail schema s = keeps_then P _ _ (keeps_file P Input input limit opens each end fail) (keeps_told Tells schema s)

  pub keeps_of_file : (slot : Slot) (what : List ℕ) (Rest : OfSchema) (name : List ℕ) → ((ok : Bool) → P (opened slot name ok)) → ((bytes : List ℕ) → P (took slot bytes)) → P (ended slot)
      → P (read_failed slot) → ((schema : Declared) → Keeps P (Rest schema)) → Keeps P (OfFile slot what Rest name)
  keeps_of_file slot what Rest name opens each end fail rest = keeps_then P _ _ (keeps_file P slot name SCHEMA_BYTES opens each end fail) (keeps_schema what Rest rest)

-- a schema's file that is one of a command's
pub keeps_named : (reads : Named) (slot : Slot) (name : List ℕ) → IsRead reads slot name → (what : List ℕ) (Rest : OfSchema) → ((schema : Declared) → Keeps (IsOf reads) (Rest schema))
    → Keeps (IsOf reads) (OfFile slot what Rest name)
keeps_named reads slot name is what Rest = keeps_of_file (IsOf reads) (λ _. tt) tt (λ _. tt) tt slot what Rest name (λ _. is) (λ _. (name, is)) (name, is) (name, is)

-- ---- causes

cause_text : (what : List ℕ) (Rest : OfSchema) → ((schema : Declared) → HasCause (Rest schema)) → (text : List ℕ) → HasCause (OfText what Rest text)
cause_text what Rest rest text t s (no_schema cause r h) = cause_print (refused (schema_line what cause)) tt t s h
cause_text what Rest rest text t s (schema_of schema is h) = rest schema t s h

after_file : (slot : Slot) → slot_kind slot ≡ Reads → (what : List ℕ) (Rest : OfSchema) (name : List ℕ) → ((schema : Declared) → HasCause (Rest schema))
    → (text : Option (List ℕ)) (t u : List Event) (status : Status) → ReadsFile slot name SCHEMA_BYTES t text → after_schema what Rest text u status → Explains status (t ++ u)
after_file slot kind what Rest name rest (Some text) t u status read h = explains_last status t u (cause_text what Rest rest text u status h)
after_file slot kind what Rest name rest None t u status read h = cause_tell _ ReadFault t u status (subst (λ (k : Kind). Happened (IsFailure k) t) kind (unread_file slot name SCHEMA_BYTES t read)) h

pub cause_of_file : (slot : Slot) → slot_kind slot ≡ Reads → (what : List ℕ) (Rest : OfSchema) (name : List ℕ) → ((schema : Declared) → HasCause (Rest schema)) → HasCause (OfFile slot what Rest name)
cause_of_file slot kind what Rest name rest = cause_then (ReadsFile slot name SCHEMA_BYTES) (after_schema what Rest) (after_file slot kind what Rest name rest)

cause_plan : (Rest : OfType) (s : Shape) (schema : Declared) → HasCause (Rest schema s) → HasCause (OfPlan Rest s schema)
cause_plan Rest s schema rest t status (no_plan cause r h) = cause_print (refused (plan_line cause)) tt t status h
cause_plan Rest s schema rest t status (planned has h) = rest t status h

pub cause_asked : (Rest : OfType) (word : List ℕ) → ((schema : Declared) (s : Shape) → HasCause (Rest schema s)) → (schema : Declared) → HasCause (OfAsked Rest word schema)
cause_asked Rest word rest schema t status (no_type cause r h) = cause_print (refused (type_line cause)) tt t status h
cause_asked Rest word rest schema t status (typed s is h) = rest schema s t status h

pub cause_word : (Rest : OfType) (word : List ℕ) → ((schema : Declared) (s : Shape) → HasCause (Rest schema s)) → (schema : Declared) → HasCause (OfWord Rest word schema)
cause_word Rest word rest = cause_asked (λ schema s. OfPlan Rest s schema) word (λ schema s. cause_plan Rest s schema (rest schema s))

module _ (Tells : ToInput) (plain : (schema : Declared) (s : Shape) (bytes : List ℕ) (a : Answer) → Tells schema s bytes a → Explains a.status []) where
  after_told : (input : List ℕ) (limit : ℕ) (schema : Declared) (s : Shape) (bytes : Option (List ℕ)) (t u : List Event) (status : Status) → ReadsFile Input input limit t bytes
      → after_input Tells schema s bytes u status → Explains status (t ++ u)
  after_told input limit schema s (Some bytes) t u status read h = explains_last status t u (cause_answer (Tells schema s bytes) (plain schema s bytes) u status h)
  after_told input limit schema s None t u status read h = cause_tell _ ReadFault t u status (unread_file Input input limit t read) h

  pub cause_input : (input : List ℕ) (limit : ℕ) (schema : Declared) (s : Shape) → HasCause (OfInput Tells input limit schema s)
  cause_input input limit schema s = cause_then (ReadsFile Input input limit) (after_input Tells schema s) (after_told input limit schema s)
