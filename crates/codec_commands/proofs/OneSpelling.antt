-- An input has one answer: that which reading it gives.
use Rattle.std.proofs.Common.{◌≡◌, inr, ℕ, ◌≤◌, List, [], ◌∷◌, ◌++◌, append-nil, length, Ok, Err, sym, ap, ◌∙◌, arith, codes}
use Rattle.tl_schema.specs.Types.{Shape}
use Rattle.tl_schema.specs.Schemas.{Declared}
use Rattle.tl_schema.specs.CheckedPrograms.{IsSchema}
use Rattle.tl_schema.specs.Formed.{IsFormed}
use Rattle.tl_types.specs.Values.{ValueView, depth}
use Rattle.tl_types.specs.Spelling.{Spells}
use Rattle.tl_types.specs.Refusal.{Refused}
use Rattle.tl_types.specs.Offsets.{moved}
use Rattle.tl_types.specs.inner.Reading.{spot, Read, value_at}
use Rattle.tl_types.specs.declared.cause.Cause.{Cause}
use Rattle.tl_types.proofs.Spelling.{spelled}
use Rattle.tl_types.proofs.Refusal.{refused as refused_so}
use Rattle.tl_types.proofs.SchemaTells.{schema_tells}
use Rattle.tl_types.specs.declared.value.TheConstants.{MAX_LEVELS}
use Rattle.outside.specs.Answer.{Answer, done, refused}
use Rattle.schema_files.specs.Lines.{line_text, input_line, cause_text}
use Rattle.codec_commands.specs.Decode.{OfInput, whole, longer, faulty}

module _ (schema : Declared) (good : IsSchema schema) (T : Shape) (formed : IsFormed schema T) (bytes : List ℕ) where
  abbrev input_read : Read ValueView
  input_read = value_at schema.decls MAX_LEVELS T (spot 0 bytes)

  -- a spelling that the bytes begin with is what is read
  reads : (v : ValueView) (x rest : List ℕ) → bytes ≡ x ++ rest → Spells schema T v x → depth v ≤ MAX_LEVELS → input_read ≡ Ok (v, spot (moved 0 (length x)) rest)
  reads v x rest split s d = ap (λ (z : List ℕ). value_at schema.decls MAX_LEVELS T (spot 0 z)) split ∙ spelled schema (schema_tells schema good).numbers v T MAX_LEVELS x rest 0 (omega arith) s d

  -- and a refusal is the fault
  fails : (at : ℕ) (why : Cause) → Refused schema MAX_LEVELS T bytes at why → input_read ≡ Err (moved 0 at, why)
  fails at why r = refused_so schema (schema_tells schema good) MAX_LEVELS T (inr formed) bytes at why 0 (omega arith) r

  -- what is answered, by what is left after the value
  abbrev value_answer : ValueView → ℕ → List ℕ → Answer
  value_answer v place [] = done (line_text schema.decls T v)
  value_answer v place (b ∷ rest) = refused (input_line place (codes "Trailing"))

  abbrev read_answer : Read ValueView → Answer
  read_answer (Ok (v, s)) = value_answer v s.place s.bytes
  read_answer (Err (at, why)) = refused (input_line at (cause_text why))

  answered : (a : Answer) → OfInput schema T bytes a → a ≡ read_answer input_read
  answered a (whole v s d is) = is ∙ sym (ap read_answer (reads v bytes [] (sym (append-nil bytes)) s d))
  answered a (longer v x rest b split s d is) = is ∙ sym (ap read_answer (reads v x (b ∷ rest) split s d))
  answered a (faulty at why r is) = is ∙ sym (ap read_answer (fails at why r))

  pub one_input : (a c : Answer) → OfInput schema T bytes a → OfInput schema T bytes c → a ≡ c
  one_input a c h k = answered a h ∙ sym (answered c k)
