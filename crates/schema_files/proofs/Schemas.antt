-- A schema from its text and its file.
use Rattle.std.proofs.Common.{◌≡◌, ℕ, ◌<◌, List, ◌++◌, length, Err, refl, ap, arith, inl, inr}
use Rattle.std.proofs.lemmas.List.{length-append}
use Rattle.tl_lexer.specs.declared.token.Token.{Token}
use Rattle.tl_lexer.specs.declared.fault.LexFault.{LexFault}
use Rattle.tl_lexer.specs.declared.fault.LexFault.TheVariants as lex
use Rattle.tl_lexer.specs.Lexed.{Lexes}
use Rattle.tl_lexer.specs.Tokens.{Tokens}
use Rattle.tl_combinators.specs.declared.fault.SyntaxFault.{SyntaxFault}
use Rattle.tl_combinators.specs.declared.fault.SyntaxFault.TheVariants as syntax
use Rattle.tl_program.specs.Program.{DeclText}
use Rattle.tl_combinators.specs.Sentences.{Reads, SyntaxRefused, FaultIs}
use Rattle.tl_schema.specs.CheckedPrograms.{Checks}
use Rattle.tl_schema.specs.declared.fault.CheckFault.{CheckFault}
use Rattle.tl_schema.specs.declared.fault.CheckFault.TheVariants as check
use Rattle.outside.specs.declared.stop.LoadError.{LoadError}
use Rattle.outside.specs.Loading.{Refuses, RefusesAs}
use Rattle.outside.proofs.Loaded.{refuses_as, memory_refuses}
use Rattle.schema_files.specs.Causes.{TextCause, TextTooLong, BadByte, OpenComment, Unexpected, NotProfile, TooMany, SchemaCause, Text, Checked}
use Rattle.schema_files.specs.Lines.{schema_line}
use Rattle.schema_files.specs.Loaded.{TextRefused, too_long, bad_byte, open_comment, unexpected, not_profile, too_many, SchemaRefused, by_text, by_checks}
use Rattle.schema_files.specs.Parts.{TellsSchema}
use Rattle.schema_files.specs.inner.Tellings.{TellsLex, TellsSyntax, TellsCheck}

-- ---- the schema of a text

module _ (what text : List ℕ) where
  -- the text is refused for this cause, and that is told
  told : (cause : SchemaCause) (u : LoadError) → SchemaRefused text cause → RefusesAs (schema_line what cause) u → Refuses (TellsSchema what text) u
  told cause u refused = refuses_as (λ line. line ≡ schema_line what cause) (TellsSchema what text) u (λ line is. (cause, refused, is))

  pub no_tokens : {X : Type 0} (view : X → List Token) (e : LexFault) (u : LoadError) → Lexes view text (Err e) → TellsLex what e u → Refuses (TellsSchema what text) u
  no_tokens view lex.TextTooLong u lexed = told (Text TextTooLong) u (by_text TextTooLong (too_long lexed))
  no_tokens view (lex.BadByte at) u lexed = told (Text (BadByte at)) u (by_text (BadByte at) (bad_byte at lexed))
  no_tokens view (lex.OpenComment at) u lexed = told (Text (OpenComment at)) u (by_text (OpenComment at) (open_comment at lexed))
  no_tokens view lex.Memory u lexed = memory_refuses (TellsSchema what text) u

  pub no_program : (tokens : List Token) (e : SyntaxFault) (u : LoadError) → Tokens text tokens → FaultIs (SyntaxRefused text tokens) e → TellsSyntax what e u → Refuses (TellsSchema what text) u
  no_program tokens (syntax.Unexpected at) u lexed parsed = told (Text (Unexpected at)) u (by_text (Unexpected at) (unexpected tokens at lexed parsed))
  no_program tokens (syntax.NotProfile at form) u lexed parsed = told (Text (NotProfile at form)) u (by_text (NotProfile at form) (not_profile tokens at form lexed parsed))
  no_program tokens (syntax.TooMany at) u lexed parsed = told (Text (TooMany at)) u (by_text (TooMany at) (too_many tokens at lexed parsed))
  no_program tokens syntax.Memory u lexed parsed = memory_refuses (TellsSchema what text) u

  pub no_schema : (tokens : List Token) (program : List DeclText) (e : CheckFault) (u : LoadError) → Tokens text tokens → Reads text tokens program → Checks program (Err e) → TellsCheck what e u
      → Refuses (TellsSchema what text) u
  no_schema tokens program (check.Refused decl cause) u lexed parsed refused = told (Checked decl cause) u (by_checks tokens program decl cause lexed parsed refused)
  no_schema tokens program check.Memory u lexed parsed none = memory_refuses (TellsSchema what text) u

-- ---- the schema of a file

-- a text that is too long stays so, and is refused for nothing else
long_text : (bytes read rest : List ℕ) (cause : TextCause) → bytes ≡ read ++ rest → 4194304 < length read → TextRefused read (SyntaxRefused read) cause → TextRefused bytes (SyntaxRefused bytes) cause
long_text bytes read rest _ e long (too_long r) = too_long (inl (omega (arith, ap length e, length-append read rest), refl))
long_text bytes read rest _ e long (bad_byte at (inl r)) = absurd (let no : lex.BadByte at ≡ lex.TextTooLong = r.1 in cc)
long_text bytes read rest _ e long (bad_byte at (inr r)) = absurd (omega (arith, r.0))
long_text bytes read rest _ e long (open_comment at (inl r)) = absurd (let no : lex.OpenComment at ≡ lex.TextTooLong = r.1 in cc)
long_text bytes read rest _ e long (open_comment at (inr r)) = absurd (omega (arith, r.0))
long_text bytes read rest _ e long (unexpected ts at t r) = absurd (omega (arith, t.0))
long_text bytes read rest _ e long (not_profile ts at form t r) = absurd (omega (arith, t.0))
long_text bytes read rest _ e long (too_many ts at t r) = absurd (omega (arith, t.0))

pub long_schema : (bytes read rest : List ℕ) (cause : SchemaCause) → bytes ≡ read ++ rest → 4194304 < length read → SchemaRefused read cause → SchemaRefused bytes cause
long_schema bytes read rest _ e long (by_text cause r) = by_text cause (long_text bytes read rest cause e long r)
long_schema bytes read rest _ e long (by_checks ts ds k c t r has) = absurd (omega (arith, t.0))
