-- The type that a word means.
use Rattle.std.proofs.Common.{◌≡◌, ℕ, List, Err, subst}
use Rattle.tl_lexer.specs.declared.fault.LexFault.TheVariants as lex
use Rattle.tl_combinators.specs.declared.fault.SyntaxFault.TheVariants as syntax
use Rattle.tl_schema.specs.Schemas.{Declared}
use Rattle.tl_schema.specs.AskedTypes.{NamesType}
use Rattle.tl_schema.specs.declared.fault.TypeFault.{TypeFault}
use Rattle.tl_schema.specs.declared.fault.TypeFault.TheVariants as type
use Rattle.outside.specs.declared.stop.LoadError.{LoadError}
use Rattle.outside.specs.Loading.{Refuses, RefusesAs}
use Rattle.outside.proofs.Loaded.{refuses_as, memory_refuses}
use Rattle.schema_files.specs.Causes.{TextTooLong, BadByte, OpenComment, Unexpected, NotProfile, TooMany, TypeNameCause, Word, Asked}
use Rattle.schema_files.specs.Lines.{type_line}
use Rattle.schema_files.specs.Loaded.{TypeNameRefused, too_long, bad_byte, open_comment, unexpected, not_profile, too_many, by_text, by_checks}
use Rattle.schema_files.specs.Parts.{TellsType}
use Rattle.schema_files.specs.inner.Tellings.{TellsNoType}

module _ (schema : Declared) (text : List ℕ) where
  told : (cause : TypeNameCause) (u : LoadError) → TypeNameRefused schema text cause → RefusesAs (type_line cause) u → Refuses (TellsType schema text) u
  told cause u refused = refuses_as (λ line. line ≡ type_line cause) (TellsType schema text) u (λ line is. (cause, refused, is))

  no_type : (e : TypeFault) (u : LoadError) → NamesType schema.program text (Err e) → TellsNoType e u → Refuses (TellsType schema text) u
  no_type (type.Lex lex.TextTooLong) u h = told (Word TextTooLong) u (by_text TextTooLong (too_long h))
  no_type (type.Lex (lex.BadByte at)) u h = told (Word (BadByte at)) u (by_text (BadByte at) (bad_byte at h))
  no_type (type.Lex (lex.OpenComment at)) u h = told (Word (OpenComment at)) u (by_text (OpenComment at) (open_comment at h))
  no_type (type.Lex lex.Memory) u h = memory_refuses (TellsType schema text) u
  no_type (type.Syntax (syntax.Unexpected at)) u (tokens, lexed, h) = told (Word (Unexpected at)) u (by_text (Unexpected at) (unexpected tokens at lexed h))
  no_type (type.Syntax (syntax.NotProfile at form)) u (tokens, lexed, h) = told (Word (NotProfile at form)) u (by_text (NotProfile at form) (not_profile tokens at form lexed h))
  no_type (type.Syntax (syntax.TooMany at)) u (tokens, lexed, h) = told (Word (TooMany at)) u (by_text (TooMany at) (too_many tokens at lexed h))
  no_type (type.Syntax syntax.Memory) u h = memory_refuses (TellsType schema text) u
  no_type (type.Refused cause) u (t, asks, has) = told (Asked cause) u (by_checks t cause asks has)
  no_type type.Memory u h = memory_refuses (TellsType schema text) u

  -- the word's bytes are the text
  pub no_type_of : (bytes : List ℕ) (e : TypeFault) (u : LoadError) → bytes ≡ text → NamesType schema.program bytes (Err e) → TellsNoType e u → Refuses (TellsType schema text) u
  no_type_of bytes e u same h = no_type e u (subst (λ (x : List ℕ). NamesType schema.program x (Err e)) same h)
