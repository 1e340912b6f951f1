-- A word is a type or is refused: one of the two, and in one way.
use Rattle.std.proofs.Common.{◌≡◌, ◌⊎◌, ℕ, List, ap, inl, inr}
use Rattle.tl_combinators.specs.Sentences.{TypeRefused}
use Rattle.tl_program.specs.Trees.{Tree}
use Rattle.tl_combinators.proofs.OneProgram.{one_type}
use Rattle.tl_combinators.proofs.Causes.{no_memory_of_type}
use Rattle.tl_schema.specs.Types.{Shape}
use Rattle.tl_schema.specs.Schemas.{Declared}
use Rattle.tl_schema.specs.AskedTypes.{AsksFor, IsTypeText, TypeTextRefused}
use Rattle.tl_schema.specs.declared.fault.TypeCause.{TypeCause}
use Rattle.tl_schema.specs.declared.fault.TypeFault.{TypeFault}
use Rattle.tl_schema.specs.declared.fault.TypeFault.TheVariants as type
use Rattle.tl_schema.proofs.OneType.{type_or_fault, never_type_and_fault, one_type_fault}
use Rattle.schema_files.specs.Causes.{TextCause}
use Rattle.schema_files.specs.Causes.{TypeNameCause}
use Rattle.schema_files.specs.Causes.{Word, Asked}
use Rattle.schema_files.specs.Loaded.{TextRefused, TypeNameRefused, by_text, by_checks}
use Rattle.schema_files.proofs.OneText.{never_refused, one_text_cause, refused_bytes, refused_tokens}

same_cause : (c d : TypeCause) → type.Refused c ≡ type.Refused d → c ≡ d
same_cause c d e = cc

module _ (schema : Declared) (text : List ℕ) where
  never_asked : (cause : TextCause) (t : Tree) → AsksFor text t → TextRefused text (TypeRefused text) cause → ⊥
  never_asked cause t asks r = never_refused text (TypeRefused text) cause asks.tokens asks.lexed (λ f q. (one_type text asks.tokens).never_both t f asks.read q) r

  -- ---- refused for one cause

  pub one_type_cause : (c d : TypeNameCause) → TypeNameRefused schema text c → TypeNameRefused schema text d → c ≡ d
  one_type_cause _ _ (by_text a r) (by_text b s) = ap Word (one_text_cause text (TypeRefused text) (λ ts. (one_type text ts).same_fault) a b r s)
  one_type_cause _ _ (by_text a r) (by_checks t b asks s) = absurd (never_asked a t asks r)
  one_type_cause _ _ (by_checks t a asks r) (by_text b s) = absurd (never_asked b t asks s)
  one_type_cause _ _ (by_checks t a asks r) (by_checks u b also s) = ap Asked (same_cause a b (one_type_fault schema.program text (type.Refused a) (type.Refused b) (t, asks, r) (u, also, s)))

  -- ---- a type is never refused

  pub never_type : (s : Shape) (cause : TypeNameCause) → IsTypeText schema.program text s → TypeNameRefused schema text cause → ⊥
  never_type s _ is (by_text a r) = never_asked a is.t is.asks r
  never_type s _ is (by_checks t a asks r) = never_type_and_fault schema.program text s (type.Refused a) is (t, asks, r)

  -- ---- one of the two

  abbrev Named : Type 0
  Named = ((s : Shape) × IsTypeText schema.program text s) ⊎ ((cause : TypeNameCause) × TypeNameRefused schema text cause)

  text_refused : ((cause : TextCause) × TextRefused text (TypeRefused text) cause) → Named
  text_refused (cause, r) = inr (Word cause, by_text cause r)

  faulty : (f : TypeFault) → TypeTextRefused schema.program text f → Named
  faulty (type.Lex f) r = text_refused (refused_bytes text (TypeRefused text) f r)
  faulty (type.Syntax f) (ts, t, r) = text_refused (refused_tokens text (TypeRefused text) ts f t (no_memory_of_type text ts) r)
  faulty (type.Refused cause) (t, asks, r) = inr (Asked cause, by_checks t cause asks r)
  faulty type.Memory r = absurd r

  named : ((s : Shape) × IsTypeText schema.program text s) ⊎ ((f : TypeFault) × TypeTextRefused schema.program text f) → Named
  named (inl is) = inl is
  named (inr (f, r)) = faulty f r

  pub type_or_refused : Named
  type_or_refused = named (type_or_fault schema.program text)
