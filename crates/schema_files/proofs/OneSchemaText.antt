-- A text is that of a schema or is refused: one of the two, and in one way.
use Rattle.std.proofs.Common.{◌≡◌, ◌⊎◌, ℕ, List, sym, ap, ◌∙◌, subst, inl, inr}
use Rattle.tl_lexer.specs.declared.token.Token.{Token}
use Rattle.tl_lexer.specs.Tokens.{Tokens}
use Rattle.tl_lexer.specs.OneAnswer.{HasTokens, IsRefused}
use Rattle.tl_lexer.proofs.WholePieces.{one_answer as lexer_law}
use Rattle.tl_combinators.specs.declared.fault.SyntaxFault.{SyntaxFault}
use Rattle.tl_program.specs.Program.{DeclText}
use Rattle.tl_combinators.specs.Sentences.{Reads, SyntaxRefused}
use Rattle.tl_combinators.proofs.OneProgram.{one_program}
use Rattle.tl_combinators.proofs.WrittenNumbers.{numbers_fit}
use Rattle.tl_combinators.proofs.Causes.{no_memory as no_memory_of_tokens}
use Rattle.tl_schema.specs.Schemas.{Declared}
use Rattle.tl_schema.specs.CheckCauses.{Passes, RefusedAt}
use Rattle.tl_schema.specs.CheckedPrograms.{IsSchema}
use Rattle.tl_schema.specs.declared.fault.CheckCause.{CheckCause}
use Rattle.tl_schema.proofs.CheckOrder.{passed_or_refused, one_refusal, never_refused_and_passed}
use Rattle.tl_schema.proofs.OneSchema.{same_schema, some_schema}
use Rattle.schema_files.specs.Causes.{SchemaCause}
use Rattle.schema_files.specs.Causes.{Text, Checked}
use Rattle.schema_files.specs.Causes.{TextCause}
use Rattle.schema_files.specs.Loaded.{TextRefused, IsSchemaText, SchemaRefused, by_text, by_checks}
use Rattle.tl_combinators.proofs.WithinLimits.{within_limits}
use Rattle.tl_schema.proofs.SmallPrograms.{small_within_limits}
use Rattle.schema_files.proofs.OneText.{same_tokens, never_refused, one_text_cause, refused_bytes, refused_tokens}

module _ (text : List ℕ) where
  same_program : (ts us : List Token) (ds es : List DeclText) → Tokens text ts → Tokens text us → Reads text ts ds → Reads text us es → ds ≡ es
  same_program ts us ds es h k p q = (one_program text ts).same ds es p (subst (λ (x : List Token). Reads text x es) (sym (same_tokens text ts us h k)) q)

  pub one_schema_text : (s u : Declared) → IsSchemaText text s → IsSchemaText text u → s ≡ u
  one_schema_text s u h k = same_schema s u h.good k.good (same_program h.tokens k.tokens s.program u.program h.lexed k.lexed h.parsed k.parsed)

  -- ---- never a schema and refused

  never_program : (cause : TextCause) (ts : List Token) (ds : List DeclText) → Tokens text ts → Reads text ts ds → TextRefused text (SyntaxRefused text) cause → ⊥
  never_program cause ts ds t p r = never_refused text (SyntaxRefused text) cause ts t (λ f q. (one_program text ts).never_both ds f p q) r

  pub never_schema : (s : Declared) (cause : SchemaCause) → IsSchemaText text s → SchemaRefused text cause → ⊥
  never_schema s _ h (by_text cause r) = never_program cause h.tokens s.program h.lexed h.parsed r
  never_schema s _ h (by_checks ts ds k cause t p r) =
      let same : ds ≡ s.program = same_program ts h.tokens ds s.program t h.lexed p h.parsed in
      never_refused_and_passed s.program k cause (subst (λ (x : List DeclText). RefusedAt x k cause) same r) h.good.passes

  -- ---- refused for one cause

  checks_agree : (ds : List DeclText) (k j : ℕ) (a b : CheckCause) → RefusedAt ds k a → RefusedAt ds j b → Checked k a ≡ Checked j b
  checks_agree ds k j a b r s = let same = one_refusal ds k j a b r s in ap (λ (x : ℕ). Checked x a) same.0 ∙ ap (λ (x : CheckCause). Checked j x) same.1

  pub one_schema_cause : (c d : SchemaCause) → SchemaRefused text c → SchemaRefused text d → c ≡ d
  one_schema_cause _ _ (by_text a r) (by_text b s) = ap Text (one_text_cause text (SyntaxRefused text) (λ ts. (one_program text ts).same_fault) a b r s)
  one_schema_cause _ _ (by_text a r) (by_checks ts ds k b t p s) = absurd (never_program a ts ds t p r)
  one_schema_cause _ _ (by_checks ts ds k a t p r) (by_text b s) = absurd (never_program b ts ds t p s)
  one_schema_cause _ _ (by_checks ts ds k a t p r) (by_checks us es j b u q s) =
      checks_agree ds k j a b r (subst (λ (x : List DeclText). RefusedAt x j b) (sym (same_program ts us ds es t u p q)) s)

  -- ---- one of the two

  abbrev Read : Type 0
  Read = ((s : Declared) × IsSchemaText text s) ⊎ ((cause : SchemaCause) × SchemaRefused text cause)

  text_refused : ((cause : TextCause) × TextRefused text (SyntaxRefused text) cause) → Read
  text_refused (cause, r) = inr (Text cause, by_text cause r)

  schema_read : (ts : List Token) (ds : List DeclText) → Tokens text ts → Reads text ts ds → ((s : Declared) × IsSchema s × (s.program ≡ ds)) → Read
  schema_read ts ds t p (s, good, is) = inl (s, record { tokens = ts; lexed = t; parsed = subst (Reads text ts) (sym is) p; good = good })

  checks : (ts : List Token) (ds : List DeclText) → Tokens text ts → Reads text ts ds → Passes ds ⊎ ((k : ℕ) × (c : CheckCause) × RefusedAt ds k c) → Read
  checks ts ds t p (inl passes) = schema_read ts ds t p (some_schema ds (small_within_limits ds (within_limits text ts ds p)) passes (numbers_fit text ts ds p))
  checks ts ds t p (inr (k, c, r)) = inr (Checked k c, by_checks ts ds k c t p r)

  parses : (ts : List Token) → Tokens text ts → ((ds : List DeclText) × Reads text ts ds) ⊎ ((f : SyntaxFault) × SyntaxRefused text ts f) → Read
  parses ts t (inl (ds, p)) = checks ts ds t p (passed_or_refused ds)
  parses ts t (inr (f, r)) = text_refused (refused_tokens text (SyntaxRefused text) ts f t (no_memory_of_tokens text ts) r)

  lexes : HasTokens text ⊎ IsRefused text → Read
  lexes (inl (ts, t)) = parses ts t (one_program text ts).either
  lexes (inr (f, r)) = text_refused (refused_bytes text (SyntaxRefused text) f r)

  pub schema_or_refused : Read
  schema_or_refused = lexes (lexer_law text).one
