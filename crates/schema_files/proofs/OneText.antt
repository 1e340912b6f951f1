-- Why a text is refused is one: a fault of its bytes, or of its tokens.
use Rattle.std.proofs.Common.{◌≡◌, ℕ, List, Option, Some, None, refl, sym, ap, ◌∙◌, subst}
use Rattle.std.proofs.lemmas.Option.{same_Some}
use Rattle.tl_lexer.specs.declared.token.Token.{Token}
use Rattle.tl_lexer.specs.declared.fault.LexFault.{LexFault}
use Rattle.tl_lexer.specs.declared.fault.LexFault.TheVariants as lex
use Rattle.tl_lexer.specs.Tokens.{Tokens, LexRefused}
use Rattle.tl_lexer.proofs.WholePieces.{one_answer as lexer_law}
use Rattle.tl_combinators.specs.declared.fault.SyntaxFault.{SyntaxFault}
use Rattle.tl_combinators.specs.declared.fault.SyntaxFault.TheVariants as syntax
use Rattle.schema_files.specs.Causes.{TextCause}
use Rattle.schema_files.specs.Causes.{TextTooLong, BadByte, OpenComment, Unexpected, NotProfile, TooMany}
use Rattle.schema_files.specs.Loaded.{TextRefused, too_long, bad_byte, open_comment, unexpected, not_profile, too_many}
use Rattle.schema_files.proofs.OneFault.{no_memory}

-- the cause that a lexer's fault is, and a parser's; out of memory is none
abbrev lex_cause : LexFault → Option TextCause
lex_cause lex.TextTooLong = Some TextTooLong
lex_cause (lex.BadByte at) = Some (BadByte at)
lex_cause (lex.OpenComment at) = Some (OpenComment at)
lex_cause lex.Memory = None

abbrev syntax_cause : SyntaxFault → Option TextCause
syntax_cause (syntax.Unexpected at) = Some (Unexpected at)
syntax_cause (syntax.NotProfile at form) = Some (NotProfile at form)
syntax_cause (syntax.TooMany at) = Some (TooMany at)
syntax_cause syntax.Memory = None

pub same_tokens : (text : List ℕ) (ts us : List Token) → Tokens text ts → Tokens text us → ts ≡ us
same_tokens text ts us h k = (lexer_law text).same_tokens ts us h k

-- the fault that refuses a text for this cause
data Fault (text : List ℕ) (Refuses : List Token → SyntaxFault → Type 0) (cause : TextCause) : Type 0 where
  of_bytes : (f : LexFault) → LexRefused text f → lex_cause f ≡ Some cause → Fault text Refuses cause
  of_tokens : (ts : List Token) (f : SyntaxFault) → Tokens text ts → Refuses ts f → syntax_cause f ≡ Some cause → Fault text Refuses cause

module _ (text : List ℕ) (Refuses : List Token → SyntaxFault → Type 0) where
  fault_of : (cause : TextCause) → TextRefused text Refuses cause → Fault text Refuses cause
  fault_of _ (too_long r) = of_bytes lex.TextTooLong r refl
  fault_of _ (bad_byte at r) = of_bytes (lex.BadByte at) r refl
  fault_of _ (open_comment at r) = of_bytes (lex.OpenComment at) r refl
  fault_of _ (unexpected ts at t r) = of_tokens ts (syntax.Unexpected at) t r refl
  fault_of _ (not_profile ts at form t r) = of_tokens ts (syntax.NotProfile at form) t r refl
  fault_of _ (too_many ts at t r) = of_tokens ts (syntax.TooMany at) t r refl

  moved_refusal : (ts us : List Token) (f : SyntaxFault) → Tokens text ts → Tokens text us → Refuses ts f → Refuses us f
  moved_refusal ts us f t u r = subst (λ (x : List Token). Refuses x f) (same_tokens text ts us t u) r

  -- ---- a text whose tokens are not refused is not

  never_faulty : (cause : TextCause) (ts : List Token) → Tokens text ts → ((f : SyntaxFault) → Refuses ts f → ⊥) → Fault text Refuses cause → ⊥
  never_faulty cause ts t free (of_bytes f r is) = (lexer_law text).never_both (ts, t) (f, r)
  never_faulty cause ts t free (of_tokens us f u r is) = free f (moved_refusal us ts f u t r)

  pub never_refused : (cause : TextCause) (ts : List Token) → Tokens text ts → ((f : SyntaxFault) → Refuses ts f → ⊥) → TextRefused text Refuses cause → ⊥
  never_refused cause ts t free r = never_faulty cause ts t free (fault_of cause r)

  -- ---- tokens with one fault at most are refused for one cause

  module _ (one : (ts : List Token) (f g : SyntaxFault) → Refuses ts f → Refuses ts g → f ≡ g) where
    causes_agree : (c d : TextCause) → Fault text Refuses c → Fault text Refuses d → c ≡ d
    causes_agree c d (of_bytes f r is) (of_bytes g s at) = same_Some c d (sym is ∙ ap lex_cause ((lexer_law text).same_fault f g r s) ∙ at)
    causes_agree c d (of_bytes f r is) (of_tokens ts g t s at) = absurd ((lexer_law text).never_both (ts, t) (f, r))
    causes_agree c d (of_tokens ts g t s is) (of_bytes f r at) = absurd ((lexer_law text).never_both (ts, t) (f, r))
    causes_agree c d (of_tokens ts f t r is) (of_tokens us g u s at) = same_Some c d (sym is ∙ ap syntax_cause (one ts f g r (moved_refusal us ts g u t s)) ∙ at)

    pub one_text_cause : (c d : TextCause) → TextRefused text Refuses c → TextRefused text Refuses d → c ≡ d
    one_text_cause c d r s = causes_agree c d (fault_of c r) (fault_of d s)

  -- ---- each fault is a cause

  pub refused_bytes : (f : LexFault) → LexRefused text f → (cause : TextCause) × TextRefused text Refuses cause
  refused_bytes lex.TextTooLong r = (TextTooLong, too_long r)
  refused_bytes (lex.BadByte at) r = (BadByte at, bad_byte at r)
  refused_bytes (lex.OpenComment at) r = (OpenComment at, open_comment at r)
  refused_bytes lex.Memory r = absurd (no_memory text r)

  pub refused_tokens : (ts : List Token) (f : SyntaxFault) → Tokens text ts → (Refuses ts syntax.Memory → ⊥) → Refuses ts f → (cause : TextCause) × TextRefused text Refuses cause
  refused_tokens ts (syntax.Unexpected at) t never r = (Unexpected at, unexpected ts at t r)
  refused_tokens ts (syntax.NotProfile at form) t never r = (NotProfile at form, not_profile ts at form t r)
  refused_tokens ts (syntax.TooMany at) t never r = (TooMany at, too_many ts at t r)
  refused_tokens ts syntax.Memory t never r = absurd (never r)
