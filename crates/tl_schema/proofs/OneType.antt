-- A text is a type of a program or is refused: one of the two, and in one way.
use Rattle.std.proofs.Common.{◌≡◌, ◌⊎◌, inl, inr, ℕ, List, [], ◌∷◌, Result, Ok, Err, refl, sym, ap, ◌∙◌, subst}
use Rattle.tl_lexer.specs.declared.token.Token.{Token}
use Rattle.tl_lexer.specs.Tokens.{Tokens}
use Rattle.tl_lexer.specs.OneAnswer.{HasTokens, IsRefused}
use Rattle.tl_lexer.proofs.Whole.{Decided}
use Rattle.tl_lexer.proofs.WholePieces.{one_answer as lexer_law}
use Rattle.tl_combinators.specs.declared.fault.SyntaxFault.{SyntaxFault}
use Rattle.tl_program.specs.Trees.{Tree}
use Rattle.tl_program.specs.Program.{DeclText}
use Rattle.tl_combinators.specs.Sentences.{ReadsType, TypeRefused}
use Rattle.tl_combinators.proofs.OneProgram.{one_type}
use Rattle.tl_schema.specs.UnknownType.{BeginsUnknown}
use Rattle.tl_schema.specs.WrongArity.{Misapplies}
use Rattle.tl_schema.specs.NotBare.{HasNoBare}
use Rattle.tl_schema.specs.EmptyElement.{AppliesToEmpty}
use Rattle.tl_schema.specs.Types.{Shape}
use Rattle.tl_schema.specs.Seen.{shape}
use Rattle.tl_schema.specs.declared.schema.TypeRef.{TypeRef}
use Rattle.tl_schema.specs.Meanings.{meaning}
use Rattle.tl_schema.specs.AskedTypes.{asker, TypeHas, type_causes, PassesTypeBy, RefusedTypeBy, AsksFor, IsTypeText, TypeTextRefused, NamesType, GivesType, RefusesType}
use Rattle.tl_schema.specs.declared.fault.TypeCause.{TypeCause}
use Rattle.tl_schema.specs.declared.fault.TypeCause.TheVariants.{UnknownType, WrongArity, NotBare, EmptyElement}
use Rattle.tl_schema.specs.declared.fault.TypeFault.{TypeFault}
use Rattle.tl_schema.specs.declared.fault.TypeFault.TheVariants.{Lex, Syntax, Refused, Memory}
use Rattle.tl_schema.proofs.TypesDecided.{part_decided}
use Rattle.tl_schema.proofs.UnknownTypeFirst.{begins_unknown_decided}
use Rattle.tl_schema.proofs.WrongArityFirst.{misapplies_decided}
use Rattle.tl_schema.proofs.NotBareFirst.{no_bare_decided}
use Rattle.tl_schema.proofs.EmptyElementFirst.{applies_to_empty_decided}

-- ---- each cause is decided

module _ (ds : List DeclText) where
  cause_decided : (c : TypeCause) (t : Tree) → Decided (TypeHas ds c t)
  cause_decided UnknownType t = part_decided (BeginsUnknown ds asker) (begins_unknown_decided ds asker) t
  cause_decided WrongArity t = part_decided (Misapplies ds asker) (misapplies_decided ds asker) t
  cause_decided NotBare t = part_decided (HasNoBare ds asker) (no_bare_decided ds asker) t
  cause_decided EmptyElement t = part_decided (AppliesToEmpty ds asker) (applies_to_empty_decided ds asker) t

  -- ---- a type passes or has one cause

  module _ (t : Tree) where
    abbrev Decision : List TypeCause → Type 0
    Decision cs = PassesTypeBy ds cs t ⊎ ((c : TypeCause) × RefusedTypeBy ds cs t c)

    one_more : (c : TypeCause) (cs : List TypeCause) → Decided (TypeHas ds c t) → Decision cs → Decision (c ∷ cs)
    one_more c cs (inl has) rest = inr (c, inl (refl, has))
    one_more c cs (inr none) (inl passes) = inl (none, passes)
    one_more c cs (inr none) (inr (d, refused)) = inr (d, inr (none, refused))

    decided_by : (cs : List TypeCause) → Decision cs
    decided_by [] = inl tt
    decided_by (c ∷ cs) = one_more c cs (cause_decided c t) (decided_by cs)

    pub type_passed_or_refused : PassesTypeBy ds type_causes t ⊎ ((c : TypeCause) × RefusedTypeBy ds type_causes t c)
    type_passed_or_refused = decided_by type_causes

    never_both : (cs : List TypeCause) (c : TypeCause) → PassesTypeBy ds cs t → RefusedTypeBy ds cs t c → ⊥
    never_both [] c p r = r
    never_both (e ∷ cs) c p (inl (is, has)) = p.0 has
    never_both (e ∷ cs) c p (inr (none, r)) = never_both cs c p.1 r

    pub never_passed_and_refused : (c : TypeCause) → PassesTypeBy ds type_causes t → RefusedTypeBy ds type_causes t c → ⊥
    never_passed_and_refused c p r = never_both type_causes c p r

    one_of : (cs : List TypeCause) (c d : TypeCause) → RefusedTypeBy ds cs t c → RefusedTypeBy ds cs t d → c ≡ d
    one_of [] c d r s = absurd r
    one_of (e ∷ cs) c d (inl (is, has)) (inl (at, also)) = is ∙ sym at
    one_of (e ∷ cs) c d (inl (is, has)) (inr (none, s)) = absurd (none has)
    one_of (e ∷ cs) c d (inr (none, r)) (inl (at, has)) = absurd (none has)
    one_of (e ∷ cs) c d (inr (none, r)) (inr (also, s)) = one_of cs c d r s

    pub one_type_cause : (c d : TypeCause) → RefusedTypeBy ds type_causes t c → RefusedTypeBy ds type_causes t d → c ≡ d
    one_type_cause c d r s = one_of type_causes c d r s

-- ---- a text asks for one type

module _ (text : List ℕ) where
  same_tokens : (ts us : List Token) → Tokens text ts → Tokens text us → ts ≡ us
  same_tokens ts us h k = (lexer_law text).same_tokens ts us h k

  same_reading : (ts us : List Token) (t u : Tree) → Tokens text ts → Tokens text us → ReadsType text ts t → ReadsType text us u → t ≡ u
  same_reading ts us t u h k p q = (one_type text ts).same t u p (subst (λ (x : List Token). ReadsType text x u) (sym (same_tokens ts us h k)) q)

  pub one_asked : (t u : Tree) → AsksFor text t → AsksFor text u → t ≡ u
  one_asked t u a b = same_reading a.tokens b.tokens t u a.lexed b.lexed a.read b.read

  never_read : (ts us : List Token) (t : Tree) (f : SyntaxFault) → Tokens text ts → Tokens text us → ReadsType text ts t → TypeRefused text us f → ⊥
  never_read ts us t f h k p r = (one_type text ts).never_both t f p (subst (λ (x : List Token). TypeRefused text x f) (same_tokens us ts k h) r)

  same_syntax : (ts us : List Token) (f g : SyntaxFault) → Tokens text ts → Tokens text us → TypeRefused text ts f → TypeRefused text us g → f ≡ g
  same_syntax ts us f g h k r s = (one_type text ts).same_fault f g r (subst (λ (x : List Token). TypeRefused text x g) (same_tokens us ts k h) s)

module _ (ds : List DeclText) (text : List ℕ) where
  -- ---- a text is a type or has a fault

  abbrev Answer : Type 0
  Answer = ((s : Shape) × IsTypeText ds text s) ⊎ ((fault : TypeFault) × TypeTextRefused ds text fault)

  passes : (t : Tree) → AsksFor text t → PassesTypeBy ds type_causes t ⊎ ((c : TypeCause) × RefusedTypeBy ds type_causes t c) → Answer
  passes t asks (inl p) = inl (meaning ds asker t, record { t = t; asks = asks; passes = p; means = refl })
  passes t asks (inr (c, r)) = inr (Refused c, (t, asks, r))

  reads : (ts : List Token) → Tokens text ts → ((t : Tree) × ReadsType text ts t) ⊎ ((f : SyntaxFault) × TypeRefused text ts f) → Answer
  reads ts h (inl (t, p)) = passes t (record { tokens = ts; lexed = h; read = p }) (type_passed_or_refused ds t)
  reads ts h (inr (f, r)) = inr (Syntax f, (ts, h, r))

  lexes : HasTokens text ⊎ IsRefused text → Answer
  lexes (inl (ts, h)) = reads ts h (one_type text ts).either
  lexes (inr (f, r)) = inr (Lex f, r)

  pub type_or_fault : Answer
  type_or_fault = lexes (lexer_law text).one

  -- ---- and never both, nor in two ways

  pub one_meaning : (s u : Shape) → IsTypeText ds text s → IsTypeText ds text u → s ≡ u
  one_meaning s u h k = h.means ∙ ap (meaning ds asker) (one_asked text h.t k.t h.asks k.asks) ∙ sym k.means

  pub never_type_and_fault : (s : Shape) (f : TypeFault) → IsTypeText ds text s → TypeTextRefused ds text f → ⊥
  never_type_and_fault s (Lex f) h r = (lexer_law text).never_both (h.asks.tokens, h.asks.lexed) (f, r)
  never_type_and_fault s (Syntax f) h (ts, k, r) = never_read text h.asks.tokens ts h.t f h.asks.lexed k h.asks.read r
  never_type_and_fault s (Refused c) h (t, asks, r) =
      never_passed_and_refused ds t c (subst (PassesTypeBy ds type_causes) (one_asked text h.t t h.asks asks) h.passes) r
  never_type_and_fault s Memory h r = r

  pub one_type_fault : (f g : TypeFault) → TypeTextRefused ds text f → TypeTextRefused ds text g → f ≡ g
  one_type_fault (Lex f) (Lex g) r s = ap Lex ((lexer_law text).same_fault f g r s)
  one_type_fault (Lex f) (Syntax g) r (ts, h, s) = absurd ((lexer_law text).never_both (ts, h) (f, r))
  one_type_fault (Lex f) (Refused c) r (t, asks, s) = absurd ((lexer_law text).never_both (asks.tokens, asks.lexed) (f, r))
  one_type_fault (Lex f) Memory r s = absurd s
  one_type_fault (Syntax f) (Lex g) (ts, h, r) s = absurd ((lexer_law text).never_both (ts, h) (g, s))
  one_type_fault (Syntax f) (Syntax g) (ts, h, r) (us, k, s) = ap Syntax (same_syntax text ts us f g h k r s)
  one_type_fault (Syntax f) (Refused c) (ts, h, r) (t, asks, s) = absurd (never_read text asks.tokens ts t f asks.lexed h asks.read r)
  one_type_fault (Syntax f) Memory r s = absurd s
  one_type_fault (Refused c) (Lex g) (t, asks, r) s = absurd ((lexer_law text).never_both (asks.tokens, asks.lexed) (g, s))
  one_type_fault (Refused c) (Syntax g) (t, asks, r) (ts, h, s) = absurd (never_read text asks.tokens ts t g asks.lexed h asks.read s)
  one_type_fault (Refused c) (Refused d) (t, asks, r) (u, also, s) =
      ap Refused (one_type_cause ds t c d r (subst (λ (x : Tree). RefusedTypeBy ds type_causes x d) (one_asked text u t also asks) s))
  one_type_fault (Refused c) Memory r s = absurd s
  one_type_fault Memory g r s = absurd r

  -- ---- what is answered so is exactly this

  pub gives_type : (r : Result TypeRef TypeFault) → NamesType ds text r → (s : Shape) → IsTypeText ds text s → GivesType s r
  gives_type (Ok type) h s is = one_meaning (shape type) s h is
  gives_type (Err (Lex f)) h s is = absurd (never_type_and_fault s (Lex f) is h)
  gives_type (Err (Syntax f)) h s is = absurd (never_type_and_fault s (Syntax f) is h)
  gives_type (Err (Refused c)) h s is = absurd (never_type_and_fault s (Refused c) is h)
  gives_type (Err Memory) h s is = refl

  pub refuses_type : (r : Result TypeRef TypeFault) → NamesType ds text r → (fault : TypeFault) → TypeTextRefused ds text fault → RefusesType fault r
  refuses_type (Ok type) h fault r = never_type_and_fault (shape type) fault h r
  refuses_type (Err (Lex f)) h fault r = inl (one_type_fault (Lex f) fault h r)
  refuses_type (Err (Syntax f)) h fault r = inl (one_type_fault (Syntax f) fault h r)
  refuses_type (Err (Refused c)) h fault r = inl (one_type_fault (Refused c) fault h r)
  refuses_type (Err Memory) h fault r = inr refl
