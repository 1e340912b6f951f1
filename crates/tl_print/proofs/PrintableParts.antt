-- What names, types and fields are like that the tokens of a text read as.
use Rattle.std.proofs.Common.{◌≡◌, ℕ, zero, suc, ◌+◌, ◌*◌, ◌^◌, ◌<◌, ◌≤◌, List, [], ◌∷◌, length, Bool, true, false, Option, Some, None, refl, sym, ◌∙◌, ap, subst, inl, inr, arith}
use Rattle.std.specs.Prelude.{◌||◌, nat_lt, codes}
use Rattle.std.specs.List.{fold, list_all}
use Rattle.std.proofs.Math.Nat.{pow-suc}
use Rattle.std.proofs.lemmas.Bool.{and_parts, both_ways, cases_eq}
use Rattle.std.proofs.lemmas.List.Sums.{list_all-from_AllPass}
use Rattle.tl_numbers.specs.HexText.{digit_value, with_digit, IsHexText, hex_value}
use Rattle.tl_numbers.specs.HexText.{is_digit as is_hex_digit}
use Rattle.tl_numbers.proofs.Digits.{digit_below}
use Rattle.tl_lexer.specs.Rule.{Rule, Next, gives, fails, one, chain, choice}
use Rattle.tl_lexer.specs.declared.token.Token.{Token}
use Rattle.tl_lexer.specs.declared.token.TokenKind.{TokenKind}
use Rattle.tl_lexer.specs.declared.token.TokenKind.TheVariants.{Word}
use Rattle.tl_lexer.specs.Spelled.{SpellsKind, SpellsRow}
use Rattle.tl_combinators.specs.declared.fault.SyntaxFault.{SyntaxFault}
use Rattle.tl_program.specs.Letters.{first_is, is_lower, is_letter}
use Rattle.tl_combinators.specs.Tokens.{bytes_of, token, letter_word, this_word, IsWord}
use Rattle.tl_combinators.specs.Names.{NameText, joined, IsObject, name_from, name, declared_name, type_name, hex, vector_number, IsOtherNumber, vector_hex, number_by, number, vector_line_number}
use Rattle.tl_program.specs.Trees.{Tree, named, percent, any_call, trees_of}
use Rattle.tl_combinators.specs.Types.{one_opens, opens, closes, in_parens, one_term, terms, one_listed, listed, applied, application, no_level, after_percent, bare, core, type_in, term, expression}
use Rattle.tl_print.proofs.Givens.{EachIs, all_push, Gives, gives_gives, gives_fails, gives_one, gives_chain, gives_choice, gives_so, gives_loop}
use Rattle.tl_print.proofs.PrintedPieces.{is_run, run_spelled}
use Rattle.tl_print.proofs.PrintableForm.{IsWordOf, IsName, one_word, two_words, IsTypeName, IsSmall, IsShape, AreShapes, levels, bare_levels, most, IsTree}

-- ---- tokens

-- a Word has the bytes of one
abbrev pub IsSpelt : List ℕ → Token → Type 0
IsSpelt text t = t.kind ≡ Word → is_run (bytes_of text t) ≡ true

pub row_spelt : (text : List ℕ) (start end : ℕ) (ts : List Token) → SpellsRow text start ts end → EachIs (IsSpelt text) ts
row_spelt text start end [] r = tt
row_spelt text start end (t ∷ ts) (g, k, r) = (λ e. run_spelled text t.start t.end (subst (λ (j : TokenKind). SpellsKind j text t.start t.end) e k), row_spelt text t.end end ts r)

pub word_of : (text : List ℕ) (test : ℕ → Bool) (t : Token) → IsSpelt text t → IsWord text test t → IsWordOf test (bytes_of text t)
word_of text test t s w = record { run = s w.word; first = w.first }

-- ---- numbers

below_more : (n d k : ℕ) → n < 16 ^ k → d < 16 → n * 16 + d < 16 ^ suc k
below_more n d k w v = omega (arith, pow-suc 16 k, w, v)

digits_below : (xs : List ℕ) (n k : ℕ) → n < 16 ^ k → list_all is_hex_digit xs ≡ true → (m : ℕ) × (m ≡ k + length xs) × (fold with_digit n xs < 16 ^ m)
digits_below [] n k w h = (k, omega arith, w)
digits_below (x ∷ xs) n k w h =
    let p = and_parts (is_hex_digit x) (list_all is_hex_digit xs) h in
    let r = digits_below xs (with_digit n x) (suc k) (below_more n (digit_value x) k w (digit_below x (digit_value x) p.0 refl)) p.1 in
    (r.0, omega (arith, r.1), r.2)

eight_digits : (m n : ℕ) → m ≤ 8 → n < 16 ^ m → n < 2 ^ 32
eight_digits zero n w h = omega (arith, h)
eight_digits (suc zero) n w h = omega (arith, h)
eight_digits (suc (suc zero)) n w h = omega (arith, h)
eight_digits (suc (suc (suc zero))) n w h = omega (arith, h)
eight_digits (suc (suc (suc (suc zero)))) n w h = omega (arith, h)
eight_digits (suc (suc (suc (suc (suc zero))))) n w h = omega (arith, h)
eight_digits (suc (suc (suc (suc (suc (suc zero)))))) n w h = omega (arith, h)
eight_digits (suc (suc (suc (suc (suc (suc (suc zero))))))) n w h = omega (arith, h)
eight_digits (suc (suc (suc (suc (suc (suc (suc (suc zero)))))))) n w h = omega (arith, h)
eight_digits (suc (suc (suc (suc (suc (suc (suc (suc (suc k))))))))) n w h = absurd (omega (arith, w))

hex_small : (bytes : List ℕ) → IsHexText bytes → hex_value bytes < 2 ^ 32
hex_small bytes h =
    let r = digits_below bytes 0 0 (omega arith) (list_all-from_AllPass is_hex_digit bytes h.digits) in
    eight_digits r.0 (hex_value bytes) (omega (arith, r.1, h.most)) r.2

-- ---- names

first_joined : (test : ℕ → Bool) (space last : List ℕ) → first_is test space ≡ true → first_is test (joined space last) ≡ true
first_joined test [] last h = absurd cc
first_joined test (b ∷ bs) last h = h

module _ (text : List ℕ) where
  pub any_token : (k : TokenKind) → Gives (IsSpelt text) (token text k) (λ t. Unit {0})
  unfolding token
  any_token k = gives_so _ (λ t h. tt) (gives_one _ _ _)

  pub any_this : (bytes : List ℕ) → Gives (IsSpelt text) (this_word text bytes) (λ t. Unit {0})
  unfolding this_word
  any_this bytes = gives_so _ (λ t h. tt) (gives_one _ _ _)

  pub letter_given : Gives (IsSpelt text) (letter_word text) (λ t. IsWordOf is_letter (bytes_of text t))
  unfolding letter_word
  letter_given = gives_so _ (λ t h. word_of text is_letter t h.0 h.1) (gives_one _ _ _)

  module _ (test : ℕ → Bool) (w : Token) where
    from_any : Gives (IsSpelt text) (name_from text test w) (λ n. Unit {0})
    unfolding name_from
    from_any = gives_choice _ _ (gives_chain _ _ (any_token _) (λ d g. gives_chain _ _ (gives_one _ _ _) (λ v h. gives_gives _ _ _ tt))) (gives_gives _ _ _ tt)

    from_has : IsSpelt text w → IsWordOf test (bytes_of text w) → (ts rest : List Token) (n : NameText) → EachIs (IsSpelt text) ts → (name_from text test w).reads ts n rest → IsName test n.bytes
    unfolding name_from choice chain gives one token
    from_has s h ts rest n a (inl (sp, (d, mid, (e, k), (v, end, (f, l), (g, r))))) =
        let spelt = (subst (EachIs (IsSpelt text)) f (subst (EachIs (IsSpelt text)) e a).1).0 in
        two_words (bytes_of text w) (bytes_of text v) (ap (λ (m : NameText). m.bytes) g) (word_of text is_lower w s sp.lower) (word_of text test v spelt l.word)
    from_has s h ts rest n a (inr (none, (g, r))) = one_word (subst (IsWordOf test) (sym (ap (λ (m : NameText). m.bytes) g)) h)

    from_given : IsSpelt text w → IsWordOf test (bytes_of text w) → Gives (IsSpelt text) (name_from text test w) (λ n. IsName test n.bytes)
    from_given s h = record { has = from_has s h; behind = from_any.behind }

    -- a name that is these bytes, which aren't in lower case, is the Word
    from_other : (bytes : List ℕ) → first_is is_lower bytes ≡ false → (ts rest : List Token) (n : NameText) → (name_from text test w).reads ts n rest → n.bytes ≡ bytes → bytes_of text w ≡ bytes
    unfolding name_from choice chain gives one token
    from_other bytes low ts rest n (inl (sp, (d, mid, (e, k), (v, end, (f, l), (g, r))))) same =
        let first = first_joined is_lower (bytes_of text w) (bytes_of text v) sp.lower.first in
        absurd (both_ways (first_is is_lower bytes) low (subst (λ (x : List ℕ). first_is is_lower x ≡ true) (sym (ap (λ (m : NameText). m.bytes) g) ∙ same) first))
    from_other bytes low ts rest n (inr (none, (g, r))) same = sym (ap (λ (m : NameText). m.bytes) g) ∙ same

  name_given : Gives (IsSpelt text) (name text) (λ n. IsName is_letter n.bytes)
  unfolding name letter_word
  name_given = gives_chain _ _ (gives_one _ _ _) (λ w h. from_given is_letter w h.0 (word_of text is_letter w h.0 h.1))

  pub declared_given : Gives (IsSpelt text) (declared_name text) (λ n. IsName is_lower n.bytes)
  unfolding declared_name
  declared_given = gives_chain _ _ (gives_one _ _ _) (λ w h. from_given is_lower w h.0 (word_of text is_lower w h.0 h.1))

  type_name_any : Gives (IsSpelt text) (type_name text) (λ n. Unit {0})
  unfolding type_name
  type_name_any = gives_choice _ _ (gives_fails _ _ _) (gives_so _ (λ n h. tt) name_given)

  name_other : (ts rest : List Token) (n : NameText) → (Next (IsObject text) ts → ⊥) → (name text).reads ts n rest → n.bytes ≡ codes "Object" → ⊥
  unfolding name chain letter_word one
  name_other ts rest n o (w, mid, (e, h), from) same =
      o (subst (Next (IsObject text)) (sym e) (record { word = h.word; bytes_are = from_other is_letter w (codes "Object") refl mid rest n from same }))

  type_name_has : (ts rest : List Token) (n : NameText) → EachIs (IsSpelt text) ts → (type_name text).reads ts n rest → IsTypeName n.bytes
  unfolding type_name choice fails
  type_name_has ts rest n a (inl (o, h)) = absurd h
  type_name_has ts rest n a (inr (o, h)) = record { name = name_given.has ts rest n a h; other = name_other ts rest n o h }

  pub type_name_given : Gives (IsSpelt text) (type_name text) (λ n. IsTypeName n.bytes)
  type_name_given = record { has = type_name_has; behind = type_name_any.behind }

  -- ---- numbers

  hex_given : (edge : ℕ) → Gives (IsSpelt text) (hex text edge) (λ n. n < 2 ^ 32)
  unfolding hex
  hex_given edge = gives_chain _ _ (gives_one _ _ _) (λ t h. gives_gives _ _ _ (hex_small (bytes_of text t) h.1.digits))

  by_given : (P : Option ℕ → Type 0) (digits : ℕ → Rule Token SyntaxFault ℕ) (edge : ℕ) → P None → ((e : ℕ) → Gives (IsSpelt text) (digits e) (λ n. P (Some n))) → Gives (IsSpelt text) (number_by text digits edge) P
  unfolding number_by
  by_given P digits edge none some = gives_choice _ _ (gives_chain _ _ (any_token _) (λ h u. gives_chain _ _ (some h.end) (λ n p. gives_gives _ _ _ p))) (gives_gives _ _ _ none)

  pub number_given : (edge : ℕ) → Gives (IsSpelt text) (number text edge) IsSmall
  unfolding number
  number_given edge = by_given IsSmall (hex text) edge tt hex_given

  vector_has : (edge : ℕ) (ts rest : List Token) (n : ℕ) → (vector_hex text edge).reads ts n rest → n ≡ vector_number
  unfolding vector_hex choice fails hex chain one gives
  vector_has edge ts rest n (inl (o, h)) = absurd h
  vector_has edge ts rest n (inr (o, (t, mid, (e, h), (g, r)))) =
      elim (cases_eq (hex_value (bytes_of text t)) vector_number) [
        | inl same ↦ g ∙ same
        | inr other ↦ absurd (o (subst (Next (IsOtherNumber text edge)) (sym e) (record { hex_is = h; other = other })))
      ]

  vector_any : (edge : ℕ) → Gives (IsSpelt text) (vector_hex text edge) (λ n. Unit {0})
  unfolding vector_hex
  vector_any edge = gives_choice _ _ (gives_fails _ _ _) (gives_so _ (λ n h. tt) (hex_given edge))

  pub vector_given : (P : Option ℕ → Type 0) (edge : ℕ) → P None → ((n : ℕ) → n ≡ vector_number → P (Some n)) → Gives (IsSpelt text) (vector_line_number text edge) P
  unfolding vector_line_number
  vector_given P edge none some =
      by_given P (vector_hex text) edge none (λ e. record { has = λ ts rest n a p. some n (vector_has e ts rest n p); behind = (vector_any e).behind })

  -- ---- types

  opens_any : Gives (IsSpelt text) (opens text) (λ n. Unit {0})
  unfolding opens one_opens
  opens_any = gives_loop _ _ _ _ (λ s u. gives_chain _ _ (any_token _) (λ t v. gives_gives _ _ _ tt)) _ tt

  closes_any : (n : ℕ) → Gives (IsSpelt text) (closes text n) (λ u. Unit {0})
  closes_any zero = gives_gives _ _ _ tt
  closes_any (suc n) = gives_chain _ _ (any_token _) (λ t u. closes_any n)

  parens_given : (P : Tree → Type 0) (inner : Bool → Rule Token SyntaxFault Tree) (head : Bool) → ((b : Bool) → Gives (IsSpelt text) (inner b) P) → Gives (IsSpelt text) (in_parens text inner head) P
  unfolding in_parens
  parens_given P inner head g = gives_chain _ _ opens_any (λ n u. gives_chain _ _ (g (head || nat_lt 0 n)) (λ t h. gives_chain _ _ (closes_any n) (λ c v. gives_gives _ _ _ h)))

  term_given : (P : Tree → Type 0) (r : Rule Token SyntaxFault Tree) → Gives (IsSpelt text) r P → (ts : List Tree) → EachIs P ts → Gives (IsSpelt text) (one_term r ts) (EachIs P)
  unfolding one_term
  term_given P r g ts h = gives_chain _ _ g (λ t p. gives_gives _ _ _ (all_push P ts t h p))

  terms_given : (P : Tree → Type 0) (r : Rule Token SyntaxFault Tree) → Gives (IsSpelt text) r P → Gives (IsSpelt text) (terms r) (EachIs P)
  unfolding terms
  terms_given P r g = gives_loop _ _ _ _ (λ s h. term_given P r g s h) _ tt

  listed_given : (P : Tree → Type 0) (r : Rule Token SyntaxFault Tree) → Gives (IsSpelt text) r P → Gives (IsSpelt text) (listed text r) (EachIs P)
  unfolding listed one_listed
  listed_given P r g = gives_chain _ _ g (λ t p. gives_loop _ _ _ _ (λ s h. gives_chain _ _ (any_token _) (λ c u. term_given P r g s h)) _ (p, tt))

shapes_of : (n : ℕ) (ts : List Tree) → EachIs (IsTree n) ts → AreShapes (trees_of ts) × (most (trees_of ts) ≤ n)
shapes_of n [] h = (tt, omega arith)
shapes_of n (t ∷ ts) (i, h) = let r = shapes_of n ts h in ((i.shape, r.0), omega (arith, i.few, r.1))

-- a type of n levels that may stand after `%` on its level
record IsBare (n : ℕ) (t : Tree) : Type 0 where
  shape : IsShape t
  few : levels t ≤ n
  bare_few : bare_levels t ≤ n

named_bare : (n : ℕ) (bytes : List ℕ) (ts : List Tree) → IsTypeName bytes → EachIs (IsTree n) ts → IsBare (suc n) (named bytes (trees_of ts))
named_bare n bytes ts i h = let r = shapes_of n ts h in record { shape = (i, r.0); few = omega (arith, r.1); bare_few = omega (arith, r.1) }

deeper_by_one : (t : Tree) → bare_levels t ≤ suc (levels t)
deeper_by_one (named bytes ts) = omega arith
deeper_by_one (percent t) = omega arith
deeper_by_one any_call = omega arith

module _ (text : List ℕ) where
  applied_given : (n : ℕ) (below : Bool → Rule Token SyntaxFault Tree) (head : Bool) (bytes : List ℕ) → ((b : Bool) → Gives (IsSpelt text) (below b) (IsTree n)) → IsTypeName bytes → Gives (IsSpelt text) (applied text below head bytes) (IsBare (suc n))
  unfolding applied
  applied_given n below head bytes g i =
      gives_choice _ _
      (gives_chain _ _ (any_token text _) (λ l u. gives_chain _ _ (listed_given text (IsTree n) (below true) (g true)) (λ ts h. gives_chain _ _ (any_token text _) (λ r v. gives_gives _ _ _ (named_bare n bytes ts i h)))))
      (gives_choice _ _ (gives_chain _ _ (terms_given text (IsTree n) (below false) (g false)) (λ ts h. gives_gives _ _ _ (named_bare n bytes ts i h))) (gives_gives _ _ _ (named_bare n bytes [] i tt)))

  application_given : (n : ℕ) (below : Bool → Rule Token SyntaxFault Tree) (head : Bool) → ((b : Bool) → Gives (IsSpelt text) (below b) (IsTree n)) → Gives (IsSpelt text) (application text below head) (IsBare (suc n))
  unfolding application
  application_given n below head g = gives_chain _ _ (type_name_given text) (λ m i. applied_given n below head m.bytes g i)

  none_given : (P : Tree → Type 0) → Gives (IsSpelt text) (no_level text) P
  unfolding no_level
  none_given P = gives_choice _ _ (gives_fails _ _ _) (gives_choice _ _ (gives_fails _ _ _) (gives_fails _ _ _))

  bare_given : (n : ℕ) (deeper below : Bool → Rule Token SyntaxFault Tree) → ((b : Bool) → Gives (IsSpelt text) (deeper b) (IsTree n)) → ((b : Bool) → Gives (IsSpelt text) (below b) (IsTree n)) → Gives (IsSpelt text) (bare text deeper below) (IsTree (suc n))
  unfolding bare after_percent
  bare_given n deeper below d g =
      gives_chain _ _ (any_token text _) (λ p u.
      gives_chain _ _
      (parens_given text (λ t. IsShape t × (bare_levels t ≤ suc n)) _ false (λ head.
      gives_choice _ _
      (gives_so _ (λ t h. (h.shape, omega (arith, h.few, deeper_by_one t))) (d head))
      (gives_so _ (λ t h. (h.shape, h.bare_few)) (application_given n below head g))))
      (λ t h. gives_gives _ _ _ (record { shape = h.0; few = h.1 })))

  core_given : (n : ℕ) (head : Bool) → Gives (IsSpelt text) (core text n head) (IsTree n)
  core_given zero head = none_given (IsTree 0)
  core_given (suc n) head =
      gives_choice _ _
      (bare_given n (core text n) (in_parens text (core text n)) (core_given n) (λ b. parens_given text (IsTree n) (core text n) b (core_given n)))
      (gives_so _ (λ t h. record { shape = h.shape; few = h.few }) (application_given n (in_parens text (core text n)) head (λ b. parens_given text (IsTree n) (core text n) b (core_given n))))

  pub type_given : (n : ℕ) (head : Bool) → Gives (IsSpelt text) (type_in text n head) (IsTree n)
  type_given n head = parens_given text (IsTree n) (core text n) head (core_given n)

  pub term_of_given : Gives (IsSpelt text) (term text) (IsTree 16)
  unfolding term
  term_of_given = type_given 16 false

  pub expression_given : Gives (IsSpelt text) (expression text) (IsTree 16)
  unfolding expression
  expression_given = type_given 16 true
