-- The bytes that are tokens by themselves.
use Rattle.std.proofs.Common.{◌≡◌, ℕ, List, [], ◌∷◌, Bool, true, false, Option, Some, None, refl, sym, subst, inl, inr}
use Rattle.std.specs.Prelude.{◌⊎◌, ◌==◌, ◌||◌, if◌then◌else◌}
use Rattle.std.proofs.lemmas.Bool.{eqb-true, eq-eqb, both_ways, or_left, or_right, or_cases}
use Rattle.tl_lexer.specs.declared.token.TokenKind.{TokenKind}
use Rattle.tl_lexer.specs.declared.token.TokenKind.TheVariants.{Word, Dashes, Hash, Colon, Semi, Equals, Query, Dot, Bang, Percent, LBrace, RBrace, LBracket, RBracket, Less, Greater, LParen, RParen, Star, Comma, Plus}
use Rattle.tl_lexer.specs.Tokens.{is_white, is_word, single}
use Rattle.tl_lexer.specs.Spelled.{SpellsWord, SpellsDashes, SpellsByte, SpellsKind}
use Rattle.tl_lexer.proofs.Runs.{none_some}

-- ---- one row for each byte

abbrev Row : Type 0
Row = ℕ × TokenKind

abbrev table : List Row
table =
    (35, Hash) ∷ (58, Colon) ∷ (59, Semi) ∷ (61, Equals) ∷ (63, Query) ∷ (46, Dot) ∷ (33, Bang) ∷ (37, Percent) ∷ (123, LBrace) ∷ (125, RBrace)
    ∷ (91, LBracket) ∷ (93, RBracket) ∷ (60, Less) ∷ (62, Greater) ∷ (40, LParen) ∷ (41, RParen) ∷ (42, Star) ∷ (44, Comma) ∷ (43, Plus) ∷ []

abbrev kind_in : List Row → ℕ → Option TokenKind
kind_in [] b = None
kind_in (r ∷ rs) b = if b == r.0 then Some r.1 else kind_in rs b

-- P holds of each row
abbrev Each : (ℕ → TokenKind → Type 0) → List Row → Type 0
Each P [] = Unit {0}
Each P (r ∷ rs) = P r.0 r.1 × Each P rs

kinds_same : {j k : TokenKind} → ◌≡◌ {A = Option TokenKind} (Some j) (Some k) → j ≡ k
kinds_same e = cc

module _ (P : ℕ → TokenKind → Type 0) where
  in_row : (b c : ℕ) (j k : TokenKind) (o : Option TokenKind) (t : Bool) → (t ≡ true → b ≡ c) → P c j → (o ≡ Some k → P b k) → (if t then Some j else o) ≡ Some k → P b k
  in_row b c j k o true f h g e = subst (P b) (kinds_same e) (subst (λ x. P x j) (sym (f refl)) h)
  in_row b c j k o false f h g e = g e

  in_rows : (rs : List Row) (b : ℕ) (k : TokenKind) → Each P rs → kind_in rs b ≡ Some k → P b k
  in_rows [] b k a e = absurd (none_some e)
  in_rows (r ∷ rs) b k a e = in_row b r.0 r.1 k (kind_in rs b) (b == r.0) (eqb-true b r.0) a.0 (in_rows rs b k a.1) e

  -- what holds of each row holds of each byte with its kind
  by_rows : (b : ℕ) (k : TokenKind) → Each P table → single b ≡ Some k → P b k
  by_rows b k a e = in_rows table b k a e

-- ---- their tokens

abbrev Spells : List ℕ → ℕ → ℕ → ℕ → TokenKind → Type 0
Spells text p q b k = SpellsByte b text p q → SpellsKind k text p q

pub single_spells : (text : List ℕ) (p q b : ℕ) (k : TokenKind) → single b ≡ Some k → SpellsByte b text p q → SpellsKind k text p q
single_spells text p q b k e =
    by_rows (Spells text p q) b k
    (λ h. h, (λ h. h, (λ h. h, (λ h. h, (λ h. h, (λ h. h, (λ h. h, (λ h. h, (λ h. h, (λ h. h, (λ h. h, (λ h. h, (λ h. h, (λ h. h, (λ h. h, (λ h. h, (λ h. h, (λ h. h, (λ h. h, tt))))))))))))))))))) e

-- a token is a Word, `---` or such a byte
abbrev pub KindAt : TokenKind → List ℕ → ℕ → ℕ → Type 0
KindAt k text p q = ((k ≡ Word) × SpellsWord text p q) ⊎ ((k ≡ Dashes) × SpellsDashes text p q) ⊎ ((b : ℕ) × (single b ≡ Some k) × SpellsByte b text p q)

pub kind_at : (k : TokenKind) (text : List ℕ) (p q : ℕ) → SpellsKind k text p q → KindAt k text p q
kind_at Word text p q h = inl (refl, h)
kind_at Dashes text p q h = inr (inl (refl, h))
kind_at Hash text p q h = inr (inr (35, refl, h))
kind_at Colon text p q h = inr (inr (58, refl, h))
kind_at Semi text p q h = inr (inr (59, refl, h))
kind_at Equals text p q h = inr (inr (61, refl, h))
kind_at Query text p q h = inr (inr (63, refl, h))
kind_at Dot text p q h = inr (inr (46, refl, h))
kind_at Bang text p q h = inr (inr (33, refl, h))
kind_at Percent text p q h = inr (inr (37, refl, h))
kind_at LBrace text p q h = inr (inr (123, refl, h))
kind_at RBrace text p q h = inr (inr (125, refl, h))
kind_at LBracket text p q h = inr (inr (91, refl, h))
kind_at RBracket text p q h = inr (inr (93, refl, h))
kind_at Less text p q h = inr (inr (60, refl, h))
kind_at Greater text p q h = inr (inr (62, refl, h))
kind_at LParen text p q h = inr (inr (40, refl, h))
kind_at RParen text p q h = inr (inr (41, refl, h))
kind_at Star text p q h = inr (inr (42, refl, h))
kind_at Comma text p q h = inr (inr (44, refl, h))
kind_at Plus text p q h = inr (inr (43, refl, h))

-- ---- they begin no other piece

-- white space, a Word, a comment or `---` begins with this byte
abbrev begins : ℕ → Bool
begins b = is_white b || is_word b || (b == 47) || (b == 45)

single_begins : (b : ℕ) (k : TokenKind) → single b ≡ Some k → begins b ≡ false
single_begins b k e =
    by_rows (λ c j. begins c ≡ false) b k
    (refl, (refl, (refl, (refl, (refl, (refl, (refl, (refl, (refl, (refl, (refl, (refl, (refl, (refl, (refl, (refl, (refl, (refl, (refl, tt))))))))))))))))))) e

module _ (b : ℕ) (k : TokenKind) (e : single b ≡ Some k) where
  not_first : begins b ≡ true → ⊥
  not_first h = both_ways (begins b) (single_begins b k e) h

  pub single_not_white : is_white b ≡ true → ⊥
  single_not_white h = not_first (or_left _ (b == 45) (or_left _ (b == 47) (or_left (is_white b) (is_word b) h)))

  pub single_not_word : is_word b ≡ true → ⊥
  single_not_word h = not_first (or_left _ (b == 45) (or_left _ (b == 47) (or_right (is_white b) (is_word b) h)))

  pub single_not_slash : b ≡ 47 → ⊥
  single_not_slash h = not_first (or_left _ (b == 45) (or_right _ (b == 47) (eq-eqb b 47 h)))

  pub single_not_dash : b ≡ 45 → ⊥
  single_not_dash h = not_first (or_right _ (b == 45) (eq-eqb b 45 h))

-- ---- white space is no Word

not_word : (b c : ℕ) → is_word c ≡ false → b ≡ c → is_word b ≡ true → ⊥
not_word b c f e h = both_ways (is_word c) f (subst (λ x. is_word x ≡ true) e h)

pub white_not_word : (b : ℕ) → is_white b ≡ true → is_word b ≡ true → ⊥
white_not_word b h w =
    elim (or_cases _ (b == 10) h) [
      | inl i ↦ elim (or_cases _ (b == 13) i) [
        | inl j ↦ elim (or_cases (b == 32) (b == 9) j) [ inl k ↦ not_word b 32 refl (eqb-true b 32 k) w | inr k ↦ not_word b 9 refl (eqb-true b 9 k) w ]
        | inr j ↦ not_word b 13 refl (eqb-true b 13 j) w
      ]
      | inr i ↦ not_word b 10 refl (eqb-true b 10 i) w
    ]
