-- Whether what selects a rule holds is decided.
use Rattle.std.proofs.Common.{◌≡◌, ℕ, ◌+◌, ◌<◌, ◌≤◌, List, [], ◌∷◌, length, get_or, Bool, Option, Some, None, refl, sym, ◌∙◌, ap, inl, inr, arith, codes}
use Rattle.std.specs.Prelude.{◌⊎◌}
use Rattle.std.specs.List.{list_all}
use Rattle.std.proofs.lemmas.Bool.{cases_eq, cases_lt}
use Rattle.std.proofs.lemmas.List.Sums.{AllPass-from_list_all, list_all-from_AllPass}
use Rattle.tl_numbers.specs.HexText.{is_digit, IsHexText, hex_value}
use Rattle.tl_lexer.specs.declared.token.Token.{Token}
use Rattle.tl_lexer.specs.declared.token.TokenKind.{TokenKind}
use Rattle.tl_lexer.specs.declared.token.TokenKind.TheVariants.{Word, Dashes, Hash, Colon, Semi, Equals, Query, Dot, Bang, Percent, LBrace, RBrace, LBracket, RBracket, Less, Greater, LParen, RParen, Star, Comma, Plus}
use Rattle.tl_lexer.proofs.Whole.{Decided, next_decided}
use Rattle.tl_program.specs.Letters.{first_is, is_letter, is_lower}
use Rattle.tl_combinators.specs.Tokens.{bytes_of, OfKind, Begins, IsAt, IsWord, IsThis}
use Rattle.tl_program.specs.Letters.{is_digit as is_decimal}
use Rattle.tl_combinators.specs.Names.{IsSpace, IsLast, IsHex, vector_number, IsOtherNumber}
use Rattle.tl_combinators.specs.Types.{BeginsTerm, BeginsType}
use Rattle.tl_combinators.specs.Fields.{bit_value, HasBit, BeginsBit, BeginsCondition, BeginsMultiplicity, IsLone, BeginsUnnamed}
use Rattle.tl_combinators.specs.Declarations.{IsLifecycle}
use Rattle.tl_combinators.proofs.Decided.{decided_as, decided_not, decided_and, decided_or, true_decided, text_decided}

some_decided : (o : Option ℕ) → Decided ((n : ℕ) × (o ≡ Some n))
some_decided (Some n) = inl (n, refl)
some_decided None = inr (λ h. none_is h.0 h.1)
  where
    none_is : (n : ℕ) → ◌≡◌ {A = Option ℕ} None (Some n) → ⊥
    none_is n e = absurd cc

below_decided : (a b : ℕ) → Decided (a < b)
below_decided a b = below (cases_lt a b)
  where
    below : (a < b) ⊎ (b ≤ a) → Decided (a < b)
    below (inl h) = inl h
    below (inr h) = inr (λ k. omega (arith, h, k))

most_decided : (a b : ℕ) → Decided (a ≤ b)
most_decided a b = decided_as (λ h. omega (arith, h)) (λ h. omega (arith, h)) (below_decided a (b + 1))

-- ---- kinds

abbrev index : TokenKind → ℕ
index Word = 0
index Dashes = 1
index Hash = 2
index Colon = 3
index Semi = 4
index Equals = 5
index Query = 6
index Dot = 7
index Bang = 8
index Percent = 9
index LBrace = 10
index RBrace = 11
index LBracket = 12
index RBracket = 13
index Less = 14
index Greater = 15
index LParen = 16
index RParen = 17
index Star = 18
index Comma = 19
index Plus = 20

kinds : List TokenKind
kinds = Word ∷ Dashes ∷ Hash ∷ Colon ∷ Semi ∷ Equals ∷ Query ∷ Dot ∷ Bang ∷ Percent ∷ LBrace ∷ RBrace ∷ LBracket ∷ RBracket ∷ Less ∷ Greater ∷ LParen ∷ RParen ∷ Star ∷ Comma ∷ Plus ∷ []

abbrev kind_at : ℕ → TokenKind
kind_at n = get_or kinds n Word

kind_again : (k : TokenKind) → kind_at (index k) ≡ k
unfolding kinds
kind_again Word = refl
kind_again Dashes = refl
kind_again Hash = refl
kind_again Colon = refl
kind_again Semi = refl
kind_again Equals = refl
kind_again Query = refl
kind_again Dot = refl
kind_again Bang = refl
kind_again Percent = refl
kind_again LBrace = refl
kind_again RBrace = refl
kind_again LBracket = refl
kind_again RBracket = refl
kind_again Less = refl
kind_again Greater = refl
kind_again LParen = refl
kind_again RParen = refl
kind_again Star = refl
kind_again Comma = refl
kind_again Plus = refl

pub kind_decided : (kind : TokenKind) (t : Token) → Decided (OfKind kind t)
kind_decided kind t = decided_as (λ e. sym (kind_again t.kind) ∙ ap kind_at e ∙ kind_again kind) (ap index) (cases_eq (index t.kind) (index kind))

pub begins_decided : (kind : TokenKind) (ts : List Token) → Decided (Begins kind ts)
begins_decided kind ts = next_decided (OfKind kind) (kind_decided kind) ts

pub place_decided : (edge : ℕ) (kind : TokenKind) (t : Token) → Decided (IsAt edge kind t)
place_decided edge kind t =
    decided_as (λ h. record { kind_is = h.0; edge_is = h.1 }) (λ h. (h.kind_is, h.edge_is)) (decided_and (kind_decided kind t) (cases_eq t.start edge))

-- ---- Words

pub word_decided : (text : List ℕ) (test : ℕ → Bool) (t : Token) → Decided (IsWord text test t)
word_decided text test t =
    decided_as (λ h. record { word = h.0; first = h.1 }) (λ h. (h.word, h.first)) (decided_and (kind_decided Word t) (true_decided (first_is test (bytes_of text t))))

pub this_decided : (text bytes : List ℕ) (t : Token) → Decided (IsThis text bytes t)
this_decided text bytes t =
    decided_as (λ h. record { word = h.0; bytes_are = h.1 }) (λ h. (h.word, h.bytes_are)) (decided_and (kind_decided Word t) (text_decided (bytes_of text t) bytes))

pub space_decided : (text : List ℕ) (w : Token) (ts : List Token) → Decided (IsSpace text w ts)
space_decided text w ts =
    decided_as (λ h. record { lower = h.0; dot = h.1 }) (λ h. (h.lower, h.dot)) (decided_and (word_decided text is_lower w) (next_decided (IsAt w.end Dot) (place_decided w.end Dot) ts))

pub last_decided : (text : List ℕ) (test : ℕ → Bool) (edge : ℕ) (t : Token) → Decided (IsLast text test edge t)
last_decided text test edge t =
    decided_as (λ h. record { word = h.0; adjoins = h.1 }) (λ h. (h.word, h.adjoins)) (decided_and (word_decided text test t) (cases_eq t.start edge))

pub lifecycle_decided : (text : List ℕ) (t : Token) → Decided (IsLifecycle text t)
lifecycle_decided text t = decided_or (this_decided text (codes "New") t) (decided_or (this_decided text (codes "Final") t) (this_decided text (codes "Empty") t))

-- ---- numbers

digits_decided : (digits : List ℕ) → Decided (IsHexText digits)
digits_decided digits =
    decided_as (λ h. record { some = h.0; most = h.1.0; digits = AllPass-from_list_all is_digit digits h.1.1 }) (λ h. (h.some, (h.most, list_all-from_AllPass is_digit digits h.digits)))
    (decided_and (below_decided 0 (length digits)) (decided_and (most_decided (length digits) 8) (true_decided (list_all is_digit digits))))

pub hex_decided : (text : List ℕ) (edge : ℕ) (t : Token) → Decided (IsHex text edge t)
hex_decided text edge t =
    decided_as (λ h. record { at = h.0; digits = h.1 }) (λ h. (h.at, h.digits)) (decided_and (place_decided edge Word t) (digits_decided (bytes_of text t)))

pub other_number_decided : (text : List ℕ) (edge : ℕ) (t : Token) → Decided (IsOtherNumber text edge t)
other_number_decided text edge t =
    decided_as (λ h. record { hex_is = h.0; other = h.1 }) (λ h. (h.hex_is, h.other))
    (decided_and (hex_decided text edge t) (decided_not (cases_eq (hex_value (bytes_of text t)) vector_number)))

-- ---- conditions

pub bit_decided : (text : List ℕ) (t : Token) → Decided (HasBit text t)
bit_decided text t =
    decided_as (λ h. (h.1.0, record { word = h.0; digits = h.1.1 })) (λ h. (h.1.word, (h.0, h.1.digits))) (decided_and (kind_decided Word t) (some_decided (bit_value (bytes_of text t))))

begins_bit_decided : (text : List ℕ) (ts : List Token) → Decided (BeginsBit text ts)
begins_bit_decided text [] = inr (λ h. h)
begins_bit_decided text (d ∷ ts) = decided_and (kind_decided Dot d) (next_decided (IsWord text is_decimal) (word_decided text is_decimal) ts)

pub condition_decided : (text : List ℕ) (ts : List Token) → Decided (BeginsCondition text ts)
condition_decided text [] = inr (λ h. h)
condition_decided text (t ∷ ts) = decided_and (word_decided text is_letter t) (begins_bit_decided text ts)

-- ---- what begins

pub term_decided : (ts : List Token) → Decided (BeginsTerm ts)
term_decided ts = decided_or (begins_decided Word ts) (decided_or (begins_decided LParen ts) (begins_decided Percent ts))

pub type_decided : (text : List ℕ) (ts : List Token) → Decided (BeginsType text ts)
type_decided text ts = decided_or (next_decided (IsWord text is_letter) (word_decided text is_letter) ts) (begins_decided Percent ts)

pub multiplicity_decided : (text : List ℕ) (ts : List Token) → Decided (BeginsMultiplicity text ts)
multiplicity_decided text ts =
    decided_or (begins_decided LBracket ts) (decided_or (begins_decided Star ts) (next_decided (IsWord text is_decimal) (word_decided text is_decimal) ts))

lone_decided : (text : List ℕ) (ts : List Token) → Decided (IsLone text ts)
lone_decided text [] = inr (λ h. h)
lone_decided text (t ∷ ts) = decided_and (word_decided text is_letter t) (decided_not (begins_decided Colon ts))

pub unnamed_decided : (text : List ℕ) (ts : List Token) → Decided (BeginsUnnamed text ts)
unnamed_decided text ts =
    decided_or (begins_decided Bang ts) (decided_or (begins_decided Percent ts) (decided_or (begins_decided LParen ts) (decided_or (begins_decided Hash ts) (lone_decided text ts))))

pub cell_left : {t : Token} {ts : List Token} → t ∷ ts ≡ [] → ⊥
cell_left e = absurd cc

pub end_decided : (ts : List Token) → Decided (ts ≡ [])
end_decided [] = inl refl
end_decided (t ∷ ts) = inr (λ e. cell_left e)
