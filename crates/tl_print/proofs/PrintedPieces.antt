-- Printed text in pieces: tokens, and bytes of white space between them.
use Rattle.std.proofs.Common.{◌≡◌, ℕ, ◌+◌, ◌-◌, ◌<◌, ◌≤◌, List, [], ◌∷◌, ◌++◌, length, take, drop, get_or, Bool, true, false, Option, Some, None, refl, sym, ◌∙◌, ap, subst, inl, arith, length-append, length-drop}
use Rattle.std.specs.List.{list_all}
use Rattle.std.proofs.lemmas.List.{length-take, get_or-take, get_or-drop, drop-drop, drop_at, take_at, get_or_append_left}
use Rattle.std.proofs.lemmas.List.Elements.{All-from_get_or, All-get_or}
use Rattle.std.proofs.lemmas.List.Sums.{AllPass-from_list_all, list_all-from_AllPass}
use Rattle.tl_lexer.specs.Rule.{Next}
use Rattle.tl_lexer.specs.declared.token.Token.{Token}
use Rattle.tl_lexer.specs.declared.token.TokenKind.{TokenKind}
use Rattle.tl_lexer.specs.declared.token.TokenKind.TheVariants.{Word, Dashes, Hash, Colon, Semi, Equals, Query, Dot, Bang, Percent, LBrace, RBrace, LBracket, RBracket, Less, Greater, LParen, RParen, Star, Comma, Plus}
use Rattle.tl_lexer.specs.Tokens.{Is, is_white, is_word, single}
use Rattle.tl_lexer.specs.Spelled.{ByteAt, SpellsWord, SpellsFiller, Gap, SpellsRow}
use Rattle.tl_lexer.proofs.Steps.{next_of}
use Rattle.tl_lexer.proofs.Places.{next_place, at_end, inside, byte_at}
use Rattle.tl_lexer.proofs.SpelledPieces.{gap_none}
use Rattle.tl_lexer.proofs.Singles.{single_spells}
use Rattle.tl_combinators.specs.Tokens.{bytes_of}

-- ---- runs of Word bytes

-- the bytes are a Word
abbrev pub is_run : List ℕ → Bool
is_run [] = false
is_run (b ∷ bs) = list_all is_word (b ∷ bs)

pub run_from : (w : List ℕ) → 0 < length w → list_all is_word w ≡ true → is_run w ≡ true
run_from [] s h = absurd (omega (arith, s))
run_from (b ∷ bs) s h = h

run_some : (w : List ℕ) → is_run w ≡ true → 0 < length w
run_some [] h = absurd cc
run_some (b ∷ bs) h = omega arith

run_at : (w : List ℕ) → is_run w ≡ true → (i : ℕ) → i < length w → is_word (get_or w i 0) ≡ true
run_at [] h i v = absurd (omega (arith, v))
run_at (b ∷ bs) h i v = All-get_or (λ c. is_word c ≡ true) (b ∷ bs) i 0 v (AllPass-from_list_all is_word (b ∷ bs) h)

-- what a Word of a text spells is a run
pub run_spelled : (text : List ℕ) (p q : ℕ) → SpellsWord text p q → is_run (take (q - p) (drop p text)) ≡ true
run_spelled text p q (s, (w, f), n) =
    let last : q - 1 < length text = inside (Is is_word) text (q - 1) (f (q - 1) (omega (arith, s)) (omega (arith, s))) in
    let size : length (take (q - p) (drop p text)) ≡ q - p = omega (arith, length-take (q - p) (drop p text), length-drop p text, last, s) in
    run_from (take (q - p) (drop p text)) (omega (arith, size, s)) (list_all-from_AllPass is_word (take (q - p) (drop p text)) (All-from_get_or (λ (b : ℕ). is_word b ≡ true) (take (q - p) (drop p text)) 0 (λ i v.
    let below : i < q - p = omega (arith, v, size) in
    let same : get_or (take (q - p) (drop p text)) i 0 ≡ get_or text (p + i) 0 = get_or-take (q - p) (drop p text) i 0 below ∙ get_or-drop p text i 0 in
    subst (λ (b : ℕ). is_word b ≡ true) (sym same) (byte_at (Is is_word) text (p + i) (f (p + i) (omega arith) (omega (arith, below)))))))

-- ---- pieces

-- a Word, a token of one byte, `---`, or a byte of white space
pub data Piece : Type 0 where
  word : List ℕ → Piece
  sign : TokenKind → Piece
  dashes : Piece
  white : ℕ → Piece

-- the byte of a token that has one
abbrev pub sign_byte : TokenKind → ℕ
sign_byte Word = 0
sign_byte Dashes = 0
sign_byte Hash = 35
sign_byte Colon = 58
sign_byte Semi = 59
sign_byte Equals = 61
sign_byte Query = 63
sign_byte Dot = 46
sign_byte Bang = 33
sign_byte Percent = 37
sign_byte LBrace = 123
sign_byte RBrace = 125
sign_byte LBracket = 91
sign_byte RBracket = 93
sign_byte Less = 60
sign_byte Greater = 62
sign_byte LParen = 40
sign_byte RParen = 41
sign_byte Star = 42
sign_byte Comma = 44
sign_byte Plus = 43

abbrev pub bytes_in : List Piece → List ℕ
bytes_in [] = []
bytes_in (word w ∷ ps) = w ++ bytes_in ps
bytes_in (sign k ∷ ps) = sign_byte k ∷ bytes_in ps
bytes_in (dashes ∷ ps) = 45 ∷ 45 ∷ 45 ∷ bytes_in ps
bytes_in (white b ∷ ps) = b ∷ bytes_in ps

-- no byte of a Word comes first
abbrev pub Stops : List Piece → Type 0
Stops ps = Next (Is is_word) (bytes_in ps) → ⊥

-- each piece is one of the language, and no Word stands directly after another
abbrev pub Good : List Piece → Type 0
Good [] = Unit {0}
Good (word w ∷ ps) = (is_run w ≡ true) × Stops ps × Good ps
Good (sign k ∷ ps) = (single (sign_byte k) ≡ Some k) × Good ps
Good (dashes ∷ ps) = Good ps
Good (white b ∷ ps) = (is_white b ≡ true) × Good ps

-- the token of a kind that stands at a place and is so long
abbrev pub token_at : TokenKind → ℕ → ℕ → Token
token_at kind p n = record { kind = kind; start = p; end = p + n }

-- the tokens of pieces that begin at a place
abbrev pub tokens_at : ℕ → List Piece → List Token
tokens_at p [] = []
tokens_at p (word w ∷ ps) = token_at Word p (length w) ∷ tokens_at (p + length w) ps
tokens_at p (sign k ∷ ps) = token_at k p 1 ∷ tokens_at (p + 1) ps
tokens_at p (dashes ∷ ps) = token_at Dashes p 3 ∷ tokens_at (p + 3) ps
tokens_at p (white b ∷ ps) = tokens_at (p + 1) ps

-- the kind of the first token
abbrev pub first_kind : List Piece → Option TokenKind
first_kind [] = None
first_kind (word w ∷ ps) = Some Word
first_kind (sign k ∷ ps) = Some k
first_kind (dashes ∷ ps) = Some Dashes
first_kind (white b ∷ ps) = first_kind ps

-- ---- the text of pieces

-- a byte, and what stands after it
byte_step : (text : List ℕ) (p b : ℕ) (rest : List ℕ) → drop p text ≡ b ∷ rest → (p + 1 ≤ length text) × (drop (p + 1) text ≡ rest)
byte_step text p b rest e = let n = next_place text p b rest e in (omega (arith, n.0), sym n.1)

byte_here : (text : List ℕ) (p b : ℕ) (rest : List ℕ) → drop p text ≡ b ∷ rest → ByteAt b text p
byte_here text p b rest e = subst (Next (λ x. x ≡ b)) (sym e) refl

-- a Word, and what stands after it
word_step : (text : List ℕ) (p : ℕ) (w rest : List ℕ) → p ≤ length text → drop p text ≡ w ++ rest → (p + length w ≤ length text) × (drop (p + length w) text ≡ rest)
word_step text p w rest b e = (
  omega (arith, b, length-drop p text, ap length e, length-append w rest),
  sym (drop-drop (length w) p text) ∙ ap (drop (length w)) e ∙ drop_at w rest (length w) refl,
)

word_here : (text : List ℕ) (p : ℕ) (w rest : List ℕ) → p ≤ length text → drop p text ≡ w ++ rest → is_run w ≡ true → (Next (Is is_word) rest → ⊥) → SpellsWord text p (p + length w)
word_here text p w rest b e r n =
    let s = word_step text p w rest b e in
    let some = run_some w r in (
      omega (arith, some),
      (
        omega arith,
        λ i l u.
            let at : p + (i - p) ≡ i = omega (arith, l) in
            let below : i - p < length w = omega (arith, l, u, some) in
            let same : get_or text i 0 ≡ get_or w (i - p) 0 =
            ap (λ (j : ℕ). get_or text j 0) (sym at) ∙ sym (get_or-drop p text (i - p) 0) ∙ ap (λ (xs : List ℕ). get_or xs (i - p) 0) e ∙ get_or_append_left w rest 0 (i - p) below in
            next_of (Is is_word) text i 0 (omega (arith, u, s.0)) (subst (λ (b : ℕ). is_word b ≡ true) (sym same) (run_at w r (i - p) below)),
      ),
      λ h. n (subst (Next (Is is_word)) s.1 h),
    )

gap_first : (text : List ℕ) (p q r : ℕ) → SpellsFiller text p q → Gap text q r → Gap text p r
gap_first text p q r h g = (q ∷ g.0, (h, g.1))

filler_row : (text : List ℕ) (p q : ℕ) (ts : List Token) (r : ℕ) → SpellsFiller text p q → SpellsRow text q ts r → SpellsRow text p ts r
filler_row text p q [] r h g = gap_first text p q r h g
filler_row text p q (t ∷ ts) r h (g, k, more) = (gap_first text p q t.start h g, k, more)

-- pieces that end a text are its tokens there, with gaps between them
pub pieces_spell : (text : List ℕ) (p : ℕ) (ps : List Piece) → p ≤ length text → drop p text ≡ bytes_in ps → Good ps → SpellsRow text p (tokens_at p ps) (length text)
pieces_spell text p [] w e h = subst (Gap text p) (at_end text p w e) (gap_none text p)
pieces_spell text p (word v ∷ ps) w e (r, n, h) =
    let s = word_step text p v (bytes_in ps) w e in
    (gap_none text p, word_here text p v (bytes_in ps) w e r n, pieces_spell text (p + length v) ps s.0 s.1 h)
pieces_spell text p (sign k ∷ ps) w e (i, h) =
    let s = byte_step text p (sign_byte k) (bytes_in ps) e in
    (gap_none text p, single_spells text p (p + 1) (sign_byte k) k i (refl, byte_here text p (sign_byte k) (bytes_in ps) e), pieces_spell text (p + 1) ps s.0 s.1 h)
pieces_spell text p (dashes ∷ ps) w e h =
    let a = byte_step text p 45 (45 ∷ 45 ∷ bytes_in ps) e in
    let b = byte_step text (p + 1) 45 (45 ∷ bytes_in ps) a.1 in
    let c = byte_step text (p + 1 + 1) 45 (bytes_in ps) b.1 in
    let third : p + 1 + 1 + 1 ≡ p + 3 = omega arith in (
      gap_none text p,
      (refl, (byte_here text p 45 (45 ∷ 45 ∷ bytes_in ps) e, (byte_here text (p + 1) 45 (45 ∷ bytes_in ps) a.1, byte_here text (p + 1 + 1) 45 (bytes_in ps) b.1))),
      pieces_spell text (p + 3) ps (omega (arith, c.0)) (subst (λ (q : ℕ). drop q text ≡ bytes_in ps) third c.1) h,
    )
pieces_spell text p (white b ∷ ps) w e (i, h) =
    let s = byte_step text p b (bytes_in ps) e in
    filler_row text p (p + 1) (tokens_at (p + 1) ps) (length text) (inl (refl, subst (Next (Is is_white)) (sym e) i)) (pieces_spell text (p + 1) ps s.0 s.1 h)

-- ---- tokens that stand for pieces

-- the token has these bytes, and stands at this place
pub record Front (text : List ℕ) (p : ℕ) (kind : TokenKind) (bytes : List ℕ) (t : Token) : Type 0 where
  pub kind_is : t.kind ≡ kind
  pub start_is : t.start ≡ p
  pub bytes_are : bytes_of text t ≡ bytes

-- the tokens stand for these pieces, of which the first begins at this place
abbrev pub Stands : List ℕ → ℕ → List Piece → List Token → Type 0
Stands text p [] ts = ts ≡ []
Stands text p (word w ∷ ps) ts = (t : Token) × (rest : List Token) × (ts ≡ t ∷ rest) × Front text p Word w t × Stands text t.end ps rest
Stands text p (sign k ∷ ps) ts = (t : Token) × (rest : List Token) × (ts ≡ t ∷ rest) × Front text p k (sign_byte k ∷ []) t × Stands text t.end ps rest
Stands text p (dashes ∷ ps) ts = (t : Token) × (rest : List Token) × (ts ≡ t ∷ rest) × Front text p Dashes (45 ∷ 45 ∷ 45 ∷ []) t × Stands text t.end ps rest
Stands text p (white b ∷ ps) ts = Stands text (p + 1) ps ts

bytes_here : (text : List ℕ) (p n : ℕ) (w rest : List ℕ) (kind : TokenKind) → length w ≡ n → drop p text ≡ w ++ rest → bytes_of text (token_at kind p n) ≡ w
bytes_here text p n w rest kind l e =
    let size : (p + n) - p ≡ n = omega arith in
    ap (λ (m : ℕ). take m (drop p text)) size ∙ ap (take n) e ∙ take_at w rest n l

pub pieces_stand : (text : List ℕ) (p : ℕ) (ps : List Piece) → p ≤ length text → drop p text ≡ bytes_in ps → Stands text p ps (tokens_at p ps)
pieces_stand text p [] w e = refl
pieces_stand text p (word v ∷ ps) w e =
    let s = word_step text p v (bytes_in ps) w e in (
      token_at Word p (length v),
      tokens_at (p + length v) ps,
      refl,
      record { kind_is = refl; start_is = refl; bytes_are = bytes_here text p (length v) v (bytes_in ps) Word refl e },
      pieces_stand text (p + length v) ps s.0 s.1,
    )
pieces_stand text p (sign k ∷ ps) w e =
    let s = byte_step text p (sign_byte k) (bytes_in ps) e in (
      token_at k p 1,
      tokens_at (p + 1) ps,
      refl,
      record { kind_is = refl; start_is = refl; bytes_are = bytes_here text p 1 (sign_byte k ∷ []) (bytes_in ps) k refl e },
      pieces_stand text (p + 1) ps s.0 s.1,
    )
pieces_stand text p (dashes ∷ ps) w e =
    let s = word_step text p (45 ∷ 45 ∷ 45 ∷ []) (bytes_in ps) w e in (
      token_at Dashes p 3,
      tokens_at (p + 3) ps,
      refl,
      record { kind_is = refl; start_is = refl; bytes_are = bytes_here text p 3 (45 ∷ 45 ∷ 45 ∷ []) (bytes_in ps) Dashes refl e },
      pieces_stand text (p + 3) ps s.0 s.1,
    )
pieces_stand text p (white b ∷ ps) w e =
    let s = byte_step text p b (bytes_in ps) e in
    pieces_stand text (p + 1) ps s.0 s.1
