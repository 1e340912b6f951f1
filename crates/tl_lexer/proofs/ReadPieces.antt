-- What spells a text is read.
use Rattle.std.proofs.Common.{◌≡◌, ℕ, zero, suc, ◌+◌, ◌-◌, ◌<◌, ◌≤◌, List, [], ◌∷◌, ◌++◌, length, drop, get_or, Option, Some, None, Ok, refl, sym, ◌∙◌, ap, subst, inl, inr, arith}
use Rattle.std.specs.Prelude.{◌↔◌}
use Rattle.std.proofs.lemmas.List.{append-nil, append_assoc}
use Rattle.tl_lexer.specs.Rule.{Next, Parses}
use Rattle.tl_lexer.specs.declared.token.Token.{Token}
use Rattle.tl_lexer.specs.declared.token.TokenKind.{TokenKind}
use Rattle.tl_lexer.specs.declared.token.TokenKind.TheVariants.{Word, Dashes}
use Rattle.tl_lexer.specs.Tokens.{Is, HasKind, Starts, StartsDashes, InLine, InBlock, is_white, is_word, single, place, fault_of, one_byte, bytes_while, white_byte, word, line, closes, block, dashes, single_byte, with_piece, piece, more, pieces, Tokens}
use Rattle.tl_lexer.specs.Spelled.{At, ByteAt, PairAt, SpellsWhite, SpellsLine, SpellsBlock, SpellsWord, SpellsDashes, SpellsByte, Fillers, SpellsRow, SpellsText}
use Rattle.tl_lexer.proofs.Steps.{then_ok, yes, no, gives_ok, here_ok, next_of}
use Rattle.tl_lexer.proofs.Turns.{Came, came_none, came_more, loop_ok}
use Rattle.tl_lexer.proofs.Runs.{byte_ok, two_ok, third_ok, run_more, some_left, none_left}
use Rattle.tl_lexer.proofs.Places.{Through, inside, byte_at, pair_starts, starts_pair, pair_inside, pair_ends, dashes_starts, starts_dashes, dashes_inside, line_ends}
use Rattle.tl_lexer.proofs.Singles.{KindAt, kind_at, single_not_white, single_not_word, single_not_slash, single_not_dash, white_not_word}
use Rattle.tl_lexer.proofs.SurePieces.{place_is}
use Rattle.tl_lexer.proofs.Spans.{pieces_spans}
use Rattle.tl_lexer.proofs.SpelledPieces.{PieceAt, tokens_spell}

-- a piece is read from p to q
abbrev Reads : List ℕ → ℕ → ℕ → Option TokenKind → Type 0
Reads text p q o = Parses fault_of (λ (x : Option TokenKind). x) (piece (length text)) (drop p text) (drop q text) (Ok o)

-- `/`, `*`, `-` and a line feed are different bytes
pub slash_not_white : Is is_white 47 → ⊥
slash_not_white x = absurd cc

pub slash_not_word : Is is_word 47 → ⊥
slash_not_word x = absurd cc

dash_not_white : Is is_white 45 → ⊥
dash_not_white x = absurd cc

dash_not_word : Is is_word 45 → ⊥
dash_not_word x = absurd cc

dash_not_slash : (b c : ℕ) → b ≡ 45 → c ≡ 47 → b ≡ c → ⊥
dash_not_slash b c e f g = absurd (omega (arith, e, f, g))

pub star_not_slash : (b c : ℕ) → b ≡ 42 → c ≡ 47 → b ≡ c → ⊥
star_not_slash b c e f g = absurd (omega (arith, e, f, g))

module _ (text : List ℕ) where
  -- ---- runs

  came_run : (P : List ℕ → Type 0) (p n : ℕ) → p + n ≤ length text → ((i : ℕ) → p ≤ i → i < p + n → P (drop i text)) → Came P (one_byte (length text)) tt (drop p text) tt (drop (p + n) text)
  came_run P p zero w h = subst (λ k. Came P (one_byte (length text)) tt (drop p text) tt (drop k text)) (omega arith) (came_none refl)
  came_run P p (suc n) w h =
      let before = came_run P p n (omega (arith, w)) (λ i a b. h i a (omega (arith, b))) in
      subst (λ k. Came P (one_byte (length text)) tt (drop p text) tt (drop k text)) (omega arith)
      (run_more P (length text) text p (p + n) (omega (arith, w)) before (h (p + n) (omega arith) (omega arith)))

  came_through : (P : List ℕ → Type 0) (p q : ℕ) → q ≤ length text → Through P text p q → Came P (one_byte (length text)) tt (drop p text) tt (drop q text)
  came_through P p q w (a, f) =
      subst (λ k. Came P (one_byte (length text)) tt (drop p text) tt (drop k text)) (omega (arith, a))
      (came_run P p (q - p) (omega (arith, a, w)) (λ i b c. f i b (omega (arith, a, c))))

  pub run_ok : (P : List ℕ → Type 0) (p q : ℕ) → q ≤ length text → Through P text p q → (P (drop q text) → ⊥) → Parses fault_of (λ (u : Unit {0}). u) (bytes_while (length text) P) (drop p text) (drop q text) (Ok tt)
  unfolding bytes_while
  run_ok P p q w t n = loop_ok (came_through P p q w t) n refl

  -- ---- what begins a piece begins no other

  at_byte : (P : ℕ → Type 0) (b p : ℕ) → (P b → ⊥) → ByteAt b text p → At P text p → ⊥
  at_byte P b p n h g = n (subst P (byte_at (λ x. x ≡ b) text p h) (byte_at P text p g))

  pub not_white : (b p : ℕ) → (Is is_white b → ⊥) → ByteAt b text p → At (Is is_white) text p → ⊥
  not_white b p n = at_byte (Is is_white) b p n

  pub not_word : (b p : ℕ) → (Is is_word b → ⊥) → ByteAt b text p → At (Is is_word) text p → ⊥
  not_word b p n = at_byte (Is is_word) b p n

  pub not_pair : (b c d p : ℕ) → (b ≡ c → ⊥) → ByteAt b text p → Starts c d (drop p text) → ⊥
  not_pair b c d p n h g = at_byte (λ x. x ≡ c) b p n h (starts_pair c d text p g).0

  pub not_second : (a b c d p : ℕ) → (b ≡ d → ⊥) → PairAt a b text p → Starts c d (drop p text) → ⊥
  not_second a b c d p n h g = at_byte (λ x. x ≡ d) b (p + 1) n h.1 (starts_pair c d text p g).1

  pub not_dashes : (b p : ℕ) → (b ≡ 45 → ⊥) → ByteAt b text p → StartsDashes (drop p text) → ⊥
  not_dashes b p n h g = at_byte (λ x. x ≡ 45) b p n h (starts_dashes text p g).0

  -- ---- pieces

  white_reads : (p q : ℕ) → SpellsWhite text p q → Reads text p q None
  unfolding piece white_byte
  white_reads p q (e, h) = subst (λ k. Reads text p k None) (sym e) (yes _ _ h (then_ok _ (byte_ok _ text p (inside (Is is_white) text p h)) (gives_ok refl)))

  line_reads : (p q : ℕ) → SpellsLine text p q → Reads text p q None
  unfolding piece line
  line_reads p q (h, t, e) =
      let w = line_ends text q e in
      no _ _ (not_white 47 p slash_not_white h.0) (no _ _ (not_word 47 p slash_not_word h.0) (yes _ _ (pair_starts 47 47 text p h)
      (then_ok _ (two_ok _ text p (pair_inside 47 47 text p h)) (then_ok _ (run_ok InLine (p + 2) q w.0 t w.1) (gives_ok refl)))))

  in_block : (p close : ℕ) → close < length text → ((i : ℕ) → p ≤ i → i < close → PairAt 42 47 text i → ⊥) → p ≤ close → Through InBlock text p close
  in_block p close w f a = (a, λ i b c. (some_left text i (omega (arith, c, w)), λ g. f i b c (starts_pair 42 47 text i g)))

  close_ok : (start close : ℕ) → PairAt 42 47 text close → Parses fault_of (λ (x : Option TokenKind). x) (closes (length text) start) (drop close text) (drop (close + 2) text) (Ok None)
  unfolding closes
  close_ok start close c = yes _ _ (pair_starts 42 47 text close c) (then_ok _ (two_ok _ text close (pair_inside 42 47 text close c)) (gives_ok refl))

  block_ok : (p close : ℕ) → p + 2 ≤ length text → close < length text → Through InBlock text (p + 2) close → PairAt 42 47 text close → Parses fault_of (λ (x : Option TokenKind). x) (block (length text)) (drop p text) (drop (close + 2) text) (Ok None)
  unfolding block
  block_ok p close v w t c =
      then_ok _ (here_ok (place (length text)) p (drop p text) (place_is text p (omega (arith, v)))) (then_ok _ (two_ok _ text p v)
      (then_ok _ (run_ok InBlock (p + 2) close (omega (arith, w)) t (pair_ends text close c)) (close_ok p close c)))

  block_reads : (p q : ℕ) → SpellsBlock text p q → Reads text p q None
  unfolding piece
  block_reads p q (h, close, a, e, c, f) =
      let w : close < length text = inside (λ b. b ≡ 42) text close c.0 in
      subst (λ k. Reads text p k None) (sym e)
      (no _ _ (not_white 47 p slash_not_white h.0) (no _ _ (not_word 47 p slash_not_word h.0) (no _ _ (not_second 47 42 47 47 p (star_not_slash 42 47 refl refl) h) (yes _ _ (pair_starts 47 42 text p h)
      (block_ok p close (pair_inside 47 42 text p h) w (in_block (p + 2) close w f a) c)))))

  word_reads : (p q : ℕ) → SpellsWord text p q → Reads text p q (Some Word)
  unfolding piece word
  word_reads p q (a, (b, f), n) =
      let h = f p (omega arith) a in
      let w = inside (Is is_word) text (q - 1) (f (q - 1) (omega (arith, a)) (omega (arith, a))) in
      no _ _ (λ g. white_not_word (get_or text p 0) (byte_at (Is is_white) text p g) (byte_at (Is is_word) text p h)) (yes _ _ h
      (then_ok _ (byte_ok _ text p (inside (Is is_word) text p h)) (then_ok _ (run_ok (Next (Is is_word)) (p + 1) q (omega (arith, w, a)) (omega (arith, a), λ i c d. f i (omega (arith, c)) d) n) (gives_ok refl))))

  dashes_ok : (p : ℕ) → p + 3 ≤ length text → Parses fault_of (λ (x : Option TokenKind). x) (dashes (length text)) (drop p text) (drop (p + 3) text) (Ok (Some Dashes))
  unfolding dashes
  dashes_ok p w = then_ok _ (two_ok _ text p (omega (arith, w))) (then_ok _ (third_ok _ text p w) (gives_ok refl))

  dashes_reads : (p q : ℕ) → SpellsDashes text p q → Reads text p q (Some Dashes)
  unfolding piece
  dashes_reads p q (e, h) =
      let slash : 45 ≡ 47 → ⊥ = dash_not_slash 45 47 refl refl in
      subst (λ k. Reads text p k (Some Dashes)) (sym e)
      (no _ _ (not_white 45 p dash_not_white h.0) (no _ _ (not_word 45 p dash_not_word h.0) (no _ _ (not_pair 45 47 47 p slash h.0) (no _ _ (not_pair 45 47 42 p slash h.0)
      (yes _ _ (dashes_starts text p h) (dashes_ok p (dashes_inside text p h)))))))

  single_reads : (p q b : ℕ) (k : TokenKind) → single b ≡ Some k → SpellsByte b text p q → Reads text p q (Some k)
  unfolding piece single_byte
  single_reads p q b k s (e, h) =
      let w = inside (λ x. x ≡ b) text p h in
      let v = byte_at (λ x. x ≡ b) text p h in
      let is = ap single v ∙ s in
      subst (λ j. Reads text p j (Some k)) (sym e)
      (no _ _ (not_white b p (single_not_white b k s) h) (no _ _ (not_word b p (single_not_word b k s) h) (no _ _ (not_pair b 47 47 p (single_not_slash b k s) h) (no _ _ (not_pair b 47 42 p (single_not_slash b k s) h)
      (no _ _ (not_dashes b p (single_not_dash b k s) h) (yes _ _ (next_of HasKind text p 0 w (k, is)) (then_ok _ (byte_ok _ text p w) (gives_ok (sym is)))))))))

  kind_reads : (p q : ℕ) (k : TokenKind) → KindAt k text p q → Reads text p q (Some k)
  kind_reads p q k (inl (e, h)) = subst (λ j. Reads text p q (Some j)) (sym e) (word_reads p q h)
  kind_reads p q k (inr (inl (e, h))) = subst (λ j. Reads text p q (Some j)) (sym e) (dashes_reads p q h)
  kind_reads p q k (inr (inr (b, e, h))) = single_reads p q b k e h

  piece_reads : (p q : ℕ) (o : Option TokenKind) → PieceAt text p q o → Reads text p q o
  piece_reads p q None (inl h) = white_reads p q h
  piece_reads p q None (inr (inl h)) = line_reads p q h
  piece_reads p q None (inr (inr h)) = block_reads p q h
  piece_reads p q (Some k) h = kind_reads p q k (kind_at k text p q h)

  -- ---- where pieces stand

  -- from p to q stands something, inside of the text
  abbrev Extent : ℕ → ℕ → Type 0
  Extent p q = (p < q) × (q ≤ length text)

  kind_extent : (p q : ℕ) (k : TokenKind) → KindAt k text p q → Extent p q
  kind_extent p q k (inl (e, (a, (b, f), n))) = (a, omega (arith, a, inside (Is is_word) text (q - 1) (f (q - 1) (omega (arith, a)) (omega (arith, a)))))
  kind_extent p q k (inr (inl (e, (i, h)))) = (omega (arith, i), omega (arith, i, dashes_inside text p h))
  kind_extent p q k (inr (inr (b, e, (i, h)))) = (omega (arith, i), omega (arith, i, inside (λ x. x ≡ b) text p h))

  piece_extent : (p q : ℕ) (o : Option TokenKind) → PieceAt text p q o → Extent p q
  piece_extent p q None (inl (e, h)) = (omega (arith, e), omega (arith, e, inside (Is is_white) text p h))
  piece_extent p q None (inr (inl (h, t, e))) = (omega (arith, t.0), (line_ends text q e).0)
  piece_extent p q None (inr (inr (h, close, a, e, c, f))) = (omega (arith, a, e), omega (arith, e, pair_inside 42 47 text close c))
  piece_extent p q (Some k) h = kind_extent p q k (kind_at k text p q h)

  -- ---- rows

  -- from the text's begin on these tokens were read, up to this place
  abbrev pub CameTo : List Token → ℕ → Type 0
  CameTo ts p = Came (λ bs. bs ≡ [] → ⊥) (more (length text)) [] text ts (drop p text)

  came_piece : (s : List Token) (p q : ℕ) (o : Option TokenKind) → CameTo s p → PieceAt text p q o → CameTo (with_piece s p q o) q
  unfolding more
  came_piece s p q o c h =
      let e = piece_extent p q o h in
      came_more {look = λ (ts : List Token). ts} c (some_left text p (omega (arith, e.0, e.1)))
      (then_ok _ (here_ok (place (length text)) p _ (place_is text p (omega (arith, e.0, e.1)))) (then_ok _ (piece_reads p q o h) (then_ok _ (here_ok (place (length text)) q _ (place_is text q e.1)) (gives_ok refl)))) refl

  came_fillers : (s : List Token) (p q : ℕ) (ends : List ℕ) → CameTo s p → Fillers text p ends q → CameTo s q
  came_fillers s p q [] c e = subst (CameTo s) (sym e) c
  came_fillers s p q (x ∷ xs) c (f, g) = came_fillers s x q xs (came_piece s p x None c f) g

  came_row : (s : List Token) (p q : ℕ) (ts : List Token) → CameTo s p → SpellsRow text p ts q → CameTo (s ++ ts) q
  came_row s p q [] c g = subst (λ us. CameTo us q) (sym (append-nil s)) (came_fillers s p q g.0 c g.1)
  came_row s p q (t ∷ ts) c (g, k, r) =
      let before = came_fillers s p t.start g.0 c g.1 in
      let here = came_piece s t.start t.end (Some t.kind) before k in
      subst (λ us. CameTo us q) (append_assoc s (t ∷ []) ts) (came_row (s ++ (t ∷ [])) t.end q ts here r)

  pub came_spelled : (ts : List Token) (p : ℕ) → SpellsRow text 0 ts p → CameTo ts p
  came_spelled ts p r = came_row [] 0 p ts (came_none refl) r

  all_read : (ts : List Token) → CameTo ts (length text) → Parses fault_of (λ (us : List Token). us) (pieces (length text)) text (drop (length text) text) (Ok ts)
  unfolding pieces
  all_read ts c = loop_ok c (λ n. n (none_left text (length text) (omega arith))) refl

  text_reads : (ts : List Token) → SpellsText text ts → (pieces (length text)).reads text ts []
  text_reads ts r = subst (λ rest. (pieces (length text)).reads text ts rest) (none_left text (length text) (omega arith)) (all_read ts (came_spelled ts (length text) r)).given

  pub spelled_once : (ts : List Token) → Tokens text ts ↔ ((length text ≤ 4194304) × SpellsText text ts)
  spelled_once ts = ((λ t. (t.0, tokens_spell text ts t)), λ h. (h.0, text_reads ts h.1, pieces_spans text [] ts (text_reads ts h.1)))
