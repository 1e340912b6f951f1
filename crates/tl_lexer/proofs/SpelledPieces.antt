-- A text's tokens spell it.
use Rattle.std.proofs.Common.{◌≡◌, ℕ, ◌+◌, ◌<◌, ◌≤◌, List, [], ◌∷◌, ◌++◌, length, drop, Option, Some, None, Result, Ok, Err, refl, sym, ◌∙◌, ap, subst, inl, inr, arith}
use Rattle.std.specs.Prelude.{IfOk}
use Rattle.tl_lexer.specs.Rule.{Next, Turns, gives, here, one, fails, chain, choice, loop}
use Rattle.tl_lexer.specs.declared.token.Token.{Token}
use Rattle.tl_lexer.specs.declared.token.TokenKind.{TokenKind}
use Rattle.tl_lexer.specs.declared.fault.LexFault.{LexFault}
use Rattle.tl_lexer.specs.Tokens.{Is, HasKind, Starts, StartsDashes, InLine, InBlock, is_white, is_word, place, any_byte, one_byte, two_bytes, bytes_while, white_byte, word, line, closes, block, dashes, single_byte, with_piece, piece, more, pieces, Tokens}
use Rattle.tl_lexer.specs.Lexed.{Lexes}
use Rattle.tl_lexer.specs.Spelled.{At, PairAt, SpellsKind, SpellsFiller, Fillers, Gap, SpellsRow, SpellsText}
use Rattle.tl_lexer.proofs.Places.{Through, next_place, at_end, starts_pair, pair_starts, starts_dashes, through_none, through_first, line_over}
use Rattle.tl_lexer.proofs.Singles.{single_spells}
use Rattle.tl_lexer.proofs.SurePieces.{place_is}

-- ---- rows

fillers_push : (text : List ℕ) (s p q : ℕ) (ends : List ℕ) → Fillers text s ends p → SpellsFiller text p q → Fillers text s (ends ++ (q ∷ [])) q
fillers_push text s p q [] e h = (subst (λ k. SpellsFiller text k q) e h, refl)
fillers_push text s p q (x ∷ xs) (f, g) h = (f, fillers_push text x p q xs g h)

row_filler : (text : List ℕ) (s p q : ℕ) (ts : List Token) → SpellsRow text s ts p → SpellsFiller text p q → SpellsRow text s ts q
row_filler text s p q [] g h = (g.0 ++ (q ∷ []), fillers_push text s p q g.0 g.1 h)
row_filler text s p q (t ∷ ts) (g, k, r) h = (g, k, row_filler text t.end p q ts r h)

pub gap_none : (text : List ℕ) (p : ℕ) → Gap text p p
gap_none text p = ([], refl)

row_token : (text : List ℕ) (s p : ℕ) (ts : List Token) (t : Token) → SpellsRow text s ts p → t.start ≡ p → SpellsKind t.kind text t.start t.end → SpellsRow text s (ts ++ (t ∷ [])) t.end
row_token text s p [] t r e k = (subst (Gap text s) (sym e) r, k, gap_none text t.end)
row_token text s p (u ∷ ts) t (g, j, r) e k = (g, j, row_token text u.end p ts t r e k)

-- ---- pieces

-- a piece from p to q
abbrev pub PieceAt : List ℕ → ℕ → ℕ → Option TokenKind → Type 0
PieceAt text p q None = SpellsFiller text p q
PieceAt text p q (Some k) = SpellsKind k text p q

-- what was read from p on, and where it ends
abbrev pub Reached : List ℕ → List ℕ → (ℕ → Type 0) → Type 0
Reached text rest P = (q : ℕ) × (rest ≡ drop q text) × (q ≤ length text) × P q

module _ (text : List ℕ) where
  pub any_next : (size p b : ℕ) (rest : List ℕ) → (any_byte size).reads (drop p text) b rest → (p < length text) × (rest ≡ drop (p + 1) text)
  unfolding any_byte one
  any_next size p b rest h = next_place text p b rest h.0

  any_is : (size p b : ℕ) (rest : List ℕ) → (any_byte size).reads (drop p text) b rest → drop p text ≡ b ∷ rest
  unfolding any_byte one
  any_is size p b rest h = h.0

  byte_next : (size p : ℕ) (u v : Unit {0}) (rest : List ℕ) → (one_byte size u).reads (drop p text) v rest → (p < length text) × (rest ≡ drop (p + 1) text)
  unfolding chain gives
  byte_next size p u v rest (b, mid, h, g) = let e = any_next size p b mid h in (e.0, g.1 ∙ e.1)

  pub two_next : (size p : ℕ) (u : Unit {0}) (rest : List ℕ) → (two_bytes size).reads (drop p text) u rest → (p + 2 ≤ length text) × (rest ≡ drop (p + 2) text)
  unfolding two_bytes chain gives
  two_next size p u rest (a, mid, h, (b, next, g, (e, f))) =
      let i = any_next size p a mid h in
      let j = any_next size (p + 1) b next (subst (λ ts. (any_byte size).reads ts b next) i.1 g) in
      (omega (arith, j.0), f ∙ j.1 ∙ ap (λ k. drop k text) (omega arith))

  pub run_at : (size : ℕ) (P : List ℕ → Type 0) (p : ℕ) (u v : Unit {0}) (xs : List (Unit {0})) (mid : List ℕ) → p ≤ length text → Turns P (one_byte size) u (drop p text) xs v mid → Reached text mid (Through P text p)
  run_at size P p u v [] mid w d = (p, d.1, w, through_none P text p)
  run_at size P p u v (x ∷ xs) mid w (n, next, h, d) =
      let e = byte_next size p u x next h in
      let r = run_at size P (p + 1) x v xs mid (omega (arith, e.0)) (subst (λ ts. Turns P (one_byte size) x ts xs v mid) e.1 d) in
      (r.0, r.1, r.2, through_first P text p r.0 n r.3)

  -- bytes go on as long as P selects, and no longer
  abbrev pub Longest : (List ℕ → Type 0) → ℕ → ℕ → Type 0
  Longest P p q = Through P text p q × (P (drop q text) → ⊥)

  pub while_at : (size : ℕ) (P : List ℕ → Type 0) (p : ℕ) (v : Unit {0}) (rest : List ℕ) → p ≤ length text → (bytes_while size P).reads (drop p text) v rest → Reached text rest (Longest P p)
  unfolding bytes_while loop
  while_at size P p v rest w (xs, d, n) =
      let r = run_at size P p tt v xs rest w d in
      (r.0, r.1, r.2, (r.3, subst (λ ts. P ts → ⊥) r.1 n))

  white_at : (size p : ℕ) (o : Option TokenKind) (rest : List ℕ) → At (Is is_white) text p → (white_byte size).reads (drop p text) o rest → Reached text rest (λ q. PieceAt text p q o)
  unfolding white_byte chain gives
  white_at size p o rest n (b, mid, h, (e, f)) =
      let a = any_next size p b mid h in
      (p + 1, f ∙ a.1, omega (arith, a.0), subst (PieceAt text p (p + 1)) (sym e) (inl (refl, n)))

  word_at : (size p : ℕ) (o : Option TokenKind) (rest : List ℕ) → At (Is is_word) text p → (word size).reads (drop p text) o rest → Reached text rest (λ q. PieceAt text p q o)
  unfolding word chain gives
  word_at size p o rest n (b, mid, h, (u, next, g, (e, f))) =
      let a = any_next size p b mid h in
      let r = while_at size (Next (Is is_word)) (p + 1) u next (omega (arith, a.0)) (subst (λ ts. (bytes_while size (Next (Is is_word))).reads ts u next) a.1 g) in
      (r.0, f ∙ r.1, r.2, subst (PieceAt text p r.0) (sym e) (omega (arith, r.3.0.0), through_first (Next (Is is_word)) text p r.0 n r.3.0, r.3.1))

  line_at : (size p : ℕ) (o : Option TokenKind) (rest : List ℕ) → Starts 47 47 (drop p text) → (line size).reads (drop p text) o rest → Reached text rest (λ q. PieceAt text p q o)
  unfolding line chain gives
  line_at size p o rest n (u, mid, h, (v, next, g, (e, f))) =
      let a = two_next size p u mid h in
      let r = while_at size InLine (p + 2) v next a.0 (subst (λ ts. (bytes_while size InLine).reads ts v next) a.1 g) in
      (r.0, f ∙ r.1, r.2, subst (PieceAt text p r.0) (sym e) (inr (inl (starts_pair 47 47 text p n, r.3.0, line_over text r.0 r.2 r.3.1))))

  close_at : (size start p : ℕ) (o : Option TokenKind) (rest : List ℕ) → (closes size start).reads (drop p text) o rest → PairAt 42 47 text p × (o ≡ None) × (p + 2 ≤ length text) × (rest ≡ drop (p + 2) text)
  unfolding closes choice fails chain gives
  close_at size start p o rest (inl (n, (u, mid, h, (e, f)))) = let a = two_next size p u mid h in (starts_pair 42 47 text p n, e, a.0, f ∙ a.1)
  close_at size start p o rest (inr h) = absurd h.1

  block_at : (size p : ℕ) (o : Option TokenKind) (rest : List ℕ) → Starts 47 42 (drop p text) → (block size).reads (drop p text) o rest → Reached text rest (λ q. PieceAt text p q o)
  unfolding block chain here
  block_at size p o rest n (start, first, (i, j), (u, mid, h, (v, next, g, k))) =
      let a = two_next size p u mid (subst (λ ts. (two_bytes size).reads ts u mid) j h) in
      let r = while_at size InBlock (p + 2) v next a.0 (subst (λ ts. (bytes_while size InBlock).reads ts v next) a.1 g) in
      let c = close_at size start r.0 o rest (subst (λ ts. (closes size start).reads ts o rest) r.1 k) in
      let none_before : (m : ℕ) → p + 2 ≤ m → m < r.0 → PairAt 42 47 text m → ⊥ = λ m x y z. (r.3.0.1 m x y).1 (pair_starts 42 47 text m z) in
      (r.0 + 2, c.3, c.2, subst (PieceAt text p (r.0 + 2)) (sym c.1) (inr (inr (starts_pair 47 42 text p n, r.0, r.3.0.0, refl, c.0, none_before))))

  dashes_at : (size p : ℕ) (o : Option TokenKind) (rest : List ℕ) → StartsDashes (drop p text) → (dashes size).reads (drop p text) o rest → Reached text rest (λ q. PieceAt text p q o)
  unfolding dashes chain gives
  dashes_at size p o rest n (u, mid, h, (b, next, g, (e, f))) =
      let a = two_next size p u mid h in
      let d = any_next size (p + 2) b next (subst (λ ts. (any_byte size).reads ts b next) a.1 g) in
      (p + 3, f ∙ d.1 ∙ ap (λ k. drop k text) (omega arith), omega (arith, d.0), subst (PieceAt text p (p + 3)) (sym e) (refl, starts_dashes text p n))

  single_at : (size p : ℕ) (o : Option TokenKind) (rest : List ℕ) → At HasKind text p → (single_byte size).reads (drop p text) o rest → Reached text rest (λ q. PieceAt text p q o)
  unfolding single_byte chain gives
  single_at size p o rest n (b, mid, h, (e, f)) =
      let a = any_next size p b mid h in
      let i = any_is size p b mid h in
      let k = subst (Next HasKind) i n in
      let spelled = single_spells text p (p + 1) b k.0 k.1 (refl, subst (Next (λ x. x ≡ b)) (sym i) refl) in
      (p + 1, f ∙ a.1, omega (arith, a.0), subst (PieceAt text p (p + 1)) (sym (e ∙ k.1)) spelled)

  piece_spelled : (size p : ℕ) (o : Option TokenKind) (rest : List ℕ) → (piece size).reads (drop p text) o rest → Reached text rest (λ q. PieceAt text p q o)
  unfolding piece choice fails
  piece_spelled size p o rest (inl h) = white_at size p o rest h.0 h.1
  piece_spelled size p o rest (inr (a, inl h)) = word_at size p o rest h.0 h.1
  piece_spelled size p o rest (inr (a, inr (b, inl h))) = line_at size p o rest h.0 h.1
  piece_spelled size p o rest (inr (a, inr (b, inr (c, inl h)))) = block_at size p o rest h.0 h.1
  piece_spelled size p o rest (inr (a, inr (b, inr (c, inr (d, inl h))))) = dashes_at size p o rest h.0 h.1
  piece_spelled size p o rest (inr (a, inr (b, inr (c, inr (d, inr (e, inl h)))))) = single_at size p o rest h.0 h.1
  piece_spelled size p o rest (inr (a, inr (b, inr (c, inr (d, inr (e, inr h)))))) = absurd h.1

  -- ---- texts

  row_piece : (p q : ℕ) (s : List Token) (o : Option TokenKind) → SpellsRow text 0 s p → PieceAt text p q o → SpellsRow text 0 (with_piece s p q o) q
  row_piece p q s None r h = row_filler text 0 p q s r h
  row_piece p q s (Some k) r h = row_token text 0 p s (record { kind = k; start = p; end = q }) r refl h

  more_spelled : (p : ℕ) (s x : List Token) (rest : List ℕ) → p ≤ length text → SpellsRow text 0 s p → (more (length text) s).reads (drop p text) x rest → Reached text rest (SpellsRow text 0 x)
  unfolding more chain here gives
  more_spelled p s x rest w r (start, a, (i, j), (o, b, h, (end, c, (k, l), (m, n)))) =
      let g = piece_spelled (length text) p o b (subst (λ ts. (piece (length text)).reads ts o b) j h) in
      let first = i ∙ sym (place_is text p w) in
      let last = k ∙ ap (place (length text)) g.1 ∙ sym (place_is text g.0 g.2) in
      (g.0, n ∙ l ∙ g.1, g.2, subst (λ z. SpellsRow text 0 z g.0) (sym (m ∙ ap (λ y. with_piece s y end o) first ∙ ap (λ y. with_piece s p y o) last)) (row_piece p g.0 s o r g.3))

  pub turns_spelled : (p : ℕ) (s : List Token) (xs : List (List Token)) (a : List Token) (mid : List ℕ) → p ≤ length text → SpellsRow text 0 s p → Turns (λ bs. bs ≡ [] → ⊥) (more (length text)) s (drop p text) xs a mid → Reached text mid (SpellsRow text 0 a)
  turns_spelled p s [] a mid w r d = (p, d.1, w, subst (λ z. SpellsRow text 0 z p) (sym d.0) r)
  turns_spelled p s (x ∷ xs) a mid w r (n, next, h, d) =
      let g = more_spelled p s x next w r h in
      turns_spelled g.0 x xs a mid g.2 g.3 (subst (λ ts. Turns (λ bs. bs ≡ [] → ⊥) (more (length text)) x ts xs a mid) g.1 d)

  pieces_spelled : (ts : List Token) → (pieces (length text)).reads text ts [] → SpellsText text ts
  unfolding pieces loop
  pieces_spelled ts (xs, d, n) =
      let g = turns_spelled 0 [] xs ts [] (omega arith) (gap_none text 0) d in
      subst (SpellsRow text 0 ts) (at_end text g.0 g.2 (sym g.1)) g.3

pub tokens_spell : (text : List ℕ) (ts : List Token) → Tokens text ts → SpellsText text ts
tokens_spell text ts t = pieces_spelled text ts t.1

pub lexed_spells : {X : Type 0} (see : X → List Token) (text : List ℕ) (x : Result X LexFault) → Lexes see text x → IfOk x (λ v. SpellsText text (see v))
lexed_spells see text (Ok x) h = tokens_spell text (see x) h
lexed_spells see text (Err e) h = tt
