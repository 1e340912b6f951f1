-- A text's fault by its place.
use Rattle.std.proofs.Common.{◌≡◌, ℕ, ◌+◌, ◌<◌, ◌≤◌, List, [], length, drop, Option, Err, refl, sym, ◌∙◌, ap, subst, inl, inr, arith}
use Rattle.std.specs.Prelude.{◌↔◌}
use Rattle.std.proofs.lemmas.Bool.{cases_lt}
use Rattle.tl_lexer.specs.Rule.{Rule, Next, Parses, gives, here, one, fails, chain, choice, loop}
use Rattle.tl_lexer.specs.declared.token.Token.{Token}
use Rattle.tl_lexer.specs.declared.token.TokenKind.{TokenKind}
use Rattle.tl_lexer.specs.declared.fault.LexFault.{LexFault}
use Rattle.tl_lexer.specs.declared.fault.LexFault.TheVariants.{TextTooLong, BadByte, OpenComment, Memory}
use Rattle.tl_lexer.specs.Tokens.{Is, HasKind, Starts, StartsDashes, InLine, InBlock, is_white, is_word, place, fault_of, any_byte, one_byte, two_bytes, bytes_while, white_byte, word, line, closes, block, dashes, single_byte, with_piece, piece, more, pieces, LexRefused}
use Rattle.tl_lexer.specs.Spelled.{At, PairAt, SpellsPrefix, BeginsNothing, IsOpenAt, HasFault}
use Rattle.tl_lexer.proofs.Steps.{then_ok, yes, no, fails_here, here_ok, next_of}
use Rattle.tl_lexer.proofs.Runs.{two_ok, some_left, none_left}
use Rattle.tl_lexer.proofs.Places.{Through, inside, starts_pair, pair_starts, pair_inside, starts_dashes, dashes_starts, dashes_inside}
use Rattle.tl_lexer.proofs.SurePieces.{place_is, fault_place}
use Rattle.tl_lexer.proofs.SpelledPieces.{Longest, any_next, two_next, run_at, while_at, turns_spelled, gap_none}
use Rattle.tl_lexer.proofs.ReadPieces.{CameTo, came_spelled, run_ok, not_white, not_word, not_second, slash_not_white, slash_not_word, star_not_slash}

left_inside : (text : List ℕ) (p : ℕ) → (drop p text ≡ [] → ⊥) → p < length text
left_inside text p n = elim (cases_lt p (length text)) [ inl w ↦ w | inr w ↦ absurd (n (none_left text p w)) ]

-- ---- a text with the fault is refused for it

module _ (text : List ℕ) where
  bad_refused : (p : ℕ) → p < length text → BeginsNothing text p → Parses {X = Option TokenKind} fault_of (λ o. o) (piece (length text)) (drop p text) [] (Err (BadByte p))
  unfolding piece
  bad_refused p w n =
      no _ _ n.white (no _ _ n.word (no _ _ (λ g. n.line (starts_pair 47 47 text p g)) (no _ _ (λ g. n.block (starts_pair 47 42 text p g)) (no _ _ (λ g. n.dashes (starts_dashes text p g))
      (no _ _ n.single (fails_here fault_of _ (fault_place text p (omega (arith, w)))))))))

  never_closes : (start : ℕ) → Parses {X = Option TokenKind} fault_of (λ o. o) (closes (length text) start) (drop (length text) text) [] (Err (OpenComment start))
  unfolding closes
  never_closes start = no _ _ (λ g. absurd (omega (arith, pair_inside 42 47 text (length text) (starts_pair 42 47 text (length text) g)))) (fails_here fault_of _ refl)

  goes_on : (p : ℕ) → p ≤ length text → ((i : ℕ) → p ≤ i → PairAt 42 47 text i → ⊥) → Through InBlock text p (length text)
  goes_on p w f = (w, λ i a b. (some_left text i b, λ g. f i a (starts_pair 42 47 text i g)))

  open_block : (p : ℕ) → p + 2 ≤ length text → ((i : ℕ) → p + 2 ≤ i → PairAt 42 47 text i → ⊥) → Parses {X = Option TokenKind} fault_of (λ o. o) (block (length text)) (drop p text) [] (Err (OpenComment p))
  unfolding block
  open_block p w f =
      then_ok _ (here_ok (place (length text)) p (drop p text) (place_is text p (omega (arith, w)))) (then_ok _ (two_ok _ text p w)
      (then_ok _ (run_ok text InBlock (p + 2) (length text) (omega arith) (goes_on (p + 2) w f) (λ g. g.0 (none_left text (length text) (omega arith)))) (never_closes p)))

  open_refused : (p : ℕ) → IsOpenAt text p → Parses {X = Option TokenKind} fault_of (λ o. o) (piece (length text)) (drop p text) [] (Err (OpenComment p))
  unfolding piece
  open_refused p (h, f) =
      no _ _ (not_white text 47 p slash_not_white h.0) (no _ _ (not_word text 47 p slash_not_word h.0) (no _ _ (not_second text 47 42 47 47 p (star_not_slash 42 47 refl refl) h)
      (yes _ _ (pair_starts 47 42 text p h) (open_block p (pair_inside 47 42 text p h) f))))

  all_refused : (ts : List Token) (p : ℕ) (f : LexFault) → CameTo text ts p → p < length text → (piece (length text)).refused (drop p text) f → (pieces (length text)).refused text f
  unfolding pieces loop more chain here
  all_refused ts p f c w h = (c.xs, ts, drop p text, c.turns, some_left text p w, inr (place (length text) (drop p text), drop p text, (refl, refl), inl h))

  fault_refused : (fault : LexFault) → HasFault text fault → LexRefused text fault
  fault_refused TextTooLong h = inl (h, refl)
  fault_refused (BadByte p) (w, (ts, r), i, n) = inr (w, all_refused ts p (BadByte p) (came_spelled text ts p r) i (bad_refused p i n).given)
  fault_refused (OpenComment p) (w, (ts, r), h) = inr (w, all_refused ts p (OpenComment p) (came_spelled text ts p r) (inside (λ b. b ≡ 47) text p h.0.0) (open_refused p h).given)
  fault_refused Memory h = absurd h

-- ---- a rule that begins with bytes that stand there is refused by what follows

gives_never : {A : Type 0} (a : A) (ts : List ℕ) (f : LexFault) → (gives a).refused ts f → ⊥
unfolding gives
gives_never a ts f h = h

module _ (text : List ℕ) (f : LexFault) where
  here_then : {A C : Type 0} (p : ℕ) (s : ℕ → Rule ℕ LexFault A) → p ≤ length text → ((s p).refused (drop p text) f → C) → (chain (here (place (length text))) s).refused (drop p text) f → C
  unfolding chain here
  here_then p s w n (inl h) = absurd h
  here_then p s w n (inr (start, mid, (e, d), g)) = n (subst (λ k. (s k).refused (drop p text) f) (e ∙ sym (place_is text p w)) (subst (λ ts. (s start).refused ts f) d g))

  any_never : (p : ℕ) → p < length text → (any_byte (length text)).refused (drop p text) f → ⊥
  unfolding any_byte one
  any_never p w h = h.0 (next_of (λ b. Unit {0}) text p 0 w tt)

  byte_then : {A C : Type 0} (p : ℕ) (s : ℕ → Rule ℕ LexFault A) → p < length text → ((b : ℕ) → (s b).refused (drop (p + 1) text) f → C) → (chain (any_byte (length text)) s).refused (drop p text) f → C
  unfolding chain
  byte_then p s w n (inl h) = absurd (any_never p w h)
  byte_then p s w n (inr (b, mid, h, g)) = n b (subst (λ ts. (s b).refused ts f) (any_next text (length text) p b mid h).1 g)

  one_never : (p : ℕ) (u : Unit {0}) → p < length text → (one_byte (length text) u).refused (drop p text) f → ⊥
  one_never p u w h = byte_then p _ w (λ b g. gives_never tt (drop (p + 1) text) f g) h

  two_never : (p : ℕ) → p + 2 ≤ length text → (two_bytes (length text)).refused (drop p text) f → ⊥
  unfolding two_bytes
  two_never p w h = byte_then p (λ a. one_byte (length text) tt) (omega (arith, w)) (λ a g. one_never (p + 1) tt (omega (arith, w)) g) h

  two_then : {A C : Type 0} (p : ℕ) (s : Unit {0} → Rule ℕ LexFault A) → p + 2 ≤ length text → ((u : Unit {0}) → (s u).refused (drop (p + 2) text) f → C) → (chain (two_bytes (length text)) s).refused (drop p text) f → C
  unfolding chain
  two_then p s w n (inl h) = absurd (two_never p w h)
  two_then p s w n (inr (u, mid, h, g)) = n u (subst (λ ts. (s u).refused ts f) (two_next text (length text) p u mid h).1 g)

  run_then : {A C : Type 0} (P : List ℕ → Type 0) (p : ℕ) (s : Unit {0} → Rule ℕ LexFault A) → ((q : ℕ) → P (drop q text) → q < length text) → p ≤ length text
      → ((u : Unit {0}) (q : ℕ) → Longest text P p q → (s u).refused (drop q text) f → C) → (chain (bytes_while (length text) P) s).refused (drop p text) f → C
  unfolding chain bytes_while loop
  run_then P p s i w n (inl (xs, u, mid, d, h, g)) =
      let r = run_at text (length text) P p tt u xs mid w d in
      absurd (one_never r.0 u (i r.0 (subst P r.1 h)) (subst (λ ts. (one_byte (length text) u).refused ts f) r.1 g))
  run_then P p s i w n (inr (u, mid, h, g)) =
      let r = while_at text (length text) P p u mid w h in
      n u r.0 r.3 (subst (λ ts. (s u).refused ts f) r.1 g)

  -- ---- pieces that are never refused

  white_never : (p : ℕ) → At (Is is_white) text p → (white_byte (length text)).refused (drop p text) f → ⊥
  unfolding white_byte
  white_never p n h = byte_then p _ (inside (Is is_white) text p n) (λ b g. gives_never _ (drop (p + 1) text) f g) h

  word_never : (p : ℕ) → At (Is is_word) text p → (word (length text)).refused (drop p text) f → ⊥
  unfolding word
  word_never p n h =
      let w = inside (Is is_word) text p n in
      byte_then p _ w (λ b g. run_then (Next (Is is_word)) (p + 1) _ (λ q k. inside (Is is_word) text q k) (omega (arith, w)) (λ u q l k. gives_never _ (drop q text) f k) g) h

  line_never : (p : ℕ) → Starts 47 47 (drop p text) → (line (length text)).refused (drop p text) f → ⊥
  unfolding line
  line_never p n h =
      let w = pair_inside 47 47 text p (starts_pair 47 47 text p n) in
      two_then p _ w (λ u g. run_then InLine (p + 2) _ (λ q k. inside (λ b. b ≡ 10 → ⊥) text q k) w (λ v q l k. gives_never _ (drop q text) f k) g) h

  dashes_never : (p : ℕ) → StartsDashes (drop p text) → (dashes (length text)).refused (drop p text) f → ⊥
  unfolding dashes
  dashes_never p n h =
      let w = dashes_inside text p (starts_dashes text p n) in
      two_then p _ (omega (arith, w)) (λ u g. byte_then (p + 2) _ (omega (arith, w)) (λ b k. gives_never _ (drop (p + 2 + 1) text) f k) g) h

  single_never : (p : ℕ) → At HasKind text p → (single_byte (length text)).refused (drop p text) f → ⊥
  unfolding single_byte
  single_never p n h = byte_then p _ (inside HasKind text p n) (λ b g. gives_never _ (drop (p + 1) text) f g) h

  -- ---- a comment that is refused is open

  close_fault : (start q : ℕ) → (closes (length text) start).refused (drop q text) f → (Starts 42 47 (drop q text) → ⊥) × (f ≡ OpenComment start)
  unfolding closes choice fails
  close_fault start q (inl (n, h)) = absurd (two_then q _ (pair_inside 42 47 text q (starts_pair 42 47 text q n)) (λ u g. gives_never _ (drop (q + 2) text) f g) h)
  close_fault start q (inr h) = h

  -- no `*/` where the comment goes on, and none after the text
  none_closes : (p q : ℕ) → Longest text InBlock p q → (Starts 42 47 (drop q text) → ⊥) → (i : ℕ) → p ≤ i → PairAt 42 47 text i → ⊥
  none_closes p q l n i a h =
      elim (cases_lt i q) [ inl b ↦ (l.0.1 i a b).1 (pair_starts 42 47 text i h) | inr b ↦ l.1 (some_left text q (omega (arith, b, pair_inside 42 47 text i h)), n) ]

  block_open : (p : ℕ) → Starts 47 42 (drop p text) → (block (length text)).refused (drop p text) f → IsOpenAt text p × (f ≡ OpenComment p)
  unfolding block
  block_open p n h =
      let g = starts_pair 47 42 text p n in
      let w = pair_inside 47 42 text p g in
      here_then p _ (omega (arith, w)) (λ i. two_then p _ w (λ u j. run_then InBlock (p + 2) _ (λ q k. left_inside text q k.0) w
      (λ v q l k. let c = close_fault p q k in ((g, none_closes (p + 2) q l c.0), c.1)) j) i) h

  -- ---- a text that is refused has the fault

  bad_fault : (p : ℕ) → length text ≤ 4194304 → SpellsPrefix text p → p < length text → BeginsNothing text p → f ≡ BadByte (place (length text) (drop p text)) → HasFault text f
  bad_fault p small front w n e = subst (HasFault text) (sym (e ∙ ap BadByte (sym (place_is text p (omega (arith, w)))))) (small, front, w, n)

  piece_fault : (p : ℕ) → length text ≤ 4194304 → SpellsPrefix text p → p < length text → (piece (length text)).refused (drop p text) f → HasFault text f
  unfolding piece choice fails
  piece_fault p small front w (inl h) = absurd (white_never p h.0 h.1)
  piece_fault p small front w (inr (a, inl h)) = absurd (word_never p h.0 h.1)
  piece_fault p small front w (inr (a, inr (b, inl h))) = absurd (line_never p h.0 h.1)
  piece_fault p small front w (inr (a, inr (b, inr (c, inl h)))) = let o = block_open p h.0 h.1 in subst (HasFault text) (sym o.1) (small, front, o.0)
  piece_fault p small front w (inr (a, inr (b, inr (c, inr (d, inl h))))) = absurd (dashes_never p h.0 h.1)
  piece_fault p small front w (inr (a, inr (b, inr (c, inr (d, inr (e, inl h)))))) = absurd (single_never p h.0 h.1)
  piece_fault p small front w (inr (a, inr (b, inr (c, inr (d, inr (e, inr h)))))) =
      bad_fault p small front w
      (record {
        white = a;
        word = b;
        line = λ x. c (pair_starts 47 47 text p x);
        block = λ x. d (pair_starts 47 42 text p x);
        dashes = λ x. e (dashes_starts text p x);
        single = h.0;
      }) h.1

  end_never : (s : List Token) (start : ℕ) (o : Option TokenKind) (ts : List ℕ) → (chain (here (place (length text))) (λ end. gives {F = LexFault} (with_piece s start end o))).refused ts f → ⊥
  unfolding chain here
  end_never s start o ts (inl h) = h
  end_never s start o ts (inr (x, mid, h, g)) = gives_never _ mid f g

  first_fault : (start : ℕ) (s : List Token) (ts : List ℕ) → (chain (piece (length text)) (λ o. chain (here (place (length text))) (λ end. gives {F = LexFault} (with_piece s start end o)))).refused ts f → (piece (length text)).refused ts f
  unfolding chain
  first_fault start s ts (inl h) = h
  first_fault start s ts (inr (o, mid, h, g)) = absurd (end_never s start o mid g)

  more_fault : (p : ℕ) (s : List Token) → p ≤ length text → (more (length text) s).refused (drop p text) f → (piece (length text)).refused (drop p text) f
  unfolding more
  more_fault p s w h = here_then p _ w (λ g. first_fault p s (drop p text) g) h

  pieces_fault : length text ≤ 4194304 → (pieces (length text)).refused text f → HasFault text f
  unfolding pieces loop
  pieces_fault small (xs, s, mid, d, h, g) =
      let r = turns_spelled text 0 [] xs s mid (omega arith) (gap_none text 0) d in
      let w = left_inside text r.0 (subst (λ ts. ts ≡ [] → ⊥) r.1 h) in
      piece_fault r.0 small (s, r.3) w (more_fault r.0 s r.2 (subst (λ ts. (more (length text) s).refused ts f) r.1 g))

  refused_fault : LexRefused text f → HasFault text f
  refused_fault (inl h) = subst (HasFault text) (sym h.1) h.0
  refused_fault (inr h) = pieces_fault h.0 h.1

pub fault_is : (text : List ℕ) (fault : LexFault) → LexRefused text fault ↔ HasFault text fault
fault_is text fault = (refused_fault text fault, fault_refused text fault)
