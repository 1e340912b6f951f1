-- Each token of a text is a part of it.
use Rattle.std.proofs.Common.{◌≡◌, ℕ, zero, suc, ◌<◌, ◌≤◌, List, [], ◌∷◌, ◌++◌, length, get_or, Option, Some, None, arith, sym, subst, ap}
use Rattle.tl_lexer.specs.Rule.{Rule, Turns, here, gives, chain, loop}
use Rattle.tl_lexer.specs.declared.token.Token.{Token}
use Rattle.tl_lexer.specs.declared.token.TokenKind.{TokenKind}
use Rattle.tl_lexer.specs.declared.fault.LexFault.{LexFault}
use Rattle.tl_lexer.specs.Tokens.{Spans, Tokens, any_byte, one_byte, two_bytes, bytes_while, white_byte, word, line, closes, block, dashes, single_byte, with_piece, more, piece, pieces}
use Rattle.tl_lexer.proofs.Suffixes.{Shrinks, Shortens, leads_choice, leads_fails, shortens_one, shortens_first, shortens_then, shrinks_shortens, shrinks_gives, shrinks_here, shrinks_chain, shrinks_loop}

pub span_at : (n : ℕ) (ts : List Token) (i : ℕ) (d : Token) → i < length ts → Spans n ts → ((get_or ts i d).start ≤ (get_or ts i d).end) × ((get_or ts i d).end ≤ n)
span_at n [] i d h s = absurd (omega (arith, h))
span_at n (t ∷ ts) zero d h s = (s.0, s.1)
span_at n (t ∷ ts) (suc i) d h s = span_at n ts i d (omega (arith, h)) s.2

module _ (text : List ℕ) (tokens : List Token) (is : Tokens text tokens) where
  pub text_is_small : length text ≤ 4194304
  text_is_small = is.0

  pub token_ordered : (i : ℕ) (d : Token) → i < length tokens → (get_or tokens i d).start ≤ (get_or tokens i d).end
  token_ordered i d h = (span_at (length text) tokens i d h is.2).0

  pub token_within : (i : ℕ) (d : Token) → i < length tokens → (get_or tokens i d).end ≤ length text
  token_within i d h = (span_at (length text) tokens i d h is.2).1

-- ---- what is read has spans

spans_push : (n : ℕ) (ts : List Token) (t : Token) → t.start ≤ t.end → t.end ≤ n → Spans n ts → Spans n (ts ++ (t ∷ []))
spans_push n [] t p q s = (p, q, tt)
spans_push n (u ∷ ts) t p q (a, b, s) = (a, b, spans_push n ts t p q s)

spans_piece : (n : ℕ) (ts : List Token) (start end : ℕ) (o : Option TokenKind) → start ≤ end → end ≤ n → Spans n ts → Spans n (with_piece ts start end o)
spans_piece n ts start end None p q s = s
spans_piece n ts start end (Some k) p q s = spans_push n ts (record { kind = k; start = start; end = end }) p q s

shortens_any : (size : ℕ) → Shortens (any_byte size)
unfolding any_byte
shortens_any size = shortens_one _ _

shortens_byte : {A : Type 0} (size : ℕ) (s : ℕ → Rule ℕ LexFault A) → ((b : ℕ) → Shrinks (s b)) → Shortens (chain (any_byte size) s)
shortens_byte size s h = shortens_first _ _ (shortens_any size) h

pub shortens_turn : (size : ℕ) (u : Unit {0}) → Shortens (one_byte size u)
shortens_turn size u = shortens_byte size _ (λ b. shrinks_gives _ _ _)

shrinks_while : (size : ℕ) (P : List ℕ → Type 0) → Shrinks (bytes_while size P)
unfolding bytes_while
shrinks_while size P = shrinks_loop P (one_byte size) (λ u. shrinks_shortens (one_byte size u) (shortens_turn size u)) tt

shrinks_byte : {A : Type 0} (size : ℕ) (s : ℕ → Rule ℕ LexFault A) → ((b : ℕ) → Shrinks (s b)) → Shrinks (chain (any_byte size) s)
shrinks_byte size s h = shrinks_shortens (chain (any_byte size) s) (shortens_byte size s h)

shortens_two : (size : ℕ) → Shortens (two_bytes size)
unfolding two_bytes
shortens_two size = shortens_byte size _ (λ a. shrinks_byte size _ (λ b. shrinks_gives _ _ _))

shrinks_two : (size : ℕ) → Shrinks (two_bytes size)
shrinks_two size = shrinks_shortens (two_bytes size) (shortens_two size)

shortens_block : (size : ℕ) → Shortens (block size)
unfolding block closes
shortens_block size =
    shortens_then _ _ (shrinks_here _ _) (λ start. shortens_first _ _ (shortens_two size) (λ u. shrinks_chain _ _ (shrinks_while _ _)
    (λ v. leads_choice _ _ _ _ (shrinks_chain _ _ (shrinks_two size) (λ w. shrinks_gives _ _ _)) (leads_fails _ _ _))))

shortens_piece : (size : ℕ) → Shortens (piece size)
unfolding piece white_byte word line dashes single_byte
shortens_piece size =
    leads_choice _ _ _ _ (shortens_byte size _ (λ b. shrinks_gives _ _ _))
    (leads_choice _ _ _ _ (shortens_byte size _ (λ b. shrinks_chain _ _ (shrinks_while _ _) (λ u. shrinks_gives _ _ _)))
    (leads_choice _ _ _ _ (shortens_first _ _ (shortens_two size) (λ u. shrinks_chain _ _ (shrinks_while _ _) (λ v. shrinks_gives _ _ _)))
    (leads_choice _ _ _ _ (shortens_block size)
    (leads_choice _ _ _ _ (shortens_first _ _ (shortens_two size) (λ u. shrinks_byte size _ (λ b. shrinks_gives _ _ _)))
    (leads_choice _ _ _ _ (shortens_byte size _ (λ b. shrinks_gives _ _ _)) (leads_fails _ _ _))))))

pub shortens_more : (size : ℕ) (ts : List Token) → Shortens (more size ts)
unfolding more
shortens_more size ts =
    shortens_then _ _ (shrinks_here _ _) (λ start. shortens_first _ _ (shortens_piece size) (λ o. shrinks_chain _ _ (shrinks_here _ _) (λ end. shrinks_gives _ _ _)))

spans_more : (size : ℕ) (s x : List Token) (ts rest : List ℕ) → length ts ≤ size → Spans size s → (more size s).reads ts x rest → Spans size x
unfolding more chain here gives
spans_more size s x ts rest w h (start, a, (i, j), (o, b, p, (end, c, (k, l), (m, n)))) =
    let fewer : length b ≤ length a = omega (arith, shortens_piece size a b o p) in
    let same : length a ≤ length ts = subst (λ (us : List ℕ). length us ≤ length ts) (sym j) (omega arith) in
    subst (Spans size) (sym m) (spans_piece size s start end o (omega (arith, i, k, ap length j, fewer)) (omega (arith, k)) h)

spans_turns : (size : ℕ) (s : List Token) (ts mid : List ℕ) (xs : List (List Token)) (a : List Token) → length ts ≤ size → Spans size s → Turns (λ bs. bs ≡ [] → ⊥) (more size) s ts xs a mid → Spans size a
spans_turns size s ts mid [] a w h e = subst (Spans size) (sym e.0) h
spans_turns size s ts mid (x ∷ xs) a w h (p, next, g, d) = spans_turns size x next mid xs a (omega (arith, shortens_more size s ts next x g)) (spans_more size s x ts next w h g) d

pub pieces_spans : (text : List ℕ) (rest : List ℕ) (ts : List Token) → (pieces (length text)).reads text ts rest → Spans (length text) ts
unfolding pieces loop
pieces_spans text rest ts (xs, d, n) = spans_turns (length text) [] text rest xs ts (omega arith) tt d
