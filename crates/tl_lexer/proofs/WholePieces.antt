-- Each text has tokens, or is refused.
use Rattle.std.proofs.Common.{◌≡◌, ℕ, ◌<◌, ◌≤◌, List, [], ◌∷◌, length, Bool, true, false, Option, Some, None, refl, inl, inr}
use Rattle.std.specs.Prelude.{◌⊎◌}
use Rattle.std.proofs.lemmas.Bool.{cases_Bool, both_ways, cases_lt, cases_eq}
use Rattle.tl_lexer.specs.Rule.{loop}
use Rattle.tl_lexer.specs.declared.token.Token.{Token}
use Rattle.tl_lexer.specs.declared.token.TokenKind.{TokenKind}
use Rattle.tl_lexer.specs.declared.fault.LexFault.TheVariants.{TextTooLong}
use Rattle.tl_lexer.specs.Tokens.{Is, HasKind, Starts, StartsDashes, InLine, InBlock, is_white, is_word, single, any_byte, one_byte, two_bytes, bytes_while, white_byte, word, line, closes, block, dashes, single_byte, piece, more, pieces}
use Rattle.tl_lexer.specs.OneAnswer.{HasTokens, IsRefused, HasOneAnswer}
use Rattle.tl_lexer.proofs.Whole.{Whole, Outcome, Decided, whole_gives, whole_fails, whole_here, whole_one, whole_chain, whole_choice, whole_loop, next_decided}
use Rattle.tl_lexer.proofs.Runs.{none_some, cell_left}
use Rattle.tl_lexer.proofs.SurePieces.{sure_pieces, never_both, one_fault}
use Rattle.tl_lexer.proofs.Spans.{shortens_turn, shortens_more, pieces_spans}

-- ---- what selects is decided

is_from : (b : Bool) → (b ≡ true) ⊎ (b ≡ false) → Decided (b ≡ true)
is_from b (inl e) = inl e
is_from b (inr e) = inr (λ h. both_ways b e h)

is_decided : (test : ℕ → Bool) (b : ℕ) → Decided (Is test b)
is_decided test b = is_from (test b) (cases_Bool (test b))

kind_from : (o : Option TokenKind) → Decided ((k : TokenKind) × (o ≡ Some k))
kind_from None = inr (λ h. none_some h.1)
kind_from (Some k) = inl (k, refl)

kind_decided : (b : ℕ) → Decided (HasKind b)
kind_decided b = kind_from (single b)

more_decided : (bs : List ℕ) → Decided (bs ≡ [] → ⊥)
more_decided [] = inr (λ h. h refl)
more_decided (b ∷ bs) = inl (λ e. cell_left e)

byte_decided : (a b : ℕ) → Decided (b ≡ a)
byte_decided a b = cases_eq b a

both_decided : {P Q : Type 0} → Decided P → Decided Q → Decided (P × Q)
both_decided (inl p) (inl q) = inl (p, q)
both_decided (inl p) (inr n) = inr (λ h. n h.1)
both_decided (inr n) d = inr (λ h. n h.0)

not_decided : {P : Type 0} → Decided P → Decided (P → ⊥)
not_decided (inl p) = inr (λ n. n p)
not_decided (inr n) = inl n

starts_decided : (a b : ℕ) (bs : List ℕ) → Decided (Starts a b bs)
starts_decided a b [] = inr (λ h. h)
starts_decided a b (x ∷ []) = inr (λ h. h)
starts_decided a b (x ∷ y ∷ bs) = both_decided (byte_decided a x) (byte_decided b y)

dashes_decided : (bs : List ℕ) → Decided (StartsDashes bs)
dashes_decided [] = inr (λ h. h)
dashes_decided (x ∷ bs) = both_decided (byte_decided 45 x) (starts_decided 45 45 bs)

block_decided : (bs : List ℕ) → Decided (InBlock bs)
block_decided bs = both_decided (more_decided bs) (not_decided (starts_decided 42 47 bs))

line_decided : (bs : List ℕ) → Decided (InLine bs)
line_decided bs = next_decided (λ b. b ≡ 10 → ⊥) (λ b. not_decided (byte_decided 10 b)) bs

-- ---- pieces

whole_any : (size : ℕ) → Whole (any_byte size)
unfolding any_byte
whole_any size = whole_one _ _ (λ b. inl tt)

whole_two : (size : ℕ) → Whole (two_bytes size)
unfolding two_bytes
whole_two size = whole_chain _ _ (whole_any _) (λ a. whole_chain _ _ (whole_any _) (λ b. whole_gives _))

whole_while : (size : ℕ) (P : List ℕ → Type 0) → ((ts : List ℕ) → Decided (P ts)) → Whole (bytes_while size P)
unfolding bytes_while
whole_while size P test = whole_loop P (one_byte size) test (λ u. whole_chain _ _ (whole_any _) (λ b. whole_gives _)) (shortens_turn size) tt

whole_block : (size : ℕ) → Whole (block size)
unfolding block closes
whole_block size =
    whole_chain _ _ (whole_here _) (λ start. whole_chain _ _ (whole_two _) (λ u. whole_chain _ _ (whole_while _ _ block_decided)
    (λ v. whole_choice _ _ _ (starts_decided 42 47) (whole_chain _ _ (whole_two _) (λ w. whole_gives _)) (whole_fails _))))

whole_piece : (size : ℕ) → Whole (piece size)
unfolding piece white_byte word line dashes single_byte
whole_piece size =
    whole_choice _ _ _ (next_decided _ (is_decided is_white)) (whole_chain _ _ (whole_any _) (λ b. whole_gives _))
    (whole_choice _ _ _ (next_decided _ (is_decided is_word)) (whole_chain _ _ (whole_any _) (λ b. whole_chain _ _ (whole_while _ _ (next_decided _ (is_decided is_word))) (λ u. whole_gives _)))
    (whole_choice _ _ _ (starts_decided 47 47) (whole_chain _ _ (whole_two _) (λ u. whole_chain _ _ (whole_while _ _ line_decided) (λ v. whole_gives _)))
    (whole_choice _ _ _ (starts_decided 47 42) (whole_block _)
    (whole_choice _ _ _ dashes_decided (whole_chain _ _ (whole_two _) (λ u. whole_chain _ _ (whole_any _) (λ b. whole_gives _)))
    (whole_choice _ _ _ (next_decided _ kind_decided) (whole_chain _ _ (whole_any _) (λ b. whole_gives _)) (whole_fails _))))))

whole_pieces : (size : ℕ) → Whole (pieces size)
unfolding pieces more
whole_pieces size =
    whole_loop _ (more size) more_decided (λ ts. whole_chain _ _ (whole_here _) (λ start. whole_chain _ _ (whole_piece _) (λ o. whole_chain _ _ (whole_here _) (λ end. whole_gives _)))) (shortens_more size) []

-- ---- texts

to_end : (size : ℕ) (text rest : List ℕ) (ts : List Token) → (pieces size).reads text ts rest → (pieces size).reads text ts []
unfolding pieces loop
to_end size text [] ts p = p
to_end size text (b ∷ bs) ts (xs, d, n) = absurd (n (λ e. cell_left e))

small_answer : (text : List ℕ) → length text ≤ 4194304 → Outcome (pieces (length text)) text → HasTokens text ⊎ IsRefused text
small_answer text w (inl (ts, rest, p)) = inl (ts, (w, to_end (length text) text rest ts p, pieces_spans text rest ts p))
small_answer text w (inr (f, p)) = inr (f, inr (w, p))

some_answer : (text : List ℕ) → (4194304 < length text) ⊎ (length text ≤ 4194304) → HasTokens text ⊎ IsRefused text
some_answer text (inl w) = inr (TextTooLong, inl (w, refl))
some_answer text (inr w) = small_answer text w ((whole_pieces (length text)).given text)

pub one_answer : (text : List ℕ) → HasOneAnswer text
one_answer text =
    record {
      one = some_answer text (cases_lt 4194304 (length text));
      never_both = λ t r. never_both text t.0 r.0 t.1 r.1;
      same_tokens = λ ts us t u. ((sure_pieces _).same text [] [] ts us t.1 u.1).0;
      same_fault = one_fault text;
    }
