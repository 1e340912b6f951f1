-- Runs of bytes, in a text of so many bytes.
use Rattle.std.proofs.Common.{◌≡◌, ℕ, ◌+◌, ◌<◌, ◌≤◌, List, [], ◌∷◌, length, drop, get_or, Bool, true, false, Option, Some, None, Ok, sym, subst, ◌∙◌, refl, arith}
use Rattle.std.specs.Prelude.{not}
use Rattle.std.proofs.lemmas.List.{drop_all}
use Rattle.tl_lexer.specs.Rule.{Next, Parses}
use Rattle.tl_lexer.proofs.Steps.{then_ok, gives_ok, one_ok, next_of, of_next, front}
use Rattle.tl_lexer.proofs.Turns.{Came, came_more}
use Rattle.tl_lexer.specs.Tokens.{any_byte, one_byte, two_bytes, fault_of, HasKind, single}
use Rattle.tl_lexer.specs.declared.token.TokenKind.{TokenKind}

pub byte_ok : (size : ℕ) (text : List ℕ) (i : ℕ) → i < length text → Parses fault_of (λ (b : ℕ). b) (any_byte size) (drop i text) (drop (i + 1) text) (Ok (get_or text i 0))
unfolding any_byte
byte_ok size text i h = one_ok _ (λ b. Unit {0}) text i 0 h (next_of (λ b. Unit {0}) text i 0 h tt)

pub run_more : (P : List ℕ → Type 0) (size : ℕ) (text : List ℕ) (from i : ℕ) → i < length text → Came P (one_byte size) tt (drop from text) tt (drop i text) → P (drop i text) → Came P (one_byte size) tt (drop from text) tt (drop (i + 1) text)
run_more P size text from i h c p = came_more {look = λ (u : Unit {0}). u} c p (then_ok _ (byte_ok size text i h) (gives_ok {x = tt} refl)) refl

-- the byte at i, where what is read ends at j
byte_to : (size : ℕ) (text : List ℕ) (i j : ℕ) → j ≡ i + 1 → i < length text → Parses fault_of (λ (b : ℕ). b) (any_byte size) (drop i text) (drop j text) (Ok (get_or text i 0))
byte_to size text i j e h = subst (λ k. Parses fault_of (λ (b : ℕ). b) (any_byte size) (drop i text) (drop k text) (Ok (get_or text i 0))) (sym e) (byte_ok size text i h)

pub two_ok : (size : ℕ) (text : List ℕ) (i : ℕ) → i + 2 ≤ length text → Parses fault_of (λ (u : Unit {0}). u) (two_bytes size) (drop i text) (drop (i + 2) text) (Ok tt)
unfolding two_bytes
two_ok size text i h = then_ok _ (byte_ok size text i (omega (arith, h))) (then_ok _ (byte_to size text (i + 1) (i + 2) (omega arith) (omega (arith, h))) (gives_ok refl))

pub third_ok : (size : ℕ) (text : List ℕ) (i : ℕ) → i + 3 ≤ length text → Parses fault_of (λ (b : ℕ). b) (any_byte size) (drop (i + 2) text) (drop (i + 3) text) (Ok (get_or text (i + 2) 0))
third_ok size text i h = byte_to size text (i + 2) (i + 3) (omega arith) (omega (arith, h))

-- ---- ends

pub cell_left : {t : ℕ} {ts : List ℕ} → t ∷ ts ≡ [] → ⊥
cell_left e = absurd cc

pub some_left : (text : List ℕ) (i : ℕ) → i < length text → drop i text ≡ [] → ⊥
some_left text i h e = cell_left (sym (front text i 0 h) ∙ e)

pub none_left : (text : List ℕ) (i : ℕ) → length text ≤ i → drop i text ≡ []
none_left text i h = drop_all i text h

pub none_past : (P : ℕ → Type 0) (text : List ℕ) (i : ℕ) → length text ≤ i → Next P (drop i text) → ⊥
none_past P text i h p = subst (Next P) (none_left text i h) p

pub false_of : (x : Bool) → not x ≡ true → x ≡ false
false_of true e = absurd cc
false_of false e = refl

-- ---- a byte with a kind, and one without

pub none_some : {k : TokenKind} → ◌≡◌ {A = Option TokenKind} None (Some k) → ⊥
none_some e = absurd cc

pub kind_next : (text : List ℕ) (i : ℕ) (k : TokenKind) → i < length text → single (get_or text i 0) ≡ Some k → Next HasKind (drop i text)
kind_next text i k h e = next_of HasKind text i 0 h (k, e)

pub no_kind : (text : List ℕ) (i : ℕ) → i < length text → single (get_or text i 0) ≡ None → Next HasKind (drop i text) → ⊥
no_kind text i h e n = let p = of_next HasKind text i 0 h n in none_some (sym e ∙ p.1)
