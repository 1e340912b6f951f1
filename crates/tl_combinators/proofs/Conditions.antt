-- Bits, conditions and Words without a `:`, by the next tokens.
use Rattle.std.proofs.Common.{◌≡◌, ℕ, ◌+◌, ◌<◌, ◌≤◌, List, [], ◌∷◌, length, drop, get_or, Ok, Err, refl, sym, subst}
use Rattle.std.proofs.lemmas.List.{drop_all}
use Rattle.tl_lexer.specs.Rule.{Next, Parses}
use Rattle.tl_lexer.specs.declared.token.Token.{Token}
use Rattle.tl_lexer.specs.declared.token.TokenKind.TheVariants.{Dot, Colon}
use Rattle.tl_lexer.proofs.Steps.{front, of_next}
use Rattle.tl_combinators.specs.declared.fault.SyntaxFault.{SyntaxFault}
use Rattle.tl_program.specs.Letters.{is_letter, is_digit}
use Rattle.tl_combinators.specs.Tokens.{fault_of, unexpected, Begins, IsWord}
use Rattle.tl_combinators.specs.Fields.{IsBit, HasBit, bit, BeginsCondition, IsLone}

-- ---- the number of a bit

pub bit_ok : (text : List ℕ) (ts : List Token) (i n : ℕ) (d : Token) → i < length ts → IsBit text n (get_or ts i d) → Parses fault_of (λ (n : ℕ). n) (bit text) (drop i ts) (drop (i + 1) ts) (Ok n)
unfolding bit
bit_ok text ts i n d h b = record { given = (get_or ts i d, front ts i d h, b) }

no_bit : (text : List ℕ) (ts rest : List Token) {e : SyntaxFault} → (Next (HasBit text) ts → ⊥) → e ≡ unexpected text ts → Parses {X = ℕ} fault_of (λ (n : ℕ). n) (bit text) ts rest (Err e)
unfolding bit
no_bit text ts rest n p = subst (λ z. Parses {X = ℕ} fault_of (λ (n : ℕ). n) (bit text) ts rest (Err z)) (sym p) (record { given = (n, refl) })

pub bit_err : (text : List ℕ) (ts : List Token) (i : ℕ) (d : Token) (rest : List Token) {e : SyntaxFault} → i < length ts → (HasBit text (get_or ts i d) → ⊥) → e ≡ unexpected text (drop i ts) → Parses {X = ℕ} fault_of (λ (n : ℕ). n) (bit text) (drop i ts) rest (Err e)
bit_err text ts i d rest h n p = no_bit text (drop i ts) rest (λ b. n (of_next (HasBit text) ts i d h b)) p

pub bit_past : (text : List ℕ) (ts : List Token) (i : ℕ) (rest : List Token) {e : SyntaxFault} → length ts ≤ i → e ≡ unexpected text (drop i ts) → Parses {X = ℕ} fault_of (λ (n : ℕ). n) (bit text) (drop i ts) rest (Err e)
bit_past text ts i rest h p = no_bit text (drop i ts) rest (λ b. subst (Next (HasBit text)) (drop_all i ts h) b) p

-- ---- conditions; vs and ws are the tokens after the first and the second

module _ (text : List ℕ) where
  pub condition_is : (us vs ws : List Token) → vs ≡ drop 1 us → ws ≡ drop 2 us → Next (IsWord text is_letter) us → Begins Dot vs → Next (IsWord text is_digit) ws → BeginsCondition text us
  condition_is [] vs ws e f p q r = p
  condition_is (t ∷ []) vs ws e f p q r = absurd (subst (Begins Dot) e q)
  condition_is (t ∷ d ∷ us) vs ws e f p q r = (p, (subst (Begins Dot) e q, subst (Next (IsWord text is_digit)) f r))

  pub condition_dot : (us vs : List Token) → vs ≡ drop 1 us → BeginsCondition text us → Begins Dot vs
  condition_dot [] vs e h = absurd h
  condition_dot (t ∷ []) vs e h = absurd h.1
  condition_dot (t ∷ d ∷ us) vs e h = subst (Begins Dot) (sym e) h.1.0

  pub condition_digit : (us ws : List Token) → ws ≡ drop 2 us → BeginsCondition text us → Next (IsWord text is_digit) ws
  condition_digit [] ws e h = absurd h
  condition_digit (t ∷ []) ws e h = absurd h.1
  condition_digit (t ∷ d ∷ us) ws e h = subst (Next (IsWord text is_digit)) (sym e) h.1.1

  -- ---- a Word without a `:`

  pub lone_is : (us vs : List Token) → vs ≡ drop 1 us → Next (IsWord text is_letter) us → (Begins Colon vs → ⊥) → IsLone text us
  lone_is [] vs e p n = p
  lone_is (t ∷ us) vs e p n = (p, λ b. n (subst (Begins Colon) (sym e) b))

  pub lone_not : (us vs : List Token) → vs ≡ drop 1 us → IsLone text us → Begins Colon vs → ⊥
  lone_not [] vs e h b = h
  lone_not (t ∷ us) vs e h b = h.1 (subst (Begins Colon) e b)
