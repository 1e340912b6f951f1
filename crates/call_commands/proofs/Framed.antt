-- What bytes begin with: a packet; a length that no packet has; or less than a packet. One of these, or there are none.
use Rattle.std.proofs.Common.{◌≡◌, ◌⊎◌, inl, inr, ℕ, ◌<◌, ◌≤◌, ◌%◌, ◌^◌, List, [], ◌∷◌, ◌++◌, append_assoc, length, length-append, take, drop, take-append-drop, refl, sym, ap, ◌∙◌, subst, arith}
use Rattle.std.proofs.lemmas.Bool.{cases_eq, cases_lt}
use Rattle.std.proofs.lemmas.List.{take_at, drop_at, length-take-le}
use Rattle.tl_numbers.specs.Bytes.{AreBytes}
use Rattle.tl_numbers.specs.Numbers.{word}
use Rattle.tl_base.specs.Packets.{IsPacketLength, IsCutShort, packet}
use Rattle.tl_base.specs.declared.packet.TheConstants.{PACKET_BYTES}
use Rattle.tl_types.proofs.Numbers.{short, whole, begins_word, same_number}

is_few : (n : ℕ) → IsPacketLength n → n < 2 ^ 32
is_few n fits = omega (arith, fits.1)

same_split : (x y r s : List ℕ) → length x ≡ length y → x ++ r ≡ y ++ s → (x ≡ y) × (r ≡ s)
same_split x y r s len e = (
  sym (take_at x r (length x) refl) ∙ ap (take (length x)) e ∙ take_at y s (length x) (sym len),
  sym (drop_at x r (length x) refl) ∙ ap (drop (length x)) e ∙ drop_at y s (length x) (sym len),
)

-- a packet begins with its length
head : (left content rest : List ℕ) → left ≡ packet content ++ rest → left ≡ word (length content) ++ (content ++ rest)
head left content rest e = e ∙ append_assoc (word (length content)) content rest

-- ---- one of them

pub one_packet : (left a b r s : List ℕ) → IsPacketLength (length a) → IsPacketLength (length b) → left ≡ packet a ++ r → left ≡ packet b ++ s → (a ≡ b) × (r ≡ s)
one_packet left a b r s fits also e f =
    let both = same_number (length a) (length b) (a ++ r) (b ++ s) (is_few _ fits) (is_few _ also) (sym (head left a r e) ∙ head left b s f) in
    same_split a b r s both.0 both.1

word_is_long : (left rest : List ℕ) (n : ℕ) → left ≡ word n ++ rest → 4 ≤ length left
word_is_long left rest n e = omega (arith, ap length e, length-append (word n) rest)

pub some_bytes : (left rest : List ℕ) (n : ℕ) → left ≡ word n ++ rest → left ≡ [] → ⊥
some_bytes left rest n e none = omega (arith, word_is_long left rest n e, ap length none)

pub never_bad : (left content rest more : List ℕ) (n : ℕ) → IsPacketLength (length content) → left ≡ packet content ++ rest → n < 2 ^ 32 → left ≡ word n ++ more → ¬ IsPacketLength n → ⊥
never_bad left content rest more n fits e few begins bad =
    let both = same_number n (length content) more (content ++ rest) few (is_few _ fits) (sym begins ∙ head left content rest e) in
    bad (subst IsPacketLength (sym both.0) fits)

pub never_cut : (left content rest : List ℕ) → IsPacketLength (length content) → left ≡ packet content ++ rest → IsCutShort left → ⊥
never_cut left content rest fits e (inl few) = omega (arith, few, word_is_long left (content ++ rest) (length content) (head left content rest e))
never_cut left content rest fits e (inr (n, more, good, begins, less)) =
    let both = same_number n (length content) more (content ++ rest) (is_few _ good) (is_few _ fits) (sym begins ∙ head left content rest e) in
    omega (arith, less, both.0, ap length both.1, length-append content rest)

pub never_both : (left rest : List ℕ) (n : ℕ) → n < 2 ^ 32 → left ≡ word n ++ rest → ¬ IsPacketLength n → IsCutShort left → ⊥
never_both left rest n few begins bad (inl less) = omega (arith, less, word_is_long left rest n begins)
never_both left rest n few begins bad (inr (m, more, good, also, less)) =
    let both = same_number n m rest more few (is_few _ good) (sym begins ∙ also) in
    bad (subst IsPacketLength (sym both.0) good)

pub one_length : (left rest more : List ℕ) (m n : ℕ) → m < 2 ^ 32 → n < 2 ^ 32 → left ≡ word m ++ rest → left ≡ word n ++ more → m ≡ n
one_length left rest more m n few also e f = (same_number m n rest more few also (sym e ∙ f)).0

-- ---- one at least

pub data BeginsPacket (left : List ℕ) : Type 0 where
  none : left ≡ [] → BeginsPacket left
  bad : (n : ℕ) (rest : List ℕ) → n < 2 ^ 32 → left ≡ word n ++ rest → ¬ IsPacketLength n → BeginsPacket left
  cut : 0 < length left → IsCutShort left → BeginsPacket left
  packed : (content rest : List ℕ) → IsPacketLength (length content) → left ≡ packet content ++ rest → BeginsPacket left

length_decided : (n : ℕ) → IsPacketLength n ⊎ (IsPacketLength n → ⊥)
length_decided n = elim (cases_eq (n % 4) 0) [
  | inl four ↦ elim (cases_lt PACKET_BYTES n) [
    | inl much ↦ inr (λ fits. omega (arith, much, fits.1))
    | inr few ↦ inl (four, omega (arith, few))
  ]
  | inr other ↦ inr (λ fits. other fits.0)
]

few_bytes : (left : List ℕ) → length left < 4 → BeginsPacket left
few_bytes [] few = none refl
few_bytes (b ∷ left) few = cut (omega arith) (inl few)

by_length : (left rest : List ℕ) (n : ℕ) → left ≡ word n ++ rest → IsPacketLength n → BeginsPacket left
by_length left rest n begins fits = elim (cases_lt (length rest) n) [
  | inl less ↦ cut (omega (arith, word_is_long left rest n begins)) (inr (n, rest, fits, begins, less))
  | inr all ↦
      let content = take n rest in
      let long : length content ≡ n = length-take-le n rest all in
      let is : word n ++ (content ++ drop n rest) ≡ packet content ++ drop n rest =
      sym (append_assoc (word n) content (drop n rest)) ∙ ap (λ (k : ℕ). (word k ++ content) ++ drop n rest) (sym long) in
      packed content (drop n rest) (subst IsPacketLength (sym long) fits) (begins ∙ ap (λ (z : List ℕ). word n ++ z) (sym (take-append-drop n rest)) ∙ is)
]

pub begins_packet : (left : List ℕ) → AreBytes left → BeginsPacket left
begins_packet left are = elim (begins_word left are) [
  | short few ↦ few_bytes left few
  | whole n rest few begins bytes ↦ elim (length_decided n) [
    | inl fits ↦ by_length left rest n begins fits
    | inr not ↦ bad n rest few begins not
  ]
]
