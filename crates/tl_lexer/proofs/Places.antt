-- Bytes by their places.
use Rattle.std.proofs.Common.{◌≡◌, ℕ, ◌+◌, ◌<◌, ◌≤◌, List, [], ◌∷◌, length, drop, get_or, refl, sym, ◌∙◌, subst, inl, inr, arith}
use Rattle.std.specs.Prelude.{◌⊎◌}
use Rattle.std.proofs.lemmas.Bool.{cases_lt, cases_eq}
use Rattle.tl_lexer.specs.Rule.{Next}
use Rattle.tl_lexer.specs.Tokens.{Starts, StartsDashes, InLine, InBlock}
use Rattle.tl_lexer.specs.Spelled.{At, ByteAt, PairAt, DashesAt}
use Rattle.tl_lexer.proofs.Steps.{front, next_of, of_next}
use Rattle.tl_lexer.proofs.Runs.{cell_left, none_left, none_past}

pub inside : (P : ℕ → Type 0) (text : List ℕ) (p : ℕ) → At P text p → p < length text
inside P text p h = elim (cases_lt p (length text)) [ inl w ↦ w | inr w ↦ absurd (none_past P text p w h) ]

pub byte_at : (P : ℕ → Type 0) (text : List ℕ) (p : ℕ) → At P text p → P (get_or text p 0)
byte_at P text p h = of_next P text p 0 (inside P text p h) h

pub at_end : (text : List ℕ) (p : ℕ) → p ≤ length text → drop p text ≡ [] → p ≡ length text
at_end text p w e = elim (cases_lt p (length text)) [ inl h ↦ absurd (cell_left (sym (front text p 0 h) ∙ e)) | inr h ↦ omega (arith, w, h) ]

heads : {b c : ℕ} {bs cs : List ℕ} → b ∷ bs ≡ c ∷ cs → (b ≡ c) × (bs ≡ cs)
heads e = (cc, cc)

-- what stands after a byte is what stands at the next place
pub next_place : (text : List ℕ) (p b : ℕ) (rest : List ℕ) → drop p text ≡ b ∷ rest → (p < length text) × (rest ≡ drop (p + 1) text)
next_place text p b rest e = elim (cases_lt p (length text)) [ inl h ↦ (h, (heads (sym e ∙ front text p 0 h)).1) | inr h ↦ absurd (cell_left (sym e ∙ none_left text p h)) ]

-- ---- two bytes, and three

-- us stands after the first byte of ts, if there is one
abbrev pub Follows : List ℕ → List ℕ → Type 0
Follows [] us = us ≡ []
Follows (b ∷ bs) us = us ≡ bs

follows_at : (text : List ℕ) (p : ℕ) (ts : List ℕ) → drop p text ≡ ts → Follows ts (drop (p + 1) text)
follows_at text p [] e = elim (cases_lt p (length text)) [ inl h ↦ absurd (cell_left (sym (front text p 0 h) ∙ e)) | inr h ↦ none_left text (p + 1) (omega (arith, h)) ]
follows_at text p (b ∷ bs) e = sym (next_place text p b bs e).1

starts_apart : (a b : ℕ) (ts us : List ℕ) → Follows ts us → Starts a b ts → Next (λ x. x ≡ a) ts × Next (λ x. x ≡ b) us
starts_apart a b [] us e h = absurd h
starts_apart a b (x ∷ []) us e h = absurd h
starts_apart a b (x ∷ y ∷ bs) us e (h, g) = (h, subst (Next (λ z. z ≡ b)) (sym e) g)

starts_from : (a b : ℕ) (ts us : List ℕ) → Follows ts us → Next (λ x. x ≡ a) ts → Next (λ x. x ≡ b) us → Starts a b ts
starts_from a b [] us e h g = absurd h
starts_from a b (x ∷ []) us e h g = subst (Next (λ z. z ≡ b)) e g
starts_from a b (x ∷ y ∷ bs) us e h g = (h, subst (Next (λ z. z ≡ b)) e g)

pub starts_pair : (a b : ℕ) (text : List ℕ) (p : ℕ) → Starts a b (drop p text) → PairAt a b text p
starts_pair a b text p h = starts_apart a b (drop p text) (drop (p + 1) text) (follows_at text p (drop p text) refl) h

pub pair_starts : (a b : ℕ) (text : List ℕ) (p : ℕ) → PairAt a b text p → Starts a b (drop p text)
pair_starts a b text p (h, g) = starts_from a b (drop p text) (drop (p + 1) text) (follows_at text p (drop p text) refl) h g

pub pair_inside : (a b : ℕ) (text : List ℕ) (p : ℕ) → PairAt a b text p → p + 2 ≤ length text
pair_inside a b text p (h, g) = omega (arith, inside (λ x. x ≡ b) text (p + 1) g)

dashes_apart : (ts us : List ℕ) → Follows ts us → StartsDashes ts → Next (λ x. x ≡ 45) ts × Starts 45 45 us
dashes_apart [] us e h = absurd h
dashes_apart (x ∷ bs) us e (h, g) = (h, subst (Starts 45 45) (sym e) g)

dashes_from : (ts us : List ℕ) → Follows ts us → Next (λ x. x ≡ 45) ts → Starts 45 45 us → StartsDashes ts
dashes_from [] us e h g = absurd h
dashes_from (x ∷ bs) us e h g = (h, subst (Starts 45 45) e g)

pub starts_dashes : (text : List ℕ) (p : ℕ) → StartsDashes (drop p text) → DashesAt text p
starts_dashes text p h =
    let d = dashes_apart (drop p text) (drop (p + 1) text) (follows_at text p (drop p text) refl) h in
    (d.0, starts_pair 45 45 text (p + 1) d.1)

pub dashes_starts : (text : List ℕ) (p : ℕ) → DashesAt text p → StartsDashes (drop p text)
dashes_starts text p (h, g) = dashes_from (drop p text) (drop (p + 1) text) (follows_at text p (drop p text) refl) h (pair_starts 45 45 text (p + 1) g)

pub dashes_inside : (text : List ℕ) (p : ℕ) → DashesAt text p → p + 3 ≤ length text
dashes_inside text p (h, g) = omega (arith, pair_inside 45 45 text (p + 1) g)

-- ---- stretches

-- P holds of what stands at each place from start on and before end
abbrev pub Through : (List ℕ → Type 0) → List ℕ → ℕ → ℕ → Type 0
Through P text start end = (start ≤ end) × ((i : ℕ) → start ≤ i → i < end → P (drop i text))

pub through_none : (P : List ℕ → Type 0) (text : List ℕ) (p : ℕ) → Through P text p p
through_none P text p = (omega arith, λ i a b. absurd (omega (arith, a, b)))

after : (p i : ℕ) → p ≤ i → (i ≡ p → ⊥) → p + 1 ≤ i
after p i h n = elim (cases_lt p i) [ inl a ↦ omega (arith, a) | inr b ↦ absurd (n (omega (arith, h, b))) ]

pub through_first : (P : List ℕ → Type 0) (text : List ℕ) (p q : ℕ) → P (drop p text) → Through P text (p + 1) q → Through P text p q
through_first P text p q h (w, f) = (omega (arith, w), λ i a b. elim (cases_eq i p) [ inl e ↦ subst (λ k. P (drop k text)) (sym e) h | inr n ↦ f i (after p i a n) b ])

-- a line that doesn't go on ends with its text, or at a line feed
pub line_over : (text : List ℕ) (p : ℕ) → p ≤ length text → (InLine (drop p text) → ⊥) → (p ≡ length text) ⊎ ByteAt 10 text p
line_over text p w n =
    elim (cases_lt p (length text)) [
      | inl h ↦ elim (cases_eq (get_or text p 0) 10) [ inl e ↦ inr (next_of (λ b. b ≡ 10) text p 0 h e) | inr d ↦ absurd (n (next_of (λ b. b ≡ 10 → ⊥) text p 0 h d)) ]
      | inr h ↦ inl (omega (arith, w, h))
    ]

pub line_ends : (text : List ℕ) (p : ℕ) → (p ≡ length text) ⊎ ByteAt 10 text p → (p ≤ length text) × (InLine (drop p text) → ⊥)
line_ends text p (inl e) = (omega (arith, e), none_past (λ b. b ≡ 10 → ⊥) text p (omega (arith, e)))
line_ends text p (inr h) =
    let w = inside (λ b. b ≡ 10) text p h in
    (omega (arith, w), λ g. of_next (λ b. b ≡ 10 → ⊥) text p 0 w g (byte_at (λ b. b ≡ 10) text p h))

-- a comment that doesn't go on ends with its text, or at `*/`
pub pair_ends : (text : List ℕ) (p : ℕ) → PairAt 42 47 text p → InBlock (drop p text) → ⊥
pair_ends text p h g = g.1 (pair_starts 42 47 text p h)
