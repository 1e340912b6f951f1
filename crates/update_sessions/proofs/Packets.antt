-- Rows of packets, one after the other.
use Rattle.std.proofs.Common.{◌≡◌, ◌⊎◌, ℕ, List, [], ◌∷◌, ◌++◌, refl, sym, ap, ◌∙◌, subst, inl, inr, append_assoc, append-nil}
use Rattle.tl_base.specs.Packets.{packet}
use Rattle.update_sessions.specs.Packed.{Packed, PartlyPacked, Came}

-- the packets of some messages and then those of others
pub packed_then : {M : Type 0} (Spells : M → List ℕ → Type 0) (ms ns : List M) (x y : List ℕ) → Packed Spells ms x → Packed Spells ns y → Packed Spells (ms ++ ns) (x ++ y)
packed_then Spells [] ns x y is q = subst (Packed Spells ns) (sym (ap (λ (l : List ℕ). l ++ y) is)) q
packed_then Spells (m ∷ ms) ns x y (b, rest, s, is, p) q = (b, rest ++ y, s, ap (λ (l : List ℕ). l ++ y) is ∙ append_assoc (packet b) rest y, packed_then Spells ms ns rest y p q)

-- the packet of one message
pub packed_one : {M : Type 0} (Spells : M → List ℕ → Type 0) (m : M) (b : List ℕ) → Spells m b → Packed Spells (m ∷ []) (packet b)
packed_one Spells m b s = (b, [], s, sym (append-nil (packet b)), refl)

-- messages that came, and then others of what was left
pub came_then : {M : Type 0} (Means : M → List ℕ → Type 0) (bytes : List ℕ) (ms ns : List M) (mid left : List ℕ) → Came Means bytes ms mid → Came Means mid ns left → Came Means bytes (ms ++ ns) left
came_then Means bytes [] ns mid left is q = subst (λ (l : List ℕ). Came Means l ns left) (sym is) q
came_then Means bytes (m ∷ ms) ns mid left (b, rest, fits, is, means, p) q = (b, rest, fits, is, means, came_then Means rest ms ns mid left p q)

-- ---- a prefix

-- where two lists are one, the first part of the one is a prefix of that of the other, or goes past it
pub seam : (y rest a more : List ℕ) → y ++ rest ≡ a ++ more → ((z : List ℕ) × (y ++ z ≡ a)) ⊎ ((z : List ℕ) × (y ≡ a ++ z) × (z ++ rest ≡ more))
seam [] rest a more e = inl (a, refl)
seam (u ∷ y) rest [] more e = inr (u ∷ y, refl, e)
seam (u ∷ y) rest (v ∷ a) more e =
    let head : u ≡ v = cc in
    let tail : y ++ rest ≡ a ++ more = cc in
    elim (seam y rest a more tail) [
      | inl h ↦ inl (h.0, sym (ap (λ (w : ℕ). w ∷ a) (sym head) ∙ ap (λ (l : List ℕ). u ∷ l) (sym h.1)))
      | inr h ↦ inr (h.0, ap (λ (l : List ℕ). u ∷ l) h.1 ∙ ap (λ (w : ℕ). w ∷ (a ++ h.0)) head, h.2)
    ]

nothing_before : (y rest : List ℕ) → y ++ rest ≡ [] → y ≡ []
nothing_before [] rest e = refl
nothing_before (u ∷ y) rest e = absurd cc

-- a prefix of packets
pub partly_of : {M : Type 0} (Spells : M → List ℕ → Type 0) (ms : List M) (x y rest : List ℕ) → Packed Spells ms x → y ++ rest ≡ x → PartlyPacked Spells ms y
partly_of Spells [] x y rest is e = nothing_before y rest (e ∙ is)
partly_of Spells (m ∷ ms) x y rest (b, more, s, is, p) e =
    elim (seam y rest (packet b) more (e ∙ is)) [
      | inl h ↦ inr (b, h.0, s, inl h.1)
      | inr h ↦ inr (b, h.0, s, inr (h.1, partly_of Spells ms more h.0 rest p h.2))
    ]

-- nothing was written
pub partly_none : {M : Type 0} (Spells : M → List ℕ → Type 0) (ms : List M) → PartlyPacked Spells ms []
partly_none Spells [] = refl
partly_none Spells (m ∷ ms) = inl refl
