-- Sessions one after the other: which link is the next.
use Rattle.std.proofs.Common.{◌≡◌, ℕ, ◌+◌, List, get_or, drop, ap, ◌∙◌, arith}
use Rattle.std.proofs.lemmas.List.{get_or-drop}

-- ---- the session with the number k is the next

pub at_zero : {A : Type 0} (l : List A) (k : ℕ) (d : A) → get_or (drop k l) 0 d ≡ get_or l k d
at_zero l k d = let same : k + 0 ≡ k = omega arith in get_or-drop k l 0 d ∙ ap (λ (i : ℕ). get_or l i d) same
