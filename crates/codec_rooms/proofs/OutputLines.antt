-- Pieces of a line.
use Rattle.std.proofs.Common.{◌≡◌, ℕ, List, ◌++◌, take, drop, sym, ap₂, ◌∙◌}
use Rattle.std.proofs.lemmas.List.{take-append-drop}

pub two_parts : (xs a b : List ℕ) (n : ℕ) → a ≡ take n xs → b ≡ drop n xs → xs ≡ a ++ b
two_parts xs a b n front back = sym (take-append-drop n xs) ∙ ap₂ (λ (l m : List ℕ). l ++ m) (sym front) (sym back)
