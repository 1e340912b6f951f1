-- Texts that are put one after the other.
use Rattle.std.proofs.Common.{◌≡◌, ℕ, List, ◌++◌, append_assoc}

pub three : (a b c d s t u : List ℕ) → b ≡ a ++ s → c ≡ b ++ t → d ≡ c ++ u → d ≡ a ++ (s ++ t ++ u)
three a b c d s t u p q r = rw (r, q, p) (simp append_assoc)

pub four : (a b c d e s t u v : List ℕ) → b ≡ a ++ s → c ≡ b ++ t → d ≡ c ++ u → e ≡ d ++ v → e ≡ a ++ (s ++ t ++ u ++ v)
four a b c d e s t u v p q r w = rw (w, r, q, p) (simp append_assoc)

pub five : (a b c d e f s t u v w : List ℕ) → b ≡ a ++ s → c ≡ b ++ t → d ≡ c ++ u → e ≡ d ++ v → f ≡ e ++ w → f ≡ a ++ (s ++ t ++ u ++ v ++ w)
five a b c d e f s t u v w p q r x y = rw (y, x, r, q, p) (simp append_assoc)

-- one text more of a row: the first is put, the others are still to be
pub next : (before after first others whole : List ℕ) → before ++ (first ++ others) ≡ whole → after ≡ before ++ first → after ++ others ≡ whole
next before after first others whole so put = rw put (rw (append_assoc before first others) so)
