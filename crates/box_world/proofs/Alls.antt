-- Each of a list, by index.
use Rattle.std.proofs.Common.{zero, suc, List, [], ◌∷◌, ◌++◌, get_or, arith}
use Rattle.std.specs.List.{All}

pub all_weaker : {A : Type 0} (P Q : A → Type 0) → ((x : A) → P x → Q x) → (xs : List A) → All P xs → All Q xs
all_weaker P Q f xs h k d lt = f (get_or xs k d) (h k d lt)

pub all_append : {A : Type 0} (P : A → Type 0) (xs ys : List A) → All P xs → All P ys → All P (xs ++ ys)
all_append P [] ys h g k d lt = g k d lt
all_append P (x ∷ xs) ys h g zero d lt = h zero d (omega arith)
all_append P (x ∷ xs) ys h g (suc k) d lt = all_append P xs ys (λ i e l. h (suc i) e (omega (arith, l))) g k d (omega (arith, lt))
