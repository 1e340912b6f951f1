-- Numbers in words, digit by digit.
use Rattle.std.proofs.Common.{◌≡◌, ◌∙◌, ℕ, ◌+◌, ◌-◌, ◌*◌, ◌^◌, ◌<◌, min, List, [], ◌∷◌, ◌++◌, length, take, get_or, refl, ap, arith}
use Rattle.std.proofs.lemmas.List.{take_more}
use Rattle.commands.specs.Numbers.{number_from}

-- one more digit
more : (n : ℕ) (xs : List ℕ) (b : ℕ) → number_from n (xs ++ b ∷ []) ≡ 10 * number_from n xs + (b - 48)
more n [] b = refl
more n (x ∷ xs) b = more (10 * n + (x - 48)) xs b

pub more_value : (ds : List ℕ) (i d v m w : ℕ) → i < length ds → v ≡ min (number_from 0 (take i ds)) (2 ^ 64 - 1) → d ≡ get_or ds i 0 - 48 → m ≡ min (v * 10) (2 ^ 64 - 1) → w ≡ min (m + d) (2 ^ 64 - 1)
    → w ≡ min (number_from 0 (take (i + 1) ds)) (2 ^ 64 - 1)
more_value ds i d v m w lt was digit tens now =
    let whole : number_from 0 (take (i + 1) ds) ≡ 10 * number_from 0 (take i ds) + (get_or ds i 0 - 48) = ap (number_from 0) (take_more ds i 0 lt) ∙ more 0 (take i ds) (get_or ds i 0) in
    omega (arith, was, digit, tens, now, whole)
