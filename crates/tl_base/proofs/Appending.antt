-- A piece is written in several calls.
use Rattle.std.proofs.Common.{◌≡◌, ℕ, ◌+◌, ◌-◌, ◌≤◌, ◌++◌, ◌∙◌, ap₂, List, length, take, drop, Option, subst, sym, ap, arith, take-add, length-drop}
use Rattle.std.specs.Io.KnownBytes.{Appends, Keeps}
use Rattle.std.proofs.KnownBytes.{Appends-trans, Appends-kept}
use Rattle.std.proofs.lemmas.List.{take-append-drop, take_all, take_at, length-take-le, drop-drop}
use Rattle.tl_base.specs.Writing.{AppendsPrefix}

-- `&piece[at..]` as a slice's value is written in a goal
abbrev pub rest_of : List ℕ → ℕ → List ℕ
rest_of piece at = take (length piece - at) (drop at piece)

pub rest_of-is : (piece : List ℕ) (at : ℕ) → rest_of piece at ≡ drop at piece
rest_of-is piece at = take_all (length piece - at) (drop at piece) (omega (arith, length-drop at piece))

pub appends_more : (a b c : Option (List ℕ)) (piece : List ℕ) (at n : ℕ) → Appends a b (take at piece) → Appends b c (take n (rest_of piece at)) → Appends a c (take (at + n) piece)
appends_more a b c piece at n p q =
    let e : take n (rest_of piece at) ≡ take n (drop at piece) = ap (take n) (rest_of-is piece at) in
    subst (Appends a c) (sym (take-add at n piece)) (Appends-trans a b c _ _ p (subst (Appends b c) e q))

pub appends_kept : (a b c : Option (List ℕ)) (piece : List ℕ) (at : ℕ) → Appends a b (take at piece) → Keeps b c → AppendsPrefix a c piece
appends_kept a b c piece at p q = (take at piece, drop at piece, take-append-drop at piece, Appends-kept a b c _ p q)

-- a piece is given from what comes next
pub gives : (bytes new more : List ℕ) (at n : ℕ) → new ≡ take n (rest_of bytes at) → n ≤ length (rest_of bytes at) → drop at bytes ≡ take n (new ++ more) ++ drop (at + n) bytes
gives bytes new more at n is le =
    let whole = rest_of-is bytes at in
    let front : take n (new ++ more) ≡ take n (drop at bytes) =
    ap (λ (l : List ℕ). take n (l ++ more)) is ∙ (take_at (take n (rest_of bytes at)) more n (length-take-le n (rest_of bytes at) le) ∙ ap (take n) whole) in
    sym (ap₂ (λ (a b : List ℕ). a ++ b) front (sym (drop-drop n at bytes)) ∙ take-append-drop n (drop at bytes))
