-- No reading matter: what a limited source has left are bytes.
use Rattle.std.specs.Prelude.{ℕ, List, Option, Some, None, IfSome, option_map, take}
use Rattle.std.proofs.Common.{arith, inl, inr}
use Rattle.std.proofs.lemmas.List.{get_or-take, get_or_past, length-take}
use Rattle.std.proofs.lemmas.Bool.{cases_lt}
use Rattle.tl_numbers.specs.Bytes.{AreBytes}

pub prefix_bytes : (n : ℕ) (bytes : List ℕ) → AreBytes bytes → AreBytes (take n bytes)
prefix_bytes n bytes all k =
    elim (cases_lt k n) [
      | inl lt ↦ omega (arith, get_or-take n bytes k 0 lt, all k)
      | inr past ↦ omega (arith, get_or_past (take n bytes) k 0 (omega (arith, length-take n bytes, past)))
    ]

pub limited_bytes : (rest : ℕ) (left : Option (List ℕ)) → IfSome left AreBytes → IfSome (option_map (take rest) left) AreBytes
limited_bytes rest None h = tt
limited_bytes rest (Some bytes) h = prefix_bytes rest bytes h
