-- No reading matter: what is shown of memory are bytes.
use Rattle.std.specs.Prelude.{ℕ, ◌+◌, List, drop}
use Rattle.std.proofs.Common.{arith}
use Rattle.std.proofs.lemmas.List.{get_or-drop}
use Rattle.tl_numbers.specs.Bytes.{AreBytes}

pub rest_bytes : (n : ℕ) (bytes : List ℕ) → AreBytes bytes → AreBytes (drop n bytes)
rest_bytes n bytes all k = omega (arith, get_or-drop n bytes k 0, all (n + k))
