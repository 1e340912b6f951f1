-- Files. This project's own.
use Rattle.std.specs.Prelude.{ℕ, List}
use Rattle.std.specs.List.{AllByRecursion}
use Rattle.tl_numbers.specs.Bytes.{AreBytes}

-- files, each with its name and its contents
abbrev pub Files : Type 0
Files = List (List ℕ × List ℕ)

-- each file holds bytes
abbrev pub HoldBytes : Files → Type 0
HoldBytes files = AllByRecursion (λ f. AreBytes f.1) files
