-- What always holds of links and moments in memory. This project's own.
use Rattle.std.specs.Prelude.{ℕ, ◌<◌, ◌^◌, List, get_or}

-- each of these is a moment
abbrev pub AreMoments : List ℕ → Type 0
AreMoments moments = (k : ℕ) → get_or moments k 0 < 2 ^ 31
