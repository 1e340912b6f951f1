-- Offsets of bytes in an input. This project's own.
use Rattle.std.specs.Prelude.{ℕ, ◌+◌, ◌-◌, ◌^◌, min}

-- the offset n bytes on; it stops at 2^64 - 1
abbrev pub moved : ℕ → ℕ → ℕ
moved offset n = min (offset + n) (2 ^ 64 - 1)
