-- A failure may be answered only where a count of faults rose in the call. This project's own.
use Rattle.std.specs.Prelude.{ℕ, ◌+◌, ◌-◌, ◌^◌, ◌≤◌, min, Result, Ok, Err}

-- one more; a count stops at 2^64 - 1
abbrev pub one_more : ℕ → ℕ
one_more n = min (n + 1) (2 ^ 64 - 1)

-- the count rose, or stands at its end
abbrev pub Rose : ℕ → ℕ → Type 0
Rose before now = one_more before ≤ now

-- the count after a call that counts each failure once, and nothing else
abbrev pub count_after : {T E : Type 0} → ℕ → Result T E → ℕ
count_after before (Ok x) = before
count_after before (Err e) = one_more before
