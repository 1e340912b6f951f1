-- Calls by their numbers: which fail, and how much is given. This project's own.
use Rattle.std.specs.Prelude.{ℕ, ◌-◌, ◌^◌, List, Bool, get_or, ◌==◌, if◌then◌else◌}
use Rattle.std.specs.List.{list_any}

-- this number is one of them
abbrev pub is_among : ℕ → List ℕ → Bool
is_among number numbers = list_any (λ k. k == number) numbers

-- how many bytes a read with this number gives at most: its cut, where one above 0 stands, else 2^64 - 1
abbrev pub cut_at : List ℕ → ℕ → ℕ
cut_at cuts number = if get_or cuts number 0 == 0 then 2 ^ 64 - 1 else get_or cuts number 0
