-- What is told of an input that is read piece by piece is what its bytes say.
use Rattle.std.proofs.Common.{◌≡◌, ℕ, List, ap}
use Rattle.outside.specs.Steps.{Turn, again, leave}
use Rattle.codec_rooms.specs.Decode.{Verdict}

-- ---- turns

abbrev pub leaving : Verdict → Turn (List ℕ) Verdict → Verdict
leaving r (again s) = r
leaving r (leave a) = a

pub left_is : {a b : Verdict} → ◌≡◌ {A = Turn (List ℕ) Verdict} (leave a) (leave b) → a ≡ b
left_is {a} {b} is = ap (leaving b) is
