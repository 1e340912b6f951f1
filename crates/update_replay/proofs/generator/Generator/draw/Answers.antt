use Rattle.std.proofs.Common.{◌≡◌, ◌+◌, ◌*◌, ◌%◌, ℕ, ◌/◌, ap, arith}
use Rattle.update_replay.specs.Draws.{drawn, draw_of}
use Rattle.update_replay.proofs.generator.Generator.draw.Goals as goal

-- one remainder in place of two
same : (x : ℕ) → (x * 6364136223846793005 % 18446744073709551616 + 1442695040888963407) % 18446744073709551616 ≡ drawn x
unfolding drawn
same x = omega arith

pub returns-clause-value : goal.returns-clause-value
unfolding draw_of
returns-clause-value c = ap (λ (n : ℕ). n / 8589934592) (same c.args.self.now.number)

pub returns-clause-next : goal.returns-clause-next
returns-clause-next c = same c.args.self.now.number
