use Rattle.std.proofs.Common.{◌≡◌, ℕ, ◌/◌, ◌%◌, ◌^◌, ◌<◌, ◌≤◌, false, ap, sym, rules, arith}
use Rattle.std.specs.Prelude.{◌==◌}
use Rattle.std.proofs.Math.Nat.{div-eq_of_lt, pow-le-pow_right}
use Rattle.tl_types.specs.Conditions.{is_bit}
use Rattle.tl_types.proofs.conditions.is_set.Goals as goal

past : (n b : ℕ) → n < 2 ^ 32 → 32 ≤ b → false ≡ is_bit n b
past n b fits le =
    let high : 2 ^ 32 ≤ 2 ^ b = pow-le-pow_right (omega arith) le in
    let none : n / 2 ^ b ≡ 0 = div-eq_of_lt (omega (arith, high, fits)) in
    sym (ap (λ (q : ℕ). q % 2 == 1) none)

pub returns-then-bit-ge32 : goal.returns-then-bit-ge32
returns-then-bit-ge32 c = past c.args.bits c.args.bit (search rules) (omega arith)
