use Rattle.std.proofs.Common.{◌≡◌, ◌-◌, ◌^◌, min, take}
use Rattle.std.specs.List.{All}
use Rattle.commands.specs.Numbers.{IsDigit, number_from}
use Rattle.commands.proofs.number.value_of.Given as goal

abbrev pub invariant-loop-digit : goal.invariant-loop-digit
invariant-loop-digit l = All IsDigit (take l.digit-index l.digits) × (l.value ≡ min (number_from 0 (take l.digit-index l.digits)) (2 ^ 64 - 1))
