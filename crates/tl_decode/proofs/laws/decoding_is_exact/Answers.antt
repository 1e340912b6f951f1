use Rattle.std.proofs.Common.{refl}
use Rattle.tl_types.specs.Refusal.{loose_string}
use Rattle.tl_decode.proofs.laws.decoding_is_exact.Goals as goal

pub returns-clause-spelled : goal.returns-clause-spelled
returns-clause-spelled c = λ after p q place cause v x rest none. none

pub returns-clause-after : goal.returns-clause-after
returns-clause-after c = λ value after p q v x rest given. given.1

pub returns-clause-loose : goal.returns-clause-loose
returns-clause-loose c = record { refused = λ schema n rest few. loose_string n rest few refl refl refl; given = λ value none. none }
