use Rattle.tl_numbers.proofs.Division.{some_crc, one_crc}
use Rattle.tl_numbers.proofs.law.a_text_has_one_crc.Goals as goal

pub returns-clause-some : goal.returns-clause-some
returns-clause-some c = some_crc

pub returns-clause-one : goal.returns-clause-one
returns-clause-one c = one_crc
