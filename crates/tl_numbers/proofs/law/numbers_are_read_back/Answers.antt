use Rattle.tl_numbers.proofs.Printed.{printed_text, printed_value}
use Rattle.tl_numbers.proofs.law.numbers_are_read_back.Goals as goal

pub returns-clause-text : goal.returns-clause-text
returns-clause-text c = printed_text

pub returns-clause-value : goal.returns-clause-value
returns-clause-value c = printed_value
