use Rattle.tl_numbers.proofs.Spelled.{words, double_words}
use Rattle.tl_numbers.proofs.numbers.numbers_and_bytes.Goals as goal

pub returns-clause-words : goal.returns-clause-words
returns-clause-words c = words

pub returns-clause-double_words : goal.returns-clause-double_words
returns-clause-double_words c = double_words
