use Rattle.tl_codec.proofs.Alike.{compares_alike, each_answers_alike, refuses_alike}
use Rattle.tl_codec.proofs.laws.answers_as_program.Goals as goal

pub returns-clause-refuses : goal.returns-clause-refuses
returns-clause-refuses c = refuses_alike

pub returns-clause-answers : goal.returns-clause-answers
returns-clause-answers c = each_answers_alike

pub returns-clause-compares : goal.returns-clause-compares
returns-clause-compares c = compares_alike
