use Rattle.tl_combinators.proofs.OneProgram.{one_program, one_type}
use Rattle.tl_combinators.proofs.Causes.{no_memory, no_memory_of_type}
use Rattle.tl_combinators.proofs.law.each_list_of_tokens_is_read_or_refused.Goals as goal

pub returns-clause-programs : goal.returns-clause-programs
returns-clause-programs c = one_program

pub returns-clause-types : goal.returns-clause-types
returns-clause-types c = one_type

pub returns-clause-causes : goal.returns-clause-causes
returns-clause-causes c = λ text tokens. (no_memory text tokens, no_memory_of_type text tokens)
