-- What `post` answers is one.
use Rattle.std.proofs.Common.{◌≡◌, ℕ, List}
use Rattle.tl_numbers.specs.Bytes.{AreBytes}
use Rattle.tl_base.specs.Contents.{Files}
use Rattle.outside.specs.Answer.{Answer}
use Rattle.fault_lines.proofs.Profiled.{one_profiled}
use Rattle.session_commands.specs.Post.{OfInput, PostAnswer}
use Rattle.session_commands.proofs.OneCall.{one_input}

pub one_post : (files : Files) (given : List ℕ) → AreBytes given → (schema address input : List ℕ) (a c : Answer) → PostAnswer files given schema address input a → PostAnswer files given schema address input c → a ≡ c
one_post files given are schema address input = one_profiled (OfInput address input files given) (λ p good. one_input p good address input files given are) files schema
