-- What `check` answers is one.
use Rattle.std.proofs.Common.{◌≡◌, ℕ, List, codes, sym, ◌∙◌}
use Rattle.tl_base.specs.Contents.{Files}
use Rattle.outside.specs.Answer.{Answer, done}
use Rattle.schema_files.proofs.Answering.{one_of_file}
use Rattle.codec_commands.specs.Check.{listing, CheckAnswer}

pub one_check : (files : Files) (s : List ℕ) (a c : Answer) → CheckAnswer files s a → CheckAnswer files s c → a ≡ c
one_check = one_of_file (codes "schema") (λ S b. b ≡ done (listing S.decls)) (λ S good a c is at. is ∙ sym at)
