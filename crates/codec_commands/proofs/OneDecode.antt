-- What `decode` answers is one.
use Rattle.std.proofs.Common.{◌≡◌, ℕ, List}
use Rattle.tl_base.specs.Contents.{Files}
use Rattle.outside.specs.Answer.{Answer}
use Rattle.codec_commands.specs.Decode.{OfInput, DecodeAnswer}
use Rattle.codec_commands.proofs.OneSpelling.{one_input}
use Rattle.codec_commands.proofs.OneTyped.{one_typed}

pub one_decode : (files : Files) (s t i : List ℕ) (a c : Answer) → DecodeAnswer files s t i a → DecodeAnswer files s t i c → a ≡ c
one_decode = one_typed OfInput one_input
