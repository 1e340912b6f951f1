-- Files of bytes have one answer to `calls` at most.
use Rattle.std.proofs.Common.{◌≡◌, ℕ, List, codes, subst}
use Rattle.tl_base.specs.Contents.{Files, HoldBytes}
use Rattle.tl_schema.specs.CheckedPrograms.{IsSchema}
use Rattle.tl_schema.specs.Schemas.{Declared}
use Rattle.outside.specs.Answer.{Answer}
use Rattle.outside.proofs.SameFiles.{file_bytes, same_file}
use Rattle.schema_files.proofs.Answering.{one_of_file}
use Rattle.call_commands.specs.Calls.{CallsAnswer, OfInputFile, OfPackets}
use Rattle.call_commands.proofs.OneFile.{one_file}

module _ (files : Files) (hold : HoldBytes files) where
  one_input : (input : List ℕ) (schema : Declared) → IsSchema schema → (a b : Answer) → OfInputFile files input schema a → OfInputFile files input schema b → a ≡ b
  one_input input schema good a b (file, has, h) (other, also, k) =
      one_file schema good file (file_bytes files input file hold has) a b h (subst (λ (x : List ℕ). OfPackets schema x b) (same_file files input other file also has) k)

  pub one_calls : (schema input : List ℕ) (a b : Answer) → CallsAnswer files schema input a → CallsAnswer files schema input b → a ≡ b
  one_calls schema input = one_of_file (codes "schema") (OfInputFile files input) (one_input input) files schema
