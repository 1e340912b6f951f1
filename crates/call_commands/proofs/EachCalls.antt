-- Files of bytes have an answer to `calls`.
use Rattle.std.proofs.Common.{ℕ, List, codes}
use Rattle.tl_base.specs.Outside.{IsFile}
use Rattle.tl_base.specs.Contents.{Files, HoldBytes}
use Rattle.tl_schema.specs.CheckedPrograms.{IsSchema}
use Rattle.tl_schema.specs.Schemas.{Declared}
use Rattle.outside.specs.Answer.{Answer}
use Rattle.outside.proofs.SameFiles.{file_bytes}
use Rattle.schema_files.proofs.Answering.{each_of_file}
use Rattle.call_commands.specs.Calls.{CallsAnswer, EachFileHasOneAnswer, EachHasOneAnswer, OfInputFile}
use Rattle.call_commands.proofs.EachFile.{each_file}
use Rattle.call_commands.proofs.OneCalls.{one_calls}
use Rattle.call_commands.proofs.OneFile.{one_file}

module _ (files : Files) (hold : HoldBytes files) where
  each_input : (input : List ℕ) → IsFile files input → (schema : Declared) → IsSchema schema → (a : Answer) × OfInputFile files input schema a
  each_input input (file, has) schema good = let a = each_file schema good file (file_bytes files input file hold has) in (a.0, (file, has, a.1))

  pub each_calls : (schema input : List ℕ) → IsFile files schema → IsFile files input → (a : Answer) × CallsAnswer files schema input a
  each_calls schema input text there = each_of_file (codes "schema") (OfInputFile files input) (each_input input there) files schema text

pub each_file_has_one_answer : EachFileHasOneAnswer
each_file_has_one_answer schema good file are = record { one = each_file schema good file are; only = one_file schema good file are }

pub each_has_one_answer : EachHasOneAnswer
each_has_one_answer files hold schema input = record { one = one_calls files hold schema input; there = each_calls files hold schema input }
