use Rattle.std.proofs.Common.{refl}
use Rattle.schema_files.proofs.TypeWords.{no_type_of}
use Rattle.schema_files.proofs.type_word.type_spelled.Goals as goal

pub returns-in-Err-clause-names : goal.returns-in-Err-clause-names
returns-in-Err-clause-names c =
    no_type_of c.args.schema.now c.args.text.now c.args.text.now c.in-Err.fault c.type_error.result refl c.in-Err.ensures.names c.type_error.ensures
