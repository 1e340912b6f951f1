use Rattle.std.proofs.Common.{◌∙◌, rules, map, string_bytes}
use Rattle.clap.specs.Words.{app_of, subcommand_rows_of}
use Rattle.commands.proofs.WordsRead.{none_asked, refused_asked, found_asked, operands_from}
use Rattle.commands.proofs.request.fixed_request.Goals as goal

pub returns-then-not-are_operands : goal.returns-then-not-are_operands
returns-then-not-are_operands c = none_asked string_bytes c.args.words.now (search rules)

pub returns-in-Ok : goal.returns-in-Ok
returns-in-Ok c =
    found_asked (map string_bytes c.args.words.now) (app_of c.in_ok-table_of.field-0) (subcommand_rows_of c.in-Ok.matches) _ c.in_ok-table_of.ensures
    (operands_from string_bytes c.args.words.now (search rules)) c.in-Ok.ensures.kinds (λ simple. (c.in-Ok.ensures.matches simple).1) c.request_in.ensures

pub returns : goal.returns
returns c =
    refused_asked (map string_bytes c.args.words.now) (app_of c.in_ok-table_of.field-0) c.in-Err.fault c.requires c.in_ok-table_of.ensures c.in-Err.ensures.kinds
    (λ memory. c.in_default.not-OutOfMemory (c.kind.ensures ∙ memory))
