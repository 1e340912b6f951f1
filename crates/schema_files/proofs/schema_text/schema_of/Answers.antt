use Rattle.std.proofs.Common.{Vec, Global}
use Rattle.tl_lexer.specs.declared.token.Token.{Token}
use Rattle.schema_files.proofs.Schemas.{no_tokens, no_program, no_schema}
use Rattle.schema_files.proofs.schema_text.schema_of.Goals as goal

pub returns-in-Err : goal.returns-in-Err
returns-in-Err c = no_tokens c.args.what.now c.args.text.now (λ (v : Vec Token Global). v.items) c.in-Err.fault c.lex_error.result c.in-Err.ensures.lexes c.lex_error.ensures

pub returns-in-Err-parse : goal.returns-in-Err-parse
returns-in-Err-parse c =
    no_program c.args.what.now c.args.text.now c.deref.result.now c.in-Err-parse.fault c.syntax_error.result (rw c.deref.ensures.value c.in-Ok.ensures.lexes) c.in-Err-parse.ensures.parses c.syntax_error.ensures

pub returns : goal.returns
returns c =
    no_schema c.args.what.now c.args.text.now c.deref.result.now _ c.in-Err-check.fault c.check_error.result (rw c.deref.ensures.value c.in-Ok.ensures.lexes) c.in-Ok-parse.ensures.parses c.in-Err-check.ensures.checks c.check_error.ensures
