use Rattle.std.proofs.Common.{Ok, false}
use Rattle.tl_lexer.proofs.Steps.{as_err, err_any}
use Rattle.tl_combinators.proofs.Spanned.{fits_of}
use Rattle.tl_combinators.proofs.Exact.{program_accepts, program_refuses}
use Rattle.tl_combinators.proofs.WithinLimits.{within_limits}
use Rattle.tl_combinators.proofs.parser.parse.Goals as goal

pub program_at-requires : goal.program_at-requires
program_at-requires c = fits_of _ _ c.requires

pub returns-in_err-decls-clause-reads : goal.returns-in_err-decls-clause-reads
returns-in_err-decls-clause-reads c = program_accepts _ _ false _ (as_err c.from_residual.ensures.1 (err_any c.in_err-decls.ensures))

pub returns-in_err-decls-clause-refuses : goal.returns-in_err-decls-clause-refuses
returns-in_err-decls-clause-refuses c = program_refuses _ _ false _ (as_err c.from_residual.ensures.1 (err_any c.in_err-decls.ensures))

pub returns-clause-reads : goal.returns-clause-reads
returns-clause-reads c = program_accepts _ _ c.in_ok-decls.field-0-1 (Ok (record { decls = c.in_ok-decls.decls })) (record { given = c.in_ok-decls.ensures.given })

pub returns-clause-refuses : goal.returns-clause-refuses
returns-clause-refuses c = program_refuses _ _ c.in_ok-decls.field-0-1 (Ok (record { decls = c.in_ok-decls.decls })) (record { given = c.in_ok-decls.ensures.given })

pub returns-clause-within : goal.returns-clause-within
returns-clause-within c = within_limits c.args.text.now c.args.tokens.now _ (c.in_ok-decls.field-0-1, c.in_ok-decls.ensures.given)
