use Rattle.std.proofs.Common.{sym, ap, ◌∙◌}
use Rattle.tl_schema.specs.Closing.{closed}
use Rattle.tl_schema.specs.Seen.{shape}
use Rattle.tl_show.specs.inner.Scopes.{shapes_in}
use Rattle.tl_show.proofs.Scopes.{var_there}
use Rattle.tl_show.proofs.scope.+resolved_in.Goals as goal

pub returns-in-Some-outer-clause-same : goal.returns-in-Some-outer-clause-same
returns-in-Some-outer-clause-same t c =
    let at = c.in-Some.ensures.lookup in
    c.resolved_in.ensures.same ∙ ap (λ o. closed (shapes_in o) (shape c.in-Some.arg.now)) (sym c.in-Some-outer.is)
    ∙ var_there c.args.scope.now c.args.of.now c.in-Some.arg.now c.in-Var.index c.in-Var.is at.3.0 at.1

pub returns-in-None-clause-same : goal.returns-in-None-clause-same
returns-in-None-clause-same t c =
    let at = c.in-Some.ensures.lookup in
    ap (λ o. closed (shapes_in o) (shape c.in-Some.arg.now)) (sym c.in-None.is)
    ∙ var_there c.args.scope.now c.args.of.now c.in-Some.arg.now c.in-Var.index c.in-Var.is at.3.0 at.1
