use Rattle.std.proofs.Common.{Some, None, subst, sym}
use Rattle.tl_names.specs.declared.what.What.{What}
use Rattle.tl_schema.specs.inner.WhatSteps.{HasVars}
use Rattle.tl_schema.proofs.HeadFamilies.{some_vars, none_vars}
use Rattle.tl_schema.proofs.wrong_arity.arity.Goals as goal

pub returns-in-Some : goal.returns-in-Some
returns-in-Some c =
    subst (λ (w : What). HasVars c.args.index.now w (Some c.in-Some.constructors.vars)) (sym c.in-Type.is) (λ type at. some_vars c.args.index.now type c.in-Some.constructors (c.in-Some.ensures.family type at))

pub returns-in-None : goal.returns-in-None
returns-in-None c =
    subst (λ (w : What). HasVars c.args.index.now w None) (sym c.in-Type.is) (λ type at. none_vars c.args.index.now type (c.in-None.ensures.family type at))
