use Rattle.std.proofs.Common.{Some, None, subst, sym}
use Rattle.tl_names.specs.declared.what.What.{What}
use Rattle.tl_names.specs.inner.WhatSteps.{HasOnly}
use Rattle.tl_names.proofs.OnlyConstructors.{some_only, some_others, none_only}
use Rattle.tl_names.proofs.bare_references.only_in.Goals as goal

pub returns-then-constructors : goal.returns-then-constructors
returns-then-constructors c =
    subst (λ (w : What). HasOnly c.args.index.now w (Some c.in-Some.constructors.first)) (sym c.in-Type.is) (λ type at. some_only c.args.index.now type c.in-Some.constructors (c.in-Some.ensures.family type at) c.if-constructors.true)

pub returns-else-constructors : goal.returns-else-constructors
returns-else-constructors c =
    subst (λ (w : What). HasOnly c.args.index.now w None) (sym c.in-Type.is) (λ type at. some_others c.args.index.now type c.in-Some.constructors (c.in-Some.ensures.family type at) c.if-constructors.false)

pub returns-in-None : goal.returns-in-None
returns-in-None c =
    subst (λ (w : What). HasOnly c.args.index.now w None) (sym c.in-Type.is) (λ type at. none_only c.args.index.now type (c.in-None.ensures.family type at))
