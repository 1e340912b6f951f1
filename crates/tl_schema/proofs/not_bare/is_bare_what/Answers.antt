use Rattle.std.proofs.Common.{false, subst, sym}
use Rattle.tl_names.specs.declared.what.What.{What}
use Rattle.tl_schema.specs.inner.WhatSteps.{HasForm}
use Rattle.tl_schema.proofs.HeadFamilies.{none_single}
use Rattle.tl_schema.proofs.not_bare.is_bare_what.Goals as goal

pub returns-in-None : goal.returns-in-None
returns-in-None c =
    subst (λ (w : What). HasForm c.args.index.now w false) (sym c.in-Type.is) (λ type at. none_single c.args.index.now type (c.in-None.ensures.family type at))
