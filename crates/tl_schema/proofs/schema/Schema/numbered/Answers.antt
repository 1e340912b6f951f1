use Rattle.std.proofs.Common.{◌∙◌, subst, sym}
use Rattle.tl_schema.specs.CheckedPrograms.{FindsNumber}
use Rattle.tl_schema.proofs.schema.Schema.numbered.Goals as goal

pub returns-clause-found : goal.returns-clause-found
returns-clause-found c =
    rw (← c.self.view_is) (subst (FindsNumber c.self.inside.index c.args.number) (sym (c.copied.ensures ∙ c.get.ensures.value)) (c.self.invariant.of_numbers c.args.number))
