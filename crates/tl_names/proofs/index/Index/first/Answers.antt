use Rattle.std.proofs.Common.{◌∙◌, ap, sym}
use Rattle.tl_names.proofs.FirstIndexes.{first_in, first_told}
use Rattle.tl_names.proofs.index.Index.first.Goals as goal

pub returns-in-Some : goal.returns-in-Some
returns-in-Some c = sym (ap (first_in c.args.self.now) c.in-Some.is) ∙ first_told c.args.self.now c.args.number c.family.result c.family.ensures.family c.family.ensures.none

pub returns-in-None : goal.returns-in-None
returns-in-None c =
    c.count.ensures ∙ sym (ap (first_in c.args.self.now) c.in-None.is) ∙ first_told c.args.self.now c.args.number c.family.result c.family.ensures.family c.family.ensures.none
