use Rattle.std.proofs.Common.{rules, sym, ap, ◌∙◌}
use Rattle.std.specs.Int.{w32}
use Rattle.std.proofs.lemmas.Int.{to_z-of_z}
use Rattle.wire_forms.specs.Parts.{int_of}
use Rattle.wire_forms.proofs.Lists.{at_some, at_none}
use Rattle.wire_forms.proofs.parts.int_in.Goals as goal

pub returns-in-Some : goal.returns-in-Some
returns-in-Some c = to_z-of_z w32 c.int_of.result (search rules) ∙ c.int_of.ensures ∙ ap int_of (sym (at_some _ _ _ c.in-Some.ensures.lookup.1 c.in-Some.ensures.lookup.3.0))

pub returns-in-None : goal.returns-in-None
returns-in-None c = ap int_of (sym (at_none _ _ c.in-None.ensures.lookup.3))
