use Rattle.std.proofs.Common.{sym, ap, ◌∙◌}
use Rattle.wire_forms.specs.Parts.{parts_of}
use Rattle.wire_forms.proofs.Lists.{at_some, at_none}
use Rattle.wire_forms.proofs.parts.parts_in.Goals as goal

pub returns-in-Some : goal.returns-in-Some
returns-in-Some c = c.parts_of.ensures ∙ ap parts_of (sym (at_some _ _ _ c.in-Some.ensures.lookup.1 c.in-Some.ensures.lookup.3.0))

pub returns-in-None : goal.returns-in-None
returns-in-None c = ap parts_of (sym (at_none _ _ c.in-None.ensures.lookup.3))
