use Rattle.std.proofs.Common.{◌≡◌, ◌∷◌, take}
use Rattle.tl_plan.specs.inner.Nodes.{number_of, tag_of}
use Rattle.tl_plan.proofs.table.key_of.Given as goal

abbrev pub invariant-loop-part : goal.invariant-loop-part
invariant-loop-part l = l.key.items ≡ tag_of l.fn.form ∷ number_of l.fn.form ∷ take l.part-index l.parts
