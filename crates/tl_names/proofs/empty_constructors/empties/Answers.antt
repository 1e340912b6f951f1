use Rattle.std.proofs.Common.{arith}
use Rattle.std.proofs.lemmas.Result.{IfOk-weaker}
use Rattle.std.specs.Option.{option_map}
use Rattle.std.proofs.lemmas.List.{length-map}
use Rattle.tl_graph.specs.Needs.{needs_in}
use Rattle.tl_names.proofs.EmptyNodes.{marks_empty}
use Rattle.tl_names.proofs.empty_constructors.empties.Goals as goal

pub marks_of-requires : goal.marks_of-requires
marks_of-requires c =
    let needs = c.in_ok-needs.needs.items in
    rw c.deref.ensures.value (omega (arith, c.requires.few, c.in_ok-needs.ensures.count, length-map needs (option_map (λ js. js.items))))

pub returns : goal.returns
returns c =
    IfOk-weaker c.marks_of.result _ _ (λ marks. marks_empty c.args.index.now (needs_in c.in_ok-needs.needs.items) c.in_ok-needs.ensures marks.items)
    (rw c.deref.ensures.value at c.marks_of.ensures)
