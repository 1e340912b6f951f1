use Rattle.tl_program.specs.Trees.{view}
use Rattle.tl_schema.proofs.TypeSteps.{names_type}
use Rattle.tl_schema.proofs.AskedFormed.{named_formed}
use Rattle.tl_schema.proofs.types.named_type.Goals as goal

pub checked_type-requires : goal.checked_type-requires
checked_type-requires c = rw c.index.ensures.same c.marks.ensures

pub returns-clause-names : goal.returns-clause-names
returns-clause-names c =
    let read = rw c.deref.ensures.value at c.in_ok-tree.ensures.parses in
    names_type c.args.schema.now.program c.args.text.now (view c.in_ok-tree.tree) (record { tokens = c.in_ok-tokens.tokens.items; lexed = c.in_ok-tokens.ensures.lexes; read = read })
    c.checked_type.result (rw c.index.ensures.same at c.checked_type.ensures)

pub returns-clause-formed : goal.returns-clause-formed
returns-clause-formed c = named_formed c.args.schema.now c.index.ensures.sound c.args.text.now c.checked_type.result (returns-clause-names c)
