use Rattle.tl_decode.proofs.parts.part.Goals as goal

pub returns-in-List : goal.returns-in-List
returns-in-List c = rw c.in-List.is c.element.ensures

pub returns-in-Record : goal.returns-in-Record
returns-in-Record c = rw c.in-Record.is c.field.ensures
