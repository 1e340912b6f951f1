use Rattle.tl_names.specs.NameIndexes.{index_among}
use Rattle.tl_schema.proofs.SameNames.{known_before, notes_name}
use Rattle.tl_schema.proofs.same_name.add.Goals as goal

pub returns-clause-known : goal.returns-clause-known
returns-clause-known c = known_before (index_among c.args.names.now c.args.name.now) c.in_ok-is_new.is_new c.in_ok-is_new.ensures.fresh

pub returns-clause-added : goal.returns-clause-added
returns-clause-added c = notes_name c.args.names.now c.note.new.self c.args.name.now 0 c.in_ok-is_new.ensures.noted
