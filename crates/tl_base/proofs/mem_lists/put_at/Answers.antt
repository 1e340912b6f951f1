use Rattle.std.proofs.Common.{◌∙◌}
use Rattle.std.proofs.lemmas.List.{map-set}
use Rattle.tl_base.specs.MemoryContents.{link_bytes}
use Rattle.tl_base.proofs.Linked.{same_set, put_taken, put_full}
use Rattle.tl_base.proofs.mem_lists.put_at.Goals as goal

pub returns-clause-taken : goal.returns-clause-taken
returns-clause-taken c = put_taken c.put.result c.args.links.now c.args.index c.index-links-index.result _ c.args.piece.now c.requires.there c.put.ensures.taken

pub returns-clause-full : goal.returns-clause-full
returns-clause-full c = put_full c.put.result c.args.links.now c.args.index c.index-links-index.result _ c.args.room c.requires.there c.put.ensures.full

pub returns-clause-given : goal.returns-clause-given
returns-clause-given c = map-set link_bytes c.args.links.now c.args.index _ ∙ same_set link_bytes c.args.links.now c.args.index c.index-links-index.result
