use Rattle.std.proofs.Common.{◌∙◌, ap, map, set}
use Rattle.std.proofs.lemmas.List.{map-set}
use Rattle.tl_base.specs.MemoryContents.{link_bytes, link_written}
use Rattle.tl_base.proofs.Linked.{same_set}
use Rattle.tl_base.proofs.mem_lists.clear_at.Goals as goal

pub returns-clause-written : goal.returns-clause-written
returns-clause-written c = map-set link_written c.args.links.now c.args.index _ ∙ ap (set (map link_written c.args.links.now) c.args.index) c.clear.ensures.items

pub returns-clause-given : goal.returns-clause-given
returns-clause-given c = map-set link_bytes c.args.links.now c.args.index _ ∙ same_set link_bytes c.args.links.now c.args.index c.index-links-index.result
