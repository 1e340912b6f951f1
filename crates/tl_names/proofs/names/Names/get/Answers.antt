use Rattle.std.proofs.Common.{◌∙◌, ap}
use Rattle.tl_names.specs.NameIndexes.{index_among}
use Rattle.tl_names.proofs.MapEntries.{index_among_entries}
use Rattle.tl_names.proofs.names.Names.get.Goals as goal

pub returns : goal.returns
returns c =
    c.copied.ensures ∙ c.get.ensures.value ∙ index_among_entries c.args.name.now c.self.inside.map.entries ∙ ap (λ ps. index_among ps c.args.name.now) c.self.view_is
