use Rattle.std.proofs.Common.{◌≡◌, ◌∙◌, None, ap, subst, sym}
use Rattle.tl_names.specs.NameIndexes.{Notes, index_among, indexes_in}
use Rattle.tl_names.proofs.MapEntries.{notes_inserted, none_from}
use Rattle.tl_names.proofs.names.Names.note.Goals as goal

pub returns-clause-noted : goal.returns-clause-noted
returns-clause-noted c =
    let none : index_among (indexes_in c.self.inside.map.entries) c.args.name.now ≡ None = ap (λ ps. index_among ps c.args.name.now) c.self.view_is ∙ sym c.get.ensures ∙ none_from c.get.result c.is_some.result c.is_some.ensures c.if-is_some.false in
    subst (λ ps. Notes ps (indexes_in c.insert.new.self.entries) c.args.name.now c.args.at) c.self.view_is
    (notes_inserted c.self.inside.map.entries c.insert.new.self.entries c.in_ok-from_slice.field-0 c.args.name.now c.args.at c.in_ok-from_slice.ensures.items none c.in_ok-insert.ensures.entries)
