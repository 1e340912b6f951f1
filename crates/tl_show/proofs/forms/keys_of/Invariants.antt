use Rattle.std.proofs.Common.{◌≡◌, ◌++◌, length, map}
use Rattle.std.specs.Vec.Iter.{into_iter_items, into_iter_len}
use Rattle.tl_show.specs.inner.FormViews.{entry_views, key_view}
use Rattle.tl_show.proofs.forms.keys_of.Given as goal

abbrev pub invariant-loop-entry : goal.invariant-loop-entry
invariant-loop-entry l = (l.yielded ++ into_iter_items l.entry-iterator ≡ into_iter_items l.initial.entry-iterator)
    × (map key_view l.keys.items ≡ entry_views l.yielded)
    × (into_iter_len l.entry-iterator ≡ length (into_iter_items l.entry-iterator))
