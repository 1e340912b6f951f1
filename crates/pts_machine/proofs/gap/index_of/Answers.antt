use Rattle.std.proofs.Common.{rules}
use Rattle.std.specs.Ordering.{nat_cmp}
use Rattle.std.proofs.lemmas.Fn.{always_returns_same}
use Rattle.pts_machine.proofs.Indexes.{in_range, is_index}
use Rattle.pts_machine.proofs.gap.index_of.Goals as goal

pub returns : goal.returns
returns g c =
    let by_start = c.binary_search_by.ensures.position (λ held. nat_cmp held.0 c.args.start) (always_returns_same _ _ _ (λ held answer f called. search rules)) in
    record { index = is_index c.args.items.now.items c.args.start c.binary_search_by.result c.requires.rising (in_range _ _ _ c.args.items.now.ok.0 c.binary_search_by.ensures.bound) by_start }
