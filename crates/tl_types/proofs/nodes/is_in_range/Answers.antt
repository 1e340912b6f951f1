use Rattle.std.proofs.Common.{◌∙◌, ◌^◌, sym, ap, nat_lt}
use Rattle.tl_types.specs.Fitting.{is_in_range}
use Rattle.tl_types.specs.Seen.{view}
use Rattle.tl_types.proofs.ValueCounts.{vec_counted}
use Rattle.tl_types.proofs.Views.{view-List}
use Rattle.tl_types.proofs.nodes.is_in_range.Goals as goal

pub returns-in-List : goal.returns-in-List
returns-in-List c =
    let items = c.in-List.items in
    ap (λ k. nat_lt k (2 ^ 31)) (c.len-in-List.ensures ∙ sym (vec_counted items)) ∙ sym (ap is_in_range (ap view c.in-List.is ∙ view-List items))
