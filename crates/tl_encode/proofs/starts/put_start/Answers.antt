use Rattle.std.proofs.Common.{◌^◌, ◌++◌, ◌∙◌, sym, ap, arith, ltb-true, ℕ, List}
use Rattle.tl_numbers.specs.Numbers.{word}
use Rattle.tl_types.specs.Fitting.{is_in_range}
use Rattle.tl_types.specs.Seen.{view, views}
use Rattle.tl_types.specs.Values.{count}
use Rattle.tl_types.proofs.ValueCounts.{vec_counted}
use Rattle.tl_types.proofs.Views.{view-List}
use Rattle.tl_encode.specs.inner.Bytes.{list_prefix, start}
use Rattle.tl_schema.specs.Forms.{outermost}
use Rattle.tl_encode.proofs.Joins.{joined, on_ok}
use Rattle.tl_encode.proofs.starts.put_start.Goals as goal

pub overflow_cast-len : goal.overflow_cast-len
overflow_cast-len c =
    let items = c.in-List.items in
    let few = ltb-true (count (views items.items)) (2 ^ 31) (sym (ap is_in_range (ap view c.in-List.is ∙ view-List items)) ∙ c.requires.in_range) in
    omega (arith, few, vec_counted items, c.len.ensures)

pub returns-in_ok-put_list_prefix-in-List : goal.returns-in_ok-put_list_prefix-in-List
returns-in_ok-put_list_prefix-in-List c =
    let items = c.in-List.items in
    let T = outermost c.args.form in
    let is = ap (start c.args.schema.now.decls T) (ap view c.in-List.is ∙ view-List items) in
    let number = ap word (c.len.ensures ∙ sym (vec_counted items)) in
    on_ok c.put_word-in-List.result
    (λ put. joined c.args.out.now.items _ (list_prefix T) (word c.len.result) _ _ c.in_ok-put_list_prefix-in-List.ensures (is ∙ ap (λ (b : List ℕ). list_prefix T ++ b) (sym number)) put)
    c.put_word-in-List.ensures
