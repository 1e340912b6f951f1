use Rattle.std.proofs.Common.{◌<◌, length, true≢false, sym, arith}
use Rattle.std.proofs.lemmas.Bool.{iff_false}
use Rattle.tl_program.specs.Trees.{plain, view}
use Rattle.tl_names.proofs.Maps.{slice_get_item}
use Rattle.tl_schema.proofs.Results.{differ_at, agree_more}
use Rattle.tl_schema.proofs.bad_result.are_names.Goals as goal

pub returns-then-not-is_name : goal.returns-then-not-is_name
returns-then-not-is_name c =
    let within : c.loop-i.i < length c.args.names.now = omega arith in
    let first = slice_get_item view c.args.trees.now c.loop-i.i c.index-trees-i.result c.loop-i-test.true c.index-trees-i.is in
    let second = slice_get_item plain c.args.names.now c.loop-i.i c.index-names-i.result within c.index-names-i.is in
    (λ e. absurd (true≢false (sym e)), λ e. absurd (differ_at _ _ c.loop-i.i _ _ first second (iff_false (rw c.as_slice.ensures.value at c.is_name.ensures) c.if-not-is_name.true) e))

pub loop-i-preserved : goal.loop-i-preserved
loop-i-preserved c =
    let within : c.loop-i.i < length c.args.names.now = omega arith in
    let first = slice_get_item view c.args.trees.now c.loop-i.i c.index-trees-i.result c.loop-i-test.true c.index-trees-i.is in
    let second = slice_get_item plain c.args.names.now c.loop-i.i c.index-names-i.result within c.index-names-i.is in
    agree_more _ _ c.loop-i.i _ _ first second c.loop-i.invariant ((rw c.as_slice.ensures.value at c.is_name.ensures).0 c.if-not-is_name.false)
