use Rattle.std.proofs.Common.{◌≢◌, ◌<◌, length, length-set, get_or-set_other, ap, ◌∙◌, arith, add-one}
use Rattle.wire_profile.proofs.RenamedLists.{new_view, renamed_more, renamed_all}
use Rattle.wire_profile.proofs.renaming.+rename.Goals as goal

pub rename_each-loop-i-preserved : goal.rename_each-loop-i-preserved
rename_each-loop-i-preserved t c =
    let inside : c.loop-i.i < length c.args.values.now.items = omega (arith, c.loop-i-test.true, c.len-i-end.ensures) in
    record {
      unvisited = (length-set _ _ _ ∙ c.loop-i.invariant.unvisited.0, λ k d le. let other : k ≢ c.loop-i.i = omega arith in rw get_or-set_other (c.loop-i.invariant.unvisited.1 k d (omega arith)));
      so_far =
          rw add-one
          (renamed_more _ c.loop-i.i c.index_mut.result.now _ c.args.values.now.items c.loop-i.values.items inside c.loop-i.invariant.so_far
          (c.rename.ensures ∙ ap (new_view _) (c.index_mut.ensures.value ∙ c.loop-i.invariant.unvisited.1 c.loop-i.i _ (omega arith))));
    }

pub rename_each-returns : goal.rename_each-returns
rename_each-returns t c = renamed_all _ c.loop-i.i c.args.values.now.items c.loop-i.values.items (omega (arith, c.loop-i.auto.i-end, c.loop-i-test.false)) c.loop-i.invariant.so_far
