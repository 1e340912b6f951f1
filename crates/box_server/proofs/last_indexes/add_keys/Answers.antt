use Rattle.std.proofs.Common.{subst, ◌∙◌, take}
use Rattle.box_server.specs.inner.LastIndexes.{HaveKeys}
use Rattle.box_server.proofs.LastKeys.{keys_more, take_whole}
use Rattle.box_server.proofs.last_indexes.add_keys.Goals as goal

pub loop-dated-preserved : goal.loop-dated-preserved
loop-dated-preserved c =
    let k = c.add_key.ensures in (
      λ q. k.same q ∙ c.loop-dated.invariant.0 q,
      keys_more c.add_key.new.last.entries c.args.more.now c.loop-dated.dated-index c.dated-item.result c.loop-dated-test.true c.dated-item.is
          (rw c.setting.ensures at c.in_ok-add_key.ensures.ok) (k.others (take c.loop-dated.dated-index c.args.more.now) c.loop-dated.invariant.1),
    )

pub returns-clause-ok : goal.returns-clause-ok
returns-clause-ok c = subst (HaveKeys c.loop-dated.last.entries) (take_whole c.args.more.now c.loop-dated.dated-index c.loop-dated-test.false) c.loop-dated.invariant.1
