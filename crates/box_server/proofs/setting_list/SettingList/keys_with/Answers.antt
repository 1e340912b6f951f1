use Rattle.std.proofs.Common.{ap, ◌∙◌, ◌+◌}
use Rattle.box_server.specs.LastEntries.{keys_in}
use Rattle.box_server.proofs.KeyCounts.{counting_none, counting_post, counted, next_of, none_left}
use Rattle.box_server.proofs.setting_list.SettingList.keys_with.Goals as goal

pub loop-post-init : goal.loop-post-init
loop-post-init c = λ date. counting_none date c.args.self.now c.self.inside.keys c.new-fresh.result.entries c.args.posts.now (c.self.invariant.number ∙ ap keys_in c.self.view_is) c.new-fresh.ensures.empty

pub loop-post-preserved : goal.loop-post-preserved
loop-post-preserved c = λ date.
    counting_post date c.args.self.now c.self.inside.keys c.loop-post.fresh.entries c.note_post.new.fresh.entries c.args.posts.now _ _ c.post-item.result (next_of c.args.posts.now c.loop-post.post-index c.post-item.result c.loop-post-test.true c.post-item.is) c.in_ok-note_post.ensures (c.loop-post.invariant date)

pub returns : goal.returns
returns c = λ date.
    ap (λ n. c.self.inside.keys + n) c.len.ensures.len ∙ counted date c.args.self.now c.self.inside.keys c.loop-post.fresh.entries c.args.posts.now _ (none_left c.args.posts.now c.loop-post.post-index c.loop-post-test.false) (c.loop-post.invariant date)
