use Rattle.std.proofs.Common.{arith, map}
use Rattle.std.proofs.lemmas.List.{length-map}
use Rattle.box_server.specs.inner.Insides.{channel_view}
use Rattle.box_server.proofs.Drafting.{next_entry, no_entry}
use Rattle.box_server.proofs.Openings.{opened_none, opened_one, opened_many, opened_few}
use Rattle.box_server.proofs.opening.opens_too_many.Goals as goal

pub loop-post-init : goal.loop-post-init
loop-post-init c = λ s is. opened_none s _ c.in_ok-ids.ids.items (map channel_view c.args.channels.now) c.in_ok-ids.ensures (omega (arith, c.requires, length-map c.args.channels.now channel_view)) is

pub loop-post-preserved : goal.loop-post-preserved
loop-post-preserved c = λ s is.
    opened_one s _ _ _ _ c.loop-post.ids.items c.note.new.ids.items (next_entry c.args.posts.now c.loop-post.post-index c.post-item.result c.loop-post-test.true c.post-item.is) c.in_ok-note.ensures
    (omega (arith, c.if-len-gt-MAX_CHANNELS.false, c.len.ensures, c.note.new.ids.ok.0)) (c.loop-post.invariant s is)

pub returns-then-len-gt-MAX_CHANNELS : goal.returns-then-len-gt-MAX_CHANNELS
returns-then-len-gt-MAX_CHANNELS c = λ s is.
    opened_many s _ _ _ _ c.loop-post.ids.items c.note.new.ids.items (next_entry c.args.posts.now c.loop-post.post-index c.post-item.result c.loop-post-test.true c.post-item.is) c.in_ok-note.ensures
    (omega (arith, c.if-len-gt-MAX_CHANNELS.true, c.len.ensures, c.note.new.ids.ok.0)) (c.loop-post.invariant s is)

pub returns : goal.returns
returns c = λ s is. opened_few s _ _ c.loop-post.ids.items (no_entry c.args.posts.now c.loop-post.post-index c.loop-post-test.false) (c.loop-post.invariant s is)
