use Rattle.std.proofs.lemmas.Result.{err_from_is_err_and}
use Rattle.box_server.proofs.Drafting.{adding_none, adding_one, added_all, adding_refused, ids_next, next_entry, no_entry}
use Rattle.box_server.proofs.draft.Draft.add_all.Goals as goal

pub loop-post-init : goal.loop-post-init
loop-post-init c = (λ s f. adding_none s c.args.self.now _ f, (c.requires.some, c.requires.few))

pub loop-post-preserved : goal.loop-post-preserved
loop-post-preserved c =
    let next = next_entry c.args.posts.now c.loop-post.post-index c.post-item.result c.loop-post-test.true c.post-item.is in (
      λ s f. let k = c.loop-post.invariant.0 s f in adding_one s c.args.self.now c.loop-post.self c.add.new.self _ _ _ _ next (c.in_ok-add.ensures s k.fits) k,
      (ids_next _ _ _ next c.loop-post.invariant.1).1,
    )

pub add-requires : goal.add-requires
add-requires c = (ids_next _ _ _ (next_entry c.args.posts.now c.loop-post.post-index c.post-item.result c.loop-post-test.true c.post-item.is) c.loop-post.invariant.1).0

pub returns-in_err-add : goal.returns-in_err-add
returns-in_err-add c = λ s f.
    let p = err_from_is_err_and c.from_residual.result c.from_residual.ensures.1 in
    let next = next_entry c.args.posts.now c.loop-post.post-index c.post-item.result c.loop-post-test.true c.post-item.is in
    let k = c.loop-post.invariant.0 s f in
    rw (p.1, p.2) (adding_refused s c.args.self.now c.loop-post.self _ _ _ _ c.in_err-add.field-0.0 next (c.in_err-add.ensures s k.fits) k)

pub returns : goal.returns
returns c = λ s f. added_all s c.args.self.now c.loop-post.self _ _ (no_entry c.args.posts.now c.loop-post.post-index c.loop-post-test.false) (c.loop-post.invariant.0 s f)
