use Rattle.std.proofs.Common.{rules, ap, ℤ, ◌++◌, ◌≤◌, length, subst, sym, w64, Result}
use Rattle.std.specs.Prelude.{IsErrOf}
use Rattle.std.proofs.lemmas.Int.{to_z-of_z}
use Rattle.box_server.specs.Answering.{TakesPosts}
use Rattle.box_server.specs.Keeping.{Keeps}
use Rattle.box_server.specs.Rebuilding.{kept_of}
use Rattle.box_server.specs.Storing.{StoredView}
use Rattle.box_server.specs.declared.posted.Posted.{Posted}
use Rattle.box_server.specs.declared.store_fault.StoreFault.{StoreFault}
use Rattle.box_server.specs.declared.store_fault.StoreFault.TheVariants.{Failed}
use Rattle.box_server.specs.inner.Taking.{store_answer}
use Rattle.box_server.proofs.Added.{keeps_taken, plan_as, posts_taken, tells_taken}
use Rattle.box_server.proofs.stored.Stored.post.Goals as goal

pub invariant_of-self : goal.invariant_of-self
invariant_of-self g c =
    let s = c.self.inside.server in
    let plan = plan_as s _ c.args.posts _ c.in-New.keys c.in-New.draft c.as_slice.ensures (rw c.in-New.is at c.in-Ok.ensures.prepares) in
    tells_taken g.K.Keeper.state c.self.inside.keeper c.take.new.keeper s c.take.new.self _ c.args.posts c.in-New.keys c.in-New.draft plan c.state.result.date (ap (λ s. s.date) c.state.ensures.value) c.take.result c.state.ensures.sound.date c.take.ensures.takes c.take.ensures.adds c.self.invariant

pub returns-in-New-clause-posts : goal.returns-in-New-clause-posts
returns-in-New-clause-posts g c =
    let s = c.self.inside.server in
    let j = c.self.inside.keeper in
    let plan = plan_as s _ c.args.posts _ c.in-New.keys c.in-New.draft c.as_slice.ensures (rw c.in-New.is at c.in-Ok.ensures.prepares) in
    let old : StoredView _ = record { keeper = j; server = s } in
    let new : StoredView _ = record { keeper = c.take.new.keeper; server = c.take.new.self } in
    subst (λ (v : StoredView _). TakesPosts v c.args.random_id c.args.posts c.store_answer.result new) c.self.view_is
    (subst (λ (x : Result Posted StoreFault). TakesPosts old c.args.random_id c.args.posts x new) (sym c.store_answer.ensures)
    (subst (λ (z : ℤ). TakesPosts old z c.args.posts (store_answer c.take.result) new) (to_z-of_z w64 c.args.random_id (search rules))
    (posts_taken g.K.Keeper.state j c.take.new.keeper s c.take.new.self _ c.args.posts c.in-New.keys c.in-New.draft plan c.state.result.date (ap (λ s. s.date) c.state.ensures.value) c.take.result c.take.ensures.takes c.take.ensures.adds)))

pub returns-in-New-clause-used : goal.returns-in-New-clause-used
returns-in-New-clause-used g c =
    let state = g.K.Keeper.state in
    let s = c.self.inside.server in
    let j = c.self.inside.keeper in
    let k = c.take.new.keeper in
    let plan = plan_as s _ c.args.posts _ c.in-New.keys c.in-New.draft c.as_slice.ensures (rw c.in-New.is at c.in-Ok.ensures.prepares) in
    subst (λ (v : StoredView _). Keeps (state v.keeper) (state k) (IsErrOf c.store_answer.result Failed) (λ es. length (es ++ kept_of v.server c.args.random_id c.args.posts) ≤ (state v.keeper).room)) c.self.view_is
    (subst (λ (x : Result Posted StoreFault). Keeps (state j) (state k) (IsErrOf x Failed) (λ es. length (es ++ kept_of s c.args.random_id c.args.posts) ≤ (state j).room)) (sym c.store_answer.ensures)
    (subst (λ (z : ℤ). Keeps (state j) (state k) (IsErrOf (store_answer c.take.result) Failed) (λ es. length (es ++ kept_of s z c.args.posts) ≤ (state j).room)) (to_z-of_z w64 c.args.random_id (search rules))
    (keeps_taken state j k s c.take.new.self _ c.args.posts c.in-New.keys c.in-New.draft plan c.state.result.date (ap (λ s. s.date) c.state.ensures.value) c.take.result c.take.ensures.adds)))
