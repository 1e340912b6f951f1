use Rattle.std.proofs.Common.{subst, Some, None, rules, w64}
use Rattle.std.proofs.lemmas.Int.{to_z-of_z}
use Rattle.std.proofs.lemmas.Result.{err_from_is_err_and}
use Rattle.box_server.specs.Sound.{IsSound}
use Rattle.box_server.proofs.Taken.{known_at, receives_known, receives_refused, keys_refused, draft_refused, plan_of, cause_bad}
use Rattle.box_server.proofs.server.Server.prepare.Goals as goal

pub returns-in-Some-clause-prepares : goal.returns-in-Some-clause-prepares
returns-in-Some-clause-prepares c =
    receives_known c.args.self.now c.args.random_id c.args.posts.now c.in-Some.receipt.now (known_at c.self.inside c.args.self.now c.args.random_id _ (Some c.in-Some.receipt.now) c.self.view_is (to_z-of_z w64 c.args.random_id (search rules)) c.self.invariant.order c.in-Some.ensures.value)

pub returns-in_err-check-clause-prepares : goal.returns-in_err-check-clause-prepares
returns-in_err-check-clause-prepares c =
    let p = err_from_is_err_and c.from_residual.result c.from_residual.ensures.1 in
    let fresh = known_at c.self.inside c.args.self.now c.args.random_id _ None c.self.view_is (to_z-of_z w64 c.args.random_id (search rules)) c.self.invariant.order c.in_default.ensures.value in
    rw (p.1, p.2) (receives_refused c.args.self.now c.args.random_id c.args.posts.now c.in_err-check.field-0.0 fresh (cause_bad c.args.self.now c.args.posts.now c.in_err-check.field-0.0 c.in_err-check.ensures))

pub returns-in_err-keys-clause-prepares : goal.returns-in_err-keys-clause-prepares
returns-in_err-keys-clause-prepares c =
    let p = err_from_is_err_and c.from_residual-in_err-keys.result c.from_residual-in_err-keys.ensures.1 in
    let fresh = known_at c.self.inside c.args.self.now c.args.random_id _ None c.self.view_is (to_z-of_z w64 c.args.random_id (search rules)) c.self.invariant.order c.in_default.ensures.value in
    rw (p.1, p.2) (keys_refused c.args.self.now c.args.random_id c.args.posts.now c.in_err-keys.field-0.0 fresh c.in_ok-check.ensures c.in_err-keys.ensures)

pub returns-in_err-draft-clause-prepares : goal.returns-in_err-draft-clause-prepares
returns-in_err-draft-clause-prepares c =
    let p = err_from_is_err_and c.from_residual-in_err-draft.result c.from_residual-in_err-draft.ensures.1 in
    let fresh = known_at c.self.inside c.args.self.now c.args.random_id _ None c.self.view_is (to_z-of_z w64 c.args.random_id (search rules)) c.self.invariant.order c.in_default.ensures.value in
    rw (p.1, p.2) (draft_refused c.args.self.now c.args.random_id c.args.posts.now c.in_err-draft.field-0.0 fresh c.in_ok-check.ensures c.in_ok-keys.ensures.0 c.in_err-draft.ensures)

pub returns-clause-prepares : goal.returns-clause-prepares
returns-clause-prepares c =
    let fresh = known_at c.self.inside c.args.self.now c.args.random_id _ None c.self.view_is (to_z-of_z w64 c.args.random_id (search rules)) c.self.invariant.order c.in_default.ensures.value in
    plan_of c.args.self.now c.args.random_id c.args.posts.now c.in_ok-keys.keys c.in_ok-draft.draft (subst IsSound c.self.view_is c.self.invariant.sound) fresh c.in_ok-check.ensures c.in_ok-keys.ensures c.in_ok-draft.ensures
