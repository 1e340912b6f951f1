use Rattle.std.proofs.Common.{◌≡◌, refl, rules, w64, to_z, of_z, Ok, Err}
use Rattle.std.proofs.lemmas.Int.{to_z-of_z}
use Rattle.std.proofs.lemmas.Result.{err_from_is_err_and}
use Rattle.update_world.specs.declared.parts.WorldParts.{WorldParts}
use Rattle.update_world.proofs.Posts.{known_of, new_of, post_done, post_known, post_refused, post_unsent, push_short, refused_post, same_call}
use Rattle.update_world.proofs.server_steps.post.Goals as goal

pub send_frame-requires-clause-short : goal.send_frame-requires-clause-short
send_frame-requires-clause-short c =
    let a : WorldParts = c.args.parts.now in
    let id : to_z w64 (of_z w64 c.args.random_id) ≡ c.args.random_id = to_z-of_z w64 c.args.random_id (search rules) in
    let h = same_call a.server (to_z w64 (of_z w64 c.args.random_id)) c.args.random_id c.as_slice.result.now c.args.posts (Ok c.in-Ok.posted) c.post.new.self id c.as_slice.ensures c.in-Ok.ensures in
    push_short a.server c.args.random_id c.args.posts c.in-Some.push c.post.new.self c.requires.sound (new_of a.server c.args.random_id c.args.posts c.in-Ok.posted c.in-Some.push c.post.new.self h c.in-Some.is)

pub returns-in_err-packet-in-Some-clause-step : goal.returns-in_err-packet-in-Some-clause-step
returns-in_err-packet-in-Some-clause-step c = λ w st.
    let a : WorldParts = c.args.parts.now in
    let b : WorldParts = record { server = c.post.new.self; clients = a.clients; pool = c.send_frame.new.pool } in
    let id : to_z w64 (of_z w64 c.args.random_id) ≡ c.args.random_id = to_z-of_z w64 c.args.random_id (search rules) in
    let h = same_call a.server (to_z w64 (of_z w64 c.args.random_id)) c.args.random_id c.as_slice.result.now c.args.posts (Ok c.in-Ok.posted) c.post.new.self id c.as_slice.ensures c.in-Ok.ensures in
    let p = err_from_is_err_and c.from_residual.result c.from_residual.ensures.1 in
    rw (p.1, p.2) (post_unsent c.args.profile.now c.requires.profile a b w c.args.random_id c.args.posts c.in-Some.push c.post.new.self c.send_frame.new.pool c.in_err-packet-in-Some.field-0.0 c.requires.sound st
    (new_of a.server c.args.random_id c.args.posts c.in-Ok.posted c.in-Some.push c.post.new.self h c.in-Some.is) c.in_err-packet-in-Some.ensures)

pub returns-in-Some-clause-step : goal.returns-in-Some-clause-step
returns-in-Some-clause-step c = λ w st.
    let a : WorldParts = c.args.parts.now in
    let b : WorldParts = record { server = c.post.new.self; clients = a.clients; pool = c.send_frame.new.pool } in
    let id : to_z w64 (of_z w64 c.args.random_id) ≡ c.args.random_id = to_z-of_z w64 c.args.random_id (search rules) in
    let h = same_call a.server (to_z w64 (of_z w64 c.args.random_id)) c.args.random_id c.as_slice.result.now c.args.posts (Ok c.in-Ok.posted) c.post.new.self id c.as_slice.ensures c.in-Ok.ensures in
    post_done c.args.profile.now c.requires.profile a b w c.args.random_id c.args.posts c.in-Some.push c.state-state.result c.in_ok-packet-in-Some.packet c.requires.sound st
    (new_of a.server c.args.random_id c.args.posts c.in-Ok.posted c.in-Some.push c.post.new.self h c.in-Some.is) refl c.in_ok-packet-in-Some.ensures c.state-state.ensures.value

pub returns-in-Ok-clause-step : goal.returns-in-Ok-clause-step
returns-in-Ok-clause-step c = λ w st.
    let a : WorldParts = c.args.parts.now in
    let b : WorldParts = record { server = c.post.new.self; clients = a.clients; pool = a.pool } in
    let id : to_z w64 (of_z w64 c.args.random_id) ≡ c.args.random_id = to_z-of_z w64 c.args.random_id (search rules) in
    let h = same_call a.server (to_z w64 (of_z w64 c.args.random_id)) c.args.random_id c.as_slice.result.now c.args.posts (Ok c.in-Ok.posted) c.post.new.self id c.as_slice.ensures c.in-Ok.ensures in
    post_known c.args.profile.now c.requires.profile a b w c.args.random_id c.args.posts st c.requires.most (known_of a.server c.args.random_id c.args.posts c.in-Ok.posted c.post.new.self h c.in-None.is) refl refl

pub returns-clause-step : goal.returns-clause-step
returns-clause-step c = λ w st.
    let a : WorldParts = c.args.parts.now in
    let b : WorldParts = record { server = c.post.new.self; clients = a.clients; pool = a.pool } in
    let id : to_z w64 (of_z w64 c.args.random_id) ≡ c.args.random_id = to_z-of_z w64 c.args.random_id (search rules) in
    let h = same_call a.server (to_z w64 (of_z w64 c.args.random_id)) c.args.random_id c.as_slice.result.now c.args.posts (Err c.in-Err.fault) c.post.new.self id c.as_slice.ensures c.in-Err.ensures in
    post_refused c.args.profile.now c.requires.profile a b w c.args.random_id c.args.posts c.in-Err.fault st c.requires.most (refused_post a.server c.args.random_id c.args.posts c.in-Err.fault c.post.new.self c.in_default.not-Memory h) refl refl
