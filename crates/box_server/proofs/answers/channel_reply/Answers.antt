use Rattle.std.proofs.Common.{arith, sym, ◌∙◌, rules, w32}
use Rattle.std.proofs.lemmas.Int.{to_z-of_z}
use Rattle.std.proofs.lemmas.Result.{IfOk-weaker}
use Rattle.box_server.proofs.Replying.{far_reply, near_refused, near_empty, near_part}
use Rattle.box_server.proofs.answers.channel_reply.Goals as goal

pub returns-then-is_far : goal.returns-then-is_far
returns-then-is_far c = λ id.
    far_reply c.args.events.now id c.args.position c.in-Some.pts c.end-end.result c.in_ok-recent.recent (sym (to_z-of_z w32 c.args.position (search rules)) ∙ c.in-Some.ensures) c.end-end.ensures.value (omega (arith, c.if-pts-end.false)) (sym (c.if-is_far.ensures id)) c.in_ok-recent.ensures

pub returns-in_default-2 : goal.returns-in_default-2
returns-in_default-2 c =
    IfOk-weaker c.refusal-in_default-2.result _ _ (λ r refuses id. near_refused c.args.events.now id c.args.position c.in-Some.pts r (sym (to_z-of_z w32 c.args.position (search rules)) ∙ c.in-Some.ensures) (omega (arith, c.if-pts-end.false, c.end-end.ensures.value)) (sym (c.if-is_far.ensures id)) (rw c.in_default-2.is at c.in_ok-run.ensures) refuses)
    c.refusal-in_default-2.ensures

pub returns-then-pts-end-2 : goal.returns-then-pts-end-2
returns-then-pts-end-2 c = λ id.
    let run = rw c.in-Some-2.is at c.in_ok-run.ensures in
    near_empty c.args.events.now id c.args.position c.in-Some.pts run.0.events c.end-end.ensures.counted (sym (to_z-of_z w32 c.args.position (search rules)) ∙ c.in-Some.ensures) (omega (arith, c.if-pts-end-2.true, c.end-end.ensures.value)) (sym (c.if-is_far.ensures id)) run.0.after

pub returns : goal.returns
returns c = λ id.
    let run = rw c.in-Some-2.is at c.in_ok-run.ensures in
    near_part c.args.events.now id c.args.position c.in-Some.pts c.in-Some-2.run'.end c.in-Some-2.run'.parts c.open-news.result.0 c.open-news.result.1 c.in-Some-2.run'.is_whole run.0 (sym (to_z-of_z w32 c.args.position (search rules)) ∙ c.in-Some.ensures) (omega (arith, c.if-pts-end.false, c.end-end.ensures.value))
    (λ same. c.if-pts-end-2.false (omega (arith, same, c.end-end.ensures.value))) (sym (c.if-is_far.ensures id)) c.open-news.ensures run.1
