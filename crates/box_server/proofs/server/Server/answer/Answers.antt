use Rattle.std.proofs.Common.{rules, w32, w64}
use Rattle.std.proofs.lemmas.Int.{to_z-of_z}
use Rattle.std.proofs.lemmas.Result.{IfOk-weaker}
use Rattle.box_server.proofs.Replying.{answers_state, answers_difference, answers_channel}
use Rattle.box_server.proofs.server.Server.answer.Goals as goal

pub returns-in-State : goal.returns-in-State
returns-in-State c = answers_state c.args.self.now c.args.request.now c.state.result c.in-State.is c.state.ensures.value

pub returns-in-Difference : goal.returns-in-Difference
returns-in-Difference c =
    IfOk-weaker c.difference.result _ _ (λ x same. answers_difference c.args.self.now c.args.request.now c.in-Difference.pts c.in-Difference.qts _ _ c.in-Difference.date x c.in-Difference.is (to_z-of_z w32 c.in-Difference.pts (search rules)) (to_z-of_z w32 c.in-Difference.qts (search rules)) same) c.difference.ensures

pub returns-in-Channel : goal.returns-in-Channel
returns-in-Channel c =
    IfOk-weaker c.channel_difference.result _ _ (λ x same. answers_channel c.args.self.now c.args.request.now c.in-Channel.id c.in-Channel.pts _ _ x c.in-Channel.is (to_z-of_z w64 c.in-Channel.id (search rules)) (to_z-of_z w32 c.in-Channel.pts (search rules)) same) c.channel_difference.ensures
