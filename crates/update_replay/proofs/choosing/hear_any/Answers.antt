use Rattle.std.proofs.Common.{◌∙◌, true, false, sym, arith}
use Rattle.update_replay.proofs.ChosenSteps.{packet_drawn}
use Rattle.update_replay.proofs.choosing.hear_any.Goals as goal

pub returns-then-not-goes_to-clause-step : goal.returns-then-not-goes_to-clause-step
returns-then-not-goes_to-clause-step c = λ w st.
    packet_drawn c.args.world.now w c.args.client c.args.from.now.number st c.packets-packets.result c.below-packet.result c.below-packet.new.self.number c.packet.result.now false
    c.packets-packets.ensures.value (omega (arith, c.if-packets-eq0.false)) c.below-packet.ensures.value c.below-packet.ensures.next c.packet.ensures (sym c.goes_to.ensures ∙ c.if-not-goes_to.true)

pub returns-clause-step : goal.returns-clause-step
returns-clause-step c = λ w st.
    packet_drawn c.args.world.now w c.args.client c.args.from.now.number st c.packets-packets.result c.below-packet.result c.below-packet.new.self.number c.packet.result.now true
    c.packets-packets.ensures.value (omega (arith, c.if-packets-eq0.false)) c.below-packet.ensures.value c.below-packet.ensures.next c.packet.ensures (sym c.goes_to.ensures ∙ c.if-not-goes_to.false)
