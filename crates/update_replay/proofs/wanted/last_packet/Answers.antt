use Rattle.std.proofs.Common.{◌-◌, ◌∙◌, length, sym, arith}
use Rattle.update_replay.specs.Wanting.{is_wanted}
use Rattle.update_replay.proofs.LastPackets.{as_many, last_found, none_past, not_found}
use Rattle.update_replay.proofs.wanted.last_packet.Goals as goal

pub loop-later-init : goal.loop-later-init
loop-later-init c = λ w st. none_past (is_wanted c.args.wanted) w.pool (length c.args.world.now.pool - 0) (let many = as_many c.args.world.now w st in omega (arith, many))

pub loop-later-preserved : goal.loop-later-preserved
loop-later-preserved c = λ w st.
    not_found c.args.world.now w c.args.wanted st c.loop-later.later (c.loop-later.invariant w st) _ c.packet.result.now c.packet.ensures (omega (arith, c.packets-packets.ensures.value)) (omega (arith, c.packets-packets.ensures.value, c.loop-later-test.true)) (sym c.goes_to.ensures ∙ c.if-goes_to.false)

pub returns-then-goes_to : goal.returns-then-goes_to
returns-then-goes_to c = λ w st.
    last_found c.args.world.now w c.args.wanted st c.loop-later.later (c.loop-later.invariant w st) _ c.packet.result.now c.packet.ensures (omega (arith, c.packets-packets.ensures.value)) (omega (arith, c.packets-packets.ensures.value, c.loop-later-test.true)) (sym c.goes_to.ensures ∙ c.if-goes_to.true)
