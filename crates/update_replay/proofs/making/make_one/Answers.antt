use Rattle.update_replay.proofs.MadeStepping.{chosen_short, goes, never_other}
use Rattle.update_replay.proofs.making.make_one.Goals as goal

pub spelled_len-requires-clause-short : goal.spelled_len-requires-clause-short
spelled_len-requires-clause-short c =
    chosen_short c.requires.stands.0 c.args.number c.args.from.now.number c.make_step.new.from.number c.in_ok-step.step (c.in_ok-step.ensures.step c.requires.stands.0 c.requires.stands.1)

pub returns-in-Ok-clause-goes : goal.returns-in-Ok-clause-goes
returns-in-Ok-clause-goes c = λ w st.
    goes w c.args.number c.args.from.now.number c.in_ok-step.step c.make_step.new.from.number c.in_ok-size.size c.args.world.now c.step.new.self c.in-Ok.field-0 (c.in_ok-step.ensures.step w st) c.in_ok-size.ensures (c.in-Ok.ensures.happens w c.requires.fine st)

pub unreachable-requires : goal.unreachable-requires
unreachable-requires c =
    never_other c.args.world.now c.step.new.self c.requires.stands.0 c.args.number c.args.from.now.number c.make_step.new.from.number c.in_ok-step.step c.in-Err-Refused.cause c.requires.stands.1 c.requires.two
    (c.in_ok-step.ensures.step c.requires.stands.0 c.requires.stands.1) c.in_default.not-PoolFull
    (rw c.in-Err-Refused.field-0-is at c.in-Err-Refused.ensures.happens c.requires.stands.0 c.requires.fine c.requires.stands.1)
