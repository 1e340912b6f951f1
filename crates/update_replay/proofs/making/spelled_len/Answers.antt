use Rattle.std.proofs.Common.{◌∙◌, arith}
use Rattle.update_replay.proofs.MadeStepping.{spelled_few, spelled_size}
use Rattle.update_replay.proofs.making.spelled_len.Goals as goal

pub overflow_cast-result : goal.overflow_cast-result
overflow_cast-result c =
    let few = spelled_few c.args.profile.now c.requires.sound c.args.step.now c.in_ok-bytes.bytes c.in_ok-bytes.ensures.0 c.requires.short in
    omega (arith, c.len.ensures, few)

pub returns : goal.returns
returns c = c.len.ensures ∙ spelled_size c.args.profile.now c.requires.sound c.args.step.now c.in_ok-bytes.bytes c.in_ok-bytes.ensures.0
