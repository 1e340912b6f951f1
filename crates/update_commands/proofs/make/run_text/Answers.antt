use Rattle.std.proofs.Common.{◌≡◌, ap, subst}
use Rattle.std.specs.Prelude.{Err}
use Rattle.outside.specs.Answer.{done, refused}
use Rattle.outside.proofs.Loaded.{refuses_as}
use Rattle.update_replay.specs.MadeRuns.{MakesRun}
use Rattle.update_replay.specs.declared.made_fault.MadeFault.{MadeFault}
use Rattle.update_commands.specs.Make.{OfMadeRun, full_line, summed, too_full}
use Rattle.update_commands.proofs.make.run_text.Goals as goal

pub returns-in-Ok : goal.returns-in-Ok
returns-in-Ok c = summed c.in-Ok.text c.in-Ok.ensures (ap done c.into_vec.ensures)

pub returns-in-Err-PoolFull : goal.returns-in-Err-PoolFull
returns-in-Err-PoolFull c =
    let makes = subst (λ (f : MadeFault). MakesRun c.args.number c.args.steps (Err f)) c.in-Err-PoolFull.field-0-is c.in-Err-PoolFull.ensures in
    refuses_as (λ told. told ≡ full_line c.in-Err-PoolFull.at c.in-Err-PoolFull.bytes) (λ line. OfMadeRun c.args.number c.args.steps (refused line)) c.too_full.result
    (λ line is. too_full c.in-Err-PoolFull.at c.in-Err-PoolFull.bytes makes (ap refused is)) c.too_full.ensures
