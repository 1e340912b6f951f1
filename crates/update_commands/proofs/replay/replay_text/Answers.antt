use Rattle.std.proofs.Common.{sym, ap, subst}
use Rattle.std.proofs.lemmas.Result.{err_from_is_err_and}
use Rattle.wire_profile.specs.Profiles.{IsProfile}
use Rattle.outside.specs.Printing.{Answers}
use Rattle.outside.specs.Runs.{answered}
use Rattle.outside.specs.Begun.{DidIn, to_output}
use Rattle.update_commands.specs.Replay.{OfJournal}
use Rattle.update_world.specs.Shown.{Shown}
use Rattle.update_replay.proofs.Windows.{seen_bytes}
use Rattle.update_replay.proofs.NewWorlds.{is_new, of_new}
use Rattle.update_commands.proofs.Replayed.{not_begun}
use Rattle.update_commands.proofs.replay.replay_text.Goals as goal

pub returns-in_err-world : goal.returns-in_err-world
returns-in_err-world g c =
    let p = err_from_is_err_and c.from_residual.result c.from_residual.ensures.1 in
    rw p.1 (not_begun c.args.profile c.requires.sound c.args.clients c.args.text.now (seen_bytes c.args.text.now c.requires.bytes) _)

pub write_replay-requires-clause-new : goal.write_replay-requires-clause-new
write_replay-requires-clause-new g c = is_new c.args.profile c.args.clients c.in_ok-world.world c.in_ok-world.ensures

pub write_replay-requires-clause-sound : goal.write_replay-requires-clause-sound
write_replay-requires-clause-sound g c = subst IsProfile (sym (ap (λ (z : Shown). z.profile) c.in_ok-world.ensures)) c.requires.sound

pub write_replay-requires-clause-bytes : goal.write_replay-requires-clause-bytes
write_replay-requires-clause-bytes g c = seen_bytes c.args.text.now c.requires.bytes

pub returns : goal.returns
returns g c =
    of_new c.args.profile c.args.clients c.in_ok-world.world c.in_ok-world.ensures (λ q k. DidIn to_output (Answers (OfJournal q k c.args.text.now)) (g.H.Host.state c.args.host.now) (g.H.Host.state c.write_replay.new.host) (answered c.write_replay.result)) c.write_replay.ensures
