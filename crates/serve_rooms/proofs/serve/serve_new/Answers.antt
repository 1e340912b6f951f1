use Rattle.std.proofs.Common.{◌∙◌}
use Rattle.serve_rooms.proofs.Spared.{new_never, new_served}
use Rattle.serve_rooms.proofs.serve.serve_new.Goals as goal

pub spared-requires : goal.spared-requires
spared-requires g c = record { never = new_never c.args.address.now c.args.sessions c.args.profile.now c.over-store.result.server (c.over-store.ensures ∙ c.new.ensures) _ _ _ c.serve_all.ensures }

pub returns : goal.returns
returns g c = new_served c.args.address.now c.args.sessions c.args.profile.now c.over-store.result.server (c.over-store.ensures ∙ c.new.ensures) _ _ _ c.serve_all.ensures _ c.spared.ensures
