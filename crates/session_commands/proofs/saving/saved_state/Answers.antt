use Rattle.std.proofs.Common.{subst}
use Rattle.box_events.specs.declared.saved.Saved.{Saved}
use Rattle.box_wire.specs.Framing.{Framed}
use Rattle.box_wire.specs.Kinds.{saved_clients}
use Rattle.wire_values.specs.SavedClients.{saved_tree}
use Rattle.session_commands.proofs.saving.saved_state.Goals as goal

pub returns : goal.returns
returns c = record {
  state = subst (λ (s : Saved). Framed c.args.profile.now saved_clients (saved_tree s) c.in_ok-state.state) c.in_ok-saved.ensures.value c.in_ok-state.ensures.0;
  line = c.in_ok-line.ensures;
}
