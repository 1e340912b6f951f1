use Rattle.std.proofs.Common.{ap, sym, ◌∙◌}
use Rattle.std.specs.Option.{option_map}
use Rattle.tl_types.specs.Seen.{view}
use Rattle.tl_calls.specs.Calling.{CallsView, open_at}
use Rattle.tl_calls.proofs.Entries.{lookup_seen}
use Rattle.tl_calls.proofs.calls.Calls.call.Goals as goal

pub returns : goal.returns
returns c = ap (option_map view) c.get.ensures.value ∙ sym (lookup_seen c.args.number c.self.inside.calls.entries) ∙ ap (λ (s : CallsView). open_at s c.args.number) c.self.view_is
