use Rattle.std.proofs.Common.{◌≡◌, drop}
use Rattle.session_commands.specs.Client.{watch_all}
use Rattle.session_commands.proofs.channels.watch_all.Given as goal

-- what is watched of the rest is what is watched of all
abbrev pub invariant-loop-id : goal.invariant-loop-id
invariant-loop-id l = record {
  rest : watch_all (drop l.id-index l.channels) l.client ≡ watch_all l.channels l.fn.client;
  next : l.client.next ≡ l.fn.client.next;
}
