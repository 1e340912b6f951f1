use Rattle.std.proofs.Common.{◌≡◌, drop, map}
use Rattle.box_server.specs.Entries.{entries_of}
use Rattle.box_server.specs.Servers.{ServerState}
use Rattle.box_server.specs.inner.Insides.{channel_view}
use Rattle.box_server.proofs.Openings.{Opened}
use Rattle.box_server.proofs.opening.opens_too_many.Given as goal

abbrev pub invariant-loop-post : goal.invariant-loop-post
invariant-loop-post l = (s : ServerState) → s.channels ≡ map channel_view l.channels → Opened s (entries_of l.posts) l.ids.items (entries_of (drop l.post-index l.posts))
