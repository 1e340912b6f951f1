use Rattle.std.proofs.Common.{drop}
use Rattle.box_server.specs.Entries.{entries_of}
use Rattle.box_server.specs.Servers.{ServerState}
use Rattle.box_server.specs.inner.Drafted.{Fits}
use Rattle.box_server.proofs.Drafting.{Adding, AllHaveIds}
use Rattle.box_server.proofs.draft.Draft.add_all.Given as goal

abbrev pub invariant-loop-post : goal.invariant-loop-post
invariant-loop-post l =
    ((s : ServerState) → Fits s l.fn.self → Adding s l.fn.self l.self (entries_of l.posts) (entries_of (drop l.post-index l.posts)))
    × AllHaveIds (entries_of (drop l.post-index l.posts))
