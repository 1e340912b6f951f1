use Rattle.std.proofs.Common.{◌≡◌, drop}
use Rattle.std.specs.List.{list_any}
use Rattle.box_server.specs.Entries.{entries_of}
use Rattle.box_server.specs.inner.Checks.{is_bad}
use Rattle.box_server.proofs.checking.is_any_bad.Given as goal

abbrev pub invariant-loop-post : goal.invariant-loop-post
invariant-loop-post l = list_any (is_bad l.cause) (entries_of (drop l.post-index l.posts)) ≡ list_any (is_bad l.cause) (entries_of l.posts)
