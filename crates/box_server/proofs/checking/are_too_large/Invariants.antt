use Rattle.std.proofs.Common.{◌≡◌, ◌≤◌, ltb, drop}
use Rattle.std.specs.List.{sum_by}
use Rattle.box_events.specs.declared.limits.TheConstants.{MAX_POST_BYTES}
use Rattle.box_server.specs.Entries.{entries_of, size_of}
use Rattle.box_server.proofs.checking.are_too_large.Given as goal

abbrev pub invariant-loop-post : goal.invariant-loop-post
invariant-loop-post l = (ltb l.left (sum_by size_of (entries_of (drop l.post-index l.posts))) ≡ ltb MAX_POST_BYTES (sum_by size_of (entries_of l.posts))) × (l.left ≤ 262144)
