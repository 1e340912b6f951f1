use Rattle.std.proofs.Common.{◌+◌, ◌≤◌, vec_len, vec_capacity}
use Rattle.box_server.proofs.LastKeys.{Noting}
use Rattle.box_server.proofs.last_indexes.note_all.Given as goal

abbrev pub invariant-loop-dated : goal.invariant-loop-dated
invariant-loop-dated l =
    Noting l.fn.settings.items l.fn.more.items l.settings.items l.last.entries l.dated-iterator.rest.items
    × (vec_len l.settings + l.dated-iterator.rest.len ≤ vec_capacity l.settings)
