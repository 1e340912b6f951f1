use Rattle.std.proofs.Common.{◌≡◌, length}
use Rattle.wire_profile.proofs.Comparing.{slots_from}
use Rattle.wire_profile.proofs.layout.Layout.are_slots.Given as goal

abbrev pub invariant-loop-i : goal.invariant-loop-i
invariant-loop-i l = record {
  same : length l.parts ≡ length l.fields;
  so_far : slots_from l.self l.parts l.fields l.i ≡ slots_from l.self l.parts l.fields 0;
}
