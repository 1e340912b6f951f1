use Rattle.std.proofs.Common.{◌≡◌, ◌-◌, ◌≤◌, ◌++◌}
use Rattle.update_replay.specs.Made.{drawn_ids}
use Rattle.update_replay.proofs.drawing.draw_ids.Given as goal

abbrev pub invariant-loop : goal.invariant-loop
invariant-loop l = record {
  few : l.counter ≤ l.count;
  ids : l.ids ++ (drawn_ids (l.count - l.counter) l.from.number).it ≡ (drawn_ids l.count l.fn.from.number).it;
  next : (drawn_ids (l.count - l.counter) l.from.number).x ≡ (drawn_ids l.count l.fn.from.number).x;
}
