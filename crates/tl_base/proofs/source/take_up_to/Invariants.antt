use Rattle.std.proofs.Common.{◌-◌, ◌≤◌, length}
use Rattle.std.specs.Io.KnownBytes.{Consumes}
use Rattle.tl_base.specs.Using.{Used}
use Rattle.tl_base.proofs.source.take_up_to.Given as goal

abbrev pub invariant-loop-from : goal.invariant-loop-from
invariant-loop-from g l =
    let s = g.S.Source in
    record {
      few : length l.text ≤ l.most;
      bytes : Consumes (s.state l.fn.from).left (s.state l.from).left l.text;
      used : Used (s.state l.fn.from) (s.state l.from) ⊥;
    }

abbrev pub decreases-loop-from : goal.decreases-loop-from
decreases-loop-from g l = l.most - length l.text
