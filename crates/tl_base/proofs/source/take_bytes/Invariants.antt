use Rattle.std.proofs.Common.{◌-◌, ◌≡◌, ◌≤◌, take, length}
use Rattle.std.specs.Io.KnownBytes.{Consumes}
use Rattle.tl_base.specs.Using.{Used}
use Rattle.tl_base.proofs.source.take_bytes.Given as goal

abbrev pub invariant-loop-had : goal.invariant-loop-had
invariant-loop-had g l =
    let s = g.S.Source in
    record {
      few : l.had ≤ length l.fn.into;
      width : length l.into ≡ length l.fn.into;
      bytes : Consumes (s.state l.fn.from).left (s.state l.from).left (take l.had l.into);
      used : Used (s.state l.fn.from) (s.state l.from) ⊥;
    }

abbrev pub decreases-loop-had : goal.decreases-loop-had
decreases-loop-had g l = length l.fn.into - l.had
