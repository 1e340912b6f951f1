use Rattle.std.proofs.Common.{◌+◌, ◌++◌, ◌<◌, ◌^◌, ◌≡◌, ℕ, List, length}
use Rattle.tl_base.specs.Using.{Used}
use Rattle.tl_decode.proofs.Pieces.{Adding}
use Rattle.tl_decode.proofs.items.exact_of.Given as goal

abbrev pub invariant-loop-left : goal.invariant-loop-left
invariant-loop-left g l =
    let s = g.S.Source in
    record {
      bound : l.at < 2 ^ 64;
      grows : (more : List ℕ) × (l.out.items ≡ l.fn.out.items ++ more) × (length more + l.left ≡ l.fn.count);
      width : length l.piece ≡ 1024;
      read : Adding l.fn.out.items l.fn.place l.fn.count (s.state l.fn.from).left (s.state l.from).left l.fn.at l.at l.out.items l.left;
      used : Used (s.state l.fn.from) (s.state l.from) ⊥;
    }

abbrev pub decreases-loop-left : goal.decreases-loop-left
decreases-loop-left g l = l.left
