use Rattle.std.proofs.Common.{ℕ, ◌+◌, ◌-◌, ◌*◌, ◌≤◌, vec_len, vec_capacity}
use Rattle.tl_plan.specs.Plans.{PlanView}
use Rattle.tl_decode.specs.declared.stack.StackFrame.TheVariants as frame
use Rattle.tl_decode.specs.inner.Frames.{IsInPlan, IsItem}
use Rattle.tl_decode.specs.inner.Needs.{AddsNumbers}
use Rattle.tl_decode.proofs.numbers.add_numbers.Given as goal

abbrev pub invariant-loop-n : goal.invariant-loop-n
invariant-loop-n l =
    record {
      few : l.n ≤ l.count;
      room : vec_len l.items + (l.count - l.n) ≤ vec_capacity l.items;
      adds : (p : PlanView) (j : ℕ) → IsInPlan p j → IsItem p j l.wanted → AddsNumbers p l.wanted l.next (frame.List j l.fn.left l.fn.items) (frame.List j (l.fn.left - l.n) l.items) (4 * l.n);
    }

abbrev pub decreases-loop-n : goal.decreases-loop-n
decreases-loop-n l = l.count - l.n
