use Rattle.std.proofs.Common.{◌≡◌, List, ℕ, Option, Some, None, MatchOption, sym, ap, ◌∙◌, subst}
use Rattle.std.specs.Ordering.{nat_cmp}
use Rattle.std.specs.Cmp.Lexicographic.{slice_cmp}
use Rattle.std.specs.FinMap.{get, get-from_sorted}
use Rattle.pts_machine.specs.Rows.{pairs}
use Rattle.pts_machine.proofs.table.Table.get.Goals as goal

pub returns : goal.returns
returns c =
    let same = sym (get-from_sorted (slice_cmp nat_cmp) (pairs c.self.inside.rows.items) c.args.key.now c.self.invariant) ∙ ap (λ t. get t.values c.args.key.now) c.self.view_is in
    subst (λ (o : Option (List ℕ)). MatchOption c.value_in.result (o ≡ None) (λ v. o ≡ Some v.now)) same (rw c.deref.ensures.value at c.value_in.ensures)
