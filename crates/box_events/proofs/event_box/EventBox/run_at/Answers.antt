use Rattle.std.proofs.Common.{◌≡◌, ℕ, List, [], ◌∷◌, length, Some, true, false, leb, refl, sym, ap, subst, arith, rules, of_calls, inr}
use Rattle.std.specs.Prelude.{MatchOption}
use Rattle.std.specs.List.Sorted.{IsPartitionPoint, IsPartitionedBy}
use Rattle.std.proofs.lemmas.List.Sorted.{IsPartitionPoint-from_clause, IsPartitionedBy-leb}
use Rattle.box_events.specs.BoxViews.{BoxView, IsBoundaryOf}
use Rattle.box_events.specs.inner.Insides.{box_view}
use Rattle.box_events.specs.inner.Runs.{RunAt}
use Rattle.box_events.proofs.PageChains.{chained_left}
use Rattle.box_events.proofs.PageRuns.{run_of, run_by, run_before, run_inside, firsts_rise}
use Rattle.box_events.proofs.event_box.EventBox.run_at.Goals as goal

pub returns-then-first-at : goal.returns-then-first-at
returns-then-first-at c =
    let b = box_view c.self.inside in
    let i = c.self.invariant in
    subst (λ (v : BoxView). MatchOption c.suffix_at.result (IsBoundaryOf v c.args.at → ⊥) (λ xs. RunAt v c.args.at (Some xs.now))) c.self.view_is
    (run_by b c.self.inside.last c.args.at c.suffix_at.result
    (run_of b c.self.inside.pages.items [] c.self.inside.last c.args.at refl i.chained i.counted (omega (arith, c.first.ensures, c.if-first-at.true)) (inr refl)) c.suffix_at.ensures)

pub returns-then-after-eq0 : goal.returns-then-after-eq0
returns-then-after-eq0 c =
    let b = box_view c.self.inside in
    let pages = c.self.inside.pages.items in
    let i = c.self.invariant in
    let rise = firsts_rise c.self.inside.first pages (chained_left c.self.inside.first pages (c.self.inside.last ∷ []) i.chained) in
    let found = IsPartitionPoint-from_clause (λ (y : BoxView). leb y.first c.args.at) c.deref.result.now c.partition_point-after.result c.partition_point-after.ensures.partitioned
    (subst (λ (l : List BoxView). (IsPartitionedBy (λ (y : BoxView). leb y.first c.args.at) l)) (sym c.deref.ensures.value) (IsPartitionedBy-leb (λ (y : BoxView). y.first) pages c.args.at rise)) (λ a r f k. search (rules, of_calls)) in
    let parted : IsPartitionPoint (λ (y : BoxView). leb y.first c.args.at ≡ true) (λ y. leb y.first c.args.at ≡ false) pages 0 =
    subst (λ (l : List BoxView). IsPartitionPoint (λ (y : BoxView). leb y.first c.args.at ≡ true) (λ y. leb y.first c.args.at ≡ false) l 0) c.deref.ensures.value
    (subst (λ (n : ℕ). IsPartitionPoint (λ (y : BoxView). leb y.first c.args.at ≡ true) (λ y. leb y.first c.args.at ≡ false) c.deref.result.now n) c.if-after-eq0.true found) in
    subst (λ (v : BoxView). IsBoundaryOf v c.args.at → ⊥) c.self.view_is
    (run_before b pages c.self.inside.last c.args.at i.chained (omega (arith, c.first.ensures, c.if-first-at.false)) parted)

pub returns : goal.returns
returns c =
    let b = box_view c.self.inside in
    let pages = c.self.inside.pages.items in
    let i = c.self.invariant in
    let n = c.partition_point-after.result in
    let rise = firsts_rise c.self.inside.first pages (chained_left c.self.inside.first pages (c.self.inside.last ∷ []) i.chained) in
    let found = IsPartitionPoint-from_clause (λ (y : BoxView). leb y.first c.args.at) c.deref.result.now n c.partition_point-after.ensures.partitioned
    (subst (λ (l : List BoxView). (IsPartitionedBy (λ (y : BoxView). leb y.first c.args.at) l)) (sym c.deref.ensures.value) (IsPartitionedBy-leb (λ (y : BoxView). y.first) pages c.args.at rise)) (λ a r f k. search (rules, of_calls)) in
    let parted : IsPartitionPoint (λ (y : BoxView). leb y.first c.args.at ≡ true) (λ y. leb y.first c.args.at ≡ false) pages n =
    subst (λ (l : List BoxView). IsPartitionPoint (λ (y : BoxView). leb y.first c.args.at ≡ true) (λ y. leb y.first c.args.at ≡ false) l n) c.deref.ensures.value found in
    subst (λ (v : BoxView). MatchOption c.suffix_at-2.result (IsBoundaryOf v c.args.at → ⊥) (λ xs. RunAt v c.args.at (Some xs.now))) c.self.view_is
    (run_by b c.index.result.now c.args.at c.suffix_at-2.result
    (run_inside b pages c.self.inside.last c.index.result.now c.args.at n refl i.chained i.counted (omega (arith, c.first.ensures, c.if-first-at.false)) c.if-after-eq0.false
    (omega (arith, c.partition_point-after.ensures.bound, ap length c.deref.ensures.value)) c.index.ensures parted) c.suffix_at-2.ensures)
