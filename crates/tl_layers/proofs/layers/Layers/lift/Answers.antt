use Rattle.std.proofs.Common.{List, ℕ, subst, ◌≡◌}
use Rattle.std.specs.Prelude.{IfOk}
use Rattle.tl_types.specs.Seen.{view}
use Rattle.tl_types.specs.Spelling.{Spells}
use Rattle.tl_layers.specs.Compared.{LayersView}
use Rattle.tl_layers.specs.Counterparts.{image}
use Rattle.tl_layers.specs.Lifted.{lifted}
use Rattle.tl_layers.specs.Plain.{IsPlain}
use Rattle.tl_layers.proofs.LiftedBy.{lifts_to, spells_in}
use Rattle.tl_layers.proofs.layers.Layers.lift.Goals as goal

pub returns-clause-lifts : goal.returns-clause-lifts
returns-clause-lifts c =
    subst (λ (l : LayersView). (b : List ℕ) → Spells l.old l.of (view c.args.value.now) b → IfOk c.lift_value.result (λ v. view v ≡ lifted l.old l.new (view c.args.value.now))) c.self.view_is
    (lifts_to c.lift_value.result _ _ c.self.inside.moved.items _ c.self.invariant (view c.args.value.now) (rw c.deref.ensures.value at c.lift_value.ensures))

pub returns-clause-spelled : goal.returns-clause-spelled
returns-clause-spelled c =
    subst (λ (l : LayersView). (b : List ℕ) → IsPlain l.old (view c.args.value.now) → Spells l.old l.of (view c.args.value.now) b → IfOk c.lift_value.result (λ v. Spells l.new (image l.old l.new l.of) (view v) b)) c.self.view_is
    (spells_in c.lift_value.result _ _ c.self.inside.moved.items _ c.self.invariant (view c.args.value.now) (rw c.deref.ensures.value at c.lift_value.ensures))
