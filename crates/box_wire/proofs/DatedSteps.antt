-- A step of a value without a cause has a date below 2^31.
use Rattle.std.specs.Prelude.{◌==◌, if◌then◌else◌}
use Rattle.std.proofs.Common.{◌≡◌, ℕ, ◌<◌, ◌^◌, Bool, true, false, None, refl, subst, arith}
use Rattle.std.proofs.lemmas.Bool.{eqb-true}
use Rattle.tl_types.specs.Values.{ValueView, int, long, nat, opaque, text, truth, absent, list, node, call, ValueViews}
use Rattle.box_events.specs.declared.steps.Step.{Step}
use Rattle.wire_forms.specs.Parts.{at, word_of}
use Rattle.wire_forms.specs.declared.numbers.TheConstants.{STEP_POST, STEP_DATE, STEP_SERVE, STEP_HEAR, STEP_TICK, STEP_WAKE, STEP_WATCH, STEP_RESTART, STEP_TOO_LONG}
use Rattle.wire_values.specs.Steps.{step_at, step_in}
use Rattle.wire_profile.specs.Rules.{date_fault}
use Rattle.wire_profile.specs.Causes.{cause_of, first_among}
use Rattle.wire_profile.specs.declared.rule.Rule.TheVariants.{Date}
use Rattle.wire_profile.specs.declared.rule.Root.TheVariants as root
use Rattle.wire_profile.proofs.ClearValues.{clear_of, first_none}
use Rattle.wire_profile.proofs.RuleFacts.{date_is}
use Rattle.box_wire.specs.StepReading.{IsDated}

either : (b : Bool) (x y : Step) → (b ≡ true → IsDated x) → IsDated y → IsDated (if b then x else y)
either true x y law other = law refl
either false x y law other = other

date_low : (k : ℕ) (ts : ValueViews) → date_fault k ts ≡ None → (k == STEP_DATE) ≡ true → word_of (at 0 ts) < 2 ^ 31
date_low k ts none is =
    let here : date_fault STEP_DATE ts ≡ None = subst (λ (n : ℕ). date_fault n ts ≡ None) (eqb-true k STEP_DATE is) none in
    let low = date_is (at 0 ts) here in
    omega (arith, low)

record_dated : (k : ℕ) (ts : ValueViews) → date_fault k ts ≡ None → IsDated (step_at k ts)
record_dated k ts none =
    either (k == STEP_POST) _ _ (λ e. tt)
    (either (k == STEP_DATE) _ _ (λ e. date_low k ts none e)
    (either (k == STEP_SERVE) _ _ (λ e. tt)
    (either (k == STEP_HEAR) _ _ (λ e. tt)
    (either (k == STEP_TICK) _ _ (λ e. tt)
    (either (k == STEP_WAKE) _ _ (λ e. tt)
    (either (k == STEP_WATCH) _ _ (λ e. tt)
    (either (k == STEP_RESTART) _ _ (λ e. tt)
    (either (k == STEP_TOO_LONG) _ _ (λ e. tt) tt))))))))

pub step_dated : (t : ValueView) → cause_of root.Step t ≡ None → IsDated (step_in t)
step_dated (int z) none = tt
step_dated (long z) none = tt
step_dated (nat n) none = tt
step_dated (opaque x) none = tt
step_dated (text x) none = tt
step_dated truth none = tt
step_dated absent none = tt
step_dated (list ts) none = tt
step_dated (node k ts) none = record_dated k ts (first_none (date_fault k ts) (first_among Date ts) (clear_of root.Step (node k ts) none Date refl))
step_dated (call k ts) none = record_dated k ts (first_none (date_fault k ts) (first_among Date ts) (clear_of root.Step (call k ts) none Date refl))
