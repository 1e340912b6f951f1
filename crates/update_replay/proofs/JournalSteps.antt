-- What bytes begin with: one step, or none for one cause.
use Rattle.std.proofs.Common.{◌≡◌, ◌⊎◌, inl, inr, ℕ, ◌≤◌, List, [], ◌++◌, length, length-append, Option, Some, None, refl, sym, ap, ◌∙◌, arith}
use Rattle.std.proofs.lemmas.List.{append_cancel_left}
use Rattle.std.proofs.lemmas.Option.{none-some, same_Some}
use Rattle.tl_numbers.specs.Bytes.{AreBytes}
use Rattle.tl_types.specs.Values.{ValueView}
use Rattle.tl_types.specs.Exactly.{BeginsWith, ExactlyOne}
use Rattle.tl_types.specs.Offsets.{moved}
use Rattle.tl_types.specs.declared.cause.Cause.{Cause}
use Rattle.tl_types.specs.declared.value.TheConstants.{MAX_LEVELS}
use Rattle.tl_types.proofs.Exactly.{exactly_one}
use Rattle.tl_decode.proofs.TakesFour.{each_item_takes_four}
use Rattle.box_events.specs.declared.steps.Step.{Step}
use Rattle.wire_profile.specs.Indexes.{ProfileView, cell_shape}
use Rattle.wire_profile.specs.Profiles.{IsProfile}
use Rattle.wire_profile.specs.SpelledForms.{owned}
use Rattle.wire_profile.proofs.OwnValues.{own_of}
use Rattle.wire_values.specs.Steps.{step_in, step_tree}
use Rattle.wire_values.proofs.PostsAndSteps.{step_same, step_back}
use Rattle.wire_profile.specs.declared.wire_fault.WireFault.{WireFault}
use Rattle.wire_profile.specs.declared.wire_fault.WireFault.TheVariants as wire
use Rattle.box_wire.specs.Kinds.{steps}
use Rattle.box_wire.specs.Framing.{SpellsWhole}
use Rattle.box_wire.specs.StepReading.{StepRefused, no_value, no_message}
use Rattle.box_wire.proofs.StepLaws.{step_formed}
use Rattle.update_replay.specs.Replays.{BeginsStep}

refused_as : (p q : ℕ) (c d : Cause) → p ≡ q → c ≡ d → wire.Refused p c ≡ wire.Refused q d
refused_as p q c d e f = cc

-- a step has four bytes at least
pub step_long : (p : ProfileView) (bytes : List ℕ) (s : Step) (x rest : List ℕ) → BeginsStep p bytes s x rest → 4 ≤ length x
step_long p bytes s x rest b = each_item_takes_four p.schema (cell_shape p steps.cell) tt (b.means).v x (b.means).spelled.0

pub none_begins : (p : ProfileView) (bytes : List ℕ) (s : Step) (x rest : List ℕ) → bytes ≡ [] → BeginsStep p bytes s x rest → ⊥
none_begins p bytes s x rest none b =
    let long = step_long p bytes s x rest b in
    let e = ap length none in
    let f = ap length b.parts ∙ length-append x rest in
    omega (arith, e, f, long)

module _ (p : ProfileView) (good : IsProfile p) (bytes : List ℕ) (are : AreBytes bytes) where
  one : ExactlyOne p.schema MAX_LEVELS (cell_shape p steps.cell) bytes
  one = exactly_one p.schema good.schema MAX_LEVELS (cell_shape p steps.cell) bytes (step_formed p good) are

  begins : (v : ValueView) (x rest : List ℕ) → SpellsWhole p steps v x → bytes ≡ x ++ rest → BeginsWith p.schema MAX_LEVELS (cell_shape p steps.cell) bytes v x
  begins v x rest s is = (rest, is, s.0, s.1)

  same_value : (v w : ValueView) (x y rest more : List ℕ) → SpellsWhole p steps v x → bytes ≡ x ++ rest → SpellsWhole p steps w y → bytes ≡ y ++ more → (v ≡ w) × (x ≡ y)
  same_value v w x y rest more s is r at = one.one_value v w x y (begins v x rest s is) (begins w y more r at)

  cause_as : (v w : ValueView) (x y rest more : List ℕ) (a b : Option WireFault) → SpellsWhole p steps v x → bytes ≡ x ++ rest → SpellsWhole p steps w y → bytes ≡ y ++ more
      → steps.cause (owned p v) ≡ a → steps.cause (owned p w) ≡ b → a ≡ b
  cause_as v w x y rest more a b s is r at d e = sym d ∙ ap (λ (u : ValueView). steps.cause (owned p u)) (same_value v w x y rest more s is r at).0 ∙ e

  pub steps_once : (s t : Step) (x y rest more : List ℕ) → BeginsStep p bytes s x rest → BeginsStep p bytes t y more → (s ≡ t) × (x ≡ y) × (rest ≡ more)
  steps_once s t x y rest more a b =
      let same = same_value (a.means).v (b.means).v x y rest more (a.means).spelled a.parts (b.means).spelled b.parts in
      let trees : step_tree s ≡ step_tree t = sym (a.means).same ∙ ap (λ (u : ValueView). steps.normal (owned p u)) same.0 ∙ (b.means).same in
      let whole : x ++ rest ≡ y ++ more = sym a.parts ∙ b.parts in
      (sym (step_back s) ∙ ap step_in trees ∙ step_back t, same.1, append_cancel_left y rest more (ap (λ (z : List ℕ). z ++ rest) (sym same.1) ∙ whole))

  pub no_both : (s : Step) (x rest : List ℕ) (e : WireFault) → BeginsStep p bytes s x rest → StepRefused p bytes e → ⊥
  no_both s x rest e b (no_value offset cause r at) = one.never_both (b.means).v x offset cause (begins (b.means).v x rest (b.means).spelled b.parts) r
  no_both s x rest e b (no_message w y more r at c) = none-some e (cause_as (b.means).v w x y rest more None (Some e) (b.means).spelled b.parts r at (b.means).clear c)

  pub one_refusal : (e f : WireFault) → StepRefused p bytes e → StepRefused p bytes f → e ≡ f
  one_refusal e f (no_value i a r is) (no_value j b s at) =
      let same = one.one_fault i j a b r s in
      is ∙ refused_as _ _ a b (ap (moved 0) same.0) same.1 ∙ sym at
  one_refusal e f (no_value i a r is) (no_message w y more s at c) = absurd (one.never_both w y i a (begins w y more s at) r)
  one_refusal e f (no_message w y more s at c) (no_value i a r is) = absurd (one.never_both w y i a (begins w y more s at) r)
  one_refusal e f (no_message v x rest s is c) (no_message w y more r at d) = same_Some e f (cause_as v w x y rest more (Some e) (Some f) s is r at c d)

  -- a value that bytes begin with is a step's, or has a cause
  of_value : (v : ValueView) (x rest : List ℕ) → SpellsWhole p steps v x → bytes ≡ x ++ rest → (o : Option WireFault) → steps.cause (owned p v) ≡ o
      → ((s : Step) × (x : List ℕ) × (rest : List ℕ) × BeginsStep p bytes s x rest) ⊎ ((fault : WireFault) × StepRefused p bytes fault)
  of_value v x rest s is (Some e) c = inr (e, no_message v x rest s is c)
  of_value v x rest s is None c =
      let same : step_tree (step_in (owned p v)) ≡ owned p v = step_same (owned p v) (own_of p good v steps.cell x tt s.0 tt) in
      inl (step_in (owned p v), x, rest, record { parts = is; means = record { v = v; spelled = s; clear = c; same = sym same } })

  pub step_or_refusal : ((s : Step) × (x : List ℕ) × (rest : List ℕ) × BeginsStep p bytes s x rest) ⊎ ((fault : WireFault) × StepRefused p bytes fault)
  step_or_refusal = elim one.either [
    | inl (v, x, (rest, is, spells, deep)) ↦ of_value v x rest (spells, deep) is (steps.cause (owned p v)) refl
    | inr (at, cause, f) ↦ inr (wire.Refused (moved 0 at) cause, no_value at cause f refl)
  ]
