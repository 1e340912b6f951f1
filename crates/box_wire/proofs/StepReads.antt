-- Which step bytes begin with, or why they begin with none; and what is answered of them.
use Rattle.std.proofs.Common.{◌≡◌, ℕ, ◌<◌, ◌≤◌, List, [], ◌++◌, length, length-append, Option, Some, None, Result, Ok, Err, sym, ap, ◌∙◌, subst, refl, inl, inr, arith}
use Rattle.std.specs.Prelude.{IfSome}
use Rattle.tl_numbers.specs.Bytes.{AreBytes}
use Rattle.tl_schema.specs.Types.{Shape}
use Rattle.tl_plan.specs.Plans.{PlanView, InstanceView}
use Rattle.tl_plan.specs.PlanLaws.{IsInstance, IsPlanOf}
use Rattle.tl_types.specs.Values.{ValueView, depth}
use Rattle.tl_types.specs.Seen.{view}
use Rattle.tl_types.specs.Spelling.{Spells}
use Rattle.tl_types.specs.Refusal as refusal
use Rattle.tl_types.specs.Exactly.{BeginsWith, ExactlyOne}
use Rattle.tl_types.specs.Offsets.{moved}
use Rattle.tl_types.specs.declared.cause.Cause.{Cause}
use Rattle.tl_types.specs.declared.value.Value.{Value}
use Rattle.tl_types.specs.declared.value.TheConstants.{MAX_LEVELS}
use Rattle.tl_types.proofs.Exactly.{exactly_one}
use Rattle.tl_decode.specs.Endings.{GivesNone, GivesSome, RefusesFirst, TakesFour}
use Rattle.tl_decode.specs.declared.fault.DecodeFault.{DecodeFault}
use Rattle.tl_decode.specs.declared.fault.DecodeFault.TheVariants as decode
use Rattle.tl_decode.proofs.TakesFour.{each_item_takes_four}
use Rattle.box_events.specs.declared.steps.Step.{Step}
use Rattle.wire_profile.specs.Indexes.{ProfileView, cell_shape}
use Rattle.wire_profile.specs.Profiles.{IsProfile, root_shapes}
use Rattle.wire_profile.specs.SpelledForms.{owned}
use Rattle.wire_profile.proofs.OwnValues.{own_of}
use Rattle.wire_values.specs.Steps.{step_in, step_tree}
use Rattle.wire_values.proofs.PostsAndSteps.{step_same, step_back}
use Rattle.wire_profile.specs.declared.wire_fault.WireFault.{WireFault}
use Rattle.wire_profile.specs.declared.wire_fault.WireFault.TheVariants as wire
use Rattle.box_wire.specs.Kinds.{steps}
use Rattle.box_wire.specs.Framing.{SpellsWhole, Means}
use Rattle.box_wire.specs.StepReading.{StepRefused, no_value, no_message, StepGiven, ReadsStep}
use Rattle.box_wire.specs.inner.Steps.{AnswersStep, as_step_fault}
use Rattle.box_wire.specs.declared.fault.StepReadFault.{StepReadFault}
use Rattle.box_wire.specs.declared.fault.StepReadFault.TheVariants.{Wire, ReadFault, Memory}
use Rattle.box_wire.proofs.StepLaws.{step_formed}
use Rattle.box_wire.proofs.Roots.{of_root}

none_some : {A : Type 0} (x : A) → None ≡ Some x → ⊥
none_some x e = cc

some_is : {A : Type 0} (x y : A) → Some x ≡ Some y → x ≡ y
some_is x y e = cc

refused_as : (p q : ℕ) (c d : Cause) → p ≡ q → c ≡ d → wire.Refused p c ≡ wire.Refused q d
refused_as p q c d e f = cc

no_bytes : (bytes : List ℕ) → bytes ≡ [] → 0 < length bytes → ⊥
no_bytes bytes none some = let e = ap length none in omega (arith, e, some)

too_few : (bytes x rest : List ℕ) → bytes ≡ [] → bytes ≡ x ++ rest → 4 ≤ length x → ⊥
too_few bytes x rest none is four = let e = ap length none in let f = ap length is ∙ length-append x rest in omega (arith, e, f, four)

-- ---- what decoding gave, and what is answered then

abbrev pub StepOf : ProfileView → Result (Option Value) DecodeFault → Result (Option Step) StepReadFault → Type 0
StepOf p (Ok None) result = result ≡ Ok None
StepOf p (Ok (Some value)) result = AnswersStep (steps.cause (owned p (view value))) (step_in (owned p (view value))) result
StepOf p (Err e) result = result ≡ Err (as_step_fault e)

module _ (p : ProfileView) (good : IsProfile p) (bytes : List ℕ) (are : AreBytes bytes) where
  one : ExactlyOne p.schema MAX_LEVELS (cell_shape p steps.cell) bytes
  one = exactly_one p.schema good.schema MAX_LEVELS (cell_shape p steps.cell) bytes (step_formed p good) are

  begins : (v : ValueView) (x rest : List ℕ) → SpellsWhole p steps v x → bytes ≡ x ++ rest → BeginsWith p.schema MAX_LEVELS (cell_shape p steps.cell) bytes v x
  begins v x rest s is = (rest, is, s.0, s.1)

  same_value : (v w : ValueView) (x y rest more : List ℕ) → SpellsWhole p steps v x → bytes ≡ x ++ rest → SpellsWhole p steps w y → bytes ≡ y ++ more → v ≡ w
  same_value v w x y rest more s is r at = (one.one_value v w x y (begins v x rest s is) (begins w y more r at)).0

  cause_as : (v w : ValueView) (x y rest more : List ℕ) (a b : Option WireFault) → SpellsWhole p steps v x → bytes ≡ x ++ rest → SpellsWhole p steps w y → bytes ≡ y ++ more
      → steps.cause (owned p v) ≡ a → steps.cause (owned p w) ≡ b → a ≡ b
  cause_as v w x y rest more a b s is r at d e = sym d ∙ ap (λ (u : ValueView). steps.cause (owned p u)) (same_value v w x y rest more s is r at) ∙ e

  never_both : (t : ValueView) (x rest : List ℕ) → Means p steps t x → bytes ≡ x ++ rest → (e : WireFault) → StepRefused p bytes e → ⊥
  never_both t x rest m is e (no_value offset cause r at) = one.never_both m.v x offset cause (begins m.v x rest m.spelled is) r
  never_both t x rest m is e (no_message w y more s at c) = none_some e (cause_as m.v w x y rest more None (Some e) m.spelled is s at m.clear c)

  one_fault : (e f : WireFault) → StepRefused p bytes e → StepRefused p bytes f → e ≡ f
  one_fault e f (no_value i a r is) (no_value j b s at) =
      let same = one.one_fault i j a b r s in
      is ∙ refused_as _ _ a b (ap (moved 0) same.0) same.1 ∙ sym at
  one_fault e f (no_value i a r is) (no_message w y more s at c) = absurd (one.never_both w y i a (begins w y more s at) r)
  one_fault e f (no_message w y more s at c) (no_value i a r is) = absurd (one.never_both w y i a (begins w y more s at) r)
  one_fault e f (no_message v x rest s is c) (no_message w y more r at d) = some_is e f (cause_as v w x y rest more (Some e) (Some f) s is r at c d)

  one_step : (s t : Step) (x y rest more : List ℕ) → Means p steps (step_tree s) x → bytes ≡ x ++ rest → Means p steps (step_tree t) y → bytes ≡ y ++ more → s ≡ t
  one_step s t x y rest more a is b at =
      let values : a.v ≡ b.v = same_value a.v b.v x y rest more a.spelled is b.spelled at in
      let trees : step_tree s ≡ step_tree t = sym a.same ∙ ap (λ (u : ValueView). steps.normal (owned p u)) values ∙ b.same in
      sym (step_back s) ∙ ap step_in trees ∙ step_back t

  pub reads_by : (after : Option (List ℕ)) (r : Result (Option Step) StepReadFault) → StepGiven p bytes after r → ReadsStep p bytes after r
  reads_by after (Ok None) given = record {
    given = given;
    meant = λ s x rest is m. absurd (too_few bytes x rest given.0 is (each_item_takes_four p.schema (cell_shape p steps.cell) tt m.v x m.spelled.0));
    refused = λ fault some r. absurd (no_bytes bytes given.0 some);
  }
  reads_by after (Ok (Some t)) given = record {
    given = given;
    meant = λ s x rest is m. inl (ap (λ (u : Step). Ok (Some u)) (one_step t s given.0 x given.1 rest given.4 given.2 m is));
    refused = λ fault some r. absurd (never_both (step_tree t) given.0 given.1 given.4 given.2 fault r);
  }
  reads_by after (Err (Wire e)) given = record {
    given = given;
    meant = λ s x rest is m. absurd (never_both (step_tree s) x rest m is e given.1);
    refused = λ fault some r. inl (ap (λ (f : WireFault). Err (Wire f)) (one_fault e fault given.1 r));
  }
  reads_by after (Err ReadFault) given = record { given = tt; meant = λ s x rest is m. inr tt; refused = λ fault some r. inr tt }
  reads_by after (Err Memory) given = record { given = tt; meant = λ s x rest is m. inr tt; refused = λ fault some r. inr tt }

  -- ---- from decoding

  value_given : (v : ValueView) (x rest : List ℕ) (after : Option (List ℕ)) → 0 < length bytes → SpellsWhole p steps v x → bytes ≡ x ++ rest → after ≡ Some rest → (o : Option WireFault) → steps.cause (owned p v) ≡ o
      → (r : Result (Option Step) StepReadFault) → AnswersStep o (step_in (owned p v)) r → StepGiven p bytes after r
  value_given v x rest after some s is left (Some e) c r answers = subst (StepGiven p bytes after) (sym answers) (some, no_message v x rest s is c)
  value_given v x rest after some s is left None c (Ok (Some t)) answers =
      let same : step_tree (step_in (owned p v)) ≡ owned p v = step_same (owned p v) (own_of p good v steps.cell x tt s.0 tt) in
      (x, rest, is, left, record { v = v; spelled = s; clear = c; same = sym same ∙ ap step_tree (sym answers) })
  value_given v x rest after some s is left None c (Ok None) answers = absurd answers
  value_given v x rest after some s is left None c (Err (Wire f)) answers = absurd answers
  value_given v x rest after some s is left None c (Err ReadFault) answers = absurd answers
  value_given v x rest after some s is left None c (Err Memory) answers = tt

  abbrev Gives : Result (Option Value) DecodeFault → Option (List ℕ) → ℕ → Type 0
  Gives d after q = (v : ValueView) (x rest : List ℕ) → bytes ≡ x ++ rest → Spells p.schema (cell_shape p steps.cell) v x → depth v ≤ MAX_LEVELS → GivesSome d after 0 q v x rest

  abbrev Refuses : Result (Option Value) DecodeFault → Type 0
  Refuses d = 0 < length bytes → (offset : ℕ) (cause : Cause) → refusal.Refused p.schema MAX_LEVELS (cell_shape p steps.cell) bytes offset cause → RefusesFirst d (moved 0 offset) cause

  decoded : (after : Option (List ℕ)) (q : ℕ) (d : Result (Option Value) DecodeFault) (r : Result (Option Step) StepReadFault) → GivesNone bytes after 0 q d → Gives d after q → Refuses d → StepOf p d r → StepGiven p bytes after r
  decoded after q (Ok None) r none gives refuses link = subst (StepGiven p bytes after) (sym link) (none.0, none.1)
  decoded after q (Ok (Some value)) r none gives refuses link = elim one.either [
    | inl (v, x, (rest, is, spells, deep)) ↦
        let got = gives v x rest is spells deep in
        let here : AnswersStep (steps.cause (owned p v)) (step_in (owned p v)) r = subst (λ (u : ValueView). AnswersStep (steps.cause (owned p u)) (step_in (owned p u)) r) got.0 link in
        value_given v x rest after none (spells, deep) is got.1 (steps.cause (owned p v)) refl r here
    | inr (at, cause, f) ↦ absurd (refuses none at cause f)
  ]
  decoded after q (Err (decode.Refused place why)) r none gives refuses link = elim one.either [
    | inl (v, x, (rest, is, spells, deep)) ↦ absurd (gives v x rest is spells deep)
    | inr (at, cause, f) ↦ (let same = refuses none at cause f in subst (StepGiven p bytes after) (sym link) (none, no_value at cause f (refused_as _ _ _ _ same.0 same.1)))
  ]
  decoded after q (Err decode.ReadFault) r none gives refuses link = subst (StepGiven p bytes after) (sym link) tt
  decoded after q (Err decode.Memory) r none gives refuses link = subst (StepGiven p bytes after) (sym link) tt

pub steps_read : (p : ProfileView) (plan : PlanView) → IsProfile p → IsPlanOf p.schema (root_shapes p) plan → (before after : Option (List ℕ)) (q : ℕ) (d : Result (Option Value) DecodeFault) (r : Result (Option Step) StepReadFault)
    → IfSome before AreBytes → IfSome before (λ bytes. GivesNone bytes after 0 q d)
    → IfSome before (λ bytes. (T : Shape) → IsInstance plan 1 T → (v : ValueView) (x rest : List ℕ) → bytes ≡ x ++ rest → Spells plan.schema T v x → depth v ≤ MAX_LEVELS → GivesSome d after 0 q v x rest)
    → IfSome before (λ bytes. 0 < length bytes → (T : Shape) → IsInstance plan 1 T → (offset : ℕ) (cause : Cause) → refusal.Refused plan.schema MAX_LEVELS T bytes offset cause → RefusesFirst d (moved 0 offset) cause)
    → StepOf p d r → IfSome before (λ bytes. ReadsStep p bytes after r)
steps_read p plan good is None after q d r are none gives refuses link = tt
steps_read p plan good is (Some bytes) after q d r are none gives refuses link =
    let formed = step_formed p good in
    let given = of_root p plan is 1 (cell_shape p steps.cell) refl formed (λ S T. (v : ValueView) (x rest : List ℕ) → bytes ≡ x ++ rest → Spells S T v x → depth v ≤ MAX_LEVELS → GivesSome d after 0 q v x rest) (λ U at of. gives U at) in
    let refused = of_root p plan is 1 (cell_shape p steps.cell) refl formed (λ S T. 0 < length bytes → (offset : ℕ) (cause : Cause) → refusal.Refused S MAX_LEVELS T bytes offset cause → RefusesFirst d (moved 0 offset) cause) (λ U at of some. refuses some U at) in
    reads_by p good bytes are after r (decoded p good bytes are after q d r none given refused link)

-- ---- the plan's root for steps

of_is : (x y : InstanceView) → Some x ≡ Some y → x ≡ y
of_is x y e = cc

pub step_takes_four : (p : ProfileView) (plan : PlanView) → IsPlanOf p.schema (root_shapes p) plan → (T : Shape) → IsInstance plan 1 T → TakesFour plan.schema T
step_takes_four p plan is T (x, at, of) =
    let root = is.roots 1 (cell_shape p steps.cell) refl in
    let same : cell_shape p steps.cell ≡ T = sym root.2 ∙ ap (λ (y : InstanceView). y.of) (of_is _ _ (sym root.1 ∙ at)) ∙ of in
    subst (TakesFour plan.schema) same (each_item_takes_four plan.schema (cell_shape p steps.cell) tt)
