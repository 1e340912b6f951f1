use Rattle.std.proofs.Common.{◌≡◌, ℕ, Bool, true, false, Some, None, ap, sym, ◌∙◌, subst, arith}
use Rattle.std.proofs.lemmas.Option.{same_Some}
use Rattle.tl_schema.specs.Types as type
use Rattle.tl_plan.specs.PlanLaws.{IsInstance}
use Rattle.tl_decode.specs.inner.Frames.{type_in}
use Rattle.tl_decode.proofs.Opened.{deep_list, opens_boxed_list, opens_list}
use Rattle.tl_decode.proofs.PlanTypes.{instance_type, instance_within, item_there}
use Rattle.tl_decode.proofs.opening.open_list.Goals as goal

never : {k : ℕ} → None ≡ Some k → ⊥
never e = cc

pub returns-then-len : goal.returns-then-len
returns-then-len c = deep_list c.args.plan.now c.args.frames.now.items c.requires.frames c.args.of c.args.boxed (omega (arith, c.len.ensures, c.if-len.true, c.args.frames.now.ok.0)) c.requires.list

pub unreachable-requires : goal.unreachable-requires
unreachable-requires c =
    let there = item_there c.args.plan.now c.instance.ensures.sound c.args.of c.instance.result.now c.args.boxed c.requires.list.0 c.instance.ensures.shows c.requires.list.1 in
    never (sym c.in-None.is ∙ there.1)

pub returns-then-boxed : goal.returns-then-boxed
returns-then-boxed c =
    let p = c.args.plan.now in
    let U = c.requires.list.0 in
    let is : type_in p c.args.of ≡ type.vector true U = c.requires.list.1 ∙ ap (λ (x : Bool). type.vector x U) c.if-boxed.true in
    let there = item_there p c.instance.ensures.sound c.args.of c.instance.result.now true U c.instance.ensures.shows is in
    let same : there.0 ≡ c.in-Some.item = same_Some there.0 c.in-Some.item (sym there.1 ∙ c.in-Some.is) in
    let own = subst (λ (k : ℕ). IsInstance p k U) same there.2 in
    rw c.wants.ensures (opens_boxed_list p c.args.frames.now.items c.requires.frames c.args.of c.in-Some.item U (omega (arith, c.len.ensures, c.if-len.false, c.args.frames.now.ok.0)) is (instance_type p c.in-Some.item U own) (instance_within p c.in-Some.item U own))

pub returns-else-boxed : goal.returns-else-boxed
returns-else-boxed c =
    let p = c.args.plan.now in
    let U = c.requires.list.0 in
    let is : type_in p c.args.of ≡ type.vector false U = c.requires.list.1 ∙ ap (λ (x : Bool). type.vector x U) c.if-boxed.false in
    let there = item_there p c.instance.ensures.sound c.args.of c.instance.result.now false U c.instance.ensures.shows is in
    let same : there.0 ≡ c.in-Some.item = same_Some there.0 c.in-Some.item (sym there.1 ∙ c.in-Some.is) in
    let own = subst (λ (k : ℕ). IsInstance p k U) same there.2 in
    rw c.wants-else-boxed.ensures (opens_list p c.args.frames.now.items c.requires.frames c.args.of c.in-Some.item U (omega (arith, c.len.ensures, c.if-len.false, c.args.frames.now.ok.0)) is (instance_type p c.in-Some.item U own) (instance_within p c.in-Some.item U own))
