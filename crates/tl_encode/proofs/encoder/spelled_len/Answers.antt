use Rattle.std.proofs.Common.{rules, ◌∙◌, ◌-◌, ◌^◌, List, [], ℕ, Option, length, min, ap, sym, refl, subst}
use Rattle.tl_types.specs.Seen.{view}
use Rattle.tl_encode.specs.declared.frames.Part.{Part}
use Rattle.tl_encode.specs.inner.Frames.{EachIsCounted, frames_of}
use Rattle.tl_encode.specs.inner.Walks.{Walks}
use Rattle.tl_encode.proofs.Walking.{ends, goes_on, one_more, part_fits, part_in_range, start_told, starts, whole_is}
use Rattle.tl_encode.proofs.encoder.spelled_len.Goals as goal

pub loop-next-init : goal.loop-next-init
loop-next-init c = (
  c.new-stack.ensures.levels,
  subst EachIsCounted (sym c.new-stack.ensures.frames) tt,
  c.root-of.ensures.within,
  ([], starts c.args.plan.now c.root-of.result (view c.args.value.now) [] _ (frames_of c.new-stack.result) c.root-of.ensures.within refl refl refl refl c.new-stack.ensures.frames, refl),
)

pub step_over-next-requires-clause-fits : goal.step_over-next-requires-clause-fits
step_over-next-requires-clause-fits c =
    let put = c.loop-next.invariant.3 in
    part_fits c.args.plan.now c.root-of.result c.args.root (view c.args.value.now) put.0 c.loop-next.next c.in-Some.part (frames_of c.loop-next.stack) c.root-of.ensures.within c.root-of.ensures.root c.requires.fits c.in-Some.is put.1

pub start_len-requires : goal.start_len-requires
start_len-requires c =
    let put = c.loop-next.invariant.3 in
    record { in_range = part_in_range c.args.plan.now c.root-of.result c.args.root (view c.args.value.now) put.0 c.loop-next.next c.in-Some.part (frames_of c.loop-next.stack) c.root-of.ensures.within c.root-of.ensures.root c.requires.fits c.in-Some.is put.1 }

pub loop-next-preserved : goal.loop-next-preserved
loop-next-preserved c =
    let p = c.args.plan.now in
    let x = c.in-Some.part in
    let fs = frames_of c.loop-next.stack in
    let s = c.instance.ensures.shows in
    let put = c.loop-next.invariant.3 in
    let walks = subst (λ (o : Option Part). Walks p c.root-of.result (view c.args.value.now) put.0 o fs) c.in-Some.is put.1 in
    let more = start_told p x.of s.0 s.1 c.instance.result.now s.2 c.schema.result.now (view x.value.now) c.schema.ensures in
    let all = goes_on p c.root-of.result (view c.args.value.now) put.0 _ _ x c.step_over-next.result fs (frames_of c.step_over-next.new.stack) walks (c.step_over-next.ensures.steps walks.frames) more refl in
    (c.step_over-next.ensures.levels, c.step_over-next.ensures.counted, c.root-of.ensures.within, (_, all, one_more c.loop-next.len c.start_len.result c.saturating_add-len.result put.0 _ c.saturating_add-len.ensures put.2 c.start_len.ensures))

pub returns : goal.returns
returns c = λ T spelled instance spells.
    let p = c.args.plan.now in
    let fs = frames_of c.loop-next.stack in
    let put = c.loop-next.invariant.3 in
    let walks = subst (λ (o : Option Part). Walks p c.root-of.result (view c.args.value.now) put.0 o fs) (search rules) put.1 in
    let whole = whole_is p c.root-of.result c.args.root T (view c.args.value.now) put.0 spelled (ends p c.root-of.result (view c.args.value.now) put.0 fs walks).1 c.root-of.ensures.root instance spells in
    put.2 ∙ ap (λ (b : List ℕ). min (length b) (2 ^ 64 - 1)) whole
