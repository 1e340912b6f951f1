use Rattle.std.proofs.Common.{◌∙◌, List, ℕ, Some, Option, ap, sym, refl, subst}
use Rattle.tl_types.specs.Seen.{view}
use Rattle.tl_encode.specs.declared.frames.Part.{Part}
use Rattle.tl_encode.specs.inner.Frames.{EachIsCounted, frames_of}
use Rattle.tl_encode.specs.inner.Walks.{Walks, levels_in}
use Rattle.tl_encode.proofs.Walking.{fails, goes_on, node_told, start_told, starts}
use Rattle.tl_encode.proofs.encoder.bytes_of.Goals as goal

pub loop-next-init : goal.loop-next-init
loop-next-init c = (
  c.new-stack.ensures.levels,
  subst EachIsCounted (sym c.new-stack.ensures.frames) tt,
  starts c.args.plan.now c.args.of (view c.args.value.now) c.new-bytes.result.items _ (frames_of c.new-stack.result) c.requires c.new-bytes.ensures.items refl refl refl c.new-stack.ensures.frames,
)

pub returns-in-Some-node_misfit : goal.returns-in-Some-node_misfit
returns-in-Some-node_misfit c =
    let p = c.args.plan.now in
    let x = c.in-Some.part in
    let fs = frames_of c.loop-next.stack in
    let s = c.instance.ensures.shows in
    let told = node_told p x.of s.0 s.1 c.instance.result.now s.2 c.schema.result.now c.levels.result (levels_in fs) x.bit (view x.value.now) c.node_misfit.result c.schema.ensures c.levels.ensures c.node_misfit.ensures in
    let walks = subst (λ (o : Option Part). Walks p c.args.of (view c.args.value.now) c.loop-next.bytes.items o fs) c.in-Some.is c.loop-next.invariant.2 in
    fails p c.args.of (view c.args.value.now) c.loop-next.bytes.items x fs c.in-Some-node_misfit.cause walks (sym told ∙ c.in-Some-node_misfit.is)
    ∙ ap (λ (path : List ℕ). Some (path, c.in-Some-node_misfit.cause)) (sym c.in_ok-path.ensures)

pub loop-next-preserved : goal.loop-next-preserved
loop-next-preserved c =
    let p = c.args.plan.now in
    let x = c.in-Some.part in
    let fs = frames_of c.loop-next.stack in
    let s = c.instance.ensures.shows in
    let walks = subst (λ (o : Option Part). Walks p c.args.of (view c.args.value.now) c.loop-next.bytes.items o fs) c.in-Some.is c.loop-next.invariant.2 in
    let more = start_told p x.of s.0 s.1 c.instance.result.now s.2 c.schema-in-Some.result.now (view x.value.now) c.schema-in-Some.ensures in (
      c.step_over-next.ensures.levels,
      c.step_over-next.ensures.counted,
      goes_on p c.args.of (view c.args.value.now) c.loop-next.bytes.items _ c.put_start.new.out.items x c.step_over-next.result fs (frames_of c.step_over-next.new.stack) walks (c.step_over-next.ensures.steps walks.frames) more c.in_ok-put_start.ensures,
    )
