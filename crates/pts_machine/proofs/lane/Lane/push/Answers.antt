use Rattle.std.proofs.Common.{refl, sym, ap, ◌∙◌, subst, arith, inl, ◌≡◌, ◌+◌, ◌<◌}
use Rattle.std.proofs.lemmas.List.Sums.{sum_by_push}
use Rattle.pts_machine.specs.declared.seen.Seen.TheVariants.{Applied, Already}
use Rattle.pts_machine.specs.States.{LaneState, IsSound}
use Rattle.pts_machine.specs.Views.{state_of}
use Rattle.pts_machine.specs.Steps.{settle}
use Rattle.pts_machine.specs.Outcomes.{seen_by}
use Rattle.pts_machine.proofs.Kept.{sound_settle, sound_by, hear_is}
use Rattle.pts_machine.proofs.Parts.{settled, next_of, not_next_of, never_past, held_hears, held_len, held_spare, kept_most, hears_as, holds_to}
use Rattle.pts_machine.proofs.lane.Lane.push.Goals as goal

pub returns-then-start-self-clause-told : goal.returns-then-start-self-clause-told
returns-then-start-self-clause-told g c = let position = ap (λ p. p.state.at) c.self.view_is in (inl (omega (arith, position, c.if-start-self.true)), refl)

pub returns-then-start-self-clause-step : goal.returns-then-start-self-clause-step
returns-then-start-self-clause-step g c = hear_is c.args.self.now.state c.args.start c.args.end c.args.event Already c.args.self.now.state (returns-then-start-self-clause-told g c)

pub push_reserved-requires : goal.push_reserved-requires
push_reserved-requires g c = let room = ap (λ p. p.spare) c.self.view_is in omega (arith, room, c.self.invariant.room, c.requires.room)

pub settle-self-inside-requires-clause-after : goal.settle-self-inside-requires-clause-after
settle-self-inside-requires-clause-after g c = λ s x e. (c.self.invariant.sound.sized s x e).0

pub invariant_of-self : goal.invariant_of-self
invariant_of-self g c =
    let i = c.self.invariant.sound in
    let e = c.settle-self-inside.ensures in
    let next = next_of c.self.inside.mode c.args.start c.self.inside.at _ c.is_next.ensures c.if-is_next.true in
    let items = c.push_reserved.ensures.items in
    let t : LaneState g.row.E.Denot = record { restart = c.self.inside.restart; events = c.push_reserved.new.self.items; at = c.args.end; held = c.self.inside.gap.held; mode = c.self.inside.mode } in
    record {
      sound = subst (IsSound g.E.Counted.count) (sym (settled t _ _ _ e.events e.reach e.held))
          (sound_settle g.E.Counted.count t (record { sized = i.sized; position = rw items (omega (arith, next.1, i.position, c.requires.counts, sum_by_push g.E.Counted.count c.self.inside.events.items c.args.event)); limit = c.requires.limit }));
      room = (let room = ap (λ p. p.spare) c.self.view_is in omega (arith, room, e.sum, e.capacity, c.self.invariant.room, c.push_reserved.ensures.len, c.push_reserved.ensures.capacity, c.requires.room));
      gap = (let room = ap (λ p. p.spare) c.self.view_is in omega (arith, room, e.spare, c.self.invariant.gap, c.requires.room));
    }

pub returns-then-is_next-clause-told : goal.returns-then-is_next-clause-told
returns-then-is_next-clause-told g c =
    let e = c.settle-self-inside.ensures in
    let next = next_of c.self.inside.mode c.args.start c.self.inside.at _ c.is_next.ensures c.if-is_next.true in
    let t : LaneState g.row.E.Denot = record { restart = c.self.inside.restart; events = c.push_reserved.new.self.items; at = c.args.end; held = c.self.inside.gap.held; mode = c.self.inside.mode } in
    let u : LaneState g.row.E.Denot = record { restart = c.self.inside.restart; events = c.settle-self-inside.new.events.items; at = c.settle-self-inside.result; held = c.settle-self-inside.new.gap.held; mode = c.self.inside.mode } in
    hears_as (state_of c.self.inside) c.args.self.now.state c.args.start c.args.end c.args.event (Applied c.settle-self-inside.result) u (ap (λ p. p.state) c.self.view_is) (
      never_past (state_of c.self.inside) c.args.start c.self.invariant.sound.ahead next,
      next,
      settled t _ _ _ e.events e.reach e.held ∙ ap (λ xs. settle (record t { events = xs })) c.push_reserved.ensures.items,
      refl,
    )

pub returns-then-is_next-clause-step : goal.returns-then-is_next-clause-step
returns-then-is_next-clause-step g c =
    hear_is c.args.self.now.state c.args.start c.args.end c.args.event (Applied c.settle-self-inside.result) _ (returns-then-is_next-clause-told g c)

pub invariant_of-self-2 : goal.invariant_of-self-2
invariant_of-self-2 g c =
    let no_next = not_next_of c.self.inside.mode c.args.start c.self.inside.at _ c.is_next.ensures c.if-is_next.false in
    let to : c.args.start + c.count.result ≡ c.args.end = omega (arith, c.requires.counts, c.count.ensures.value) in
    let after : c.args.start < c.args.end = omega (arith, to, c.count.ensures.some) in
    let holds = holds_to c.self.inside.gap c.hold-held.new.self c.args.start _ c.args.end c.args.event c.hold-held.result to c.hold-held.ensures in
    let room = ap (λ p. p.spare) c.self.view_is in
    let most = kept_most c.hold-held.result 1 in
    record {
      sound = sound_by g.E.Counted.count (state_of c.self.inside) c.args.start c.args.end c.args.event (seen_by c.hold-held.result) _ c.self.invariant.sound after c.requires.counts c.requires.limit
          (held_hears (state_of c.self.inside) c.args.start c.args.end c.args.event c.self.inside.gap c.hold-held.new.self c.hold-held.result no_next c.if-start-self.false holds);
      room = omega (arith, room, held_len _ _ _ _ _ _ holds, c.self.invariant.room, c.requires.room, c.outcome_of-seen.ensures.number, most);
      gap = omega (arith, room, held_spare _ _ _ _ _ _ 1 (omega arith) holds, c.self.invariant.gap, c.requires.room, c.outcome_of-seen.ensures.number, most);
    }

pub returns-clause-told : goal.returns-clause-told
returns-clause-told g c =
    let no_next = not_next_of c.self.inside.mode c.args.start c.self.inside.at _ c.is_next.ensures c.if-is_next.false in
    let to : c.args.start + c.count.result ≡ c.args.end = omega (arith, c.requires.counts, c.count.ensures.value) in
    let holds = holds_to c.self.inside.gap c.hold-held.new.self c.args.start _ c.args.end c.args.event c.hold-held.result to c.hold-held.ensures in
    rw c.outcome_of-seen.ensures.seen (hears_as (state_of c.self.inside) c.args.self.now.state c.args.start c.args.end c.args.event (seen_by c.hold-held.result) (record (state_of c.self.inside) { held = c.hold-held.new.self.held }) (ap (λ p. p.state) c.self.view_is)
    (held_hears (state_of c.self.inside) c.args.start c.args.end c.args.event c.self.inside.gap c.hold-held.new.self c.hold-held.result no_next c.if-start-self.false holds))

pub returns-clause-step : goal.returns-clause-step
returns-clause-step g c = hear_is c.args.self.now.state c.args.start c.args.end c.args.event c.outcome_of-seen.result.0 _ (returns-clause-told g c)

pub returns-clause-spare : goal.returns-clause-spare
returns-clause-spare g c =
    let room = ap (λ p. p.spare) c.self.view_is in
    omega (arith, room, c.requires.room, c.outcome_of-seen.ensures.number, kept_most c.hold-held.result 1)
