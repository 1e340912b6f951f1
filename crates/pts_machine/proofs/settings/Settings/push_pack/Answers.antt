use Rattle.std.proofs.Common.{◌≡◌, ◌-◌, ◌<◌, refl, sym, ap, ◌∙◌, subst, arith, inl}
use Rattle.pts_machine.specs.Holding.{Holds}
use Rattle.pts_machine.specs.declared.seen.Seen.TheVariants.{Applied, Already}
use Rattle.pts_machine.specs.Outcomes.{seen_by, kept_by}
use Rattle.pts_machine.proofs.Parts.{next_of, not_next_of, held_hears, held_spare, kept_most}
use Rattle.pts_machine.specs.Packs.{Pack, pack_of}
use Rattle.pts_machine.specs.SeqStates.{hear_pack, overlaid, lane_of, IsSoundState}
use Rattle.pts_machine.specs.SeqViews.{state_of}
use Rattle.pts_machine.specs.Latest.{IsLatestState, IsSince}
use Rattle.pts_machine.proofs.Stays.{latest_hear}
use Rattle.pts_machine.proofs.Growing.{within_of, ends_within}
use Rattle.pts_machine.proofs.Dates.{since_hear}
use Rattle.pts_machine.proofs.Sums.{held_total}
use Rattle.pts_machine.proofs.StateSteps.{heard_pack, heard_next, sound_heard}
use Rattle.pts_machine.proofs.settings.Settings.push_pack.Goals as goal

pub returns-then-start-self-clause-step : goal.returns-then-start-self-clause-step
returns-then-start-self-clause-step c =
    let place = ap (λ p. p.state.at) c.self.view_is in
    heard_pack c.args.self.now.state (c.args.seq_start - 1) c.args.seq (pack_of c.args.date c.args.pack.items) Already (lane_of c.args.self.now.state) (inl (omega (arith, place, c.if-start-self.true)), refl)

pub returns-then-is_next-clause-step : goal.returns-then-is_next-clause-step
returns-then-is_next-clause-step c =
    let b = state_of c.self.inside in
    let p : Pack = pack_of c.args.date c.args.pack.items in
    let seen : b ≡ c.args.self.now.state = ap (λ q. q.state) c.self.view_is in
    let next = next_of c.self.inside.mode (c.args.seq_start - 1) c.self.inside.at _ c.is_next.ensures c.if-is_next.true in
    let new : c.overlay.new.self.state ≡ overlaid b c.args.pack.items c.args.seq c.args.date = c.overlay.ensures.step ∙ ap (λ u. overlaid u c.args.pack.items c.args.seq c.args.date) (sym seen) in
    ap (λ u. hear_pack u (c.args.seq_start - 1) c.args.seq p) (sym seen)
    ∙ heard_next b (c.args.seq_start - 1) c.args.seq p c.self.invariant.sound next.0 next.1
    ∙ ap (λ v. record { state = v; seen = Applied v.at }) (sym new)
    ∙ ap (λ n. record { state = c.overlay.new.self.state; seen = Applied n }) (sym (ap (λ q. q.state.at) c.self-then-is_next.view_is))

pub overflow_add-self : goal.overflow_add-self
overflow_add-self c =
    let room = ap (λ p. p.spare) c.self.view_is in
    omega (arith, room, c.self.invariant.few, c.requires.room, c.len-number.ensures, c.outcome_of-seen.ensures.number, kept_most c.hold-held.result c.len-number.result)

pub invariant_of-self : goal.invariant_of-self
invariant_of-self c =
    let b = state_of c.self.inside in
    let room = ap (λ p. p.spare) c.self.view_is in
    let p : Pack = pack_of c.args.date c.args.pack.items in
    let r = c.hold-held.result in
    let no_next = not_next_of c.self.inside.mode (c.args.seq_start - 1) c.self.inside.at _ c.is_next.ensures c.if-is_next.false in
    let holds : Holds c.self.inside.gap c.hold-held.new.self (c.args.seq_start - 1) c.args.seq p r = rw c.new.ensures at c.hold-held.ensures in
    let most = kept_most r c.len-number.result in
    record {
      sound = sound_heard b (c.args.seq_start - 1) c.args.seq p (seen_by r) _ c.self.invariant.sound (omega (arith, c.requires.low, c.requires.order)) (omega (arith, c.requires.number, c.args.pack.ok.0, c.requires.low)) c.requires.limit
          (held_hears (lane_of b) (c.args.seq_start - 1) c.args.seq p c.self.inside.gap c.hold-held.new.self r no_next c.if-start-self.false holds);
      total = omega (arith, held_total _ _ _ _ p _ holds, ap (kept_by r) (c.len-number.ensures ∙ c.args.pack.ok.0), c.self.invariant.total, c.outcome_of-seen.ensures.number);
      table = omega (arith, room, c.self.invariant.table, most, c.requires.room, c.len-number.ensures, c.outcome_of-seen.ensures.number);
      gap = omega (arith, room, c.self.invariant.gap, held_spare _ _ _ _ p _ c.len-number.result (omega (arith, c.len-number.ensures, c.requires.number, c.requires.order)) holds, c.outcome_of-seen.ensures.number);
      few = omega (arith, room, c.self.invariant.few, most, c.requires.room, c.len-number.ensures, c.outcome_of-seen.ensures.number);
    }

pub returns-clause-step : goal.returns-clause-step
returns-clause-step c =
    let b = state_of c.self.inside in
    let p : Pack = pack_of c.args.date c.args.pack.items in
    let r = c.hold-held.result in
    let no_next = not_next_of c.self.inside.mode (c.args.seq_start - 1) c.self.inside.at _ c.is_next.ensures c.if-is_next.false in
    let holds : Holds c.self.inside.gap c.hold-held.new.self (c.args.seq_start - 1) c.args.seq p r = rw c.new.ensures at c.hold-held.ensures in
    ap (λ u. hear_pack u (c.args.seq_start - 1) c.args.seq p) (sym (ap (λ q. q.state) c.self.view_is))
    ∙ heard_pack b (c.args.seq_start - 1) c.args.seq p c.outcome_of-seen.result.0 (record (lane_of b) { held = c.hold-held.new.self.held })
    (rw c.outcome_of-seen.ensures.seen (held_hears (lane_of b) (c.args.seq_start - 1) c.args.seq p c.self.inside.gap c.hold-held.new.self r no_next c.if-start-self.false holds))

pub returns-then-is_next-clause-latest : goal.returns-then-is_next-clause-latest
returns-then-is_next-clause-latest c = λ L h is.
    subst (IsLatestState L) (ap (λ x. x.state) (returns-then-is_next-clause-step c)) (latest_hear L c.args.self.now.state (c.args.seq_start - 1) c.args.seq (pack_of c.args.date c.args.pack.items) h is)

pub returns-clause-latest : goal.returns-clause-latest
returns-clause-latest c = λ L h is.
    subst (IsLatestState L) (ap (λ x. x.state) (returns-clause-step c)) (latest_hear L c.args.self.now.state (c.args.seq_start - 1) c.args.seq (pack_of c.args.date c.args.pack.items) h is)

pub returns-then-is_next-clause-since : goal.returns-then-is_next-clause-since
returns-then-is_next-clause-since c = λ L rise h is since.
    let sound = subst IsSoundState (ap (λ p. p.state) c.self.view_is) c.self.invariant.sound in
    let lt : c.args.seq_start - 1 < c.args.seq = omega (arith, c.requires.low, c.requires.order) in
    let within = ends_within L (c.args.seq_start - 1) c.args.seq (pack_of c.args.date c.args.pack.items) lt (omega (arith, c.requires.number, c.args.pack.ok.0, c.requires.low)) is in
    subst (IsSince L) (ap (λ x. x.state) (returns-then-is_next-clause-step c))
    (since_hear L c.args.self.now.state (c.args.seq_start - 1) c.args.seq (pack_of c.args.date c.args.pack.items) rise h.held (within_of L c.args.self.now.state sound h.held) lt within is since)

pub returns-clause-since : goal.returns-clause-since
returns-clause-since c = λ L rise h is since.
    let sound = subst IsSoundState (ap (λ p. p.state) c.self.view_is) c.self.invariant.sound in
    let lt : c.args.seq_start - 1 < c.args.seq = omega (arith, c.requires.low, c.requires.order) in
    let within = ends_within L (c.args.seq_start - 1) c.args.seq (pack_of c.args.date c.args.pack.items) lt (omega (arith, c.requires.number, c.args.pack.ok.0, c.requires.low)) is in
    subst (IsSince L) (ap (λ x. x.state) (returns-clause-step c))
    (since_hear L c.args.self.now.state (c.args.seq_start - 1) c.args.seq (pack_of c.args.date c.args.pack.items) rise h.held (within_of L c.args.self.now.state sound h.held) lt within is since)
