use Rattle.std.proofs.Common.{sym, ap, ◌∙◌, subst, arith}
use Rattle.std.specs.FinMap.{len}
use Rattle.pts_machine.specs.Chains.{chain}
use Rattle.pts_machine.specs.Packs.{puts_all}
use Rattle.pts_machine.specs.SeqStates.{overlaid, IsSoundState}
use Rattle.pts_machine.specs.SeqViews.{state_of}
use Rattle.pts_machine.specs.Latest.{IsLatestState, IsSince}
use Rattle.pts_machine.proofs.Stays.{latest_over}
use Rattle.pts_machine.proofs.Growing.{within_of}
use Rattle.pts_machine.proofs.Dates.{since_over}
use Rattle.pts_machine.proofs.Stores.{len_puts}
use Rattle.pts_machine.proofs.StateSteps.{overlaid_is, sound_overlaid}
use Rattle.pts_machine.proofs.settings.Settings.overlay.Goals as goal

pub settle-self-inside-requires-clause-after : goal.settle-self-inside-requires-clause-after
settle-self-inside-requires-clause-after c = λ s x e. (c.self.invariant.sound.sized s x e).0

pub invariant_of-self : goal.invariant_of-self
invariant_of-self c =
    let e = c.settle-self-inside.ensures in
    let room = ap (λ p. p.spare) c.self.view_is in
    record {
      sound = subst IsSoundState (sym (overlaid_is (state_of c.self.inside) c.args.pack.items c.args.seq c.args.date _ _ _ _
          (e.values ∙ ap (λ m. puts_all m (chain (len c.self.inside.gap.held) c.args.seq c.self.inside.gap.held)) c.put_all.ensures.values) e.date e.reach e.held))
          (sound_overlaid (state_of c.self.inside) c.args.pack.items c.args.seq c.args.date c.self.invariant.sound);
      total = e.total;
      table = omega (arith, room, e.room, c.self.invariant.table, c.put_all.ensures.spare, c.requires.room, c.len-number.ensures);
      gap = omega (arith, room, e.spare, c.self.invariant.gap, c.requires.room, c.len-number.ensures);
      few = omega (arith, room, e.few, c.self.invariant.few, c.requires.room, c.len-number.ensures, ap len c.put_all.ensures.values, len_puts c.self.inside.store.table.values c.args.pack.items, c.args.pack.ok.0);
    }

pub returns-clause-step : goal.returns-clause-step
returns-clause-step c =
    let e = c.settle-self-inside.ensures in
    overlaid_is (state_of c.self.inside) c.args.pack.items c.args.seq c.args.date _ _ _ _
    (e.values ∙ ap (λ m. puts_all m (chain (len c.self.inside.gap.held) c.args.seq c.self.inside.gap.held)) c.put_all.ensures.values) e.date e.reach e.held
    ∙ ap (λ p. overlaid p.state c.args.pack.items c.args.seq c.args.date) c.self.view_is

pub returns-clause-latest : goal.returns-clause-latest
returns-clause-latest c = λ L h late over.
    subst (IsLatestState L) (sym (returns-clause-step c)) (latest_over L c.args.self.now.state c.args.pack.items c.args.seq c.args.date h c.requires.order late over)

pub returns-clause-since : goal.returns-clause-since
returns-clause-since c = λ L rise h since.
    let state = ap (λ p. p.state) c.self.view_is in
    let sound = subst IsSoundState state c.self.invariant.sound in
    subst (IsSince L) (sym (returns-clause-step c)) (since_over L c.args.self.now.state c.args.pack.items c.args.seq c.args.date rise h.held (within_of L c.args.self.now.state sound h.held) since)
