use Rattle.std.proofs.Common.{arith, refl, sym, ap, ◌∙◌}
use Rattle.std.proofs.lemmas.Option.{none-some}
use Rattle.pts_machine.proofs.Rises.{none_held, is_held, count_of, put_at, rising_put, map_put}
use Rattle.pts_machine.proofs.gap.Gap.hold.Goals as goal

pub returns-in-Ok : goal.returns-in-Ok
returns-in-Ok g c =
    let index = c.in-Ok.ensures.index in
    let some = is_held c.self.inside.items.items c.args.start c.in-Ok.field-0 c.args.self.now.held (c.args.start, (c.args.end, c.args.item)) c.self.invariant.rising (ap (λ p. p.held) c.self.view_is) index in
    (λ none. none-some _ (sym none ∙ some), refl, refl)

pub returns-then-len-ge-MOST : goal.returns-then-len-ge-MOST
returns-then-len-ge-MOST g c =
    let seen = ap (λ p. p.held) c.self.view_is in
    let index = c.in-Err.ensures.index in
    let count = count_of c.self.inside.items.items c.args.self.now.held c.self.invariant.rising seen in
    let few = c.self.invariant.few in
    (none_held c.self.inside.items.items c.args.start c.in-Err.i c.args.self.now.held c.self.invariant.rising seen index, omega arith, refl, refl)

pub invariant_of-self : goal.invariant_of-self
invariant_of-self g c =
    let index = c.in-Err.ensures.index in
    record {
      rising = rising_put c.self.inside.items.items _ c.args.start (c.args.end, c.args.item) c.self.invariant.rising (c.in-Ok-insert.ensures.items ∙ put_at c.self.inside.items.items c.args.start c.in-Err.i _ index);
      few = omega (arith, c.in-Ok-insert.ensures.len, c.self.inside.items.ok.0, c.insert.new.self.ok.0, c.if-len-ge-MOST.false, c.len.ensures);
      room = omega (arith, c.self.invariant.room, c.in-Ok-insert.ensures.len, c.in-Ok-insert.ensures.capacity, c.requires.room, ap (λ p. p.spare) c.self.view_is);
    }

pub returns : goal.returns
returns g c =
    let seen = ap (λ p. p.held) c.self.view_is in
    let index = c.in-Err.ensures.index in
    let count = count_of c.self.inside.items.items c.args.self.now.held c.self.invariant.rising seen in
    let room = ap (λ p. p.spare) c.self.view_is in (
      none_held c.self.inside.items.items c.args.start c.in-Err.i c.args.self.now.held c.self.invariant.rising seen index,
      omega (arith, count),
      map_put c.self.inside.items.items _ c.args.start (c.args.end, c.args.item) c.args.self.now.held c.self.invariant.rising (c.in-Ok-insert.ensures.items ∙ put_at c.self.inside.items.items c.args.start c.in-Err.i _ index) seen,
      omega (arith, room),
    )
