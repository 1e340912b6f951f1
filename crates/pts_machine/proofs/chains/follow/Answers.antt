use Rattle.std.proofs.Common.{◌≡◌, length, None, arith, sym, ap, ◌∙◌, subst}
use Rattle.std.specs.FinMap.{get, len}
use Rattle.pts_machine.proofs.Maps.{above_remove, len_some, len_taken, len_untaken, get_untaken, untaken}
use Rattle.pts_machine.specs.Takings.{InTurn}
use Rattle.pts_machine.specs.Takings.InTurn.{one_more}
use Rattle.pts_machine.proofs.Links.{chain_step, reach_step, chain_ends, reach_ends, after_remove}
use Rattle.pts_machine.proofs.chains.follow.Goals as goal

pub items-smaller : goal.items-smaller
items-smaller g c =
    let is = sym c.in-Some.ensures.value in
    rw c.in-Some.ensures.rest (omega (arith, len_some _ c.items.at _ is, len_taken _ c.items.at _ is))

pub take_in-requires : goal.take_in-requires
take_in-requires g c = record { room = (c.items.gap.held, c.items.at, _, sym c.in-Some.ensures.value, c.items.invariant.room) }

pub items-preserved : goal.items-preserved
items-preserved g c =
    let is = sym c.in-Some.ensures.value in
    let i = c.items.invariant in
    let step = chain_step c.items.at _ _ i.after is in
    record {
      after = rw c.in-Some.ensures.rest (after_remove _ c.items.at i.after);
      room = rw c.in-Some.ensures.rest (c.take_in.ensures.room c.items.gap.held c.items.at _ is i.room);
      took = λ z more. i.took z (rw step (one_more _ _ _ _ _ c.take_in.ensures.took (rw c.in-Some.ensures.rest at more)));
      reach = rw c.in-Some.ensures.rest (sym (reach_step c.items.at _ _ i.after is) ∙ i.reach);
      held = λ q le. let past = i.after c.items.at _ is in rw c.in-Some.ensures.rest (sym (above_remove _ c.items.at q (omega (arith, past, le))) ∙ i.held q (omega (arith, past, le)));
      number = rw c.in-Some.ensures.rest (omega (arith, len_some _ c.items.at _ is, len_taken _ c.items.at _ is, i.number, ap length step));
      spare = omega (arith, i.spare, c.in-Some.ensures.spare);
    }

pub returns-clause-took : goal.returns-clause-took
returns-clause-took g c =
    let none : get c.items.gap.held c.items.at ≡ None = sym c.take.ensures.value ∙ c.in_default.is in
    c.items.invariant.took c.items.into (rw (chain_ends (len c.items.gap.held) c.items.at c.items.gap.held none) (InTurn.none c.items.into))

pub returns-clause-room : goal.returns-clause-room
returns-clause-room g c =
    let none : get c.items.gap.held c.items.at ≡ None = sym c.take.ensures.value ∙ c.in_default.is in
    subst (λ m. g.T.Takes.has_room c.items.into m) (untaken c.items.gap.held c.items.at none ∙ sym c.take.ensures.rest) c.items.invariant.room

pub returns-clause-reach : goal.returns-clause-reach
returns-clause-reach g c =
    let none : get c.items.gap.held c.items.at ≡ None = sym c.take.ensures.value ∙ c.in_default.is in
    sym (reach_ends (len c.items.gap.held) c.items.at c.items.gap.held none) ∙ c.items.invariant.reach

pub returns-clause-held : goal.returns-clause-held
returns-clause-held g c = λ q le.
    let none : get c.items.gap.held c.items.at ≡ None = sym c.take.ensures.value ∙ c.in_default.is in
    rw c.take.ensures.rest (get_untaken _ c.items.at q none ∙ c.items.invariant.held q le)

pub returns-clause-free : goal.returns-clause-free
returns-clause-free g c =
    let none : get c.items.gap.held c.items.at ≡ None = sym c.take.ensures.value ∙ c.in_default.is in
    sym (c.items.invariant.held c.items.at (omega arith)) ∙ none

pub returns-clause-number : goal.returns-clause-number
returns-clause-number g c =
    let none : get c.items.gap.held c.items.at ≡ None = sym c.take.ensures.value ∙ c.in_default.is in
    rw c.take.ensures.rest (omega (arith, len_untaken _ c.items.at none, c.items.invariant.number, ap length (chain_ends (len c.items.gap.held) c.items.at c.items.gap.held none)))
