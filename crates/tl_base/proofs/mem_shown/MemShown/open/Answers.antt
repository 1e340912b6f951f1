use Rattle.std.proofs.Common.{sym, ap, ◌∙◌, subst, length, arith}
use Rattle.tl_base.specs.Outside.{Left}
use Rattle.tl_base.specs.MemoryContents.{lefts, AreOpenIn}
use Rattle.tl_base.specs.MemoryShown.{view_of}
use Rattle.tl_base.proofs.Opened.{found_at, found_below, not_found, lefts_set, open_set}
use Rattle.tl_base.proofs.mem_shown.MemShown.open.Goals as goal

pub invariant_of-self : goal.invariant_of-self
invariant_of-self c =
    let s = c.args.self.now in
    let e = rw c.deref.ensures.value at c.in-Some.ensures in
    let below = found_below c.in-Some.index s.files.items c.args.name.now (sym e) in
    record {
      output_room = s.output_room;
      errors_room = s.errors_room;
      state_room = s.state_room;
      unlinked_room = s.unlinked_room;
      name_room = s.name_room;
      address_room = s.address_room;
      link_room = s.link_room;
      taken_there = s.taken_there;
      opened = subst (AreOpenIn (length s.files.items) (length s.links.items)) (sym c.set.ensures) (open_set c.args.slot _ _ _ s.readings (omega (arith, below), omega arith) s.opened);
      moments_fit = s.moments_fit;
      told_there = s.told_there;
    }

pub returns-in-Some-clause-view : goal.returns-in-Some-clause-view
returns-in-Some-clause-view c =
    let s = c.args.self.now in
    let e = rw c.deref.ensures.value at c.in-Some.ensures in (
      _,
      found_at c.in-Some.index s.files.items c.args.name.now (sym e),
      ap (λ (l : Left). record (view_of s) { left = l }) (ap (lefts s.files.items s.links.items) c.set.ensures ∙ lefts_set c.args.slot s.files.items s.links.items _ s.readings),
    )

pub returns-in-None-clause-none : goal.returns-in-None-clause-none
returns-in-None-clause-none c =
    let e = rw c.deref.ensures.value at c.in-None.ensures in
    λ _ has. not_found 0 c.args.self.now.files.items c.args.name.now has.0 (sym e) has.1
