use Rattle.std.proofs.Common.{◌≡◌, ◌+◌, ◌++◌, refl, sym, ap, ◌∙◌, arith, append_assoc, append-nil}
use Rattle.std.specs.List.{sum_by}
use Rattle.std.proofs.lemmas.List.{nil_from_length}
use Rattle.std.proofs.lemmas.List.Sums.{sum_by-cons}
use Rattle.pts_machine.proofs.stretches.append.Goals as goal

pub loop-event-init : goal.loop-event-init
loop-event-init g c = let is = c.into_iter-event-iterator.ensures.into_iter_gives.0 in record {
  all = rw is refl;
  sum = rw is refl;
  len = omega (arith, c.into_iter-event-iterator.ensures.into_iter_gives.1);
  capacity = omega arith;
}

pub overflow_add-at : goal.overflow_add-at
overflow_add-at g c =
    let some : sum_by g.E.Counted.count c.loop-event.event-iterator.rest.items ≡ g.E.Counted.count c.in-Some.event + sum_by g.E.Counted.count c.next.new.self.rest.items = ap (sum_by g.E.Counted.count) c.in-Some.ensures.steps.0 ∙ sum_by-cons g.E.Counted.count c.in-Some.event c.next.new.self.rest.items in
    omega (arith, some, c.loop-event.invariant.sum, c.requires.limit, c.count-at.ensures.value)

pub loop-event-preserved : goal.loop-event-preserved
loop-event-preserved g c =
    let is = c.in-Some.ensures.steps.0 in
    let i = c.loop-event.invariant in
    let some : sum_by g.E.Counted.count c.loop-event.event-iterator.rest.items ≡ g.E.Counted.count c.in-Some.event + sum_by g.E.Counted.count c.next.new.self.rest.items = ap (sum_by g.E.Counted.count) is ∙ sum_by-cons g.E.Counted.count c.in-Some.event c.next.new.self.rest.items in
    record {
      all = rw c.push_reserved.ensures.items (simp append_assoc (ap (λ xs. c.loop-event.into.items ++ xs) (sym is) ∙ i.all));
      sum = omega (arith, some, i.sum, c.count-at.ensures.value);
      len = omega (arith, i.len, c.in-Some.ensures.steps.1, c.push_reserved.ensures.len);
      capacity = omega (arith, i.capacity, c.push_reserved.ensures.capacity);
    }

pub push_reserved-requires : goal.push_reserved-requires
push_reserved-requires g c =
    let is = c.in-Some.ensures.steps.0 in
    omega (arith, c.loop-event.invariant.len, c.loop-event.invariant.capacity, c.in-Some.ensures.steps.1, c.requires.room)

pub returns : goal.returns
returns g c =
    let i = c.loop-event.invariant in
    let none = nil_from_length c.loop-event.event-iterator.rest.items (sym c.loop-event.event-iterator.rest.ok.0 ∙ c.in-None.ensures.steps.0) in
    record {
      items = sym (append-nil c.loop-event.into.items) ∙ ap (λ xs. c.loop-event.into.items ++ xs) (sym none) ∙ i.all;
      sum = (let zero : sum_by g.E.Counted.count c.loop-event.event-iterator.rest.items ≡ 0 = rw none refl in omega (arith, zero, i.sum));
      len = omega (arith, i.len, c.in-None.ensures.steps.0);
      capacity = i.capacity;
    }
