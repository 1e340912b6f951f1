-- What holds of a box after it took memory, and after its first events went.
use Rattle.std.proofs.Common.{◌≡◌, ℕ, ◌+◌, ◌-◌, ◌*◌, ◌<◌, ◌≤◌, List, [], ◌∷◌, ◌++◌, length, take, drop, vec_len, vec_capacity, Result, Ok, Err, OnErr, sym, ap, ◌∙◌, subst, arith}
use Rattle.std.proofs.lemmas.List.{length-drop}
use Rattle.box_events.specs.declared.limits.TheConstants.{PAGE_EVENTS}
use Rattle.box_events.specs.declared.event_box.EventBox.TheInside.{Inside}
use Rattle.box_events.specs.Boxes.{ending, AreCounted}
use Rattle.box_events.specs.BoxViews.{BoxView, KeepsLast}
use Rattle.box_events.specs.inner.Chains.{joined, AreChained, AreFresh, IsLeft}
use Rattle.box_events.specs.inner.Insides.{pages_of, box_view, IsBox}
use Rattle.box_events.proofs.RunningEnds.{sum_taken, counted_drop}
use Rattle.box_events.proofs.PageChains.{joined_same, chained_last}

pub same_events : (old new : Inside) → new.pages.items ≡ old.pages.items → new.last.events ≡ old.last.events → joined (pages_of new) ≡ joined (pages_of old)
same_events old new pages events = ap (λ (l : List BoxView). joined (l ++ new.last ∷ [])) pages ∙ joined_same old.pages.items old.last new.last events

pub stays_box : (old new : Inside) → IsBox old → new.first ≡ old.first → new.end ≡ old.end → new.len ≡ old.len → new.pages.items ≡ old.pages.items → new.last.first ≡ old.last.first → new.last.events ≡ old.last.events
    → AreFresh new.spares.items → new.spare ≤ new.last.spare + PAGE_EVENTS * length new.spares.items → vec_len new.pages + vec_len new.spares ≤ vec_capacity new.pages → IsBox new
stays_box old new i first end len pages begin events fresh room slots =
    let same = same_events old new pages events in
    let chained : AreChained old.first (pages_of new) = subst (λ (l : List BoxView). AreChained old.first (l ++ new.last ∷ [])) (sym pages) (chained_last old.first old.pages.items old.last new.last i.chained begin) in
    record {
      stop = omega (arith, i.stop, first, end, ap ending same);
      limit = omega (arith, i.limit, end);
      counted = subst AreCounted (sym same) i.counted;
      number = omega (arith, i.number, len, ap length same);
      chained = subst (λ (p : ℕ). AreChained p (pages_of new)) (sym first) chained;
      fresh = fresh;
      room = room;
      slots = slots;
    }

pub same_view : (a b : BoxView) → a.first ≡ b.first → a.events ≡ b.events → a.spare ≡ b.spare → a ≡ b
same_view a b first events spare = λ i. record { first = first i; events = events i; spare = spare i }

pub left_box : (old new : Inside) (n : ℕ) → IsBox old → n < old.len → IsLeft old.first (pages_of old) (old.len - n) new.first (pages_of new) → new.end ≡ old.end → new.len ≡ n
    → AreFresh new.spares.items → new.spare ≤ new.last.spare + PAGE_EVENTS * length new.spares.items → vec_len new.pages + vec_len new.spares ≤ vec_capacity new.pages → IsBox new
left_box old new n i few left end len fresh room slots =
    let all = joined (pages_of old) in
    record {
      stop = omega (arith, i.stop, end, left.begin, ap ending left.events, sum_taken (old.len - n) all);
      limit = omega (arith, i.limit, end);
      counted = subst AreCounted (sym left.events) (counted_drop (old.len - n) all i.counted);
      number = omega (arith, few, i.number, len, ap length left.events, length-drop (old.len - n) all);
      chained = left.chained;
      fresh = fresh;
      room = room;
      slots = slots;
    }

pub keeps_last : (old : Inside) (new : BoxView) (n : ℕ) (pages : List BoxView) → IsBox old → IsLeft old.first (pages_of old) (old.len - n) new.first pages → new.events ≡ joined pages → new.spare ≡ old.spare → KeepsLast (box_view old) new n
keeps_last old new n pages i left events spare =
    let all = joined (pages_of old) in
    let number : old.len - n ≡ length all - n = omega (arith, i.number) in
    record {
      events = events ∙ left.events ∙ ap (λ (m : ℕ). drop m all) number;
      first = left.begin ∙ ap (λ (m : ℕ). old.first + ending (take m all)) number;
      stop = omega (arith, left.begin, ap ending events, ap ending left.events, sum_taken (old.len - n) all);
      spare = omega (arith, spare);
    }

-- what holds after any error
pub on_err : {X Y : Type 0} (r : Result X Y) (P : Type 0) → P → OnErr r P
on_err (Ok x) P p = tt
on_err (Err y) P p = p
