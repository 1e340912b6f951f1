-- What is carried, event by event.
use Rattle.std.proofs.Common.{◌≡◌, ◌≢◌, ℕ, zero, suc, ◌+◌, ◌-◌, ◌<◌, ◌≤◌, List, [], ◌∷◌, ◌++◌, Bool, true, false, Some, None, leb, if◌then◌else◌, refl, sym, ap, ◌∙◌, subst, arith, append_assoc, append-nil, length, length-append, eqb, nat_eq, map, reverse, drop, drop-cons, slice_index_or, Bor}
use mathlib.Core.List.{reverse-cons}
use Rattle.std.proofs.lemmas.List.{map-append}
use Rattle.std.proofs.lemmas.Bool.Decides.{nat_tests}
use Rattle.box_events.specs.declared.limits.TheConstants.{RUN_EVENTS, RUN_BYTES, RECENT_EVENTS, RECENT_BYTES}
use Rattle.box_events.specs.Events.{EventView, count_of, is_new, body_of}
use Rattle.box_events.specs.Boxes.{ending, AreCounted}
use Rattle.box_events.specs.BoxViews.{BoxView, end_of, IsBoundaryOf}
use Rattle.box_events.specs.Finding.{EventAt}
use Rattle.box_events.proofs.Boundaries.{ending-append}
use Rattle.box_events.proofs.Stretches.{counted_left, counted_right, same_cut}
use Rattle.box_events.specs.PartsView.{PartsView}
use Rattle.box_events.specs.Weaving.{bodies}
use Rattle.box_server.specs.Entries.{bytes_of}
use Rattle.box_server.specs.Runs.{events_after, limited, run_of, last_bodies}
use Rattle.box_server.specs.Answers.{is_whole}
use Rattle.box_server.specs.inner.Carrying.{after_of, Fills}
use Rattle.box_server.proofs.AfterNumbers.{after_prefix, prefix_before, none_after, none_some, is_le, le_is}

-- a number of a box: these events end there, and the others follow
pub record Stands (b : BoxView) (at : ℕ) (rest : List EventView) : Type 0 where
  pub prefix : List EventView
  pub whole : b.events ≡ prefix ++ rest
  pub place : at ≡ b.first + ending prefix

-- the event that is found there is the next
pub next_is : (b : BoxView) (at : ℕ) (rest : List EventView) (e : EventView) → AreCounted b.events → Stands b at rest → EventAt b at (Some e) → (more : List EventView) × (rest ≡ e ∷ more)
next_is b at rest e c s found =
    let from = found.0 in
    let t = found.2 in
    let cut = same_cut t.prefix (e ∷ t.rest) s.prefix rest (counted_left t.prefix (e ∷ t.rest) (subst AreCounted t.whole c)) (counted_left s.prefix rest (subst AreCounted s.whole c)) (sym t.whole ∙ s.whole) (omega (arith, t.start, s.place, from)) in
    (t.rest, sym cut.1)

pub stands_next : (b : BoxView) (at : ℕ) (e : EventView) (more : List EventView) → Stands b at (e ∷ more) → Stands b (at + count_of e) more
stands_next b at e more s = record {
  prefix = s.prefix ++ e ∷ [];
  whole = s.whole ∙ sym (append_assoc s.prefix (e ∷ []) more);
  place = omega (arith, s.place, ending-append s.prefix (e ∷ []));
}

-- where none is found, none follows
pub none_next : (b : BoxView) (at : ℕ) (rest : List EventView) → Stands b at rest → EventAt b at None → rest ≡ []
none_next b at [] s none = refl
none_next b at (e ∷ more) s none = absurd (none e (
  omega (arith, s.place),
  omega arith,
  record {
    prefix = s.prefix;
    rest = more;
    whole = s.whole;
    start = omega (arith, s.place);
    stop = omega (arith, s.place, ending-append s.prefix (e ∷ []));
  },
))

-- it ends within the box
pub next_ends : (b : BoxView) (at : ℕ) (e : EventView) (more : List EventView) → Stands b at (e ∷ more) → at + count_of e ≤ end_of b
next_ends b at e more s =
    let all : ending b.events ≡ ending s.prefix + (count_of e + ending more) = ap ending s.whole ∙ ending-append s.prefix (e ∷ more) in
    omega (arith, all, s.place)

pub stands_boundary : (b : BoxView) (at : ℕ) (x : IsBoundaryOf b at) → Stands b at x.1.rest
stands_boundary b at x = let from = x.0 in record { prefix = x.1.prefix; whole = x.1.whole; place = omega (arith, from, x.1.stop) }

pub after_stands : (b : BoxView) (at : ℕ) (rest : List EventView) → AreCounted b.events → Stands b at rest → after_of b at ≡ Some rest
after_stands b at rest c s =
    let past : at - b.first ≡ ending s.prefix = omega (arith, s.place) in
    ap (λ (t : Bool). if t then events_after b.events (at - b.first) else None) (is_le b.first at (omega (arith, s.place)))
    ∙ ap (events_after b.events) past
    ∙ ap (λ (l : List EventView). events_after l (ending s.prefix)) s.whole
    ∙ after_prefix s.prefix rest (counted_left s.prefix rest (subst AreCounted s.whole c))

pub after_none : (b : BoxView) (at : ℕ) → (IsBoundaryOf b at → ⊥) → after_of b at ≡ None
after_none b at none = elim (leb b.first at) as (λ (t : Bool). leb b.first at ≡ t → (if t then events_after b.events (at - b.first) else None) ≡ None) [
  | true ↦ λ is. none_after b.events (at - b.first) (λ x. none (let le : b.first ≤ at = grind (arith, nat_tests) in le, x))
  | false ↦ λ is. refl
] refl

-- ---- the run

-- with n more events of so many bytes the parts are the run
pub record Filling (b : BoxView) (from : ℕ) (parts : PartsView) (at n left : ℕ) : Type 0 where
  pub rest : List EventView
  pub begin : parts.from ≡ from
  pub stands : Stands b at rest
  pub after : after_of b from ≡ Some (parts.events ++ rest)
  pub stop : at ≡ from + ending parts.events
  pub run : parts.events ++ limited bytes_of n left rest ≡ run_of (parts.events ++ rest)

pub filling_none : (b : BoxView) (from : ℕ) (parts : PartsView) → AreCounted b.events → IsBoundaryOf b from → parts.from ≡ from → parts.events ≡ [] → Filling b from parts from RUN_EVENTS RUN_BYTES
filling_none b from parts c x begin none =
    let s = stands_boundary b from x in
    record {
      rest = x.1.rest;
      begin = begin;
      stands = s;
      after = after_stands b from x.1.rest c s ∙ ap (λ (l : List EventView). Some (l ++ x.1.rest)) (sym none);
      stop = omega (arith, ap ending none);
      run = ap (λ (l : List EventView). l ++ limited bytes_of RUN_EVENTS RUN_BYTES x.1.rest) none ∙ ap (λ (l : List EventView). run_of (l ++ x.1.rest)) (sym none);
    }

limited_one : (n left : ℕ) (e : EventView) (more : List EventView) → bytes_of e ≤ left → limited bytes_of (suc n) left (e ∷ more) ≡ e ∷ limited bytes_of n (left - bytes_of e) more
unfolding limited
limited_one n left e more le = ap (λ (t : Bool). if t then e ∷ limited bytes_of n (left - bytes_of e) more else []) (is_le (bytes_of e) left le)

pub filling_one : (b : BoxView) (from : ℕ) (old new : PartsView) (at next n m left less : ℕ) (e : EventView) → AreCounted b.events → n ≡ suc m → EventAt b at (Some e) → bytes_of e ≤ left → less ≡ left - bytes_of e
    → new.from ≡ old.from → new.events ≡ old.events ++ e ∷ [] → next ≡ at + count_of e → Filling b from old at n left → Filling b from new next m less
filling_one b from old new at next n m left less e c one found le fewer begin is to f =
    let r = next_is b at f.rest e c f.stands found in
    let stands : Stands b at (e ∷ r.0) = subst (Stands b at) r.1 f.stands in
    let joined : old.events ++ f.rest ≡ new.events ++ r.0 = ap (λ (l : List EventView). old.events ++ l) r.1 ∙ sym (append_assoc old.events (e ∷ []) r.0) ∙ ap (λ (l : List EventView). l ++ r.0) (sym is) in
    let step : limited bytes_of n left f.rest ≡ e ∷ limited bytes_of m less r.0 =
    ap (limited bytes_of n left) r.1 ∙ ap (λ (k : ℕ). limited bytes_of k left (e ∷ r.0)) one ∙ limited_one m left e r.0 le ∙ ap (λ (k : ℕ). e ∷ limited bytes_of m k r.0) (sym fewer) in
    record {
      rest = r.0;
      begin = begin ∙ f.begin;
      stands = subst (λ (q : ℕ). Stands b q r.0) (sym to) (stands_next b at e r.0 stands);
      after = f.after ∙ ap (λ (l : List EventView). Some l) joined;
      stop = omega (arith, to, f.stop, ap ending is, ending-append old.events (e ∷ []));
      run = ap (λ (l : List EventView). l ++ limited bytes_of m less r.0) is
          ∙ append_assoc old.events (e ∷ []) (limited bytes_of m less r.0)
          ∙ ap (λ (l : List EventView). old.events ++ l) (sym step)
          ∙ f.run
          ∙ ap run_of joined;
    }

-- the event that is added ends within the box
pub filling_ends : (b : BoxView) (from : ℕ) (parts : PartsView) (at n left : ℕ) (e : EventView) → AreCounted b.events → EventAt b at (Some e) → Filling b from parts at n left → (at + count_of e ≤ end_of b) × (parts.from + ending parts.events ≡ at)
filling_ends b from parts at n left e c found f =
    let r = next_is b at f.rest e c f.stands found in
    (next_ends b at e r.0 (subst (Stands b at) r.1 f.stands), omega (arith, f.stop, f.begin))

limited_nothing : (n left : ℕ) → limited bytes_of n left [] ≡ []
unfolding limited
limited_nothing zero left = refl
limited_nothing (suc n) left = refl

limited_large : (n left : ℕ) (e : EventView) (more : List EventView) → left < bytes_of e → limited bytes_of n left (e ∷ more) ≡ []
unfolding limited
limited_large zero left e more lt = refl
limited_large (suc n) left e more lt = let no : leb (bytes_of e) left ≡ false = grind (arith, nat_tests) in ap (λ (t : Bool). if t then e ∷ limited bytes_of n (left - bytes_of e) more else []) no

limited_full : (left : ℕ) (es : List EventView) → limited bytes_of zero left es ≡ []
unfolding limited
limited_full left es = refl

counted_by : (b : BoxView) (from : ℕ) (xs rest : List EventView) (t : Bool) → AreCounted b.events → (if t then events_after b.events (from - b.first) else None) ≡ Some (xs ++ rest) → AreCounted xs
counted_by b from xs rest false c is = absurd (none_some (xs ++ rest) is)
counted_by b from xs rest true c is =
    let r = prefix_before b.events (from - b.first) (xs ++ rest) is in
    counted_left xs rest (counted_right r.prefix (xs ++ rest) (subst AreCounted r.whole c))

filled : (b : BoxView) (from : ℕ) (parts : PartsView) (at n left : ℕ) → AreCounted b.events → (f : Filling b from parts at n left) → limited bytes_of n left f.rest ≡ [] → Fills b from parts at
filled b from parts at n left c f none =
    let all : parts.events ≡ run_of (parts.events ++ f.rest) = sym (append-nil parts.events) ∙ ap (λ (l : List EventView). parts.events ++ l) (sym none) ∙ f.run in
    record { events = parts.events ++ f.rest; after = f.after; begin = f.begin; run = all; stop = omega (arith, f.stop, ap ending all); counted = counted_by b from parts.events f.rest (leb b.first from) c f.after }

pub filled_end : (b : BoxView) (from : ℕ) (parts : PartsView) (at n left : ℕ) → AreCounted b.events → EventAt b at None → Filling b from parts at n left → Fills b from parts at
filled_end b from parts at n left c none f = filled b from parts at n left c f (ap (limited bytes_of n left) (none_next b at f.rest f.stands none) ∙ limited_nothing n left)

pub filled_large : (b : BoxView) (from : ℕ) (parts : PartsView) (at n left : ℕ) (e : EventView) → AreCounted b.events → EventAt b at (Some e) → left < bytes_of e → Filling b from parts at n left → Fills b from parts at
filled_large b from parts at n left e c found lt f =
    let r = next_is b at f.rest e c f.stands found in
    filled b from parts at n left c f (ap (limited bytes_of n left) r.1 ∙ limited_large n left e r.0 lt)

pub filled_most : (b : BoxView) (from : ℕ) (parts : PartsView) (at n left : ℕ) → AreCounted b.events → n ≡ 0 → Filling b from parts at n left → Fills b from parts at
filled_most b from parts at n left c none f = filled b from parts at n left c f (ap (λ (m : ℕ). limited bytes_of m left f.rest) none ∙ limited_full left f.rest)

-- ---- messages

-- with those of the events that follow the bodies are all
pub record Listing (b : BoxView) (at : ℕ) (news : List (List ℕ)) : Type 0 where
  pub rest : List EventView
  pub stands : Stands b at rest
  pub all : news ++ bodies rest ≡ bodies b.events

pub listing_none : (b : BoxView) (at : ℕ) (news : List (List ℕ)) → at ≡ b.first → news ≡ [] → Listing b at news
listing_none b at news begin none = record { rest = b.events; stands = record { prefix = []; whole = refl; place = omega (arith, begin) }; all = ap (λ (l : List (List ℕ)). l ++ bodies b.events) none }

new_bodies : (e : EventView) (more : List EventView) → is_new e ≡ true → bodies (e ∷ more) ≡ body_of e ∷ bodies more
new_bodies e more new = ap (λ (t : Bool). if t then body_of e ∷ bodies more else bodies more) new

other_bodies : (e : EventView) (more : List EventView) → is_new e ≡ false → bodies (e ∷ more) ≡ bodies more
other_bodies e more other = ap (λ (t : Bool). if t then body_of e ∷ bodies more else bodies more) other

pub listing_new : (b : BoxView) (at next : ℕ) (old new : List (List ℕ)) (e : EventView) → AreCounted b.events → EventAt b at (Some e) → is_new e ≡ true → new ≡ old ++ body_of e ∷ [] → next ≡ at + count_of e → Listing b at old → Listing b next new
listing_new b at next old new e c found is_message is to l =
    let r = next_is b at l.rest e c l.stands found in
    record {
      rest = r.0;
      stands = subst (λ (q : ℕ). Stands b q r.0) (sym to) (stands_next b at e r.0 (subst (Stands b at) r.1 l.stands));
      all = ap (λ (x : List (List ℕ)). x ++ bodies r.0) is ∙ append_assoc old (body_of e ∷ []) (bodies r.0) ∙ ap (λ (x : List (List ℕ)). old ++ x) (sym (ap bodies r.1 ∙ new_bodies e r.0 is_message)) ∙ l.all;
    }

pub listing_other : (b : BoxView) (at next : ℕ) (news : List (List ℕ)) (e : EventView) → AreCounted b.events → EventAt b at (Some e) → is_new e ≡ false → next ≡ at + count_of e → Listing b at news → Listing b next news
listing_other b at next news e c found other to l =
    let r = next_is b at l.rest e c l.stands found in
    record {
      rest = r.0;
      stands = subst (λ (q : ℕ). Stands b q r.0) (sym to) (stands_next b at e r.0 (subst (Stands b at) r.1 l.stands));
      all = ap (λ (x : List (List ℕ)). news ++ x) (sym (ap bodies r.1 ∙ other_bodies e r.0 other)) ∙ l.all;
    }

pub listing_ends : (b : BoxView) (at : ℕ) (news : List (List ℕ)) (e : EventView) → AreCounted b.events → EventAt b at (Some e) → Listing b at news → at + count_of e ≤ end_of b
listing_ends b at news e c found l = let r = next_is b at l.rest e c l.stands found in next_ends b at e r.0 (subst (Stands b at) r.1 l.stands)

pub listed : (b : BoxView) (at : ℕ) (news : List (List ℕ)) → EventAt b at None → Listing b at news → news ≡ bodies b.events
listed b at news none l = sym (append-nil news) ∙ ap (λ (x : List (List ℕ)). news ++ x) (sym (ap bodies (none_next b at l.rest l.stands none))) ∙ l.all

-- ---- where a run ends

ends_by : (b : BoxView) (from : ℕ) (es : List EventView) (t : Bool) → leb b.first from ≡ t → (if t then events_after b.events (from - b.first) else None) ≡ Some es → from + ending es ≡ end_of b
ends_by b from es false t is = absurd (none_some es is)
ends_by b from es true t is =
    let r = prefix_before b.events (from - b.first) es is in
    omega (arith, le_is b.first from t, r.stop, ap ending r.whole, ending-append r.prefix es)

pub after_ends : (b : BoxView) (from : ℕ) (es : List EventView) → after_of b from ≡ Some es → from + ending es ≡ end_of b
after_ends b from es is = ends_by b from es (leb b.first from) refl is

-- the run ends where the box ends exactly where all is carried
whole_test : (from r e end stop : ℕ) → end ≡ from + r → from + e ≡ stop → nat_eq end stop ≡ eqb r e
whole_test from r e end stop a b = grind (arith, nat_tests)

pub whole_run : (b : BoxView) (from : ℕ) (parts : PartsView) (end stop : ℕ) (f : Fills b from parts end) → stop ≡ end_of b → nat_eq end stop ≡ is_whole f.events
whole_run b from parts end stop f is = whole_test from (ending (run_of f.events)) (ending f.events) end stop f.stop (after_ends b from f.events f.after ∙ sym is)

-- ---- the first messages

-- with those that follow the copies are the first
pub record Copying (all copies : List (List ℕ)) (left : ℕ) (rest : List (List ℕ)) : Type 0 where
  pub few : length copies ≤ RECENT_EVENTS
  pub all_are : copies ++ limited length (RECENT_EVENTS - length copies) left rest ≡ limited length RECENT_EVENTS RECENT_BYTES all

-- what follows a message
next_message : (n left : ℕ) (b : List ℕ) (bs : List (List ℕ)) → length b ≤ left → limited length (suc n) left (b ∷ bs) ≡ b ∷ limited length n (left - length b) bs
unfolding limited
next_message n left b bs le = ap (λ (t : Bool). if t then b ∷ limited length n (left - length b) bs else []) (is_le (length b) left le)

pub copied_one : (all old new : List (List ℕ)) (left less : ℕ) (b : List ℕ) (rest more : List (List ℕ)) → rest ≡ b ∷ more → length old ≢ RECENT_EVENTS → length b ≤ left → less ≡ left - length b → new ≡ old ++ b ∷ []
    → Copying all old left rest → Copying all new less more
copied_one all old new left less b rest more next some le fewer is h =
    let longer : length new ≡ length old + 1 = ap length is ∙ length-append old (b ∷ []) in
    let few : length new ≤ RECENT_EVENTS = omega (arith, longer, h.few, some) in
    let n : RECENT_EVENTS - length old ≡ suc (RECENT_EVENTS - length new) = omega (arith, longer, few) in
    record {
      few = few;
      all_are = ap (λ (l : List (List ℕ)). l ++ limited length (RECENT_EVENTS - length new) less more) is
          ∙ append_assoc old (b ∷ []) (limited length (RECENT_EVENTS - length new) less more)
          ∙ ap (λ (k : ℕ). old ++ b ∷ limited length (RECENT_EVENTS - length new) k more) fewer
          ∙ ap (λ (l : List (List ℕ)). old ++ l) (sym (next_message (RECENT_EVENTS - length new) left b more le))
          ∙ ap (λ (k : ℕ). old ++ limited length k left (b ∷ more)) (sym n)
          ∙ ap (λ (l : List (List ℕ)). old ++ limited length (RECENT_EVENTS - length old) left l) (sym next)
          ∙ h.all_are;
    }

no_more : (all copies : List (List ℕ)) (left : ℕ) (rest : List (List ℕ)) → limited length (RECENT_EVENTS - length copies) left rest ≡ [] → Copying all copies left rest → copies ≡ limited length RECENT_EVENTS RECENT_BYTES all
no_more all copies left rest none h = sym (append-nil copies) ∙ ap (λ (l : List (List ℕ)). copies ++ l) (sym none) ∙ h.all_are

none_left : (n left : ℕ) → limited {A = List ℕ} length n left [] ≡ []
unfolding limited
none_left zero left = refl
none_left (suc n) left = refl

too_large : (n left : ℕ) (b : List ℕ) (bs : List (List ℕ)) → left < length b → limited length n left (b ∷ bs) ≡ []
unfolding limited
too_large zero left b bs lt = refl
too_large (suc n) left b bs lt = let no : leb (length b) left ≡ false = grind (arith, nat_tests) in ap (λ (t : Bool). if t then b ∷ limited length n (left - length b) bs else []) no

no_room : (n left : ℕ) (bs : List (List ℕ)) → n ≡ 0 → limited length n left bs ≡ []
unfolding limited
no_room zero left bs none = refl
no_room (suc n) left bs none = absurd (omega (arith, none))

pub copied_all : (all copies : List (List ℕ)) (left : ℕ) (rest : List (List ℕ)) → rest ≡ [] → Copying all copies left rest → copies ≡ limited length RECENT_EVENTS RECENT_BYTES all
copied_all all copies left rest none h = no_more all copies left rest (ap (limited length (RECENT_EVENTS - length copies) left) none ∙ none_left (RECENT_EVENTS - length copies) left) h

pub copied_large : (all copies : List (List ℕ)) (left : ℕ) (rest : List (List ℕ)) (b : List ℕ) (more : List (List ℕ)) → rest ≡ b ∷ more → left < length b → Copying all copies left rest → copies ≡ limited length RECENT_EVENTS RECENT_BYTES all
copied_large all copies left rest b more next lt h = no_more all copies left rest (ap (limited length (RECENT_EVENTS - length copies) left) next ∙ too_large (RECENT_EVENTS - length copies) left b more lt) h

pub copied_most : (all copies : List (List ℕ)) (left : ℕ) (rest : List (List ℕ)) → length copies ≡ RECENT_EVENTS → Copying all copies left rest → copies ≡ limited length RECENT_EVENTS RECENT_BYTES all
copied_most all copies left rest full h = no_more all copies left rest (no_room (RECENT_EVENTS - length copies) left rest (omega (arith, full))) h

map_reverse : {A B : Type 0} (f : A → B) (xs : List A) → map f (reverse xs) ≡ reverse (map f xs)
map_reverse f [] = refl
map_reverse {B = B} f (x ∷ xs) =
    ap (map f) (reverse-cons x xs) ∙ map-append f (reverse xs) (x ∷ []) ∙ ap (λ (l : List B). l ++ f x ∷ []) (map_reverse f xs) ∙ sym (reverse-cons (f x) (map f xs))

pub next_text : (bs : List (Bor (List ℕ))) (i : ℕ) (d : Bor (List ℕ)) → i < length bs → map (λ (b : Bor (List ℕ)). b.now) (drop i bs) ≡ (slice_index_or bs i d).now ∷ map (λ (b : Bor (List ℕ)). b.now) (drop (i + 1) bs)
next_text bs i d lt =
    let next : suc i ≡ i + 1 = omega arith in
    ap (map (λ (b : Bor (List ℕ)). b.now)) (drop-cons bs i d lt) ∙ ap (λ (k : ℕ). (slice_index_or bs i d).now ∷ map (λ (b : Bor (List ℕ)). b.now) (drop k bs)) next

-- the first messages of the last one first are the last
pub last_told : (news copies turned : List (List ℕ)) (texts back : List (Bor (List ℕ))) → map (λ (b : Bor (List ℕ)). b.now) texts ≡ news → back ≡ reverse texts
    → copies ≡ limited length RECENT_EVENTS RECENT_BYTES (map (λ (b : Bor (List ℕ)). b.now) back) → turned ≡ reverse copies → turned ≡ last_bodies news
last_told news copies turned texts back is turns first last =
    last ∙ ap reverse (first ∙ ap (λ (l : List (Bor (List ℕ))). limited length RECENT_EVENTS RECENT_BYTES (map (λ (b : Bor (List ℕ)). b.now) l)) turns
    ∙ ap (limited length RECENT_EVENTS RECENT_BYTES) (map_reverse (λ (b : Bor (List ℕ)). b.now) texts ∙ ap reverse is))
