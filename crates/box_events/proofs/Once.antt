-- One list at most is woven of the same parts, and they fit.
use Rattle.std.proofs.Common.{◌≡◌, ℕ, ◌+◌, ◌≤◌, List, [], ◌∷◌, ◌++◌, length, map, append_assoc, append-nil, ap₂, None, Some, Option, false, refl, sym, ap, ◌∙◌, subst, arith}
use Rattle.std.proofs.lemmas.List.{take_at, drop_at, map-append, length-append}
use Rattle.box_events.specs.Events.{EventView, added, edited, deleted, read, count_of, is_new}
use Rattle.box_events.specs.Boxes.{ending}
use Rattle.box_events.specs.declared.updates.Placed.{Placed}
use Rattle.box_events.specs.declared.difference_fault.WeaveFault.TheVariants.{Overlap, Uneven}
use Rattle.tl_base.specs.declared.fault.Fault.TheVariants.{Refused, Memory}
use Rattle.box_events.specs.Weaving.{Woven, bodies, others_from, ends_at}
use Rattle.box_events.specs.Refusal.{AreOthers, overlap, counts, covered}
use Rattle.box_events.specs.DifferenceLaws.{IsOneList, EachFits, EachThatFitsIsWoven, HasOthers, IsNotRefused, OthersKeepTheirNumbers}
use Rattle.box_events.specs.inner.Merging.{free, merged}
use Rattle.box_events.proofs.Apart.{apart_more, apart_lower}
use Rattle.box_events.proofs.Merged.{other_first, fitting_woven}

-- an event is a message, or none
data Sort (e : EventView) : Type 0 where
  message : (b : List ℕ) → e ≡ added b → Sort e
  other : is_new e ≡ false → Sort e

sort_of : (e : EventView) → Sort e
sort_of (added b) = message b refl
sort_of (edited b) = other refl
sort_of (deleted ids) = other refl
sort_of (read id) = other refl

message_first : (e : EventView) (b : List ℕ) (es : List EventView) (p : ℕ) → e ≡ added b → (bodies (e ∷ es) ≡ b ∷ bodies es) × (others_from p (e ∷ es) ≡ others_from (p + 1) es) × (count_of e ≡ 1)
message_first e b es p is = (ap (λ (h : EventView). bodies (h ∷ es)) is, ap (λ (h : EventView). others_from p (h ∷ es)) is, ap count_of is)

merged_other : (p : ℕ) (ys zs : List (List ℕ)) (o : Placed) (os : List Placed) (es : List EventView) → free p o ≡ length ys → merged o.pts zs os ≡ es → merged p (ys ++ zs) (o ∷ os) ≡ map added ys ++ o.event ∷ es
merged_other p ys zs o os es is rest =
    ap₂ (λ (a b : List (List ℕ)). map added a ++ o.event ∷ merged o.pts b os) (take_at ys zs (free p o) (sym is)) (drop_at ys zs (free p o) (sym is))
    ∙ ap (λ (l : List EventView). map added ys ++ o.event ∷ l) rest

-- what is merged of messages and the parts of a list that starts where they end is the messages and that list
merges : (p q : ℕ) (ys : List (List ℕ)) (es : List EventView) → q ≡ p + length ys → merged p (ys ++ bodies es) (others_from q es) ≡ map added ys ++ es
merges p q ys [] is = ap (λ (l : List (List ℕ)). map added l) (append-nil ys) ∙ sym (append-nil (map added ys))
merges p q ys (e ∷ es) is = elim (sort_of e) [
  | message b eb ↦
      let m = message_first e b es q eb in
      ap₂ (λ (l : List (List ℕ)) (os : List Placed). merged p (ys ++ l) os) m.0 m.1
      ∙ ap (λ (l : List (List ℕ)). merged p l (others_from (q + 1) es)) (sym (append_assoc ys (b ∷ []) (bodies es)))
      ∙ merges p (q + 1) (ys ++ b ∷ []) es (omega (arith, is, length-append ys (b ∷ [])))
      ∙ ap (λ (l : List EventView). l ++ es) (map-append added ys (b ∷ []))
      ∙ append_assoc (map added ys) (added b ∷ []) es
      ∙ ap (λ (h : EventView). map added ys ++ h ∷ es) (sym eb)
  | other plain ↦
      let f = other_first e es q plain in
      ap₂ (λ (l : List (List ℕ)) (os : List Placed). merged p (ys ++ l) os) f.0 f.1
      ∙ merged_other p ys (bodies es) (ends_at e (q + count_of e)) (others_from (q + count_of e) es) es (omega (arith, is)) (merges (q + count_of e) (q + count_of e) [] es (omega arith))
]

-- what is merged of the parts of a list is the list
pub merged_is : (from to : ℕ) (news : List (List ℕ)) (others : List Placed) (events : List EventView) → Woven from to news others events → merged from news others ≡ events
merged_is from to news others events w =
    ap₂ (λ (l : List (List ℕ)) (os : List Placed). merged from l os) (sym w.messages) (sym w.rest) ∙ merges from from [] events (omega arith)

pub is_one_list : IsOneList
is_one_list from to news others xs ys v w = sym (merged_is from to news others xs v) ∙ merged_is from to news others ys w

apart_of : (p to : ℕ) (es : List EventView) → p + ending es ≤ to → overlap p to (others_from p es) ≡ None
apart_of p to [] le = refl
apart_of p to (e ∷ es) le =
    let more : overlap (p + count_of e) to (others_from (p + count_of e) es) ≡ None = apart_of (p + count_of e) to es (omega (arith, le)) in
    elim (sort_of e) [
      | message b eb ↦
          let m = message_first e b es p eb in
          let at : p + count_of e ≡ p + 1 = ap (λ (k : ℕ). p + k) m.2 in
          apart_lower p (p + 1) to (others_from p (e ∷ es)) (omega arith) (ap (overlap (p + 1) to) m.1 ∙ subst (λ (k : ℕ). overlap k to (others_from k es) ≡ None) at more)
      | other plain ↦
          ap (overlap p to) (other_first e es p plain).1 ∙ sym (apart_more p to (ends_at e (p + count_of e)) (others_from (p + count_of e) es) (omega arith) (omega (arith, le))) ∙ more
    ]

covered_of : (p : ℕ) (es : List EventView) → covered (bodies es) (others_from p es) ≡ ending es
covered_of p [] = refl
covered_of p (e ∷ es) =
    let more = covered_of (p + count_of e) es in
    elim (sort_of e) [
      | message b eb ↦
          let m = message_first e b es p eb in
          let at : p + count_of e ≡ p + 1 = ap (λ (k : ℕ). p + k) m.2 in
          let rest : covered (bodies es) (others_from (p + 1) es) ≡ ending es = subst (λ (k : ℕ). covered (bodies es) (others_from k es) ≡ ending es) at more in
          omega (arith, ap counts m.1, ap length m.0, m.2, rest)
      | other plain ↦
          let f = other_first e es p plain in
          omega (arith, ap counts f.1, ap length f.0, more)
    ]

pub each_fits : EachFits
each_fits from to news others events w =
    let sum : covered news others ≡ ending events = omega (arith, ap counts w.rest, ap length w.messages, covered_of from events) in
    record {
      apart = ap (overlap from to) (sym w.rest) ∙ apart_of from to events (omega (arith, w.sum));
      even = omega (arith, sum, w.sum);
    }

pub each_that_fits_is_woven : EachThatFitsIsWoven
each_that_fits_is_woven from to news others kinds fits = (merged from news others, fitting_woven from to news others kinds fits)

are_others : (p : ℕ) (es : List EventView) → AreOthers (others_from p es)
are_others p [] = tt
are_others p (e ∷ es) = elim (sort_of e) [
  | message b eb ↦ subst AreOthers (sym (message_first e b es p eb).1) (are_others (p + 1) es)
  | other plain ↦ subst AreOthers (sym (other_first e es p plain).1) (plain, are_others (p + count_of e) es)
]

pub has_others : HasOthers
has_others from to news others events w = subst AreOthers w.rest (are_others from events)

none_some : {A : Type 0} (o : Option A) (x : A) → o ≡ None → o ≡ Some x → ⊥
none_some o x n s = cc

pub is_not_refused : IsNotRefused
is_not_refused from to news others events (Refused (Overlap pts)) w r = absurd (none_some (overlap from to others) pts (each_fits from to news others events w).apart r)
is_not_refused from to news others events (Refused (Uneven a b c)) w r = absurd (r.4 (each_fits from to news others events w).even)
is_not_refused from to news others events Memory w r = refl

-- ---- where the first of the other events stands

at_once : (e : EventView) (p : ℕ) (l os : List Placed) (o : Placed) → ends_at e p ∷ l ≡ o ∷ os → ends_at e p ≡ o
at_once e p l os o is = cc

-- the first of the other events stands after what is before it
stands_after : (p : ℕ) (es : List EventView) (o : Placed) (os : List Placed) → others_from p es ≡ o ∷ os → p + count_of o.event ≤ o.pts
stands_after p [] o os is = absurd cc
stands_after p (e ∷ es) o os is = elim (sort_of e) [
  | message b eb ↦
      let m = message_first e b es p eb in
      let later : p + 1 + count_of o.event ≤ o.pts = stands_after (p + 1) es o os (sym m.1 ∙ is) in
      omega (arith, later)
  | other plain ↦
      subst (λ (q : Placed). p + count_of q.event ≤ q.pts) (at_once e (p + count_of e) _ os o (sym (other_first e es p plain).1 ∙ is)) (omega arith)
]

first_of : (from : ℕ) (events : List EventView) (o : Placed) (os : List Placed) → others_from from events ≡ o ∷ os → o.pts ≡ from + count_of o.event
    → (more : List EventView) × (events ≡ o.event ∷ more)
first_of from [] o os is here = absurd cc
first_of from (e ∷ es) o os is here = elim (sort_of e) [
  | message b eb ↦
      let m = message_first e b es from eb in
      let later : from + 1 + count_of o.event ≤ o.pts = stands_after (from + 1) es o os (sym m.1 ∙ is) in
      absurd (omega (arith, later, here))
  | other plain ↦
      let same = at_once e (from + count_of e) _ os o (sym (other_first e es from plain).1 ∙ is) in
      (es, ap (λ (q : Placed). q.event ∷ es) same)
]

pub others_keep_their_numbers : OthersKeepTheirNumbers
others_keep_their_numbers from to news o os events w here = first_of from events o os w.rest here
