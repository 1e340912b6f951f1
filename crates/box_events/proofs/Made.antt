-- The list that is made of its parts.
use Rattle.std.proofs.Common.{◌≡◌, ◌≢◌, ℕ, ◌+◌, List, [], ◌∷◌, length, map, take, drop, Option, Some, None, Bool, true, false, eqb, Ok, Err, refl, sym, ap, ◌∙◌, subst, arith}
use Rattle.std.proofs.lemmas.Bool.Decides.{nat_tests}
use Rattle.std.proofs.lemmas.List.{take-append-drop, length-append}
use Rattle.box_events.specs.Events.{EventView, added, edited, deleted, read}
use Rattle.box_events.specs.Boxes.{ending, AreCounted}
use Rattle.box_events.specs.declared.updates.Placed.{Placed}
use Rattle.box_events.specs.declared.difference_fault.WeaveFault.{WeaveFault}
use Rattle.box_events.specs.declared.difference_fault.WeaveFault.TheVariants.{Overlap, Uneven}
use Rattle.tl_base.specs.declared.fault.Fault.TheVariants.{Refused}
use Rattle.box_events.specs.Weaving.{Woven, others_from}
use Rattle.box_events.specs.Refusal.{Fits, Refuses, overlap, covered}
use Rattle.box_events.specs.Weaves.{free, merged, woven_when, woven_of}
use Rattle.box_events.specs.DifferenceLaws.{IsMade, IsWovenOfOthers, Reaches, IsWhy, AreCountedOthers, KeepsCounts}
use Rattle.box_events.proofs.Merged.{fitting_woven}
use Rattle.box_events.proofs.Joined.{ending_join}
use Rattle.box_events.proofs.Once.{each_fits, merged_is}

even_so : (a b : ℕ) → a ≡ b → eqb a b ≡ true
even_so a b is = grind (arith, nat_tests)

uneven_so : (a b : ℕ) → a ≢ b → eqb a b ≡ false
uneven_so a b is = grind (arith, nat_tests)

even_of : (a b : ℕ) → eqb a b ≡ true → a ≡ b
even_of a b is = grind (arith, nat_tests)

when_fits : (from to : ℕ) (news : List (List ℕ)) (others : List Placed) → Fits from to news others → woven_of from to news others ≡ Ok (merged from news others)
unfolding woven_of
when_fits from to news others fits = rw (fits.apart, even_so (from + covered news others) to fits.even) refl

pub is_made : IsMade
is_made from to news others events w = when_fits from to news others (each_fits from to news others events w) ∙ ap Ok (merged_is from to news others events w)

-- a list is made where the parts fit
record Making (from to : ℕ) (news : List (List ℕ)) (others : List Placed) (events : List EventView) : Type 0 where
  pub fits : Fits from to news others
  pub is : merged from news others ≡ events

making : (from to : ℕ) (news : List (List ℕ)) (others : List Placed) (events : List EventView) (o : Option ℕ) (b : Bool) → overlap from to others ≡ o → eqb (from + covered news others) to ≡ b → woven_when o b from to news others ≡ Ok events → Making from to news others events
making from to news others events (Some pts) b apart even is = absurd cc
making from to news others events None false apart even is = absurd cc
making from to news others events None true apart even is = record { fits = record { apart = apart; even = even_of (from + covered news others) to even }; is = cc }

of_ok : (from to : ℕ) (news : List (List ℕ)) (others : List Placed) (events : List EventView) → woven_of from to news others ≡ Ok events → Making from to news others events
unfolding woven_of
of_ok from to news others events is = making from to news others events (overlap from to others) (eqb (from + covered news others) to) refl refl is

pub is_woven_of_others : IsWovenOfOthers
is_woven_of_others from to news others events plain is =
    let m = of_ok from to news others events is in
    subst (λ (xs : List EventView). Woven from to news others xs) m.is (fitting_woven from to news others plain m.fits)

ending_added : (ns : List (List ℕ)) → ending (map added ns) ≡ length ns
ending_added [] = refl
ending_added (n ∷ ns) = omega (arith, ending_added ns)

ending_merged : (p : ℕ) (ns : List (List ℕ)) (os : List Placed) → ending (merged p ns os) ≡ covered ns os
ending_merged p ns [] = omega (arith, ending_added ns)
ending_merged p ns (o ∷ os) =
    let k : ℕ = free p o in
    omega (arith, ending_join (map added (take k ns)) (o.event ∷ merged o.pts (drop k ns) os), ending_added (take k ns), ending_merged o.pts (drop k ns) os, length-append (take k ns) (drop k ns), ap length (take-append-drop k ns))

pub reaches : Reaches
reaches from to news others events is =
    let m = of_ok from to news others events is in
    omega (arith, ap ending m.is, ending_merged from news others, m.fits.even)

why_refused : (from to : ℕ) (news : List (List ℕ)) (others : List Placed) (cause : WeaveFault) → Refuses from to news others (Refused cause) → woven_of from to news others ≡ Err cause
unfolding woven_of
why_refused from to news others (Overlap pts) r = rw r refl
why_refused from to news others (Uneven a b c) r = rw (r.0, uneven_so (from + covered news others) to r.4, r.1, r.2, r.3) refl

pub is_why : IsWhy
unfolding woven_of
is_why from to news others = (why_refused from to news others, (λ fits. rw (fits.apart, even_so (from + covered news others) to fits.even) refl))

counted_of : (p : ℕ) (es : List EventView) → AreCountedOthers (others_from p es) → AreCounted es
counted_of p [] c = tt
counted_of p (added b ∷ es) c = (omega arith, counted_of (p + 1) es c)
counted_of p (edited b ∷ es) c = (omega arith, counted_of (p + 1) es c.1)
counted_of p (deleted ids ∷ es) c = (c.0, counted_of (p + length ids) es c.1)
counted_of p (read id ∷ es) c = (omega arith, counted_of (p + 1) es c.1)

pub keeps_counts : KeepsCounts
keeps_counts from to news others events c w = counted_of from events (subst AreCountedOthers (sym w.rest) c)
