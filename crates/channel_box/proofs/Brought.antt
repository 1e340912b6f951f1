-- What an answer brings to a lane.
use Rattle.std.proofs.Common.{◌≡◌, ℕ, ◌≤◌, List, [], ◌∷◌, length, sum_by, Bool, Ok, Err, refl, sym, ap, ◌∙◌, arith}
use Rattle.std.proofs.lemmas.List.Sums.{sum_by-cons}
use Rattle.box_events.specs.Events.{EventView, count_of}
use Rattle.box_events.specs.Boxes.{ending, AreCounted}
use Rattle.box_events.specs.declared.updates.Placed.{Placed}
use Rattle.pts_machine.specs.States.{LaneState}
use Rattle.pts_machine.specs.Steps.{extend}
use Rattle.box_events.specs.declared.difference_fault.WeaveFault.{WeaveFault}
use Rattle.tl_base.specs.declared.fault.Fault.{Fault}
use Rattle.tl_base.specs.declared.fault.Fault.TheVariants.{Refused, Memory}
use Rattle.box_events.specs.Weaving.{Woven}
use Rattle.box_events.specs.Refusal.{Refuses}
use Rattle.box_events.specs.Weaves.{woven_of}
use Rattle.box_events.proofs.Made.{is_made, is_why}
use Rattle.channel_box.specs.States.{ChannelState}
use Rattle.channel_box.specs.Steps.{grown}
use Rattle.channel_box.specs.Calls.{Comes}

pub ending_sums : (xs : List EventView) → ending xs ≡ sum_by count_of xs
ending_sums [] = refl
ending_sums (x ∷ xs) = omega (arith, ending_sums xs, sum_by-cons count_of x xs)

pub few_counted : (xs : List EventView) → AreCounted xs → length xs ≤ ending xs
few_counted [] c = omega arith
few_counted (x ∷ xs) c = omega (arith, c.0, few_counted xs c.1)

-- what is woven of a lane's answer, and what its refusal is

pub grown_err : (a : ChannelState) (to : ℕ) (news : List (List ℕ)) (others : List Placed) (last : Bool) (fault : Fault WeaveFault) (y : ChannelState) → Refuses a.lane.at to news others fault → y ≡ a → Comes a (grown a last (woven_of a.lane.at to news others)) (Err fault) y
grown_err a to news others last (Refused cause) y r same = (ap (grown a last) ((is_why a.lane.at to news others).0 cause r), same)
grown_err a to news others last Memory y r same = same

pub grown_ok : (a : ChannelState) (to : ℕ) (news : List (List ℕ)) (others : List Placed) (last : Bool) (events : List EventView) (lane : LaneState EventView) → Woven a.lane.at to news others events → lane ≡ extend count_of a.lane events last → grown a last (woven_of a.lane.at to news others) ≡ Ok (record a { lane = lane })
grown_ok a to news others last events lane w step = ap (grown a last) (is_made a.lane.at to news others events w) ∙ ap (λ (t : LaneState EventView). Ok (record a { lane = t })) (sym step)
