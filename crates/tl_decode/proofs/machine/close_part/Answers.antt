use Rattle.std.proofs.Common.{[], ◌∷◌, ◌++◌, refl}
use Rattle.tl_decode.proofs.InPlace.{closes_opens, closes_taken}
use Rattle.tl_decode.proofs.machine.close_part.Goals as goal

pub onward-requires : goal.onward-requires
onward-requires c =
    let adds = rw c.in-Some.is at c.in_ok-of.ensures in
    (adds.2 [] tt).0.is_well

pub returns-in-Some : goal.returns-in-Some
returns-in-Some c = λ fs well.
    c.onward.ensures (fs ++ c.args.top.now ∷ []) (fs ++ c.add.new.top ∷ []) c.args.value (closes_opens c.args.plan.now (fs ++ c.args.top.now ∷ []) (fs ++ c.add.new.top ∷ []) fs c.args.top.now c.add.new.top c.args.value c.in-Some.of refl refl well (rw c.in-Some.is at c.in_ok-of.ensures))

pub returns-in-None : goal.returns-in-None
returns-in-None c = λ fs well others h split. closes_taken c.args.plan.now fs others c.args.top.now c.add.new.top h c.args.value well (rw c.in-None.is at c.in_ok-of.ensures) split
