use Rattle.std.proofs.Common.{refl, rules}
use Rattle.tl_types.proofs.Views.{view-Int, view-Nat}
use Rattle.tl_decode.proofs.ItemSteps.{takes_int, takes_nat, takes_long, takes_opaque, takes_text}
use Rattle.tl_decode.proofs.taking.take_word.Goals as goal

pub returns-in-Int : goal.returns-in-Int
returns-in-Int c = rw c.in-Int.is (takes_int c.args.plan.now c.args.word _ (view-Int _ _ (search rules)))

pub returns-in-Nat : goal.returns-in-Nat
returns-in-Nat c = rw c.in-Nat.is (takes_nat c.args.plan.now c.args.word _ (view-Nat _ _ refl))

pub returns-in-Long : goal.returns-in-Long
returns-in-Long c = rw c.in-Long.is (takes_long c.args.plan.now c.args.word _ (view-Nat _ _ refl))

pub returns-in-Opaque : goal.returns-in-Opaque
returns-in-Opaque c = rw c.in-Opaque.is (takes_opaque c.args.plan.now c.in-Opaque.width c.args.word _ (view-Nat _ _ refl))

pub returns-in-Text : goal.returns-in-Text
returns-in-Text c = rw c.in-Text.is (takes_text c.args.plan.now c.args.word _ (view-Nat _ _ refl))
