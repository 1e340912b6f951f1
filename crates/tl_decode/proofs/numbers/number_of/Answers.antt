use Rattle.std.proofs.Common.{refl, rules}
use Rattle.tl_types.proofs.Views.{view-Int, view-Nat}
use Rattle.tl_decode.proofs.ItemSteps.{takes_int}
use Rattle.tl_decode.proofs.ListNumbers.{number_takes}
use Rattle.tl_decode.proofs.numbers.number_of.Goals as goal

pub returns-in-Int : goal.returns-in-Int
returns-in-Int c = λ p. rw c.in-Int.is (takes_int p c.args.word _ (view-Int _ _ (search rules)))

pub returns-in_default : goal.returns-in_default
returns-in_default c = λ p. number_takes p c.args.wanted c.args.word _ c.requires c.in_default.not-Int (view-Nat _ _ refl)
