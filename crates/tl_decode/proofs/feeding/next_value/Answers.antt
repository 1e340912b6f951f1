use Rattle.std.proofs.Common.{refl, rules}
use Rattle.tl_types.proofs.Views.{view-Int, view-Nat}
use Rattle.tl_decode.proofs.ItemSteps.{takes_int, takes_nat}
use Rattle.tl_decode.proofs.feeding.next_value.Goals as goal

pub returns-in-Int : goal.returns-in-Int
returns-in-Int c = (c.in_ok-word.word, c.in_ok-word.ensures, λ p. rw c.in-Int.is (takes_int p c.in_ok-word.word _ (view-Int _ _ (search rules))))

pub returns-in-Nat : goal.returns-in-Nat
returns-in-Nat c = (c.in_ok-word.word, c.in_ok-word.ensures, λ p. rw c.in-Nat.is (takes_nat p c.in_ok-word.word _ (view-Nat _ _ refl)))
