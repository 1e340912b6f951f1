use Rattle.tl_combinators.proofs.Describing.{has_description, one_description}
use Rattle.tl_combinators.proofs.law.each_list_of_pieces_has_one_description.Goals as goal

pub returns : goal.returns
returns c = λ ps. record { some = has_description ps; same = one_description ps }
