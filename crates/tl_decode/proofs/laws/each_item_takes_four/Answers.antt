use Rattle.tl_decode.proofs.TakesFour.{each_item_takes_four}
use Rattle.tl_decode.proofs.laws.each_item_takes_four.Goals as goal

pub returns : goal.returns
returns c = each_item_takes_four
