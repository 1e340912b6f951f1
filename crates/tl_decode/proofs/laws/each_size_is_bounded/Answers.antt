use Rattle.tl_decode.proofs.SizesUsed.{each_size_is_bounded}
use Rattle.tl_decode.proofs.laws.each_size_is_bounded.Goals as goal

pub returns : goal.returns
returns c = each_size_is_bounded
