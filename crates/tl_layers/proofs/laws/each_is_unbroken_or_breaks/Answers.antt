use Rattle.tl_layers.proofs.EachBreaks.{each_is_unbroken_or_breaks}
use Rattle.tl_layers.proofs.laws.each_is_unbroken_or_breaks.Goals as goal

pub returns : goal.returns
returns c = each_is_unbroken_or_breaks
