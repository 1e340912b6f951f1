use Rattle.tl_show.proofs.ShownValues.{each_value_reads_back}
use Rattle.tl_show.proofs.laws.each_value_reads_back.Goals as goal

pub returns : goal.returns
returns c = each_value_reads_back
