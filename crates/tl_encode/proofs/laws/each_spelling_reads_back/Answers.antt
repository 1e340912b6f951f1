use Rattle.tl_encode.proofs.ReadBack.{each_read_back}
use Rattle.tl_encode.proofs.laws.each_spelling_reads_back.Goals as goal

pub returns : goal.returns
returns c = each_read_back
