use Rattle.tl_decode.proofs.FedBytes.{each_refusal_stays}
use Rattle.tl_decode.proofs.laws.each_refusal_stays.Goals as goal

pub returns : goal.returns
returns c = each_refusal_stays
