use Rattle.tl_types.proofs.Exactly.{exactly_one}
use Rattle.tl_types.proofs.laws.each_input_is_spelled_or_refused.Goals as goal

pub returns : goal.returns
returns c = exactly_one
