use Rattle.tl_schema.proofs.OneAnswer.{one_type_or_refused}
use Rattle.tl_schema.proofs.laws.each_text_is_a_type_or_refused.Goals as goal

pub returns : goal.returns
returns c = one_type_or_refused
