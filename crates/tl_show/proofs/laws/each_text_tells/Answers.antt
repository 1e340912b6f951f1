use Rattle.tl_show.proofs.NamesTelling.{each_text_tells}
use Rattle.tl_show.proofs.laws.each_text_tells.Goals as goal

pub returns : goal.returns
returns c = each_text_tells
