use Rattle.tl_show.proofs.MembersFound.{text_found}
use Rattle.tl_show.proofs.plain.text_at.Goals as goal

pub returns : goal.returns
returns c = text_found c.args.members.now c.args.key.now c.get.result c.and_then.result c.get.ensures.value c.and_then.ensures
