use Rattle.tl_schema.specs.Seen.{declaration}
use Rattle.session_commands.proofs.Replies.{head_is, push_within}
use Rattle.session_commands.proofs.reply.frame_head.Goals as goal

pub entry-requires : goal.entry-requires
entry-requires c = push_within c.args.profile.now c.schema.ensures.sound c.schema.result.now c.index.result c.schema.ensures.schema c.index.ensures

pub returns : goal.returns
returns c = head_is c.args.profile.now c.schema.ensures.sound c.schema.result.now c.index.result (declaration c.entry.result.now) c.schema.ensures.schema c.index.ensures c.entry.ensures
