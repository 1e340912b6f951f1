use Rattle.update_sessions.proofs.Answered.{push_short}
use Rattle.update_sessions.proofs.answering.take_post.Goals as goal

pub receipt-requires : goal.receipt-requires
receipt-requires g c = push_short c.args.store.now.server _ _ c.in-Ok.posted c.post.ensures.sound c.in-Ok.ensures.posts.answer
