use Rattle.session_rooms.proofs.PostWriting as writing
use Rattle.session_rooms.proofs.laws.post_writes.Goals as goal

pub returns : goal.returns
returns c = writing.post_writes
