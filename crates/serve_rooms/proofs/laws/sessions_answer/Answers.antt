use Rattle.serve_rooms.proofs.AnsweredBytes as bytes
use Rattle.serve_rooms.proofs.laws.sessions_answer.Goals as goal

pub returns : goal.returns
returns c = bytes.sessions_answer
