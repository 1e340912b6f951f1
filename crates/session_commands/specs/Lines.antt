-- The lines of what the other end of a link sends. This project's own.
use Rattle.std.specs.Prelude.{ℕ, List, ◌++◌, codes, decimal}
use Rattle.outside.specs.Answer.{unplaced_line}

-- of a frame that is no reply to the call that was sent
abbrev pub wrong_reply_line : List ℕ
wrong_reply_line = unplaced_line (codes "peer") (codes "WrongReply")

-- of a call with so many bytes, which are too many for a packet
abbrev pub long_call_line : ℕ → List ℕ
long_call_line length = unplaced_line (codes "input") (codes "TooLong " ++ decimal length)

-- of a session that was served without a fault, by the number of its connection and of its frames
abbrev pub served_line : ℕ → ℕ → List ℕ
served_line session frames = (((codes "session " ++ decimal session) ++ codes " frames ") ++ decimal frames) ++ codes "\n"
