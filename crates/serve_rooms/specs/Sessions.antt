-- Sessions at an address, one after the other: the next link is taken, the clock is read, calls are answered, and how that ended is told before the next link is
-- taken. This project's own.
use Rattle.std.specs.Prelude.{ℕ, ◌+◌, ltb, List, codes, Bool, true, false}
use Rattle.box_server.specs.Servers.{ServerState, dated_at}
use Rattle.wire_profile.specs.Indexes.{ProfileView}
use Rattle.outside.specs.Answer.{link_fault_line}
use Rattle.outside.specs.declared.status.Status.TheVariants.{LinkFault}
use Rattle.outside.specs.Events.{listened, accepted, told}
use Rattle.outside.specs.Pieces.{Tells}
use Rattle.outside.specs.Steps.{StepOf, Turn, again, leave, Calls, Ends, Then, Loops}
use Rattle.serve_rooms.specs.Acts.{Act}
use Rattle.serve_rooms.specs.Answering.{AnswersAll, Session, over, lost}
use Rattle.serve_rooms.specs.Doing.{Hosted, Last}
use Rattle.serve_rooms.specs.Telling.{Told, goes_on, is_over, TellsEnd, new_tally}
use Rattle.serve_rooms.specs.declared.status.KeptStatus.{KeptStatus}
use Rattle.serve_rooms.specs.declared.status.KeptStatus.TheVariants.{Run, KeepFault}
use Rattle.serve_rooms.specs.declared.telling.Tally.{Tally}

-- ---- one session

-- a server and a tally for the sessions that come; or how the run is over
pub data Next : Type 0 where
  more : (server : ServerState) (tally : Tally) → Next
  no_more : (status : KeptStatus) → Next

-- a call to the keeper failed
abbrev pub keep_fault_line : List ℕ
keep_fault_line = codes "tlbox: keep fault\n"

abbrev pub TellsKeepFault : StepOf Act KeptStatus
TellsKeepFault = Hosted (Tells keep_fault_line KeepFault)

abbrev pub after_telling : ServerState → Told → StepOf Act Next
after_telling s (goes_on tally) = Ends (more s tally)
after_telling s (is_over status) = Ends (no_more (Run status))

-- how the session ended is told
abbrev pub after_session : ℕ → Tally → Session → StepOf Act Next
after_session number tally (over s end) = Then (Hosted (TellsEnd number tally end)) (after_telling s)
after_session number tally lost = Then TellsKeepFault (λ status. Ends (no_more status))

-- the link is served from a moment on
abbrev pub after_moment : ProfileView → ℕ → ServerState → Tally → ℕ → StepOf Act Next
after_moment p number s tally now = Then (AnswersAll p (dated_at s now)) (after_session number tally)

-- nobody can be taken, and the run ends; or somebody is, and the clock is read
abbrev pub after_accept : ProfileView → ℕ → ServerState → Tally → Bool → StepOf Act Next
after_accept p number s tally true = Then (Hosted (Calls told)) (after_moment p number s tally)
after_accept p number s tally false = Then (Hosted (Tells link_fault_line LinkFault)) (λ status. Ends (no_more (Run status)))

-- the session with this number
abbrev pub ServesNext : ProfileView → ℕ → ServerState → Tally → StepOf Act Next
ServesNext p number s tally = Then (Hosted (Calls accepted)) (after_accept p number s tally)

-- ---- all sessions

-- the number of the next session, a server and a tally
pub record Serving : Type 0 where
  pub number : ℕ
  pub server : ServerState
  pub tally : Tally

abbrev pub turn_of : ℕ → Next → Turn Serving KeptStatus
turn_of number (more s tally) = again (record { number = number + 1; server = s; tally = tally })
turn_of number (no_more status) = leave status

abbrev pub serves_by : ProfileView → Bool → Serving → StepOf Act (Turn Serving KeptStatus)
serves_by p false x = Ends (leave (Run x.tally.status))
serves_by p true x = Then (ServesNext p x.number x.server x.tally) (λ r. Ends (turn_of x.number r))

abbrev pub ServesOn : ProfileView → ℕ → Serving → StepOf Act (Turn Serving KeptStatus)
ServesOn p sessions x = serves_by p (ltb x.number sessions) x

abbrev pub after_listen : ProfileView → ℕ → ServerState → Bool → StepOf Act KeptStatus
after_listen p sessions s true = Loops (ServesOn p sessions) (record { number = 0; server = s; tally = new_tally })
after_listen p sessions s false = Last (Tells link_fault_line LinkFault)

-- so many sessions from a server on
abbrev pub ServesAll : List ℕ → ℕ → ServerState → ProfileView → StepOf Act KeptStatus
ServesAll address sessions s p = Then (Hosted (Calls (listened address))) (after_listen p sessions s)
