-- What sessions of a server come to, from any server on. This project's own.
use Rattle.std.specs.Prelude.{◌≡◌, ◌≢◌, ℕ, List, [], ◌∷◌, ◌++◌, get_or, true, None}
use Rattle.box_server.specs.Servers.{ServerState}
use Rattle.wire_profile.specs.Indexes.{ProfileView}
use Rattle.outside.specs.Answer.{Answer}
use Rattle.outside.specs.Kept.{Leaves}
use Rattle.outside.specs.Telling.{Tells}
use Rattle.outside.specs.declared.status.Status.{Status}
use Rattle.outside.specs.declared.status.Status.TheVariants.{LinkFault, WriteFault}
use Rattle.outside.specs.Events.{Outside}
use Rattle.outside.specs.Fits.{Fits}
use Rattle.session_commands.specs.Linked.{next_link}
use Rattle.session_commands.specs.Serve.{SessionEnd, IsAny, Sessions, Total, end_errors, end_output, end_status, first_fault, total_answer}
use Rattle.session_commands.specs.Serve as commands
use Rattle.serve_rooms.specs.Acts.{Act, events_in}
use Rattle.serve_rooms.specs.ServedBytes.{added_in}
use Rattle.serve_rooms.specs.Sessions.{ServesAll, ServesNext, more}
use Rattle.serve_rooms.specs.declared.status.KeptStatus.TheVariants.{Run}
use Rattle.serve_rooms.specs.declared.telling.Tally.{Tally}
use Rattle.run_laws.specs.Ended.{ErrorsFailed}

-- what is answered by the session with this number, in which this was sent
abbrev pub session_answer : ℕ → SessionEnd → List ℕ → Answer
session_answer number e sent = record { status = end_status e; output = end_output number e; errors = end_errors e; state = None; taken = 1; links = sent ∷ []; moments = 1; address = None }

-- A session at the next moment over what the next link gives: what is left of the outside is its answer's, Output has grown by it, and so has Errors, where all lines
-- stand there whole.
pub record ServedNext (p : ProfileView) (number : ℕ) (s t : ServerState) (tally later : Tally) (acts : List Act) (x y : Outside) : Type 0 where
  pub sent : List ℕ
  pub ends : SessionEnd
  pub session : commands.Session p s (get_or x.view.moments 0 0) (next_link x.view) sent t (added_in acts) ends
  pub status : later.status ≡ first_fault tally.status (end_status ends)
  pub output : y.view.written.output ≡ x.view.written.output ++ end_output number ends
  pub whole : later.whole ≡ true → tally.whole ≡ true
  pub errors : later.whole ≡ true → y.view.written.errors ≡ x.view.written.errors ++ end_errors ends
  pub leaves : Leaves (session_answer number ends sent) x.view y.view

-- after the next session others may come: then it is such a one, however it ends
abbrev pub NextAnswers : Type 0
NextAnswers = (p : ProfileView) (number : ℕ) (s t : ServerState) (tally later : Tally) (acts : List Act) (x y : Outside) → ServesNext p number s tally acts (more t later) → Fits (events_in acts) x y → ServedNext p number s t tally later acts x y

-- So many sessions from a server on, however each ends: the status is that of the first fault, Output and Errors have grown by what is told of them, what is left of the
-- outside is their answer's, and the entries of their posts are those that were added.
pub record ServedAll (p : ProfileView) (address : List ℕ) (n : ℕ) (s : ServerState) (acts : List Act) (status : Status) (x y : Outside) : Type 0 where
  pub total : Total
  pub sessions : Sessions IsAny p s x.view.links x.view.moments n total
  pub entries : added_in acts ≡ total.entries
  pub status_is : status ≡ total.status
  pub output : y.view.written.output ≡ x.view.written.output ++ total.output
  pub errors : Tells (ErrorsFailed (events_in acts)) total.errors x.view y.view
  pub leaves : Leaves (total_answer address n total) x.view y.view

-- A run that ended by no fault of Output, nor by one of a link before all were served, served all.
abbrev pub AllAnswer : Type 0
AllAnswer = (p : ProfileView) (address : List ℕ) (n : ℕ) (s : ServerState) (acts : List Act) (status : Status) (x y : Outside) → ServesAll address n s p acts (Run status) → Fits (events_in acts) x y
    → status ≢ WriteFault → status ≢ LinkFault → ServedAll p address n s acts status x y
