-- What `serve` answers: how the sessions end that it serves in turn from one server, or where and why its schema is refused. This project's own.
use Rattle.std.specs.Prelude.{◌≡◌, ◌⊎◌, ℕ, zero, suc, ◌<◌, ◌≤◌, ◌^◌, List, [], ◌∷◌, ◌++◌, get_or, Option, Some, None, Result, Ok, Err}
use Rattle.std.specs.List.{AllByRecursion}
use Rattle.tl_numbers.specs.Bytes.{ListsOfBytes}
use Rattle.tl_base.specs.Contents.{Files, HoldBytes}
use Rattle.tl_base.specs.Outside.{View, IsFile}
use Rattle.box_events.specs.declared.requests.Numbered.{Numbered}
use Rattle.box_server.specs.Servers.{ServerState, new_server, dated_at}
use Rattle.box_server.specs.declared.entry.Entry.{Entry}
use Rattle.wire_profile.specs.Indexes.{ProfileView}
use Rattle.update_sessions.specs.declared.fault.SessionFault.{SessionFault}
use Rattle.update_sessions.specs.Kept.{kept_in}
use Rattle.update_sessions.specs.Served.{Serves}
use Rattle.outside.specs.Answer.{Answer, link_fault_line}
use Rattle.outside.specs.Jobs.{Job}
use Rattle.outside.specs.declared.status.Status.{Status}
use Rattle.outside.specs.declared.status.Status.TheVariants.{Done, PeerFault, LinkFault}
use Rattle.fault_lines.specs.Profiled.{OfProfileFile, HasProfile}
use Rattle.session_commands.specs.Linked.{LeavesLinks}
use Rattle.session_commands.specs.Lines.{served_line}
use Rattle.session_commands.specs.SessionEnds.{IsShort, session_line}

-- ---- one session

-- how a session ends: without a fault, after so many frames; by the other end's fault, which this line tells; or by a fault of its link
pub data SessionEnd : Type 0 where
  served : (frames : ℕ) → SessionEnd
  peer_fault : (line : List ℕ) → SessionEnd
  link_fault : SessionEnd

-- a failed session's end by its line, which a fault of its link hasn't
abbrev pub end_by : Option (List ℕ) → SessionEnd
end_by (Some line) = peer_fault line
end_by None = link_fault

-- a session's end by what was answered of it
abbrev pub end_of : Result ℕ SessionFault → SessionEnd
end_of (Ok n) = served n
end_of (Err f) = end_by (session_line f)

-- a length that no packet has is one of four bytes
abbrev pub IsShortEnd : Result ℕ SessionFault → Type 0
IsShortEnd (Ok n) = Unit {0}
IsShortEnd (Err f) = IsShort f

-- a session at a moment over a link that gives these bytes: what was sent, the server after it, the entries of its new posts, and how it ended
pub record Session (p : ProfileView) (s : ServerState) (now : ℕ) (bytes out : List ℕ) (t : ServerState) (more : List Entry) (e : SessionEnd) : Type 0 where
  pub answer : Result ℕ SessionFault
  pub calls : List Numbered
  pub serves : Serves p (dated_at s now) bytes out t answer calls
  pub entries : more ≡ kept_in (dated_at s now) calls
  pub word : IsShortEnd answer
  pub ended : end_of answer ≡ e

-- the session's link did not fail
abbrev pub IsWhole : SessionEnd → Type 0
IsWhole (served n) = Unit {0}
IsWhole (peer_fault line) = Unit {0}
IsWhole link_fault = ⊥

abbrev pub IsAny : SessionEnd → Type 0
IsAny e = Unit {0}

-- ---- what is told of it

-- on Output, by the number of its connection
abbrev pub end_output : ℕ → SessionEnd → List ℕ
end_output k (served n) = served_line k n
end_output k (peer_fault line) = []
end_output k link_fault = []

-- on Errors
abbrev pub end_errors : SessionEnd → List ℕ
end_errors (served n) = []
end_errors (peer_fault line) = line
end_errors link_fault = link_fault_line

abbrev pub end_status : SessionEnd → Status
end_status (served n) = Done
end_status (peer_fault line) = PeerFault
end_status link_fault = LinkFault

-- ---- sessions in turn

-- what sessions came to: the server after them, the entries of new posts, what was told on Output and on Errors, what was sent over each link, and the
-- status of the first fault
pub record Total : Type 0 where
  pub server : ServerState
  pub entries : List Entry
  pub output : List ℕ
  pub errors : List ℕ
  pub sent : List (List ℕ)
  pub status : Status

abbrev pub no_sessions : ServerState → Total
no_sessions s = record { server = s; entries = []; output = []; errors = []; sent = []; status = Done }

-- the status of the first fault
abbrev pub first_fault : Status → Status → Status
first_fault Done s = s
first_fault before s = before

-- what they came to with one more, which has this number
abbrev pub with_session : ℕ → SessionEnd → List ℕ → ServerState → List Entry → Total → Total
with_session k e out t more r =
    record { server = t; entries = r.entries ++ more; output = r.output ++ end_output k e; errors = r.errors ++ end_errors e; sent = r.sent ++ out ∷ []; status = first_fault r.status (end_status e) }

-- Sessions from a server on, each of which ends so: that with the number k, counted from 0, is over the link and at the moment with that number.
abbrev pub Sessions : (SessionEnd → Type 0) → ProfileView → ServerState → List (List ℕ) → List ℕ → ℕ → Total → Type 0
Sessions Is p s given moments zero r = r ≡ no_sessions s
Sessions Is p s given moments (suc k) r =
    (q : Total) × (e : SessionEnd) × (out : List ℕ) × (t : ServerState) × (more : List Entry) × Sessions Is p s given moments k q × Is e × Session p q.server (get_or moments k 0) (get_or given k []) out t more e × (r ≡ with_session k e out t more q)

-- ---- answers

-- what is answered by so many sessions at an address
abbrev pub total_answer : List ℕ → ℕ → Total → Answer
total_answer address n r = record { status = r.status; output = r.output; errors = r.errors; state = None; taken = n; links = r.sent; moments = n; address = Some address }

abbrev pub OfSessions : ServerState → List ℕ → (SessionEnd → Type 0) → ℕ → List (List ℕ) → List ℕ → ProfileView → Answer → Type 0
OfSessions s address Is n given moments p a = (r : Total) × Sessions Is p s given moments n r × (a ≡ total_answer address n r)

-- serve's answer, over links that give these bytes at these moments, none of which fails
abbrev pub ServeAnswer : Files → List (List ℕ) → List ℕ → List ℕ → List ℕ → ℕ → Answer → Type 0
ServeAnswer files given moments schema address n a = OfProfileFile (OfSessions new_server address IsWhole n given moments) files schema a

-- what is left by a run that serves
pub record KeepsServing (v w : View) : Type 0 where
  pub files : w.files ≡ v.files
  pub room : w.room ≡ v.room
  pub state : (w.written.state ≡ v.written.state) × (w.state_name ≡ v.state_name)
  pub input : w.left.input ≡ v.left.input

-- what `serve` leaves: files, State and Input; and links, the address and moments, where the schema is no profile
pub record ServeKeeps (schema : List ℕ) (v w : View) : Type 0 where
  pub rest : KeepsServing v w
  pub links : LeavesLinks (HasProfile v.files schema) v w
  pub moments : (w.moments ≡ v.moments) ⊎ HasProfile v.files schema

-- What is answered by so many sessions, each of which ends so, over links that give these bytes at these moments, by the profile of a schema.
abbrev pub SessionsAnswer : Type 1
SessionsAnswer = (SessionEnd → Type 0) → ℕ → List (List ℕ) → List ℕ → ProfileView → Answer → Type 0

-- The job of n sessions by a schema: where links may fail, they do in sessions of any end; where the run stops, the first sessions were told.
abbrev pub serving_job : List ℕ → ℕ → SessionsAnswer → Job
serving_job schema n Of = record {
  answers = λ v a. OfProfileFile (Of IsWhole n v.links v.moments) v.files schema a;
  broken = λ v a. (h : HasProfile v.files schema) × Of IsAny n v.links v.moments h.p a;
  partial = λ v a. (h : HasProfile v.files schema) × (k : ℕ) × (k ≤ n) × Of IsAny k v.links v.moments h.p a;
  in_pieces = Unit {0};
  reads_on = ⊥;
  tells = Unit {0};
  linked = Unit {0};
  keeps = ServeKeeps schema;
}

-- `serve SCHEMA ADDRESS SESSIONS`
abbrev pub serve_job : List ℕ → List ℕ → ℕ → Job
serve_job schema address n = serving_job schema n (OfSessions new_server address)

-- ---- laws

-- over links that give bytes there is one answer at most
abbrev pub ServeHasOneAnswer : Type 0
ServeHasOneAnswer =
    (files : Files) (given : List (List ℕ)) → ListsOfBytes given → (moments : List ℕ) (schema address : List ℕ) (n : ℕ) (a c : Answer) → ServeAnswer files given moments schema address n a → ServeAnswer files given moments schema address n c → a ≡ c

-- where files hold bytes, that of the schema is there, and moments are of 31 bits, there is one over links that give bytes
abbrev pub ServesAreAnswered : Type 0
ServesAreAnswered =
    (files : Files) → HoldBytes files → (given : List (List ℕ)) → ListsOfBytes given → (moments : List ℕ) → AllByRecursion (λ m. m < 2 ^ 31) moments → (schema address : List ℕ) (n : ℕ) → IsFile files schema
    → (a : Answer) × ServeAnswer files given moments schema address n a
