-- That events fit what an outside holds, and which calls it was told to fail. This project's own.
use Rattle.std.specs.Prelude.{◌≡◌, ◌⊎◌, ℕ, ◌<◌, ◌≤◌, List, [], ◌∷◌, ◌++◌, length, Bool, true, false, Result, Ok, Err}
use Rattle.tl_base.specs.Calls.{Opens, Creates, Listens, Connects, Accepts, TellsMoment}
use Rattle.tl_base.specs.Outside.{View, IsThere, left_of, with_left, written_of, with_written}
use Rattle.tl_base.specs.Scripts.{FailsNext}
use Rattle.tl_base.specs.Scripts as scripts
use Rattle.tl_base.specs.declared.mem_script.HostCall.{HostCall}
use Rattle.tl_base.specs.declared.mem_script.HostCall.TheVariants.{Open, Read, Create, Write, Listen, Connect, Accept}
use Rattle.outside.specs.Events.{Event, Outside, opened, took, ended, read_failed, created, put, write_failed, listened, connected, accepted, told}

abbrev pub answer : Bool → Result (Unit {0}) (Unit {0})
answer true = Ok tt
answer false = Err tt

-- one more call of this kind was made
abbrev pub Made : HostCall → Outside → Outside → Type 0
Made call s n = n.script ≡ scripts.counted call s.script

-- the next call of this kind is one that was told to fail
abbrev pub IsToFail : HostCall → Outside → Type 0
IsToFail call s = FailsNext call s.script

-- a call is made that fails exactly where it was told to, or where not P
abbrev pub Answers : HostCall → (View → Type 0) → Bool → Outside → Outside → Type 0
Answers call P true s n = ¬ IsToFail call s × Made call s n
Answers call P false s n = (IsToFail call s ⊎ ¬ P s.view) × Made call s n

-- a name for which there is room
abbrev pub HasRoomFor : List ℕ → View → Type 0
HasRoomFor name v = length name ≤ v.room

-- what an event does to an outside
abbrev pub Happens : Event → Outside → Outside → Type 0
Happens (opened slot name ok) s n = Opens slot name (answer ok) s.view n.view × Answers Open (IsThere name) ok s n
Happens (took slot bytes) s n = (left_of slot s.view ≡ bytes ++ left_of slot n.view) × (n.view ≡ with_left slot (left_of slot n.view) s.view) × ¬ IsToFail (Read slot) s × Made (Read slot) s n
Happens (ended slot) s n = (left_of slot s.view ≡ []) × (n.view ≡ s.view) × ¬ IsToFail (Read slot) s × Made (Read slot) s n
Happens (read_failed slot) s n = (n.view ≡ s.view) × IsToFail (Read slot) s × Made (Read slot) s n
Happens (created out name ok) s n = Creates out name (answer ok) s.view n.view × Answers Create (HasRoomFor name) ok s n
Happens (put out bytes) s n = (n.view ≡ with_written out (written_of out s.view ++ bytes) s.view) × ¬ IsToFail (Write out) s × Made (Write out) s n
Happens (write_failed out) s n = (n.view ≡ s.view) × (IsToFail (Write out) s ⊎ (s.view.room ≤ length (written_of out s.view))) × Made (Write out) s n
Happens (listened address ok) s n = Listens address (answer ok) s.view n.view × Answers Listen (HasRoomFor address) ok s n
Happens (connected address ok) s n = Connects address (answer ok) s.view n.view × Answers Connect (λ v. (0 < length v.links) × HasRoomFor address v) ok s n
Happens (accepted ok) s n = Accepts (answer ok) s.view n.view × Answers Accept (λ v. 0 < length v.links) ok s n
Happens (told moment) s n = TellsMoment moment s.view n.view × (n.script ≡ s.script)

-- the events, one after the other
abbrev pub Fits : List Event → Outside → Outside → Type 0
Fits [] s n = n ≡ s
Fits (e ∷ t) s n = (m : Outside) × Happens e s m × Fits t m n
