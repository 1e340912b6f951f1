-- What a command over a link answers, and what it leaves. This project's own.
use Rattle.std.specs.Prelude.{◌≡◌, ◌⊎◌, ℕ, List, [], ◌∷◌, ◌++◌, get_or, Option, Some, None}
use Rattle.tl_base.specs.Outside.{View}
use Rattle.outside.specs.declared.status.Status.{Status}
use Rattle.outside.specs.declared.status.Status.TheVariants.{Done, LinkFault}
use Rattle.outside.specs.Answer.{Answer, printed, link_fault_line}
use Rattle.outside.specs.Jobs.{Job}

-- ---- answers

-- what a run answers that a link's fault ends: the fault's line alone
abbrev pub cut_off : Answer
cut_off = printed LinkFault [] link_fault_line

-- what a run answers that makes a link to an address, over which it sends this
abbrev pub over_link : List ℕ → List ℕ → Status → List ℕ → List ℕ → Answer
over_link address sent status output line = record { status = status; output = output; errors = line; state = None; taken = 1; links = sent ∷ []; moments = 0; address = Some address }

-- likewise, and then it creates State under a name, with these bytes
abbrev pub saves_after : List ℕ → List ℕ → List ℕ → List ℕ → List ℕ → Answer
saves_after address sent name bytes output = record (over_link address sent Done output []) { state = Some (name, bytes) }

-- a job that makes a link: a fault of that ends it before it has written anything
abbrev pub linking_job : (View → Answer → Type 0) → (View → View → Type 0) → Job
linking_job answers keeps = record { answers = answers; broken = λ v a. a ≡ cut_off; partial = λ v a. ⊥; in_pieces = ⊥; reads_on = ⊥; tells = ⊥; linked = Unit {0}; keeps = keeps }

-- ---- the outside

-- what the next link to come gives
abbrev pub next_link : View → List ℕ
next_link v = get_or v.links 0 []

-- ---- what is left as it was

-- files, moments and the room are as before
pub record KeepsFiles (v w : View) : Type 0 where
  pub files : w.files ≡ v.files
  pub moments : w.moments ≡ v.moments
  pub room : w.room ≡ v.room

-- links, those to come and those taken, and the address are as before, unless the work came to them
abbrev pub LeavesLinks : Type 0 → View → View → Type 0
LeavesLinks came v w = ((w.links ≡ v.links) × (w.written.links ≡ v.written.links) × (w.address ≡ v.address)) ⊎ came

-- State was created under this name, and has a prefix of these bytes
abbrev pub BeginsState : Option (List ℕ × List ℕ) → View → Type 0
BeginsState None w = ⊥
BeginsState (Some s) w = (w.state_name ≡ Some s.0) × (rest : List ℕ) × (w.written.state ++ rest ≡ s.1)

-- State and its name are as before; or it was created for an answer, and has a prefix of what that writes there
abbrev pub LeavesState : (Answer → Type 0) → View → View → Type 0
LeavesState Answers v w = ((w.written.state ≡ v.written.state) × (w.state_name ≡ v.state_name)) ⊎ ((a : Answer) × Answers a × BeginsState a.state w)
