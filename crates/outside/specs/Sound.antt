-- Where a job has an answer over an outside, with room for it, and which statuses are those of a fault.
-- This project's own.
use Rattle.std.specs.Prelude.{◌≡◌, ◌⊎◌, ◌≤◌, length, IfSome}
use Rattle.std.specs.List.{All}
use Rattle.tl_base.specs.Outside.{View, HasRoom}
use Rattle.tl_base.specs.declared.host.Out.TheVariants.{Output}
use Rattle.outside.specs.Answer.{Answer}
use Rattle.outside.specs.declared.status.Status.{Status}
use Rattle.outside.specs.declared.status.Status.TheVariants.{ReadFault, WriteFault, LinkFault}
use Rattle.outside.specs.Jobs.{Job}

-- there is room for all that an answer writes and names, and the links that it asks for are to come
pub record HasRoomFor (a : Answer) (v : View) : Type 0 where
  pub output : HasRoom Output (length a.output) v
  pub state : IfSome a.state (λ s. (length s.0 ≤ v.room) × (length s.1 ≤ v.room))
  pub links : All (λ bytes. length bytes ≤ v.room) a.links
  pub coming : a.taken ≤ length v.links
  pub address : IfSome a.address (λ name. length name ≤ v.room)

-- the job has an answer over the outside, and there is room for it
abbrev pub Fits : Job → View → Type 0
Fits job v = (a : Answer) × job.answers v a × HasRoomFor a v

-- the status of a fault of the outside
abbrev pub IsFault : Status → Type 0
IsFault s = (s ≡ ReadFault) ⊎ (s ≡ WriteFault) ⊎ (s ≡ LinkFault)
