-- What `post` has written, whatever stops it. This project's own.
use Rattle.std.specs.Prelude.{◌≡◌, ◌⊎◌, ℕ, List, [], ◌∷◌, ◌++◌}
use Rattle.tl_numbers.specs.Bytes.{AreBytes}
use Rattle.tl_base.specs.Outside.{written_of}
use Rattle.tl_base.specs.declared.host.Out.TheVariants.{Output}
use Rattle.outside.specs.Answer.{Answer}
use Rattle.outside.specs.Kept.{AddsPrefix}
use Rattle.outside.specs.declared.status.Status.{Status}
use Rattle.outside.specs.declared.status.Status.TheVariants.{Memory}
use Rattle.outside.specs.Begun.{to_link}
use Rattle.outside.specs.Events.{Event, Outside}
use Rattle.outside.specs.Runs.{RunsIn}
use Rattle.outside.specs.Fits.{Fits}
use Rattle.session_commands.specs.Linked.{next_link}
use Rattle.session_commands.specs.Post.{PostAnswer}
use Rattle.session_rooms.specs.Post.{posts}

-- nothing was written to Output, and no link was taken
abbrev pub WritesNone : Outside → Outside → Type 0
WritesNone s n = (written_of Output n.view ≡ written_of Output s.view) × (n.view.written.links ≡ s.view.written.links)

-- over a link a prefix of what the answer sends was sent, and a prefix of its Output was written
pub record WritesSome (a : Answer) (s n : Outside) : Type 0 where
  pub output : AddsPrefix (written_of Output s.view) (written_of Output n.view) a.output
  pub sent : List ℕ
  pub unsent : List ℕ
  pub links : n.view.written.links ≡ s.view.written.links ++ sent ∷ []
  pub of : a.links ≡ (sent ++ unsent) ∷ []

-- A run has written nothing, or some of what an answer does; where memory stops it, nothing to Output.
abbrev pub PostWrites : Type 0
PostWrites =
    (schema address input : List ℕ) (t : List Event) (status : Status) (s n : Outside) → RunsIn to_link (posts schema address input) t status → Fits t s n → AreBytes (next_link s.view)
    → WritesNone s n ⊎ ((a : Answer) × PostAnswer s.view.files (next_link s.view) schema address input a × WritesSome a s n) ⊎ ((status ≡ Memory) × (written_of Output n.view ≡ written_of Output s.view))
