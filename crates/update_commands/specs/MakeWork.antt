-- What `make` does. This project's own.
use Rattle.std.specs.Prelude.{ℕ, List}
use Rattle.wire_profile.specs.Indexes.{ProfileView}
use Rattle.outside.specs.declared.status.Status.{Status}
use Rattle.outside.specs.Printing.{Answers}
use Rattle.outside.specs.Steps.{Step}
use Rattle.codec_rooms.specs.Typed.{OfCommand}
use Rattle.update_commands.specs.Make.{OfMadeRun}
use Rattle.update_commands.specs.Profile.{OfProfile}

-- what follows of a profile, whichever it is: the run of the number with so many steps is printed
abbrev pub makes_by : ℕ → ℕ → ProfileView → Step Status
makes_by number count p = Answers (OfMadeRun number count)

-- `make SCHEMA NUMBER STEPS`: the schema's file is read, and of a profile the run's summary is written, or why there is none
abbrev pub makes : List ℕ → ℕ → ℕ → Step Status
makes schema number count = OfCommand (OfProfile (makes_by number count)) schema
