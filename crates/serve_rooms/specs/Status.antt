-- The numbers of statuses over a keeper. This project's own.
use Rattle.std.specs.Prelude.{ℕ}
use Rattle.outside.specs.Answer.{status_number}
use Rattle.serve_rooms.specs.declared.status.KeptStatus.{KeptStatus}
use Rattle.serve_rooms.specs.declared.status.KeptStatus.TheVariants.{Run, KeepFault}

-- the number that a process ends with
abbrev pub kept_number : KeptStatus → ℕ
kept_number (Run s) = status_number s
kept_number KeepFault = 8
