-- What may have been written where memory runs out.
use Rattle.std.proofs.Common.{ℕ, List, []}
use Rattle.tl_base.specs.declared.host.Out.{Out}
use Rattle.tl_base.specs.declared.host.Slot.{Slot}
use Rattle.outside.specs.Begun.{WritesOnly}
use Rattle.outside.specs.Events.{Event, opened, took, ended, read_failed, created, put, write_failed, listened, connected, accepted, told}
use Rattle.outside.specs.Laws.{Keeps}
use Rattle.outside.specs.Pieces.{ReadsFile, Takes}
use Rattle.outside.specs.Steps.{Calls}
use Rattle.outside.proofs.Causing.{keeps_call, keeps_file, keeps_take}

-- what writes nothing writes nothing but to these
pub more_may : (outs : List Out) (e : Event) → WritesOnly [] e → WritesOnly outs e
more_may outs (opened slot name ok) h = tt
more_may outs (took slot bytes) h = tt
more_may outs (ended slot) h = tt
more_may outs (read_failed slot) h = tt
more_may outs (created out name ok) h = absurd h
more_may outs (put out bytes) h = absurd h
more_may outs (write_failed out) h = absurd h
more_may outs (listened address ok) h = tt
more_may outs (connected address ok) h = tt
more_may outs (accepted ok) h = tt
more_may outs (told moment) h = tt

module _ (outs : List Out) where
  -- nothing is written where a file is read
  pub may_take : (slot : Slot) (count : ℕ) → Keeps (WritesOnly outs) (Takes slot count)
  may_take slot count = keeps_take (WritesOnly outs) slot count (λ b. tt) tt tt

  pub may_file : (slot : Slot) (name : List ℕ) (limit : ℕ) → Keeps (WritesOnly outs) (ReadsFile slot name limit)
  may_file slot name limit = keeps_file (WritesOnly outs) slot name limit (λ ok. tt) (λ b. tt) tt tt

  pub may_open : (slot : Slot) (name : List ℕ) → Keeps (WritesOnly outs) (Calls (opened slot name))
  may_open slot name = keeps_call (WritesOnly outs) (opened slot name) (λ ok. tt)
