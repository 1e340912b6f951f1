-- The counts of failed calls to an outside, one for each kind of call. This project's own.
use Rattle.std.specs.Prelude.{ℕ, Result, Ok, Err}
use Rattle.tl_base.specs.Causes.{one_more}
use Rattle.tl_base.specs.declared.counts.Counts.{Counts}
use Rattle.tl_base.specs.declared.counts.Kind.{Kind}
use Rattle.tl_base.specs.declared.counts.Kind.TheVariants.{Reads, Writes, Links}
use Rattle.tl_base.specs.declared.host.Slot.{Slot}
use Rattle.tl_base.specs.declared.host.Slot.TheVariants as slots
use Rattle.tl_base.specs.declared.host.Out.{Out}
use Rattle.tl_base.specs.declared.host.Out.TheVariants as outs

-- nothing has failed
abbrev pub no_faults : Counts
no_faults = record { reads = 0; writes = 0; links = 0 }

-- the count of a kind
abbrev pub count_of : Kind → Counts → ℕ
count_of Reads c = c.reads
count_of Writes c = c.writes
count_of Links c = c.links

-- the counts, with n for this kind
abbrev pub with_count : Kind → ℕ → Counts → Counts
with_count Reads n c = record c { reads = n }
with_count Writes n c = record c { writes = n }
with_count Links n c = record c { links = n }

-- which count covers a slot
abbrev pub slot_kind : Slot → Kind
slot_kind slots.Schema = Reads
slot_kind slots.Input = Reads
slot_kind slots.State = Reads
slot_kind slots.Link = Links

-- which count covers an out
abbrev pub out_kind : Out → Kind
out_kind outs.Output = Writes
out_kind outs.Errors = Writes
out_kind outs.State = Writes
out_kind outs.Link = Links

-- the counts after a call of a kind that counts each failure once, and nothing else
abbrev pub counts_after : {T E : Type 0} → Kind → Counts → Result T E → Counts
counts_after kind before (Ok x) = before
counts_after kind before (Err e) = with_count kind (one_more (count_of kind before)) before
