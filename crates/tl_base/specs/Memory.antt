-- What a source and a sink in memory show. This project's own.
use Rattle.std.specs.Prelude.{◌≡◌, ℕ, ◌-◌, ◌≤◌, ◌<◌, ◌⊎◌, min, List, Bool, true, false, length, drop, ◌==◌, Some, Result, Ok, Err, Vec}
use Rattle.std.specs.declared.alloc.Global.{Global}
use Rattle.tl_base.specs.Causes.{one_more}
use Rattle.tl_base.specs.Cuts.{is_among, cut_at}
use Rattle.tl_base.specs.Using.{SourceState, SinkState, nothing_aside}
use Rattle.tl_base.specs.declared.mem_source.MemSource.{MemSource}
use Rattle.tl_base.specs.declared.mem_sink.MemSink.{MemSink}

-- the bytes that it has left
abbrev pub source_bytes : MemSource → List ℕ
source_bytes s = drop s.at s.bytes

-- how often reading has failed
abbrev pub source_faults : MemSource → ℕ
source_faults s = s.faults

-- it was told to fail at no read
abbrev pub is_sound_source : MemSource → Bool
is_sound_source s = length s.fails.items == 0

-- it tells its bytes, and nothing stands beside them
abbrev pub source_state : MemSource → SourceState
source_state s = record { left = Some (source_bytes s); faults = source_faults s; aside = nothing_aside; sound = is_sound_source s }

-- no read was made yet, and these are the cuts and the numbers that fail
abbrev pub IsUnread : MemSource → Vec ℕ Global → Vec ℕ Global → Type 0
IsUnread s cuts fails = (s.reads ≡ 0) × (s.cuts ≡ cuts) × (s.fails ≡ fails)

-- A read into a buffer with so much room fails where its number is one that fails. Else it gives as many bytes as the cut, the
-- buffer and what is left allow.
abbrev pub ReadsPiece : {E : Type 0} → MemSource → ℕ → Result ℕ E → Type 0
ReadsPiece s room (Ok n) = (is_among s.reads s.fails.items ≡ false) × (n ≡ min (cut_at s.cuts.items s.reads) (min room (length (source_bytes s))))
ReadsPiece s room (Err e) = is_among s.reads s.fails.items ≡ true

-- the next read has the next number; the cuts and the numbers that fail are kept
pub record CountsRead (old new : MemSource) : Type 0 where
  pub number : new.reads ≡ one_more old.reads
  pub cuts : new.cuts ≡ old.cuts
  pub fails : new.fails ≡ old.fails

-- ---- a sink

-- the bytes that were written
abbrev pub sink_bytes : MemSink → List ℕ
sink_bytes s = s.bytes.items

-- how many bytes it takes in all
abbrev pub sink_room : MemSink → ℕ
sink_room s = s.room

-- how often writing has failed
abbrev pub sink_faults : MemSink → ℕ
sink_faults s = s.faults

-- it was told to fail at no write
abbrev pub is_sound_sink : MemSink → Bool
is_sound_sink s = length s.fails.items == 0

-- it tells its bytes, and nothing stands beside them
abbrev pub sink_state : MemSink → SinkState
sink_state s = record { written = Some (sink_bytes s); faults = sink_faults s; aside = nothing_aside; sound = is_sound_sink s; room = sink_room s }

-- no write was made yet, and these are the numbers that fail
abbrev pub IsUnwritten : MemSink → Vec ℕ Global → Type 0
IsUnwritten s fails = (s.writes ≡ 0) × (s.fails ≡ fails)

-- A write of a piece of so many bytes fails where its number is one that fails, or where no room is left. Else it takes as many
-- bytes as fit.
abbrev pub TakesWhatFits : {E : Type 0} → MemSink → ℕ → Result ℕ E → Type 0
TakesWhatFits s size (Ok n) = (is_among s.writes s.fails.items ≡ false) × (0 < n) × (n ≡ min size (s.room - length s.bytes.items))
TakesWhatFits s size (Err e) = (is_among s.writes s.fails.items ≡ true) ⊎ (s.room ≤ length s.bytes.items)

-- the next write has the next number; the numbers that fail are kept
pub record CountsWrite (old new : MemSink) : Type 0 where
  pub number : new.writes ≡ one_more old.writes
  pub fails : new.fails ≡ old.fails
