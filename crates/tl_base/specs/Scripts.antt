-- What a host in memory was told of its calls: which fail, and how much is given. This project's own.
use Rattle.std.specs.Prelude.{ℕ, List, [], Bool, length, ◌==◌, Contains}
use Rattle.tl_base.specs.Causes.{one_more}
use Rattle.tl_base.specs.declared.host.Slot.TheVariants as slots
use Rattle.tl_base.specs.declared.host.Out.TheVariants as outs
use Rattle.tl_base.specs.declared.mem_script.HostCall.{HostCall}
use Rattle.tl_base.specs.declared.mem_script.HostCall.TheVariants.{Open, Read, Create, Write, Listen, Connect, Accept}
use Rattle.tl_base.specs.declared.mem_script.Failing.{Failing}
use Rattle.tl_base.specs.declared.mem_script.Made.{Made}
use Rattle.tl_base.specs.declared.mem_script.Script.{Script}

-- how many calls of a kind there were
abbrev pub made_of : HostCall → Made → ℕ
made_of Open m = m.opens
made_of (Read slots.Schema) m = m.schema_reads
made_of (Read slots.Input) m = m.input_reads
made_of (Read slots.State) m = m.state_reads
made_of (Read slots.Link) m = m.link_reads
made_of Create m = m.creates
made_of (Write outs.Output) m = m.output_writes
made_of (Write outs.Errors) m = m.errors_writes
made_of (Write outs.State) m = m.state_writes
made_of (Write outs.Link) m = m.link_writes
made_of Listen m = m.listens
made_of Connect m = m.connects
made_of Accept m = m.accepts

-- likewise, with n for this kind
abbrev pub with_made : HostCall → ℕ → Made → Made
with_made Open n m = record m { opens = n }
with_made (Read slots.Schema) n m = record m { schema_reads = n }
with_made (Read slots.Input) n m = record m { input_reads = n }
with_made (Read slots.State) n m = record m { state_reads = n }
with_made (Read slots.Link) n m = record m { link_reads = n }
with_made Create n m = record m { creates = n }
with_made (Write outs.Output) n m = record m { output_writes = n }
with_made (Write outs.Errors) n m = record m { errors_writes = n }
with_made (Write outs.State) n m = record m { state_writes = n }
with_made (Write outs.Link) n m = record m { link_writes = n }
with_made Listen n m = record m { listens = n }
with_made Connect n m = record m { connects = n }
with_made Accept n m = record m { accepts = n }

-- no call was made
abbrev pub none_made : Made
none_made = record {
  opens = 0;
  schema_reads = 0;
  input_reads = 0;
  state_reads = 0;
  link_reads = 0;
  creates = 0;
  output_writes = 0;
  errors_writes = 0;
  state_writes = 0;
  link_writes = 0;
  listens = 0;
  connects = 0;
  accepts = 0;
}

-- what a host in memory was told: how much the reads of each slot give at most, by their numbers, and which calls fail; and how many there were
pub record ScriptView : Type 0 where
  pub cuts : List ℕ
  pub fails : List Failing
  pub made : Made

-- what it was told
abbrev pub script_of : Script → ScriptView
script_of s = record { cuts = s.cuts.items; fails = s.fails.items; made = s.made }

-- nothing was told, and no call was made
abbrev pub no_script : ScriptView
no_script = record { cuts = []; fails = []; made = none_made }

-- one more call of a kind was made
abbrev pub counted : HostCall → ScriptView → ScriptView
counted call s = record s { made = with_made call (one_more (made_of call s.made)) s.made }

-- the next call of this kind is one that fails
abbrev pub FailsNext : HostCall → ScriptView → Type 0
FailsNext call s = Contains s.fails (record { call = call; number = made_of call s.made })

-- it was told to fail at no call
abbrev pub none_fails : ScriptView → Bool
none_fails s = length s.fails == 0
