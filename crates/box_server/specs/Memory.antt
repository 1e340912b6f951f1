-- What a keeper in memory shows. This project's own.
use Rattle.std.specs.Prelude.{◌≡◌, ℕ, ◌≤◌, ◌<◌, ◌⊎◌, List, Bool, true, false, length, ◌==◌, Some, Result, Ok, Err, Vec}
use Rattle.std.specs.declared.alloc.Global.{Global}
use Rattle.tl_base.specs.Causes.{one_more}
use Rattle.tl_base.specs.Cuts.{is_among}
use Rattle.box_server.specs.Keeping.{KeeperState}
use Rattle.box_server.specs.declared.entry.Entry.{Entry}
use Rattle.box_server.specs.declared.store_fault.GetFault.{GetFault}
use Rattle.box_server.specs.declared.store_fault.GetFault.TheVariants as getting
use Rattle.box_server.specs.declared.mem_keeper.MemKeeper.{MemKeeper}

abbrev pub keeper_entries : MemKeeper → List Entry
keeper_entries k = k.entries.items

-- how often a call has failed
abbrev pub keeper_faults : MemKeeper → ℕ
keeper_faults k = k.faults

-- how many entries it takes in all
abbrev pub keeper_room : MemKeeper → ℕ
keeper_room k = k.room

-- it tells its entries, and was told to fail at no call where it is sound
abbrev pub keeper_state : MemKeeper → KeeperState
keeper_state k = record { entries = Some (keeper_entries k); faults = keeper_faults k; sound = length k.fails.items == 0; room = keeper_room k }

-- no call was made yet, and these are the numbers that fail
abbrev pub IsUncalled : MemKeeper → Vec ℕ Global → Type 0
IsUncalled k fails = (k.calls ≡ 0) × (k.fails ≡ fails)

-- this call fails, by its number
abbrev pub is_failing : MemKeeper → Bool
is_failing k = is_among k.calls k.fails.items

-- the next call has the next number; the numbers that fail are kept
pub record CountsCall (old new : MemKeeper) : Type 0 where
  pub number : new.calls ≡ one_more old.calls
  pub fails : new.fails ≡ old.fails

-- a call fails exactly where its number is one that fails
abbrev pub FailsByNumber : {T E : Type 0} → MemKeeper → Result T E → Type 0
FailsByNumber k (Ok x) = is_failing k ≡ false
FailsByNumber k (Err e) = is_failing k ≡ true

-- a get fails exactly so, want of memory aside, and each failure is counted once
abbrev pub GetsByNumber : {T : Type 0} → MemKeeper → MemKeeper → Result T GetFault → Type 0
GetsByNumber old new (Ok x) = (is_failing old ≡ false) × (keeper_faults new ≡ keeper_faults old)
GetsByNumber old new (Err getting.Failed) = (is_failing old ≡ true) × (keeper_faults new ≡ one_more (keeper_faults old))
GetsByNumber old new (Err getting.Memory) = (is_failing old ≡ false) × (keeper_faults new ≡ keeper_faults old)

-- an add fails exactly where its number is one that fails, or where there are as many entries as there is room for
abbrev pub AddsByNumber : {T E : Type 0} → MemKeeper → Result T E → Type 0
AddsByNumber k (Ok u) = (is_failing k ≡ false) × (length (keeper_entries k) < keeper_room k)
AddsByNumber k (Err e) = (is_failing k ≡ true) ⊎ (keeper_room k ≤ length (keeper_entries k))
