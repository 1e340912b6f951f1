-- What an outside shows where it tells its contents: files, what is left of each slot, what was written to each out, links and moments to come.
-- This project's own.
use Rattle.std.specs.Prelude.{◌≡◌, ℕ, ◌+◌, ◌-◌, ◌≤◌, List, [], ◌∷◌, length, get_or, set, Bool, Option, ◌⊎◌}
use Rattle.tl_numbers.specs.Bytes.{AreBytes, ListsOfBytes}
use Rattle.tl_base.specs.Contents.{Files, HoldBytes}
use Rattle.tl_base.specs.declared.counts.Counts.{Counts}
use Rattle.tl_base.specs.declared.host.Slot.{Slot}
use Rattle.tl_base.specs.declared.host.Slot.TheVariants as slots
use Rattle.tl_base.specs.declared.host.Out.{Out}
use Rattle.tl_base.specs.declared.host.Out.TheVariants as outs

-- the bytes left in each slot
pub record Left : Type 0 where
  pub schema : List ℕ
  pub input : List ℕ
  pub state : List ℕ
  pub link : List ℕ

-- The bytes written to each out. To Link a list was written for each link taken so far; what was written there before the first is `unlinked`.
pub record Written : Type 0 where
  pub output : List ℕ
  pub errors : List ℕ
  pub state : List ℕ
  pub unlinked : List ℕ
  pub links : List (List ℕ)

-- The parts of an outside that tells them. `state_name` is the name under which State was created, `links` what each link to come will give,
-- `address` the address last used, `moments` the moments to come, and `room` how many bytes each out, link or name may have.
pub record View : Type 0 where
  pub files : Files
  pub left : Left
  pub written : Written
  pub state_name : Option (List ℕ)
  pub links : List (List ℕ)
  pub address : Option (List ℕ)
  pub moments : List ℕ
  pub room : ℕ

-- what a host stands for: its view where it tells it, how often its calls have failed, and whether it fails only in the cases that its calls name
pub record HostState : Type 0 where
  pub view : Option View
  pub counts : Counts
  pub sound : Bool

-- ---- slots

-- what is left of this slot
abbrev pub slot_part : Slot → Left → List ℕ
slot_part slots.Schema l = l.schema
slot_part slots.Input l = l.input
slot_part slots.State l = l.state
slot_part slots.Link l = l.link

-- likewise, with these bytes left of this slot
abbrev pub with_slot : Slot → List ℕ → Left → Left
with_slot slots.Schema bytes l = record l { schema = bytes }
with_slot slots.Input bytes l = record l { input = bytes }
with_slot slots.State bytes l = record l { state = bytes }
with_slot slots.Link bytes l = record l { link = bytes }

-- the bytes left in a slot
abbrev pub left_of : Slot → View → List ℕ
left_of slot v = slot_part slot v.left

-- the view, with these bytes left in a slot
abbrev pub with_left : Slot → List ℕ → View → View
with_left slot bytes v = record v { left = with_slot slot bytes v.left }

-- ---- outs

-- the last of these lists; where there is none, the one given
abbrev pub last_or : List ℕ → List (List ℕ) → List ℕ
last_or none lists = get_or lists (length lists - 1) none

-- the lists, with these bytes for the last
abbrev pub with_last : List ℕ → List (List ℕ) → List (List ℕ)
with_last bytes lists = set lists (length lists - 1) bytes

-- these bytes where there is no list, else the one given
abbrev pub if_no_list : List ℕ → List (List ℕ) → List ℕ → List ℕ
if_no_list bytes [] none = bytes
if_no_list bytes (x ∷ xs) none = none

-- what was written to this out
abbrev pub out_part : Out → Written → List ℕ
out_part outs.Output w = w.output
out_part outs.Errors w = w.errors
out_part outs.State w = w.state
out_part outs.Link w = last_or w.unlinked w.links

-- likewise, with these bytes written to this out
abbrev pub with_out : Out → List ℕ → Written → Written
with_out outs.Output bytes w = record w { output = bytes }
with_out outs.Errors bytes w = record w { errors = bytes }
with_out outs.State bytes w = record w { state = bytes }
with_out outs.Link bytes w = record w { unlinked = if_no_list bytes w.links w.unlinked; links = with_last bytes w.links }

-- The bytes written to an out. Those written to Link are the last link's; before the first link, those written until then.
abbrev pub written_of : Out → View → List ℕ
written_of out v = out_part out v.written

-- the view, with these bytes written to an out
abbrev pub with_written : Out → List ℕ → View → View
with_written out bytes v = record v { written = with_out out bytes v.written }

-- so many more bytes fit into an out
abbrev pub HasRoom : Out → ℕ → View → Type 0
HasRoom out bytes v = length (written_of out v) + bytes ≤ v.room

-- ---- files

-- these are the contents of the first file with this name
abbrev pub HasFile : Files → List ℕ → List ℕ → Type 0
HasFile [] name bytes = ⊥
HasFile (f ∷ fs) name bytes = ((f.0 ≡ name) × (f.1 ≡ bytes)) ⊎ (¬ (f.0 ≡ name) × HasFile fs name bytes)

-- some file has this name
abbrev pub IsFile : Files → List ℕ → Type 0
IsFile files name = (bytes : List ℕ) × HasFile files name bytes

-- a file of the outside has it
abbrev pub IsThere : List ℕ → View → Type 0
IsThere name v = IsFile v.files name

-- files, slots and links to come hold bytes
pub record ShowsBytes (v : View) : Type 0 where
  pub files : HoldBytes v.files
  pub left : (slot : Slot) → AreBytes (left_of slot v)
  pub links : ListsOfBytes v.links
