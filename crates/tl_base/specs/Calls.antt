-- What the calls of an outside do to what it shows. Where nothing is told nothing is said, and nothing is told afterwards. This project's own.
use Rattle.std.specs.Prelude.{◌≡◌, ℕ, ◌<◌, List, [], ◌∷◌, ◌++◌, length, take, drop, get_or, Option, Some, None, Result, Ok, Err}
use Rattle.tl_base.specs.declared.host.Slot.{Slot}
use Rattle.tl_base.specs.declared.host.Slot.TheVariants as slots
use Rattle.tl_base.specs.declared.host.Out.{Out}
use Rattle.tl_base.specs.declared.host.Out.TheVariants as outs
use Rattle.tl_base.specs.Outside.{View, HasFile, left_of, with_left, with_slot, written_of, with_written}

-- a view that is told stays told, and P holds of both; one that isn't told stays so
abbrev pub Told : Option View → Option View → (View → View → Type 0) → Type 0
Told None None P = Unit {0}
Told None (Some w) P = ⊥
Told (Some v) None P = ⊥
Told (Some v) (Some w) P = P v w

-- `open_slot`: the contents of the first file with the name become what is left of the slot
abbrev pub Opens : {E : Type 0} → Slot → List ℕ → Result (Unit {0}) E → View → View → Type 0
Opens slot name (Ok u) v w = (bytes : List ℕ) × HasFile v.files name bytes × (w ≡ with_left slot bytes v)
Opens slot name (Err e) v w = w ≡ v

-- n bytes are taken from the slot; none, into a buffer with room, exactly at the end
abbrev pub Gives : Slot → List ℕ → ℕ → View → View → Type 0
Gives slot into n v w = (left_of slot v ≡ take n into ++ left_of slot w) × (w ≡ with_left slot (left_of slot w) v) × (n ≡ 0 → 0 < length into → left_of slot w ≡ [])

-- `read`: the bytes that it gives are taken from the slot
abbrev pub ReadsSlot : {E : Type 0} → Slot → List ℕ → Result ℕ E → View → View → Type 0
ReadsSlot slot into (Ok n) v w = Gives slot into n v w
ReadsSlot slot into (Err e) v w = w ≡ v

-- State has this name; no other out shows its name
abbrev pub with_name : Out → List ℕ → View → View
with_name outs.Output name v = v
with_name outs.Errors name v = v
with_name outs.State name v = record v { state_name = Some name }
with_name outs.Link name v = v

-- `create`: the out has the name, and is empty
abbrev pub Creates : {E : Type 0} → Out → List ℕ → Result (Unit {0}) E → View → View → Type 0
Creates out name (Ok u) v w = w ≡ with_name out name (with_written out [] v)
Creates out name (Err e) v w = w ≡ v

-- `write`: the bytes that it takes are appended to the out
abbrev pub WritesOut : {E : Type 0} → Out → List ℕ → Result ℕ E → View → View → Type 0
WritesOut out piece (Ok n) v w = w ≡ with_written out (written_of out v ++ take n piece) v
WritesOut out piece (Err e) v w = w ≡ v

-- `listen`: the address is used
abbrev pub Listens : {E : Type 0} → List ℕ → Result (Unit {0}) E → View → View → Type 0
Listens address (Ok u) v w = w ≡ record v { address = Some address }
Listens address (Err e) v w = w ≡ v

-- the first link to come is taken: its bytes are left in Link, and nothing was written to it
abbrev pub link_taken : View → View
link_taken v = record v { left = with_slot slots.Link (get_or v.links 0 []) v.left; links = drop 1 v.links; written = record v.written { links = v.written.links ++ [] ∷ [] } }

-- `accept`: there is a link to come, and it is taken
abbrev pub Accepts : {E : Type 0} → Result (Unit {0}) E → View → View → Type 0
Accepts (Ok u) v w = (0 < length v.links) × (w ≡ link_taken v)
Accepts (Err e) v w = w ≡ v

-- `connect`: likewise, and the address is used
abbrev pub Connects : {E : Type 0} → List ℕ → Result (Unit {0}) E → View → View → Type 0
Connects address (Ok u) v w = (0 < length v.links) × (w ≡ record (link_taken v) { address = Some address })
Connects address (Err e) v w = w ≡ v

-- `now`: the first moment to come is taken, or it is 0 where there is none
abbrev pub TellsMoment : ℕ → View → View → Type 0
TellsMoment now v w = (now ≡ get_or v.moments 0 0) × (w ≡ record v { moments = drop 1 v.moments })
