-- How many bytes an item has, as far as its first bytes tell; and items that are whole. This project's own.
use Rattle.std.specs.Prelude.{◌≡◌, ℕ, ◌+◌, ◌-◌, ◌*◌, ◌^◌, ◌<◌, ◌≤◌, List, [], ◌∷◌, ◌++◌, length, take, drop, false, Option, Some, None, Result, Ok, Err, nat_lt, if◌then◌else◌}
use Rattle.tl_plan.specs.Plans.{PlanView}
use Rattle.tl_types.specs.Offsets.{moved}
use Rattle.tl_types.specs.Texts.{missing}
use Rattle.tl_types.specs.Seen.{view}
use Rattle.tl_types.specs.Values.{ValueView}
use Rattle.tl_types.specs.inner.Reading.{Head, Read, spot, text_head_of}
use Rattle.tl_types.specs.declared.cause.Cause.{Cause}
use Rattle.tl_types.specs.declared.value.Value.{Value}
use Rattle.tl_decode.specs.declared.fault.DecodeFault.{DecodeFault}
use Rattle.tl_decode.specs.declared.fault.DecodeFault.TheVariants as fault
use Rattle.tl_decode.specs.declared.stack.StackFrame.{StackFrame}
use Rattle.tl_decode.specs.declared.stack.WantedItem.{WantedItem}
use Rattle.tl_decode.specs.declared.stack.WantedItem.TheVariants as wanted
use Rattle.tl_decode.specs.declared.stack.Item.{Item}
use Rattle.tl_decode.specs.declared.stack.Item.TheVariants as item
use Rattle.tl_decode.specs.declared.stack.Next.TheVariants as next_step
use Rattle.tl_decode.specs.declared.stack.Found.{Found}
use Rattle.tl_decode.specs.declared.stack.Found.TheVariants as found
use Rattle.tl_decode.specs.declared.stack.Reading.{Reading}
use Rattle.tl_base.specs.declared.fault.Fault.{Fault}
use Rattle.tl_base.specs.declared.fault.Fault.TheVariants as stop
use Rattle.tl_decode.specs.inner.Frames.{views, item_at, item_view, found_at, found_work, is_truncated, AreWell, IsStop, IsWellFound, IsWellWanted, Takes, word}

-- ---- items

abbrev pub head_needs : Result Head Cause → ℕ
head_needs (Ok h) = h.0 + h.1 + missing (h.0 + h.1)
head_needs (Err cause) = 4

-- so many bytes a string has, as far as these first bytes tell: 4, until there are as many
unfoldable pub text_needs : List ℕ → ℕ
text_needs b = if nat_lt (length b) 4 then 4 else head_needs (text_head_of (take 4 b))

-- so many bytes the item has that is looked for
abbrev pub needs : WantedItem → List ℕ → ℕ
needs wanted.Long b = 8
needs (wanted.Opaque k) b = k
needs wanted.Text b = text_needs b
needs W b = 4

-- these bytes are the item, however the input goes on, or they are refused
abbrev pub IsWhole : WantedItem → List ℕ → Result Item (Fault Cause) → Type 0
IsWhole W b (Ok x) = (p : ℕ) (more : List ℕ) → item_at W (spot p (b ++ more)) ≡ Ok (item_view x, spot (moved p (length b)) more)
IsWhole W b (Err (stop.Refused cause)) = (is_truncated cause ≡ false) × ((p : ℕ) (more : List ℕ) → item_at W (spot p (b ++ more)) ≡ Err (p, cause))
IsWhole W b (Err stop.Memory) = Unit {0}

-- the same, at a place
abbrev pub IsWholeAt : WantedItem → List ℕ → ℕ → Result Item DecodeFault → Type 0
IsWholeAt W b p (Ok x) = IsWhole W b (Ok x)
IsWholeAt W b p (Err e) = (st : Fault Cause) × IsStop st p e × IsWhole W b (Err st)

-- So many of the next bytes came to those that are held: all of them, unless the item is whole.
pub record Fills (W : WantedItem) (old new next : List ℕ) (count : ℕ) : Type 0 where
  pub within : count ≤ length next
  pub more : new ≡ old ++ take count next
  pub most : length new ≤ needs W new
  pub all : length new < needs W new → count ≡ length next

-- The item begins in the held bytes and goes on in the next ones; where it isn't whole there, these are held too.
abbrev pub FindsItem : WantedItem → List ℕ → List ℕ → List ℕ → Result (Option (Item × ℕ)) (Fault Cause) → Type 0
FindsItem W old new next (Ok None) = (new ≡ old ++ next) × (length new < needs W new)
FindsItem W old new next (Ok (Some x)) =
    (new ≡ []) × (x.1 ≤ length next)
    × ((p : ℕ) (more : List ℕ) → item_at W (spot p (old ++ (next ++ more))) ≡ Ok (item_view x.0, spot (moved p (length old + x.1)) (drop x.1 next ++ more)))
FindsItem W old new next (Err (stop.Refused cause)) = (is_truncated cause ≡ false) × ((p : ℕ) (more : List ℕ) → item_at W (spot p (old ++ (next ++ more))) ≡ Err (p, cause))
FindsItem W old new next (Err stop.Memory) = Unit {0}

-- ---- pieces

-- what is read on from here, where so many bytes were taken
abbrev pub reads_on : PlanView → Reading → ℕ → List ℕ → Read ValueView
reads_on p r at more = found_at p (views p r.frames.items) (found.Wants r.wanted) (spot at (r.held.items ++ more))

-- the frames and numbers are in range, and what is held begins the item
pub record IsInOrder (p : PlanView) (r : Reading) : Type 0 where
  pub frames : AreWell p r.frames.items
  pub well : IsWellWanted p r.wanted
  pub begins : length r.held.items < needs r.wanted r.held.items

-- A piece is taken: what was read on is read on from the new state, or the value is there or refused, however the input goes on.
abbrev pub TakesPiece : PlanView → (List ℕ → Read ValueView) → List ℕ → Reading → ℕ → Result (Option (Value × ℕ)) DecodeFault → Type 0
TakesPiece p old piece new at (Ok None) = IsInOrder p new × ((more : List ℕ) → old (piece ++ more) ≡ reads_on p new at more)
TakesPiece p old piece new at (Ok (Some x)) = (x.1 ≤ length piece) × ((more : List ℕ) → old (piece ++ more) ≡ Ok (view x.0, spot at (drop x.1 piece ++ more)))
TakesPiece p old piece new at (Err (fault.Refused place cause)) = (is_truncated cause ≡ false) × ((more : List ℕ) → old (piece ++ more) ≡ Err (place, cause))
TakesPiece p old piece new at (Err fault.ReadFault) = ⊥
TakesPiece p old piece new at (Err fault.Memory) = Unit {0}

-- One item is taken of the next bytes, or all of them are held.
abbrev pub TakesItem : PlanView → (List ℕ → Read ValueView) → ℕ → List ℕ → Reading → ℕ → Result (Option (Found × ℕ)) DecodeFault → Type 0
TakesItem p old work next new at (Ok None) = IsInOrder p new × ((more : List ℕ) → old (next ++ more) ≡ reads_on p new at more)
TakesItem p old work next new at (Ok (Some x)) =
    AreWell p new.frames.items × IsWellFound p x.0 × (new.held.items ≡ []) × (x.1 ≤ length next) × (found_work p (views p new.frames.items) x.0 < work)
    × ((more : List ℕ) → old (next ++ more) ≡ found_at p (views p new.frames.items) x.0 (spot at (drop x.1 next ++ more)))
TakesItem p old work next new at (Err (fault.Refused place cause)) = (is_truncated cause ≡ false) × ((more : List ℕ) → old (next ++ more) ≡ Err (place, cause))
TakesItem p old work next new at (Err fault.ReadFault) = ⊥
TakesItem p old work next new at (Err fault.Memory) = Unit {0}

-- ---- words that are values

-- the next four bytes are this value, and nothing is held
abbrev pub IsNextValue : WantedItem → List ℕ → List ℕ → Value → Type 0
IsNextValue W held next v = (w : ℕ) × FindsItem W held held next (Ok (Some (item.Word w, 4))) × ((p : PlanView) → Takes p W (word w) (Ok (next_step.Close v)))

-- after so many of the next bytes: what was read on is read on from the new state, or the value is there, however the input goes on
abbrev pub EndsWords : PlanView → (List ℕ → Read ValueView) → List ℕ → Reading → ℕ → ℕ → Option Value → Type 0
EndsWords p old next new at n None = IsInOrder p new × ((more : List ℕ) → old (next ++ more) ≡ reads_on p new at (drop n next ++ more))
EndsWords p old next new at n (Some v) = (more : List ℕ) → old (next ++ more) ≡ Ok (view v, spot at (drop n next ++ more))

abbrev pub TakesWords : PlanView → (List ℕ → Read ValueView) → List ℕ → Reading → ℕ → Result (Option Value × ℕ) DecodeFault → Type 0
TakesWords p old next new at (Ok x) = (x.1 ≤ length next) × EndsWords p old next new at x.1 x.0
TakesWords p old next new at (Err (fault.Refused place cause)) = (is_truncated cause ≡ false) × ((more : List ℕ) → old (next ++ more) ≡ Err (place, cause))
TakesWords p old next new at (Err fault.ReadFault) = ⊥
TakesWords p old next new at (Err fault.Memory) = Unit {0}

-- ---- numbers of a list

-- So many of the next bytes are taken, and the same item is looked for: reading goes on from the new frames as it did from the old ones.
pub record MovesOn (p : PlanView) (W : WantedItem) (next : List ℕ) (old new : List StackFrame) (n : ℕ) : Type 0 where
  pub within : n ≤ length next
  pub frames : AreWell p new
  pub same : (at : ℕ) → at < 2 ^ 64 → (more : List ℕ) → found_at p (views p old) (found.Wants W) (spot at (next ++ more)) ≡ found_at p (views p new) (found.Wants W) (spot (moved at n) (drop n next ++ more))
  pub work : found_work p (views p new) (found.Wants W) ≤ found_work p (views p old) (found.Wants W)
  pub less : 0 < n → found_work p (views p new) (found.Wants W) < found_work p (views p old) (found.Wants W)

-- the same, where the innermost frame f becomes g
abbrev pub AddsNumbers : PlanView → WantedItem → List ℕ → StackFrame → StackFrame → ℕ → Type 0
AddsNumbers p W next f g n = (fs : List StackFrame) → AreWell p (fs ++ f ∷ []) → MovesOn p W next (fs ++ f ∷ []) (fs ++ g ∷ []) n

-- ---- how often a decoder asks for more

-- as often as this, at most: there are fewer items to come, or more bytes are held of the one that is looked for
abbrev pub piece_work : PlanView → Reading → ℕ
piece_work p r = found_work p (views p r.frames.items) (found.Wants r.wanted) * 2 ^ 64 + (2 ^ 64 - length r.held.items)

-- bytes that are held leave less to come
abbrev pub ItemLess : PlanView → ℕ → List ℕ → Reading → Result (Option (Found × ℕ)) DecodeFault → Type 0
ItemLess p work next new (Ok None) = (piece_work p new ≤ work) × (0 < length next → piece_work p new < work)
ItemLess p work next new (Ok (Some x)) = Unit {0}
ItemLess p work next new (Err e) = Unit {0}

-- a piece with bytes leaves less to come
abbrev pub PieceLess : PlanView → ℕ → List ℕ → Reading → Result (Option (Value × ℕ)) DecodeFault → Type 0
PieceLess p work piece new (Ok None) = 0 < length piece → piece_work p new < work
PieceLess p work piece new (Ok (Some x)) = Unit {0}
PieceLess p work piece new (Err e) = Unit {0}

-- words that were taken leave less to come
abbrev pub WorksLess : PlanView → Reading → Reading → ℕ → Type 0
WorksLess p old new n = (piece_work p new ≤ piece_work p old) × (0 < n → piece_work p new < piece_work p old)
