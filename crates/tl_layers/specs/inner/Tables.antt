-- What is kept of declarations that have moved, and values that are lifted by it. This project's own.
use Rattle.std.specs.Prelude.{◌≡◌, ◌⊎◌, ℕ, ◌<◌, ◌≤◌, List, [], ◌∷◌, ◌++◌, length, map, get_or, Bool, true, false, Option, Some, None, Vec, Result, Ok, Err, slice_get, nat_le, if◌then◌else◌}
use Rattle.tl_graph.specs.Needs.{IsMarked}
use Rattle.tl_schema.specs.Types.{Shape}
use Rattle.tl_types.specs.Values.{ValueView, absent, list, node, call, ValueViews, no_values, value, values_of}
use Rattle.tl_layers.specs.Reached.{Reached}
use Rattle.tl_layers.specs.Counterparts.{counterpart, image}
use Rattle.tl_layers.specs.Breaks.{HasBreak, field_index, rank}
use Rattle.tl_layers.specs.Lifted.{old_fields, new_fields}
use Rattle.tl_layers.specs.Compared.{LayersView, IsCount}
use Rattle.tl_layers.specs.LayerLaws.{AreLayers}
use Rattle.tl_layers.specs.inner.Pairs.{PairView}
use Rattle.tl_layers.specs.inner.FieldBreaks.{IsFirstBreak}
use Rattle.tl_layers.specs.declared.fault.Break.{Break}
use Rattle.tl_layers.specs.declared.fault.LayerFault.{LayerFault}
use Rattle.tl_layers.specs.declared.fault.LayerFault.TheVariants.{Broken, Memory}
use Rattle.tl_layers.specs.declared.moved.Moved.{Moved}

-- ---- declarations

-- the counterpart of declaration i, and of each of its fields the index of the old one of its name
pub record HasMovedTo (p : PairView) (i : ℕ) (m : Moved) : Type 0 where
  pub entry : counterpart p.old p.new i ≡ Some m.entry
  pub from : m.from.items ≡ map (λ g. field_index (old_fields p.old i) g.name) (new_fields p.old p.new i)

-- declaration i has no break, and has moved so; or the break is its first
abbrev pub TellsMoved : PairView → ℕ → Result Moved LayerFault → Type 0
TellsMoved p i (Ok m) = HasMovedTo p i m × IsFirstBreak p i None
TellsMoved p i (Err (Broken k cause)) = (k ≡ i) × IsFirstBreak p i (Some cause)
TellsMoved p i (Err Memory) = Unit {0}

-- ---- the first break of those that are marked

-- of two breaks that whose cause comes first, and of one cause that which was there
abbrev pub earlier : Option (ℕ × Break) → ℕ → Break → ℕ × Break
earlier None i cause = (i, cause)
earlier (Some b) i cause = if nat_le (rank b.1) (rank cause) then b else (i, cause)

-- of the first n declarations those that are marked have this first break, or none has one
abbrev pub IsFirstOf : PairView → List Bool → ℕ → Option (ℕ × Break) → Type 0
IsFirstOf p marks n None = (j : ℕ) (other : Break) → j < n → IsMarked marks j → HasBreak p.old p.new j other → ⊥
IsFirstOf p marks n (Some b) =
    (b.0 < n) × IsMarked marks b.0 × HasBreak p.old p.new b.0 b.1
    × ((j : ℕ) (other : Break) → j < n → IsMarked marks j → HasBreak p.old p.new j other → (rank b.1 < rank other) ⊎ ((rank b.1 ≡ rank other) × (b.0 ≤ j)))

-- what is kept of a declaration: where it has moved if it is marked
abbrev pub IsKeptOf : PairView → List Bool → ℕ → Option Moved → Type 0
IsKeptOf p marks i None = IsMarked marks i → ⊥
IsKeptOf p marks i (Some m) = IsMarked marks i × HasMovedTo p i m

-- of the first n declarations
pub record AreKept (p : PairView) (marks : List Bool) (n : ℕ) (moved : List (Option Moved)) : Type 0 where
  pub long : length moved ≡ n
  pub each : (i : ℕ) (o : Option Moved) → slice_get moved i ≡ Some o → IsKeptOf p marks i o

-- one declaration more: it isn't marked, or has moved, or has a break
pub data NotesOne (p : PairView) (mark : Bool) (i : ℕ) (moved : List (Option Moved)) (first : Option (ℕ × Break)) (more : List (Option Moved)) (after : Option (ℕ × Break)) : Type 0 where
  skipped : mark ≡ false → more ≡ moved ++ None ∷ [] → after ≡ first → NotesOne p mark i moved first more after
  kept : (m : Moved) → mark ≡ true → HasMovedTo p i m → IsFirstBreak p i None → more ≡ moved ++ Some m ∷ [] → after ≡ first → NotesOne p mark i moved first more after
  broken : (cause : Break) → mark ≡ true → IsFirstBreak p i (Some cause) → more ≡ moved ++ None ∷ [] → after ≡ Some (earlier first i cause) → NotesOne p mark i moved first more after

-- all that are marked have moved, or one has the first break
abbrev pub TellsAll : {A : Type 0} → PairView → List Bool → Result (Vec (Option Moved) A) LayerFault → Type 0
TellsAll p marks (Ok moved) = AreKept p marks (length p.old.decls) moved.items × IsFirstOf p marks (length p.old.decls) None
TellsAll p marks (Err (Broken i cause)) = IsFirstOf p marks (length p.old.decls) (Some (i, cause))
TellsAll p marks (Err Memory) = Unit {0}

-- ---- layers

abbrev pub pair_of : LayersView → PairView
pair_of l = record { old = l.old; new = l.new }

-- what is kept of a declaration: where it has moved if it is reached
abbrev pub IsKept : LayersView → ℕ → Option Moved → Type 0
IsKept l i None = Reached l.old l.of i → ⊥
IsKept l i (Some m) = Reached l.old l.of i × HasMovedTo (pair_of l) i m

-- layers, with what is kept of them
pub record IsMade (l : LayersView) (made : Shape) (moved : List (Option Moved)) (count : ℕ) : Type 0 where
  pub layers : AreLayers l.old l.new l.of
  pub image : made ≡ image l.old l.new l.of
  pub long : length moved ≡ length l.old.decls
  pub each : (i : ℕ) (o : Option Moved) → slice_get moved i ≡ Some o → IsKept l i o
  pub counted : IsCount (Reached l.old l.of) count

-- ---- values

-- the value at an index, or none where there is no index, or no value at it
abbrev pub picked : List ValueView → Option ℕ → ValueView
picked ws None = absent
picked ws (Some k) = get_or ws k absent

-- the declaration that one has moved to; one that hasn't stays
abbrev pub entry_by : Option (Option Moved) → ℕ → ℕ
entry_by (Some (Some m)) i = m.entry
entry_by o i = i

-- the values of its fields
abbrev pub fields_by : Option (Option Moved) → List ValueView → List ValueView
fields_by (Some (Some m)) ws = map (picked ws) m.from.items
fields_by o ws = ws

abbrev mutual
  -- the value with each record and call moved by what is kept
  pub moved_by : List (Option Moved) → ValueView → ValueView
  moved_by moved (list vs) = list (values_of (moved_each moved vs))
  moved_by moved (node i vs) = node (entry_by (slice_get moved i) i) (values_of (fields_by (slice_get moved i) (moved_each moved vs)))
  moved_by moved (call i vs) = call (entry_by (slice_get moved i) i) (values_of (fields_by (slice_get moved i) (moved_each moved vs)))
  moved_by moved v = v

  pub moved_each : List (Option Moved) → ValueViews → List ValueView
  moved_each moved no_values = []
  moved_each moved (value v vs) = moved_by moved v ∷ moved_each moved vs
