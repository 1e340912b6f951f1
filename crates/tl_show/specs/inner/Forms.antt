-- Records by forms: the keys of a declaration in their order, and what may stand at each. This project's own.
use Rattle.std.specs.Prelude.{◌≡◌, ℕ, zero, suc, List, [], ◌∷◌, Bool, true, if◌then◌else◌, Option, Some, None, is_some, slice_get, codes, ⊤}
use Rattle.std.specs.Option.{option_or}
use Rattle.serde_json.specs.Data.{Data, null, boolean, number, unsigned, string, array, object, Items, no_items, item, Members, no_members, member, put}
use Rattle.serde_json.specs.Find.{of_integer}
use Rattle.tl_schema.specs.Types.{Shape}
use Rattle.tl_schema.specs.Closing.{closed}
use Rattle.tl_schema.specs.Schemas.{Slot, Declaration}
use Rattle.tl_types.specs.Values.{ValueView, int, long, nat, opaque, text, truth, absent, list, node, call, ValueViews, no_values, value}
use Rattle.tl_types.specs.Parts.{arguments_of, is_absent, item_of}
use Rattle.tl_show.specs.Shown.{hex_data, text_data, name_text, shown, named, with_fields}

-- what may stand at a key: the name of the declaration, or the value at this index, of this type
pub data PartView : Type 0 where
  name : PartView
  field : ℕ → Shape → PartView

-- the keys in their order, each with what may stand at it
abbrev pub Keys : Type 0
Keys = List (List ℕ × List PartView)

-- the text of the declaration's name, and the keys
pub record FormView : Type 0 where
  pub name : List ℕ
  pub keys : Keys

-- past the end of a schema, a record has its name alone, which is empty
abbrev pub form_in : Option FormView → FormView
form_in None = record { name = []; keys = (codes "_", PartView.name ∷ []) ∷ [] }
form_in (Some f) = f

-- the value at an index, of a type, unless it isn't there
abbrev pub Reads : Type 0
Reads = ℕ → Shape → Option Data

-- this part, in a record of this name, whose type is applied to these
abbrev pub part_of : List ℕ → List Shape → Reads → PartView → Option Data
part_of n args at PartView.name = Some (string n)
part_of n args at (PartView.field i T) = at i (closed args T)

-- what stands at a key: of these parts the last that is there
abbrev pub last_of : List ℕ → List Shape → Reads → List PartView → Option Data
last_of n args at [] = None
last_of n args at (p ∷ ps) = option_or (last_of n args at ps) (part_of n args at p)

abbrev pub with_part : List ℕ → Option Data → Members → Members
with_part k None ms = ms
with_part k (Some d) ms = member k d ms

abbrev pub members_at : List ℕ → List Shape → Reads → Keys → Members
members_at n args at [] = no_members
members_at n args at (k ∷ ks) = with_part k.0 (last_of n args at k.1) (members_at n args at ks)

abbrev pub members_of : FormView → List Shape → Reads → Members
members_of f args at = members_at f.name args at f.keys

-- a record of the declaration at this index
abbrev pub record_by : List FormView → ℕ → List Shape → Reads → Data
record_by fs i args at = object (members_of (form_in (slice_get fs i)) args at)

abbrev pub unless_missing : Bool → Data → Option Data
unless_missing missing d = if missing then None else Some d

abbrev mutual
  -- a value by the forms of its schema's declarations
  pub written : List FormView → Shape → ValueView → Data
  written fs T (int z) = number (of_integer z)
  written fs T (long z) = number (of_integer z)
  written fs T (nat n) = number (unsigned n)
  written fs T (opaque bytes) = hex_data bytes
  written fs T (text bytes) = text_data T bytes
  written fs T truth = boolean true
  written fs T absent = null
  written fs T (list vs) = array (written_each fs (item_of T) vs)
  written fs T (node i vs) = record_by fs i (arguments_of T) (read_at fs vs)
  written fs T (call i vs) = record_by fs i [] (read_at fs vs)

  pub written_each : List FormView → Shape → ValueViews → Items
  written_each fs T no_values = no_items
  written_each fs T (value v vs) = item (written fs T v) (written_each fs T vs)

  pub read_at : List FormView → ValueViews → Reads
  read_at fs no_values i T = None
  read_at fs (value v vs) zero T = unless_missing (is_absent v) (written fs T v)
  read_at fs (value v vs) (suc i) T = read_at fs vs i T

-- this part stands where these may, in each record with these values
abbrev pub Stands : ValueViews → List PartView → PartView → Type 0
Stands vs ps p = (n : List ℕ) (args : List Shape) (fs : List FormView) → last_of n args (read_at fs vs) ps ≡ part_of n args (read_at fs vs) p

-- the part is there, or isn't, in each record with these values
abbrev pub IsThere : ValueViews → PartView → Bool → Type 0
IsThere vs p there = (n : List ℕ) (args : List Shape) (fs : List FormView) → is_some (part_of n args (read_at fs vs) p) ≡ there

-- ---- the forms of a schema

-- the members, with this put at a key, if there is anything
abbrev pub put_part : List ℕ → Option Data → Members → Members
put_part k None ms = ms
put_part k (Some d) ms = put k d ms

-- the second keys have one part more: it is put, at its key, after all others
abbrev pub AddsPart : Keys → Keys → List ℕ → PartView → Type 0
AddsPart old new k p = (n : List ℕ) (args : List Shape) (at : Reads) → members_at n args at new ≡ put_part k (part_of n args at p) (members_at n args at old)

-- the value at an index, as it is shown
abbrev pub shown_at : List Declaration → ValueViews → Reads
shown_at ds no_values i T = None
shown_at ds (value v vs) zero T = unless_missing (is_absent v) (shown ds T v)
shown_at ds (value v vs) (suc i) T = shown_at ds vs i T

-- the keys, in their order, give the members that putting the name and the fields one after the other gives
abbrev pub PutsFields : List Slot → Keys → Type 0
PutsFields slots ks =
    (ds : List Declaration) (n : List ℕ) (args : List Shape) (vs : ValueViews) → members_at (name_text n) args (shown_at ds vs) ks ≡ with_fields ds args (named n) slots vs

pub record IsForm (d : Declaration) (f : FormView) : Type 0 where
  pub text : f.name ≡ name_text d.name
  pub puts : PutsFields d.fields f.keys

abbrev pub AreForms : List Declaration → List FormView → Type 0
AreForms [] [] = ⊤
AreForms [] (f ∷ fs) = ⊥
AreForms (d ∷ ds) [] = ⊥
AreForms (d ∷ ds) (f ∷ fs) = IsForm d f × AreForms ds fs
