-- Values as JSON, by their types. This project's own.
use Rattle.std.specs.Prelude.{ℕ, List, [], ◌∷◌, Bool, true, false, if◌then◌else◌, slice_get, codes, encode_utf8_all}
use Rattle.std.specs.Str.{is_utf8}
use Rattle.hex.specs.Hex.{encode_lower}
use Rattle.serde_json.specs.Data.{Data, null, boolean, number, unsigned, string, array, object, Items, no_items, item, Members, no_members, member, put}
use Rattle.serde_json.specs.Find.{of_integer}
use Rattle.tl_schema.specs.Types.{Shape, str}
use Rattle.tl_schema.specs.Closing.{closed}
use Rattle.tl_schema.specs.Schemas.{Slot, Declaration}
use Rattle.tl_types.specs.Values.{ValueView, int, long, nat, opaque, text, truth, absent, list, node, call, ValueViews, no_values, value}
use Rattle.tl_types.specs.Parts.{arguments_of, fields_in, is_absent, item_of, name_in}

-- ---- texts

-- bytes as hexadecimal digits, in lower case
abbrev pub hex_data : List ℕ → Data
hex_data bytes = string (encode_lower bytes)

-- a `string`: its text where it is UTF-8, else `{"hex":..}`
abbrev pub string_data : List ℕ → Data
string_data s = if is_utf8 s then string s else object (member (codes "hex") (hex_data s) no_members)

abbrev pub is_string : Shape → Bool
is_string str = true
is_string T = false

-- the bytes of a `string` or of `bytes`
abbrev pub text_data : Shape → List ℕ → Data
text_data T s = if is_string T then string_data s else hex_data s

-- The text of a name, each byte a character. Names are ASCII, so these are their bytes.
abbrev pub name_text : List ℕ → List ℕ
name_text name = encode_utf8_all name

-- ---- values

-- the members of a record before those of its fields: its name, at the key `_`
abbrev pub named : List ℕ → Members
named name = put (codes "_") (string (name_text name)) no_members

-- the members, with this at the name, unless the field isn't there
abbrev pub with_field : Bool → List ℕ → Data → Members → Members
with_field is_missing name d ms = if is_missing then ms else put (name_text name) d ms

abbrev mutual
  -- Numbers as numbers, opaque values and `bytes` as hexadecimal text, a flag that is set as `true`, lists as arrays, records and calls as objects
  -- of their name and their fields. The keys of an object stand in the order of their bytes.
  pub shown : List Declaration → Shape → ValueView → Data
  shown ds T (int z) = number (of_integer z)
  shown ds T (long z) = number (of_integer z)
  shown ds T (nat n) = number (unsigned n)
  shown ds T (opaque bytes) = hex_data bytes
  shown ds T (text bytes) = text_data T bytes
  shown ds T truth = boolean true
  shown ds T absent = null
  shown ds T (list vs) = array (shown_each ds (item_of T) vs)
  shown ds T (node i vs) = object (with_fields ds (arguments_of T) (named (name_in (slice_get ds i))) (fields_in (slice_get ds i)) vs)
  shown ds T (call i vs) = object (with_fields ds [] (named (name_in (slice_get ds i))) (fields_in (slice_get ds i)) vs)

  pub shown_each : List Declaration → Shape → ValueViews → Items
  shown_each ds T no_values = no_items
  shown_each ds T (value v vs) = item (shown ds T v) (shown_each ds T vs)

  -- the members, with each field's value at its name; a field that isn't there has none
  pub with_fields : List Declaration → List Shape → Members → List Slot → ValueViews → Members
  with_fields ds args ms fs no_values = ms
  with_fields ds args ms [] (value v vs) = ms
  with_fields ds args ms (f ∷ fs) (value v vs) = with_fields ds args (with_field (is_absent v) f.name (shown ds (closed args f.of) v) ms) fs vs
