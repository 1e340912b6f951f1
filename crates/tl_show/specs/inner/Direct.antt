-- Values straight from tokens: how far an object is read, and what its fields have. This project's own.
use Rattle.std.specs.Prelude.{◌≡◌, ℕ, ◌≤◌, List, [], ◌∷◌, length, map, Bool, false, ◌&&◌, ◌||◌, is_none, Option, Some, None, Ok, codes, string_bytes, ⊤}
use Rattle.json.specs.Token.{Token}
use Rattle.json.specs.Json.{members, read_key, value}
use Rattle.serde_json.specs.Data.{Data, Members, no_members}
use Rattle.serde_json.specs.Find.{get_member}
use Rattle.serde_json.specs.Read.{converted, of_json, of_members}
use Rattle.tl_schema.specs.Types.{Shape}
use Rattle.tl_schema.specs.Closing.{closed}
use Rattle.tl_schema.specs.Schemas.{Slot, Declaration}
use Rattle.tl_types.specs.Values.{ValueView, absent}
use Rattle.tl_types.specs.Seen.{view}
use Rattle.tl_types.specs.Parts.{is_absent}
use Rattle.tl_types.specs.declared.value.Value.{Value}
use Rattle.tl_show.specs.Reading.{has_other, of_record, parts, read, record_keys, text_at}
use Rattle.tl_show.specs.inner.Keyed.{keyed_slot}
use Rattle.tl_show.specs.declared.keyed.KeyedField.{KeyedField}

-- the tokens begin with JSON that is the form of the value, nested no deeper than this, and go on with the others
abbrev pub BeginsWith : List Declaration → Shape → ℕ → List Token → List Token → ValueView → Type 0
BeginsWith ds T depth old new v = (d : Data) × (converted of_json (value depth old) ≡ Some (d, new)) × (read ds T d ≡ Ok v)

-- ---- objects

-- After some members the tokens of an object go on, in so many turns at most, until it has all of these; then the others are left.
abbrev pub GoesOnTo : ℕ → ℕ → List Token → Members → List Token → Members → Type 0
GoesOnTo depth n old before new all = converted (λ ms. of_members ms before) (members (value depth) n old) ≡ Some (all, new)

-- the tokens after an object's brace are the form of a record
abbrev pub HoldsRecord : List Declaration → Shape → ℕ → ℕ → List Token → List Token → ValueView → Type 0
HoldsRecord ds T depth n old new v = (ms : Members) × GoesOnTo depth n old no_members new ms × (of_record ds ms (parts ds ms) T ≡ Ok v)

-- the same, where these come after its first key
abbrev pub HoldsAfter : List Declaration → Shape → ℕ → List ℕ → List Token → List Token → ValueView → Type 0
HoldsAfter ds T depth k old new v = (ts : List Token) (n : ℕ) → read_key ts ≡ Some (Some k, old) → length ts ≤ n → HoldsRecord ds T depth n ts new v

-- ---- fields

-- a field whose key the object has not isn't there
abbrev pub FieldIs : List Declaration → List Shape → Slot → Option Data → ValueView → Type 0
FieldIs ds args f None v = v ≡ absent
FieldIs ds args f (Some d) v = read ds (closed args f.of) d ≡ Ok v

abbrev pub FieldsAre : List Declaration → List Shape → Members → List KeyedField → List Value → Type 0
FieldsAre ds args ms [] [] = ⊤
FieldsAre ds args ms [] (v ∷ vs) = ⊥
FieldsAre ds args ms (f ∷ fs) [] = ⊥
FieldsAre ds args ms (f ∷ fs) (v ∷ vs) = FieldIs ds args (keyed_slot f) (get_member (string_bytes f.key) ms) (view v) × FieldsAre ds args ms fs vs

-- The object has this name, no keys beside those of its fields, and these values at them.
pub record HasFields (ds : List Declaration) (args : List Shape) (fs : List KeyedField) (name : List ℕ) (ms : Members) (vs : List Value) : Type 0 where
  pub named : text_at (codes "_") ms ≡ Some name
  pub known : has_other (record_keys (map keyed_slot fs)) ms ≡ false
  pub fields : FieldsAre ds args ms fs vs

-- a field isn't there, and has no condition
abbrev pub lacks : KeyedField → Value → Bool
lacks f v = is_absent (view v) && is_none (keyed_slot f).cond

abbrev pub lacks_any : List KeyedField → List Value → Bool
lacks_any [] vs = false
lacks_any (f ∷ fs) [] = false
lacks_any (f ∷ fs) (v ∷ vs) = lacks f v || lacks_any fs vs
