-- Declarations with the keys of their records. This project's own.
use Rattle.std.specs.Prelude.{◌≡◌, ℕ, List, [], ◌∷◌, map, Bool, true, false, Option, Some, None, string_bytes, ⊤}
use Rattle.tl_schema.specs.Schemas.{Slot, Declaration}
use Rattle.tl_schema.specs.Seen.{slot}
use Rattle.tl_show.specs.Shown.{name_text}
use Rattle.tl_show.specs.Reading.{AreApart, is_named, record_keys}
use Rattle.tl_show.specs.declared.keyed.KeyedField.{KeyedField}
use Rattle.tl_show.specs.declared.keyed.KeyedEntry.{KeyedEntry}

abbrev pub keyed_slot : KeyedField → Slot
keyed_slot f = slot f.field

pub record IsKeyed (d : Declaration) (e : KeyedEntry) : Type 0 where
  pub text : string_bytes e.name ≡ name_text d.name
  pub slots : map keyed_slot e.fields.items ≡ d.fields
  pub keys : e.apart ≡ true → AreApart (record_keys d.fields)

abbrev pub AreKeyed : List Declaration → List KeyedEntry → Type 0
AreKeyed [] [] = ⊤
AreKeyed [] (e ∷ es) = ⊥
AreKeyed (d ∷ ds) [] = ⊥
AreKeyed (d ∷ ds) (e ∷ es) = IsKeyed d e × AreKeyed ds es

-- a declaration that is there is a function of this name, or a constructor
abbrev pub is_named_at : Bool → List ℕ → Option Declaration → Bool
is_named_at function name None = false
is_named_at function name (Some d) = is_named function name d
