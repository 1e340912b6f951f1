-- The JSON of a `string`.
use Rattle.std.proofs.Common.{◌≡◌, ℕ, List, refl, inl, inr, rules, String, Global, string_bytes}
use Rattle.std.specs.Prelude.{codes}
use Rattle.std.specs.Str.{is_utf8, IsUtf8}
use Rattle.std.proofs.lemmas.Bool.{cases_Bool}
use Rattle.std.proofs.lemmas.Str.{is_utf8-from_IsUtf8, IsUtf8-from_is_utf8}
use Rattle.serde_json.specs.Data.{string, object, member, no_members}
use Rattle.serde_json.specs.View.{view}
use Rattle.serde_json.specs.declared.value.Value as json
use Rattle.tl_show.specs.Shown.{hex_data, string_data}

pub as_text : (s : List ℕ) → IsUtf8 s → string s ≡ string_data s
as_text s good = rw (is_utf8-from_IsUtf8 s good) refl

pub as_hex : (s : List ℕ) → (IsUtf8 s → ⊥) → object (member (codes "hex") (hex_data s) no_members) ≡ string_data s
as_hex s bad = elim (cases_Bool (is_utf8 s)) [
  | inl good ↦ absurd (bad (IsUtf8-from_is_utf8 s good))
  | inr wrong ↦ rw wrong refl
]

pub view-String : (s : String Global) → view (json.String s) ≡ string (string_bytes s)
view-String s = search (rules, json.the_lemmas)
