-- What an object has at a key.
use Rattle.std.proofs.Common.{◌≡◌, ℕ, List, length, Option, Some, None, option_map, Bor, BTreeMap, String, Global, string_bytes, nat_cmp, refl, sym, ap, ◌∙◌}
use Rattle.std.specs.Prelude.{MatchOption, option_and_then, codes}
use Rattle.std.specs.BTreeMap.{get_by}
use Rattle.std.specs.Cmp.Lexicographic.{slice_cmp}
use Rattle.std.proofs.lemmas.Bool.{ne_eqb}
use Rattle.serde_json.specs.Data.{Members}
use Rattle.serde_json.specs.Events.{members_len}
use Rattle.serde_json.specs.Find.{as_str, get_member}
use Rattle.serde_json.specs.View.{view, members_view}
use Rattle.serde_json.specs.declared.value.Value.{Value}
use Rattle.serde_json.proofs.Views.{members_len-members_view, view-lookup, view_of_ref}
use Rattle.tl_show.specs.Reading.{bytes_of, hex_of, refuses, text_at}
use Rattle.tl_show.specs.declared.fault.FormCause.TheVariants.{WrongJson}

abbrev pub Map : Type 0
Map = BTreeMap (String Global) Value

-- what a look-up gives
pub member_found : (m : Map) (k : List ℕ) (r : Option (Bor Value)) → option_map (λ (x : Bor Value). x.now) r ≡ get_by (λ q. slice_cmp nat_cmp k (string_bytes q)) m
    → get_member k (members_view m.entries) ≡ option_map (λ (x : Bor Value). view x.now) r
member_found m k r found = sym (view_of_ref r ∙ ap (option_map view) found ∙ view-lookup k m.entries)

text_of : (r : Option (Bor Value)) (o : Option (Bor (List ℕ))) → MatchOption r (o ≡ None) (λ x. option_map (λ s. s.now) o ≡ as_str (view x.now))
    → option_map (λ s. s.now) o ≡ option_and_then as_str (option_map (λ (x : Bor Value). view x.now) r)
text_of None o none = ap (option_map (λ (s : Bor (List ℕ)). s.now)) none
text_of (Some x) o is = is

pub text_found : (m : Map) (k : List ℕ) (r : Option (Bor Value)) (o : Option (Bor (List ℕ))) → option_map (λ (x : Bor Value). x.now) r ≡ get_by (λ q. slice_cmp nat_cmp k (string_bytes q)) m
    → MatchOption r (o ≡ None) (λ x. option_map (λ s. s.now) o ≡ as_str (view x.now)) → option_map (λ s. s.now) o ≡ text_at k (members_view m.entries)
text_found m k r o found is = text_of r o is ∙ ap (option_and_then as_str) (sym (member_found m k r found))

-- how many members there are
pub members_counted : (m : Map) → members_len (members_view m.entries) ≡ length m.entries
members_counted m = members_len-members_view m.entries

pub hex_other : (ms : Members) → (members_len ms ≡ 1 → ⊥) → hex_of ms ≡ refuses WrongJson
hex_other ms other = rw (ne_eqb _ _ other) refl

pub hex_digits : (ms : Members) (digits : List ℕ) → members_len ms ≡ 1 → text_at (codes "hex") ms ≡ Some digits → hex_of ms ≡ bytes_of digits
hex_digits ms digits one there = rw (one, there) refl
