-- Fields put one after the other.
use Rattle.std.proofs.Common.{◌≡◌, ℕ, ◌+◌, ◌<◌, List, [], ◌∷◌, ◌++◌, length, map, take, get_or, Bool, true, false, refl, sym, ap, ◌∙◌, arith}
use Rattle.std.specs.Prelude.{codes}
use Rattle.std.proofs.lemmas.List.{length-map, length-take-le, map_push}
use Rattle.std.proofs.lemmas.Option.{slice_get_read}
use Rattle.tl_names.proofs.Maps.{take_push}
use Rattle.serde_json.specs.Data.{Data, Members}
use Rattle.tl_schema.specs.Types.{Shape}
use Rattle.tl_schema.specs.Closing.{closed}
use Rattle.tl_schema.specs.Schemas.{Slot, Declaration}
use Rattle.tl_schema.specs.Seen.{shape, slot}
use Rattle.tl_schema.specs.declared.schema.SchemaField.{SchemaField}
use Rattle.tl_types.specs.Values.{ValueViews, no_values, value}
use Rattle.tl_types.specs.Parts.{is_absent}
use Rattle.tl_show.specs.Shown.{name_text, named, shown, with_field, with_fields}
use Rattle.tl_show.specs.inner.Forms.{AddsPart, Keys, PartView, PutsFields, name, field, members_at, part_of, put_part, shown_at, unless_missing}

none_left : (ds : List Declaration) (args : List Shape) (ms : Members) (vs : ValueViews) → with_fields ds args ms [] vs ≡ ms
none_left ds args ms no_values = refl
none_left ds args ms (value v vs) = refl

one_put : (missing : Bool) (k : List ℕ) (d : Data) (ms : Members) → with_field missing k d ms ≡ put_part (name_text k) (unless_missing missing d) ms
one_put true k d ms = refl
one_put false k d ms = refl

put_next : (ds : List Declaration) (args : List Shape) (ms : Members) (fs : List Slot) (f : Slot) (vs : ValueViews)
    → with_fields ds args ms (fs ++ f ∷ []) vs ≡ put_part (name_text f.name) (shown_at ds vs (length fs) (closed args f.of)) (with_fields ds args ms fs vs)
put_next ds args ms [] f no_values = refl
put_next ds args ms [] f (value v vs) = none_left ds args _ vs ∙ one_put (is_absent v) f.name (shown ds (closed args f.of) v) ms
put_next ds args ms (g ∷ fs) f no_values = refl
put_next ds args ms (g ∷ fs) f (value v vs) = put_next ds args (with_field (is_absent v) g.name (shown ds (closed args g.of) v) ms) fs f vs

-- the first part of all
pub adds_first : (old new : Keys) (k : List ℕ) (p : PartView) → old ≡ [] → AddsPart old new k p → AddsPart [] new k p
adds_first old new k p none adds n args at = adds n args at ∙ ap (λ ks. put_part k (part_of n args at p) (members_at n args at ks)) none

-- the name alone
pub puts_name : (new : Keys) (k : List ℕ) → k ≡ codes "_" → AddsPart [] new k name → PutsFields [] new
puts_name new k is adds ds n args vs = adds (name_text n) args (shown_at ds vs) ∙ rw is (sym (none_left ds args (named n) vs))

-- one field more
puts_next : (slots : List Slot) (f : Slot) (old new : Keys) (k : List ℕ) (i : ℕ) (T : Shape) → length slots ≡ i → k ≡ name_text f.name → T ≡ f.of → AddsPart old new k (field i T)
    → PutsFields slots old → PutsFields (slots ++ f ∷ []) new
puts_next slots f old new k i T long is type adds before ds n args vs =
    let o = shown_at ds vs (length slots) (closed args f.of) in
    let next = ap (put_part (name_text f.name) o) (before ds n args vs) ∙ sym (put_next ds args (named n) slots f vs) in
    adds (name_text n) args (shown_at ds vs) ∙ rw (is, type, ← long) next

-- the same in the loop over the fields
pub puts_more : (fields : List SchemaField) (i : ℕ) (f : SchemaField) (old new : Keys) (k : List ℕ) (T : Shape) → i < length fields → f ≡ get_or fields i f → k ≡ name_text f.name → T ≡ shape f.of
    → AddsPart old new k (field i T) → PutsFields (map slot (take i fields)) old → PutsFields (map slot (take (i + 1) fields)) new
puts_more fields i f old new k T within at is type adds before =
    let slots = map slot (take i fields) in
    let long = length-map (take i fields) slot ∙ length-take-le i fields (omega arith) in
    let there = slice_get_read fields (length fields) i f refl within at in
    let next = ap (map slot) (take_push fields i f there) ∙ map_push slot (take i fields) f in
    λ ds n args vs. rw next (puts_next slots (slot f) old new k i T long is type adds before ds n args vs)
