-- Elements and fields, read one after the other; and the members of an object by their keys.
use Rattle.std.proofs.Common.{◌≡◌, ℕ, suc, ◌+◌, ◌<◌, List, [], ◌∷◌, ◌++◌, length, drop, map, get_or, cond, Option, Some, None, option_map, is_eq, Ordering, Less, Equal, Greater, nat_cmp, string_bytes, bytes_eq, Bor, refl, sym, ap, ◌∙◌}
use Rattle.std.specs.BTreeMap.{get_by}
use Rattle.std.specs.Cmp.Lexicographic.{slice_cmp}
use Rattle.std.specs.Map.{lookup}
use Rattle.std.specs.Ordering.{match_ordering}
use Rattle.std.proofs.lemmas.List.{drop_more}
use Rattle.std.proofs.lemmas.Map.Text.{is_eq-slice_cmp}
use Rattle.serde_json.specs.Data.{Data, Members, no_members, member}
use Rattle.serde_json.specs.Find.{get_member}
use Rattle.serde_json.specs.View.{view as data_of, items_view, members_view}
use Rattle.serde_json.specs.declared.value.Value as json
use Rattle.tl_schema.specs.Types.{Shape}
use Rattle.tl_schema.specs.Schemas.{Declaration}
use Rattle.tl_types.specs.Values.{ValueView}
use Rattle.tl_show.specs.Shown.{name_text}
use Rattle.tl_show.specs.Reading.{Parts, Read, Reader, ◌>>=◌, each_element, each_field, inside, one_field, parts, reader, readers}
use Rattle.tl_show.specs.inner.FormTells.{TellsFault}
use Rattle.tl_show.specs.inner.Keyed.{keyed_slot}
use Rattle.tl_show.specs.declared.fault.FormFault.{FormFault}
use Rattle.tl_show.specs.declared.keyed.KeyedField.{KeyedField}
use Rattle.tl_show.proofs.FormSteps.{fault_same, tells_first}
use Rattle.tl_show.proofs.MembersFound.{Map, member_found}

-- ---- the next of a list

split_at : {X : Type 0} (xs : List X) (i : ℕ) (x : X) → i < length xs → x ≡ get_or xs i x → drop i xs ≡ x ∷ drop (i + 1) xs
split_at xs i x within at = drop_more xs i x within ∙ ap (λ y. y ∷ drop (i + 1) xs) (sym at)

-- a fault in the next element is that of the whole
pub element_fails : (ds : List Declaration) (T : Shape) (js xs : List json.Value) (i : ℕ) (j : json.Value) (before : List ValueView) (fault : FormFault) → js ≡ xs → i < length js → j ≡ get_or js i j
    → each_element i T before (readers ds (items_view (drop i js))) ≡ each_element 0 T [] (readers ds (items_view js))
    → TellsFault (inside i (reader ds (data_of j) T)) fault → TellsFault (each_element 0 T [] (readers ds (items_view xs))) fault
element_fails ds T js xs i j before fault same within at so_far tells =
    let rest : ValueView → Read (List ValueView) = λ v. each_element (suc i) T (before ++ v ∷ []) (readers ds (items_view (drop (i + 1) js))) in
    let next = ap (λ ks. each_element i T before (readers ds (items_view ks))) (split_at js i j within at) in
    let whole = ap (λ ks. each_element 0 T [] (readers ds (items_view ks))) (sym same) in
    fault_same (inside i (reader ds (data_of j) T) >>= rest) (each_element 0 T [] (readers ds (items_view xs))) fault (whole ∙ sym so_far ∙ next)
    (tells_first (inside i (reader ds (data_of j) T)) rest fault tells)

-- ---- members by their keys

looked_at : (ds : List Declaration) (o : Ordering) (d : Data) (rest : Option Data) (later : Option Reader) → later ≡ option_map (reader ds) rest
    → cond (is_eq o) (Some (reader ds d)) later ≡ option_map (reader ds) (match_ordering o rest (Some d) rest)
looked_at ds Less d rest later is = is
looked_at ds Equal d rest later is = refl
looked_at ds Greater d rest later is = is

pub part_at : (ds : List Declaration) (k : List ℕ) (ms : Members) → lookup (bytes_eq k) (parts ds ms) ≡ option_map (reader ds) (get_member k ms)
part_at ds k no_members = refl
part_at ds k (member l d ms) =
    ap (λ b. cond b (Some (reader ds d)) (lookup (bytes_eq k) (parts ds ms))) (sym (is_eq-slice_cmp k l)) ∙ looked_at ds (slice_cmp nat_cmp k l) d (get_member k ms) _ (part_at ds k ms)

seen_at : (ds : List Declaration) (r : Option (Bor json.Value)) → option_map (reader ds) (option_map (λ (x : Bor json.Value). data_of x.now) r) ≡ option_map (λ (x : Bor json.Value). reader ds (data_of x.now)) r
seen_at ds None = refl
seen_at ds (Some x) = refl

-- what a look-up gives, read
pub part_found : (ds : List Declaration) (m : Map) (name k : List ℕ) (r : Option (Bor json.Value)) → k ≡ name
    → option_map (λ (x : Bor json.Value). x.now) r ≡ get_by (λ q. slice_cmp nat_cmp k (string_bytes q)) m
    → lookup (bytes_eq name) (parts ds (members_view m.entries)) ≡ option_map (λ (x : Bor json.Value). reader ds (data_of x.now)) r
part_found ds m name k r is found =
    part_at ds name (members_view m.entries)
    ∙ ap (λ n. option_map (reader ds) (get_member n (members_view m.entries))) (sym is)
    ∙ ap (option_map (reader ds)) (member_found m k r found) ∙ seen_at ds r

-- a fault in the next field is that of the whole
pub field_fails : (args : List Shape) (ps : Parts) (fields : List KeyedField) (i : ℕ) (f : KeyedField) (before : List ValueView) (whole : Read (List ValueView)) (fault : FormFault)
    → i < length fields → f ≡ get_or fields i f → each_field i args before (map keyed_slot (drop i fields)) ps ≡ whole
    → TellsFault (inside i (one_field args (keyed_slot f) (lookup (bytes_eq (name_text (keyed_slot f).name)) ps))) fault → TellsFault whole fault
field_fails args ps fields i f before whole fault within at so_far tells =
    let first = inside i (one_field args (keyed_slot f) (lookup (bytes_eq (name_text (keyed_slot f).name)) ps)) in
    let rest : ValueView → Read (List ValueView) = λ v. each_field (suc i) args (before ++ v ∷ []) (map keyed_slot (drop (i + 1) fields)) ps in
    let next = ap (λ xs. each_field i args before (map keyed_slot xs) ps) (split_at fields i f within at) in
    fault_same (first >>= rest) whole fault (sym so_far ∙ next) (tells_first first rest fault tells)
