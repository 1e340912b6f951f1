-- The indexes of fields by their names, as they are noted.
use Rattle.std.proofs.Common.{◌≡◌, ℕ, ◌+◌, ◌≤◌, List, [], ◌∷◌, ◌++◌, map, take, length, slice_get, Some, Option, bytes_eq, unwrap_or, if◌then◌else◌, ap, sym, ◌∙◌, arith}
use Rattle.std.proofs.lemmas.List.{length-map, length-take, map_push, take_all}
use Rattle.std.proofs.lemmas.Option.{slice_get_within}
use Rattle.tl_graph.proofs.NodeLists.{take_push}
use Rattle.tl_names.specs.NameIndexes.{index_among, Notes}
use Rattle.tl_names.proofs.Positions.{position_push}
use Rattle.tl_schema.specs.Seen.{slot}
use Rattle.tl_schema.specs.Schemas.{Slot}
use Rattle.tl_schema.specs.declared.schema.SchemaField.{SchemaField}
use Rattle.tl_layers.specs.Breaks.{field_index}

module _ (fields : List SchemaField) (i : ℕ) (f : SchemaField) (at : slice_get fields i ≡ Some f) where
  long : length (map slot (take i fields)) ≡ i
  long = length-map (take i fields) slot ∙ (let l = length-take i fields in let within = slice_get_within fields i f at in omega (arith, l, within))

  pub index_noted : (old new : List (List ℕ × ℕ)) (name : List ℕ) → name ≡ f.name → Notes old new name i → ((n : List ℕ) → index_among old n ≡ field_index (map slot (take i fields)) n) → (n : List ℕ) → index_among new n ≡ field_index (map slot (take (i + 1) fields)) n
  index_noted old new name same notes so_far n =
      notes n ∙ ap (λ (o : Option ℕ). if bytes_eq n name then Some (unwrap_or o i) else o) (so_far n)
      ∙ ap (λ (x : List ℕ). if bytes_eq n x then Some (unwrap_or (field_index (map slot (take i fields)) n) i) else field_index (map slot (take i fields)) n) same
      ∙ ap (λ (m : ℕ). if bytes_eq n f.name then Some (unwrap_or (field_index (map slot (take i fields)) n) m) else field_index (map slot (take i fields)) n) (sym long)
      ∙ sym (position_push (λ (g : Slot). bytes_eq n g.name) (map slot (take i fields)) (slot f))
      ∙ ap (λ (fs : List Slot). field_index fs n) (sym (map_push slot (take i fields) f) ∙ ap (map slot) (sym (take_push fields i f at)))

pub indexes_all : (fields : List SchemaField) (i : ℕ) (names : List (List ℕ × ℕ)) → length fields ≤ i → ((n : List ℕ) → index_among names n ≡ field_index (map slot (take i fields)) n) → (n : List ℕ) → index_among names n ≡ field_index (map slot fields) n
indexes_all fields i names past so_far n = so_far n ∙ ap (λ (fs : List SchemaField). field_index (map slot fs) n) (take_all i fields past)

-- the indexes that another's fields have, one more
pub origins_step : (fs gs : List Slot) (m : ℕ) (g : Slot) (old new : List (Option ℕ)) (o : Option ℕ) → slice_get gs m ≡ Some g → old ≡ map (λ (h : Slot). field_index fs h.name) (take m gs) → new ≡ old ++ o ∷ [] → o ≡ field_index fs g.name
    → new ≡ map (λ (h : Slot). field_index fs h.name) (take (m + 1) gs)
origins_step fs gs m g old new o at before is index =
    is ∙ ap (λ (xs : List (Option ℕ)). xs ++ o ∷ []) before ∙ ap (λ (x : Option ℕ). map (λ (h : Slot). field_index fs h.name) (take m gs) ++ x ∷ []) index
    ∙ sym (map_push (λ (h : Slot). field_index fs h.name) (take m gs) g) ∙ ap (map (λ (h : Slot). field_index fs h.name)) (sym (take_push gs m g at))

pub origins_all : (fs gs : List Slot) (m : ℕ) (from : List (Option ℕ)) → length gs ≤ m → from ≡ map (λ (h : Slot). field_index fs h.name) (take m gs) → from ≡ map (λ (h : Slot). field_index fs h.name) gs
origins_all fs gs m from past before = before ∙ ap (map (λ (h : Slot). field_index fs h.name)) (take_all m gs past)
