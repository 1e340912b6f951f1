-- The spelling of fields.
use Rattle.std.proofs.Common.{◌≡◌, ℕ, ◌+◌, ◌<◌, ◌≤◌, List, [], ◌∷◌, ◌++◌, append-nil, length, take, drop, map, get_or, sym, ap, ◌∙◌, subst, true, false, inl, inr}
use Rattle.std.proofs.lemmas.List.{drop_more, drop_all, take_more, map_push}
use Rattle.tl_schema.specs.Types.{Shape}
use Rattle.tl_schema.specs.Closing.{closed}
use Rattle.tl_schema.specs.Schemas.{Slot, Declared}
use Rattle.tl_schema.specs.Seen.{slot}
use Rattle.tl_schema.specs.declared.schema.SchemaField.{SchemaField}
use Rattle.tl_types.specs.Values.{ValueView, values_of, absent}
use Rattle.tl_types.specs.Seen.{view, views}
use Rattle.tl_types.specs.Parts.{is_absent}
use Rattle.tl_types.specs.Spelling.{Spells, SpellFields, SpellsField}
use Rattle.tl_types.specs.declared.value.Value.{Value}
use Rattle.tl_types.proofs.Closings.{closed_none}
use Rattle.tl_encode.proofs.Joins.{PutsFirst, puts_all}

-- where there is nothing to put in place of its variables, a type is closed
pub closed_as_it_is : (args : List Shape) (T : Shape) → args ≡ [] → T ≡ closed args T
closed_as_it_is args T none = sym (ap (λ (us : List Shape). closed us T) none ∙ closed_none T)

pub absent_put : (schema : Declared) (args : List Shape) (before : List ValueView) (f : Slot) (v : ValueView) (old : List ℕ) → v ≡ absent → (b : List ℕ) → SpellsField schema args before f v b → old ≡ old ++ b
absent_put schema args before f v old is b (inl s) = absurd (subst (λ (w : ValueView). Spells schema (closed args f.of) w b) is s.1)
absent_put schema args before f v old is b (inr s) = sym (ap (λ (z : List ℕ). old ++ z) s.2 ∙ append-nil old)

pub there_put : {P : List ℕ → Type 0} (schema : Declared) (args : List Shape) (before : List ValueView) (f : Slot) (v : ValueView) → is_absent v ≡ false → ((b : List ℕ) → Spells schema (closed args f.of) v b → P b) → (b : List ℕ) → SpellsField schema args before f v b → P b
there_put schema args before f v other put_it b (inl s) = put_it b s.1
there_put schema args before f v other put_it b (inr s) = let clash : is_absent v ≡ true = ap is_absent s.1 in absurd cc

pub next_put : (schema : Declared) (args : List Shape) (vs : List Value) (slots : List SchemaField) (i : ℕ) (v : Value) (f : SchemaField) (mid new : List ℕ) → i < length vs → i < length slots → v ≡ get_or vs i v → f ≡ get_or slots i f
    → ((b : List ℕ) → SpellsField schema args (map view (take i vs)) (slot f) (view v) b → new ≡ mid ++ b)
    → PutsFirst (SpellFields schema args (map view (take i vs)) (map slot (drop i slots)) (views (drop i vs))) (SpellFields schema args (map view (take (i + 1) vs)) (map slot (drop (i + 1) slots)) (views (drop (i + 1) vs))) mid new
next_put schema args vs slots i v f mid new lt lk is ik put_it = λ b rest.
    let before = map view (take i vs) in
    let e : drop i vs ≡ v ∷ drop (i + 1) vs = drop_more vs i v lt ∙ ap (λ (x : Value). x ∷ drop (i + 1) vs) (sym is) in
    let k : drop i slots ≡ f ∷ drop (i + 1) slots = drop_more slots i f lk ∙ ap (λ (x : SchemaField). x ∷ drop (i + 1) slots) (sym ik) in
    let g : before ++ view v ∷ [] ≡ map view (take (i + 1) vs) = sym (ap (map view) (take_more vs i v lt ∙ ap (λ (x : Value). take i vs ++ x ∷ []) (sym is)) ∙ map_push view (take i vs) v) in
    let s = subst (λ (l : List SchemaField). SpellFields schema args before (map slot l) (views (v ∷ drop (i + 1) vs)) b) k (subst (λ (l : List Value). SpellFields schema args before (map slot (drop i slots)) (views l) b) e rest) in
    (s.0, s.1, s.2, put_it s.0 s.3, subst (λ (l : List ValueView). SpellFields schema args l (map slot (drop (i + 1) slots)) (views (drop (i + 1) vs)) s.1) g s.4)

no_more : (schema : Declared) (args : List Shape) (before : List ValueView) (slots : List Slot) (y : List ℕ) → SpellFields schema args before slots (values_of []) y → y ≡ []
no_more schema args before [] y s = s
no_more schema args before (f ∷ fs) y s = absurd s

pub fields_end : (schema : Declared) (args : List Shape) (before : List ValueView) (vs : List Value) (slots : List Slot) (i : ℕ) (Whole : List ℕ → Type 0) (old now : List ℕ) → PutsFirst Whole (SpellFields schema args before slots (views (drop i vs))) old now → length vs ≤ i → (b : List ℕ) → Whole b → now ≡ old ++ b
fields_end schema args before vs slots i Whole old now h le =
    puts_all Whole (SpellFields schema args before slots (views (drop i vs))) old now h (λ y s. no_more schema args before slots y (subst (λ (l : List Value). SpellFields schema args before slots (views l) y) (drop_all i vs le) s))
