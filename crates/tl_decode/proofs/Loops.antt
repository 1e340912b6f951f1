-- Loops over elements and fields.
use Rattle.std.proofs.Common.{◌≡◌, ℕ, suc, ◌+◌, ◌-◌, ◌<◌, ◌≤◌, List, [], ◌∷◌, ◌++◌, length, drop, map, get_or, Ok, refl, ap, sym, ◌∙◌, arith}
use Rattle.std.proofs.lemmas.List.{drop_more, drop_all}
use Rattle.tl_schema.specs.Types.{Shape}
use Rattle.tl_schema.specs.Seen.{slot}
use Rattle.tl_schema.specs.declared.schema.SchemaField.{SchemaField}
use Rattle.tl_types.specs.Values.{ValueView}
use Rattle.tl_types.specs.inner.Reading.{Spot, Reader, ◌>>=◌, each_at, fields_at, at_field}

-- ---- elements

pub next_element : (f : Reader) (count i : ℕ) (before : List ValueView) (s : Spot) → i < count → each_at f (count - i) before s ≡ (f s >>= λ x. each_at f (count - (i + 1)) (before ++ x.0 ∷ []) x.1)
unfolding each_at
next_element f count i before s lt = let e : count - i ≡ suc (count - (i + 1)) = omega (arith, lt) in rw e refl

pub no_element : (f : Reader) (count i : ℕ) (before : List ValueView) (s : Spot) → count ≤ i → each_at f (count - i) before s ≡ Ok (before, s)
unfolding each_at
no_element f count i before s le = let e : count - i ≡ 0 = omega (arith, le) in rw e refl

-- ---- fields

pub next_field : (f : Shape → Reader) (args : List Shape) (ks : List SchemaField) (i : ℕ) (k : SchemaField) (before : List ValueView) (s : Spot) → i < length ks → k ≡ get_or ks i k → fields_at f args before (map slot (drop i ks)) s ≡ (at_field f args before (slot k) s >>= λ x. fields_at f args (before ++ x.0 ∷ []) (map slot (drop (i + 1) ks)) x.1)
unfolding fields_at
next_field f args ks i k before s lt is =
    let split : drop i ks ≡ k ∷ drop (i + 1) ks = drop_more ks i k lt ∙ ap (λ (x : SchemaField). x ∷ drop (i + 1) ks) (sym is) in
    rw split refl

pub no_field : (f : Shape → Reader) (args : List Shape) (ks : List SchemaField) (i : ℕ) (before : List ValueView) (s : Spot) → length ks ≤ i → fields_at f args before (map slot (drop i ks)) s ≡ Ok (before, s)
unfolding fields_at
no_field f args ks i before s le = rw (drop_all i ks le) refl
