-- The spelling of a list.
use Rattle.std.proofs.Common.{◌≡◌, ℕ, suc, ◌+◌, ◌<◌, ◌≤◌, ◌^◌, List, [], ◌∷◌, ◌++◌, append_assoc, length, drop, get_or, Result, refl, sym, ap, ◌∙◌, subst, arith, Bool}
use Rattle.std.specs.Prelude.{OnOk}
use Rattle.std.proofs.lemmas.List.{drop_more}
use Rattle.tl_numbers.specs.Numbers.{word}
use Rattle.tl_schema.specs.Types.{Shape}
use Rattle.tl_schema.specs.Types as type
use Rattle.tl_schema.specs.Schemas.{Declared}
use Rattle.tl_types.specs.Values.{list, count}
use Rattle.tl_types.specs.Parts.{item_of}
use Rattle.tl_types.specs.Seen.{view, views}
use Rattle.tl_types.specs.Spelling.{Spells, SpellEach, vector_prefix}
use Rattle.tl_types.specs.declared.value.Value.{Value}
use Rattle.tl_encode.proofs.ShapeParts.{is_wide}
use Rattle.tl_encode.proofs.Joins.{on_ok, joined, PutsFirst}

counted : (vs : List Value) → count (views vs) ≡ length vs
counted [] = refl
counted (v ∷ vs) = ap suc (counted vs)

pub too_many : {P : Type 0} (schema : Declared) (T : Shape) (vs : List Value) (b : List ℕ) → 2 ^ 31 ≤ length vs → Spells schema T (list (views vs)) b → P
too_many schema T vs b many s = absurd (omega (arith, s.4, counted vs, many))

pub list_put : {E : Type 0} (schema : Declared) (T : Shape) (vs : List Value) (wide : Bool) (item : Shape) (k : ℕ) (old first second new : List ℕ) (res : Result (Unit {0}) E)
    → T ≡ type.vector wide item → k ≡ length vs → first ≡ old ++ vector_prefix wide → second ≡ first ++ word k
    → ((b : List ℕ) → SpellEach schema item (views vs) b → OnOk res (new ≡ second ++ b)) → (b : List ℕ) → Spells schema T (list (views vs)) b → OnOk res (new ≡ old ++ b)
list_put schema T vs wide item k old first second new res is k_is one two each b (v, it, rest, same, few, split, inner) =
    let item_is : it ≡ item = sym (ap item_of same) ∙ ap item_of is in
    let wide_is : v ≡ wide = sym (ap is_wide same) ∙ ap is_wide is in
    let number : count (views vs) ≡ k = counted vs ∙ sym k_is in
    let all = subst (λ (U : Shape). SpellEach schema U (views vs) rest) item_is inner in
    let prefix : second ≡ old ++ (vector_prefix wide ++ word k) = two ∙ ap (λ (z : List ℕ). z ++ word k) one ∙ append_assoc old (vector_prefix wide) (word k) in
    let b_is : b ≡ vector_prefix wide ++ word k ++ rest = split ∙ ap (λ (u : Bool). vector_prefix u ++ word (count (views vs)) ++ rest) wide_is ∙ ap (λ (n : ℕ). vector_prefix wide ++ word n ++ rest) number in
    on_ok res (λ n. joined old second (vector_prefix wide ++ word k) rest b new prefix b_is n) (each rest all)

pub next_put : (schema : Declared) (T : Shape) (vs : List Value) (i : ℕ) (v : Value) (mid new : List ℕ) → i < length vs → v ≡ get_or vs i v → ((b : List ℕ) → Spells schema T (view v) b → new ≡ mid ++ b)
    → PutsFirst (SpellEach schema T (views (drop i vs))) (SpellEach schema T (views (drop (i + 1) vs))) mid new
next_put schema T vs i v mid new lt is put_it = λ b rest.
    let e : drop i vs ≡ v ∷ drop (i + 1) vs = drop_more vs i v lt ∙ ap (λ (x : Value). x ∷ drop (i + 1) vs) (sym is) in
    let s = subst (λ (l : List Value). SpellEach schema T (views l) b) e rest in
    (s.0, s.1, s.2, put_it s.0 s.3, s.4)
