-- The numbers of types and the indexes of forms, as they are found.
use Rattle.std.proofs.Common.{◌≡◌, ℕ, zero, suc, ◌<◌, ◌≤◌, List, [], ◌∷◌, ◌++◌, length, map, take, get_or, Option, Some, None, Bool, true, false, refl, sym, ap, ◌∙◌, subst, inl, inr, arith, true≢false}
use Rattle.std.specs.Prelude.{unwrap_or}
use Rattle.std.specs.List.{position_or_len}
use Rattle.std.proofs.lemmas.List.Sums.{position_or_len_is}
use Rattle.std.proofs.lemmas.Option.{get_or_from_slice_get, slice_get-get_or}
use Rattle.std.proofs.lemmas.Slice.Eq.{bytes_eq-Decides}
use Rattle.tl_schema.specs.Types.{Shape, boxed, no_shapes}
use Rattle.tl_schema.specs.Types as type
use Rattle.tl_schema.specs.Schemas.{Declaration, Declared}
use Rattle.tl_schema.specs.CheckedPrograms.{Finds}
use Rattle.tl_schema.specs.AskedTypes.{IsTypeText}
use Rattle.tl_names.specs.Indexes.{types_of}
use Rattle.tl_plan.specs.Types.{is_equal}
use Rattle.wire_forms.specs.Forms.{FormView}
use Rattle.wire_profile.specs.Faults.{has_name}
use Rattle.wire_profile.specs.Profiles.{AreHeads, IsHead}
use Rattle.wire_profile.specs.inner.Heads.{head_in}
use Rattle.wire_profile.proofs.FormTable.{some_is, clash, within}
use Rattle.wire_profile.proofs.FormTable.{both_of, both_true}

-- ---- heads

none_some : {A : Type 0} (x : A) → None ≡ Some x → ⊥
none_some x e = cc

head_shape : (T : Shape) (h : ℕ) → head_in T ≡ Some h → T ≡ boxed h no_shapes
head_shape (boxed g no_shapes) h e = ap (λ (n : ℕ). boxed n no_shapes) (some_is g h e)
head_shape (boxed g (type.shape T Ts)) h e = absurd (none_some h e)
head_shape T h e = absurd (none_some h e)

-- a text that is a type gives the head of this, if it is boxed and takes no arguments
pub head_found : (S : Declared) (name : List ℕ) (T : Shape) (o : Option ℕ) (h n : ℕ) → IsTypeText S.program name T → ((U : Shape) → IsTypeText S.program name U → T ≡ U) → n ≡ length (types_of S.program) → o ≡ head_in T → h ≡ unwrap_or o n → IsHead S name h
head_found S name T (Some g) h n is one none found e = inl (subst (IsTypeText S.program name) (head_shape T g (sym found) ∙ ap (λ (k : ℕ). boxed k no_shapes) (sym e)) is)
head_found S name T None h n is one none found e = inr (e ∙ none, λ g other. none_some g (found ∙ ap head_in (one (boxed g no_shapes) other)))

-- ---- indexes

equal_is : (a b : Bool) → is_equal a b ≡ true → b ≡ a
equal_is true true e = refl
equal_is true false e = absurd (clash e)
equal_is false true e = absurd (clash e)
equal_is false false e = refl

equal_self : (a b : Bool) → b ≡ a → is_equal a b ≡ true
equal_self true b e = e
equal_self false true e = absurd (true≢false e)
equal_self false false e = refl

pub name_is : (f : FormView) (d : Declaration) → has_name f d ≡ true → (d.name ≡ f.name) × (d.function ≡ f.function)
name_is f d e = let both = both_of _ _ e in (sym ((bytes_eq-Decides f.name d.name).0 both.0), equal_is f.function d.function both.1)

is_named : (f : FormView) (d : Declaration) → d.name ≡ f.name → d.function ≡ f.function → has_name f d ≡ true
is_named f d name function = both_true _ _ ((bytes_eq-Decides f.name d.name).1 (sym name)) (equal_self f.function d.function function)

by_test : (b : Bool) → (b ≡ true → ⊥) → b ≡ false
by_test true not_so = absurd (not_so refl)
by_test false not_so = refl

pub index_found : (ds : List Declaration) (f : FormView) (o : Option ℕ) (n : ℕ) → Finds ds f.name f.function o → n ≡ length ds → unwrap_or o n ≡ position_or_len (has_name f) ds
index_found ds f (Some i) n ((d, there, name, function), before) e =
    sym (position_or_len_is (has_name f) ds i d (let lt = within ds i d there in omega (arith, lt))
    (λ k lt. by_test _ (λ is.
    let inside = within ds i d there in
    let named = name_is f (get_or ds k d) is in
    before k lt (get_or ds k d, slice_get-get_or ds k d (omega (arith, lt, inside)), named.0, named.1)))
    (λ lt. ap (has_name f) (get_or_from_slice_get ds i d d there) ∙ is_named f d name function))
index_found [] f None n none e = e
index_found (d ∷ ds) f None n none e =
    e ∙ sym (position_or_len_is (has_name f) (d ∷ ds) (length (d ∷ ds)) d (omega arith)
    (λ k lt. by_test _ (λ is. let named = name_is f (get_or (d ∷ ds) k d) is in none k (get_or (d ∷ ds) k d, slice_get-get_or (d ∷ ds) k d lt, named.0, named.1)))
    (λ lt. absurd (omega (arith, lt))))

-- ---- lists

-- one element more
pub map_more : {A B : Type 0} (g : A → B) (i : ℕ) (d : A) (xs : List A) → i < length xs → map g (take (suc i) xs) ≡ map g (take i xs) ++ g (get_or xs i d) ∷ []
map_more g i d [] lt = absurd (omega arith)
map_more g zero d (x ∷ xs) lt = refl
map_more {B = B} g (suc i) d (x ∷ xs) lt = ap (λ (ys : List B). g x ∷ ys) (map_more g i d xs (omega arith))

pub take_whole : {A : Type 0} (i : ℕ) (xs : List A) → length xs ≤ i → take i xs ≡ xs
take_whole zero [] le = refl
take_whole (suc i) [] le = refl
take_whole zero (x ∷ xs) le = absurd (omega arith)
take_whole {A = A} (suc i) (x ∷ xs) le = ap (λ (ys : List A). x ∷ ys) (take_whole i xs (omega arith))

pub heads_push : (S : Declared) (names : List (List ℕ)) (hs : List ℕ) (name : List ℕ) (h : ℕ) → AreHeads S names hs → IsHead S name h → AreHeads S (names ++ name ∷ []) (hs ++ h ∷ [])
heads_push S [] [] name h all is = (is, tt)
heads_push S [] (g ∷ hs) name h all is = absurd all
heads_push S (n ∷ names) [] name h all is = absurd all
heads_push S (n ∷ names) (g ∷ hs) name h all is = (all.0, heads_push S names hs name h all.1 is)

pub map_twice_more : {A B C : Type 0} (g : B → C) (h : A → B) (i : ℕ) (d : A) (xs : List A) → i < length xs → map g (map h (take (suc i) xs)) ≡ map g (map h (take i xs)) ++ g (h (get_or xs i d)) ∷ []
map_twice_more g h i d [] lt = absurd (omega arith)
map_twice_more g h zero d (x ∷ xs) lt = refl
map_twice_more {C = C} g h (suc i) d (x ∷ xs) lt = ap (λ (ys : List C). g (h x) ∷ ys) (map_twice_more g h i d xs (omega arith))

pub heads_more : {A : Type 0} (S : Declared) (g : A → List ℕ) (i : ℕ) (d : A) (xs : List A) (hs : List ℕ) (h : ℕ) → i < length xs → AreHeads S (map g (take i xs)) hs → IsHead S (g (get_or xs i d)) h → AreHeads S (map g (take (suc i) xs)) (hs ++ h ∷ [])
heads_more S g i d xs hs h lt all is = subst (λ (names : List (List ℕ)). AreHeads S names (hs ++ h ∷ [])) (sym (map_more g i d xs lt)) (heads_push S _ hs (g (get_or xs i d)) h all is)
