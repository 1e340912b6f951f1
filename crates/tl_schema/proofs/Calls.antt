-- Calls by `!`, in the fields and in the list of all.
use Rattle.std.proofs.Common.{◌≡◌, ℕ, ◌+◌, Bool, cond, true, false, ◌||◌, List, [], ◌∷◌, map, refl, ap, ap₂, sym, ◌∙◌}
use Rattle.std.specs.List.{count_by, list_any, flat_map}
use Rattle.std.proofs.lemmas.List.Folds.{flat_map-map, list_any-append}
use Rattle.std.proofs.lemmas.List.Sums.{sum_by-append, sum_by-cons}
use Rattle.tl_program.specs.declared.program.Field.{Field}
use Rattle.tl_program.specs.Program.{KindText, nat, flag, call, of, FieldText, field_text, kind_text}
use Rattle.tl_schema.specs.UnknownVariable.{called_by}

list_any-flat_map : {A B : Type 0} (p : B → Bool) (g : A → List B) (xs : List A) → list_any p (flat_map g xs) ≡ list_any (λ x. list_any p (g x)) xs
list_any-flat_map p g [] = refl
list_any-flat_map p g (x ∷ xs) = list_any-append p (g x) (flat_map g xs) ∙ ap (λ b. list_any p (g x) || b) (list_any-flat_map p g xs)

-- where each makes at most one, that passes or not
count_by-flat_map : {A B : Type 0} (p : B → Bool) (g : A → List B) → ((x : A) → count_by p (g x) ≡ cond (list_any p (g x)) 1 0) → (xs : List A) → count_by p (flat_map g xs) ≡ count_by (λ x. list_any p (g x)) xs
count_by-flat_map p g one [] = refl
count_by-flat_map p g one (x ∷ xs) =
    sum_by-append (λ y. cond (p y) 1 0) (g x) (flat_map g xs) ∙ ap₂ (λ m n. m + n) (one x) (count_by-flat_map p g one xs) ∙ sym (sum_by-cons (λ y. cond (list_any p (g y)) 1 0) x xs)

either_way : (b : Bool) → 0 + cond b 1 0 ≡ cond (b || false) 1 0
either_way true = refl
either_way false = refl

called_once : (p : List ℕ → Bool) (k : KindText) → count_by p (called_by k) ≡ cond (list_any p (called_by k)) 1 0
called_once p nat = refl
called_once p flag = refl
called_once p (call var) = either_way (p var)
called_once p (of t) = refl

-- some call passes the test
pub any_call_passes : (p : List ℕ → Bool) (fields : List Field) → list_any (λ (f : Field). list_any p (called_by (kind_text f.kind))) fields ≡ list_any p (flat_map (λ (f : FieldText). called_by f.kind) (map field_text fields))
any_call_passes p fields = sym (ap (list_any p) (flat_map-map (λ (f : FieldText). called_by f.kind) field_text fields) ∙ list_any-flat_map p (λ (f : Field). called_by (kind_text f.kind)) fields)

-- how many calls pass the test
pub calls_that_pass : (p : List ℕ → Bool) (fields : List Field) → count_by (λ (f : Field). list_any p (called_by (kind_text f.kind))) fields ≡ count_by p (flat_map (λ (f : FieldText). called_by f.kind) (map field_text fields))
calls_that_pass p fields =
    sym (ap (count_by p) (flat_map-map (λ (f : FieldText). called_by f.kind) field_text fields) ∙ count_by-flat_map p (λ (f : Field). called_by (kind_text f.kind)) (λ f. called_once p (kind_text f.kind)) fields)
