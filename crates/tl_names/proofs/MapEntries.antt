-- What a map of names has at a name.
use Rattle.std.proofs.Common.{◌≡◌, ℕ, Bool, true, false, cond, List, [], ◌∷◌, bytes_eq, Vec, Option, Some, None, refl, ap, sym, ◌∙◌, true≢false, if◌then◌else◌}
use Rattle.std.specs.Map.{lookup}
use Rattle.std.specs.Option.{unwrap_or, is_some}
use Rattle.std.proofs.lemmas.Slice.Eq.{bytes_eq-Decides}
use Rattle.indexmap.specs.IndexMap.{insert_entry}
use Rattle.tl_names.specs.NameIndexes.{index_among, indexes_in, Notes}

pub index_among_entries : {A : Type 0} (name : List ℕ) (entries : List (Vec ℕ A × ℕ)) → lookup (λ (k : Vec ℕ A). bytes_eq name k.items) entries ≡ index_among (indexes_in entries) name
index_among_entries name [] = refl
index_among_entries name (e ∷ es) = ap (cond (bytes_eq name e.0.items) (Some e.1)) (index_among_entries name es)

module _ (v w : ℕ) (old : Option ℕ) where
  one_test : (b : Bool) → cond b (Some v) old ≡ (if b then Some v else cond b (Some w) old)
  one_test true = refl
  one_test false = refl

  two_tests : (a b : Bool) → (a ≡ true → b ≡ true → ⊥) → cond b (Some w) (if a then Some v else old) ≡ (if a then Some v else cond b (Some w) old)
  two_tests true true apart = absurd (apart refl refl)
  two_tests true false apart = refl
  two_tests false b apart = refl

module _ {A : Type 0} (key : Vec ℕ A) (v : ℕ) (n : List ℕ) where
  abbrev same_name : Vec ℕ A → Vec ℕ A → Bool
  same_name x y = bytes_eq x.items y.items

  abbrev found : List (Vec ℕ A × ℕ) → Option ℕ
  found es = index_among (indexes_in es) n

  -- the value at its key, and elsewhere what was there
  found_inserted : (es : List (Vec ℕ A × ℕ)) → found (insert_entry same_name es key v) ≡ (if bytes_eq n key.items then Some v else found es)
  found_inserted [] = refl
  found_inserted (e ∷ es) = by (same_name key e.0) refl (found_inserted es)
    where
      placed : Bool → List (Vec ℕ A × ℕ)
      placed b = if b then (e.0, v) ∷ es else e ∷ insert_entry same_name es key v

      differ : same_name key e.0 ≡ false → bytes_eq n key.items ≡ true → bytes_eq n e.0.items ≡ true → ⊥
      differ other a b =
          true≢false (sym ((bytes_eq-Decides key.items e.0.items).1 (sym ((bytes_eq-Decides n key.items).0 a) ∙ (bytes_eq-Decides n e.0.items).0 b)) ∙ other)

      by : (b : Bool) → same_name key e.0 ≡ b → found (insert_entry same_name es key v) ≡ (if bytes_eq n key.items then Some v else found es) → found (placed (same_name key e.0)) ≡ (if bytes_eq n key.items then Some v else found (e ∷ es))
      by true h rest =
          let same : bytes_eq n e.0.items ≡ bytes_eq n key.items = ap (bytes_eq n) (sym ((bytes_eq-Decides key.items e.0.items).0 h)) in
          ap (λ b. found (placed b)) h ∙ one_test v e.1 (found es) (bytes_eq n e.0.items) ∙ ap (λ b. if b then Some v else found (e ∷ es)) same
      by false h rest =
          ap (λ b. found (placed b)) h ∙ ap (cond (bytes_eq n e.0.items) (Some e.1)) rest ∙ two_tests v e.1 (found es) (bytes_eq n key.items) (bytes_eq n e.0.items) (differ h)

-- ---- notes

pub none_from : (o : Option ℕ) (b : Bool) → b ≡ is_some o → b ≡ false → o ≡ None
none_from None b told denied = refl
none_from (Some x) b told denied = absurd (true≢false (sym told ∙ denied))

module _ (old : List (List ℕ × ℕ)) (name : List ℕ) (at : ℕ) where
  -- a name that has a number keeps it
  pub notes_known : (x : ℕ) → index_among old name ≡ Some x → Notes old old name at
  notes_known x is n = by (bytes_eq n name) refl
    where
      by : (b : Bool) → bytes_eq n name ≡ b → index_among old n ≡ (if bytes_eq n name then Some (unwrap_or (index_among old n) at) else index_among old n)
      by true h =
          let there = ap (index_among old) ((bytes_eq-Decides n name).0 h) ∙ is in
          there ∙ sym (ap (λ b. if b then Some (unwrap_or (index_among old n) at) else index_among old n) h ∙ ap (λ o. Some (unwrap_or o at)) there)
      by false h = sym (ap (λ b. if b then Some (unwrap_or (index_among old n) at) else index_among old n) h)

module _ {A : Type 0} (old new : List (Vec ℕ A × ℕ)) (key : Vec ℕ A) (name : List ℕ) (at : ℕ) where
  -- a name that had none has this one
  pub notes_inserted : key.items ≡ name → index_among (indexes_in old) name ≡ None → new ≡ insert_entry (λ x y. bytes_eq x.items y.items) old key at → Notes (indexes_in old) (indexes_in new) name at
  notes_inserted named none entries n = is ∙ by (bytes_eq n name) refl
    where
      is : index_among (indexes_in new) n ≡ (if bytes_eq n name then Some at else index_among (indexes_in old) n)
      is =
          ap (λ es. index_among (indexes_in es) n) entries ∙ found_inserted key at n old ∙ ap (λ (w : List ℕ). if bytes_eq n w then Some at else index_among (indexes_in old) n) named

      by : (b : Bool) → bytes_eq n name ≡ b → (if bytes_eq n name then Some at else index_among (indexes_in old) n) ≡ (if bytes_eq n name then Some (unwrap_or (index_among (indexes_in old) n) at) else index_among (indexes_in old) n)
      by true h =
          let none_there : index_among (indexes_in old) n ≡ None = ap (index_among (indexes_in old)) ((bytes_eq-Decides n name).0 h) ∙ none in
          ap (λ (w : Option ℕ). if bytes_eq n name then Some (unwrap_or w at) else index_among (indexes_in old) n) (sym none_there)
      by false h =
          ap (λ b. if b then Some at else index_among (indexes_in old) n) h ∙ sym (ap (λ b. if b then Some (unwrap_or (index_among (indexes_in old) n) at) else index_among (indexes_in old) n) h)
