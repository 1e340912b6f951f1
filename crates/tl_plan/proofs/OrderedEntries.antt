-- What an ordered map of lists has at a list.
use Rattle.std.proofs.Common.{◌≡◌, ℕ, Bool, true, false, cond, List, [], ◌∷◌, bytes_eq, Vec, Option, Some, refl, ap, sym, ◌∙◌, true≢false, if◌then◌else◌, arith, Ordering, Less, Equal, Greater}
use Rattle.std.specs.Map.{lookup}
use Rattle.std.specs.Ordering.{nat_cmp, is_eq, match_ordering}
use Rattle.std.proofs.lemmas.Bool.Decides.{nat_tests}
use Rattle.std.specs.Cmp.Lexicographic.{slice_cmp}
use Rattle.std.specs.BTreeMap.{insert_entry}
use Rattle.std.proofs.lemmas.Cmp.{same_from_slice_cmp}
use Rattle.std.proofs.lemmas.Slice.Eq.{bytes_eq-Decides}
use Rattle.tl_names.specs.NameIndexes.{index_among, indexes_in}

-- the order calls the names equal whose bytes are
pub same_bytes : (xs ys : List ℕ) (o : Ordering) → o ≡ slice_cmp nat_cmp xs ys → is_eq o ≡ bytes_eq xs ys
same_bytes = same_from_slice_cmp nat_cmp is_eq bytes_eq refl (λ _ _. refl) (λ _ _. refl) (λ x y xs ys o h. grind (arith, nat_tests))

pub index_among_entries : {A : Type 0} (name : List ℕ) (entries : List (Vec ℕ A × ℕ)) → lookup (λ (k : Vec ℕ A). is_eq (slice_cmp nat_cmp name k.items)) entries ≡ index_among (indexes_in entries) name
index_among_entries name [] = refl
index_among_entries name (e ∷ es) = rw (index_among_entries name es, same_bytes name e.0.items (slice_cmp nat_cmp name e.0.items) refl) refl

module _ (v w : ℕ) (old : Option ℕ) where
  one_test : (b : Bool) → cond b (Some v) old ≡ (if b then Some v else cond b (Some w) old)
  one_test true = refl
  one_test false = refl

  two_tests : (a b : Bool) → (a ≡ true → b ≡ true → ⊥) → cond b (Some w) (if a then Some v else old) ≡ (if a then Some v else cond b (Some w) old)
  two_tests true true apart = absurd (apart refl refl)
  two_tests true false apart = refl
  two_tests false b apart = refl

module _ {A : Type 0} (key : Vec ℕ A) (v : ℕ) (n : List ℕ) where
  abbrev name_cmp : Vec ℕ A → Vec ℕ A → Ordering
  name_cmp x y = slice_cmp nat_cmp x.items y.items

  abbrev found : List (Vec ℕ A × ℕ) → Option ℕ
  found es = index_among (indexes_in es) n

  -- the value at its key, and elsewhere what was there
  pub found_inserted : (es : List (Vec ℕ A × ℕ)) → found (insert_entry name_cmp es key v) ≡ (if bytes_eq n key.items then Some v else found es)
  found_inserted [] = refl
  found_inserted (e ∷ es) = by (name_cmp key e.0) refl (found_inserted es)
    where
      placed : Ordering → List (Vec ℕ A × ℕ)
      placed o = match_ordering o ((key, v) ∷ e ∷ es) ((e.0, v) ∷ es) (e ∷ insert_entry name_cmp es key v)

      differ : (o : Ordering) → name_cmp key e.0 ≡ o → is_eq o ≡ false → bytes_eq n key.items ≡ true → bytes_eq n e.0.items ≡ true → ⊥
      differ o h other a b =
          true≢false (sym ((bytes_eq-Decides key.items e.0.items).1 (sym ((bytes_eq-Decides n key.items).0 a) ∙ (bytes_eq-Decides n e.0.items).0 b)) ∙ sym (same_bytes key.items e.0.items o (sym h)) ∙ other)

      by : (o : Ordering) → name_cmp key e.0 ≡ o → found (insert_entry name_cmp es key v) ≡ (if bytes_eq n key.items then Some v else found es) → found (placed (name_cmp key e.0)) ≡ (if bytes_eq n key.items then Some v else found (e ∷ es))
      by Less h rest = ap (λ o. found (placed o)) h
      by Equal h rest =
          let same : bytes_eq n e.0.items ≡ bytes_eq n key.items = ap (bytes_eq n) (sym ((bytes_eq-Decides key.items e.0.items).0 (sym (same_bytes key.items e.0.items Equal (sym h))))) in
          ap (λ o. found (placed o)) h ∙ one_test v e.1 (found es) (bytes_eq n e.0.items) ∙ ap (λ b. if b then Some v else found (e ∷ es)) same
      by Greater h rest =
          ap (λ o. found (placed o)) h ∙ ap (cond (bytes_eq n e.0.items) (Some e.1)) rest ∙ two_tests v e.1 (found es) (bytes_eq n key.items) (bytes_eq n e.0.items) (differ Greater h refl)
