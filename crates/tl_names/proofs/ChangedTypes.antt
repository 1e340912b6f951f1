-- The constructors of one type change, or those of one type more are added.
use Rattle.std.proofs.Common.{◌≡◌, ℕ, zero, suc, ◌+◌, ◌<◌, Bool, true, false, List, [], ◌∷◌, ◌++◌, length, set, bytes_eq, slice_get, Option, Some, None, refl, ap, sym, ◌∙◌, if◌then◌else◌, true≢false, arith}
use Rattle.std.specs.Option.{unwrap_or, is_some}
use Rattle.std.proofs.lemmas.List.{length_push, length-set}
use Rattle.std.proofs.lemmas.Slice.Eq.{bytes_eq-Decides}
use Rattle.tl_names.specs.NameIndexes.{index_among, Notes}
use Rattle.tl_names.specs.inner.Indexed.{AreNumbered, Changes, at_number, at_type}
use Rattle.tl_names.specs.declared.index.Constructors.{Constructors}
use Rattle.tl_names.proofs.Indexes.{get_last}
use Rattle.tl_names.proofs.MapEntries.{notes_known}

module _ {X : Type 0} where
  set_here : (xs : List X) (i : ℕ) (x : X) → i < length xs → slice_get (set xs i x) i ≡ Some x
  set_here [] i x within = absurd (omega (arith, within))
  set_here (y ∷ ys) zero x within = refl
  set_here (y ∷ ys) (suc i) x within = set_here ys i x (omega (arith, within))

  set_apart : (xs : List X) (i j : ℕ) (x : X) → (j ≡ i → ⊥) → slice_get (set xs i x) j ≡ slice_get xs j
  set_apart [] i j x apart = refl
  set_apart (y ∷ ys) zero zero x apart = absurd (apart refl)
  set_apart (y ∷ ys) zero (suc j) x apart = refl
  set_apart (y ∷ ys) (suc i) zero x apart = refl
  set_apart (y ∷ ys) (suc i) (suc j) x apart = set_apart ys i j x (λ e. apart (omega (arith, e)))

  get_before : (xs : List X) (x : X) (j : ℕ) → j < length xs → slice_get (xs ++ x ∷ []) j ≡ slice_get xs j
  get_before [] x j within = absurd (omega (arith, within))
  get_before (y ∷ ys) x zero within = refl
  get_before (y ∷ ys) x (suc j) within = get_before ys x j (omega (arith, within))

module _ (types : List (List ℕ × ℕ)) (families : List Constructors) (name : List ℕ) (f : Option Constructors → Constructors) (numbered : AreNumbered types families) where
  abbrev changed : List ℕ → Bool → Option Constructors
  changed type b = if b then Some (f (at_type types families type)) else at_type types families type

  -- a type that has constructors
  pub changes_known : (number : ℕ) (x : Constructors) → index_among types name ≡ Some number → x ≡ f (slice_get families number) → Changes types families types (set families number x) name f
  changes_known number x there is = record {
    numbers = notes_known types name (length families) number there;
    count = length-set families number x ∙ sym (ap (λ o. if is_some o then length families else length families + 1) there);
    made = λ type. by type (bytes_eq type name) refl;
  }
    where
      other : (type : List ℕ) (o : Option ℕ) → index_among types type ≡ o → (type ≡ name → ⊥) → at_number (set families number x) o ≡ at_number families o
      other type None at apart = refl
      other type (Some k) at apart = set_apart families number k x (λ e. apart (numbered.apart type name number (at ∙ ap Some e) there))

      by : (type : List ℕ) (b : Bool) → bytes_eq type name ≡ b → at_type types (set families number x) type ≡ changed type (bytes_eq type name)
      by type true h =
          let at : index_among types type ≡ Some number = ap (index_among types) ((bytes_eq-Decides type name).0 h) ∙ there in
          ap (at_number (set families number x)) at ∙ set_here families number x (numbered.within type number at) ∙ ap Some (is ∙ sym (ap (λ o. f (at_number families o)) at)) ∙ sym (ap (changed type) h)
      by type false h =
          other type (index_among types type) refl (λ e. true≢false (sym ((bytes_eq-Decides type name).1 e) ∙ h)) ∙ sym (ap (changed type) h)

  -- a type that has none yet
  pub changes_new : (new_types : List (List ℕ × ℕ)) (x : Constructors) → index_among types name ≡ None → Notes types new_types name (length families) → x ≡ f None → Changes types families new_types (families ++ x ∷ []) name f
  changes_new new_types x none notes is = record {
    numbers = notes;
    count = length_push families x ∙ sym (ap (λ o. if is_some o then length families else length families + 1) none);
    made = λ type. by type (bytes_eq type name) refl;
  }
    where
      noted : List ℕ → Bool → Option ℕ
      noted type b = if b then Some (unwrap_or (index_among types type) (length families)) else index_among types type

      other : (type : List ℕ) (o : Option ℕ) → index_among types type ≡ o → at_number (families ++ x ∷ []) o ≡ at_number families o
      other type None at = refl
      other type (Some k) at = get_before families x k (numbered.within type k at)

      by : (type : List ℕ) (b : Bool) → bytes_eq type name ≡ b → at_type new_types (families ++ x ∷ []) type ≡ changed type (bytes_eq type name)
      by type true h =
          let at : index_among types type ≡ None = ap (index_among types) ((bytes_eq-Decides type name).0 h) ∙ none in
          ap (at_number (families ++ x ∷ [])) (notes type ∙ ap (noted type) h ∙ ap (λ o. Some (unwrap_or o (length families))) at)
          ∙ get_last families x ∙ ap Some (is ∙ sym (ap (λ o. f (at_number families o)) at)) ∙ sym (ap (changed type) h)
      by type false h =
          ap (at_number (families ++ x ∷ [])) (notes type ∙ ap (noted type) h) ∙ other type (index_among types type) refl ∙ sym (ap (changed type) h)
