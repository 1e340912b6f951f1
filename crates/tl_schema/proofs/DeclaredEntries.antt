-- The entries of a program's declarations, as they are made one after another, and the indexes of their names.
use Rattle.std.proofs.Common.{◌≡◌, ◌⊎◌, inl, inr, ℕ, ◌+◌, ◌<◌, ◌^◌, List, [], ◌∷◌, ◌++◌, length, slice_get, Bool, true, false, not, bytes_eq, Option, Some, refl, ap, sym, ◌∙◌, subst, true≢false, length-append, arith, if◌then◌else◌}
use Rattle.std.specs.Option.{unwrap_or}
use Rattle.std.proofs.lemmas.Option.{none-some, same_Some}
use Rattle.std.proofs.lemmas.Slice.Eq.{bytes_eq-Decides}
use Rattle.tl_program.specs.Program.{DeclText, IsWithinLimits}
use Rattle.tl_names.specs.Writing.{At, is_function}
use Rattle.tl_schema.specs.Schemas.{Declaration, Declared}
use Rattle.tl_schema.specs.Meanings.{IsEntry, IsSmall}
use Rattle.tl_names.specs.inner.BareSteps.{MarksEmpty}
use Rattle.tl_schema.specs.CheckCauses.{Passes}
use Rattle.tl_schema.specs.CheckedPrograms.{HasName, Finds}
use Rattle.tl_names.specs.NameIndexes.{Notes, index_among}
use Rattle.tl_schema.specs.inner.NamesNoted.{NotesOne, among, Enters}
use Rattle.tl_schema.specs.inner.SchemaParts.{AreNumbers, AreIndexes, IsSound}
use Rattle.tl_schema.specs.declared.checks.Known.{Known}
use Rattle.tl_schema.proofs.SmallPrograms.{small_within_limits}
use Rattle.tl_names.proofs.Indexes.{HoldsAt, first_same, first_with, first_without, get_cases}

-- ---- names

abbrev IsNamed : List ℕ → Bool → Declaration → Type 0
IsNamed name function e = (e.name ≡ name) × (e.function ≡ function)

module _ (es : List Declaration) (name : List ℕ) (function : Bool) where
  name_index : (j : ℕ) → HasName es name function j → HoldsAt (IsNamed name function) es j
  name_index j h = record { x = h.0; there = h.1; has = (h.2, h.3) }

  index_name : (j : ℕ) → HoldsAt (IsNamed name function) es j → HasName es name function j
  index_name j p = (p.x, p.there, p.has.0, p.has.1)

module _ (es : List Declaration) (e : Declaration) (function : Bool) where
  found_without : (name : List ℕ) → (IsNamed name function e → ⊥) → (o : Option ℕ) → Finds es name function o → Finds (es ++ e ∷ []) name function o
  found_without name lacks o first =
      first_same _ _ (index_name (es ++ e ∷ []) name function) (name_index (es ++ e ∷ []) name function) o (first_without (IsNamed name function) es e lacks o (first_same _ _ (name_index es name function) (index_name es name function) o first))

  found_with : (name : List ℕ) → IsNamed name function e → (o : Option ℕ) (at : ℕ) → length es ≡ at → Finds es name function o → Finds (es ++ e ∷ []) name function (Some (unwrap_or o at))
  found_with name has o at count first =
      first_same _ _ (index_name (es ++ e ∷ []) name function) (name_index (es ++ e ∷ []) name function) (Some (unwrap_or o at)) (first_with (IsNamed name function) es e has o at count (first_same _ _ (name_index es name function) (index_name es name function) o first))

  -- an entry of the other kind
  indexes_other : (indexes : List (List ℕ × ℕ)) → (e.function ≡ function → ⊥) → AreIndexes es function indexes → AreIndexes (es ++ e ∷ []) function indexes
  indexes_other indexes lacks old name = found_without name (λ has. lacks has.1) (index_among indexes name) (old name)

  -- one more entry of this kind
  indexes_more : (old new : List (List ℕ × ℕ)) (at : ℕ) → e.function ≡ function → length es ≡ at → Notes old new e.name at → AreIndexes es function old → AreIndexes (es ++ e ∷ []) function new
  indexes_more old new at kind count notes before name = by (bytes_eq name e.name) refl
    where
      by : (b : Bool) → bytes_eq name e.name ≡ b → Finds (es ++ e ∷ []) name function (index_among new name)
      by true h =
          let is = notes name ∙ ap (λ b. if b then Some (unwrap_or (index_among old name) at) else index_among old name) h in
          subst (Finds (es ++ e ∷ []) name function) (sym is) (found_with name (sym ((bytes_eq-Decides name e.name).0 h), kind) (index_among old name) at count (before name))
      by false h =
          let is = notes name ∙ ap (λ b. if b then Some (unwrap_or (index_among old name) at) else index_among old name) h in
          subst (Finds (es ++ e ∷ []) name function) (sym is) (found_without name (λ has. true≢false (sym ((bytes_eq-Decides name e.name).1 (sym has.0)) ∙ h)) (index_among old name) (before name))

-- ---- both kinds

abbrev AreKnown : List Declaration → Known → Type 0
AreKnown es known = (function : Bool) → AreIndexes es function (among function known)

one_of_two : (a b : Bool) → (a ≡ b) ⊎ (a ≡ not b)
one_of_two true true = inl refl
one_of_two true false = inr refl
one_of_two false true = inr refl
one_of_two false false = inl refl

never_its_other : (b : Bool) → b ≡ not b → ⊥
never_its_other true e = true≢false e
never_its_other false e = true≢false (sym e)

known_more : (es : List Declaration) (e : Declaration) (d : DeclText) (old new : Known) (at : ℕ) → e.name ≡ d.name → e.function ≡ is_function d → length es ≡ at → NotesOne old new d at → AreKnown es old → AreKnown (es ++ e ∷ []) new
known_more es e d old new at named kind count notes before function =
    elim (one_of_two function (is_function d)) [
      | inl same ↦ subst (λ b. AreIndexes (es ++ e ∷ []) b (among b new)) (sym same) (
          indexes_more es e (is_function d) (among (is_function d) old) (among (is_function d) new) at kind count (subst (λ name. Notes (among (is_function d) old) (among (is_function d) new) name at) (sym named) notes.noted) (before (is_function d))
          )
      | inr other ↦ subst (λ b. AreIndexes (es ++ e ∷ []) b (among b new)) (sym other) (
          subst (AreIndexes (es ++ e ∷ []) (not (is_function d))) (sym notes.others) (indexes_other es e (not (is_function d)) (among (not (is_function d)) old) (λ is. never_its_other (is_function d) (sym kind ∙ is)) (before (not (is_function d))))
          )
    ]

-- ---- the entries so far

pub none_yet : (ds : List DeclText) (known : Known) → known.constructors ≡ [] → known.functions ≡ [] → Enters ds 0 [] known
none_yet ds known no_constructors no_functions = record {
  count = refl;
  entries = λ k d e there at. absurd (none-some e at);
  fits = λ k e at. absurd (none-some e at);
  indexes = none_placed;
}
  where
    none_placed : (function : Bool) → AreIndexes [] function (among function known)
    none_placed true name = subst (λ indexes. Finds [] name true (index_among indexes name)) (sym no_functions) (λ k h. none-some h.0 h.1)
    none_placed false name = subst (λ indexes. Finds [] name false (index_among indexes name)) (sym no_constructors) (λ k h. none-some h.0 h.1)

-- one entry more
pub enters_more : (ds : List DeclText) (at : ℕ) (es : List Declaration) (old new : Known) (d : DeclText) (e : Declaration) → At ds at d → IsEntry ds d e → e.number < 2 ^ 32 → NotesOne old new d at → Enters ds at es old → Enters ds (at + 1) (es ++ e ∷ []) new
enters_more ds at es old new d e there is fits notes before = record {
  count = omega (arith, length-append es (e ∷ []), before.count);
  entries = λ k c f c_there f_there. elim (get_cases es e k f f_there) [
    | inl earlier ↦ before.entries k c f c_there earlier
    | inr last ↦
        let here : slice_get ds k ≡ Some d = ap (slice_get ds) (last.0 ∙ before.count) ∙ there in
        subst (IsEntry ds c) last.1 (subst (λ b. IsEntry ds b e) (same_Some d c (sym here ∙ c_there)) is)
  ];
  fits = λ k f f_there. elim (get_cases es e k f f_there) [ inl earlier ↦ before.fits k f earlier | inr last ↦ subst (λ (g : Declaration). g.number < 2 ^ 32) last.1 fits ];
  indexes = known_more es e d old new at (ap (λ x. x.name) is.1) (ap (λ x. x.function) is.1) before.count notes before.indexes;
}

-- all declarations have their entries
module _ (ds : List DeclText) (schema : Declared) (known : Known) (numbers : List (ℕ × ℕ)) (empties : List Bool) where
  pub entered : schema.program ≡ ds → IsWithinLimits ds → Passes ds → Enters ds (length ds) schema.decls known → AreNumbers ds numbers → MarksEmpty ds empties → IsSound schema known.constructors known.functions numbers empties
  entered same limits passes es are_numbers marks = record {
    good = record {
      passes = subst Passes (sym same) passes;
      small = subst IsSmall (sym same) (small_within_limits ds limits);
      count = es.count ∙ sym (ap length same);
      entries = λ k d e there here. subst (λ program. IsEntry program d e) (sym same) (es.entries k d e (ap (λ program. slice_get program k) (sym same) ∙ there) here);
      fits = es.fits;
    };
    of_constructors = es.indexes false;
    of_functions = es.indexes true;
    of_numbers = subst (λ program. AreNumbers program numbers) (sym same) are_numbers;
    of_empties = subst (λ program. MarksEmpty program empties) (sym same) marks;
  }
