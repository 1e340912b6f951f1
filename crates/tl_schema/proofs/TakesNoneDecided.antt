-- Whether a constructor takes no bytes.
use Rattle.std.proofs.Common.{◌≡◌, inl, inr, ℕ, zero, suc, ◌<◌, Bool, true, List, [], ◌∷◌, length, slice_get, Some, refl, ap, subst, arith}
use Rattle.std.proofs.lemmas.Option.{none-some, same_Some, slice_get_within, slice_get_cases}
use Rattle.tl_lexer.proofs.Whole.{Decided}
use Rattle.tl_combinators.proofs.Decided.{decided_as, decided_not, decided_and}
use Rattle.tl_program.specs.Program.{KindText, nat, flag, call, of, FieldText, DeclText}
use Rattle.tl_graph.specs.Paths.{IsIn}
use Rattle.tl_graph.specs.Needs.{IsMarked}
use Rattle.tl_graph.proofs.Deciding.{below_decided}
use Rattle.tl_graph.proofs.MarkLists.{marked_decided}
use Rattle.tl_graph.proofs.GrowingMarks.{AreSound, Grows, marks_decide}
use Rattle.tl_names.specs.Writing.{At, is_constructor}
use Rattle.tl_names.specs.Parts.{FieldAt}
use Rattle.tl_names.specs.BareFields.{HoldsBare, HasBareFields, TakesNone, takes_none}
use Rattle.tl_schema.proofs.IndexesDecided.{bool_decided, some_decided}
use Rattle.tl_schema.proofs.WritingDecided.{at_decided}
use Rattle.tl_schema.proofs.BareDecided.{bare_of_decided}

-- ---- each element of a list

module _ {X : Type 0} (xs : List X) (P : X → Type 0) (test : (x : X) → Decided (P x)) where
  abbrev Fails : Type 0
  Fails = (i : ℕ) × (x : X) × (slice_get xs i ≡ Some x) × (P x → ⊥)

  holds_at : (Fails → ⊥) → (i : ℕ) (x : X) → slice_get xs i ≡ Some x → Decided (P x) → P x
  holds_at none i x at (inl p) = p
  holds_at none i x at (inr fails) = absurd (none (i, x, at, fails))

  each_by : Decided Fails → Decided ((i : ℕ) (x : X) → slice_get xs i ≡ Some x → P x)
  each_by (inl (i, x, at, fails)) = inr (λ all. fails (all i x at))
  each_by (inr none) = inl (λ i x at. holds_at none i x at (test x))

  -- each is such
  each_decided : Decided ((i : ℕ) (x : X) → slice_get xs i ≡ Some x → P x)
  each_decided = each_by (some_decided xs (λ i x. P x → ⊥) (λ i x. decided_not (test x)))

-- numbers that stand to the elements as R says, one each
record OneEach {X : Type 0} (R : X → ℕ → Type 0) (xs : List X) : Type 0 where
  js : List ℕ
  count : length js ≡ length xs
  each : (i j : ℕ) (x : X) → slice_get xs i ≡ Some x → slice_get js i ≡ Some j → R x j
  origin : (i j : ℕ) → slice_get js i ≡ Some j → (x : X) × R x j

module _ {X : Type 0} (R : X → ℕ → Type 0) where
  module _ (x : X) (xs : List X) (j : ℕ) (r : R x j) (rest : OneEach R xs) where
    each_cell : (i k : ℕ) (y : X) → slice_get (x ∷ xs) i ≡ Some y → slice_get (j ∷ rest.js) i ≡ Some k → R y k
    each_cell zero k y at there = subst (λ z. R z k) (same_Some x y at) (subst (R x) (same_Some j k there) r)
    each_cell (suc i) k y at there = rest.each i k y at there

    origin_cell : (i k : ℕ) → slice_get (j ∷ rest.js) i ≡ Some k → (y : X) × R y k
    origin_cell zero k there = (x, subst (R x) (same_Some j k there) r)
    origin_cell (suc i) k there = rest.origin i k there

    one_cell : OneEach R (x ∷ xs)
    one_cell = record { js = j ∷ rest.js; count = ap suc rest.count; each = each_cell; origin = origin_cell }

  chosen : (xs : List X) → ((i : ℕ) (x : X) → slice_get xs i ≡ Some x → (j : ℕ) × R x j) → OneEach R xs
  chosen [] all = record { js = []; count = refl; each = λ i j x at there. absurd (none-some x at); origin = λ i j there. absurd (none-some j there) }
  chosen (x ∷ xs) all = let h = all 0 x refl in one_cell x xs h.0 h.1 (chosen xs (λ i. all (suc i)))

-- ---- the constructors that take none

module _ (ds : List DeclText) where
  holds_decided : (d : DeclText) (kind : KindText) (j : ℕ) → Decided (HoldsBare ds d kind j)
  holds_decided d nat j = inr (λ h. h)
  holds_decided d flag j = inr (λ h. h)
  holds_decided d (call var) j = inr (λ h. h)
  holds_decided d (of t) j = bare_of_decided ds d t j

  module _ (marks : List Bool) where
    -- the field holds a bare constructor that is marked
    abbrev HoldsMarked : DeclText → FieldText → ℕ → Type 0
    HoldsMarked d f j = HoldsBare ds d f.kind j × IsMarked marks j

    abbrev FieldsMarked : DeclText → Type 0
    FieldsMarked d = (i : ℕ) (f : FieldText) → FieldAt d i f → (j : ℕ) × HoldsMarked d f j

    -- declaration j is a constructor whose fields all do
    abbrev IsMade : ℕ → Type 0
    IsMade j = (d : DeclText) × At ds j d × ((is_constructor d ≡ true) × FieldsMarked d)

    abbrev IsNext : ℕ → Type 0
    IsNext j = (IsMarked marks j → ⊥) × IsMade j

    marked_field_decided : (d : DeclText) (f : FieldText) → Decided ((j : ℕ) × HoldsMarked d f j)
    marked_field_decided d f =
        decided_as (λ h. (h.0, h.2)) (λ h. (h.0, slice_get_within marks h.0 true h.1.1, h.1))
        (below_decided (HoldsMarked d f) (λ j. decided_and (holds_decided d f.kind j) (marked_decided marks j)) (length marks))

    next_decided : (j : ℕ) → Decided (IsNext j)
    next_decided j =
        decided_and (decided_not (marked_decided marks j))
        (at_decided ds j (λ d. (is_constructor d ≡ true) × FieldsMarked d)
        (λ d. decided_and (bool_decided (is_constructor d) true) (each_decided d.fields (λ f. (j : ℕ) × HoldsMarked d f j) (marked_field_decided d))))

    made : AreSound (TakesNone ds) marks → (j : ℕ) → IsMade j → TakesNone ds j
    made sound j (d, here, (own, all)) =
        let c = chosen (HoldsMarked d) d.fields all in
        takes_none j d c.js here (record { own = own; count = c.count; each = λ i k f at there. (c.each i k f at there).0 }) (λ k among. sound k (c.origin among.0 k among.1).1.1)

    module _ (none : ((j : ℕ) × (j < length ds) × IsNext j) → ⊥) where
      marked_by : (j : ℕ) → IsMade j → Decided (IsMarked marks j) → IsMarked marks j
      marked_by j is (inl m) = m
      marked_by j is (inr free) = absurd (none (j, slice_get_within ds j is.0 is.1, (free, is)))

      -- a field's constructor stands among those that its declaration needs
      field_marked : (d : DeclText) (js : List ℕ) → HasBareFields ds d js → ((k : ℕ) → IsIn k js → IsMarked marks k) → FieldsMarked d
      field_marked d js fields all i f at = elim (slice_get_cases js i).1 [
        | inl (k, below, there, is) ↦ (k, (fields.each i k f at there, all k (i, there)))
        | inr (past, missing) ↦ absurd (omega (arith, past, fields.count, slice_get_within d.fields i f at))
      ]

      all_marked : (j : ℕ) → TakesNone ds j → IsMarked marks j
      all_marked _ (takes_none j d js here fields takes) =
          marked_by j (d, here, (fields.own, field_marked d js fields (λ k among. all_marked k (takes k among)))) (marked_decided marks j)

    grown : AreSound (TakesNone ds) marks → Decided ((j : ℕ) × (j < length ds) × IsNext j) → Grows (TakesNone ds) (length ds) marks
    grown sound (inl (j, below, (free, is))) = inl (j, below, free, made sound j is)
    grown sound (inr none) = inr (all_marked none)

  pub takes_none_decided : (j : ℕ) → Decided (TakesNone ds j)
  takes_none_decided = marks_decide (TakesNone ds) (length ds) (λ marks width sound. grown marks sound (below_decided (IsNext marks) (next_decided marks) (length ds)))
