-- What is spelled fits.
use Rattle.std.proofs.Common.{◌≡◌, ◌⊎◌, inl, inr, ℕ, zero, suc, ◌-◌, ◌≤◌, ◌^◌, List, [], ◌∷◌, ◌++◌, length, Option, Some, None, Bool, true, false, refl, sym, ap, ap₂, ◌∙◌, arith, lt-ltb, true≢false}
use Rattle.std.specs.Prelude.{slice_get}
use Rattle.std.proofs.lemmas.Bool.{eq-eqb}
use Rattle.tl_schema.specs.Types.{Shape, Shapes}
use Rattle.tl_schema.specs.Types as type
use Rattle.tl_schema.specs.Closing.{closed, list_of_shapes}
use Rattle.tl_schema.specs.Schemas.{Slot, Declaration, Declared}
use Rattle.tl_types.specs.Values.{ValueView, ValueViews, no_values, value, depth, depth_of, count}
use Rattle.tl_types.specs.Values as view
use Rattle.tl_types.specs.Conditions.{stands_by}
use Rattle.tl_types.specs.Parts.{arguments_of, fields_in, item_of}
use Rattle.tl_types.specs.Spelling.{Begins, Spells, SpellEach, SpellFields}
use Rattle.tl_types.specs.Spelling as begins
use Rattle.tl_types.specs.Fitting.{bit_of, constructs, each_misfit, field_misfit, has_constructor, has_count, has_width, inside, is_called, is_deep_value, is_in_range, is_kind, is_signed, misfit}
use Rattle.tl_types.proofs.NodePasses.{parts_misfit, no_misfit, fits_of, both_none, with_kind, set_fits, clear_fits, shallow}
use Rattle.tl_types.proofs.SignedRanges.{word_int, double_word_long}

module _ (schema : Declared) where
  -- ---- one value

  plain_fits : (n : ℕ) (T : Shape) (v : ValueView) → is_kind T v ≡ true → has_constructor schema.decls T v ≡ true → has_count schema.decls T v ≡ true → is_in_range v ≡ true
      → is_deep_value v ≡ false → parts_misfit schema.decls n T v ≡ None → misfit schema.decls n None T v ≡ None
  plain_fits n T v kind constructor count range flat parts =
      no_misfit schema.decls n None T v
      (record { own = record { kind = with_kind T v kind; constructor = constructor; count = count; flag = refl; range = range; level = shallow n v flat }; parts = parts })

  deep_fits : (n : ℕ) (T : Shape) (v : ValueView) → is_kind T v ≡ true → has_constructor schema.decls T v ≡ true → has_count schema.decls T v ≡ true → is_in_range v ≡ true
      → parts_misfit schema.decls (suc n) T v ≡ None → misfit schema.decls (suc n) None T v ≡ None
  deep_fits n T v kind constructor count range parts =
      no_misfit schema.decls (suc n) None T v
      (record { own = record { kind = with_kind T v kind; constructor = constructor; count = count; flag = refl; range = range; level = refl }; parts = parts })

  text_kind : (T : Shape) (s : List ℕ) → (T ≡ type.str) ⊎ (T ≡ type.raw) → is_kind T (view.text s) ≡ true
  text_kind T s (inl e) = ap (λ (U : Shape). is_kind U (view.text s)) e
  text_kind T s (inr e) = ap (λ (U : Shape). is_kind U (view.text s)) e

  one_less : (n : ℕ) → n ≡ suc n - 1
  one_less n = omega arith

  -- ---- a record

  constructs_so : (h : ℕ) (o : Option Declaration) (d : Declaration) → o ≡ Some d → d.head ≡ h → constructs h o ≡ true
  constructs_so h o d there head = ap (constructs h) there ∙ eq-eqb d.head h head

  node_kind : (T : Shape) (i : ℕ) (d : Declaration) (args : Shapes) (prefix : List ℕ) (vs : ValueViews) → Begins schema T i d args prefix → is_kind T (view.node i vs) ≡ true
  node_kind T i d args prefix vs (begins.boxed h e m is) = ap (λ (U : Shape). is_kind U (view.node i vs)) e
  node_kind T i d args prefix vs (begins.bare e there is) = ap (λ (U : Shape). is_kind U (view.node i vs)) e

  node_constructor : (T : Shape) (i : ℕ) (d : Declaration) (args : Shapes) (prefix : List ℕ) (vs : ValueViews) → Begins schema T i d args prefix → has_constructor schema.decls T (view.node i vs) ≡ true
  node_constructor T i d args prefix vs (begins.boxed h e m is) = ap (λ (U : Shape). has_constructor schema.decls U (view.node i vs)) e ∙ constructs_so h (slice_get schema.decls i) d m.there m.head
  node_constructor T i d args prefix vs (begins.bare e there is) = ap (λ (U : Shape). has_constructor schema.decls U (view.node i vs)) e ∙ eq-eqb i i refl

  node_there : (T : Shape) (i : ℕ) (d : Declaration) (args : Shapes) (prefix : List ℕ) → Begins schema T i d args prefix → slice_get schema.decls i ≡ Some d
  node_there T i d args prefix (begins.boxed h e m is) = m.there
  node_there T i d args prefix (begins.bare e there is) = there

  node_arguments : (T : Shape) (i : ℕ) (d : Declaration) (args : Shapes) (prefix : List ℕ) → Begins schema T i d args prefix → list_of_shapes args ≡ arguments_of T
  node_arguments T i d args prefix (begins.boxed h e m is) = sym (ap arguments_of e)
  node_arguments T i d args prefix (begins.bare e there is) = sym (ap arguments_of e)

  fields_of : (i : ℕ) (d : Declaration) → slice_get schema.decls i ≡ Some d → d.fields ≡ fields_in (slice_get schema.decls i)
  fields_of i d there = sym (ap fields_in there)

  count_fields : (vs : ValueViews) (args : List Shape) (before : List ValueView) (fs : List Slot) (b : List ℕ) → SpellFields schema args before fs vs b → count vs ≡ length fs
  count_fields no_values args before [] b s = refl
  count_fields no_values args before (f ∷ fs) b s = absurd s
  count_fields (value v vs) args before [] b s = absurd s
  count_fields (value v vs) args before (f ∷ fs) b s = ap suc (count_fields vs args (before ++ v ∷ []) fs s.1 s.4)

  -- ---- a field

  set_field : (cond : Option (ℕ × ℕ)) (before : List ValueView) (n : ℕ) (T : Shape) (v : ValueView) → stands_by cond before ≡ true → misfit schema.decls n None T v ≡ None
      → misfit schema.decls n (bit_of cond before) T v ≡ None
  set_field None before n T v set fits = fits
  set_field (Some c) before n T v set fits =
      ap (λ (b : Bool). misfit schema.decls n (Some b) T v) set ∙ no_misfit schema.decls n (Some true) T v (set_fits schema.decls n T v (fits_of schema.decls n None T v fits))

  clear_field : (cond : Option (ℕ × ℕ)) (before : List ValueView) (n : ℕ) (T : Shape) (v : ValueView) → stands_by cond before ≡ false → v ≡ view.absent
      → misfit schema.decls n (bit_of cond before) T v ≡ None
  clear_field None before n T v clear gone = absurd (true≢false clear)
  clear_field (Some c) before n T v clear gone =
      ap₂ (λ (b : Bool) (w : ValueView). misfit schema.decls n (Some b) T w) clear gone ∙ no_misfit schema.decls n (Some false) T view.absent (clear_fits schema.decls n T)

  -- ---- values

  mutual
    pub spelled_fits : (v : ValueView) (T : Shape) (n : ℕ) (b : List ℕ) → Spells schema T v b → depth v ≤ n → misfit schema.decls n None T v ≡ None
    spelled_fits (view.int z) T n b s deep = plain_fits n T (view.int z) (ap (λ (U : Shape). is_kind U (view.int z)) s.0) refl refl (ap (is_signed (2 ^ 31)) s.3 ∙ word_int s.1 s.2) refl refl
    spelled_fits (view.long z) T n b s deep = plain_fits n T (view.long z) (ap (λ (U : Shape). is_kind U (view.long z)) s.0) refl refl (ap (is_signed (2 ^ 63)) s.3 ∙ double_word_long s.1 s.2) refl refl
    spelled_fits (view.nat k) T n b s deep = plain_fits n T (view.nat k) (ap (λ (U : Shape). is_kind U (view.nat k)) s.0) refl refl (lt-ltb k (2 ^ 32) s.1) refl refl
    spelled_fits (view.opaque xs) T n b s deep =
        plain_fits n T (view.opaque xs) (ap (λ (U : Shape). is_kind U (view.opaque xs)) s.0) refl (ap (λ (U : Shape). has_width U (length xs)) s.0 ∙ eq-eqb (length xs) (length xs) refl) refl refl refl
    spelled_fits (view.text xs) T n b s deep = plain_fits n T (view.text xs) (text_kind T xs s.0) refl refl (lt-ltb (length xs) (2 ^ 24) s.1) refl refl
    spelled_fits view.truth T n b s deep = plain_fits n T view.truth (ap (λ (U : Shape). is_kind U view.truth) s.0) refl refl refl refl refl
    spelled_fits view.absent T n b s deep = absurd s
    spelled_fits (view.list vs) T zero b s deep = absurd (omega arith)
    spelled_fits (view.list vs) T (suc n) b s deep =
        let each = each_fits vs s.1 n s.2 0 s.6 (omega arith) in
        deep_fits n T (view.list vs) (ap (λ (U : Shape). is_kind U (view.list vs)) s.3) refl refl (lt-ltb (count vs) (2 ^ 31) s.4)
        (sym (ap₂ (λ (k : ℕ) (U : Shape). each_misfit schema.decls k U 0 vs) (one_less n) (sym (ap item_of s.3))) ∙ each)
    spelled_fits (view.node i vs) T zero b s deep = absurd (omega arith)
    spelled_fits (view.node i vs) T (suc n) b s deep =
        let d = s.0 in
        let fields = fields_of i d (node_there T i d s.1 s.2 s.4) in
        let each = fields_fit vs (list_of_shapes s.1) [] d.fields n 0 s.3 s.6 (omega arith) in
        let args = node_arguments T i d s.1 s.2 s.4 in
        deep_fits n T (view.node i vs) (node_kind T i d s.1 s.2 vs s.4) (node_constructor T i d s.1 s.2 vs s.4)
        (eq-eqb _ _ (count_fields vs (list_of_shapes s.1) [] d.fields s.3 s.6 ∙ ap length fields)) refl
        (ap (λ (k : ℕ). field_misfit schema.decls k (arguments_of T) [] 0 (fields_in (slice_get schema.decls i)) vs) (sym (one_less n))
        ∙ sym (ap₂ (λ (As : List Shape) (fs : List Slot). field_misfit schema.decls n As [] 0 fs vs) args fields) ∙ each)
    spelled_fits (view.call i vs) T zero b s deep = absurd (omega arith)
    spelled_fits (view.call i vs) T (suc n) b s deep =
        let d = s.0 in
        let fields = fields_of i d s.3.there in
        let each = fields_fit vs [] [] d.fields n 0 s.1 s.5 (omega arith) in
        deep_fits n T (view.call i vs) (ap (λ (U : Shape). is_kind U (view.call i vs)) s.2) (ap is_called s.3.there ∙ s.3.function)
        (eq-eqb _ _ (count_fields vs [] [] d.fields s.1 s.5 ∙ ap length fields)) refl
        (sym (ap₂ (λ (k : ℕ) (fs : List Slot). field_misfit schema.decls k [] [] 0 fs vs) (one_less n) fields) ∙ each)

    each_fits : (vs : ValueViews) (T : Shape) (n : ℕ) (b : List ℕ) (i : ℕ) → SpellEach schema T vs b → depth_of vs ≤ n → each_misfit schema.decls n T i vs ≡ None
    each_fits no_values T n b i s deep = refl
    each_fits (value v vs) T n b i s deep =
        both_none _ _ (ap (inside i) (spelled_fits v T n s.0 s.3 (omega arith))) (each_fits vs T n s.1 (suc i) s.4 (omega arith))

    fields_fit : (vs : ValueViews) (args : List Shape) (before : List ValueView) (fs : List Slot) (n i : ℕ) (b : List ℕ) → SpellFields schema args before fs vs b → depth_of vs ≤ n
        → field_misfit schema.decls n args before i fs vs ≡ None
    fields_fit no_values args before fs n i b s deep = refl
    fields_fit (value v vs) args before [] n i b s deep = absurd s
    fields_fit (value v vs) args before (f ∷ fs) n i b (x, y, is, inl (set, spells), more) deep =
        let own = set_field f.cond before n (closed args f.of) v set (spelled_fits v (closed args f.of) n x spells (omega arith)) in
        both_none _ _ (ap (inside i) own) (fields_fit vs args (before ++ v ∷ []) fs n (suc i) y more (omega arith))
    fields_fit (value v vs) args before (f ∷ fs) n i b (x, y, is, inr (clear, gone, empty), more) deep =
        let own = clear_field f.cond before n (closed args f.of) v clear gone in
        both_none _ _ (ap (inside i) own) (fields_fit vs args (before ++ v ∷ []) fs n (suc i) y more (omega arith))
