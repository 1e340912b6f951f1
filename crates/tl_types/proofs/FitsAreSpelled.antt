-- What fits is spelled.
use Rattle.std.proofs.Common.{◌≡◌, ◌⊎◌, inl, inr, ℕ, zero, suc, ◌-◌, ◌≤◌, ◌^◌, ℤ, List, [], ◌∷◌, ◌++◌, length, Option, Some, None, Bool, true, false, refl, sym, ap, ap₂, ◌∙◌, subst, arith, true≢false}
use Rattle.std.specs.Prelude.{slice_get}
use Rattle.std.proofs.lemmas.Bool.{eqb-true, ltb-true}
use Rattle.tl_numbers.specs.Numbers.{word, double_word}
use Rattle.tl_schema.specs.Types.{Shape, Shapes}
use Rattle.tl_schema.specs.Types as type
use Rattle.tl_schema.specs.Closing.{closed, list_of_shapes}
use Rattle.tl_schema.specs.Schemas.{Slot, Declaration, Declared}
use Rattle.tl_schema.specs.Formed.{IsMember, IsFunction, IsFormed}
use Rattle.tl_types.specs.Values.{ValueView, ValueViews, no_values, value, depth, depth_of, count}
use Rattle.tl_types.specs.Values as view
use Rattle.tl_types.specs.Texts.{text_bytes}
use Rattle.tl_types.specs.Conditions.{stands_by}
use Rattle.tl_types.specs.Parts.{arguments_of, fields_in, item_of}
use Rattle.tl_types.specs.Spelling.{vector_prefix, Spells, SpellEach, SpellFields}
use Rattle.tl_types.specs.Spelling as begins
use Rattle.tl_types.specs.Fitting.{bit_of, constructs, each_misfit, field_misfit, has_constructor, has_count, has_width, is_called, is_kind, misfit}
use Rattle.tl_types.specs.FitsExactly.{EachFitsExactly}
use Rattle.tl_types.proofs.Members.{by_test}
use Rattle.tl_types.proofs.FormedParts.{PartsTell, IsRead, AreRead, first_read, others_read}
use Rattle.tl_types.proofs.NodePasses.{fits_of, no_misfit, or_else_none, inside_none, kind_of, fits_set, fits_clear}
use Rattle.tl_types.proofs.SignedRanges.{int_word, long_word}
use Rattle.tl_types.proofs.SpelledFits.{spelled_fits}
use Rattle.tl_types.proofs.SchemaTells.{schema_tells}

-- ---- the type of a value of its kind

int_type : (T : Shape) (z : ℤ) → is_kind T (view.int z) ≡ true → T ≡ type.int
int_type type.int z e = refl
int_type T z e = absurd (true≢false (sym e))

long_type : (T : Shape) (z : ℤ) → is_kind T (view.long z) ≡ true → T ≡ type.long
long_type type.long z e = refl
long_type T z e = absurd (true≢false (sym e))

nat_type : (T : Shape) (k : ℕ) → is_kind T (view.nat k) ≡ true → T ≡ type.nat
nat_type type.nat k e = refl
nat_type T k e = absurd (true≢false (sym e))

opaque_type : (T : Shape) (s : List ℕ) → is_kind T (view.opaque s) ≡ true → has_width T (length s) ≡ true → T ≡ type.opaque (length s)
opaque_type (type.opaque k) s e width = ap type.opaque (sym (eqb-true (length s) k width))
opaque_type T s e width = absurd (true≢false (sym e))

text_type : (T : Shape) (s : List ℕ) → is_kind T (view.text s) ≡ true → (T ≡ type.str) ⊎ (T ≡ type.raw)
text_type type.str s e = inl refl
text_type type.raw s e = inr refl
text_type T s e = absurd (true≢false (sym e))

flag_type : (T : Shape) → is_kind T view.truth ≡ true → T ≡ type.flag
flag_type type.flag e = refl
flag_type T e = absurd (true≢false (sym e))

never_absent : (T : Shape) → is_kind T view.absent ≡ true → ⊥
never_absent type.int e = true≢false (sym e)
never_absent T e = true≢false (sym e)

vector_type : (T : Shape) (vs : ValueViews) → is_kind T (view.list vs) ≡ true → (is_boxed : Bool) × (item : Shape) × (T ≡ type.vector is_boxed item)
vector_type (type.vector is_boxed item) vs e = (is_boxed, item, refl)
vector_type T vs e = absurd (true≢false (sym e))

call_type : (T : Shape) (i : ℕ) (vs : ValueViews) → is_kind T (view.call i vs) ≡ true → T ≡ type.call
call_type type.call i vs e = refl
call_type T i vs e = absurd (true≢false (sym e))

data RecordType (T : Shape) : Type 0 where
  boxed : (h : ℕ) (args : Shapes) → T ≡ type.boxed h args → RecordType T
  bare : (j : ℕ) (args : Shapes) → T ≡ type.bare j args → RecordType T

record_type : (T : Shape) (i : ℕ) (vs : ValueViews) → is_kind T (view.node i vs) ≡ true → RecordType T
record_type (type.boxed h args) i vs e = boxed h args refl
record_type (type.bare j args) i vs e = bare j args refl
record_type T i vs e = absurd (true≢false (sym e))

-- ---- declarations that are there

constructor_there : (h : ℕ) (o : Option Declaration) → constructs h o ≡ true → (d : Declaration) × (o ≡ Some d) × (d.head ≡ h)
constructor_there h None e = absurd (true≢false (sym e))
constructor_there h (Some d) e = (d, refl, eqb-true d.head h e)

function_there : (o : Option Declaration) → is_called o ≡ true → (d : Declaration) × (o ≡ Some d) × (d.function ≡ true)
function_there None e = absurd (true≢false (sym e))
function_there (Some d) e = (d, refl, e)

one_less : (n : ℕ) → suc n - 1 ≡ n
one_less n = omega arith

module _ (schema : Declared) (tell : PartsTell schema) where
  -- some bytes spell the value, of at most n levels
  abbrev IsSpelled : ℕ → Shape → ValueView → Type 0
  IsSpelled n T v = (b : List ℕ) × Spells schema T v b × (depth v ≤ n)

  -- the values of fields fit only where they are spelled
  abbrev FieldsSpelled : ValueViews → Type 0
  FieldsSpelled vs = (args : List Shape) (before : List ValueView) (fs : List Slot) (n i : ℕ) → AreRead schema args fs → count vs ≡ length fs → field_misfit schema.decls n args before i fs vs ≡ None
      → (b : List ℕ) × SpellFields schema args before fs vs b × (depth_of vs ≤ n)

  element_read : (T : Shape) (is_boxed : Bool) (item : Shape) → T ≡ type.vector is_boxed item → IsRead schema T → IsRead schema item
  element_read T is_boxed item e (inl flag) = absurd (let clash : type.vector is_boxed item ≡ type.flag = sym e ∙ flag in cc)
  element_read T is_boxed item e (inr formed) = inr (subst (IsFormed schema) e formed).0

  boxed_formed : (T : Shape) (h : ℕ) (args : Shapes) → T ≡ type.boxed h args → IsRead schema T → IsFormed schema (type.boxed h args)
  boxed_formed T h args e (inl flag) = absurd (let clash : type.boxed h args ≡ type.flag = sym e ∙ flag in cc)
  boxed_formed T h args e (inr formed) = subst (IsFormed schema) e formed

  bare_formed : (T : Shape) (j : ℕ) (args : Shapes) → T ≡ type.bare j args → IsRead schema T → IsFormed schema (type.bare j args)
  bare_formed T j args e (inl flag) = absurd (let clash : type.bare j args ≡ type.flag = sym e ∙ flag in cc)
  bare_formed T j args e (inr formed) = subst (IsFormed schema) e formed

  -- as many values as the declaration has fields
  all_fields : (i : ℕ) (d : Declaration) (vs : ValueViews) → slice_get schema.decls i ≡ Some d → has_count schema.decls type.call (view.call i vs) ≡ true → count vs ≡ length d.fields
  all_fields i d vs there e = eqb-true _ _ e ∙ ap (λ (o : Option Declaration). length (fields_in o)) there

  node_spelled : (T : Shape) (n i : ℕ) (vs : ValueViews) → IsRead schema T → RecordType T → has_constructor schema.decls T (view.node i vs) ≡ true → has_count schema.decls T (view.node i vs) ≡ true
      → field_misfit schema.decls (suc n - 1) (arguments_of T) [] 0 (fields_in (slice_get schema.decls i)) vs ≡ None → FieldsSpelled vs → IsSpelled (suc n) T (view.node i vs)
  node_spelled T n i vs read (boxed h args e) constructor counted parts fields =
      let formed = boxed_formed T h args e read in
      let found = constructor_there h (slice_get schema.decls i) (sym (ap (λ (U : Shape). has_constructor schema.decls U (view.node i vs)) e) ∙ constructor) in
      let d = found.0 in
      let member : IsMember schema h i d = record { there = found.1; head = found.2; known = formed.0.known } in
      let none : field_misfit schema.decls n (list_of_shapes args) [] 0 d.fields vs ≡ None =
      sym (ap (λ (k : ℕ). field_misfit schema.decls k (arguments_of T) [] 0 (fields_in (slice_get schema.decls i)) vs) (one_less n)
      ∙ ap₂ (λ (As : List Shape) (fs : List Slot). field_misfit schema.decls n As [] 0 fs vs) (ap arguments_of e) (ap fields_in found.1)) ∙ parts in
      let r = fields (list_of_shapes args) [] d.fields n 0 (tell.boxed h i d args formed member) (all_fields i d vs found.1 counted) none in
      (word d.number ++ r.0, (d, args, word d.number, r.0, begins.boxed h e member refl, refl {a = word d.number ++ r.0}, r.1), omega (arith, r.2))
  node_spelled T n i vs read (bare j args e) constructor counted parts fields =
      let formed = bare_formed T j args e read in
      let same : i ≡ j = eqb-true i j (sym (ap (λ (U : Shape). has_constructor schema.decls U (view.node i vs)) e) ∙ constructor) in
      let d = formed.0.d in
      let there : slice_get schema.decls i ≡ Some d = ap (slice_get schema.decls) same ∙ formed.0.member.there in
      let own : T ≡ type.bare i args = e ∙ ap (λ (k : ℕ). type.bare k args) (sym same) in
      let none : field_misfit schema.decls n (list_of_shapes args) [] 0 d.fields vs ≡ None =
      sym (ap (λ (k : ℕ). field_misfit schema.decls k (arguments_of T) [] 0 (fields_in (slice_get schema.decls i)) vs) (one_less n)
      ∙ ap₂ (λ (As : List Shape) (fs : List Slot). field_misfit schema.decls n As [] 0 fs vs) (ap arguments_of e) (ap fields_in there)) ∙ parts in
      let r = fields (list_of_shapes args) [] d.fields n 0 (tell.bare i d args (bare_formed T i args own read) there) (all_fields i d vs there counted) none in
      (r.0, (d, args, [], r.0, begins.bare own there refl, refl, r.1), omega (arith, r.2))

  call_spelled : (T : Shape) (n i : ℕ) (vs : ValueViews) → T ≡ type.call → is_called (slice_get schema.decls i) ≡ true → has_count schema.decls T (view.call i vs) ≡ true
      → field_misfit schema.decls (suc n - 1) [] [] 0 (fields_in (slice_get schema.decls i)) vs ≡ None → FieldsSpelled vs → IsSpelled (suc n) T (view.call i vs)
  call_spelled T n i vs e called counted parts fields =
      let found = function_there (slice_get schema.decls i) called in
      let d = found.0 in
      let function : IsFunction schema i d = record { there = found.1; function = found.2 } in
      let none : field_misfit schema.decls n [] [] 0 d.fields vs ≡ None = sym (ap₂ (λ (k : ℕ) (fs : List Slot). field_misfit schema.decls k [] [] 0 fs vs) (one_less n) (ap fields_in found.1)) ∙ parts in
      let r = fields [] [] d.fields n 0 (tell.call i d function) (all_fields i d vs found.1 counted) none in
      (word d.number ++ r.0, (d, r.0, e, function, refl, r.1), omega (arith, r.2))

  -- a field's value, by what is known of it where it is there
  field_spelled : (cond : Option (ℕ × ℕ)) (before : List ValueView) (n : ℕ) (T : Shape) (v : ValueView) → misfit schema.decls n (bit_of cond before) T v ≡ None
      → (misfit schema.decls n None T v ≡ None → IsSpelled n T v)
      → (x : List ℕ) × (((stands_by cond before ≡ true) × Spells schema T v x) ⊎ ((stands_by cond before ≡ false) × (v ≡ view.absent) × (x ≡ []))) × (depth v ≤ n)
  field_spelled None before n T v none spelled = let r = spelled none in (r.0, inl (refl, r.1), r.2)
  field_spelled (Some c) before n T v none spelled =
      by_test (stands_by (Some c) before)
      (λ set.
      let fits = fits_of schema.decls n (Some true) T v (sym (ap (λ (b : Bool). misfit schema.decls n (Some b) T v) set) ∙ none) in
      let r = spelled (no_misfit schema.decls n None T v (fits_set schema.decls n T v fits)) in
      (r.0, inl (set, r.1), r.2))
      (λ clear.
      let gone = fits_clear schema.decls n T v (fits_of schema.decls n (Some false) T v (sym (ap (λ (b : Bool). misfit schema.decls n (Some b) T v) clear) ∙ none)) in
      ([], inr (clear, gone, refl), omega (arith, ap depth gone)))

  mutual
    pub fits_spelled : (v : ValueView) (T : Shape) (n : ℕ) → IsRead schema T → misfit schema.decls n None T v ≡ None → IsSpelled n T v
    fits_spelled (view.int z) T n read none =
        let fits = fits_of schema.decls n None T (view.int z) none in
        let w = int_word z fits.own.range in
        (word w.0, (int_type T z (kind_of T (view.int z) fits.own.kind), w.0, w.1, w.2, refl), omega arith)
    fits_spelled (view.long z) T n read none =
        let fits = fits_of schema.decls n None T (view.long z) none in
        let w = long_word z fits.own.range in
        (double_word w.0, (long_type T z (kind_of T (view.long z) fits.own.kind), w.0, w.1, w.2, refl), omega arith)
    fits_spelled (view.nat k) T n read none =
        let fits = fits_of schema.decls n None T (view.nat k) none in
        (word k, (nat_type T k (kind_of T (view.nat k) fits.own.kind), ltb-true k (2 ^ 32) fits.own.range, refl), omega arith)
    fits_spelled (view.opaque s) T n read none =
        let fits = fits_of schema.decls n None T (view.opaque s) none in
        (s, (opaque_type T s (kind_of T (view.opaque s) fits.own.kind) fits.own.count, refl), omega arith)
    fits_spelled (view.text s) T n read none =
        let fits = fits_of schema.decls n None T (view.text s) none in
        (text_bytes s, (text_type T s (kind_of T (view.text s) fits.own.kind), ltb-true (length s) (2 ^ 24) fits.own.range, refl), omega arith)
    fits_spelled view.truth T n read none =
        let fits = fits_of schema.decls n None T view.truth none in
        ([], (flag_type T (kind_of T view.truth fits.own.kind), refl), omega arith)
    fits_spelled view.absent T n read none = absurd (never_absent T (kind_of T view.absent (fits_of schema.decls n None T view.absent none).own.kind))
    fits_spelled (view.list vs) T zero read none = absurd (true≢false (sym (fits_of schema.decls 0 None T (view.list vs) none).own.level))
    fits_spelled (view.list vs) T (suc n) read none =
        let fits = fits_of schema.decls (suc n) None T (view.list vs) none in
        let t = vector_type T vs (kind_of T (view.list vs) fits.own.kind) in
        let each : each_misfit schema.decls n t.1 0 vs ≡ None = sym (ap₂ (λ (k : ℕ) (U : Shape). each_misfit schema.decls k U 0 vs) (one_less n) (ap item_of t.2)) ∙ fits.parts in
        let r = each_spelled vs t.1 n 0 (element_read T t.0 t.1 t.2 read) each in
        (vector_prefix t.0 ++ word (count vs) ++ r.0, (t.0, t.1, r.0, t.2, ltb-true (count vs) (2 ^ 31) fits.own.range, refl, r.1), omega (arith, r.2))
    fits_spelled (view.node i vs) T zero read none = absurd (true≢false (sym (fits_of schema.decls 0 None T (view.node i vs) none).own.level))
    fits_spelled (view.node i vs) T (suc n) read none =
        let fits = fits_of schema.decls (suc n) None T (view.node i vs) none in
        node_spelled T n i vs read (record_type T i vs (kind_of T (view.node i vs) fits.own.kind)) fits.own.constructor fits.own.count fits.parts (fields_spelled vs)
    fits_spelled (view.call i vs) T zero read none = absurd (true≢false (sym (fits_of schema.decls 0 None T (view.call i vs) none).own.level))
    fits_spelled (view.call i vs) T (suc n) read none =
        let fits = fits_of schema.decls (suc n) None T (view.call i vs) none in
        call_spelled T n i vs (call_type T i vs (kind_of T (view.call i vs) fits.own.kind)) fits.own.constructor fits.own.count fits.parts (fields_spelled vs)

    each_spelled : (vs : ValueViews) (T : Shape) (n i : ℕ) → IsRead schema T → each_misfit schema.decls n T i vs ≡ None → (b : List ℕ) × SpellEach schema T vs b × (depth_of vs ≤ n)
    each_spelled no_values T n i read none = ([], refl, omega arith)
    each_spelled (value v vs) T n i read none =
        let both = or_else_none _ _ none in
        let first = fits_spelled v T n read (inside_none i _ both.0) in
        let rest = each_spelled vs T n (suc i) read both.1 in
        (first.0 ++ rest.0, (first.0, rest.0, refl, first.1, rest.1), omega (arith, first.2, rest.2))

    fields_spelled : (vs : ValueViews) → FieldsSpelled vs
    fields_spelled no_values args before [] n i read counted none = ([], refl, omega arith)
    fields_spelled no_values args before (f ∷ fs) n i read counted none = absurd (omega (arith, counted))
    fields_spelled (value v vs) args before [] n i read counted none = absurd (omega (arith, counted))
    fields_spelled (value v vs) args before (f ∷ fs) n i read counted none =
        let both = or_else_none _ _ none in
        let first = field_spelled f.cond before n (closed args f.of) v (inside_none i _ both.0) (fits_spelled v (closed args f.of) n (first_read schema args f fs read)) in
        let rest = fields_spelled vs args (before ++ v ∷ []) fs n (suc i) (others_read schema args f fs read) (omega (arith, counted)) both.1 in
        (first.0 ++ rest.0, (first.0, rest.0, refl, first.1, rest.1), omega (arith, first.2, rest.2))

pub each_fits_exactly : EachFitsExactly
each_fits_exactly schema good n T v formed =
    record { spelled = fits_spelled schema (schema_tells schema good) v T n (inr formed); fits = λ b spells deep. spelled_fits schema v T n b spells deep }
