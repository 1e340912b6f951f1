-- A value that no bytes spell is a flag, or its type is a bare constructor that takes none.
use Rattle.std.proofs.Common.{◌≡◌, ◌⊎◌, inl, inr, ℕ, zero, suc, ◌<◌, List, [], ◌∷◌, ◌++◌, length, length-append, slice_get, Option, Some, None, IsSome, Bool, true, false, not, ◌&&◌, refl, sym, ap, ◌∙◌, subst, arith, true≢false}
use Rattle.std.specs.Prelude.{nat_le}
use Rattle.std.proofs.lemmas.Option.{none-some, same_Some}
use Rattle.tl_numbers.specs.Numbers.{word}
use Rattle.tl_program.specs.Program.{KindText, FieldText, DeclText}
use Rattle.tl_program.specs.Program as kind
use Rattle.tl_names.specs.Writing.{is_constructor}
use Rattle.tl_names.specs.Parts.{FieldAt, HeldBy, Writes}
use Rattle.tl_names.specs.BareFields.{HoldsBare, TakesNone, takes_none}
use Rattle.tl_names.proofs.Maps.{slice_get_made}
use Rattle.tl_names.proofs.PartsOfOne.{is_own_part}
use Rattle.tl_schema.specs.Types.{Shape, Shapes}
use Rattle.tl_schema.specs.Types as type
use Rattle.tl_schema.specs.Closing.{closed, list_of_shapes}
use Rattle.tl_schema.specs.Schemas.{Slot, Declaration, Declared}
use Rattle.tl_schema.specs.CheckedPrograms.{IsSchema}
use Rattle.tl_schema.specs.Meanings.{slot_of}
use Rattle.tl_schema.specs.Formed.{IsFormed, IsFormedOver, IsMember, IsEmpty, IsCondition, IsFormedField, IsOwn, count_of, field_variables}
use Rattle.tl_schema.proofs.BareShapes.{empty_bare}
use Rattle.tl_schema.proofs.MeantTypes.{held_shape}
use Rattle.tl_schema.proofs.Members.{declaration_at}
use Rattle.tl_schema.proofs.FieldsFormed.{fields_are_formed}
use Rattle.tl_schema.proofs.ClosedFormed.{closing_keeps_formed}
use Rattle.tl_types.specs.Values.{ValueView, ValueViews, no_values, value, count}
use Rattle.tl_types.specs.Values as view
use Rattle.tl_types.specs.Texts.{text_bytes}
use Rattle.tl_types.specs.Conditions.{stands_by}
use Rattle.tl_types.specs.Spelling.{Begins, vector_prefix, Spells, SpellFields}
use Rattle.tl_types.specs.Spelling as begins
use Rattle.tl_types.proofs.SchemaNumbers.{numbers_tell}
use Rattle.tl_decode.specs.Sizes.{IsWidth, FlagsHaveConditions}
use Rattle.tl_decode.proofs.SizesNamed.{IsClosedUnderNames, HasWidth, AreFieldsIn}

-- ---- one number for each element

-- numbers that stand to the elements as R says, one each
record OneEach {X : Type 0} (R : X → ℕ → Type 0) (xs : List X) : Type 0 where
  js : List ℕ
  count : length js ≡ length xs
  each : (i j : ℕ) (x : X) → slice_get xs i ≡ Some x → slice_get js i ≡ Some j → R x j
  origin : (i j : ℕ) → slice_get js i ≡ Some j → (x : X) × R x j

module _ {X : Type 0} (R : X → ℕ → Type 0) where
  module _ (x : X) (xs : List X) (j : ℕ) (r : R x j) (rest : OneEach R xs) where
    each_cell : (i k : ℕ) (y : X) → slice_get (x ∷ xs) i ≡ Some y → slice_get (j ∷ rest.js) i ≡ Some k → R y k
    each_cell zero k y at there = subst (λ z. R z k) (same_Some x y at) (subst (R x) (same_Some j k there) r)
    each_cell (suc i) k y at there = rest.each i k y at there

    origin_cell : (i k : ℕ) → slice_get (j ∷ rest.js) i ≡ Some k → (y : X) × R y k
    origin_cell zero k there = (x, subst (R x) (same_Some j k there) r)
    origin_cell (suc i) k there = rest.origin i k there

    one_cell : OneEach R (x ∷ xs)
    one_cell = record { js = j ∷ rest.js; count = ap suc rest.count; each = each_cell; origin = origin_cell }

  chosen : (xs : List X) → ((i : ℕ) (x : X) → slice_get xs i ≡ Some x → (j : ℕ) × R x j) → OneEach R xs
  chosen [] all = record { js = []; count = refl; each = λ i j x at there. absurd (none-some x at); origin = λ i j there. absurd (none-some j there) }
  chosen (x ∷ xs) all = let h = all 0 x refl in one_cell x xs h.0 h.1 (chosen xs (λ i. all (suc i)))

-- ---- a record of no bytes

own_constructor : (function built : Bool) → (function && not built) ≡ false → built ≡ false → (not function && not built) ≡ true
own_constructor true true e own = absurd (true≢false own)
own_constructor true false e own = absurd (true≢false e)
own_constructor false true e own = absurd (true≢false own)
own_constructor false false e own = refl

no_variables : (d : Declaration) → d.function ≡ false → field_variables d ≡ d.vars
no_variables d is = rw is refl

-- what is closed and empty was empty
opened_empty : (schema : Declared) (args : List Shape) (s : Shape) → ((IsEmpty schema s → ⊥) → IsEmpty schema (closed args s) → ⊥) → IsEmpty schema (closed args s) → IsEmpty schema s
opened_empty schema args type.int full e = e
opened_empty schema args type.long full e = e
opened_empty schema args type.nat full e = e
opened_empty schema args (type.opaque n) full e = e
opened_empty schema args type.str full e = e
opened_empty schema args type.raw full e = e
opened_empty schema args type.flag full e = e
opened_empty schema args type.call full e = e
opened_empty schema args (type.var i) full e = full (λ h. h) e
opened_empty schema args (type.vector is_boxed s) full e = e
opened_empty schema args (type.boxed h ss) full e = e
opened_empty schema args (type.bare i ss) full e = e

-- a flag, or an empty type
abbrev IsFree : Declared → Shape → Type 0
IsFree schema T = (T ≡ type.flag) ⊎ IsEmpty schema T

nat_not_free : (schema : Declared) → IsFree schema type.nat → ⊥
nat_not_free schema (inl e) = cc
nat_not_free schema (inr e) = e

module _ (schema : Declared) (good : IsSchema schema) (flags : FlagsHaveConditions schema) (j : ℕ) (e : Declaration) (args : Shapes) (formed : IsFormed schema (type.bare j args)) (there : slice_get schema.decls j ≡ Some e)
    (free : (k : ℕ) (f : Slot) → slice_get e.fields k ≡ Some f → f.cond ≡ None → IsFree schema (closed (list_of_shapes args) f.of)) where
  member : IsMember schema formed.0.h j e
  member = subst (IsMember schema formed.0.h j) (same_Some formed.0.d e (sym formed.0.member.there ∙ there)) formed.0.member

  own : IsOwn schema j
  own = (numbers_tell schema good).own_members formed.0.h j e member

  no_function : e.function ≡ false
  no_function = (numbers_tell schema good).constructs formed.0.h j e member

  arguments : count_of args ≡ field_variables e
  arguments = sym formed.0.arity ∙ ap (λ (x : Declaration). x.vars) (same_Some formed.0.d e (sym formed.0.member.there ∙ there)) ∙ sym (no_variables e no_function)

  field_formed : (k : ℕ) (f : Slot) → slice_get e.fields k ≡ Some f → IsFormedField schema e k f
  field_formed k f at = fields_are_formed schema good j e k f own there at

  -- a condition would be on an earlier field, which takes four bytes
  free_by : (n k : ℕ) → k < suc n → ((i : ℕ) (g : Slot) → i < n → slice_get e.fields i ≡ Some g → g.cond ≡ None) → (o : Option (ℕ × ℕ)) → IsCondition e.fields k o → o ≡ None
  free_by n k below before None c = refl
  free_by n k below before (Some c) (lt, bit, (g, at, is)) =
      let g_free = free c.0 g at (before c.0 g (omega (arith, lt, below)) at) in
      absurd (nat_not_free schema (subst (λ (s : Shape). IsFree schema (closed (list_of_shapes args) s)) is g_free))

  no_condition : (n k : ℕ) (f : Slot) → k < n → slice_get e.fields k ≡ Some f → f.cond ≡ None
  no_condition zero k f below at = absurd (omega (arith, below))
  no_condition (suc n) k f below at = free_by n k below (no_condition n) f.cond (field_formed k f at).cond

  field_empty : (k : ℕ) (f : Slot) → slice_get e.fields k ≡ Some f → IsEmpty schema f.of
  field_empty k f at =
      let none = no_condition (suc k) k f (omega arith) at in
      let over = elim (field_formed k f at).type as (λ _. IsFormedOver schema (field_variables e) f.of) [
        | inl flag ↦ absurd (true≢false (sym (subst IsSome none (flags j k e f there at flag))))
        | inr is ↦ is
      ] in
      let closes = closing_keeps_formed schema (field_variables e) 0 args f.of arguments formed.1 over in
      elim (free k f at none) [
        | inl flag ↦ absurd (subst (IsFormed schema) flag closes.formed)
        | inr empty ↦ opened_empty schema (list_of_shapes args) f.of closes.bytes empty
      ]

  module _ (t : DeclText) (here : slice_get schema.program j ≡ Some t) (line : t.builtin ≡ false) where
    abbrev HoldsEmpty : KindText → ℕ → Type 0
    HoldsEmpty kind i = HoldsBare schema.program t kind i × TakesNone schema.program i

    held_by : (k : ℕ) (g : FieldText) → FieldAt t k g → (kind : KindText) → g.kind ≡ kind → IsEmpty schema (held_shape schema.program t kind) → (i : ℕ) × HoldsEmpty kind i
    held_by k g at kind.nat is empty = absurd empty
    held_by k g at kind.flag is empty = absurd empty
    held_by k g at (kind.call var) is empty = absurd empty
    held_by k g at (kind.of u) is empty =
        let writes : Writes t u = record { own = line; there = inl (k, g, at, subst (HeldBy u) (sym is) (is_own_part u)) } in
        let bare = empty_bare schema t u (λ h. good.passes.1.1.1.1.1.0 j (record { d = t; here = here; has = (u, writes, h) })) empty in
        (bare.0, (bare.1, bare.2))

    all_held : ((k : ℕ) (g : FieldText) → FieldAt t k g → IsEmpty schema (held_shape schema.program t g.kind)) → is_constructor t ≡ true → TakesNone schema.program j
    all_held empty is =
        let c = chosen (λ (g : FieldText). HoldsEmpty g.kind) t.fields (λ k g at. held_by k g at g.kind refl (empty k g at)) in
        takes_none j t c.js here (record { own = is; count = c.count; each = λ i k g at among. (c.each i k g at among).0 }) (λ k among. (c.origin among.0 k among.1).1.1)

  record_empty : TakesNone schema.program j
  record_empty =
      let t = declaration_at schema good j e there in
      let same : own.0 ≡ t.0 = same_Some own.0 t.0 (sym own.1 ∙ t.1) in
      let line : t.0.builtin ≡ false = sym (ap (λ (x : DeclText). x.builtin) same) ∙ own.2 in
      let is : is_constructor t.0 ≡ true = own_constructor t.0.function t.0.builtin (sym (ap (λ (x : Declaration). x.function) t.2.1) ∙ no_function) line in
      all_held t.0 t.1 line
      (λ k g at. field_empty k (slot_of schema.program t.0 g) (ap (λ (x : Declaration). slice_get x.fields k) t.2.1 ∙ slice_get_made (slot_of schema.program t.0) t.0.fields k g at)) is

-- ---- values of no bytes

never_cell : (n : ℕ) (x : List ℕ) → [] ≡ n ∷ x → ⊥
never_cell n x e = cc

no_text : (s : List ℕ) (b : Bool) → nat_le (length s) 253 ≡ b → [] ≡ text_bytes s → ⊥
no_text s true is e = never_cell _ _ (rw is at e)
no_text s false is e = never_cell _ _ (rw is at e)

positive : (n : ℕ) → IsWidth n → 0 < n
positive n (inl e) = omega (arith, e)
positive n (inr (inl e)) = omega (arith, e)
positive n (inr (inr e)) = omega (arith, e)

none_first : (x y : List ℕ) → [] ≡ x ++ y → (x ≡ []) × (y ≡ [])
none_first [] y e = (refl, sym e)
none_first (n ∷ x) y e = absurd cc

module _ (schema : Declared) (good : IsSchema schema) (flags : FlagsHaveConditions schema) (P : Shape → Type 0) (holds : IsClosedUnderNames schema P) where
  bare_formed : (T : Shape) (i : ℕ) (args : Shapes) → P T → T ≡ type.bare i args → IsFormed schema (type.bare i args)
  bare_formed T i args p e = elim (holds.formed T p) [ inl flag ↦ (let never : ⊥ = cc in absurd never) | inr formed ↦ subst (IsFormed schema) e formed ]

  -- a field that is there
  field_free : (args : List Shape) (f g : Slot) → g ≡ f → IsFree schema (closed args g.of) → IsFree schema (closed args f.of)
  field_free args f g same is = subst (λ (x : Slot). IsFree schema (closed args x.of)) same is

  no_gap : (f g : Slot) (before : List ValueView) → g ≡ f → f.cond ≡ None → stands_by g.cond before ≡ false → ⊥
  no_gap f g before same none clear = true≢false (sym (ap (λ (o : Option (ℕ × ℕ)). stands_by o before) (ap (λ (x : Slot). x.cond) same ∙ none)) ∙ clear)

  mutual
    pub free_of : (v : ValueView) (T : Shape) → P T → Spells schema T v [] → (T ≡ type.flag) ⊎ IsEmpty schema T
    free_of (view.int z) T p s = let none : 0 ≡ 4 = ap length s.4 in absurd (omega (arith, none))
    free_of (view.long z) T p s = let none : 0 ≡ 8 = ap length s.4 in absurd (omega (arith, none))
    free_of (view.nat n) T p s = let none : 0 ≡ 4 = ap length s.2 in absurd (omega (arith, none))
    free_of (view.opaque xs) T p s =
        let wide : IsWidth (length xs) = subst HasWidth s.0 (holds.wide T p) in
        let none : 0 ≡ length xs = ap length s.1 in
        absurd (omega (arith, none, positive (length xs) wide))
    free_of (view.text xs) T p s = absurd (no_text xs (nat_le (length xs) 253) refl s.2)
    free_of view.truth T p s = inl s.0
    free_of view.absent T p s = absurd s
    free_of (view.list vs) T p s =
        let none : 0 ≡ length ((vector_prefix s.0 ++ word (count vs)) ++ s.2) = ap length s.5 in
        absurd (omega (arith, none, length-append (vector_prefix s.0 ++ word (count vs)) s.2, length-append (vector_prefix s.0) (word (count vs))))
    free_of (view.node i vs) T p (d, args, prefix, rest, begins.boxed h e m is, split, fields) =
        let none : 0 ≡ length (prefix ++ rest) = ap length split in
        let four : length prefix ≡ 4 = ap length is in
        absurd (omega (arith, none, four, length-append prefix rest))
    free_of (view.node i vs) T p (d, args, prefix, rest, begins.bare e there is, split, fields) =
        let empty = subst (λ (x : List ℕ). SpellFields schema (list_of_shapes args) [] d.fields vs x) (none_first prefix rest split).1 fields in
        inr (subst (IsEmpty schema) (sym e)
        (record_empty schema good flags i d args (bare_formed T i args p e) there
        (fields_free vs (list_of_shapes args) [] d.fields (holds.bare i d args (subst P e p) there) empty)))
    free_of (view.call i vs) T p s =
        let none : 0 ≡ length (word s.0.number ++ s.1) = ap length s.4 in
        absurd (omega (arith, none, length-append (word s.0.number) s.1))

    fields_free : (vs : ValueViews) (args : List Shape) (before : List ValueView) (fs : List Slot) → AreFieldsIn P args fs → SpellFields schema args before fs vs [] → (k : ℕ) (f : Slot) → slice_get fs k ≡ Some f → f.cond ≡ None
        → IsFree schema (closed args f.of)
    fields_free no_values args before [] p s k f at none = absurd (none-some f at)
    fields_free no_values args before (g ∷ fs) p s k f at none = absurd s
    fields_free (value v vs) args before [] p s k f at none = absurd s
    fields_free (value v vs) args before (g ∷ fs) p (x, y, is, inl (set, spells), more) zero f at none =
        field_free args f g (same_Some g f at) (free_of v (closed args g.of) (p 0 g refl) (subst (λ (b : List ℕ). Spells schema (closed args g.of) v b) (none_first x y is).0 spells))
    fields_free (value v vs) args before (g ∷ fs) p (x, y, is, inr (clear, gone, empty), more) zero f at none = absurd (no_gap f g before (same_Some g f at) none clear)
    fields_free (value v vs) args before (g ∷ fs) p (x, y, is, here, more) (suc k) f at none =
        fields_free vs args (before ++ v ∷ []) fs (λ i h there. p (suc i) h there) (subst (λ (b : List ℕ). SpellFields schema args (before ++ v ∷ []) fs vs b) (none_first x y is).1 more) k f at none
