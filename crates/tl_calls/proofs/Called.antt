-- In a schema each variable of a function stands in one field `!X`.
use Rattle.std.proofs.Common.{◌≡◌, ◌⊎◌, inl, inr, ℕ, zero, suc, ◌+◌, ◌<◌, ◌&&◌, not, Bool, true, false, cond, List, [], ◌∷◌, length, map, get_or, slice_get, bytes_eq, Option, Some, None, flat_map, count_by, refl, ap, sym, ◌∙◌, subst, true≢false, arith}
use Rattle.std.specs.Option.{option_map}
use Rattle.std.proofs.lemmas.Bool.{cases_eq, false_from_ne_true}
use Rattle.std.proofs.lemmas.List.Quantifiers.{position-Some}
use Rattle.std.proofs.lemmas.List.Sums.{sum_by-append, position_or_len_is}
use Rattle.std.proofs.lemmas.Option.{none-some, same_Some, slice_get-map, slice_get_within, slice_get-get_or, get_or_from_slice_get, slice_get_cases}
use Rattle.std.proofs.lemmas.Slice.Eq.{bytes_eq-Decides}
use Rattle.tl_program.specs.Program.{KindText, nat, flag, call, of, FieldText, DeclText}
use Rattle.tl_names.specs.Writing.{At}
use Rattle.tl_names.specs.MeantDecls.{kind_by}
use Rattle.tl_names.specs.What.{variable_named, what_of}
use Rattle.tl_names.proofs.Positions.{position_found}
use Rattle.tl_schema.specs.SameName.{part}
use Rattle.tl_schema.specs.UnknownVariable.{called_by, calls, uncalled}
use Rattle.tl_schema.specs.CheckCauses.{NoneHas}
use Rattle.tl_schema.specs.declared.fault.CheckCause.TheVariants as cause
use Rattle.tl_schema.specs.CheckedPrograms.{IsSchema}
use Rattle.tl_schema.specs.Schemas.{Slot, Declaration, Declared}
use Rattle.tl_schema.specs.Meanings.{IsEntry, kind_variable, slot_of}
use Rattle.tl_schema.proofs.Members.{declaration_at}
use Rattle.tl_calls.specs.Laws.{IsCalledAt, EachVariableIsCalled}
use Rattle.tl_calls.proofs.Sent.{get_before}

-- ---- the fields that are calls of a name, by a test

module _ (test : List ℕ → Bool) where
  -- the field is a call of a name that passes
  abbrev IsCallOf : FieldText → Type 0
  IsCallOf f = (name : List ℕ) × (f.kind ≡ call name) × (test name ≡ true)

  abbrev times : List FieldText → ℕ
  times fs = count_by test (flat_map (λ f. called_by f.kind) fs)

  abbrev once : KindText → ℕ
  once k = count_by test (called_by k)

  times_more : (f : FieldText) (fs : List FieldText) → times (f ∷ fs) ≡ once f.kind + times fs
  times_more f fs = sum_by-append (λ name. cond (test name) 1 0) (called_by f.kind) (flat_map (λ (g : FieldText). called_by g.kind) fs)

  -- a field is no such call, or one
  one_or_none : (f : FieldText) (k : KindText) → f.kind ≡ k → ((once k ≡ 0) × (IsCallOf f → ⊥)) ⊎ ((once k ≡ 1) × IsCallOf f)
  one_or_none f nat e = inl (refl, λ c. other c.0 (sym e ∙ c.1))
    where
      other : (name : List ℕ) → nat ≡ call name → ⊥
      other name same = cc
  one_or_none f flag e = inl (refl, λ c. other c.0 (sym e ∙ c.1))
    where
      other : (name : List ℕ) → flag ≡ call name → ⊥
      other name same = cc
  one_or_none f (of t) e = inl (refl, λ c. other c.0 (sym e ∙ c.1))
    where
      other : (name : List ℕ) → of t ≡ call name → ⊥
      other name same = cc
  one_or_none f (call name) e = by (test name) refl
    where
      same : (other : List ℕ) → call name ≡ call other → name ≡ other
      same other is = cc

      by : (b : Bool) → test name ≡ b → ((once (call name) ≡ 0) × (IsCallOf f → ⊥)) ⊎ ((once (call name) ≡ 1) × IsCallOf f)
      by true passes = inr (ap (λ (b : Bool). 0 + cond b 1 0) passes, (name, e, passes))
      by false fails = inl (ap (λ (b : Bool). 0 + cond b 1 0) fails, λ c. true≢false (sym c.2 ∙ ap test (sym (same c.0 (sym e ∙ c.1))) ∙ fails))

  no_call : (fs : List FieldText) → times fs ≡ 0 → (k : ℕ) (f : FieldText) → slice_get fs k ≡ Some f → IsCallOf f → ⊥
  no_call [] none k f at c = none-some f at
  no_call (g ∷ fs) none k f at c = by k at (one_or_none g g.kind refl) (λ rest m there. no_call fs rest m f there c)
    where
      total : once g.kind + times fs ≡ 0
      total = sym (times_more g fs) ∙ none

      by : (k : ℕ) → slice_get (g ∷ fs) k ≡ Some f → ((once g.kind ≡ 0) × (IsCallOf g → ⊥)) ⊎ ((once g.kind ≡ 1) × IsCallOf g) → (times fs ≡ 0 → (m : ℕ) → slice_get fs m ≡ Some f → ⊥) → ⊥
      by zero here (inl other) later = other.1 (subst IsCallOf (sym (same_Some g f here)) c)
      by (suc k) here (inl other) later = later (let zero_times = other.0 in omega (arith, total, zero_times)) k here
      by k here (inr one) later = let once_more = one.0 in absurd (omega (arith, total, once_more))

  -- one field is such a call, and no other
  abbrev OneCall : List FieldText → Type 0
  OneCall fs = (k : ℕ) × (f : FieldText) × (slice_get fs k ≡ Some f) × IsCallOf f × ((m : ℕ) (g : FieldText) → slice_get fs m ≡ Some g → IsCallOf g → m ≡ k)

  one_call : (fs : List FieldText) → times fs ≡ 1 → OneCall fs
  one_call [] one = absurd (let none : times [] ≡ 0 = refl in omega (arith, none, one))
  one_call (g ∷ fs) one = by (one_or_none g g.kind refl) (one_call fs)
    where
      total : once g.kind + times fs ≡ 1
      total = sym (times_more g fs) ∙ one

      here_alone : IsCallOf g → times fs ≡ 0 → (m : ℕ) (f : FieldText) → slice_get (g ∷ fs) m ≡ Some f → IsCallOf f → m ≡ 0
      here_alone c none zero f at d = refl
      here_alone c none (suc m) f at d = absurd (no_call fs none m f at d)

      later_alone : (IsCallOf g → ⊥) → (rest : OneCall fs) → (m : ℕ) (f : FieldText) → slice_get (g ∷ fs) m ≡ Some f → IsCallOf f → m ≡ suc rest.0
      later_alone other rest zero f at d = absurd (other (subst IsCallOf (sym (same_Some g f at)) d))
      later_alone other rest (suc m) f at d = ap suc (rest.4 m f at d)

      by : ((once g.kind ≡ 0) × (IsCallOf g → ⊥)) ⊎ ((once g.kind ≡ 1) × IsCallOf g) → (times fs ≡ 1 → OneCall fs) → OneCall (g ∷ fs)
      by (inl other) later =
          let rest = later (let zero_times = other.0 in omega (arith, total, zero_times)) in (suc rest.0, rest.1, rest.2, rest.3, later_alone other.1 rest)
      by (inr first) later = (0, g, refl, first.1, here_alone first.1 (let once_more = first.0 in omega (arith, total, once_more)))

-- ---- the variables of a declaration

module _ (schema : Declared) (good : IsSchema schema) (i : ℕ) (t : DeclText) (here : At schema.program i t) where
  distinct : NoneHas schema.program cause.SameName
  distinct = good.passes.0

  used : NoneHas schema.program cause.UnknownVariable
  used = good.passes.1.1.0

  module _ (j : ℕ) (name : List ℕ) (at : slice_get t.vars j ≡ Some name) where
    -- the variable's index is the first of its name
    first : (k : ℕ) → k < j → bytes_eq name (get_or t.vars k name) ≡ false
    first k below = false_from_ne_true (bytes_eq name (get_or t.vars k name)) (λ e.
        let within : k < length t.vars = (let inside = slice_get_within t.vars j name at in omega (arith, inside, below)) in
        let same : slice_get t.vars k ≡ Some name = slice_get-get_or t.vars k name within ∙ ap Some (sym ((bytes_eq-Decides name (get_or t.vars k name)).0 e)) in
        let names = map (λ (f : FieldText). f.name) t.fields in
        distinct i (part t j here (record { earlier = k; item = name; before = below; there = get_before t.vars names k name same; here = get_before t.vars names j name at })))

    pub variable_at : variable_named t name ≡ Some j
    variable_at =
        let inside = slice_get_within t.vars j name at in
        let is = position_or_len_is (bytes_eq name) t.vars j name (omega (arith, inside)) first
        (λ inside. ap (bytes_eq name) (get_or_from_slice_get t.vars j name name at) ∙ (bytes_eq-Decides name name).1 refl) in
        position_found (bytes_eq name) t.vars (omega (arith, inside, is)) ∙ ap Some is

    -- no other name has it
    pub named_at : (other : List ℕ) → variable_named t other ≡ Some j → name ≡ other
    named_at other is =
        let found = position-Some (bytes_eq other) t.vars j name is in
        sym ((bytes_eq-Decides other (get_or t.vars j name)).0 found.1 ∙ get_or_from_slice_get t.vars j name name at)

    called_once : t.function ≡ true → count_by (bytes_eq name) (calls t) ≡ 1
    called_once function = elim (cases_eq (count_by (bytes_eq name) (calls t)) 1) [
      | inl e ↦ e
      | inr other ↦ absurd (used i (record { d = t; here = here; has = uncalled j name function at other }))
    ]

  -- the fields of the entry
  module _ (d : Declaration) (is : IsEntry schema.program t d) where
    fields_are : d.fields ≡ map (slot_of schema.program t) t.fields
    fields_are = ap (λ (x : Declaration). x.fields) is.1

    field_of : (k : ℕ) → slice_get d.fields k ≡ option_map (slot_of schema.program t) (slice_get t.fields k)
    field_of k = ap (λ (fs : List Slot). slice_get fs k) fields_are ∙ slice_get-map (slot_of schema.program t) t.fields k

    abbrev variable_of : KindText → Option ℕ
    variable_of k = kind_variable (kind_by (what_of schema.program t) (variable_named t) k)

    -- a field that is a call of the name is one of its variable
    slot_called : (j : ℕ) (name : List ℕ) → slice_get t.vars j ≡ Some name → (k : ℕ) (f : FieldText) → slice_get t.fields k ≡ Some f → IsCallOf (bytes_eq name) f → IsCalledAt d j k
    slot_called j name at k f there c = record {
      f = slot_of schema.program t f;
      there = field_of k ∙ ap (option_map (slot_of schema.program t)) there;
      var = ap variable_of c.1 ∙ ap (variable_named t) (sym ((bytes_eq-Decides name c.0).0 c.2)) ∙ variable_at j name at;
    }

    variable_called : (k : KindText) (j : ℕ) → variable_of k ≡ Some j → (name : List ℕ) × (k ≡ call name) × (variable_named t name ≡ Some j)
    variable_called nat j e = absurd (none-some j e)
    variable_called flag j e = absurd (none-some j e)
    variable_called (of u) j e = absurd (none-some j e)
    variable_called (call name) j e = (name, refl, e)

    -- and a call of the variable is such a field
    field_called : (j : ℕ) (name : List ℕ) → slice_get t.vars j ≡ Some name → (k : ℕ) → IsCalledAt d j k → (f : FieldText) × (slice_get t.fields k ≡ Some f) × IsCallOf (bytes_eq name) f
    field_called j name at k c = by (slice_get t.fields k) refl
      where
        by : (o : Option FieldText) → slice_get t.fields k ≡ o → (f : FieldText) × (slice_get t.fields k ≡ Some f) × IsCallOf (bytes_eq name) f
        by None e = absurd (none-some c.f (sym (field_of k ∙ ap (option_map (slot_of schema.program t)) e) ∙ c.there))
        by (Some f) e =
            let slot : slot_of schema.program t f ≡ c.f = same_Some (slot_of schema.program t f) c.f (sym (field_of k ∙ ap (option_map (slot_of schema.program t)) e) ∙ c.there) in
            let v = variable_called f.kind j (ap (λ (s : Slot). s.var) slot ∙ c.var) in
            (f, e, (v.0, v.1, (bytes_eq-Decides name v.0).1 (named_at j name at v.0 v.2)))

    one_field : t.function ≡ true → (j : ℕ) (name : List ℕ) → slice_get t.vars j ≡ Some name → (k : ℕ) × IsCalledAt d j k × ((m : ℕ) → IsCalledAt d j m → m ≡ k)
    one_field function j name at =
        let one = one_call (bytes_eq name) t.fields (called_once j name at function) in
        (one.0, slot_called j name at one.0 one.1 one.2 one.3, λ m c. (let f = field_called j name at m c in one.4 m f.0 f.1 f.2))

is_own_function : (f b : Bool) → (f && not b) ≡ true → f ≡ true
is_own_function true b e = refl
is_own_function false b e = e

pub each_variable_is_called : EachVariableIsCalled
each_variable_is_called schema good i d f j below =
    let t = declaration_at schema good i d f.there in
    let function = is_own_function t.0.function (not_builtin t.0) (sym (ap (λ (x : Declaration). x.function) t.2.1) ∙ f.function) in
    let counted : d.vars ≡ length t.0.vars = ap (λ (x : Declaration). x.vars) t.2.1 in
    by t.0 t.1 t.2 function (slice_get t.0.vars j) refl counted
  where
    not_builtin : DeclText → Bool
    not_builtin t = t.builtin

    by : (t : DeclText) → At schema.program i t → IsEntry schema.program t d → t.function ≡ true → (o : Option (List ℕ)) → slice_get t.vars j ≡ o → d.vars ≡ length t.vars → (k : ℕ) × IsCalledAt d j k × ((m : ℕ) → IsCalledAt d j m → m ≡ k)
    by t here is function (Some name) e counted = one_field schema good i t here d is function j name e
    by t here is function None e counted = elim (slice_get_cases t.vars j).1 [
      | inl (name, within, at, same) ↦ one_field schema good i t here d is function j name at
      | inr (past, none) ↦ absurd (omega (arith, past, counted, below))
    ]
