-- In a schema each field has a good condition, and is a flag or has a formed type.
use Rattle.std.proofs.Common.{◌≡◌, ◌⊎◌, inl, inr, ℕ, ◌+◌, ◌-◌, ◌<◌, ◌&&◌, not, Bool, true, false, List, length, map, slice_get, bytes_eq, Option, Some, None, refl, ap, sym, ◌∙◌, subst, arith, if◌then◌else◌}
use Rattle.std.specs.Option.{option_map, unwrap_or}
use Rattle.std.proofs.lemmas.List.Quantifiers.{position-Some}
use Rattle.std.proofs.lemmas.Bool.{cases_order}
use Rattle.std.proofs.lemmas.Option.{none-some, same_Some, slice_get_cases, slice_get-map}
use Rattle.std.proofs.lemmas.Slice.Eq.{bytes_eq-Decides}
use Rattle.tl_program.specs.Trees.{Tree}
use Rattle.tl_program.specs.Program.{KindText, nat, flag, call, of, CondText, FieldText, DeclText}
use Rattle.tl_names.specs.Writing.{At, is_function}
use Rattle.tl_names.specs.Parts.{FieldAt, HeldBy, InFields, Writes}
use Rattle.tl_schema.specs.SameName.{part_names}
use Rattle.tl_schema.specs.SameName as same_name
use Rattle.tl_schema.specs.UnknownVariable.{NamesVariable, in_field}
use Rattle.tl_schema.specs.BadFlag.{IsFlagsBefore, IsBadCondition}
use Rattle.tl_schema.specs.CheckCauses.{NoneHas}
use Rattle.tl_schema.specs.declared.fault.CheckCause.TheVariants as cause
use Rattle.tl_schema.specs.CheckedPrograms.{IsSchema}
use Rattle.tl_schema.specs.Types as shape
use Rattle.tl_schema.specs.Schemas.{Slot, Declaration, Declared}
use Rattle.tl_names.specs.MeantDecls.{cond_by}
use Rattle.tl_names.specs.What.{field_named, variable_named}
use Rattle.tl_schema.specs.Meanings.{condition_of, slot_of, declaration_of}
use Rattle.tl_schema.specs.Formed.{IsFormedOver, IsCondition, IsFormedField}
use Rattle.tl_schema.specs.FormedLaws.{FieldsAreFormed}
use Rattle.tl_names.proofs.HeadNames.{type_name}
use Rattle.tl_schema.proofs.BadFlagFirst.{flags_before_decided}
use Rattle.tl_schema.proofs.ListParts.{slice_get_after}
use Rattle.tl_names.proofs.Maps.{slice_get_made}
use Rattle.tl_names.proofs.Firsts.{one_first}
use Rattle.tl_names.proofs.Positions.{first_position}
use Rattle.tl_schema.proofs.MeantTypes.{held_shape}
use Rattle.tl_schema.proofs.Members.{declaration_at}
use Rattle.tl_schema.proofs.FormedTypes.{IsFine, type_formed}

-- the field of the declaration that a slot is of
field_of : (ds : List DeclText) (d : DeclText) (k : ℕ) (f : Slot) → slice_get (map (slot_of ds d) d.fields) k ≡ Some f → (g : FieldText) × FieldAt d k g × (slot_of ds d g ≡ f)
field_of ds d k f at = elim (slice_get_cases d.fields k).1 [
  | inl (g, below, here, is) ↦ (g, here, same_Some (slot_of ds d g) f (sym (slice_get_made (slot_of ds d) d.fields k g here) ∙ at))
  | inr (past, none) ↦ absurd (none-some f (sym (slice_get-map (slot_of ds d) d.fields k ∙ ap (option_map (slot_of ds d)) none) ∙ at))
]

both_first : (a b : Bool) → (a && b) ≡ true → a ≡ true
both_first true b e = refl
both_first false b e = e

module _ (schema : Declared) (good : IsSchema schema) (i : ℕ) (d : DeclText) (here : At schema.program i d) where
  -- ---- conditions

  names : NoneHas schema.program cause.SameName
  names = good.passes.0

  flags : NoneHas schema.program cause.BadFlag
  flags = good.passes.1.1.1.1.1.1.0

  name_at : (k : ℕ) (g : FieldText) → FieldAt d k g → slice_get (part_names d) (length d.vars + k) ≡ Some g.name
  name_at k g at =
      let fields = map (λ (h : FieldText). h.name) d.fields in
      let same : (length d.vars + k) - length d.vars ≡ k = omega arith in
      slice_get_after d.vars fields (length d.vars + k) (omega arith) ∙ ap (slice_get fields) same ∙ slice_get_made (λ (h : FieldText). h.name) d.fields k g at

  -- no two fields have one name
  apart : (j k : ℕ) (g h : FieldText) → j < k → FieldAt d j g → FieldAt d k h → g.name ≡ h.name → ⊥
  apart j k g h below at_j at_k same =
      names i (same_name.part d (length d.vars + k) here (record {
        earlier = length d.vars + j;
        item = h.name;
        before = omega (arith, below);
        there = name_at j g at_j ∙ ap Some same;
        here = name_at k h at_k;
      }))

  -- so the field is at the index of its name
  field_named_is : (k : ℕ) (g : FieldText) (name : List ℕ) → FieldAt d k g → g.name ≡ name → field_named d name ≡ Some k
  field_named_is k g name at is =
      one_first _ (field_named d name) (Some k) (first_position (λ (f : FieldText). bytes_eq name f.name) (λ (f : FieldText). name ≡ f.name) (λ (f : FieldText). bytes_eq-Decides name f.name) d.fields)
      (record { x = g; there = at; has = sym is }, λ j below p. apart j k p.x g below p.there at (sym p.has ∙ sym is))

  module _ (k : ℕ) where
    flags_before : (c : CondText) → (IsBadCondition d k (Some c) → ⊥) → IsFlagsBefore d k c.flags
    flags_before c good_one = elim (flags_before_decided d k c.flags) [ inl b ↦ b | inr none ↦ absurd (good_one (inr none)) ]

    bit_below : (c : CondText) → (IsBadCondition d k (Some c) → ⊥) → c.bit < 32
    bit_below c good_one = elim (cases_order 31 c.bit) [
      | inl e ↦ omega (arith, e)
      | inr (inl more) ↦ absurd (good_one (inl more))
      | inr (inr less) ↦ omega (arith, less)
    ]

    condition : (o : Option CondText) → (IsBadCondition d k o → ⊥) → IsCondition (map (slot_of schema.program d) d.fields) k (option_map (condition_of (length d.fields)) (option_map (cond_by (field_named d)) o))
    condition None good_one = tt
    condition (Some c) good_one =
        let b = flags_before c good_one in
        let is : b.earlier ≡ unwrap_or (field_named d c.flags) (length d.fields) = sym (ap (λ o. unwrap_or o (length d.fields)) (field_named_is b.earlier b.f c.flags b.there b.name)) in
        let before = b.before in (
          omega (arith, is, before),
          bit_below c good_one,
          (
            slot_of schema.program d b.f,
            sym (ap (slice_get (map (slot_of schema.program d) d.fields)) is) ∙ slice_get_made (slot_of schema.program d) d.fields b.earlier b.f b.there,
            ap (held_shape schema.program d) b.number,
          ),
        )

  -- ---- types

  module _ (own : d.builtin ≡ false) where
    written : (u : Tree) → InFields d u → Writes d u
    written u part = record { own = own; there = inl part }

    module _ (n : ℕ) (below : (u : Tree) → InFields d u → NamesVariable d u → (i : ℕ) → variable_named d (type_name u) ≡ Some i → i < n) where
      known : NoneHas schema.program cause.UnknownType
      known = good.passes.1.0

      applied : NoneHas schema.program cause.WrongArity
      applied = good.passes.1.1.1.0

      bare : NoneHas schema.program cause.NotBare
      bare = good.passes.1.1.1.1.1.0

      full : NoneHas schema.program cause.EmptyElement
      full = good.passes.1.1.1.1.1.1.1.1.1.0

      fine_part : (u : Tree) → InFields d u → IsFine schema.program d n u
      fine_part u part = record {
        known = λ h. known i (record { d = d; here = here; has = (u, written u part, h) });
        applied = λ h. applied i (record { d = d; here = here; has = inl (u, written u part, h) });
        bare = λ h. bare i (record { d = d; here = here; has = (u, written u part, h) });
        full = λ h. full i (record { d = d; here = here; has = (u, written u part, h) });
        below = below u part;
      }

      kind_formed : (k : ℕ) (g : FieldText) → FieldAt d k g → (kind : KindText) → g.kind ≡ kind → (held_shape schema.program d kind ≡ shape.flag) ⊎ IsFormedOver schema n (held_shape schema.program d kind)
      kind_formed k g at nat e = inr tt
      kind_formed k g at flag e = inl refl
      kind_formed k g at (call var) e = inr tt
      kind_formed k g at (of t) e =
          inr (type_formed schema good d n t (λ u held. fine_part u (k, g, at, subst (HeldBy u) (sym e) held)))

    -- ---- variables

    misuses : NoneHas schema.program cause.UnknownVariable
    misuses = good.passes.1.1.0

    no_variable : d.function ≡ true → (u : Tree) → InFields d u → NamesVariable d u → ⊥
    no_variable function u part is = misuses i (record { d = d; here = here; has = in_field function (part.0, part.1, part.2, (u, part.3, is)) })

    below_by : (b : Bool) → is_function d ≡ b → (u : Tree) → InFields d u → NamesVariable d u → (i : ℕ) → variable_named d (type_name u) ≡ Some i → i < (if b then 0 else length d.vars)
    below_by true e u part is i at = absurd (no_variable (both_first d.function (not d.builtin) e) u part is)
    below_by false e u part is i at = (position-Some (bytes_eq (type_name u)) d.vars i (type_name u) at).0

    field_formed : (m k : ℕ) (g : FieldText) → FieldAt d k g → IsFormedField schema (declaration_of schema.program d m) k (slot_of schema.program d g)
    field_formed m k g at = record {
      cond = condition k g.cond (λ h. flags i (record { d = d; here = here; has = record { i = k; f = g; field = at; bad = h } }));
      type = kind_formed (if is_function d then 0 else length d.vars) (below_by (is_function d) refl) k g at g.kind refl;
    }

pub fields_are_formed : FieldsAreFormed
fields_are_formed schema good i e k f own there at =
    let d = declaration_at schema good i e there in
    let same : own.0 ≡ d.0 = same_Some own.0 d.0 (sym own.1 ∙ d.1) in
    let free : d.0.builtin ≡ false = sym (ap (λ (x : DeclText). x.builtin) same) ∙ own.2 in
    let g = field_of schema.program d.0 k f (sym (ap (λ (x : Declaration). slice_get x.fields k) d.2.1) ∙ at) in
    subst (λ (x : Slot). IsFormedField schema e k x) g.2
    (subst (λ (x : Declaration). IsFormedField schema x k (slot_of schema.program d.0 g.0)) (sym d.2.1) (field_formed schema good i d.0 d.1 free e.number k g.0 g.1))
