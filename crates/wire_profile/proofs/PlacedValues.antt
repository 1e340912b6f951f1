-- Each value of the forms is spelled in a profile's schema, once its numbers are the schema's.
use Rattle.std.proofs.Common.{◌≡◌, ℕ, ◌<◌, ◌^◌, List, [], ◌∷◌, ◌++◌, map, get_or, Option, Some, None, Bool, true, false, refl, sym, ap, ◌∙◌, subst, inl, inr, true≢false}
use Rattle.std.specs.Prelude.{◌⊎◌}
use Rattle.tl_numbers.specs.Numbers.{word, double_word}
use Rattle.tl_schema.specs.Types.{Shape, Shapes, no_shapes}
use Rattle.tl_schema.specs.Types as type
use Rattle.tl_schema.specs.Closing.{closed}
use Rattle.tl_schema.specs.Schemas.{Slot, Declaration, Declared}
use Rattle.tl_types.specs.Values.{ValueView, int, long, nat, opaque, text, truth, absent, list, node, call, ValueViews, no_values, value, count}
use Rattle.tl_types.specs.Conditions.{bits_of, is_bit, stands_by}
use Rattle.tl_types.specs.Texts.{text_bytes}
use Rattle.tl_types.specs.Spelling.{vector_prefix, Spells, SpellEach, SpellFields, SpellsField}
use Rattle.tl_types.specs.Spelling as begins
use Rattle.tl_types.proofs.Closings.{closed_none}
use Rattle.wire_forms.specs.declared.form.Cell.{Cell}
use Rattle.wire_forms.specs.declared.form.Cell.TheVariants.{Whole, Signed, Long, Body, Key, Ids, Bodies, Flags, Final, Many, One, Bare, ManyBare, Query}
use Rattle.wire_forms.specs.Forms.{FormView, PartView, cells_of}
use Rattle.wire_forms.specs.Parts.{first, flag, is_final}
use Rattle.wire_forms.specs.IsOf.{IsShort, IsField, IsOf, EachOf, AreOf}
use Rattle.wire_profile.specs.Indexes.{ProfileView, number_at, cell_shape, cell_cond, slot_of}
use Rattle.wire_profile.specs.Profiles.{IsProfile, IsForm}
use Rattle.wire_profile.specs.Renaming.{renamed, renamed_each}
use Rattle.wire_profile.specs.SpelledForms.{placed, StandsAlone}
use Rattle.wire_profile.proofs.FormTable.{IsFormAt, AreGood, form_is_good, is_flag, begins_with_flag, no_flag_first, member_form, function_form, cells_are}
use Rattle.wire_profile.proofs.ProfileFacts.{is_member}
use Rattle.wire_profile.proofs.OwnValues.{cells, bits_same, count_same}

abbrev pub Spelled : Declared → Shape → ValueView → Type 0
Spelled S T v = (b : List ℕ) × Spells S T v b

-- ---- one field

abbrev SpelledField : Declared → Option (ℕ × ℕ) → Shape → List ValueView → ValueView → Type 0
SpelledField S cond T before v = (x : List ℕ) × (((stands_by cond before ≡ true) × Spells S (closed [] T) v x) ⊎ ((stands_by cond before ≡ false) × (v ≡ absent) × (x ≡ [])))

there : (S : Declared) (T : Shape) (before : List ValueView) (v : ValueView) → Spelled S T v → SpelledField S None T before v
there S T before v s = (s.0, inl (refl, subst (λ (U : Shape). Spells S U v s.0) (sym (closed_none T)) s.1))

flag_spelled : (S : Declared) (f : ℕ → ℕ) (before : List ValueView) (t : ValueView) (b : Bool) → stands_by (Some (0, 0)) before ≡ b → t ≡ flag b → SpelledField S (Some (0, 0)) type.flag before (renamed f t)
flag_spelled S f before t true stands is = ([], inl (stands, subst (λ (v : ValueView). Spells S type.flag (renamed f v) []) (sym is) (refl, refl)))
flag_spelled S f before t false stands is = ([], inr (stands, ap (renamed f) is, refl))

field_spelled : (p : ProfileView) (flags : ValueView) (before : List ValueView) (c : Cell) (t : ValueView) → (is_flag c ≡ true → is_bit (bits_of (get_or before 0 absent)) 0 ≡ is_final flags) → IsField flags c t (IsOf c t)
    → (StandsAlone c → IsOf c t → Spelled p.schema (cell_shape p c) (placed p t)) → (cs : List Cell) → AreGood (c ∷ cs) → SpelledField p.schema (cell_cond c) (cell_shape p c) before (placed p t) × AreGood cs
field_spelled p flags before Final t bits is law cs good = (flag_spelled p.schema (number_at p.indexes) before t (is_final flags) (bits refl) is, good)
field_spelled p flags before Whole t bits is law cs good = (there p.schema (cell_shape p Whole) before (placed p t) (law good.0 is), good.1)
field_spelled p flags before Signed t bits is law cs good = (there p.schema (cell_shape p Signed) before (placed p t) (law good.0 is), good.1)
field_spelled p flags before Long t bits is law cs good = (there p.schema (cell_shape p Long) before (placed p t) (law good.0 is), good.1)
field_spelled p flags before Body t bits is law cs good = (there p.schema (cell_shape p Body) before (placed p t) (law good.0 is), good.1)
field_spelled p flags before Key t bits is law cs good = (there p.schema (cell_shape p Key) before (placed p t) (law good.0 is), good.1)
field_spelled p flags before Ids t bits is law cs good = (there p.schema (cell_shape p Ids) before (placed p t) (law good.0 is), good.1)
field_spelled p flags before Bodies t bits is law cs good = (there p.schema (cell_shape p Bodies) before (placed p t) (law good.0 is), good.1)
field_spelled p flags before Flags t bits is law cs good = (there p.schema (cell_shape p Flags) before (placed p t) (law good.0 is), good.1)
field_spelled p flags before (Many h) t bits is law cs good = (there p.schema (cell_shape p (Many h)) before (placed p t) (law good.0 is), good.1)
field_spelled p flags before (One h) t bits is law cs good = (there p.schema (cell_shape p (One h)) before (placed p t) (law good.0 is), good.1)
field_spelled p flags before (Bare j) t bits is law cs good = (there p.schema (cell_shape p (Bare j)) before (placed p t) (law good.0 is), good.1)
field_spelled p flags before (ManyBare j) t bits is law cs good = (there p.schema (cell_shape p (ManyBare j)) before (placed p t) (law good.0 is), good.1)
field_spelled p flags before Query t bits is law cs good = (there p.schema (cell_shape p Query) before (placed p t) (law good.0 is), good.1)

-- ---- values

-- a list, whose elements are spelled
list_spelled : (S : Declared) (f : ℕ → ℕ) (T : Shape) (vs : ValueViews) → IsShort vs → ((b : List ℕ) × SpellEach S T (renamed_each f vs) b) → Spelled S (type.vector true T) (list (renamed_each f vs))
list_spelled S f T vs few each =
    (vector_prefix true ++ word (count (renamed_each f vs)) ++ each.0, (true, T, each.0, refl, subst (λ (n : ℕ). n < 2 ^ 31) (sym (count_same f vs)) few, refl, each.1))

-- the fields of a form are those of its declaration
form_fields : (p : ProfileView) (f : FormView) (d : Declaration) (vs : ValueViews) → IsForm p f d → ((b : List ℕ) × SpellFields p.schema [] [] (map (slot_of p) f.parts) vs b) → (b : List ℕ) × SpellFields p.schema [] [] d.fields vs b
form_fields p f d vs is s = (s.0, subst (λ (fs : List Slot). SpellFields p.schema [] [] fs vs s.0) (sym is.fields) s.1)

its_cells : (k : ℕ) (f : FormView) (vs : ValueViews) → IsFormAt k f → AreOf (first vs) (cells_of k) vs → AreOf (first vs) (cells f.parts) vs
its_cells k f vs form s = subst (λ (cs : List Cell). AreOf (first vs) cs vs) (cells_are k f form) s

no_opaque : (c : Cell) (x : List ℕ) → IsOf c (opaque x) → ⊥
no_opaque Whole x s = s
no_opaque c x s = s

no_truth : (c : Cell) → IsOf c truth → ⊥
no_truth Whole s = s
no_truth c s = s

no_absent : (c : Cell) → IsOf c absent → ⊥
no_absent Whole s = s
no_absent c s = s

mutual
  pub placed_of : (p : ProfileView) (good : IsProfile p) (t : ValueView) (c : Cell) → StandsAlone c → IsOf c t → Spelled p.schema (cell_shape p c) (placed p t)
  placed_of p good (int z) Whole alone s = (word s.0, (refl, s.0, s.1, s.2, refl))
  placed_of p good (int z) Signed alone s = (word s.0, (refl, s.0, s.1, s.2, refl))
  placed_of p good (long z) Long alone s = (double_word s.0, (refl, s.0, s.1, s.2, refl))
  placed_of p good (text x) Body alone s = (text_bytes x, (inr refl, s, refl))
  placed_of p good (text x) Key alone s = (text_bytes x, (inl refl, s, refl))
  placed_of p good (nat n) Flags alone s = (word n, (refl, s, refl))
  placed_of p good (list vs) Ids alone s = list_spelled p.schema (number_at p.indexes) (cell_shape p Signed) vs s.0 (each_placed p good vs Signed tt s.1)
  placed_of p good (list vs) Bodies alone s = list_spelled p.schema (number_at p.indexes) (cell_shape p Body) vs s.0 (each_placed p good vs Body tt s.1)
  placed_of p good (list vs) (Many h) alone s = list_spelled p.schema (number_at p.indexes) (cell_shape p (One h)) vs s.0 (each_placed p good vs (One h) tt s.1)
  placed_of p good (list vs) (ManyBare j) alone s = list_spelled p.schema (number_at p.indexes) (cell_shape p (Bare j)) vs s.0 (each_placed p good vs (Bare j) alone s.1)
  placed_of p good (node k vs) (One h) alone s =
      let f = member_form h k s.0 in
      let m = is_member p good h k f.0 f.1 in
      let fields = form_fields p f.0 m.0 _ m.2 (all_placed p good vs f.0.parts (form_is_good k f.0 f.1.there) (no_flag_first k f.0 f.1.there) (its_cells k f.0 vs f.1.there s.1)) in
      (word (m.0).number ++ fields.0, (m.0, no_shapes, word (m.0).number, fields.0, begins.boxed (number_at p.heads h) refl m.1 refl, refl, fields.1))
  placed_of p good (node k vs) (Bare j) alone s =
      let f = member_form alone.0 j alone.1 in
      let m = is_member p good alone.0 j f.0 f.1 in
      let fields = form_fields p f.0 m.0 _ m.2 (all_placed p good vs f.0.parts (form_is_good j f.0 f.1.there) (no_flag_first j f.0 f.1.there) (its_cells j f.0 vs f.1.there s.1)) in
      let here : Spelled p.schema (type.bare (number_at p.indexes j) no_shapes) (node (number_at p.indexes j) (renamed_each (number_at p.indexes) vs)) = (fields.0, (m.0, no_shapes, [], fields.0, begins.bare refl m.1.there refl, refl, fields.1)) in
      subst (λ (n : ℕ). Spelled p.schema (type.bare (number_at p.indexes j) no_shapes) (node (number_at p.indexes n) (renamed_each (number_at p.indexes) vs))) (sym s.0) here
  placed_of p good (call k vs) Query alone s =
      let f = function_form k s.0 in
      let h = good.forms_there k f.0 f.1 in
      let fields = form_fields p f.0 h.d _ h.is (all_placed p good vs f.0.parts (form_is_good k f.0 f.1) (no_flag_first k f.0 f.1) (its_cells k f.0 vs f.1 s.1)) in
      (word h.d.number ++ fields.0, (h.d, fields.0, refl, record { there = h.there; function = h.is.function ∙ f.2 }, refl, fields.1))
  placed_of p good (opaque x) c alone s = absurd (no_opaque c x s)
  placed_of p good truth c alone s = absurd (no_truth c s)
  placed_of p good absent c alone s = absurd (no_absent c s)
  placed_of p good t c alone s = absurd s

  each_placed : (p : ProfileView) (good : IsProfile p) (vs : ValueViews) (c : Cell) → StandsAlone c → EachOf c vs → (b : List ℕ) × SpellEach p.schema (cell_shape p c) (renamed_each (number_at p.indexes) vs) b
  each_placed p good no_values c alone s = ([], refl)
  each_placed p good (value v vs) c alone s =
      let x = placed_of p good v c alone s.0 in
      let y = each_placed p good vs c alone s.1 in
      (x.0 ++ y.0, (x.0, y.0, refl, x.1, y.1))

  all_placed : (p : ProfileView) (good : IsProfile p) (vs : ValueViews) (parts : List PartView) → AreGood (cells parts) → begins_with_flag parts ≡ false → AreOf (first vs) (cells parts) vs → (b : List ℕ) × SpellFields p.schema [] [] (map (slot_of p) parts) (renamed_each (number_at p.indexes) vs) b
  all_placed p good no_values [] cells_good no_flag s = ([], refl)
  all_placed p good no_values (part ∷ parts) cells_good no_flag s = absurd s
  all_placed p good (value v vs) [] cells_good no_flag s = absurd s
  all_placed p good (value v vs) (part ∷ parts) cells_good no_flag s =
      let x = field_spelled p v [] part.cell v (λ is. absurd (true≢false (sym is ∙ no_flag))) s.0 (λ alone of. placed_of p good v part.cell alone of) (cells parts) cells_good in
      let y = fields_placed p good vs v [] parts x.1 s.1 in
      (x.0.0 ++ y.0, (x.0.0, y.0, refl, x.0.1, y.1))

  fields_placed : (p : ProfileView) (good : IsProfile p) (vs : ValueViews) (u : ValueView) (before : List ValueView) (parts : List PartView) → AreGood (cells parts) → AreOf u (cells parts) vs → (b : List ℕ) × SpellFields p.schema [] (placed p u ∷ before) (map (slot_of p) parts) (renamed_each (number_at p.indexes) vs) b
  fields_placed p good no_values u before [] cells_good s = ([], refl)
  fields_placed p good no_values u before (part ∷ parts) cells_good s = absurd s
  fields_placed p good (value v vs) u before [] cells_good s = absurd s
  fields_placed p good (value v vs) u before (part ∷ parts) cells_good s =
      let x = field_spelled p u (placed p u ∷ before) part.cell v (λ is. ap (λ (n : ℕ). is_bit n 0) (bits_same (number_at p.indexes) u)) s.0 (λ alone of. placed_of p good v part.cell alone of) (cells parts) cells_good in
      let y = fields_placed p good vs u (before ++ placed p v ∷ []) parts x.1 s.1 in
      (x.0.0 ++ y.0, (x.0.0, y.0, refl, x.0.1, y.1))
