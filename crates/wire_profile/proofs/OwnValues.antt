-- What is spelled in a profile's schema is of the forms, once its numbers are the forms'.
use Rattle.std.proofs.Common.{◌≡◌, ℕ, suc, ◌<◌, ◌^◌, List, [], ◌∷◌, ◌++◌, map, get_or, Some, None, Bool, true, false, ◌||◌, refl, sym, ap, ◌∙◌, subst, inl, inr, true≢false}
use Rattle.std.specs.Prelude.{slice_get, ◌⊎◌}
use Rattle.tl_schema.specs.Types.{Shape, Shapes, no_shapes}
use Rattle.tl_schema.specs.Types as type
use Rattle.tl_schema.specs.Closing.{closed, list_of_shapes}
use Rattle.tl_schema.specs.Schemas.{Slot, Declaration, Declared}
use Rattle.tl_schema.specs.Formed.{IsMember}
use Rattle.tl_types.specs.Values.{ValueView, int, long, nat, opaque, text, truth, absent, list, node, call, ValueViews, no_values, value, count}
use Rattle.tl_types.specs.Conditions.{bits_of, is_bit, stands_by}
use Rattle.tl_types.specs.Spelling.{Begins, Spells, SpellEach, SpellFields, SpellsField}
use Rattle.tl_types.specs.Spelling as begins
use Rattle.tl_types.specs.Fitting.{is_kind}
use Rattle.tl_types.proofs.Closings.{closed_none}
use Rattle.wire_forms.specs.declared.form.Cell.{Cell}
use Rattle.wire_forms.specs.declared.form.Cell.TheVariants.{Whole, Signed, Long, Body, Key, Ids, Bodies, Flags, Final, Many, One, Bare, ManyBare, Query}
use Rattle.wire_forms.specs.Forms.{FormView, PartView, cells_of}
use Rattle.wire_forms.specs.Parts.{first, flag, is_final}
use Rattle.wire_forms.specs.IsOf.{IsShort, IsField, IsOf, EachOf, AreOf}
use Rattle.wire_profile.specs.Indexes.{ProfileView, number_at, form_at, cell_shape, cell_cond, slot_of}
use Rattle.wire_profile.specs.Profiles.{IsProfile, IsForm}
use Rattle.wire_profile.specs.Renaming.{renamed, renamed_each}
use Rattle.wire_profile.specs.SpelledForms.{owned, IsServed, AreServed, StandsAlone}
use Rattle.wire_profile.proofs.FormTable.{IsFormAt, AreGood, form_is_good, is_query, has_query, no_query, is_flag, begins_with_flag, no_flag_first, member_form, function_form, cells_are, clash}
use Rattle.wire_profile.proofs.ProfileFacts.{declared, member, own_again}

-- ---- kinds of values

pub matched : (S : Declared) (T : Shape) (v : ValueView) (b : List ℕ) → Spells S T v b → is_kind T v ≡ true
matched S T (int z) b s = ap (λ (U : Shape). is_kind U (int z)) s.0
matched S T (long z) b s = ap (λ (U : Shape). is_kind U (long z)) s.0
matched S T (nat n) b s = ap (λ (U : Shape). is_kind U (nat n)) s.0
matched S T (opaque x) b s = ap (λ (U : Shape). is_kind U (opaque x)) s.0
matched S T (text x) b (inl e, l, is) = ap (λ (U : Shape). is_kind U (text x)) e
matched S T (text x) b (inr e, l, is) = ap (λ (U : Shape). is_kind U (text x)) e
matched S T truth b s = ap (λ (U : Shape). is_kind U truth) s.0
matched S T absent b s = absurd s
matched S T (list vs) b s = ap (λ (U : Shape). is_kind U (list vs)) s.3
matched S T (node i vs) b (d, args, prefix, r, begins.boxed h e m f, split, inner) = ap (λ (U : Shape). is_kind U (node i vs)) e
matched S T (node i vs) b (d, args, prefix, r, begins.bare e m f, split, inner) = ap (λ (U : Shape). is_kind U (node i vs)) e
matched S T (call i vs) b s = ap (λ (U : Shape). is_kind U (call i vs)) s.2

-- ---- parts of types

item_of : Shape → Shape
item_of (type.vector w T) = T
item_of T = T

number_of : Shape → ℕ
number_of (type.boxed h args) = h
number_of (type.bare i args) = i
number_of T = 0

args_of : Shape → Shapes
args_of (type.boxed h args) = args
args_of (type.bare i args) = args
args_of T = no_shapes

boxes : Shape → Bool
boxes (type.boxed h args) = true
boxes T = false

pub item_is : (T U : Shape) (a b : Bool) → type.vector a T ≡ type.vector b U → T ≡ U
unfolding item_of
item_is T U a b e = ap item_of e

-- a record of a boxed type, and what its fields are
pub boxed_is : (S : Declared) (h e : ℕ) (d : Declaration) (args : Shapes) (prefix : List ℕ) → Begins S (type.boxed h no_shapes) e d args prefix → IsMember S h e d × (args ≡ no_shapes)
unfolding number_of args_of boxes
boxed_is S h e d args prefix (begins.boxed g same m f) = (subst (λ (n : ℕ). IsMember S n e d) (sym (ap number_of same)) m, sym (ap args_of same))
boxed_is S h e d args prefix (begins.bare same m f) = absurd (clash (sym (ap boxes same)))

pub bare_is : (S : Declared) (i e : ℕ) (d : Declaration) (args : Shapes) (prefix : List ℕ) → Begins S (type.bare i no_shapes) e d args prefix → (i ≡ e) × (slice_get S.decls e ≡ Some d) × (args ≡ no_shapes)
unfolding number_of args_of boxes
bare_is S i e d args prefix (begins.boxed g same m f) = absurd (clash (ap boxes same))
bare_is S i e d args prefix (begins.bare same m f) = (ap number_of same, m, sym (ap args_of same))

-- ---- values with other numbers

pub bits_same : (f : ℕ → ℕ) (v : ValueView) → bits_of (renamed f v) ≡ bits_of v
bits_same f (int z) = refl
bits_same f (long z) = refl
bits_same f (nat n) = refl
bits_same f (opaque x) = refl
bits_same f (text x) = refl
bits_same f truth = refl
bits_same f absent = refl
bits_same f (list vs) = refl
bits_same f (node i vs) = refl
bits_same f (call i vs) = refl

pub count_same : (f : ℕ → ℕ) (vs : ValueViews) → count (renamed_each f vs) ≡ count vs
count_same f no_values = refl
count_same f (value v vs) = ap suc (count_same f vs)

-- ---- calls

served_alone : (c : Cell) (v : ValueView) → is_query c ≡ false → IsServed c v
served_alone Query v e = absurd (true≢false e)
served_alone Whole v e = tt
served_alone Signed v e = tt
served_alone Long v e = tt
served_alone Body v e = tt
served_alone Key v e = tt
served_alone Ids v e = tt
served_alone Bodies v e = tt
served_alone Flags v e = tt
served_alone Final v e = tt
served_alone (Many h) v e = tt
served_alone (One h) v e = tt
served_alone (Bare j) v e = tt
served_alone (ManyBare j) v e = tt

neither : (a b : Bool) → (a || b) ≡ false → (a ≡ false) × (b ≡ false)
neither true b e = absurd (true≢false e)
neither false b e = (refl, e)

are_served : (parts : List PartView) (vs : ValueViews) → has_query parts ≡ false → AreServed (map (λ part. part.cell) parts) vs
are_served [] vs e = tt
are_served (part ∷ parts) no_values e = tt
are_served (part ∷ parts) (value v vs) e = let both = neither (is_query part.cell) (has_query parts) e in (served_alone part.cell v both.0, are_served parts vs both.1)

-- ---- one field

flag_there : (S : Declared) (v : ValueView) (b : List ℕ) → Spells S type.flag v b → v ≡ truth
flag_there S truth b s = refl
flag_there S v b s = absurd (clash (matched S type.flag v b s))

flag_by : (b : Bool) (f : ℕ → ℕ) (v : ValueView) → (b ≡ true → v ≡ truth) → (b ≡ false → v ≡ absent) → renamed f v ≡ flag b
flag_by true f v set clear = ap (renamed f) (set refl)
flag_by false f v set clear = ap (renamed f) (clear refl)

-- a field that stands alone is there
pub there : {P : Type 0} (S : Declared) (T : Shape) (before : List ValueView) (v : ValueView) (x : List ℕ) → ((stands_by None before ≡ true) × Spells S (closed [] T) v x) ⊎ ((stands_by None before ≡ false) × (v ≡ absent) × (x ≡ [])) → (Spells S T v x → P) → P
there S T before v x (inl (set, s)) law = law (subst (λ (U : Shape). Spells S U v x) (closed_none T) s)
there S T before v x (inr (clear, none, empty)) law = absurd (true≢false clear)

field_is : (p : ProfileView) (flags : ValueView) (before : List ValueView) (c : Cell) (v : ValueView) (x : List ℕ) → (is_flag c ≡ true → is_bit (bits_of (get_or before 0 absent)) 0 ≡ is_final flags)
    → ((stands_by (cell_cond c) before ≡ true) × Spells p.schema (closed [] (cell_shape p c)) v x) ⊎ ((stands_by (cell_cond c) before ≡ false) × (v ≡ absent) × (x ≡ []))
    → (StandsAlone c → Spells p.schema (cell_shape p c) v x → IsOf c (owned p v)) → (cs : List Cell) → AreGood (c ∷ cs) → IsField flags c (owned p v) (IsOf c (owned p v)) × AreGood cs
field_is p flags before Final v x bits (inl (set, s)) law cs good =
    (flag_by (is_final flags) (form_at p.indexes) v (λ _. flag_there p.schema v x s) (λ clear. absurd (true≢false (sym set ∙ bits refl ∙ clear))), good)
field_is p flags before Final v x bits (inr (clear, none, empty)) law cs good =
    (flag_by (is_final flags) (form_at p.indexes) v (λ set. absurd (true≢false (sym set ∙ sym (bits refl) ∙ clear))) (λ _. none), good)
field_is p flags before Whole v x bits s law cs good = (there p.schema (cell_shape p Whole) before v x s (law good.0), good.1)
field_is p flags before Signed v x bits s law cs good = (there p.schema (cell_shape p Signed) before v x s (law good.0), good.1)
field_is p flags before Long v x bits s law cs good = (there p.schema (cell_shape p Long) before v x s (law good.0), good.1)
field_is p flags before Body v x bits s law cs good = (there p.schema (cell_shape p Body) before v x s (law good.0), good.1)
field_is p flags before Key v x bits s law cs good = (there p.schema (cell_shape p Key) before v x s (law good.0), good.1)
field_is p flags before Ids v x bits s law cs good = (there p.schema (cell_shape p Ids) before v x s (law good.0), good.1)
field_is p flags before Bodies v x bits s law cs good = (there p.schema (cell_shape p Bodies) before v x s (law good.0), good.1)
field_is p flags before Flags v x bits s law cs good = (there p.schema (cell_shape p Flags) before v x s (law good.0), good.1)
field_is p flags before (Many h) v x bits s law cs good = (there p.schema (cell_shape p (Many h)) before v x s (law good.0), good.1)
field_is p flags before (One h) v x bits s law cs good = (there p.schema (cell_shape p (One h)) before v x s (law good.0), good.1)
field_is p flags before (Bare j) v x bits s law cs good = (there p.schema (cell_shape p (Bare j)) before v x s (law good.0), good.1)
field_is p flags before (ManyBare j) v x bits s law cs good = (there p.schema (cell_shape p (ManyBare j)) before v x s (law good.0), good.1)
field_is p flags before Query v x bits s law cs good = (there p.schema (cell_shape p Query) before v x s (law good.0), good.1)

-- ---- values

abbrev pub cells : List PartView → List Cell
cells parts = map (λ part. part.cell) parts

short : (f : ℕ → ℕ) (vs : ValueViews) → count vs < 2 ^ 31 → IsShort (renamed_each f vs)
short f vs few = subst (λ (n : ℕ). n < 2 ^ 31) (sym (count_same f vs)) few

-- the elements of a vector, by its own type
pub elements : (S : Declared) (T U : Shape) (a b : Bool) (vs : ValueViews) (x : List ℕ) → type.vector a T ≡ type.vector b U → SpellEach S U vs x → SpellEach S T vs x
elements S T U a b vs x e s = subst (λ (V : Shape). SpellEach S V vs x) (sym (item_is T U a b e)) s

-- the fields of a declaration, which declares a form
pub its_fields : (p : ProfileView) (f : FormView) (d : Declaration) (args : Shapes) (vs : ValueViews) (b : List ℕ) → args ≡ no_shapes → IsForm p f d → SpellFields p.schema (list_of_shapes args) [] d.fields vs b → SpellFields p.schema [] [] (map (slot_of p) f.parts) vs b
its_fields p f d args vs b none is s =
    subst (λ (fs : List Slot). SpellFields p.schema [] [] fs vs b) is.fields (subst (λ (us : Shapes). SpellFields p.schema (list_of_shapes us) [] d.fields vs b) none s)

by_cells : (k : ℕ) (f : FormView) (vs : ValueViews) → IsFormAt k f → AreOf (first vs) (cells f.parts) vs → AreOf (first vs) (cells_of k) vs
by_cells k f vs form s = subst (λ (cs : List Cell). AreOf (first vs) cs vs) (sym (cells_are k f form)) s

mutual
  pub own_of : (p : ProfileView) (good : IsProfile p) (v : ValueView) (c : Cell) (b : List ℕ) → StandsAlone c → Spells p.schema (cell_shape p c) v b → IsServed c (owned p v) → IsOf c (owned p v)
  own_of p good (int z) Whole b alone s served = (s.1, s.2, s.3)
  own_of p good (int z) Signed b alone s served = (s.1, s.2, s.3)
  own_of p good (long z) Long b alone s served = (s.1, s.2, s.3)
  own_of p good (text x) Body b alone s served = s.1
  own_of p good (text x) Key b alone s served = s.1
  own_of p good (nat n) Flags b alone s served = s.1
  own_of p good (list vs) Ids b alone s served =
      (short (form_at p.indexes) vs s.4, each_of p good vs Signed s.2 tt refl (elements p.schema (cell_shape p Signed) s.1 true s.0 vs s.2 s.3 s.6))
  own_of p good (list vs) Bodies b alone s served =
      (short (form_at p.indexes) vs s.4, each_of p good vs Body s.2 tt refl (elements p.schema (cell_shape p Body) s.1 true s.0 vs s.2 s.3 s.6))
  own_of p good (list vs) (Many h) b alone s served =
      (short (form_at p.indexes) vs s.4, each_of p good vs (One h) s.2 tt refl (elements p.schema (cell_shape p (One h)) s.1 true s.0 vs s.2 s.3 s.6))
  own_of p good (list vs) (ManyBare j) b alone s served =
      (short (form_at p.indexes) vs s.4, each_of p good vs (Bare j) s.2 alone refl (elements p.schema (cell_shape p (Bare j)) s.1 true s.0 vs s.2 s.3 s.6))
  own_of p good (node e vs) (One h) b alone (d, args, prefix, r, begin, split, inner) served =
      let k = form_at p.indexes e in
      let m = boxed_is p.schema (number_at p.heads h) e d args prefix begin in
      let is = member p good h e d m.0 in
      let f = member_form h k is in
      let declares = declared p good e k f.0 d refl f.1.there m.0.there in
      (is, by_cells k f.0 (renamed_each (form_at p.indexes) vs) f.1.there (all_of p good vs f.0.parts r (form_is_good k f.0 f.1.there) (no_flag_first k f.0 f.1.there) (its_fields p f.0 d args vs r m.1 declares inner) (are_served f.0.parts (renamed_each (form_at p.indexes) vs) (no_query k f.0 f.1.there f.1.function))))
  own_of p good (node e vs) (Bare j) b alone (d, args, prefix, r, begin, split, inner) served =
      let m = bare_is p.schema (number_at p.indexes j) e d args prefix begin in
      let f = member_form alone.0 j alone.1 in
      let is : form_at p.indexes e ≡ j = ap (form_at p.indexes) (sym m.0) ∙ own_again p good j f.0 f.1.there in
      let declares = declared p good e j f.0 d is f.1.there m.1 in
      (is, by_cells j f.0 (renamed_each (form_at p.indexes) vs) f.1.there (all_of p good vs f.0.parts r (form_is_good j f.0 f.1.there) (no_flag_first j f.0 f.1.there) (its_fields p f.0 d args vs r m.2 declares inner) (are_served f.0.parts (renamed_each (form_at p.indexes) vs) (no_query j f.0 f.1.there f.1.function))))
  own_of p good (call e vs) Query b alone (d, r, is_call, fn, split, inner) served =
      let k = form_at p.indexes e in
      let f = function_form k served.0 in
      let declares = declared p good e k f.0 d refl f.1 fn.there in
      (served.0, by_cells k f.0 (renamed_each (form_at p.indexes) vs) f.1 (all_of p good vs f.0.parts r (form_is_good k f.0 f.1) (no_flag_first k f.0 f.1) (its_fields p f.0 d no_shapes vs r refl declares inner) (subst (λ (cs : List Cell). AreServed cs (renamed_each (form_at p.indexes) vs)) (cells_are k f.0 f.1) served.1)))
  own_of p good v Final b alone s served = absurd alone
  own_of p good v c b alone s served = absurd (clash (matched p.schema (cell_shape p c) v b s))

  each_of : (p : ProfileView) (good : IsProfile p) (vs : ValueViews) (c : Cell) (b : List ℕ) → StandsAlone c → is_query c ≡ false → SpellEach p.schema (cell_shape p c) vs b → EachOf c (renamed_each (form_at p.indexes) vs)
  each_of p good no_values c b alone asks s = tt
  each_of p good (value v vs) c b alone asks (x, y, split, s, more) = (own_of p good v c x alone s (served_alone c (owned p v) asks), each_of p good vs c y alone asks more)

  -- all fields of a record
  all_of : (p : ProfileView) (good : IsProfile p) (vs : ValueViews) (parts : List PartView) (b : List ℕ) → AreGood (cells parts) → begins_with_flag parts ≡ false → SpellFields p.schema [] [] (map (slot_of p) parts) vs b → AreServed (cells parts) (renamed_each (form_at p.indexes) vs)
      → AreOf (first (renamed_each (form_at p.indexes) vs)) (cells parts) (renamed_each (form_at p.indexes) vs)
  all_of p good no_values [] b cells_good no_flag s served = tt
  all_of p good no_values (part ∷ parts) b cells_good no_flag s served = absurd s
  all_of p good (value v vs) [] b cells_good no_flag s served = absurd s
  all_of p good (value v vs) (part ∷ parts) b cells_good no_flag (x, y, split, s, more) served =
      let here = field_is p (owned p v) [] part.cell v x (λ is. absurd (true≢false (sym is ∙ no_flag))) s (λ alone spelled. own_of p good v part.cell x alone spelled served.0) (cells parts) cells_good in
      (here.0, fields_of p good vs v [] parts y here.1 more served.1)

  -- those after the first, u
  fields_of : (p : ProfileView) (good : IsProfile p) (vs : ValueViews) (u : ValueView) (before : List ValueView) (parts : List PartView) (b : List ℕ) → AreGood (cells parts) → SpellFields p.schema [] (u ∷ before) (map (slot_of p) parts) vs b
      → AreServed (cells parts) (renamed_each (form_at p.indexes) vs) → AreOf (owned p u) (cells parts) (renamed_each (form_at p.indexes) vs)
  fields_of p good no_values u before [] b cells_good s served = tt
  fields_of p good no_values u before (part ∷ parts) b cells_good s served = absurd s
  fields_of p good (value v vs) u before [] b cells_good s served = absurd s
  fields_of p good (value v vs) u before (part ∷ parts) b cells_good (x, y, split, s, more) served =
      let here = field_is p (owned p u) (u ∷ before) part.cell v x (λ is. ap (λ (n : ℕ). is_bit n 0) (sym (bits_same (form_at p.indexes) u))) s (λ alone spelled. own_of p good v part.cell x alone spelled served.0) (cells parts) cells_good in
      (here.0, fields_of p good vs u (before ++ v ∷ []) parts y here.1 more served.1)
