-- The spelling of a value has its size.
use Rattle.std.specs.Prelude.{◌⊎◌}
use Rattle.std.proofs.Common.{◌≡◌, ℕ, ◌+◌, List, [], ◌∷◌, ◌++◌, map, length, length-append, Bool, true, false, refl, sym, ap, ap₂, ◌∙◌, subst, inl, inr, arith}
use Rattle.tl_numbers.specs.Numbers.{word}
use Rattle.tl_schema.specs.Types.{Shape, Shapes, no_shapes}
use Rattle.tl_schema.specs.Types as type
use Rattle.tl_schema.specs.Closing.{closed}
use Rattle.tl_schema.specs.Schemas.{Declaration, Declared}
use Rattle.tl_types.specs.Values.{ValueView, int, long, nat, opaque, text, truth, absent, list, node, call, ValueViews, no_values, value, count}
use Rattle.tl_types.specs.Conditions.{stands_by}
use Rattle.tl_types.specs.Spelling.{Begins, Spells, SpellEach, SpellFields, vector_prefix}
use Rattle.tl_types.specs.Spelling as begins
use Rattle.wire_forms.specs.declared.form.Cell.{Cell}
use Rattle.wire_forms.specs.declared.form.Cell.TheVariants.{Whole, Signed, Long, Body, Key, Ids, Bodies, Flags, Final, Many, One, Bare, ManyBare, Query}
use Rattle.wire_forms.specs.Forms.{FormView, PartView, cells_of}
use Rattle.wire_forms.specs.Parts.{first}
use Rattle.wire_forms.specs.IsOf.{IsField, IsOf, EachOf, AreOf}
use Rattle.wire_profile.specs.Indexes.{ProfileView, number_at, form_at, cell_shape, cell_cond, slot_of}
use Rattle.wire_profile.specs.Profiles.{IsProfile}
use Rattle.wire_profile.specs.Renaming.{renamed, renamed_each}
use Rattle.wire_profile.specs.SpelledForms.{owned, StandsAlone}
use Rattle.wire_profile.proofs.FormTable.{IsFormAt, AreGood, form_is_good, member_form, function_form, cells_are, clash}
use Rattle.wire_profile.proofs.ProfileFacts.{declared, own_again}
use Rattle.wire_profile.proofs.OwnValues.{matched, boxed_is, bare_is, there, cells, elements, its_fields}
use Rattle.box_world.specs.Sizes.{size_in, sizes_of, fields_size}

-- ---- what comes before the parts

is_boxed : Shape → Bool
is_boxed (type.vector w T) = w
is_boxed T = false

vector_boxed : (T U : Shape) (w : Bool) → type.vector true T ≡ type.vector w U → w ≡ true
unfolding is_boxed
vector_boxed T U w e = sym (ap is_boxed e)

prefix_long : (w : Bool) → w ≡ true → length (vector_prefix w) ≡ 4
prefix_long true e = refl
prefix_long false e = absurd (clash e)

vector_long : (T U : Shape) (w : Bool) (n : ℕ) (rest b : List ℕ) → type.vector true T ≡ type.vector w U → b ≡ vector_prefix w ++ word n ++ rest → length b ≡ 8 + length rest
vector_long T U w n rest b e is =
    let first = prefix_long w (vector_boxed T U w e) in
    let outer = ap length is ∙ length-append (vector_prefix w ++ word n) rest in
    let inner = length-append (vector_prefix w) (word n) in
    let four : length (word n) ≡ 4 = refl in
    omega (arith, first, outer, inner, four)

boxed_long : (S : Declared) (h e : ℕ) (d : Declaration) (args : Shapes) (prefix : List ℕ) → Begins S (type.boxed h no_shapes) e d args prefix → length prefix ≡ 4
boxed_long S h e d args prefix (begins.boxed g same m f) = ap length f
boxed_long S h e d args prefix (begins.bare same m f) = absurd cc

bare_long : (S : Declared) (i e : ℕ) (d : Declaration) (args : Shapes) (prefix : List ℕ) → Begins S (type.bare i no_shapes) e d args prefix → length prefix ≡ 0
bare_long S i e d args prefix (begins.boxed g same m f) = absurd cc
bare_long S i e d args prefix (begins.bare same m f) = ap length f

joined_long : (a r b : List ℕ) (n m : ℕ) → b ≡ a ++ r → length a ≡ n → length r ≡ m → length b ≡ n + m
joined_long a r b n m is x y = ap length is ∙ length-append a r ∙ ap₂ (λ (i j : ℕ). i + j) x y

-- ---- one field

flag_long : (S : Declared) (f : ℕ → ℕ) (v : ValueView) (x : List ℕ) → Spells S type.flag v x → length x ≡ size_in Final (renamed f v)
flag_long S f truth x s = ap length s.1
flag_long S f v x s = absurd (clash (matched S type.flag v x s))

-- a field that isn't there
gone : (p : ProfileView) (c : Cell) (v : ValueView) (x : List ℕ) → v ≡ absent → x ≡ [] → length x ≡ size_in c (owned p v)
gone p c v x none empty = ap length empty ∙ sym (ap (λ (u : ValueView). size_in c (owned p u)) none)

field_long : (p : ProfileView) (flags : ValueView) (before : List ValueView) (c : Cell) (v : ValueView) (x : List ℕ) → ((stands_by (cell_cond c) before ≡ true) × Spells p.schema (closed [] (cell_shape p c)) v x) ⊎ ((stands_by (cell_cond c) before ≡ false) × (v ≡ absent) × (x ≡ []))
    → IsField flags c (owned p v) (IsOf c (owned p v)) → (StandsAlone c → Spells p.schema (cell_shape p c) v x → IsOf c (owned p v) → length x ≡ size_in c (owned p v)) → (cs : List Cell) → AreGood (c ∷ cs) → (length x ≡ size_in c (owned p v)) × AreGood cs
field_long p flags before Final v x (inl (set, s)) is law cs good = (flag_long p.schema (form_at p.indexes) v x s, good)
field_long p flags before Final v x (inr (clear, none, empty)) is law cs good = (gone p Final v x none empty, good)
field_long p flags before Whole v x s is law cs good = (there p.schema (cell_shape p Whole) before v x s (λ t. law good.0 t is), good.1)
field_long p flags before Signed v x s is law cs good = (there p.schema (cell_shape p Signed) before v x s (λ t. law good.0 t is), good.1)
field_long p flags before Long v x s is law cs good = (there p.schema (cell_shape p Long) before v x s (λ t. law good.0 t is), good.1)
field_long p flags before Body v x s is law cs good = (there p.schema (cell_shape p Body) before v x s (λ t. law good.0 t is), good.1)
field_long p flags before Key v x s is law cs good = (there p.schema (cell_shape p Key) before v x s (λ t. law good.0 t is), good.1)
field_long p flags before Ids v x s is law cs good = (there p.schema (cell_shape p Ids) before v x s (λ t. law good.0 t is), good.1)
field_long p flags before Bodies v x s is law cs good = (there p.schema (cell_shape p Bodies) before v x s (λ t. law good.0 t is), good.1)
field_long p flags before Flags v x s is law cs good = (there p.schema (cell_shape p Flags) before v x s (λ t. law good.0 t is), good.1)
field_long p flags before (Many h) v x s is law cs good = (there p.schema (cell_shape p (Many h)) before v x s (λ t. law good.0 t is), good.1)
field_long p flags before (One h) v x s is law cs good = (there p.schema (cell_shape p (One h)) before v x s (λ t. law good.0 t is), good.1)
field_long p flags before (Bare j) v x s is law cs good = (there p.schema (cell_shape p (Bare j)) before v x s (λ t. law good.0 t is), good.1)
field_long p flags before (ManyBare j) v x s is law cs good = (there p.schema (cell_shape p (ManyBare j)) before v x s (λ t. law good.0 t is), good.1)
field_long p flags before Query v x s is law cs good = (there p.schema (cell_shape p Query) before v x s (λ t. law good.0 t is), good.1)

by_cells : (k n : ℕ) (f : FormView) (us : ValueViews) → IsFormAt k f → n ≡ fields_size (cells f.parts) us → n ≡ fields_size (cells_of k) us
by_cells k n f us form e = e ∙ ap (λ (cs : List Cell). fields_size cs us) (sym (cells_are k f form))

its_values : (k : ℕ) (f : FormView) (us : ValueViews) → IsFormAt k f → AreOf (first us) (cells_of k) us → AreOf (first us) (cells f.parts) us
its_values k f us form s = subst (λ (cs : List Cell). AreOf (first us) cs us) (cells_are k f form) s

-- ---- values

mutual
  pub has_size : (p : ProfileView) (good : IsProfile p) (v : ValueView) (c : Cell) (b : List ℕ) → StandsAlone c → Spells p.schema (cell_shape p c) v b → IsOf c (owned p v) → length b ≡ size_in c (owned p v)
  has_size p good (int z) c b alone s of = ap length s.4
  has_size p good (long z) c b alone s of = ap length s.4
  has_size p good (nat n) c b alone s of = ap length s.2
  has_size p good (opaque x) c b alone s of = ap length s.1
  has_size p good (text x) c b alone s of = ap length s.2
  has_size p good truth c b alone s of = ap length s.1
  has_size p good absent c b alone s of = absurd s
  has_size p good (list vs) Ids b alone s of =
      vector_long (cell_shape p Signed) s.1 s.0 (count vs) s.2 b s.3 s.5 ∙ ap (λ (n : ℕ). 8 + n) (each_size p good vs Signed s.2 tt (elements p.schema (cell_shape p Signed) s.1 true s.0 vs s.2 s.3 s.6) of.1)
  has_size p good (list vs) Bodies b alone s of =
      vector_long (cell_shape p Body) s.1 s.0 (count vs) s.2 b s.3 s.5 ∙ ap (λ (n : ℕ). 8 + n) (each_size p good vs Body s.2 tt (elements p.schema (cell_shape p Body) s.1 true s.0 vs s.2 s.3 s.6) of.1)
  has_size p good (list vs) (Many h) b alone s of =
      vector_long (cell_shape p (One h)) s.1 s.0 (count vs) s.2 b s.3 s.5 ∙ ap (λ (n : ℕ). 8 + n) (each_size p good vs (One h) s.2 tt (elements p.schema (cell_shape p (One h)) s.1 true s.0 vs s.2 s.3 s.6) of.1)
  has_size p good (list vs) (ManyBare j) b alone s of =
      vector_long (cell_shape p (Bare j)) s.1 s.0 (count vs) s.2 b s.3 s.5 ∙ ap (λ (n : ℕ). 8 + n) (each_size p good vs (Bare j) s.2 alone (elements p.schema (cell_shape p (Bare j)) s.1 true s.0 vs s.2 s.3 s.6) of.1)
  has_size p good (node e vs) (One h) b alone (d, args, prefix, r, begin, split, inner) of =
      let k = form_at p.indexes e in
      let us = renamed_each (form_at p.indexes) vs in
      let m = boxed_is p.schema (number_at p.heads h) e d args prefix begin in
      let f = member_form h k of.0 in
      let declares = declared p good e k f.0 d refl f.1.there m.0.there in
      joined_long prefix r b 4 (fields_size (cells_of k) us) split (boxed_long p.schema (number_at p.heads h) e d args prefix begin)
      (by_cells k (length r) f.0 us f.1.there (all_size p good vs (first us) [] f.0.parts r (form_is_good k f.0 f.1.there) (its_fields p f.0 d args vs r m.1 declares inner) (its_values k f.0 us f.1.there of.1)))
  has_size p good (node e vs) (Bare j) b alone (d, args, prefix, r, begin, split, inner) of =
      let us = renamed_each (form_at p.indexes) vs in
      let m = bare_is p.schema (number_at p.indexes j) e d args prefix begin in
      let f = member_form alone.0 j alone.1 in
      let is : form_at p.indexes e ≡ j = ap (form_at p.indexes) (sym m.0) ∙ own_again p good j f.0 f.1.there in
      let declares = declared p good e j f.0 d is f.1.there m.1 in
      let fields = by_cells j (length r) f.0 us f.1.there (all_size p good vs (first us) [] f.0.parts r (form_is_good j f.0 f.1.there) (its_fields p f.0 d args vs r m.2 declares inner) (its_values j f.0 us f.1.there of.1)) in
      joined_long prefix r b 0 (fields_size (cells_of (form_at p.indexes e)) us) split (bare_long p.schema (number_at p.indexes j) e d args prefix begin) (fields ∙ ap (λ (k : ℕ). fields_size (cells_of k) us) (sym is))
  has_size p good (call e vs) Query b alone (d, r, is_call, fn, split, inner) of =
      let k = form_at p.indexes e in
      let us = renamed_each (form_at p.indexes) vs in
      let f = function_form k of.0 in
      let declares = declared p good e k f.0 d refl f.1 fn.there in
      joined_long (word d.number) r b 4 (fields_size (cells_of k) us) split refl
      (by_cells k (length r) f.0 us f.1 (all_size p good vs (first us) [] f.0.parts r (form_is_good k f.0 f.1) (its_fields p f.0 d no_shapes vs r refl declares inner) (its_values k f.0 us f.1 of.1)))
  has_size p good v c b alone s of = absurd of

  each_size : (p : ProfileView) (good : IsProfile p) (vs : ValueViews) (c : Cell) (b : List ℕ) → StandsAlone c → SpellEach p.schema (cell_shape p c) vs b → EachOf c (renamed_each (form_at p.indexes) vs) → length b ≡ sizes_of c (renamed_each (form_at p.indexes) vs)
  each_size p good no_values c b alone s of = ap length s
  each_size p good (value v vs) c b alone (x, y, split, s, more) of = joined_long x y b _ _ split (has_size p good v c x alone s of.0) (each_size p good vs c y alone more of.1)

  all_size : (p : ProfileView) (good : IsProfile p) (vs : ValueViews) (flags : ValueView) (before : List ValueView) (parts : List PartView) (b : List ℕ) → AreGood (cells parts) → SpellFields p.schema [] before (map (slot_of p) parts) vs b
      → AreOf flags (cells parts) (renamed_each (form_at p.indexes) vs) → length b ≡ fields_size (cells parts) (renamed_each (form_at p.indexes) vs)
  all_size p good no_values flags before [] b cells_good s of = ap length s
  all_size p good no_values flags before (part ∷ parts) b cells_good s of = absurd s
  all_size p good (value v vs) flags before [] b cells_good s of = absurd s
  all_size p good (value v vs) flags before (part ∷ parts) b cells_good (x, y, split, s, more) of =
      let here = field_long p flags before part.cell v x s of.0 (λ alone spelled is. has_size p good v part.cell x alone spelled is) (cells parts) cells_good in
      joined_long x y b _ _ split here.0 (all_size p good vs flags (before ++ v ∷ []) parts y here.1 more of.1)
