-- Numbers of forms, put in place of a schema's and back.
use Rattle.std.proofs.Common.{◌≡◌, ℕ, List, [], ◌∷◌, Bool, true, false, refl, sym, ap, ap₂, subst}
use Rattle.tl_types.specs.Values.{ValueView, int, long, nat, opaque, text, truth, absent, list, node, call, ValueViews, no_values, value}
use Rattle.wire_forms.specs.declared.form.Cell.{Cell}
use Rattle.wire_forms.specs.declared.form.Cell.TheVariants.{Whole, Signed, Long, Body, Key, Ids, Bodies, Flags, Final, Many, One, Bare, ManyBare, Query}
use Rattle.wire_forms.specs.Forms.{FormView, cells_of}
use Rattle.wire_forms.specs.Parts.{first, flag, is_final}
use Rattle.wire_forms.specs.IsOf.{IsField, IsOf, EachOf, AreOf}
use Rattle.wire_profile.specs.Renaming.{renamed, renamed_each}
use Rattle.wire_profile.specs.SpelledForms.{StandsAlone}
use Rattle.wire_profile.proofs.FormTable.{IsFormAt, AreGood, form_is_good, member_form, function_form, cells_are}
use Rattle.wire_profile.proofs.OwnValues.{cells}

-- n is the number of a form
abbrev pub IsNumber : ℕ → Type 0
IsNumber n = (f : FormView) × IsFormAt n f

abbrev mutual
  -- each record and call in it has the number of a form
  pub HasForms : ValueView → Type 0
  HasForms (list vs) = HaveForms vs
  HasForms (node k vs) = IsNumber k × HaveForms vs
  HasForms (call k vs) = IsNumber k × HaveForms vs
  HasForms v = Unit {0}

  pub HaveForms : ValueViews → Type 0
  HaveForms no_values = Unit {0}
  HaveForms (value v vs) = HasForms v × HaveForms vs

mutual
  pub renamed_back : (f g : ℕ → ℕ) (t : ValueView) → ((k : ℕ) → IsNumber k → g (f k) ≡ k) → HasForms t → renamed g (renamed f t) ≡ t
  renamed_back f g (int z) back has = refl
  renamed_back f g (long z) back has = refl
  renamed_back f g (nat n) back has = refl
  renamed_back f g (opaque x) back has = refl
  renamed_back f g (text x) back has = refl
  renamed_back f g truth back has = refl
  renamed_back f g absent back has = refl
  renamed_back f g (list vs) back has = ap list (each_back f g vs back has)
  renamed_back f g (node k vs) back has = ap₂ node (back k has.0) (each_back f g vs back has.1)
  renamed_back f g (call k vs) back has = ap₂ call (back k has.0) (each_back f g vs back has.1)

  each_back : (f g : ℕ → ℕ) (ts : ValueViews) → ((k : ℕ) → IsNumber k → g (f k) ≡ k) → HaveForms ts → renamed_each g (renamed_each f ts) ≡ ts
  each_back f g no_values back has = refl
  each_back f g (value v vs) back has = ap₂ value (renamed_back f g v back has.0) (each_back f g vs back has.1)

mutual
  pub renamed_again : (f g : ℕ → ℕ) (v : ValueView) → ((e : ℕ) → IsNumber (f e) → g (f e) ≡ e) → HasForms (renamed f v) → renamed g (renamed f v) ≡ v
  renamed_again f g (int z) back has = refl
  renamed_again f g (long z) back has = refl
  renamed_again f g (nat n) back has = refl
  renamed_again f g (opaque x) back has = refl
  renamed_again f g (text x) back has = refl
  renamed_again f g truth back has = refl
  renamed_again f g absent back has = refl
  renamed_again f g (list vs) back has = ap list (each_again f g vs back has)
  renamed_again f g (node e vs) back has = ap₂ node (back e has.0) (each_again f g vs back has.1)
  renamed_again f g (call e vs) back has = ap₂ call (back e has.0) (each_again f g vs back has.1)

  each_again : (f g : ℕ → ℕ) (vs : ValueViews) → ((e : ℕ) → IsNumber (f e) → g (f e) ≡ e) → HaveForms (renamed_each f vs) → renamed_each g (renamed_each f vs) ≡ vs
  each_again f g no_values back has = refl
  each_again f g (value v vs) back has = ap₂ value (renamed_again f g v back has.0) (each_again f g vs back has.1)

-- ---- the values of a cell

flag_has : (b : Bool) (t : ValueView) → t ≡ flag b → HasForms t
flag_has true t e = subst HasForms (sym e) tt
flag_has false t e = subst HasForms (sym e) tt

field_has : (flags : ValueView) (c : Cell) (t : ValueView) → IsField flags c t (IsOf c t) → (StandsAlone c → IsOf c t → HasForms t) → (cs : List Cell) → AreGood (c ∷ cs) → HasForms t × AreGood cs
field_has flags Final t is law cs good = (flag_has (is_final flags) t is, good)
field_has flags Whole t is law cs good = (law good.0 is, good.1)
field_has flags Signed t is law cs good = (law good.0 is, good.1)
field_has flags Long t is law cs good = (law good.0 is, good.1)
field_has flags Body t is law cs good = (law good.0 is, good.1)
field_has flags Key t is law cs good = (law good.0 is, good.1)
field_has flags Ids t is law cs good = (law good.0 is, good.1)
field_has flags Bodies t is law cs good = (law good.0 is, good.1)
field_has flags Flags t is law cs good = (law good.0 is, good.1)
field_has flags (Many h) t is law cs good = (law good.0 is, good.1)
field_has flags (One h) t is law cs good = (law good.0 is, good.1)
field_has flags (Bare j) t is law cs good = (law good.0 is, good.1)
field_has flags (ManyBare j) t is law cs good = (law good.0 is, good.1)
field_has flags Query t is law cs good = (law good.0 is, good.1)

its_cells : (k : ℕ) (f : FormView) (vs : ValueViews) → IsFormAt k f → AreOf (first vs) (cells_of k) vs → AreOf (first vs) (cells f.parts) vs
its_cells k f vs form s = subst (λ (cs : List Cell). AreOf (first vs) cs vs) (cells_are k f form) s

mutual
  pub has_forms : (t : ValueView) (c : Cell) → StandsAlone c → IsOf c t → HasForms t
  has_forms (int z) c alone s = tt
  has_forms (long z) c alone s = tt
  has_forms (nat n) c alone s = tt
  has_forms (opaque x) c alone s = tt
  has_forms (text x) c alone s = tt
  has_forms truth c alone s = tt
  has_forms absent c alone s = tt
  has_forms (list vs) Ids alone s = each_has vs Signed tt s.1
  has_forms (list vs) Bodies alone s = each_has vs Body tt s.1
  has_forms (list vs) (Many h) alone s = each_has vs (One h) tt s.1
  has_forms (list vs) (ManyBare j) alone s = each_has vs (Bare j) alone s.1
  has_forms (node k vs) (One h) alone s =
      let f = member_form h k s.0 in
      ((f.0, f.1.there), fields_have (first vs) vs (cells f.0.parts) (form_is_good k f.0 f.1.there) (its_cells k f.0 vs f.1.there s.1))
  has_forms (node k vs) (Bare j) alone s =
      let f = member_form alone.0 j alone.1 in
      (subst IsNumber (sym s.0) (f.0, f.1.there), fields_have (first vs) vs (cells f.0.parts) (form_is_good j f.0 f.1.there) (its_cells j f.0 vs f.1.there s.1))
  has_forms (call k vs) Query alone s =
      let f = function_form k s.0 in
      ((f.0, f.1), fields_have (first vs) vs (cells f.0.parts) (form_is_good k f.0 f.1) (its_cells k f.0 vs f.1 s.1))
  has_forms t c alone s = absurd s

  each_has : (ts : ValueViews) (c : Cell) → StandsAlone c → EachOf c ts → HaveForms ts
  each_has no_values c alone s = tt
  each_has (value v vs) c alone s = (has_forms v c alone s.0, each_has vs c alone s.1)

  fields_have : (flags : ValueView) (ts : ValueViews) (cs : List Cell) → AreGood cs → AreOf flags cs ts → HaveForms ts
  fields_have flags no_values cs good s = tt
  fields_have flags (value v vs) [] good s = absurd s
  fields_have flags (value v vs) (c ∷ cs) good s =
      let here = field_has flags c v s.0 (λ alone of. has_forms v c alone of) cs good in
      (here.0, fields_have flags vs cs here.1 s.1)
