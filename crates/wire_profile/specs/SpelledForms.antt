-- What the values of a profile's schema are as values of forms: with the forms' numbers in place of the schema's. This project's own.
use Rattle.std.specs.Prelude.{◌≡◌, ℕ, List, [], ◌∷◌, IsTrue}
use Rattle.tl_types.specs.Values.{ValueView, call, ValueViews, no_values, value}
use Rattle.tl_types.specs.Spelling.{Spells}
use Rattle.wire_forms.specs.declared.form.Cell.{Cell}
use Rattle.wire_forms.specs.declared.form.Cell.TheVariants.{Final, Bare, ManyBare, Query}
use Rattle.wire_forms.specs.Forms.{cells_of, constructs, is_function}
use Rattle.wire_forms.specs.IsOf.{IsOf}
use Rattle.wire_profile.specs.Indexes.{ProfileView, cell_shape, form_at, number_at}
use Rattle.wire_profile.specs.Profiles.{IsProfile}
use Rattle.wire_profile.specs.Renaming.{renamed}

-- the value with each declaration's form in place of its index
abbrev pub owned : ProfileView → ValueView → ValueView
owned p v = renamed (form_at p.indexes) v

-- the value with the index of each form's declaration in place of its number
abbrev pub placed : ProfileView → ValueView → ValueView
placed p t = renamed (number_at p.indexes) t

abbrev mutual
  -- each call in it is of a function of the forms
  pub IsServed : Cell → ValueView → Type 0
  IsServed Query (call k vs) = IsTrue (is_function k) × AreServed (cells_of k) vs
  IsServed c v = Unit {0}

  pub AreServed : List Cell → ValueViews → Type 0
  AreServed [] vs = Unit {0}
  AreServed (c ∷ cs) no_values = Unit {0}
  AreServed (c ∷ cs) (value v vs) = IsServed c v × AreServed cs vs

-- a cell that has values by itself: no flag, and of a form alone where this is a constructor
abbrev pub StandsAlone : Cell → Type 0
StandsAlone Final = ⊥
StandsAlone (Bare j) = (h : ℕ) × IsTrue (constructs h j)
StandsAlone (ManyBare j) = (h : ℕ) × IsTrue (constructs h j)
StandsAlone c = Unit {0}

-- Bytes spell just the cell's values, with the schema's numbers in them; of calls those of the forms' functions.
pub record SpellsForms (p : ProfileView) (c : Cell) : Type 0 where
  pub only : (v : ValueView) (b : List ℕ) → Spells p.schema (cell_shape p c) v b → IsServed c (owned p v) → IsOf c (owned p v)
  pub from : (v : ValueView) (b : List ℕ) → Spells p.schema (cell_shape p c) v b → IsServed c (owned p v) → placed p (owned p v) ≡ v
  pub each : (t : ValueView) → IsOf c t → (b : List ℕ) × Spells p.schema (cell_shape p c) (placed p t) b
  pub back : (t : ValueView) → IsOf c t → owned p (placed p t) ≡ t

-- in each profile, at each cell
abbrev pub FormsAreSpelled : Type 0
FormsAreSpelled = (p : ProfileView) → IsProfile p → (c : Cell) → StandsAlone c → SpellsForms p c
