-- Which values are those of a form's fields, and of the types: those that have a spelling. This project's own.
use Rattle.std.specs.Prelude.{◌≡◌, ℕ, ◌<◌, ◌^◌, ℤ, List, [], ◌∷◌, length, IsTrue}
use Rattle.std.specs.Int.{w32, w64, cast_signed}
use Rattle.tl_types.specs.Values.{ValueView, int, long, nat, text, list, node, call, ValueViews, no_values, value, count}
use Rattle.wire_forms.specs.declared.form.Cell.{Cell}
use Rattle.wire_forms.specs.declared.form.Cell.TheVariants.{Whole, Signed, Long, Body, Key, Ids, Bodies, Flags, Final, Many, One, Bare, ManyBare, Query}
use Rattle.wire_forms.specs.Forms.{cells_of, constructs, is_function}
use Rattle.wire_forms.specs.Parts.{first, flag, is_final}

-- a number of 32 bits with a sign
abbrev pub IsInt : ℤ → Type 0
IsInt z = (n : ℕ) × (n < 2 ^ 32) × (z ≡ cast_signed w32 n)

-- a number of 64 bits with a sign
abbrev pub IsLong : ℤ → Type 0
IsLong z = (n : ℕ) × (n < 2 ^ 64) × (z ≡ cast_signed w64 n)

-- a string, or bytes
abbrev pub IsText : List ℕ → Type 0
IsText s = length s < 2 ^ 24

-- the elements of a vector
abbrev pub IsShort : ValueViews → Type 0
IsShort vs = count vs < 2 ^ 31

-- a field's value: the final flag is there exactly where its bit is set, another field's value is what the cell says
abbrev pub IsField : ValueView → Cell → ValueView → Type 0 → Type 0
IsField flags Final v is = v ≡ flag (is_final flags)
IsField flags c v is = is

abbrev mutual
  -- The value is one of the cell's: at `One` a value of the type, at `Bare` a record of the form, at `Query` a call.
  pub IsOf : Cell → ValueView → Type 0
  IsOf Whole (int z) = IsInt z
  IsOf Signed (int z) = IsInt z
  IsOf Long (long z) = IsLong z
  IsOf Body (text s) = IsText s
  IsOf Key (text s) = IsText s
  IsOf Ids (list vs) = IsShort vs × EachOf Signed vs
  IsOf Bodies (list vs) = IsShort vs × EachOf Body vs
  IsOf Flags (nat n) = n < 2 ^ 32
  IsOf (Many h) (list vs) = IsShort vs × EachOf (One h) vs
  IsOf (One h) (node k vs) = IsTrue (constructs h k) × AreOf (first vs) (cells_of k) vs
  IsOf (Bare j) (node k vs) = (k ≡ j) × AreOf (first vs) (cells_of j) vs
  IsOf (ManyBare j) (list vs) = IsShort vs × EachOf (Bare j) vs
  IsOf Query (call k vs) = IsTrue (is_function k) × AreOf (first vs) (cells_of k) vs
  IsOf c v = ⊥

  -- each element is one of the cell's
  pub EachOf : Cell → ValueViews → Type 0
  EachOf c no_values = Unit {0}
  EachOf c (value v vs) = IsOf c v × EachOf c vs

  -- the values are those of the cells, in order; the flags are the first field
  pub AreOf : ValueView → List Cell → ValueViews → Type 0
  AreOf flags [] no_values = Unit {0}
  AreOf flags (c ∷ cs) (value v vs) = IsField flags c v (IsOf c v) × AreOf flags cs vs
  AreOf flags [] (value v vs) = ⊥
  AreOf flags (c ∷ cs) no_values = ⊥
