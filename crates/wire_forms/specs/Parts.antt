-- What stands in a value, and where something else stands a default. This project's own.
use Rattle.std.specs.Prelude.{ℕ, zero, suc, ◌^◌, ◌-◌, ℤ, pos, List, [], ◌∷◌, min, nat_lt, Bool, if◌then◌else◌}
use Rattle.std.specs.Int.{w32, cast_signed, cast_unsigned}
use Rattle.tl_types.specs.Values.{ValueView, int, long, text, truth, absent, list, node, call, ValueViews, no_values, value}
use Rattle.tl_types.specs.Conditions.{is_bit, bits_of}
use Rattle.wire_forms.specs.declared.numbers.TheConstants.{NO_FORM}

-- the first part; none is absent
abbrev pub first : ValueViews → ValueView
first no_values = absent
first (value v vs) = v

-- the parts after the first
abbrev pub rest : ValueViews → ValueViews
rest no_values = no_values
rest (value v vs) = vs

-- the part at an index
abbrev pub at : ℕ → ValueViews → ValueView
at zero vs = first vs
at (suc i) vs = at i (rest vs)

-- the elements of a list, the fields of a record or call
abbrev pub parts_of : ValueView → ValueViews
parts_of (list vs) = vs
parts_of (node k vs) = vs
parts_of (call k vs) = vs
parts_of v = no_values

-- the number of the form of a record or call
abbrev pub entry_of : ValueView → ℕ
entry_of (node k vs) = k
entry_of (call k vs) = k
entry_of v = NO_FORM

-- the bytes of a string or of bytes
abbrev pub text_of : ValueView → List ℕ
text_of (text s) = s
text_of v = []

-- an int
abbrev pub int_of : ValueView → ℤ
int_of (int z) = z
int_of v = pos 0

-- a long
abbrev pub long_of : ValueView → ℤ
long_of (long z) = z
long_of v = pos 0

-- an int's 32 bits, read without a sign
abbrev pub word_of : ValueView → ℕ
word_of v = cast_unsigned w32 (int_of v)

-- a number of 32 bits, read with a sign; a greater one stays, so that no two are one
abbrev pub as_int : ℕ → ℤ
as_int n = if nat_lt n (2 ^ 32) then cast_signed w32 n else pos n

-- a number as an int
abbrev pub number : ℕ → ValueView
number n = int (as_int n)

-- a flag that is there, or isn't
abbrev pub flag : Bool → ValueView
flag is_set = if is_set then truth else absent

-- bit 0 of the flags
abbrev pub is_final : ValueView → Bool
is_final v = is_bit (bits_of v) 0

-- what each element gives
abbrev pub each : {A : Type 0} → (ValueView → A) → ValueViews → List A
each f no_values = []
each f (value v vs) = f v ∷ each f vs

-- an element for each
abbrev pub row : {A : Type 0} → (A → ValueView) → List A → ValueViews
row f [] = no_values
row f (x ∷ xs) = value (f x) (row f xs)

-- a count, as far as 32 bits hold it
abbrev pub held : ℕ → ℕ
held n = min n (2 ^ 32 - 1)
