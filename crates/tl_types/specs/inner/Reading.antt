-- Reading from left to right, with the first fault that is met. This project's own.
use Rattle.std.specs.Prelude.{ℕ, zero, suc, ◌+◌, ◌-◌, ◌*◌, ◌^◌, List, [], ◌∷◌, ◌++◌, length, take, drop, get_or, Option, Some, None, Result, Ok, Err, ◌&&◌, Bool, true, false, nat_lt, nat_le, ◌==◌, if◌then◌else◌}
use Rattle.std.specs.Int.{w32, w64, from_le_bytes, cast_signed}
use Rattle.tl_numbers.specs.declared.numbers.TheConstants.{BOXED_VECTOR, PACKED}
use Rattle.tl_schema.specs.Types.{Shape, int, long, nat, opaque, str, raw, flag, call, vector, boxed, bare}
use Rattle.tl_schema.specs.Closing.{closed, list_of_shapes}
use Rattle.tl_schema.specs.Schemas.{Slot, Declaration}
use Rattle.tl_types.specs.Values.{ValueView, ValueViews, values_of, absent, truth}
use Rattle.tl_types.specs.Values as value
use Rattle.tl_types.specs.Texts.{missing}
use Rattle.tl_types.specs.Offsets.{moved}
use Rattle.tl_types.specs.Conditions.{stands_by}
use Rattle.tl_types.specs.declared.cause.Cause.{Cause}
use Rattle.tl_types.specs.declared.cause.Cause.TheVariants.{TooDeep, Truncated, Packed, UnknownNumber, BadCount, LongString, LooseString, BadPadding}

-- where reading stands: how many bytes were taken, and those that are left
pub record Spot : Type 0 where
  pub place : ℕ
  pub bytes : List ℕ

abbrev pub spot : ℕ → List ℕ → Spot
spot place bytes = record { place = place; bytes = bytes }

-- a place, and the cause that was met there
abbrev pub Fault : Type 0
Fault = ℕ × Cause

abbrev pub Read : Type 0 → Type 0
Read A = Result (A × Spot) Fault

infixl 10 ◌>>=◌
abbrev pub ◌>>=◌ : {A B : Type 0} → Result A Fault → (A → Result B Fault) → Result B Fault
(Ok x) >>= f = f x
(Err e) >>= f = Err e

-- the next n bytes; where the input ends inside, the fault is at the place
unfoldable pub exact_at : ℕ → ℕ → Spot → Read (List ℕ)
exact_at place n s =
    if nat_lt (length s.bytes) n
    then Err (place, Truncated)
    else Ok (take n s.bytes, record { place = moved s.place n; bytes = drop n s.bytes })

-- the next n bytes, after those before
abbrev pub added_at : List ℕ → ℕ → ℕ → Spot → Read (List ℕ)
added_at before place n s = exact_at place n s >>= λ x. Ok (before ++ x.0, x.1)

unfoldable pub word_at : Spot → Read ℕ
word_at s = do
  x ← exact_at s.place 4 s
  Ok (from_le_bytes w32 x.0, x.1)

unfoldable pub double_at : Spot → Read ℕ
double_at s = do
  x ← exact_at s.place 8 s
  Ok (from_le_bytes w64 x.0, x.1)

-- ---- a string

-- how many bytes its head has, and how many its text
abbrev pub Head : Type 0
Head = ℕ × ℕ

abbrev pub long_length : List ℕ → ℕ
long_length w = get_or w 1 0 + 256 * get_or w 2 0 + 65536 * get_or w 3 0

abbrev pub text_head_of : List ℕ → Result Head Cause
text_head_of w =
    if get_or w 0 0 == 255 then Err LongString
    else if get_or w 0 0 == 254 then (if nat_le (long_length w) 253 then Err LooseString else Ok (4, long_length w))
    else Ok (1, get_or w 0 0)

-- how many bytes come after the first four
abbrev pub text_more : Head → ℕ
text_more h = h.0 + h.1 + missing (h.0 + h.1) - 4

abbrev pub all_zero : List ℕ → Bool
all_zero [] = true
all_zero (x ∷ xs) = (x == 0) && all_zero xs

-- the text and the padding were taken
unfoldable pub text_end : ℕ → ℕ → List ℕ → Spot → Read (List ℕ)
text_end place n all s = if all_zero (drop n all) then Ok (take n all, s) else Err (place, BadPadding)

-- the first four bytes were taken
unfoldable pub text_rest : ℕ → List ℕ → Result Head Cause → Spot → Read (List ℕ)
text_rest place w (Err cause) s = Err (place, cause)
text_rest place w (Ok h) s = do
  all ← added_at (drop h.0 w) place (text_more h) s
  text_end place h.1 all.0 all.1

unfoldable pub text_at : Spot → Read (List ℕ)
text_at s = do
  w ← exact_at s.place 4 s
  text_rest s.place w.0 (text_head_of w.0) w.1

-- ---- declarations

-- the first declaration that passes the test, counted from i
abbrev pub first_from : (Declaration → Bool) → ℕ → List Declaration → Option ℕ
first_from test i [] = None
first_from test i (d ∷ ds) = if test d then Some i else first_from test (suc i) ds

-- a constructor of the type h with the number w
abbrev pub is_member : ℕ → ℕ → Declaration → Bool
is_member h w d = (d.head == h) && (d.number == w)

-- a function with the number w
abbrev pub is_function : ℕ → Declaration → Bool
is_function w d = d.function && (d.number == w)

-- the fields of declaration i
abbrev pub fields_in : List Declaration → ℕ → List Slot
fields_in [] i = []
fields_in (d ∷ ds) zero = d.fields
fields_in (d ∷ ds) (suc i) = fields_in ds i

-- ---- lists and records

abbrev pub Reader : Type 0
Reader = Spot → Read ValueView

abbrev pub at_field : (Shape → Reader) → List Shape → List ValueView → Slot → Reader
at_field f args before k s = if stands_by k.cond before then f (closed args k.of) s else Ok (absent, s)

unfoldable pub fields_at : (Shape → Reader) → List Shape → List ValueView → List Slot → Spot → Read (List ValueView)
fields_at f args before [] s = Ok (before, s)
fields_at f args before (k ∷ ks) s = do
  x ← at_field f args before k s
  fields_at f args (before ++ x.0 ∷ []) ks x.1

unfoldable pub each_at : Reader → ℕ → List ValueView → Spot → Read (List ValueView)
each_at f zero before s = Ok (before, s)
each_at f (suc k) before s = do
  x ← f s
  each_at f k (before ++ x.0 ∷ []) x.1

unfoldable pub elements_at : Reader → ℕ → ℕ → Spot → Read ValueView
elements_at f place k s =
    if nat_lt k (2 ^ 31)
    then (each_at f k [] s >>= λ x. Ok (value.list (values_of x.0), x.1))
    else Err (place, BadCount k)

unfoldable pub list_at : Reader → Spot → Read ValueView
list_at f s = do
  k ← word_at s
  elements_at f s.place k.0 k.1

-- a word in the place of a number
abbrev pub wrong_number : ℕ → Cause
wrong_number w = if w == PACKED then Packed else UnknownNumber w

unfoldable pub wide_at : Reader → ℕ → ℕ → Spot → Read ValueView
wide_at f place w s = if w == BOXED_VECTOR then list_at f s else Err (place, wrong_number w)

-- the fields of declaration i, seen as a record or a call
unfoldable pub record_at : (List Slot → Spot → Read (List ValueView)) → (ValueViews → ValueView) → List Slot → Reader
record_at f make ks s = do
  x ← f ks s
  Ok (make (values_of x.0), x.1)

unfoldable pub numbered_at : (List Slot → Spot → Read (List ValueView)) → (ℕ → ValueViews → ValueView) → List Declaration → ℕ → ℕ → Option ℕ → Reader
numbered_at f make ds place w None s = Err (place, wrong_number w)
numbered_at f make ds place w (Some i) s = record_at f (make i) (fields_in ds i) s

-- a boxed list
unfoldable pub long_list_at : Reader → Reader
long_list_at f s = do
  w ← word_at s
  wide_at f s.place w.0 w.1

-- a number of a declaration, and the fields of that declaration
unfoldable pub by_number_at : (List Slot → Spot → Read (List ValueView)) → (ℕ → ValueViews → ValueView) → List Declaration → (ℕ → Option ℕ) → Reader
by_number_at f make ds find s = do
  w ← word_at s
  numbered_at f make ds s.place w.0 (find w.0) w.1

abbrev pub boxed_at : List Declaration → (List Slot → Spot → Read (List ValueView)) → ℕ → Reader
boxed_at ds f h = by_number_at f value.node ds (λ w. first_from (is_member h w) 0 ds)

abbrev pub call_at : List Declaration → (List Slot → Spot → Read (List ValueView)) → Reader
call_at ds f = by_number_at f value.call ds (λ w. first_from (is_function w) 0 ds)

unfoldable pub bare_at : List Declaration → (List Slot → Spot → Read (List ValueView)) → ℕ → Reader
bare_at ds f i s = record_at f (value.node i) (fields_in ds i) s

-- ---- values

-- a type whose values have no parts
unfoldable pub plain_at : Shape → Reader
plain_at int s = word_at s >>= λ w. Ok (value.int (cast_signed w32 w.0), w.1)
plain_at long s = double_at s >>= λ w. Ok (value.long (cast_signed w64 w.0), w.1)
plain_at nat s = word_at s >>= λ w. Ok (value.nat w.0, w.1)
plain_at (opaque k) s = exact_at s.place k s >>= λ x. Ok (value.opaque x.0, x.1)
plain_at str s = text_at s >>= λ x. Ok (value.text x.0, x.1)
plain_at raw s = text_at s >>= λ x. Ok (value.text x.0, x.1)
plain_at flag s = Ok (truth, s)
plain_at T s = Ok (absent, s)

-- a list, a record or a call, whose parts f reads
unfoldable pub deep_at : List Declaration → (Shape → Reader) → Shape → Reader
deep_at ds f (vector true T) = long_list_at (f T)
deep_at ds f (vector false T) = list_at (f T)
deep_at ds f (boxed h args) = boxed_at ds (fields_at f (list_of_shapes args) []) h
deep_at ds f (bare i args) = bare_at ds (fields_at f (list_of_shapes args) []) i
deep_at ds f call = call_at ds (fields_at f [] [])
deep_at ds f T = plain_at T

abbrev pub is_deep : Shape → Bool
is_deep (vector wide T) = true
is_deep (boxed h args) = true
is_deep (bare i args) = true
is_deep call = true
is_deep T = false

-- with n levels left
unfoldable pub value_at : List Declaration → ℕ → Shape → Reader
value_at ds zero T s = if is_deep T then Err (s.place, TooDeep) else plain_at T s
value_at ds (suc n) T s = if is_deep T then deep_at ds (value_at ds n) T s else plain_at T s
