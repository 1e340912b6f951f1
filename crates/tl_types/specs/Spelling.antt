-- Which bytes spell a value of a closed type.
-- From "Binary data serialization" (core.telegram.org/mtproto/serialize).
use Rattle.std.specs.Prelude.{◌≡◌, ◌⊎◌, ℕ, ◌<◌, ◌^◌, List, [], ◌∷◌, ◌++◌, length, Some, slice_get, Bool, true, false}
use Rattle.std.specs.Int.{w32, w64, cast_signed}
use Rattle.tl_numbers.specs.Numbers.{word, double_word}
use Rattle.tl_numbers.specs.declared.numbers.TheConstants.{BOXED_VECTOR}
use Rattle.tl_schema.specs.Types.{Shape, Shapes}
use Rattle.tl_schema.specs.Types as type
use Rattle.tl_schema.specs.Closing.{closed, list_of_shapes}
use Rattle.tl_schema.specs.Schemas.{Slot, Declaration, Declared}
use Rattle.tl_schema.specs.Formed.{IsMember, IsFunction}
use Rattle.tl_types.specs.Values.{ValueView, int, long, nat, opaque, text, truth, absent, list, node, call, ValueViews, no_values, value, count}
use Rattle.tl_types.specs.Texts.{text_bytes}
use Rattle.tl_types.specs.Conditions.{stands_by}

-- what comes before the fields of a record of declaration i, which is d, and the arguments of its type: of a boxed type the number of one of its
-- constructors, of a bare constructor nothing
pub data Begins (schema : Declared) (T : Shape) (i : ℕ) (d : Declaration) (args : Shapes) (prefix : List ℕ) : Type 0 where
  boxed : (h : ℕ) → T ≡ type.boxed h args → IsMember schema h i d → prefix ≡ word d.number → Begins schema T i d args prefix
  bare : T ≡ type.bare i args → slice_get schema.decls i ≡ Some d → prefix ≡ [] → Begins schema T i d args prefix

-- what comes before the count of a vector: its number where it is boxed
abbrev pub vector_prefix : Bool → List ℕ
vector_prefix true = word BOXED_VECTOR
vector_prefix false = []

abbrev mutual
  -- the bytes b spell the value, of the type T
  pub Spells : Declared → Shape → ValueView → List ℕ → Type 0
  Spells schema T (int z) b = (T ≡ type.int) × (n : ℕ) × (n < 2 ^ 32) × (z ≡ cast_signed w32 n) × (b ≡ word n)
  Spells schema T (long z) b = (T ≡ type.long) × (n : ℕ) × (n < 2 ^ 64) × (z ≡ cast_signed w64 n) × (b ≡ double_word n)
  Spells schema T (nat n) b = (T ≡ type.nat) × (n < 2 ^ 32) × (b ≡ word n)
  Spells schema T (opaque s) b = (T ≡ type.opaque (length s)) × (b ≡ s)
  Spells schema T (text s) b = ((T ≡ type.str) ⊎ (T ≡ type.raw)) × (length s < 2 ^ 24) × (b ≡ text_bytes s)
  Spells schema T truth b = (T ≡ type.flag) × (b ≡ [])
  Spells schema T absent b = ⊥
  Spells schema T (list vs) b =
      (is_boxed : Bool) × (item : Shape) × (rest : List ℕ) × (T ≡ type.vector is_boxed item) × (count vs < 2 ^ 31)
      × (b ≡ vector_prefix is_boxed ++ word (count vs) ++ rest) × SpellEach schema item vs rest
  Spells schema T (node i vs) b =
      (d : Declaration) × (args : Shapes) × (prefix : List ℕ) × (rest : List ℕ) × Begins schema T i d args prefix
      × (b ≡ prefix ++ rest) × SpellFields schema (list_of_shapes args) [] d.fields vs rest
  Spells schema T (call i vs) b =
      (d : Declaration) × (rest : List ℕ) × (T ≡ type.call) × IsFunction schema i d
      × (b ≡ word d.number ++ rest) × SpellFields schema [] [] d.fields vs rest

  -- the elements of a vector, one after the other
  pub SpellEach : Declared → Shape → ValueViews → List ℕ → Type 0
  SpellEach schema T no_values b = b ≡ []
  SpellEach schema T (value v vs) b = (x : List ℕ) × (y : List ℕ) × (b ≡ x ++ y) × Spells schema T v x × SpellEach schema T vs y

  -- the fields of a record, one after the other, after fields with the values before; one that isn't there has no bytes
  pub SpellFields : Declared → List Shape → List ValueView → List Slot → ValueViews → List ℕ → Type 0
  SpellFields schema args before [] no_values b = b ≡ []
  SpellFields schema args before (f ∷ fs) (value v vs) b =
      (x : List ℕ) × (y : List ℕ) × (b ≡ x ++ y)
      × (((stands_by f.cond before ≡ true) × Spells schema (closed args f.of) v x) ⊎ ((stands_by f.cond before ≡ false) × (v ≡ absent) × (x ≡ [])))
      × SpellFields schema args (before ++ v ∷ []) fs vs y
  SpellFields schema args before [] (value v vs) b = ⊥
  SpellFields schema args before (f ∷ fs) no_values b = ⊥

-- one field's spelling
abbrev pub SpellsField : Declared → List Shape → List ValueView → Slot → ValueView → List ℕ → Type 0
SpellsField schema args before f v x = ((stands_by f.cond before ≡ true) × Spells schema (closed args f.of) v x) ⊎ ((stands_by f.cond before ≡ false) × (v ≡ absent) × (x ≡ []))
