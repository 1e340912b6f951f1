-- Values whose texts are bytes are spelled by bytes.
use Rattle.std.proofs.Common.{◌≡◌, ℕ, zero, suc, ◌+◌, ◌/◌, ◌%◌, ◌<◌, ◌^◌, List, [], ◌∷◌, ◌++◌, length, replicate, Bool, true, false, refl, sym, subst, inl, inr, arith}
use Rattle.std.proofs.lemmas.Bool.{leb-true}
use Rattle.std.specs.Prelude.{⊤, nat_le, if◌then◌else◌}
use Rattle.tl_numbers.specs.Bytes.{AreBytes}
use Rattle.tl_numbers.specs.Numbers.{word, double_word}
use Rattle.tl_numbers.specs.declared.numbers.TheConstants.{BOXED_VECTOR}
use Rattle.tl_numbers.proofs.Spelled.{words, double_words}
use Rattle.tl_schema.specs.Types.{Shape, Shapes}
use Rattle.tl_schema.specs.Schemas.{Slot, Declaration, Declared}
use Rattle.tl_types.specs.Values.{ValueView, int, long, nat, opaque, text, truth, absent, list, node, call, ValueViews, no_values, value, count}
use Rattle.tl_types.specs.Texts.{missing, text_bytes, text_head, three_bytes}
use Rattle.tl_types.specs.Spelling.{Begins, boxed, bare, vector_prefix, Spells, SpellEach, SpellFields}
use Rattle.session_commands.proofs.JsonBytes.{no_bytes, one_more_byte, bytes_joined}

-- the texts in a value are of bytes
abbrev mutual
  pub ValueHolds : ValueView → Type 0
  ValueHolds (opaque s) = AreBytes s
  ValueHolds (text s) = AreBytes s
  ValueHolds (list vs) = ValuesHold vs
  ValueHolds (node i vs) = ValuesHold vs
  ValueHolds (call i vs) = ValuesHold vs
  ValueHolds (int z) = ⊤
  ValueHolds (long z) = ⊤
  ValueHolds (nat n) = ⊤
  ValueHolds truth = ⊤
  ValueHolds absent = ⊤

  pub ValuesHold : ValueViews → Type 0
  ValuesHold no_values = ⊤
  ValuesHold (value v vs) = ValueHolds v × ValuesHold vs

are_so : (x y : List ℕ) → x ≡ y → AreBytes y → AreBytes x
are_so x y is are = subst AreBytes (sym is) are

zeros : (n : ℕ) → AreBytes (replicate n 0)
zeros zero = no_bytes
zeros (suc n) = one_more_byte 0 (replicate n 0) (omega arith) (zeros n)

three : (n : ℕ) → n < 2 ^ 24 → AreBytes (three_bytes n)
three n few =
    let last : AreBytes (n / 65536 ∷ []) = one_more_byte (n / 65536) [] (omega (arith, few)) no_bytes in
    let both : AreBytes ((n / 256) % 256 ∷ n / 65536 ∷ []) = one_more_byte ((n / 256) % 256) (n / 65536 ∷ []) (omega arith) last in
    one_more_byte (n % 256) ((n / 256) % 256 ∷ n / 65536 ∷ []) (omega arith) both

either_head : (n : ℕ) → n < 2 ^ 24 → (b : Bool) → nat_le n 253 ≡ b → AreBytes (if b then n ∷ [] else 254 ∷ three_bytes n)
either_head n few true is = one_more_byte n [] (omega (arith, leb-true n 253 is)) no_bytes
either_head n few false is = one_more_byte 254 (three_bytes n) (omega arith) (three n few)

text_are : (s : List ℕ) → length s < 2 ^ 24 → AreBytes s → AreBytes (text_bytes s)
text_are s few are =
    let n : ℕ = length s in
    let front : AreBytes (text_head n) = either_head n few (nat_le n 253) refl in
    bytes_joined (text_head n ++ s) (replicate (missing (length (text_head n) + n)) 0) (bytes_joined (text_head n) s front are) (zeros (missing (length (text_head n) + n)))

prefix_are : (is_boxed : Bool) → AreBytes (vector_prefix is_boxed)
prefix_are true = words.bytes BOXED_VECTOR
prefix_are false = no_bytes

module _ (schema : Declared) where
  begin_are : (T : Shape) (i : ℕ) (d : Declaration) (args : Shapes) (prefix : List ℕ) → Begins schema T i d args prefix → AreBytes prefix
  begin_are T i d args prefix (boxed h kind member is) = are_so prefix (word d.number) is (words.bytes d.number)
  begin_are T i d args prefix (bare kind there is) = are_so prefix [] is no_bytes

  mutual
    pub spelled_are : (v : ValueView) (T : Shape) (b : List ℕ) → Spells schema T v b → ValueHolds v → AreBytes b
    spelled_are (int z) T b (kind, n, few, same, is) h = are_so b (word n) is (words.bytes n)
    spelled_are (long z) T b (kind, n, few, same, is) h = are_so b (double_word n) is (double_words.bytes n)
    spelled_are (nat n) T b (kind, few, is) h = are_so b (word n) is (words.bytes n)
    spelled_are (opaque s) T b (kind, is) h = are_so b s is h
    spelled_are (text s) T b (kind, few, is) h = are_so b (text_bytes s) is (text_are s few h)
    spelled_are truth T b (kind, is) h = are_so b [] is no_bytes
    spelled_are absent T b none h = absurd none
    spelled_are (list vs) T b (is_boxed, item, rest, kind, few, is, each) h =
        let front = bytes_joined (vector_prefix is_boxed) (word (count vs)) (prefix_are is_boxed) (words.bytes (count vs)) in
        are_so b (vector_prefix is_boxed ++ word (count vs) ++ rest) is (bytes_joined (vector_prefix is_boxed ++ word (count vs)) rest front (each_are vs item rest each h))
    spelled_are (node i vs) T b (d, args, prefix, rest, begins, is, fields) h =
        are_so b (prefix ++ rest) is (bytes_joined prefix rest (begin_are T i d args prefix begins) (fields_are vs _ [] d.fields rest fields h))
    spelled_are (call i vs) T b (d, rest, kind, function, is, fields) h =
        are_so b (word d.number ++ rest) is (bytes_joined (word d.number) rest (words.bytes d.number) (fields_are vs [] [] d.fields rest fields h))

    each_are : (vs : ValueViews) (T : Shape) (b : List ℕ) → SpellEach schema T vs b → ValuesHold vs → AreBytes b
    each_are no_values T b is h = are_so b [] is no_bytes
    each_are (value v vs) T b (x, y, is, first, rest) h = are_so b (x ++ y) is (bytes_joined x y (spelled_are v T x first h.0) (each_are vs T y rest h.1))

    fields_are : (vs : ValueViews) (args : List Shape) (before : List ValueView) (fs : List Slot) (b : List ℕ) → SpellFields schema args before fs vs b → ValuesHold vs → AreBytes b
    fields_are no_values args before [] b is h = are_so b [] is no_bytes
    fields_are no_values args before (f ∷ fs) b none h = absurd none
    fields_are (value v vs) args before [] b none h = absurd none
    fields_are (value v vs) args before (f ∷ fs) b (x, y, is, inl (set, first), rest) h =
        are_so b (x ++ y) is (bytes_joined x y (spelled_are v _ x first h.0) (fields_are vs args (before ++ v ∷ []) fs y rest h.1))
    fields_are (value v vs) args before (f ∷ fs) b (x, y, is, inr (clear, gone, none), rest) h =
        are_so b (x ++ y) is (bytes_joined x y (are_so x [] none no_bytes) (fields_are vs args (before ++ v ∷ []) fs y rest h.1))
