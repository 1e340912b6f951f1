-- What spells a value is its spelling.
use Rattle.std.proofs.Common.{◌≡◌, ℕ, ◌<◌, ◌^◌, ℤ, List, [], ◌∷◌, ◌++◌, append-nil, sym, ap, ap₂, ◌∙◌, inl, inr}
use Rattle.std.specs.Prelude.{slice_get, Option, Some}
use Rattle.std.proofs.lemmas.Int.{of_z-to_z}
use Rattle.std.specs.Int.{w32, w64, cast_signed, cast_unsigned}
use Rattle.tl_numbers.specs.Numbers.{word, double_word}
use Rattle.tl_schema.specs.Types.{Shape}
use Rattle.tl_schema.specs.Closing.{closed, list_of_shapes}
use Rattle.tl_schema.specs.Schemas.{Slot, Declaration, Declared}
use Rattle.tl_types.specs.Values.{ValueView, int, long, nat, opaque, text, truth, absent, list, node, call, ValueViews, no_values, value, count}
use Rattle.tl_types.specs.Parts.{arguments_of, fields_in, item_of}
use Rattle.tl_types.specs.Spelling.{boxed, bare, vector_prefix, Spells, SpellEach, SpellFields}
use Rattle.tl_encode.specs.inner.Bytes.{list_prefix, number_bytes, record_prefix, spelling, spelling_each, spelling_fields}

module _ (schema : Declared) where
  abbrev ds : List Declaration
  ds = schema.decls

  one_word : (n : ℕ) (z : ℤ) → n < 2 ^ 32 → z ≡ cast_signed w32 n → word n ≡ word (cast_unsigned w32 z) ++ []
  one_word n z few is = sym (append-nil _ ∙ ap word (ap (cast_unsigned w32) is ∙ of_z-to_z w32 n few))

  one_double : (n : ℕ) (z : ℤ) → n < 2 ^ 64 → z ≡ cast_signed w64 n → double_word n ≡ double_word (cast_unsigned w64 z) ++ []
  one_double n z few is = sym (append-nil _ ∙ ap double_word (ap (cast_unsigned w64) is ∙ of_z-to_z w64 n few))

  glued : (b x y u z : List ℕ) → b ≡ x ++ y → x ≡ u → y ≡ z → b ≡ u ++ z
  glued b x y u z split first rest = split ∙ ap₂ (λ (s t : List ℕ). s ++ t) first rest

  fields_of : (T : Shape) (i : ℕ) (d : Declaration) (args : List Shape) (vs : ValueViews) → arguments_of T ≡ args → slice_get ds i ≡ Some d
      → spelling_fields ds args d.fields vs ≡ spelling_fields ds (arguments_of T) (fields_in (slice_get ds i)) vs
  fields_of T i d args vs same there = sym (ap₂ (λ (us : List Shape) (o : Option Declaration). spelling_fields ds us (fields_in o) vs) same there)

  mutual
    pub spelling_is : (v : ValueView) (T : Shape) (b : List ℕ) → Spells schema T v b → b ≡ spelling ds T v
    spelling_is (int z) T b (t, n, few, is, at) = at ∙ one_word n z few is
    spelling_is (long z) T b (t, n, few, is, at) = at ∙ one_double n z few is
    spelling_is (nat n) T b s = s.2 ∙ sym (append-nil (word n))
    spelling_is (opaque bytes) T b s = s.1 ∙ sym (append-nil bytes)
    spelling_is (text bytes) T b s = s.2 ∙ sym (append-nil _)
    spelling_is truth T b s = s.1
    spelling_is absent T b s = absurd s
    spelling_is (list vs) T b (w, item, rest, is, few, split, each) =
        glued b (vector_prefix w ++ word (count vs)) rest (list_prefix T ++ word (count vs)) (spelling_each ds (item_of T) vs) split
        (sym (ap (λ (U : Shape). list_prefix U ++ word (count vs)) is)) (each_is vs item rest each ∙ sym (ap (λ (U : Shape). spelling_each ds (item_of U) vs) is))
    spelling_is (node i vs) T b (d, args, prefix, rest, boxed h is m first, split, fields) =
        glued b prefix rest (record_prefix ds T i) _ split
        (first ∙ sym (ap number_bytes m.there) ∙ sym (ap (λ (U : Shape). record_prefix ds U i) is)) (fields_are vs (list_of_shapes args) [] d.fields rest fields ∙ fields_of T i d (list_of_shapes args) vs (ap arguments_of is) m.there)
    spelling_is (node i vs) T b (d, args, prefix, rest, bare is there first, split, fields) =
        glued b prefix rest (record_prefix ds T i) _ split (first ∙ sym (ap (λ (U : Shape). record_prefix ds U i) is)) (fields_are vs (list_of_shapes args) [] d.fields rest fields ∙ fields_of T i d (list_of_shapes args) vs (ap arguments_of is) there)
    spelling_is (call i vs) T b (d, rest, is, m, split, fields) =
        glued b (word d.number) rest (number_bytes (slice_get ds i)) _ split (sym (ap number_bytes m.there))
        (fields_are vs [] [] d.fields rest fields ∙ sym (ap (λ (o : Option Declaration). spelling_fields ds [] (fields_in o) vs) m.there))

    each_is : (vs : ValueViews) (T : Shape) (b : List ℕ) → SpellEach schema T vs b → b ≡ spelling_each ds T vs
    each_is no_values T b s = s
    each_is (value v vs) T b (x, y, split, first, rest) = glued b x y _ _ split (spelling_is v T x first) (each_is vs T y rest)

    fields_are : (vs : ValueViews) (args : List Shape) (before : List ValueView) (fs : List Slot) (b : List ℕ) → SpellFields schema args before fs vs b → b ≡ spelling_fields ds args fs vs
    fields_are no_values args before [] b s = s
    fields_are no_values args before (f ∷ fs) b s = absurd s
    fields_are (value v vs) args before [] b s = absurd s
    fields_are (value v vs) args before (f ∷ fs) b (x, y, split, inl (set, first), rest) =
        glued b x y _ _ split (spelling_is v (closed args f.of) x first) (fields_are vs args (before ++ v ∷ []) fs y rest)
    fields_are (value v vs) args before (f ∷ fs) b (x, y, split, inr (clear, none, empty), rest) =
        glued b x y _ _ split (empty ∙ sym (ap (spelling ds (closed args f.of)) none)) (fields_are vs args (before ++ v ∷ []) fs y rest)
