-- The size of a value by the number of four-byte words that spell it.
use Rattle.std.proofs.Common.{◌≡◌, ◌⊎◌, inl, inr, ℕ, zero, suc, ◌+◌, ◌*◌, ◌/◌, ◌≤◌, List, [], ◌∷◌, ◌++◌, length, length-append, slice_get, Some, Bool, true, false, refl, sym, ap, ◌∙◌, subst, arith, replicate}
use Rattle.std.proofs.lemmas.List.{length-replicate}
use Rattle.std.proofs.lemmas.Nat.{mul-le}
use Rattle.tl_numbers.specs.Numbers.{word}
use Rattle.tl_schema.specs.Types.{Shape, Shapes}
use Rattle.tl_schema.specs.Types as type
use Rattle.tl_schema.specs.Closing.{closed, list_of_shapes}
use Rattle.tl_schema.specs.Schemas.{Slot, Declaration, Declared}
use Rattle.tl_schema.specs.Formed.{IsFormed, IsEmpty}
use Rattle.tl_types.specs.Values.{ValueView, ValueViews, no_values, value, depth, depth_of, count}
use Rattle.tl_types.specs.Values as view
use Rattle.tl_types.specs.Texts.{text_bytes, text_head, missing}
use Rattle.tl_types.specs.Spelling.{Begins, vector_prefix, Spells, SpellEach, SpellFields}
use Rattle.tl_types.specs.Spelling as begins
use Rattle.tl_types.specs.declared.value.TheConstants.{MAX_LEVELS}
use Rattle.tl_decode.specs.Sizes.{IsWidth, nodes, nodes_of, HasFewFields}
use Rattle.tl_decode.proofs.SizesNamed.{IsClosedUnderNames, HasWidth, AreFieldsIn}

-- ---- words

-- the bytes are whole words
abbrev Whole : List ℕ → Type 0
Whole b = (w : ℕ) × (length b ≡ 4 * w)

width_whole : (b : List ℕ) → IsWidth (length b) → Whole b
width_whole b (inl e) = (2, e)
width_whole b (inr (inl e)) = (4, e)
width_whole b (inr (inr e)) = (8, e)

padded : (n : ℕ) → n + missing n ≡ 4 * ((n + missing n) / 4)
padded n = omega arith

text_whole : (s : List ℕ) → Whole (text_bytes s)
text_whole s =
    let head = text_head (length s) in
    let pad : List ℕ = replicate (missing (length head + length s)) 0 in
    let size : length (text_bytes s) ≡ (length head + length s) + missing (length head + length s) =
    omega (arith, length-append (head ++ s) pad, length-append head s, length-replicate {A = ℕ} (missing (length head + length s)) 0) in
    (((length head + length s) + missing (length head + length s)) / 4, size ∙ padded (length head + length s))

no_bytes : (b : List ℕ) → length b ≡ 0 → b ≡ []
no_bytes [] e = refl
no_bytes (x ∷ b) e = absurd (omega (arith, e))

-- ---- sizes

-- The bytes are whole words, and the size is at most so much, and for each of n levels 256 E a word more.
record Sized (E n free size : ℕ) (b : List ℕ) : Type 0 where
  words : ℕ
  width : length b ≡ 4 * words
  bound : size ≤ free + n * (256 * E) * words

-- likewise for elements, of which each takes a word at least
record EachSized (E n size : ℕ) (b : List ℕ) : Type 0 where
  words : ℕ
  width : length b ≡ 4 * words
  bound : size ≤ E * words + n * (256 * E) * words

plain_sized : (E n : ℕ) (b : List ℕ) → 1 ≤ E → Whole b → Sized E n E 1 b
plain_sized E n b one whole = record { words = whole.0; width = whole.1; bound = omega (arith, one) }

element_more : (E n v vs w ws : ℕ) → v ≤ E + n * (256 * E) * suc w → vs ≤ E * ws + n * (256 * E) * ws → v + vs ≤ E * (suc w + ws) + n * (256 * E) * (suc w + ws)
element_more E n v vs w ws first others = omega (arith, first, others)

field_more : (E n k v vs w ws : ℕ) → v ≤ E + n * (256 * E) * w → vs ≤ k * E + n * (256 * E) * ws → v + vs ≤ suc k * E + n * (256 * E) * (w + ws)
field_more E n k v vs w ws first others = omega (arith, first, others)

list_sized : (E n vs p w : ℕ) → 1 ≤ E → vs ≤ E * w + n * (256 * E) * w → suc vs ≤ E + suc n * (256 * E) * (suc p + w)
list_sized E n vs p w one bound = omega (arith, one, bound)

-- a record after its number
numbered_sized : (E n k vs w : ℕ) → 1 ≤ E → k ≤ 256 → vs ≤ k * E + n * (256 * E) * w → suc vs ≤ E + suc n * (256 * E) * suc w
numbered_sized E n k vs w one few bound = omega (arith, one, bound, mul-le k E 256 E few (omega arith))

-- a bare record whose fields take bytes
bare_sized : (E n k vs w : ℕ) → 1 ≤ E → k ≤ 256 → vs ≤ k * E + n * (256 * E) * suc w → suc vs ≤ E + suc n * (256 * E) * suc w
bare_sized E n k vs w one few bound = omega (arith, one, bound, mul-le k E 256 E few (omega arith))

whole_bound : (E size w : ℕ) → size ≤ E + 120 * (256 * E) * w → size ≤ 32768 * E * (w + 1)
whole_bound E size w bound = omega (arith, bound)

-- ---- values

module _ (schema : Declared) (P : Shape → Type 0) (E : ℕ) (holds : IsClosedUnderNames schema P) (few : HasFewFields schema) (one : 1 ≤ E)
    (empty : (T : Shape) (v : ValueView) → P T → Spells schema T v [] → nodes v ≤ E) (takes : (T : Shape) (v : ValueView) → P T → Spells schema T v [] → (T ≡ type.flag) ⊎ IsEmpty schema T) where
  -- a value of at least one word where its type isn't empty
  element_words : (is_boxed : Bool) (T : Shape) (v : ValueView) (b : List ℕ) (w : ℕ) → P (type.vector is_boxed T) → Spells schema T v b → length b ≡ 4 * w → (k : ℕ) × (w ≡ suc k)
  element_words is_boxed T v b zero p s width =
      let none : Spells schema T v [] = subst (λ (x : List ℕ). Spells schema T v x) (no_bytes b width) s in
      absurd (elim (holds.formed (type.vector is_boxed T) p) [
        | inl e ↦ (let never : ⊥ = cc in never)
        | inr formed ↦ elim (takes T v (holds.vector is_boxed T p) none) [
          | inl e ↦ subst (IsFormed schema) e formed.0
          | inr is ↦ formed.1 is
        ]
      ])
  element_words is_boxed T v b (suc k) p s width = (k, refl)

  prefix_whole : (is_boxed : Bool) → Whole (vector_prefix is_boxed)
  prefix_whole true = (1, refl)
  prefix_whole false = (0, refl)

  -- the declaration of a record, and the types of its fields
  begun : (i : ℕ) (d : Declaration) (args : Shapes) (T : Shape) (prefix : List ℕ) → P T → Begins schema T i d args prefix → (slice_get schema.decls i ≡ Some d) × AreFieldsIn P (list_of_shapes args) d.fields
  begun i d args T prefix p (begins.boxed h e m is) = (m.there, holds.boxed h i d args (subst P e p) m)
  begun i d args T prefix p (begins.bare e there is) = (there, holds.bare i d args (subst P e p) there)

  abbrev ValueSized : ℕ → ValueView → List ℕ → Type 0
  ValueSized n v b = Sized E n E (nodes v) b

  -- a record or a call after its number, or a bare record
  node_sized : (n i : ℕ) (d : Declaration) (args : Shapes) (T : Shape) (prefix rest : List ℕ) (b : List ℕ) (vs : ValueViews) → P T → slice_get schema.decls i ≡ Some d → Begins schema T i d args prefix → b ≡ prefix ++ rest
      → Spells schema T (view.node i vs) b → Sized E n (length d.fields * E) (nodes_of vs) rest → ValueSized (suc n) (view.node i vs) b
  node_sized n i d args T prefix rest b vs p there (begins.boxed h e m is) split s fields =
      let four : length prefix ≡ 4 = ap length is in
      record {
        words = suc fields.words;
        width = ap length split ∙ omega (arith, length-append prefix rest, four, fields.width);
        bound = numbered_sized E n (length d.fields) (nodes_of vs) fields.words one (few i d there) fields.bound;
      }
  node_sized n i d args T prefix rest b vs p there (begins.bare e at is) split s fields =
      let none : length prefix ≡ 0 = ap length is in
      let width : length b ≡ 4 * fields.words = ap length split ∙ omega (arith, length-append prefix rest, none, fields.width) in
      by fields.words width fields.bound
    where
      by : (w : ℕ) → length b ≡ 4 * w → nodes_of vs ≤ length d.fields * E + n * (256 * E) * w → ValueSized (suc n) (view.node i vs) b
      by zero width bound =
          let small = empty T (view.node i vs) p (subst (λ (x : List ℕ). Spells schema T (view.node i vs) x) (no_bytes b width) s) in
          record { words = 0; width = width; bound = omega (arith, small) }
      by (suc w) width bound = record { words = suc w; width = width; bound = bare_sized E n (length d.fields) (nodes_of vs) w one (few i d there) bound }

  joined : (f : Slot) (fs : List Slot) (n : ℕ) (v : ValueView) (vs : ValueViews) (b x y : List ℕ) → b ≡ x ++ y → ValueSized n v x → Sized E n (length fs * E) (nodes_of vs) y
      → Sized E n (length (f ∷ fs) * E) (nodes_of (value v vs)) b
  joined f fs n v vs b x y is first others =
      let width : length (x ++ y) ≡ 4 * (first.words + others.words) = omega (arith, length-append x y, first.width, others.width) in
      record {
        words = first.words + others.words;
        width = ap length is ∙ width;
        bound = field_more E n (length fs) (nodes v) (nodes_of vs) first.words others.words first.bound others.bound;
      }

  mutual
    sized : (v : ValueView) (T : Shape) (n : ℕ) (b : List ℕ) → P T → Spells schema T v b → depth v ≤ n → ValueSized n v b
    sized (view.int z) T n b p s deep = plain_sized E n b one (1, ap length s.4)
    sized (view.long z) T n b p s deep = plain_sized E n b one (2, ap length s.4)
    sized (view.nat k) T n b p s deep = plain_sized E n b one (1, ap length s.2)
    sized (view.opaque xs) T n b p s deep =
        let wide : IsWidth (length xs) = subst HasWidth s.0 (holds.wide T p) in
        plain_sized E n b one (width_whole b (subst (λ (x : List ℕ). IsWidth (length x)) (sym s.1) wide))
    sized (view.text xs) T n b p s deep = plain_sized E n b one (subst Whole (sym s.2) (text_whole xs))
    sized view.truth T n b p s deep = plain_sized E n b one (0, ap length s.1)
    sized view.absent T n b p s deep = absurd s
    sized (view.list vs) T zero b p s deep = absurd (omega arith)
    sized (view.list vs) T (suc n) b p s deep =
        let prefix = vector_prefix s.0 in
        let before = prefix_whole s.0 in
        let each = each_sized vs s.0 s.1 n s.2 (subst P s.3 p) s.6 (omega (arith, deep)) in
        let width : length ((prefix ++ word (count vs)) ++ s.2) ≡ 4 * (suc before.0 + each.words) =
        omega (arith, length-append (prefix ++ word (count vs)) s.2, length-append prefix (word (count vs)), before.1, each.width) in
        record { words = suc before.0 + each.words; width = ap length s.5 ∙ width; bound = list_sized E n (nodes_of vs) before.0 each.words one each.bound }
    sized (view.node i vs) T zero b p s deep = absurd (omega arith)
    sized (view.node i vs) T (suc n) b p s deep =
        let d = begun i s.0 s.1 T s.2 p s.4 in
        node_sized n i s.0 s.1 T s.2 s.3 b vs p d.0 s.4 s.5 s (fields_sized vs (list_of_shapes s.1) [] s.0.fields n s.3 d.1 s.6 (omega (arith, deep)))
    sized (view.call i vs) T zero b p s deep = absurd (omega arith)
    sized (view.call i vs) T (suc n) b p s deep =
        let d = s.0 in
        let fields = fields_sized vs [] [] d.fields n s.1 (holds.call i d (subst P s.2 p) s.3) s.5 (omega (arith, deep)) in
        let width : length (word d.number ++ s.1) ≡ 4 * suc fields.words = omega (arith, length-append (word d.number) s.1, fields.width) in
        record { words = suc fields.words; width = ap length s.4 ∙ width; bound = numbered_sized E n (length d.fields) (nodes_of vs) fields.words one (few i d s.3.there) fields.bound }

    each_sized : (vs : ValueViews) (is_boxed : Bool) (T : Shape) (n : ℕ) (b : List ℕ) → P (type.vector is_boxed T) → SpellEach schema T vs b → depth_of vs ≤ n → EachSized E n (nodes_of vs) b
    each_sized no_values is_boxed T n b p s deep = record { words = 0; width = ap length s; bound = omega arith }
    each_sized (value v vs) is_boxed T n b p (x, y, is, spells, more) deep =
        let first = sized v T n x (holds.vector is_boxed T p) spells (omega (arith, deep)) in
        let k = element_words is_boxed T v x first.words p spells first.width in
        let others = each_sized vs is_boxed T n y p more (omega (arith, deep)) in
        let width : length (x ++ y) ≡ 4 * (suc k.0 + others.words) = omega (arith, length-append x y, first.width, k.1, others.width) in
        record {
          words = suc k.0 + others.words;
          width = ap length is ∙ width;
          bound = element_more E n (nodes v) (nodes_of vs) k.0 others.words (subst (λ (w : ℕ). nodes v ≤ E + n * (256 * E) * w) k.1 first.bound) others.bound;
        }

    fields_sized : (vs : ValueViews) (args : List Shape) (before : List ValueView) (fs : List Slot) (n : ℕ) (b : List ℕ) → AreFieldsIn P args fs → SpellFields schema args before fs vs b → depth_of vs ≤ n
        → Sized E n (length fs * E) (nodes_of vs) b
    fields_sized no_values args before [] n b p s deep = record { words = 0; width = ap length s; bound = omega arith }
    fields_sized no_values args before (f ∷ fs) n b p s deep = absurd s
    fields_sized (value v vs) args before [] n b p s deep = absurd s
    fields_sized (value v vs) args before (f ∷ fs) n b p (x, y, is, inl (set, spells), more) deep =
        joined f fs n v vs b x y is (sized v (closed args f.of) n x (p 0 f refl) spells (omega (arith, deep)))
        (fields_sized vs args (before ++ v ∷ []) fs n y (λ k g at. p (suc k) g at) more (omega (arith, deep)))
    fields_sized (value v vs) args before (f ∷ fs) n b p (x, y, is, inr (clear, gone, none), more) deep =
        let alone : nodes v ≡ 1 = ap nodes gone in
        joined f fs n v vs b x y is (record { words = 0; width = ap length none; bound = omega (arith, alone, one) })
        (fields_sized vs args (before ++ v ∷ []) fs n y (λ k g at. p (suc k) g at) more (omega (arith, deep)))

  -- a value of a type in P that some bytes spell, with so many levels
  pub size_bounded : (v : ValueView) (T : Shape) (b : List ℕ) → P T → Spells schema T v b → depth v ≤ MAX_LEVELS → nodes v ≤ 32768 * E * (length b / 4 + 1)
  size_bounded v T b p s deep =
      let is = sized v T MAX_LEVELS b p s deep in
      let words : length b / 4 ≡ is.words = omega (arith, is.width) in
      rw words (whole_bound E (nodes v) is.words is.bound)
