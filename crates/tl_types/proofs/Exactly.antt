-- Bytes begin with the spelling of a value, or they are refused: one of the two, and in one way.
use Rattle.std.proofs.Common.{◌≡◌, ◌⊎◌, inl, inr, ℕ, zero, suc, ◌+◌, ◌^◌, ◌≤◌, ◌<◌, List, [], ◌∷◌, ◌++◌, length, slice_get, Some, Ok, Err, refl, sym, ap, ◌∙◌, subst, arith, true, false, true≢false}
use Rattle.std.proofs.lemmas.List.{append_cancel_left, append_cancel_right}
use Rattle.tl_numbers.specs.Bytes.{AreBytes}
use Rattle.tl_numbers.specs.Numbers.{word}
use Rattle.tl_numbers.specs.declared.numbers.TheConstants.{BOXED_VECTOR}
use Rattle.tl_schema.specs.Types.{Shape}
use Rattle.tl_schema.specs.Types as type
use Rattle.tl_schema.specs.Closing.{closed, list_of_shapes}
use Rattle.tl_schema.specs.Schemas.{Slot, Declaration, Declared}
use Rattle.tl_schema.specs.Formed.{IsMember, IsFunction}
use Rattle.tl_types.specs.declared.cause.Cause.{Cause}
use Rattle.tl_types.specs.declared.cause.Cause.TheVariants.{TooDeep}
use Rattle.tl_types.specs.Values.{ValueView, depth}
use Rattle.tl_types.specs.Conditions.{stands_by}
use Rattle.tl_types.specs.Spelling.{Spells, SpellsField}
use Rattle.tl_types.specs.Refusal.{TextRefused, NumberRefused, EachRefused, FieldsRefused, ListRefused, Refused}
use Rattle.tl_types.specs.Refusal as kind
use Rattle.tl_types.specs.Offsets.{moved}
use Rattle.tl_types.specs.inner.Reading.{Spot, spot, Fault, Read, value_at}
use Rattle.tl_types.specs.Exactly.{BeginsWith, ExactlyOne, EachIsSpelledOrRefused}
use Rattle.tl_types.proofs.Numbers.{same_number}
use Rattle.tl_types.proofs.Members.{some_is}
use Rattle.tl_types.proofs.FormedParts.{PartsTell, IsRead, AreRead, deep_formed, first_read, others_read}
use Rattle.tl_types.proofs.Spelling.{spelled}
use Rattle.tl_types.proofs.Refusal.{refused, list_refused}
use Rattle.tl_types.proofs.Deciding.{decided}
use Rattle.tl_types.proofs.SchemaTells.{schema_tells}

-- ---- results apart

same_ok : {A : Type 0} {x y : A × Spot} → ◌≡◌ {A = Read A} (Ok x) (Ok y) → x ≡ y
same_ok e = cc

never_err : {A : Type 0} {f : Fault} {y : A × Spot} → ◌≡◌ {A = Read A} (Err f) (Ok y) → ⊥
never_err e = cc

same_err : {A : Type 0} {p q : ℕ} {c d : Cause} → ◌≡◌ {A = Read A} (Err (p, c)) (Err (q, d)) → (p ≡ q) × (c ≡ d)
same_err {A = A} e =
    (ap (λ (r : Read A). elim r as (λ _. ℕ) [ Ok y ↦ 0 | Err f ↦ f.0 ]) e, ap (λ (r : Read A). elim r as (λ _. Cause) [ Ok y ↦ TooDeep | Err f ↦ f.1 ]) e)

-- ---- where a refusal lies

text_here : (b : List ℕ) (at : ℕ) (cause : Cause) → TextRefused b at cause → at ≡ 0
text_here b at cause (kind.short few here why) = here
text_here b at cause (kind.long_string rest big is here why) = here
text_here b at cause (kind.loose_string n rest le is here why) = here
text_here b at cause (kind.ended head rest n which big is few here why) = here
text_here b at cause (kind.padding head s pad rest which is width other here why) = here

number_here : (Known : ℕ → Type 0) (b : List ℕ) (at : ℕ) (cause : Cause) → NumberRefused Known b at cause → at ≡ 0
number_here Known b at cause (kind.short few here why) = here
number_here Known b at cause (kind.packed rest is here why) = here
number_here Known b at cause (kind.unknown w rest fits is other none here why) = here

apart : (p q k : ℕ) → moved 0 p ≡ moved 0 q → p ≡ 0 → q ≡ 4 + k → ⊥
apart p q k same here there = omega (arith, same, here, there)

-- the two faults lie at the start, or after a number
one_offset : (P Q : ℕ → Type 0) (p q : ℕ) → moved 0 p ≡ moved 0 q → ((p ≡ 0) ⊎ ((k : ℕ) × (p ≡ 4 + k) × P k)) → ((q ≡ 0) ⊎ ((k : ℕ) × (q ≡ 4 + k) × Q k)) → ((j k : ℕ) → P j → Q k → j ≡ k) → p ≡ q
one_offset P Q p q same (inl here) (inl there) inside = here ∙ sym there
one_offset P Q p q same (inl here) (inr (k, there, s)) inside = absurd (apart p q k same here there)
one_offset P Q p q same (inr (j, here, r)) (inl there) inside = absurd (apart q p j (sym same) there here)
one_offset P Q p q same (inr (j, here, r)) (inr (k, there, s)) inside = omega (arith, here, there, inside j k r s)

module _ (schema : Declared) (tell : PartsTell schema) where
  -- ---- the bytes begin with a spelling

  read_whole : (n : ℕ) (T : Shape) (b : List ℕ) (v : ValueView) (x rest : List ℕ) → b ≡ x ++ rest → Spells schema T v x → depth v ≤ n → value_at schema.decls n T (spot 0 b) ≡ Ok (v, spot (moved 0 (length x)) rest)
  read_whole n T b v x rest is spells deep = ap (λ (z : List ℕ). value_at schema.decls n T (spot 0 z)) is ∙ spelled schema tell.numbers v T n x rest 0 (omega arith) spells deep

  pub never_both : (n : ℕ) (T : Shape) → IsRead schema T → (b : List ℕ) (v : ValueView) (x : List ℕ) (at : ℕ) (cause : Cause) → BeginsWith schema n T b v x → Refused schema n T b at cause → ⊥
  never_both n T read b v x at cause (rest, is, spells, deep) r = never_err (sym (refused schema tell n T read b at cause 0 (omega arith) r) ∙ read_whole n T b v x rest is spells deep)

  pub one_value : (n : ℕ) (T : Shape) (b : List ℕ) (v w : ValueView) (x y : List ℕ) → BeginsWith schema n T b v x → BeginsWith schema n T b w y → (v ≡ w) × (x ≡ y)
  one_value n T b v w x y (rest, is, spells, deep) (more, is_too, spells_too, deep_too) =
      let both = same_ok (sym (read_whole n T b v x rest is spells deep) ∙ read_whole n T b w y more is_too spells_too deep_too) in
      let after : rest ≡ more = ap (λ (r : ValueView × Spot). r.1.bytes) both in
      (ap (λ (r : ValueView × Spot). r.0) both, append_cancel_right x y more (ap (λ (z : List ℕ). x ++ z) (sym after) ∙ sym is ∙ is_too))

  -- ---- the bytes are refused

  same_fault : (n : ℕ) (T : Shape) → IsRead schema T → (b : List ℕ) (p q : ℕ) (c d : Cause) → Refused schema n T b p c → Refused schema n T b q d → (moved 0 p ≡ moved 0 q) × (c ≡ d)
  same_fault n T read b p q c d r s = same_err {A = ValueView} (sym (refused schema tell n T read b p c 0 (omega arith) r) ∙ refused schema tell n T read b q d 0 (omega arith) s)

  -- one level refuses at one offset
  abbrev OneOffset : ℕ → Type 0
  OneOffset n = (T : Shape) → IsRead schema T → (b : List ℕ) (p q : ℕ) (c d : Cause) → Refused schema n T b p c → Refused schema n T b q d → p ≡ q

  after_same : (b x y rest more : List ℕ) → b ≡ x ++ rest → b ≡ y ++ more → x ≡ y → rest ≡ more
  after_same b x y rest more is is_too same = append_cancel_left x rest more (sym is ∙ is_too ∙ ap (λ (z : List ℕ). z ++ more) (sym same))

  each_offset : (n : ℕ) → OneOffset n → (T : Shape) → IsRead schema T → (k : ℕ) (b : List ℕ) (p q : ℕ) (c d : Cause) → EachRefused schema n (Refused schema n) T k b p c → EachRefused schema n (Refused schema n) T k b q d → p ≡ q
  each_offset n one T read zero b p q c d r s = absurd r
  each_offset n one T read (suc k) b p q c d (inl r) (inl s) = one T read b p q c d r s
  each_offset n one T read (suc k) b p q c d (inl r) (inr (v, x, y, j, spells, deep, is, at, s)) = absurd (never_both n T read b v x p c (y, is, spells, deep) r)
  each_offset n one T read (suc k) b p q c d (inr (v, x, y, j, spells, deep, is, at, r)) (inl s) = absurd (never_both n T read b v x q d (y, is, spells, deep) s)
  each_offset n one T read (suc k) b p q c d (inr (v, x, y, j, spells, deep, is, at, r)) (inr (w, u, z, l, spells_too, deep_too, is_too, at_too, s)) =
      let same : x ≡ u = (one_value n T b v w x u (y, is, spells, deep) (z, is_too, spells_too, deep_too)).1 in
      let after : y ≡ z = after_same b x u y z is is_too same in
      let inside : j ≡ l = each_offset n one T read k y j l c d r (subst (λ (m : List ℕ). EachRefused schema n (Refused schema n) T k m l d) (sym after) s) in
      omega (arith, at, at_too, inside, ap length same)

  -- a field is spelled in one way
  one_field : (n : ℕ) (args : List Shape) (before : List ValueView) (f : Slot) (b : List ℕ) (v w : ValueView) (x y rest more : List ℕ) → SpellsField schema args before f v x → SpellsField schema args before f w y → depth v ≤ n → depth w ≤ n → b ≡ x ++ rest → b ≡ y ++ more → (v ≡ w) × (x ≡ y)
  one_field n args before f b v w x y rest more (inl (set, spells)) (inl (set_too, spells_too)) deep deep_too is is_too = one_value n (closed args f.of) b v w x y (rest, is, spells, deep) (more, is_too, spells_too, deep_too)
  one_field n args before f b v w x y rest more (inl (set, spells)) (inr (clear, none, empty)) deep deep_too is is_too = absurd (true≢false (sym set ∙ clear))
  one_field n args before f b v w x y rest more (inr (clear, none, empty)) (inl (set, spells)) deep deep_too is is_too = absurd (true≢false (sym set ∙ clear))
  one_field n args before f b v w x y rest more (inr (clear, none, empty)) (inr (clear_too, none_too, empty_too)) deep deep_too is is_too = (none ∙ sym none_too, empty ∙ sym empty_too)

  never_field : (n : ℕ) (args : List Shape) (before : List ValueView) (f : Slot) → IsRead schema (closed args f.of) → (b : List ℕ) (v : ValueView) (x rest : List ℕ) (at : ℕ) (cause : Cause) → stands_by f.cond before ≡ true → Refused schema n (closed args f.of) b at cause → SpellsField schema args before f v x → depth v ≤ n → b ≡ x ++ rest → ⊥
  never_field n args before f read b v x rest at cause set r (inl (set_too, spells)) deep is = never_both n (closed args f.of) read b v x at cause (rest, is, spells, deep) r
  never_field n args before f read b v x rest at cause set r (inr (clear, none, empty)) deep is = true≢false (sym set ∙ clear)

  fields_offset : (n : ℕ) → OneOffset n → (args : List Shape) (before : List ValueView) (fs : List Slot) → AreRead schema args fs → (b : List ℕ) (p q : ℕ) (c d : Cause) → FieldsRefused schema n (Refused schema n) args before fs b p c → FieldsRefused schema n (Refused schema n) args before fs b q d → p ≡ q
  fields_offset n one args before [] read b p q c d r s = absurd r
  fields_offset n one args before (f ∷ fs) read b p q c d (inl (set, r)) (inl (set_too, s)) = one (closed args f.of) (first_read schema args f fs read) b p q c d r s
  fields_offset n one args before (f ∷ fs) read b p q c d (inl (set, r)) (inr (v, x, y, j, spells, deep, is, at, s)) = absurd (never_field n args before f (first_read schema args f fs read) b v x y p c set r spells deep is)
  fields_offset n one args before (f ∷ fs) read b p q c d (inr (v, x, y, j, spells, deep, is, at, r)) (inl (set, s)) = absurd (never_field n args before f (first_read schema args f fs read) b v x y q d set s spells deep is)
  fields_offset n one args before (f ∷ fs) read b p q c d (inr (v, x, y, j, spells, deep, is, at, r)) (inr (w, u, z, l, spells_too, deep_too, is_too, at_too, s)) =
      let both = one_field n args before f b v w x u y z spells spells_too deep deep_too is is_too in
      let after : y ≡ z = after_same b x u y z is is_too both.1 in
      let here = subst (λ (m : List ℕ). FieldsRefused schema n (Refused schema n) args (before ++ w ∷ []) fs m l d) (sym after) s in
      let there = subst (λ (m : ValueView). FieldsRefused schema n (Refused schema n) args (before ++ m ∷ []) fs y l d) (sym both.0) here in
      let inside : j ≡ l = fields_offset n one args (before ++ v ∷ []) fs (others_read schema args f fs read) y j l c d r there in
      omega (arith, at, at_too, inside, ap length both.1)

  -- ---- lists

  abbrev Elements : ℕ → Shape → List ℕ → Cause → ℕ → Type 0
  Elements n T b cause q = (k : ℕ) × (rest : List ℕ) × (k < 2 ^ 31) × (b ≡ word k ++ rest) × EachRefused schema n (Refused schema n) T k rest q cause

  list_parts : (n : ℕ) (T : Shape) (b : List ℕ) (at : ℕ) (cause : Cause) → ListRefused schema n (Refused schema n) T b at cause → (at ≡ 0) ⊎ ((q : ℕ) × (at ≡ 4 + q) × Elements n T b cause q)
  list_parts n T b at cause (kind.short few here why) = inl here
  list_parts n T b at cause (kind.many w rest fits many is here why) = inl here
  list_parts n T b at cause (kind.each k rest q few is here r) = inr (q, here, (k, rest, few, is, r))

  elements_offset : (n : ℕ) → OneOffset n → (T : Shape) → IsRead schema T → (b : List ℕ) (p q : ℕ) (c d : Cause) → Elements n T b c p → Elements n T b d q → p ≡ q
  elements_offset n one T read b p q c d (k, rest, few, is, r) (l, more, few_too, is_too, s) =
      let same = same_number k l rest more (omega (arith, few)) (omega (arith, few_too)) (sym is ∙ is_too) in
      let here = subst (λ (m : List ℕ). EachRefused schema n (Refused schema n) T l m q d) (sym same.1) s in
      let there = subst (λ (m : ℕ). EachRefused schema n (Refused schema n) T m rest q d) (sym same.0) here in
      each_offset n one T read k rest p q c d r there

  list_offset : (n : ℕ) → OneOffset n → (T : Shape) → IsRead schema T → (b : List ℕ) (p q : ℕ) (c d : Cause) → ListRefused schema n (Refused schema n) T b p c → ListRefused schema n (Refused schema n) T b q d → p ≡ q
  list_offset n one T read b p q c d r s =
      let same = (same_err {A = ValueView} (sym (list_refused schema tell n (refused schema tell n) T read b p c 0 (omega arith) r) ∙ list_refused schema tell n (refused schema tell n) T read b q d 0 (omega arith) s)).0 in
      one_offset (Elements n T b c) (Elements n T b d) p q same (list_parts n T b p c r) (list_parts n T b q d s) (λ j k x y. elements_offset n one T read b j k c d x y)

  abbrev BoxedList : ℕ → Shape → List ℕ → Cause → ℕ → Type 0
  BoxedList n T b cause q = (rest : List ℕ) × (b ≡ word BOXED_VECTOR ++ rest) × ListRefused schema n (Refused schema n) T rest q cause

  boxed_parts : (n : ℕ) (T : Shape) (b : List ℕ) (at : ℕ) (cause : Cause) → Refused schema (suc n) (type.vector true T) b at cause → (at ≡ 0) ⊎ ((q : ℕ) × (at ≡ 4 + q) × BoxedList n T b cause q)
  boxed_parts n T b at cause (inl r) = inl (number_here _ b at cause r)
  boxed_parts n T b at cause (inr (rest, q, is, here, r)) = inr (q, here, (rest, is, r))

  boxed_list_offset : (n : ℕ) → OneOffset n → (T : Shape) → IsRead schema T → (b : List ℕ) (p q : ℕ) (c d : Cause) → BoxedList n T b c p → BoxedList n T b d q → p ≡ q
  boxed_list_offset n one T read b p q c d (rest, is, r) (more, is_too, s) =
      let same : rest ≡ more = after_same b (word BOXED_VECTOR) (word BOXED_VECTOR) rest more is is_too refl in
      list_offset n one T read rest p q c d r (subst (λ (m : List ℕ). ListRefused schema n (Refused schema n) T m q d) (sym same) s)

  -- ---- records and calls

  module _ (n : ℕ) (one : OneOffset n) (Is : ℕ → Declaration → Type 0) (args : List Shape) where
    abbrev Fields : List ℕ → Cause → ℕ → Type 0
    Fields b cause q = (i : ℕ) × (d : Declaration) × (rest : List ℕ) × Is i d × (b ≡ word d.number ++ rest) × FieldsRefused schema n (Refused schema n) args [] d.fields rest q cause

    abbrev ByNumber : List ℕ → ℕ → Cause → Type 0
    ByNumber b at cause =
        NumberRefused (λ w. (i : ℕ) × (d : Declaration) × Is i d × (d.number ≡ w)) b at cause
        ⊎ ((i : ℕ) × (d : Declaration) × (rest : List ℕ) × (q : ℕ) × Is i d × (b ≡ word d.number ++ rest) × (at ≡ 4 + q) × FieldsRefused schema n (Refused schema n) args [] d.fields rest q cause)

    number_parts : (b : List ℕ) (at : ℕ) (cause : Cause) → ByNumber b at cause → (at ≡ 0) ⊎ ((q : ℕ) × (at ≡ 4 + q) × Fields b cause q)
    number_parts b at cause (inl r) = inl (number_here _ b at cause r)
    number_parts b at cause (inr (i, d, rest, q, m, is, here, r)) = inr (q, here, (i, d, rest, m, is, r))

    number_offset : ((i : ℕ) (d : Declaration) → Is i d → AreRead schema args d.fields) → ((i : ℕ) (d : Declaration) → Is i d → slice_get schema.decls i ≡ Some d)
        → ((i j : ℕ) (d e : Declaration) → Is i d → Is j e → d.number ≡ e.number → i ≡ j) → (b : List ℕ) (p q : ℕ) (c d : Cause) → moved 0 p ≡ moved 0 q → ByNumber b p c → ByNumber b q d → p ≡ q
    number_offset read there apart_by b p q c d same r s = one_offset (Fields b c) (Fields b d) p q same (number_parts b p c r) (number_parts b q d s) inside
      where
        inside : (j k : ℕ) → Fields b c j → Fields b d k → j ≡ k
        inside j k (i, e, rest, m, is, x) (l, g, more, m_too, is_too, y) =
            let numbers = same_number e.number g.number rest more (tell.numbers.fits i e (there i e m)) (tell.numbers.fits l g (there l g m_too)) (sym is ∙ is_too) in
            let at : i ≡ l = apart_by i l e g m m_too numbers.0 in
            let declared : e ≡ g = some_is e g (sym (there i e m) ∙ ap (slice_get schema.decls) at ∙ there l g m_too) in
            let here = subst (λ (z : Declaration). FieldsRefused schema n (Refused schema n) args [] z.fields more k d) (sym declared) y in
            let after = subst (λ (z : List ℕ). FieldsRefused schema n (Refused schema n) args [] e.fields z k d) (sym numbers.1) here in
            fields_offset n one args [] e.fields (read i e m) rest j k c d x after

  -- ---- values

  offset : (n : ℕ) → OneOffset n
  offset n type.int read b p q c d r s = r.here ∙ sym s.here
  offset n type.long read b p q c d r s = r.here ∙ sym s.here
  offset n type.nat read b p q c d r s = r.here ∙ sym s.here
  offset n (type.opaque k) read b p q c d r s = r.here ∙ sym s.here
  offset n type.str read b p q c d r s = text_here b p c r ∙ sym (text_here b q d s)
  offset n type.raw read b p q c d r s = text_here b p c r ∙ sym (text_here b q d s)
  offset n type.flag read b p q c d r s = absurd r
  offset n (type.var i) read b p q c d r s = absurd r
  offset zero (type.vector is_boxed T) read b p q c d r s = r.0 ∙ sym s.0
  offset zero (type.boxed h args) read b p q c d r s = r.0 ∙ sym s.0
  offset zero (type.bare i args) read b p q c d r s = r.0 ∙ sym s.0
  offset zero type.call read b p q c d r s = r.0 ∙ sym s.0
  offset (suc n) (type.vector true T) read b p q c d r s =
      let formed = deep_formed schema (type.vector true T) refl read in
      one_offset (BoxedList n T b c) (BoxedList n T b d) p q (same_fault (suc n) (type.vector true T) read b p q c d r s).0 (boxed_parts n T b p c r) (boxed_parts n T b q d s)
      (λ j k x y. boxed_list_offset n (offset n) T (inr formed.0) b j k c d x y)
  offset (suc n) (type.vector false T) read b p q c d r s =
      let formed = deep_formed schema (type.vector false T) refl read in list_offset n (offset n) T (inr formed.0) b p q c d r s
  offset (suc n) (type.boxed h args) read b p q c d r s =
      let formed = deep_formed schema (type.boxed h args) refl read in
      number_offset n (offset n) (IsMember schema h) (list_of_shapes args) (λ i e m. tell.boxed h i e args formed m) (λ i e m. m.there) (tell.numbers.members h) b p q c d
      (same_fault (suc n) (type.boxed h args) read b p q c d r s).0 r s
  offset (suc n) (type.bare i args) read b p q c d (e, there, r) (g, there_too, s) =
      let formed = deep_formed schema (type.bare i args) refl read in
      let same : e ≡ g = some_is e g (sym there ∙ there_too) in
      fields_offset n (offset n) (list_of_shapes args) [] e.fields (tell.bare i e args formed there) b p q c d r
      (subst (λ (z : Declaration). FieldsRefused schema n (Refused schema n) (list_of_shapes args) [] z.fields b q d) (sym same) s)
  offset (suc n) type.call read b p q c d r s =
      number_offset n (offset n) (IsFunction schema) [] (λ i e m. tell.call i e m) (λ i e m. m.there) tell.numbers.functions b p q c d (same_fault (suc n) type.call read b p q c d r s).0 r s

  pub exactly : (n : ℕ) (T : Shape) → IsRead schema T → (b : List ℕ) → AreBytes b → ExactlyOne schema n T b
  exactly n T read b bytes = record {
    either = decided schema tell n T read b bytes;
    never_both = never_both n T read b;
    one_value = one_value n T b;
    one_fault = λ p q c d r s. (offset n T read b p q c d r s, (same_fault n T read b p q c d r s).1);
  }

pub exactly_one : EachIsSpelledOrRefused
exactly_one schema good n T b formed bytes = exactly schema (schema_tells schema good) n T (inr formed) b bytes
