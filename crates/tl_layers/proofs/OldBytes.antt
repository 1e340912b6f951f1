-- Bytes of an old value spell the lifted one: by induction on the value, where each declaration that is known has moved.
use Rattle.std.proofs.Common.{◌≡◌, ◌⊎◌, inl, inr, ℕ, suc, ◌<◌, ◌^◌, List, [], ◌∷◌, ◌++◌, length, slice_get, Some, refl, ap, sym, ◌∙◌, subst}
use Rattle.tl_numbers.specs.Numbers.{word}
use Rattle.tl_names.specs.Indexes.{types_of}
use Rattle.tl_schema.specs.Types.{Shape, Shapes}
use Rattle.tl_schema.specs.Types as type
use Rattle.tl_schema.specs.Closing.{list_of_shapes}
use Rattle.tl_schema.specs.Schemas.{Slot, Declaration, Declared}
use Rattle.tl_schema.specs.Formed.{IsMember}
use Rattle.tl_types.specs.Values.{ValueView, int, long, nat, opaque, text, truth, absent, list, node, call, ValueViews, no_values, value, values_of, list_of, count}
use Rattle.tl_types.specs.Parts.{fields_in}
use Rattle.tl_types.specs.Spelling.{Spells, SpellFields, boxed, bare, vector_prefix}
use Rattle.tl_layers.specs.Counterparts.{image, image_each, head_image, entry_image}
use Rattle.tl_layers.specs.Plain.{IsPlain, ArePlain, HasNamedBits}
use Rattle.tl_layers.specs.Lifted.{lifted, lifted_each, placed, old_fields, new_fields}
use Rattle.tl_layers.proofs.ImageTypes.{images_listed, NamedInList, named_in_list, names_closed}
use Rattle.tl_layers.proofs.WovenFields.{AreWoven, IsKnown, AreKnown, Reads, EachReads, fields_read, each_read}

module _ (old new : Declared) where
  -- declaration i, which is d, has moved
  pub record HasMoved (Known : ℕ → Type 0) (i : ℕ) (d : Declaration) : Type 0 where
    pub e : Declaration
    pub there : slice_get new.decls (entry_image old new i) ≡ Some e
    pub number : e.number ≡ d.number
    pub function : e.function ≡ d.function
    pub head : (h : ℕ) → IsMember old h i d → ((j : ℕ) (c : Declaration) → IsMember old h j c → Known j) → (e.head ≡ head_image old new h) × (head_image old new h < length (types_of new.program))
    pub fields : (args : List Shape) (vs : ValueViews) (b : List ℕ) → SpellFields old args [] d.fields vs b → HasNamedBits d.fields (list_of vs)
        → AreWoven old new [] d.fields vs [] e.fields (values_of (placed d.fields e.fields (lifted_each old new vs)))
    pub known : (k : ℕ) (f : Slot) → slice_get d.fields k ≡ Some f → IsKnown old new Known f.of

  count_lifted : (vs : ValueViews) → count (values_of (lifted_each old new vs)) ≡ count vs
  count_lifted no_values = refl
  count_lifted (value v vs) = ap suc (count_lifted vs)

  module _ (Known : ℕ → Type 0) (moved : (i : ℕ) (d : Declaration) → Known i → slice_get old.decls i ≡ Some d → HasMoved Known i d) where
    pub are_known : (args : List Shape) (fs : List Slot) → ((k : ℕ) (f : Slot) → slice_get fs k ≡ Some f → IsKnown old new Known f.of) → ((i : ℕ) → NamedInList old args i → Known i) → AreKnown old new Known args fs
    are_known args [] each of_args = tt
    are_known args (f ∷ fs) each of_args =
        (λ i is. elim (names_closed old args f.of i is) [ inl own ↦ each 0 f refl i own | inr arg ↦ of_args i arg ], are_known args fs (λ k g at. each (suc k) g at) of_args)

    -- the fields of a record or call of declaration i, and of the lifted one
    record_read : (i : ℕ) (d : Declaration) (args : Shapes) (vs : ValueViews) (b : List ℕ) (there : slice_get old.decls i ≡ Some d) (m : HasMoved Known i d)
        → ((j : ℕ) → NamedInList old (list_of_shapes args) j → Known j) → EachReads old new Known vs → HasNamedBits (fields_in (slice_get old.decls i)) (list_of vs) × ArePlain old vs
        → SpellFields old (list_of_shapes args) [] d.fields vs b
        → SpellFields new (list_of_shapes (image_each old new args)) [] m.e.fields (values_of (placed (old_fields old i) (new_fields old new i) (lifted_each old new vs))) b
    record_read i d args vs b there m of_args reads plain spelled =
        let bits : HasNamedBits d.fields (list_of vs) = subst (λ o. HasNamedBits (fields_in o) (list_of vs)) there plain.0 in
        let woven = m.fields (list_of_shapes args) vs b spelled bits in
        let read = fields_read old new Known (list_of_shapes args) [] [] d.fields m.e.fields vs (values_of (placed d.fields m.e.fields (lifted_each old new vs))) b woven reads (are_known (list_of_shapes args) d.fields m.known of_args) plain.1 spelled in
        let olds : old_fields old i ≡ d.fields = ap fields_in there in
        let news : new_fields old new i ≡ m.e.fields = ap fields_in m.there in
        let in_place : placed d.fields m.e.fields (lifted_each old new vs) ≡ placed (old_fields old i) (new_fields old new i) (lifted_each old new vs) =
        ap (λ fs. placed fs m.e.fields (lifted_each old new vs)) (sym olds) ∙ ap (λ gs. placed (old_fields old i) gs (lifted_each old new vs)) (sym news) in
        subst (λ us. SpellFields new (list_of_shapes (image_each old new args)) [] m.e.fields (values_of us) b) in_place
        (subst (λ As. SpellFields new As [] m.e.fields (values_of (placed d.fields m.e.fields (lifted_each old new vs))) b) (sym (images_listed old new args)) read)

    text_type : (T : Shape) → (T ≡ type.str) ⊎ (T ≡ type.raw) → (image old new T ≡ type.str) ⊎ (image old new T ≡ type.raw)
    text_type T (inl is) = inl (ap (image old new) is)
    text_type T (inr is) = inr (ap (image old new) is)

    pub part_known : (T U : Shape) → T ≡ U → IsKnown old new Known T → IsKnown old new Known U
    part_known T U is known = subst (IsKnown old new Known) is known

    node_read : (i : ℕ) (vs : ValueViews) (T : Shape) (b : List ℕ) → IsKnown old new Known T → EachReads old new Known vs → IsPlain old (node i vs) → Spells old T (node i vs) b → Spells new (image old new T) (lifted old new (node i vs)) b
    node_read i vs T b known reads plain (d, args, prefix, rest, boxed h is member before, bytes, fields) =
        let inside = part_known T (type.boxed h args) is known in
        let m = moved i d (inside i (inl (d, member))) member.there in
        let head = m.head h member (λ j c made. inside j (inl (c, made))) in (
          m.e,
          image_each old new args,
          prefix,
          rest,
          boxed (head_image old new h) (ap (image old new) is) (record { there = m.there; head = head.0; known = head.1 }) (before ∙ ap word (sym m.number)),
          bytes,
          record_read i d args vs rest member.there m (λ j named. inside j (inr (named_in_list old args j named))) reads plain fields,
        )
    node_read i vs T b known reads plain (d, args, prefix, rest, bare is there before, bytes, fields) =
        let inside = part_known T (type.bare i args) is known in
        let m = moved i d (inside i (inl refl)) there in (
          m.e,
          image_each old new args,
          prefix,
          rest,
          bare (ap (image old new) is) m.there before,
          bytes,
          record_read i d args vs rest there m (λ j named. inside j (inr (named_in_list old args j named))) reads plain fields,
        )

    call_read : (i : ℕ) (vs : ValueViews) (T : Shape) (b : List ℕ) → IsKnown old new Known T → EachReads old new Known vs → IsPlain old (call i vs) → Spells old T (call i vs) b → Spells new (image old new T) (lifted old new (call i vs)) b
    call_read i vs T b known reads plain (d, rest, is, function, bytes, fields) =
        let m = moved i d (part_known T type.call is known i (d, function)) function.there in (
          m.e,
          rest,
          ap (image old new) is,
          record { there = m.there; function = m.function ∙ function.function },
          bytes ∙ ap (λ n. word n ++ rest) (sym m.number),
          record_read i d type.no_shapes vs rest function.there m (λ j none. elim none [ ]) reads plain fields,
        )

    list_read : (vs : ValueViews) (T : Shape) (b : List ℕ) → IsKnown old new Known T → EachReads old new Known vs → IsPlain old (list vs) → Spells old T (list vs) b → Spells new (image old new T) (lifted old new (list vs)) b
    list_read vs T b known reads plain (is_boxed, item, rest, is, few, bytes, spelled) =
        let same = sym (count_lifted vs) in (
          is_boxed,
          image old new item,
          rest,
          ap (image old new) is,
          subst (λ n. n < 2 ^ 31) same few,
          bytes ∙ ap (λ n. vector_prefix is_boxed ++ word n ++ rest) same,
          each_read old new Known item vs rest (part_known T (type.vector is_boxed item) is known) reads plain spelled,
        )

    mutual
      pub reads : (v : ValueView) → Reads old new Known v
      reads (int z) T b known plain (is, n, fits, same, bytes) = (ap (image old new) is, n, fits, same, bytes)
      reads (long z) T b known plain (is, n, fits, same, bytes) = (ap (image old new) is, n, fits, same, bytes)
      reads (nat n) T b known plain (is, fits, bytes) = (ap (image old new) is, fits, bytes)
      reads (opaque s) T b known plain (is, bytes) = (ap (image old new) is, bytes)
      reads (text s) T b known plain (is, few, bytes) = (text_type T is, few, bytes)
      reads truth T b known plain (is, bytes) = (ap (image old new) is, bytes)
      reads absent T b known plain s = elim s [ ]
      reads (list vs) T b known plain s = list_read vs T b known (reads_each vs) plain s
      reads (node i vs) T b known plain s = node_read i vs T b known (reads_each vs) plain s
      reads (call i vs) T b known plain s = call_read i vs T b known (reads_each vs) plain s

      reads_each : (vs : ValueViews) → EachReads old new Known vs
      reads_each no_values = tt
      reads_each (value v vs) = (reads v, reads_each vs)
