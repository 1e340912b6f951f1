-- What a schema tells of its types and of constructors without bytes.
use Rattle.std.proofs.Common.{◌≡◌, ◌⊎◌, inl, inr, ℕ, zero, suc, ◌+◌, ◌<◌, Bool, true, false, not, ◌&&◌, List, [], ◌∷◌, length, map, get_or, slice_get, Option, Some, None, is_some, refl, ap, sym, ◌∙◌, subst, true≢false, arith}
use Rattle.std.proofs.lemmas.Option.{none-some, same_Some, slice_get_within, get_or_from_slice_get}
use Rattle.tl_program.specs.Trees.{Tree}
use Rattle.tl_program.specs.Program.{KindText, nat, flag, call, of, FieldText, DeclText}
use Rattle.tl_graph.specs.Paths.{IsIn}
use Rattle.tl_names.specs.BareFields.{HoldsBare, TakesNone, takes_none}
use Rattle.tl_names.specs.BareReferences.{IsBareOf}
use Rattle.tl_names.specs.Constructors.{FirstOf}
use Rattle.tl_names.specs.Parts.{FieldAt, HeldBy, Writes}
use Rattle.tl_names.specs.Indexes.{types_of}
use Rattle.tl_names.specs.What.{type_named}
use Rattle.tl_names.specs.Writing.{At, is_constructor, result_head, own_type}
use Rattle.tl_names.proofs.NameMeanings.{type_first}
use Rattle.tl_names.proofs.PartsOfOne.{is_own_part}
use Rattle.tl_names.proofs.TypeNumbers.{number_of}
use Rattle.tl_schema.specs.CheckCauses.{NoneHas}
use Rattle.tl_schema.specs.declared.fault.CheckCause.TheVariants as cause
use Rattle.tl_schema.specs.CheckedPrograms.{IsSchema}
use Rattle.tl_schema.specs.Formed.{IsMember, IsOwn, AppliesBare, IsFormedOver, field_variables, count_of}
use Rattle.tl_schema.specs.Meanings.{head_in, meaning, slot_of}
use Rattle.tl_schema.specs.NotBare.{HasNoBare}
use Rattle.tl_schema.specs.Schemas.{Slot, Declaration, Declared}
use Rattle.tl_schema.specs.Types.{Shape, Shapes}
use Rattle.tl_schema.specs.Types as type
use Rattle.tl_schema.proofs.BareShapes.{bare_at, bare_in, bare_is, bare_means}
use Rattle.tl_schema.proofs.FieldsFormed.{fields_are_formed}
use Rattle.tl_schema.proofs.MeantTypes.{held_shape}
use Rattle.tl_schema.proofs.Members.{declaration_at, entry_at, member, own_by_head}
use Rattle.tl_layers.specs.LayerLaws.{ImageIsFormed}
use Rattle.tl_layers.proofs.EvenTypes.{even}
use Rattle.tl_layers.proofs.FormedImages.{IsBareAt, HasNoBytes, no_bytes, EmptiesTell, image_has_values}
use Rattle.tl_layers.proofs.LiftedValues.{get_mapped, get_some}
use Rattle.tl_layers.proofs.MovedDeclarations.{get_of}

-- ---- bare types, as they are written and as they are meant

module _ (ds : List DeclText) (d : DeclText) where
  bare_written : (t : Tree) → (HasNoBare ds d t → ⊥) → (j : ℕ) → IsBareAt (meaning ds d t) j → IsBareOf ds d t j
  bare_written t fine j (args, is) = (bare_is ds d t fine j).1 (ap bare_in is)

  bare_meant : (t : Tree) (j : ℕ) → IsBareOf ds d t j → IsBareAt (meaning ds d t) j
  bare_meant t j bare = bare_at (meaning ds d t) j (bare_means ds d t j bare)

flag_bare : (j : ℕ) (args : Shapes) → type.flag ≡ type.bare j args → ⊥
flag_bare j args e = absurd cc

-- ---- constructors without bytes

-- the indices that stand at so many fields, from this one on
abbrev numbers_from : (ℕ → ℕ) → ℕ → ℕ → List ℕ
numbers_from at k zero = []
numbers_from at k (suc n) = at k ∷ numbers_from at (suc k) n

count_numbers : (at : ℕ → ℕ) (k n : ℕ) → length (numbers_from at k n) ≡ n
count_numbers at k zero = refl
count_numbers at k (suc n) = ap suc (count_numbers at (suc k) n)

number_is : (at : ℕ → ℕ) (k n i j : ℕ) → slice_get (numbers_from at k n) i ≡ Some j → (j ≡ at (k + i)) × (i < n)
number_is at k zero i j there = absurd (none-some j there)
number_is at k (suc n) zero j there = (sym (same_Some (at k) j there) ∙ (let same : k ≡ k + 0 = omega arith in ap at same), omega arith)
number_is at k (suc n) (suc i) j there = let r = number_is at (suc k) n i j there in (r.0 ∙ (let same : suc k + i ≡ k + suc i = omega arith in ap at same), (let less = r.1 in omega (arith, less)))

module _ (schema : Declared) (good : IsSchema schema) where
  bare_none : NoneHas schema.program cause.NotBare
  bare_none = good.passes.1.1.1.1.1.0

  entry_own : (i : ℕ) (d : Declaration) (there : slice_get schema.decls i ≡ Some d) → d.head < length (types_of schema.program) → is_constructor (declaration_at schema good i d there).0 ≡ true
  entry_own i d there known =
      let t = declaration_at schema good i d there in
      let head : d.head ≡ head_in schema.program (own_type t.0) = ap (λ (x : Declaration). x.head) t.2.1 in
      own_by_head schema.program (is_constructor t.0) (result_head t.0) (omega (arith, head, known))

  not_line : (t : DeclText) → is_constructor t ≡ true → t.builtin ≡ false
  not_line t own = by t.function t.builtin own
    where
      by : (a b : Bool) → (not a && not b) ≡ true → b ≡ false
      by a false e = refl
      by true true e = absurd (true≢false (sym e))
      by false true e = absurd (true≢false (sym e))

  -- the field of an entry, as it is written
  module _ (i : ℕ) (d : Declaration) (there : slice_get schema.decls i ≡ Some d) where
    abbrev text : DeclText
    text = (declaration_at schema good i d there).0

    text_at : At schema.program i text
    text_at = (declaration_at schema good i d there).1

    fields_are : d.fields ≡ map (slot_of schema.program text) text.fields
    fields_are = ap (λ (x : Declaration). x.fields) (declaration_at schema good i d there).2.1

    slot_at : (k : ℕ) (g : FieldText) → FieldAt text k g → slice_get d.fields k ≡ Some (slot_of schema.program text g)
    slot_at k g at = ap (λ (fs : List Slot). slice_get fs k) fields_are ∙ get_mapped (slot_of schema.program text) text.fields k g at

    text_field : (k : ℕ) (f : Slot) → slice_get d.fields k ≡ Some f → (g : FieldText) × FieldAt text k g × (slot_of schema.program text g ≡ f)
    text_field k f at = get_of (slot_of schema.program text) text.fields k f (sym (ap (λ (fs : List Slot). slice_get fs k) fields_are) ∙ at)

    module _ (own : is_constructor text ≡ true) where
      written : (k : ℕ) (g : FieldText) (t : Tree) → FieldAt text k g → g.kind ≡ of t → Writes text t
      written k g t at is = record { own = not_line text own; there = inl (k, g, at, subst (HeldBy t) (sym is) (is_own_part t)) }

      holds : (k : ℕ) (g : FieldText) → FieldAt text k g → (kind : KindText) → g.kind ≡ kind → (j : ℕ) → IsBareAt (held_shape schema.program text kind) j → HoldsBare schema.program text kind j
      holds k g at nat is j b = absurd cc
      holds k g at flag is j b = absurd cc
      holds k g at (call var) is j b = absurd cc
      holds k g at (of t) is j b =
          bare_written schema.program text t (λ u. bare_none i (record { d = text; here = text_at; has = (t, written k g t at is, u) })) j b

  -- from entries to what is written
  from_entries : (i : ℕ) → HasNoBytes schema i → (h : ℕ) (e : Declaration) → IsMember schema h i e → TakesNone schema.program i
  from_entries _ (no_bytes i d at there bare rest) h e m =
      takes_none i (text i d there) js (text_at i d there) (record { own = own; count = count_is; each = each_is }) (rest_is (λ k f fat g c n. from_entries (at k) (rest k f fat) g c n))
    where
      same : e ≡ d
      same = same_Some e d (sym m.there ∙ there)

      own : is_constructor (text i d there) ≡ true
      own = entry_own i d there (let head = ap (λ (x : Declaration). x.head) same in let is = m.head in let known = m.known in omega (arith, head, is, known))

      js : List ℕ
      js = numbers_from at 0 (length (text i d there).fields)

      count_is : length js ≡ length (text i d there).fields
      count_is = count_numbers at 0 (length (text i d there).fields)

      each_is : (k j : ℕ) (f : FieldText) → FieldAt (text i d there) k f → slice_get js k ≡ Some j → HoldsBare schema.program (text i d there) f.kind j
      each_is k j f fat jat =
          let n = number_is at 0 (length (text i d there).fields) k j jat in
          let is : at k ≡ j = (let zero_more : 0 + k ≡ k = omega arith in ap at (sym zero_more)) ∙ sym n.0 in
          holds i d there own k f fat f.kind refl j (subst (IsBareAt (held_shape schema.program (text i d there) f.kind)) is (bare k (slot_of schema.program (text i d there) f) (slot_at i d there k f fat)))

      rest_is : ((k : ℕ) (f : Slot) → slice_get d.fields k ≡ Some f → (g : ℕ) (c : Declaration) → IsMember schema g (at k) c → TakesNone schema.program (at k)) → (j : ℕ) → IsIn j js → TakesNone schema.program j
      rest_is again j (k, jat) =
          let n = number_is at 0 (length (text i d there).fields) k j jat in
          let is : at k ≡ j = (let zero_more : 0 + k ≡ k = omega arith in ap at (sym zero_more)) ∙ sym n.0 in
          let g = get_some (text i d there).fields k n.1 in
          let f = slot_of schema.program (text i d there) g.0 in
          let fat = slot_at i d there k g.0 g.1 in
          let a = applies k f fat in
          subst (TakesNone schema.program) is (again k f fat a.1.h a.1.d a.1.member)
        where
          is_own : IsOwn schema i
          is_own = (text i d there, text_at i d there, not_line (text i d there) own)

          by : (k : ℕ) (f : Slot) → IsBareAt f.of (at k) → (f.of ≡ type.flag) ⊎ IsFormedOver schema (field_variables d) f.of → (c : ℕ) × AppliesBare schema (at k) c
          by k f (us, is) (inl flagged) = absurd (flag_bare (at k) us (sym flagged ∙ is))
          by k f (us, is) (inr formed) = (count_of us, (subst (IsFormedOver schema (field_variables d)) is formed).0)

          applies : (k : ℕ) (f : Slot) → slice_get d.fields k ≡ Some f → (c : ℕ) × AppliesBare schema (at k) c
          applies k f fat = by k f (bare k f fat) (fields_are_formed schema good i d k f is_own there fat).type

  -- and from what is written to entries

  entry_of : (i : ℕ) (t : DeclText) → At schema.program i t → (e : Declaration) × (slice_get schema.decls i ≡ Some e) × (e.fields ≡ map (slot_of schema.program t) t.fields) × (e.head ≡ head_in schema.program (own_type t))
  entry_of i t at =
      let below = slice_get_within schema.program i t at in
      let count = good.count in
      let e = get_some schema.decls i (omega (arith, below, count)) in
      let is = good.entries i t e.0 at e.1 in
      (e.0, e.1, ap (λ (x : Declaration). x.fields) is.1, ap (λ (x : Declaration). x.head) is.1)

  kind_meant : (t : DeclText) (kind : KindText) (j : ℕ) → HoldsBare schema.program t kind j → IsBareAt (held_shape schema.program t kind) j
  kind_meant t nat j h = absurd h
  kind_meant t flag j h = absurd h
  kind_meant t (call var) j h = absurd h
  kind_meant t (of u) j h = bare_meant schema.program t u j h

  to_entries : (j : ℕ) → TakesNone schema.program j → HasNoBytes schema j
  to_entries _ (takes_none j t js here fields rest) = no_bytes j e (λ k. get_or js k 0) e_at bare_is (rest_is (λ i k at. to_entries i (rest i (k, at))))
    where
      e : Declaration
      e = (entry_of j t here).0

      e_at : slice_get schema.decls j ≡ Some e
      e_at = (entry_of j t here).1

      field : (k : ℕ) (f : Slot) → slice_get e.fields k ≡ Some f → (g : FieldText) × (slice_get t.fields k ≡ Some g) × (slot_of schema.program t g ≡ f)
      field k f at = get_of (slot_of schema.program t) t.fields k f (sym (ap (λ (fs : List Slot). slice_get fs k) (entry_of j t here).2) ∙ at)

      index_at : (k : ℕ) (f : Slot) → slice_get e.fields k ≡ Some f → (i : ℕ) × (slice_get js k ≡ Some i)
      index_at k f at = let g = field k f at in let below = slice_get_within t.fields k g.0 g.1 in let count = fields.count in get_some js k (omega (arith, below, count))

      bare_is : (k : ℕ) (f : Slot) → slice_get e.fields k ≡ Some f → IsBareAt f.of (get_or js k 0)
      bare_is k f at =
          let g = field k f at in
          let i = index_at k f at in
          let held = kind_meant t (g.0).kind i.0 (fields.each k i.0 g.0 g.1 i.1) in
          subst (IsBareAt f.of) (sym (get_or_from_slice_get js k i.0 0 i.1)) (subst (λ (x : Slot). IsBareAt x.of i.0) g.2 held)

      rest_is : ((i k : ℕ) → slice_get js k ≡ Some i → HasNoBytes schema i) → (k : ℕ) (f : Slot) → slice_get e.fields k ≡ Some f → HasNoBytes schema (get_or js k 0)
      rest_is again k f at =
          let i = index_at k f at in
          subst (HasNoBytes schema) (sym (get_or_from_slice_get js k i.0 0 i.1)) (again i.0 k i.1)

  some_member : (h : ℕ) → h < length (types_of schema.program) → (i : ℕ) × (d : Declaration) × IsMember schema h i d
  some_member h known =
      let found = get_some (types_of schema.program) h known in
      let numbered = number_of schema.program h found.0 found.1 in
      by found.0 numbered (type_first schema.program found.0 (Some h) numbered)
    where
      by : (name : List ℕ) → type_named schema.program name ≡ Some h → ((k : Option ℕ) × FirstOf schema.program name k × (is_some k ≡ true)) → (i : ℕ) × (d : Declaration) × IsMember schema h i d
      by name numbered (Some i, first, is) =
          let one = first.0.1 in
          let e = entry_at schema good i first.0.0 one.there in
          (i, e.0, member schema good name h numbered i first.0.0 e.0 one e.1 e.2)
      by name numbered (None, none, is) = absurd (true≢false (sym is))

pub empties_tell : (schema : Declared) → IsSchema schema → EmptiesTell schema
empties_tell schema good = record {
  to = to_entries schema good;
  from = λ h i d m none. from_entries schema good i none h d m;
  made = some_member schema good;
  even = even schema good;
}

pub images_are_formed : ImageIsFormed
images_are_formed old new T layers = image_has_values old new T layers (empties_tell old layers.old_is) (empties_tell new layers.new_is)
