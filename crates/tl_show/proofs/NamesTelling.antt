-- The names of a text's schema tell what they name.
use Rattle.std.proofs.Common.{◌≡◌, inl, inr, ℕ, zero, suc, ◌+◌, ◌<◌, ◌&&◌, not, Bool, true, false, List, [], ◌∷◌, ◌++◌, length, map, get_or, bytes_eq, codes, Some, refl, sym, ap, subst, ◌∙◌, arith}
use Rattle.std.specs.Prelude.{slice_get}
use Rattle.std.proofs.lemmas.Bool.{cases_order, false_from_ne_true}
use Rattle.std.proofs.lemmas.List.{length-map}
use Rattle.std.proofs.lemmas.List.Kept.{AllPairs-cons}
use Rattle.std.proofs.lemmas.Option.{get_or_from_slice_get, none-some, same_Some, slice_get_cases}
use Rattle.std.proofs.lemmas.Slice.Eq.{bytes_eq-Decides}
use Rattle.std.proofs.lemmas.Str.{encodes_same}
use Rattle.tl_program.specs.Program.{DeclText, FieldText}
use Rattle.tl_program.specs.Letters.{first_is, is_letter}
use Rattle.tl_names.proofs.Maps.{slice_get_made}
use Rattle.tl_names.specs.Writing.{At}
use Rattle.tl_schema.proofs.Members.{declaration_at}
use Rattle.tl_schema.specs.CheckedPrograms.{IsSchema}
use Rattle.tl_schema.specs.Meanings.{slot_of}
use Rattle.tl_schema.specs.SameName.{SameName, declared, part, part_names}
use Rattle.tl_schema.specs.Schemas.{Declaration, Declared, Slot}
use Rattle.tl_show.specs.Shown.{name_text}
use Rattle.tl_show.specs.Reading.{AreApart, record_keys}
use Rattle.tl_show.specs.ReadsBack.{EachTextTells, NamesTell}
use Rattle.tl_show.proofs.TextNames.{EachIs, IsNamed, IsNamedSo, text_named}

each_at : {A : Type 0} (Is : A → Type 0) (xs : List A) (i : ℕ) (x : A) → EachIs Is xs → slice_get xs i ≡ Some x → Is x
each_at Is [] i x all at = absurd (none-some x at)
each_at Is (y ∷ xs) zero x all at = subst Is (same_Some y x at) all.0
each_at Is (y ∷ xs) (suc i) x all at = each_at Is xs i x all.1 at

after_first : {X : Type 0} (xs ys : List X) (i : ℕ) → slice_get (xs ++ ys) (length xs + i) ≡ slice_get ys i
after_first [] ys i = let same : 0 + i ≡ i = omega arith in ap (slice_get ys) same
after_first (x ∷ xs) ys i = let same : suc (length xs) + i ≡ suc (length xs + i) = omega arith in ap (slice_get (x ∷ (xs ++ ys))) same ∙ after_first xs ys i

-- ---- keys

abbrev key : Slot → List ℕ
key f = name_text f.name

abbrev name_of : FieldText → List ℕ
name_of f = f.name

module _ (ds : List DeclText) (t : DeclText) where
  abbrev keys : List (List ℕ)
  keys = map key (map (slot_of ds t) t.fields)

  -- key k is the name of field k
  key_at : (k : ℕ) (d : List ℕ) → k < length keys → (g : FieldText) × (slice_get t.fields k ≡ Some g) × (get_or keys k d ≡ name_text g.name)
  key_at k d within = elim (slice_get_cases t.fields k).1 [
    | inl (g, below, here, is) ↦
        (g, here, get_or_from_slice_get keys k (name_text g.name) d (slice_get_made key (map (slot_of ds t) t.fields) k (slot_of ds t g) (slice_get_made (slot_of ds t) t.fields k g here)))
    | inr (past, none) ↦ absurd (omega (arith, within, past, length-map (map (slot_of ds t) t.fields) key, length-map t.fields (slot_of ds t)))
  ]

  -- no name that begins with a letter is the key of the declaration's name
  not_own : (name : List ℕ) → first_is is_letter name ≡ true → bytes_eq (codes "_") (name_text name) ≡ false
  unfolding lib.Utf8.encode
  not_own name letter = false_from_ne_true _ (λ is.
      let same : codes "_" ≡ name = encodes_same (codes "_") name ((bytes_eq-Decides (codes "_") (name_text name)).0 is) in
      let never : false ≡ true = ap (first_is is_letter) same ∙ letter in
      cc)

  module _ (k : ℕ) (at : At ds k t) (named : EachIs IsNamed t.fields) (free : SameName ds k → ⊥) where
    -- two fields have two names
    two_names : (i j : ℕ) (f g : FieldText) → i < j → slice_get t.fields i ≡ Some f → slice_get t.fields j ≡ Some g → f.name ≡ g.name → ⊥
    two_names i j f g before here there same =
        let names = map name_of t.fields in
        let first : slice_get (part_names t) (length t.vars + i) ≡ Some g.name = after_first t.vars names i ∙ slice_get_made name_of t.fields i f here ∙ ap Some same in
        let second : slice_get (part_names t) (length t.vars + j) ≡ Some g.name = after_first t.vars names j ∙ slice_get_made name_of t.fields j g there in
        free (part t (length t.vars + j) at (record { earlier = length t.vars + i; item = g.name; before = omega (arith, before); there = first; here = second }))

    keys_apart : AreApart (record_keys (map (slot_of ds t) t.fields))
    keys_apart = AllPairs-cons (λ a b. bytes_eq a b ≡ false) (codes "_") keys
        (λ i d within. let f = key_at i d within in ap (bytes_eq (codes "_")) f.2 ∙ not_own f.0.name (each_at IsNamed t.fields i f.0 named f.1))
        (λ i j d before within.
        let f = key_at i d (omega (arith, before, within)) in
        let g = key_at j d within in
        false_from_ne_true _ (λ is.
        two_names i j f.0 g.0 before f.1 g.1 (encodes_same f.0.name g.0.name (sym f.2 ∙ (bytes_eq-Decides (get_or keys i d) (get_or keys j d)).0 is ∙ g.2))))

-- ---- declarations

kind_of : (c d b e : Bool) → (b ≡ true → c ≡ false) → (e ≡ true → d ≡ false) → (c && not b) ≡ (d && not e) → c ≡ d
kind_of false false b e f g is = refl
kind_of true true b e f g is = refl
kind_of true false false e f g is = is
kind_of true false true e f g is = f refl
kind_of false true b false f g is = is
kind_of false true b true f g is = sym (g refl)

module _ (schema : Declared) (good : IsSchema schema) (named : EachIs IsNamedSo schema.program) where
  -- two declarations of one kind have two names
  two_names_declared : (i j : ℕ) (d e : Declaration) → i < j → slice_get schema.decls i ≡ Some d → slice_get schema.decls j ≡ Some e → d.function ≡ e.function → d.name ≡ e.name → ⊥
  two_names_declared i j d e before here there kind same =
      let c = declaration_at schema good i d here in
      let f = declaration_at schema good j e there in
      let one = each_at IsNamedSo schema.program i c.0 named c.1 in
      let two = each_at IsNamedSo schema.program j f.0 named f.1 in
      let functions = sym (ap (λ (x : Declaration). x.function) c.2.1) ∙ kind ∙ ap (λ (x : Declaration). x.function) f.2.1 in
      let names = sym (ap (λ (x : Declaration). x.name) c.2.1) ∙ same ∙ ap (λ (x : Declaration). x.name) f.2.1 in
      good.passes.0 j (declared (record {
        earlier = i;
        c = c.0;
        d = f.0;
        before = before;
        there = c.1;
        here = f.1;
        kind = kind_of c.0.function f.0.function c.0.builtin f.0.builtin one.line two.line functions;
        name = names;
      }))

  one_declaration : (i j : ℕ) (d e : Declaration) → slice_get schema.decls i ≡ Some d → slice_get schema.decls j ≡ Some e → d.function ≡ e.function → d.name ≡ e.name → i ≡ j
  one_declaration i j d e here there kind same = elim (cases_order i j) [
    | inl is ↦ is
    | inr (inl less) ↦ absurd (two_names_declared i j d e less here there kind same)
    | inr (inr more) ↦ absurd (two_names_declared j i e d more there here (sym kind) (sym same))
  ]

  fields_apart : (i : ℕ) (d : Declaration) → slice_get schema.decls i ≡ Some d → AreApart (record_keys d.fields)
  fields_apart i d here =
      let t = declaration_at schema good i d here in
      let one = each_at IsNamedSo schema.program i t.0 named t.1 in
      subst (λ (x : Declaration). AreApart (record_keys x.fields)) (sym t.2.1) (keys_apart schema.program t.0 i t.1 one.fields (good.passes.0 i))

  names_tell : NamesTell schema.decls
  names_tell = record { declarations = one_declaration; fields = fields_apart }

pub each_text_tells : EachTextTells
each_text_tells text tokens ds read schema is =
    names_tell schema is.0 (subst (EachIs IsNamedSo) (sym is.1) (text_named text tokens ds read))
