-- A lifted value is as deep as before: by induction on the value.
use Rattle.std.proofs.Common.{◌≡◌, inl, inr, ℕ, suc, max, List, [], ◌∷◌, ◌++◌, slice_get, Some, refl, ap, ap₂, sym, ◌∙◌, subst, arith}
use Rattle.tl_schema.specs.Types.{Shape, Shapes}
use Rattle.tl_schema.specs.Types as type
use Rattle.tl_schema.specs.Closing.{closed, list_of_shapes}
use Rattle.tl_schema.specs.Schemas.{Slot, Declaration, Declared}
use Rattle.tl_types.specs.Values.{ValueView, int, long, nat, opaque, text, truth, absent, list, node, call, ValueViews, no_values, value, values_of, list_of, depth, depth_of}
use Rattle.tl_types.specs.Parts.{fields_in}
use Rattle.tl_types.specs.Spelling.{Spells, SpellEach, SpellFields, boxed, bare}
use Rattle.tl_layers.specs.LayerLaws.{LiftingKeepsDepth}
use Rattle.tl_layers.specs.Plain.{IsPlain, ArePlain, HasNamedBits}
use Rattle.tl_layers.specs.Lifted.{lifted, lifted_each, placed, old_fields, new_fields}
use Rattle.tl_layers.specs.Reached.{Reached, named}
use Rattle.tl_layers.proofs.ImageTypes.{NamedInList, named_in_list}
use Rattle.tl_layers.proofs.WovenFields.{AreWoven, ended, kept, added, IsKnown, AreKnown}
use Rattle.tl_layers.proofs.OldBytes.{HasMoved, are_known, part_known}
use Rattle.tl_layers.proofs.MovedDeclarations.{has_moved}

module _ (old new : Declared) (Known : ℕ → Type 0) where
  abbrev Keeps : ValueView → Type 0
  Keeps v = (T : Shape) (b : List ℕ) → IsKnown old new Known T → IsPlain old v → Spells old T v b → depth (lifted old new v) ≡ depth v

  abbrev EachKeeps : ValueViews → Type 0
  EachKeeps no_values = Unit {0}
  EachKeeps (value v vs) = Keeps v × EachKeeps vs

  absent_depth : (v : ValueView) → v ≡ absent → depth (lifted old new v) ≡ depth v
  absent_depth v is = subst (λ u. depth (lifted old new u) ≡ depth u) (sym is) refl

  fields_depth : (args : List Shape) (before after : List ValueView) (fs gs : List Slot) (vs us : ValueViews) (b : List ℕ) → AreWoven old new before fs vs after gs us → EachKeeps vs → AreKnown old new Known args fs → ArePlain old vs
      → SpellFields old args before fs vs b → depth_of us ≡ depth_of vs
  fields_depth args before after _ _ _ _ b (ended _ _) keeps known plain spelled = refl
  fields_depth args before after _ _ _ _ b (kept _ _ f g fs gs v vs us same stands woven) keeps known plain (x, y, is, here, rest) =
      let one : depth (lifted old new v) ≡ depth v = elim here [ inl (there, spells) ↦ keeps.0 (closed args f.of) x known.0 plain.0 spells | inr (clear, none, no_bytes) ↦ absent_depth v none ] in
      ap₂ max one (fields_depth args (before ++ v ∷ []) (after ++ lifted old new v ∷ []) fs gs vs us y woven keeps.1 known.1 plain.1 rest)
  fields_depth args before after _ _ _ _ b (added _ _ g fs gs vs us clear woven) keeps known plain spelled =
      let rest = fields_depth args before (after ++ absent ∷ []) fs gs vs us b woven keeps known plain spelled in
      let least : max 0 (depth_of us) ≡ depth_of us = omega arith in least ∙ rest

  each_depth : (T : Shape) (vs : ValueViews) (b : List ℕ) → IsKnown old new Known T → EachKeeps vs → ArePlain old vs → SpellEach old T vs b → depth_of (values_of (lifted_each old new vs)) ≡ depth_of vs
  each_depth T no_values b known keeps plain spelled = refl
  each_depth T (value v vs) b known keeps plain (x, y, is, here, rest) = ap₂ max (keeps.0 T x known plain.0 here) (each_depth T vs y known keeps.1 plain.1 rest)

  module _ (moved : (i : ℕ) (d : Declaration) → Known i → slice_get old.decls i ≡ Some d → HasMoved old new Known i d) where
    record_depth : (i : ℕ) (d : Declaration) (args : Shapes) (vs : ValueViews) (b : List ℕ) (there : slice_get old.decls i ≡ Some d) (m : HasMoved old new Known i d)
        → ((j : ℕ) → NamedInList old (list_of_shapes args) j → Known j) → EachKeeps vs → HasNamedBits (fields_in (slice_get old.decls i)) (list_of vs) × ArePlain old vs
        → SpellFields old (list_of_shapes args) [] d.fields vs b
        → depth_of (values_of (placed (old_fields old i) (new_fields old new i) (lifted_each old new vs))) ≡ depth_of vs
    record_depth i d args vs b there m of_args keeps plain spelled =
        let bits : HasNamedBits d.fields (list_of vs) = subst (λ o. HasNamedBits (fields_in o) (list_of vs)) there plain.0 in
        let woven = m.fields (list_of_shapes args) vs b spelled bits in
        let olds : old_fields old i ≡ d.fields = ap fields_in there in
        let news : new_fields old new i ≡ m.e.fields = ap fields_in m.there in
        ap (λ fs. depth_of (values_of (placed fs (new_fields old new i) (lifted_each old new vs)))) olds ∙ ap (λ gs. depth_of (values_of (placed d.fields gs (lifted_each old new vs)))) news
        ∙ fields_depth (list_of_shapes args) [] [] d.fields m.e.fields vs (values_of (placed d.fields m.e.fields (lifted_each old new vs))) b woven keeps (are_known old new Known moved (list_of_shapes args) d.fields m.known of_args) plain.1 spelled

    node_depth : (i : ℕ) (vs : ValueViews) → EachKeeps vs → Keeps (node i vs)
    node_depth i vs keeps T b known plain (d, args, prefix, rest, boxed h is member before, bytes, fields) =
        let inside = part_known old new Known moved T (type.boxed h args) is known in
        let m = moved i d (inside i (inl (d, member))) member.there in
        ap suc (record_depth i d args vs rest member.there m (λ j named. inside j (inr (named_in_list old args j named))) keeps plain fields)
    node_depth i vs keeps T b known plain (d, args, prefix, rest, bare is there before, bytes, fields) =
        let inside = part_known old new Known moved T (type.bare i args) is known in
        let m = moved i d (inside i (inl refl)) there in
        ap suc (record_depth i d args vs rest there m (λ j named. inside j (inr (named_in_list old args j named))) keeps plain fields)

    call_depth : (i : ℕ) (vs : ValueViews) → EachKeeps vs → Keeps (call i vs)
    call_depth i vs keeps T b known plain (d, rest, is, function, bytes, fields) =
        let m = moved i d (part_known old new Known moved T type.call is known i (d, function)) function.there in
        ap suc (record_depth i d type.no_shapes vs rest function.there m (λ j none. elim none [ ]) keeps plain fields)

    list_depth : (vs : ValueViews) → EachKeeps vs → Keeps (list vs)
    list_depth vs keeps T b known plain (is_boxed, item, rest, is, few, bytes, spelled) =
        ap suc (each_depth item vs rest (part_known old new Known moved T (type.vector is_boxed item) is known) keeps plain spelled)

    mutual
      pub keeps_depth : (v : ValueView) → Keeps v
      keeps_depth (int z) T b known plain s = refl
      keeps_depth (long z) T b known plain s = refl
      keeps_depth (nat n) T b known plain s = refl
      keeps_depth (opaque x) T b known plain s = refl
      keeps_depth (text x) T b known plain s = refl
      keeps_depth truth T b known plain s = refl
      keeps_depth absent T b known plain s = refl
      keeps_depth (list vs) T b known plain s = list_depth vs (keeps_each vs) T b known plain s
      keeps_depth (node i vs) T b known plain s = node_depth i vs (keeps_each vs) T b known plain s
      keeps_depth (call i vs) T b known plain s = call_depth i vs (keeps_each vs) T b known plain s

      keeps_each : (vs : ValueViews) → EachKeeps vs
      keeps_each no_values = tt
      keeps_each (value v vs) = (keeps_depth v, keeps_each vs)

pub lifting_keeps_depth : LiftingKeepsDepth
lifting_keeps_depth old new T layers v b plain spelled = keeps_depth old new (Reached old T) (has_moved old new T layers) v T b (λ i is. named i is) plain spelled
