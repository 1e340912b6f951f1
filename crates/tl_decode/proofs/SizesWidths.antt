-- The opaque types that a program means are as wide as a double, an int128 or an int256.
use Rattle.std.proofs.Common.{◌≡◌, inl, inr, ℕ, zero, suc, List, get_or, slice_get, Option, Some, None, refl, sym, ap, ◌∙◌, subst}
use Rattle.std.specs.Option.{option_map}
use Rattle.std.proofs.lemmas.Option.{none-some, same_Some, slice_get-map}
use Rattle.tl_program.specs.declared.built_in.BuiltIn.{BuiltIn}
use Rattle.tl_program.specs.declared.built_in.BuiltIn.TheVariants.{Int, Long, Double, Str, Bytes, Vector, Int128, Int256}
use Rattle.tl_program.specs.Trees.{Tree, Trees, named, percent, any_call, no_trees, tree}
use Rattle.tl_program.specs.Program.{KindText, DeclText, FieldText}
use Rattle.tl_program.specs.Program as kind
use Rattle.tl_names.specs.What.{what_of}
use Rattle.tl_names.specs.declared.what.What.{What}
use Rattle.tl_schema.specs.Types.{Shape, Shapes}
use Rattle.tl_schema.specs.Types as type
use Rattle.tl_schema.specs.Closing.{closed, closed_each, list_of_shapes}
use Rattle.tl_schema.specs.Schemas.{Slot, Declaration, Declared}
use Rattle.tl_schema.specs.CheckedPrograms.{IsSchema}
use Rattle.tl_schema.specs.AskedTypes.{asker}
use Rattle.tl_schema.specs.Meanings.{built_in_shape, item_of, meaning, named_shape, slot_of}
use Rattle.tl_schema.proofs.BareShapes.{form_by}
use Rattle.tl_schema.proofs.MeantTypes.{held_shape, meanings}
use Rattle.tl_schema.proofs.Members.{declaration_at}
use Rattle.tl_decode.specs.Sizes.{HasWidths, HaveWidths, HoldsOfTypes}

-- ---- types where they are written

item_wide : (args : Shapes) → HaveWidths args → HasWidths (item_of args)
item_wide type.no_shapes wide = tt
item_wide (type.shape s ss) wide = wide.0

built_in_wide : (b : BuiltIn) → HasWidths (built_in_shape b)
built_in_wide Int = tt
built_in_wide Long = tt
built_in_wide Double = inl refl
built_in_wide Str = tt
built_in_wide Bytes = tt
built_in_wide Vector = tt
built_in_wide Int128 = inr (inl refl)
built_in_wide Int256 = inr (inr refl)

named_wide : (w : What) (args : Shapes) → HaveWidths args → HasWidths (named_shape w args)
named_wide (What.Variable i) args wide = tt
named_wide (What.Base b) args wide = built_in_wide b
named_wide (What.Vector is_boxed) args wide = item_wide args wide
named_wide (What.Type n) args wide = wide
named_wide (What.Constructor i) args wide = wide
named_wide What.Unknown args wide = tt

module _ (ds : List DeclText) (d : DeclText) where
  mutual
    meaning_wide : (t : Tree) → HasWidths (meaning ds d t)
    meaning_wide (named name ts) = named_wide (what_of ds d name) (meanings ds d ts) (meanings_wide ts)
    meaning_wide (percent t) = let wide = meaning_wide t in form_by ds HasWidths (meaning ds d t) wide (λ b u e. subst HasWidths e wide) (λ h args e. subst HasWidths e wide)
    meaning_wide any_call = tt

    meanings_wide : (ts : Trees) → HaveWidths (meanings ds d ts)
    meanings_wide no_trees = tt
    meanings_wide (tree t ts) = (meaning_wide t, meanings_wide ts)

  kind_wide : (k : KindText) → HasWidths (held_shape ds d k)
  kind_wide kind.nat = tt
  kind_wide kind.flag = tt
  kind_wide (kind.call var) = tt
  kind_wide (kind.of t) = meaning_wide t

-- a type that a text asks for
pub types_have_widths : HoldsOfTypes HasWidths
types_have_widths ds text s is = subst HasWidths (sym is.means) (meaning_wide ds asker is.t)

-- ---- types of fields

mapped_wide : (ds : List DeclText) (d : DeclText) (f : Slot) (o : Option FieldText) → option_map (slot_of ds d) o ≡ Some f → HasWidths f.of
mapped_wide ds d f None e = absurd (none-some f e)
mapped_wide ds d f (Some g) e = subst (λ (x : Slot). HasWidths x.of) (same_Some (slot_of ds d g) f e) (kind_wide ds d g.kind)

pub field_wide : (schema : Declared) → IsSchema schema → (i : ℕ) (d : Declaration) (k : ℕ) (f : Slot) → slice_get schema.decls i ≡ Some d → slice_get d.fields k ≡ Some f → HasWidths f.of
field_wide schema good i d k f there at =
    let t = declaration_at schema good i d there in
    mapped_wide schema.program t.0 f (slice_get t.0.fields k) (sym (slice_get-map (slot_of schema.program t.0) t.0.fields k) ∙ sym (ap (λ (x : Declaration). slice_get x.fields k) t.2.1) ∙ at)

-- ---- closed types

argument_wide : (args : Shapes) (i : ℕ) (d : Shape) → HaveWidths args → HasWidths d → HasWidths (get_or (list_of_shapes args) i d)
argument_wide type.no_shapes i d wide other = other
argument_wide (type.shape s ss) zero d wide other = wide.0
argument_wide (type.shape s ss) (suc i) d wide other = argument_wide ss i d wide.1 other

module _ (args : Shapes) (wide : HaveWidths args) where
  mutual
    pub closed_wide : (s : Shape) → HasWidths s → HasWidths (closed (list_of_shapes args) s)
    closed_wide type.int h = tt
    closed_wide type.long h = tt
    closed_wide type.nat h = tt
    closed_wide (type.opaque n) h = h
    closed_wide type.str h = tt
    closed_wide type.raw h = tt
    closed_wide type.flag h = tt
    closed_wide type.call h = tt
    closed_wide (type.var i) h = argument_wide args i (type.var i) wide tt
    closed_wide (type.vector is_boxed s) h = closed_wide s h
    closed_wide (type.boxed k ss) h = closed_each_wide ss h
    closed_wide (type.bare k ss) h = closed_each_wide ss h

    closed_each_wide : (ss : Shapes) → HaveWidths ss → HaveWidths (closed_each (list_of_shapes args) ss)
    closed_each_wide type.no_shapes h = tt
    closed_each_wide (type.shape s ss) h = (closed_wide s h.0, closed_each_wide ss h.1)
