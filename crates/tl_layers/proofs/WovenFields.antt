-- Fields of a record and of its lifted one, side by side, and what spells them.
use Rattle.std.proofs.Common.{◌≡◌, inl, inr, ℕ, List, [], ◌∷◌, ◌++◌, map, refl, ap, sym, ◌∙◌, subst, false}
use Rattle.tl_schema.specs.Types.{Shape}
use Rattle.tl_schema.specs.Closing.{closed}
use Rattle.tl_schema.specs.Schemas.{Slot, Declared}
use Rattle.tl_types.specs.Values.{ValueView, absent, ValueViews, no_values, value, values_of}
use Rattle.tl_types.specs.Conditions.{stands_by}
use Rattle.tl_types.specs.Spelling.{Spells, SpellEach, SpellFields}
use Rattle.tl_layers.specs.Counterparts.{image}
use Rattle.tl_layers.specs.Plain.{IsPlain, ArePlain}
use Rattle.tl_layers.specs.Lifted.{lifted, lifted_each}
use Rattle.tl_layers.specs.Reached.{Names}
use Rattle.tl_layers.proofs.ImageTypes.{image_closed}

module _ (old new : Declared) where
  -- old fields with their values, after values, and new fields with theirs, likewise: each old one stands in its place, and there are others that aren't there
  pub data AreWoven : List ValueView → List Slot → ValueViews → List ValueView → List Slot → ValueViews → Type 0 where
    ended : (before after : List ValueView) → AreWoven before [] no_values after [] no_values
    kept : (before after : List ValueView) (f g : Slot) (fs gs : List Slot) (v : ValueView) (vs us : ValueViews) → g.of ≡ image old new f.of → stands_by g.cond after ≡ stands_by f.cond before
        → AreWoven (before ++ v ∷ []) fs vs (after ++ lifted old new v ∷ []) gs us → AreWoven before (f ∷ fs) (value v vs) after (g ∷ gs) (value (lifted old new v) us)
    added : (before after : List ValueView) (g : Slot) (fs gs : List Slot) (vs us : ValueViews) → stands_by g.cond after ≡ false
        → AreWoven before fs vs (after ++ absent ∷ []) gs us → AreWoven before fs vs after (g ∷ gs) (value absent us)

  module _ (Known : ℕ → Type 0) where
    -- all that the type names is known
    abbrev pub IsKnown : Shape → Type 0
    IsKnown T = (i : ℕ) → Names old T i → Known i

    abbrev pub AreKnown : List Shape → List Slot → Type 0
    AreKnown args [] = Unit {0}
    AreKnown args (f ∷ fs) = IsKnown (closed args f.of) × AreKnown args fs

    -- whatever spells the value spells the lifted one
    abbrev pub Reads : ValueView → Type 0
    Reads v = (T : Shape) (b : List ℕ) → IsKnown T → IsPlain old v → Spells old T v b → Spells new (image old new T) (lifted old new v) b

    abbrev pub EachReads : ValueViews → Type 0
    EachReads no_values = Unit {0}
    EachReads (value v vs) = Reads v × EachReads vs

    pub fields_read : (args : List Shape) (before after : List ValueView) (fs gs : List Slot) (vs us : ValueViews) (b : List ℕ) → AreWoven before fs vs after gs us → EachReads vs → AreKnown args fs → ArePlain old vs
        → SpellFields old args before fs vs b → SpellFields new (map (image old new) args) after gs us b
    fields_read args before after fs gs vs us b (ended _ _) reads known plain spelled = spelled
    fields_read args before after _ _ _ _ b (kept _ _ f g fs gs v vs us same stands woven) reads known plain (x, y, is, here, rest) = (
      x,
      y,
      is,
      elim here [
        | inl (there, spells) ↦ inl (stands ∙ there, subst (λ T. Spells new T (lifted old new v) x) (image_closed old new args f.of ∙ ap (closed (map (image old new) args)) (sym same)) (reads.0 (closed args f.of) x known.0 plain.0 spells))
        | inr (clear, none, no_bytes) ↦ inr (stands ∙ clear, ap (lifted old new) none, no_bytes)
      ],
      fields_read args (before ++ v ∷ []) (after ++ lifted old new v ∷ []) fs gs vs us y woven reads.1 known.1 plain.1 rest,
    )
    fields_read args before after _ _ _ _ b (added _ _ g fs gs vs us clear woven) reads known plain spelled =
        ([], b, refl, inr (clear, refl, refl), fields_read args before (after ++ absent ∷ []) fs gs vs us b woven reads known plain spelled)

    pub each_read : (T : Shape) (vs : ValueViews) (b : List ℕ) → IsKnown T → EachReads vs → ArePlain old vs → SpellEach old T vs b → SpellEach new (image old new T) (values_of (lifted_each old new vs)) b
    each_read T no_values b known reads plain spelled = spelled
    each_read T (value v vs) b known reads plain (x, y, is, here, rest) = (x, y, is, reads.0 T x known plain.0 here, each_read T vs y known reads.1 plain.1 rest)
