-- Declarations with their keys, index by index.
use Rattle.std.proofs.Common.{◌≡◌, ℕ, zero, suc, ◌<◌, ◌≤◌, List, [], ◌∷◌, ◌++◌, length, get_or, Option, Some, None, refl, ap, sym, ◌∙◌, subst, arith, true, string_bytes, map}
use Rattle.std.specs.Prelude.{slice_get}
use Rattle.tl_schema.specs.Schemas.{Declaration, Declared}
use Rattle.tl_types.specs.Parts.{fields_in, name_in}
use Rattle.tl_show.specs.Shown.{name_text}
use Rattle.tl_show.specs.Reading.{AreApart, record_keys}
use Rattle.tl_show.specs.inner.Keyed.{AreKeyed, IsKeyed, keyed_slot}
use Rattle.tl_show.specs.declared.keyed.KeyedEntry.{KeyedEntry}

pub keyed_push : (ds : List Declaration) (es : List KeyedEntry) (d : Declaration) (e : KeyedEntry) → AreKeyed ds es → IsKeyed d e → AreKeyed (ds ++ d ∷ []) (es ++ e ∷ [])
keyed_push [] [] d e before next = (next, tt)
keyed_push [] (f ∷ es) d e before next = absurd before
keyed_push (c ∷ ds) [] d e before next = absurd before
keyed_push (c ∷ ds) (f ∷ es) d e before next = (before.0, keyed_push ds es d e before.1 next)

-- the entry at an index is that of the declaration there
pub keyed_there : (ds : List Declaration) (es : List KeyedEntry) (i : ℕ) (e : KeyedEntry) → AreKeyed ds es → i < length es → e ≡ get_or es i e
    → (d : Declaration) × (slice_get ds i ≡ Some d) × IsKeyed d e
keyed_there [] [] i e are within at = absurd (omega arith)
keyed_there [] (f ∷ es) i e are within at = absurd are
keyed_there (d ∷ ds) [] i e are within at = absurd are
keyed_there (d ∷ ds) (f ∷ es) zero e are within at = (d, refl, subst (IsKeyed d) (sym at) are.0)
keyed_there (d ∷ ds) (f ∷ es) (suc i) e are within at = keyed_there ds es i e are.1 (omega arith) at

pub keyed_past : (ds : List Declaration) (es : List KeyedEntry) (i : ℕ) → AreKeyed ds es → length es ≤ i → slice_get ds i ≡ None
keyed_past [] [] i are past = refl
keyed_past [] (e ∷ es) i are past = absurd are
keyed_past (d ∷ ds) [] i are past = absurd are
keyed_past (d ∷ ds) (e ∷ es) zero are past = absurd (omega arith)
keyed_past (d ∷ ds) (e ∷ es) (suc i) are past = keyed_past ds es i are.1 (omega arith)

-- a schema's entries, as they are seen
pub seen : (s t : Declared) (es xs : List KeyedEntry) → AreKeyed s.decls es → s ≡ t → xs ≡ es → AreKeyed t.decls xs
seen s t es xs are same list = subst (λ (d : Declared). AreKeyed d.decls xs) same (subst (AreKeyed s.decls) (sym list) are)

-- what stands at an index
module _ (ds : List Declaration) (es : List KeyedEntry) (i : ℕ) (are : AreKeyed ds es) where
  pub text_there : (e : KeyedEntry) → i < length es → e ≡ get_or es i e → string_bytes e.name ≡ name_text (name_in (slice_get ds i))
  text_there e within at = let t = keyed_there ds es i e are within at in t.2.text ∙ ap (λ o. name_text (name_in o)) (sym t.1)

  pub slots_there : (e : KeyedEntry) → i < length es → e ≡ get_or es i e → map keyed_slot e.fields.items ≡ fields_in (slice_get ds i)
  slots_there e within at = let t = keyed_there ds es i e are within at in t.2.slots ∙ ap fields_in (sym t.1)

  pub keys_there : (e : KeyedEntry) → i < length es → e ≡ get_or es i e → e.apart ≡ true → AreApart (record_keys (fields_in (slice_get ds i)))
  keys_there e within at apart =
      let t = keyed_there ds es i e are within at in
      subst (λ (o : Option Declaration). AreApart (record_keys (fields_in o))) (sym t.1) (t.2.keys apart)

  pub text_past : length es ≤ i → [] ≡ name_text (name_in (slice_get ds i))
  text_past past = ap (λ o. name_text (name_in o)) (sym (keyed_past ds es i are past))

  pub slots_past : length es ≤ i → [] ≡ fields_in (slice_get ds i)
  slots_past past = ap fields_in (sym (keyed_past ds es i are past))
