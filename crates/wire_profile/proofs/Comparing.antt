-- Types and lists of fields, compared part by part.
use Rattle.std.proofs.Common.{◌≡◌, ℕ, zero, suc, ◌<◌, List, [], ◌∷◌, length, map, drop, get_or, Bool, true, false, ◌&&◌, ◌==◌, refl, ap, ◌∙◌, sym, arith, None, Vec, vec_len, Global, eq-eqb, true≢false}
use Rattle.std.proofs.lemmas.Bool.{ne_eqb}
use Rattle.tl_schema.specs.Types.{no_shapes, shapes_of}
use Rattle.tl_schema.specs.Types as type
use Rattle.tl_schema.specs.Seen.{shape, slot}
use Rattle.tl_schema.specs.declared.schema.TypeRef as ref
use Rattle.tl_schema.specs.declared.schema.TypeRef.{TypeRef}
use Rattle.tl_schema.specs.declared.schema.SchemaField.{SchemaField}
use Rattle.tl_types.proofs.Views.{shape-Boxed, shape-Bare}
use Rattle.tl_plan.specs.Types.{is_same, are_same}
use Rattle.wire_forms.specs.Forms.{part_view}
use Rattle.wire_forms.specs.declared.form.Part.{Part}
use Rattle.wire_profile.specs.Indexes.{ProfileView}
use Rattle.wire_profile.specs.inner.Heads.{head_in}
use Rattle.wire_profile.specs.Faults.{is_slot, are_slots}

no_arguments : (args : List TypeRef) → (length args == 0) ≡ are_same no_shapes (shapes_of (map shape args))
no_arguments [] = refl
no_arguments (t ∷ ts) = ne_eqb (suc (length ts)) 0 (λ e. omega (arith, e))

same_here : (n h : ℕ) (b : Bool) → n ≡ h → b ≡ ((n == h) && b)
same_here n h b e = rw (eq-eqb n h e) refl

pub same_boxed : (t : TypeRef) (h n : ℕ) (args : Vec TypeRef Global) (b : Bool) → t ≡ ref.Boxed h args → n ≡ h → b ≡ (vec_len args == 0) → b ≡ is_same (type.boxed n no_shapes) (shape t)
same_boxed t h n args b is e none = rw (shape-Boxed t h args is) (none ∙ ap (λ (k : ℕ). k == 0) args.ok.0 ∙ no_arguments args.items ∙ same_here n h _ e)

pub same_bare : (t : TypeRef) (h n : ℕ) (args : Vec TypeRef Global) (b : Bool) → t ≡ ref.Bare h args → n ≡ h → b ≡ (vec_len args == 0) → b ≡ is_same (type.bare n no_shapes) (shape t)
same_bare t h n args b is e none = rw (shape-Bare t h args is) (none ∙ ap (λ (k : ℕ). k == 0) args.ok.0 ∙ no_arguments args.items ∙ same_here n h _ e)

-- ---- lists

and_false : (b : Bool) → (b && false) ≡ false
and_false true = refl
and_false false = refl

pub other_count : (p : ProfileView) (parts : List Part) (slots : List SchemaField) → (length parts ≡ length slots → ⊥) → false ≡ are_slots p (map part_view parts) (map slot slots)
other_count p [] [] differ = absurd (differ refl)
other_count p [] (s ∷ ss) differ = refl
other_count p (part ∷ parts) [] differ = refl
other_count p (part ∷ parts) (s ∷ ss) differ =
    sym (ap (λ (b : Bool). is_slot p (part_view part) (slot s) && b) (sym (other_count p parts ss (λ e. differ (ap suc e)))) ∙ and_false (is_slot p (part_view part) (slot s)))

-- what the lists have from i on
abbrev pub slots_from : ProfileView → List Part → List SchemaField → ℕ → Bool
slots_from p parts fields i = are_slots p (map part_view (drop i parts)) (map slot (drop i fields))

pub slots_more : (p : ProfileView) (i : ℕ) (part : Part) (field : SchemaField) (parts : List Part) (fields : List SchemaField) → i < length parts → i < length fields
    → slots_from p parts fields i ≡ (is_slot p (part_view (get_or parts i part)) (slot (get_or fields i field)) && slots_from p parts fields (suc i))
slots_more p i part field [] fields lt few = absurd (omega arith)
slots_more p i part field (q ∷ parts) [] lt few = absurd (omega arith)
slots_more p zero part field (q ∷ parts) (f ∷ fields) lt few = refl
slots_more p (suc i) part field (q ∷ parts) (f ∷ fields) lt few = slots_more p i part field parts fields (omega arith) (omega arith)

pub slots_none : (p : ProfileView) (i : ℕ) (parts : List Part) (fields : List SchemaField) → length parts ≡ i → length fields ≡ i → slots_from p parts fields i ≡ true
slots_none p zero [] [] e h = refl
slots_none p (suc i) [] [] e h = refl
slots_none p i [] (f ∷ fields) e h = absurd (omega arith)
slots_none p i (q ∷ parts) [] e h = absurd (omega arith)
slots_none p zero (q ∷ parts) (f ∷ fields) e h = absurd (omega arith)
slots_none p (suc i) (q ∷ parts) (f ∷ fields) e h = slots_none p i parts fields (omega arith) (omega arith)

arguments_are : (h : ℕ) (args : List TypeRef) → (length args == 0) ≡ false → None ≡ head_in (type.boxed h (shapes_of (map shape args)))
arguments_are h [] e = absurd (true≢false e)
arguments_are h (t ∷ ts) e = refl

pub no_head : (t : TypeRef) (h : ℕ) (args : Vec TypeRef Global) (b : Bool) → t ≡ ref.Boxed h args → b ≡ (vec_len args == 0) → b ≡ false → None ≡ head_in (shape t)
no_head t h args b is e some = rw (shape-Boxed t h args is) (arguments_are h args.items (ap (λ (k : ℕ). k == 0) (sym args.ok.0) ∙ sym e ∙ some))
