-- The eight fields of a saved client's value.
use Rattle.std.proofs.Common.{◌≡◌, [], ◌∷◌, refl, ap, ◌∙◌}
use Rattle.tl_types.specs.Values.{ValueView, ValueViews, value, node, values_of}
use Rattle.wire_forms.specs.declared.numbers.TheConstants.{CLIENT}

field : (a b : ValueView) (ts us : ValueViews) → a ≡ b → ts ≡ us → value a ts ≡ value b us
field a b ts us e f = ap (λ (x : ValueView). value x ts) e ∙ ap (value b) f

pub client_fields : (a b c d i j k l a' b' c' d' i' j' k' l' : ValueView) → a ≡ a' → b ≡ b' → c ≡ c' → d ≡ d' → i ≡ i' → j ≡ j' → k ≡ k' → l ≡ l'
    → node CLIENT (values_of (a ∷ b ∷ c ∷ d ∷ i ∷ j ∷ k ∷ l ∷ [])) ≡ node CLIENT (values_of (a' ∷ b' ∷ c' ∷ d' ∷ i' ∷ j' ∷ k' ∷ l' ∷ []))
client_fields a b c d i j k l a' b' c' d' i' j' k' l' p q r s t u v w =
    ap (node CLIENT) (field _ _ _ _ p (field _ _ _ _ q (field _ _ _ _ r (field _ _ _ _ s (field _ _ _ _ t (field _ _ _ _ u (field _ _ _ _ v (field _ _ _ _ w refl))))))))
