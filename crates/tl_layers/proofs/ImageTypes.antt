-- Images of types, and what types name, with others in place of variables.
use Rattle.std.proofs.Common.{◌≡◌, ◌⊎◌, inl, inr, ℕ, zero, suc, List, [], ◌∷◌, map, get_or, refl, ap, ap₂}
use Rattle.tl_schema.specs.Types.{Shape, Shapes, no_shapes, shape}
use Rattle.tl_schema.specs.Types as type
use Rattle.tl_schema.specs.Closing.{closed, closed_each, list_of_shapes}
use Rattle.tl_schema.specs.Schemas.{Declared}
use Rattle.tl_layers.specs.Counterparts.{image, image_each, head_image, entry_image}
use Rattle.tl_layers.specs.Reached.{Names, NamesInOne}

module _ (old new : Declared) where
  pub images_listed : (args : Shapes) → list_of_shapes (image_each old new args) ≡ map (image old new) (list_of_shapes args)
  images_listed no_shapes = refl
  images_listed (shape T args) = ap (λ (Us : List Shape). image old new T ∷ Us) (images_listed args)

  image_of_variable : (args : List Shape) (i n : ℕ) → image old new (get_or args i (type.var n)) ≡ get_or (map (image old new) args) i (type.var n)
  image_of_variable [] i n = refl
  image_of_variable (T ∷ args) zero n = refl
  image_of_variable (T ∷ args) (suc i) n = image_of_variable args i n

  mutual
    pub image_closed : (args : List Shape) (T : Shape) → image old new (closed args T) ≡ closed (map (image old new) args) (image old new T)
    image_closed args type.int = refl
    image_closed args type.long = refl
    image_closed args type.nat = refl
    image_closed args (type.opaque n) = refl
    image_closed args type.str = refl
    image_closed args type.raw = refl
    image_closed args type.flag = refl
    image_closed args type.call = refl
    image_closed args (type.var i) = image_of_variable args i i
    image_closed args (type.vector is_boxed T) = ap (type.vector is_boxed) (image_closed args T)
    image_closed args (type.boxed h ss) = ap (type.boxed (head_image old new h)) (images_closed args ss)
    image_closed args (type.bare i ss) = ap (type.bare (entry_image old new i)) (images_closed args ss)

    images_closed : (args : List Shape) (ss : Shapes) → image_each old new (closed_each args ss) ≡ closed_each (map (image old new) args) (image_each old new ss)
    images_closed args no_shapes = refl
    images_closed args (type.shape T ss) = ap₂ type.shape (image_closed args T) (images_closed args ss)

-- ---- names

module _ (schema : Declared) where
  -- one of these types names the declaration
  abbrev pub NamedInList : List Shape → ℕ → Type 0
  NamedInList [] i = ⊥
  NamedInList (T ∷ args) i = Names schema T i ⊎ NamedInList args i

  pub named_in_list : (args : Shapes) (i : ℕ) → NamedInList (list_of_shapes args) i → NamesInOne schema args i
  named_in_list no_shapes i x = elim x [ ]
  named_in_list (shape T args) i (inl here) = inl here
  named_in_list (shape T args) i (inr there) = inr (named_in_list args i there)

  named_by_variable : (args : List Shape) (k n i : ℕ) → Names schema (get_or args k (type.var n)) i → NamedInList args i
  named_by_variable [] k n i there = elim there [ ]
  named_by_variable (T ∷ args) zero n i there = inl there
  named_by_variable (T ∷ args) (suc k) n i there = inr (named_by_variable args k n i there)

  mutual
    pub names_closed : (args : List Shape) (T : Shape) (i : ℕ) → Names schema (closed args T) i → Names schema T i ⊎ NamedInList args i
    names_closed args type.int i is = elim is [ ]
    names_closed args type.long i is = elim is [ ]
    names_closed args type.nat i is = elim is [ ]
    names_closed args (type.opaque n) i is = elim is [ ]
    names_closed args type.str i is = elim is [ ]
    names_closed args type.raw i is = elim is [ ]
    names_closed args type.flag i is = elim is [ ]
    names_closed args type.call i is = inl is
    names_closed args (type.var k) i is = inr (named_by_variable args k k i is)
    names_closed args (type.vector is_boxed T) i is = names_closed args T i is
    names_closed args (type.boxed h ss) i (inl is) = inl (inl is)
    names_closed args (type.boxed h ss) i (inr is) = elim (all_closed args ss i is) [ inl own ↦ inl (inr own) | inr arg ↦ inr arg ]
    names_closed args (type.bare j ss) i (inl is) = inl (inl is)
    names_closed args (type.bare j ss) i (inr is) = elim (all_closed args ss i is) [ inl own ↦ inl (inr own) | inr arg ↦ inr arg ]

    all_closed : (args : List Shape) (ss : Shapes) (i : ℕ) → NamesInOne schema (closed_each args ss) i → NamesInOne schema ss i ⊎ NamedInList args i
    all_closed args no_shapes i is = elim is [ ]
    all_closed args (type.shape T ss) i (inl is) = elim (names_closed args T i is) [ inl own ↦ inl (inl own) | inr arg ↦ inr arg ]
    all_closed args (type.shape T ss) i (inr is) = elim (all_closed args ss i is) [ inl own ↦ inl (inr own) | inr arg ↦ inr arg ]
