-- Values of fields by their names, and what lifting keeps of one value.
use Rattle.std.proofs.Common.{◌≡◌, ◌≢◌, ℕ, zero, suc, ◌<◌, List, [], ◌∷◌, ◌++◌, map, length, get_or, slice_get, Some, None, refl, ap, sym, ◌∙◌, subst, true, false, bytes_eq, if◌then◌else◌, arith, pow_pos, ◌/◌, ◌%◌, ◌^◌, ◌==◌}
use Rattle.std.proofs.Math.Nat.{div-eq_of_lt}
use Rattle.std.proofs.lemmas.Bool.{false_from_ne_true}
use Rattle.std.proofs.lemmas.Option.{none-some, same_Some}
use Rattle.std.proofs.lemmas.Slice.Eq.{bytes_eq-Decides}
use Rattle.tl_graph.specs.Firsts.{First}
use Rattle.tl_names.proofs.Indexes.{HoldsAt}
use Rattle.tl_names.proofs.Positions.{first_position}
use Rattle.tl_schema.specs.Types.{Shape}
use Rattle.tl_schema.specs.Schemas.{Slot, Declared}
use Rattle.tl_types.specs.Values.{ValueView, int, long, nat, opaque, text, truth, absent, list, node, call, ValueViews, no_values, value, list_of, count}
use Rattle.tl_types.specs.Conditions.{is_bit, bits_of}
use Rattle.tl_types.specs.Spelling.{SpellFields}
use Rattle.tl_layers.specs.Breaks.{field_index}
use Rattle.tl_layers.specs.Lifted.{lifted, lifted_each, value_named}

-- ---- lists

module _ {X : Type 0} where
  pub get_next : (xs ys : List X) (y : X) → slice_get (xs ++ y ∷ ys) (length xs) ≡ Some y
  get_next [] ys y = refl
  get_next (x ∷ xs) ys y = get_next xs ys y

  pub get_before : (xs ys : List X) (k : ℕ) (x : X) → slice_get (xs ++ ys) k ≡ Some x → k < length xs → slice_get xs k ≡ Some x
  get_before [] ys k x at below = absurd (omega (arith, below))
  get_before (z ∷ xs) ys zero x at below = at
  get_before (z ∷ xs) ys (suc k) x at below = get_before xs ys k x at (omega (arith, below))

  pub get_later : (xs ys : List X) (k : ℕ) (x : X) → slice_get xs k ≡ Some x → slice_get (xs ++ ys) k ≡ Some x
  get_later [] ys k x at = absurd (none-some x at)
  get_later (z ∷ xs) ys zero x at = at
  get_later (z ∷ xs) ys (suc k) x at = get_later xs ys k x at

  pub get_made : {Y : Type 0} (f : X → Y) (xs : List X) (k : ℕ) (x : X) (d : Y) → slice_get xs k ≡ Some x → get_or (map f xs) k d ≡ f x
  get_made f [] k x d at = absurd (none-some x at)
  get_made f (z ∷ xs) zero x d at = ap f (same_Some z x at)
  get_made f (z ∷ xs) (suc k) x d at = get_made f xs k x d at

  pub get_mapped : {Y : Type 0} (f : X → Y) (xs : List X) (k : ℕ) (x : X) → slice_get xs k ≡ Some x → slice_get (map f xs) k ≡ Some (f x)
  get_mapped f [] k x at = absurd (none-some x at)
  get_mapped f (z ∷ xs) zero x at = ap (λ (y : X). Some (f y)) (same_Some z x at)
  get_mapped f (z ∷ xs) (suc k) x at = get_mapped f xs k x at

  pub get_some : (xs : List X) (k : ℕ) → k < length xs → (x : X) × (slice_get xs k ≡ Some x)
  get_some [] k below = absurd (omega (arith, below))
  get_some (x ∷ xs) zero below = (x, refl)
  get_some (x ∷ xs) (suc k) below = get_some xs k (omega (arith, below))

-- ---- fields by name

-- no two fields have one name
abbrev pub AreApart : List Slot → Type 0
AreApart fs = (j k : ℕ) (f g : Slot) → slice_get fs j ≡ Some f → slice_get fs k ≡ Some g → f.name ≡ g.name → j ≡ k

pub index_tells : (fs : List Slot) (name : List ℕ) → First (HoldsAt (λ f. name ≡ f.name) fs) (field_index fs name)
index_tells fs name = first_position (λ f. bytes_eq name f.name) (λ f. name ≡ f.name) (λ f. bytes_eq-Decides name f.name) fs

pub index_some : (fs : List Slot) (name : List ℕ) (k : ℕ) → field_index fs name ≡ Some k → (f : Slot) × (slice_get fs k ≡ Some f) × (f.name ≡ name)
index_some fs name k at = let p = (subst (First (HoldsAt (λ (f : Slot). name ≡ f.name) fs)) at (index_tells fs name)).0 in (p.x, p.there, sym p.has)

pub index_none : (fs : List Slot) (name : List ℕ) → field_index fs name ≡ None → (k : ℕ) (f : Slot) → slice_get fs k ≡ Some f → f.name ≢ name
index_none fs name none k f at same = subst (First (HoldsAt (λ (g : Slot). name ≡ g.name) fs)) none (index_tells fs name) k (record { x = f; there = at; has = sym same })

pub value_at : (fs : List Slot) (ws : List ValueView) (name : List ℕ) (k : ℕ) (f : Slot) (w : ValueView) → AreApart fs → slice_get fs k ≡ Some f → slice_get ws k ≡ Some w → f.name ≡ name → value_named fs ws name ≡ w
value_at [] ws name k f w apart at there same = absurd (none-some f at)
value_at (g ∷ fs) [] name k f w apart at there same = absurd (none-some w there)
value_at (g ∷ fs) (u ∷ ws) name zero f w apart at there same =
    let is : bytes_eq name g.name ≡ true = (bytes_eq-Decides name g.name).1 (sym same ∙ ap (λ (x : Slot). x.name) (sym (same_Some g f at))) in
    ap (λ b. if b then u else value_named fs ws name) is ∙ same_Some u w there
value_at (g ∷ fs) (u ∷ ws) name (suc k) f w apart at there same =
    let other : bytes_eq name g.name ≡ false =
    false_from_ne_true _ (λ is. let one : 0 ≡ suc k = apart 0 (suc k) g f refl at (sym ((bytes_eq-Decides name g.name).0 is) ∙ sym same) in omega (arith, one)) in
    ap (λ b. if b then u else value_named fs ws name) other ∙ value_at fs ws name k f w (λ i j x y xi yj e. let up : suc i ≡ suc j = apart (suc i) (suc j) x y xi yj e in omega (arith, up)) at there same

pub value_none : (fs : List Slot) (ws : List ValueView) (name : List ℕ) → ((k : ℕ) (f : Slot) → slice_get fs k ≡ Some f → f.name ≢ name) → value_named fs ws name ≡ absent
value_none [] ws name none = refl
value_none (g ∷ fs) [] name none = refl
value_none (g ∷ fs) (u ∷ ws) name none =
    let other : bytes_eq name g.name ≡ false = false_from_ne_true _ (λ is. none 0 g refl (sym ((bytes_eq-Decides name g.name).0 is))) in
    ap (λ b. if b then u else value_named fs ws name) other ∙ value_none fs ws name (λ k f at. none (suc k) f at)

-- ---- lifted values

pub lifted_list : (old new : Declared) (vs : ValueViews) → lifted_each old new vs ≡ map (lifted old new) (list_of vs)
lifted_list old new no_values = refl
lifted_list old new (value v vs) = ap (λ (us : List ValueView). lifted old new v ∷ us) (lifted_list old new vs)

pub bits_kept : (old new : Declared) (v : ValueView) → bits_of (lifted old new v) ≡ bits_of v
bits_kept old new (int z) = refl
bits_kept old new (long z) = refl
bits_kept old new (nat n) = refl
bits_kept old new (opaque s) = refl
bits_kept old new (text s) = refl
bits_kept old new truth = refl
bits_kept old new absent = refl
bits_kept old new (list vs) = refl
bits_kept old new (node i vs) = refl
bits_kept old new (call i vs) = refl

pub no_bit : (bit : ℕ) → is_bit 0 bit ≡ false
no_bit bit = let none : 0 / 2 ^ bit ≡ 0 = div-eq_of_lt (pow_pos bit) in ap (λ (n : ℕ). n % 2 == 1) none

pub same_count : (schema : Declared) (args : List Shape) (before : List ValueView) (fs : List Slot) (vs : ValueViews) (b : List ℕ) → SpellFields schema args before fs vs b → count vs ≡ length fs
same_count schema args before [] no_values b s = refl
same_count schema args before (f ∷ fs) (value v vs) b (x, y, is, here, rest) = ap suc (same_count schema args (before ++ v ∷ []) fs vs y rest)
same_count schema args before [] (value v vs) b s = elim s [ ]
same_count schema args before (f ∷ fs) no_values b s = elim s [ ]
