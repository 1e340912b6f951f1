-- The nodes that a type names are those of the declarations that it names.
use Rattle.std.proofs.Common.{◌≡◌, inl, inr, ℕ, zero, suc, ◌+◌, ◌<◌, List, [], ◌∷◌, ◌++◌, length, slice_get, Some, Bool, true, false, nat_lt, if◌then◌else◌, refl, ap, sym, subst, arith}
use Rattle.std.proofs.lemmas.Bool.{lt-ltb, ltb-true}
use Rattle.std.proofs.lemmas.Option.{none-some, same_Some}
use Rattle.tl_graph.specs.Paths.{IsIn}
use Rattle.tl_schema.specs.Types.{Shape, Shapes, no_shapes, shape}
use Rattle.tl_schema.specs.Types as type
use Rattle.tl_schema.specs.Schemas.{Slot, Declaration, Declared}
use Rattle.tl_schema.specs.Formed.{IsMember, IsFunction}
use Rattle.tl_layers.specs.Reached.{Names, NamesInOne}
use Rattle.tl_layers.specs.inner.Graphs.{type_node, entry_node, nodes_of, nodes_of_each, nodes_in, type_total}
use Rattle.tl_layers.proofs.NodeLists.{in_first, in_rest, in_either}

module _ (S : Declared) where
  abbrev n : ℕ
  n = length S.decls

  abbrev t : ℕ
  t = type_total S

  -- node k stands for declaration i: it is its own node, or that of its type, or the node of calls
  pub data Meant (k i : ℕ) : Type 0 where
    itself : k ≡ i → i < length S.decls → Meant k i
    of_type : (h : ℕ) (d : Declaration) → k ≡ length S.decls + h → IsMember S h i d → Meant k i
    of_calls : (d : Declaration) → k ≡ length S.decls + type_total S → IsFunction S i d → Meant k i

  -- ---- single nodes

  in_one : (x y : ℕ) → IsIn x (y ∷ []) → x ≡ y
  in_one x y (zero, at) = sym (same_Some y x at)
  in_one x y (suc i, at) = absurd (none-some x at)

  type_there : (h : ℕ) → h < t → IsIn (n + h) (type_node n t h)
  type_there h below = (0, ap (λ (b : Bool). slice_get (if b then (n + h) ∷ [] else []) 0) (lt-ltb h t below))

  type_is : (h k : ℕ) → IsIn k (type_node n t h) → (k ≡ n + h) × (h < t)
  type_is h k = by (nat_lt h t) refl
    where
      by : (b : Bool) → nat_lt h t ≡ b → IsIn k (if b then (n + h) ∷ [] else []) → (k ≡ n + h) × (h < t)
      by true e there = (in_one k (n + h) there, ltb-true h t e)
      by false e (i, at) = absurd (none-some k at)

  entry_there : (i : ℕ) → i < n → IsIn i (entry_node n i)
  entry_there i below = (0, ap (λ (b : Bool). slice_get (if b then i ∷ [] else []) 0) (lt-ltb i n below))

  entry_is : (j k : ℕ) → IsIn k (entry_node n j) → (k ≡ j) × (j < n)
  entry_is j k = by (nat_lt j n) refl
    where
      by : (b : Bool) → nat_lt j n ≡ b → IsIn k (if b then j ∷ [] else []) → (k ≡ j) × (j < n)
      by true e there = (in_one k j there, ltb-true j n e)
      by false e (i, at) = absurd (none-some k at)

  -- ---- what a type names has a node among its nodes

  abbrev pub Stands : List ℕ → ℕ → Type 0
  Stands ks i = (k : ℕ) × IsIn k ks × Meant k i

  first_stands : (js ks : List ℕ) (i : ℕ) → Stands js i → Stands (js ++ ks) i
  first_stands js ks i (k, there, meant) = (k, in_first js ks k there, meant)

  rest_stands : (js ks : List ℕ) (i : ℕ) → Stands ks i → Stands (js ++ ks) i
  rest_stands js ks i (k, there, meant) = (k, in_rest js ks k there, meant)

  mutual
    pub names_to : (T : Shape) (i : ℕ) → i < n → Names S T i → Stands (nodes_of n t T) i
    names_to type.int i below is = elim is [ ]
    names_to type.long i below is = elim is [ ]
    names_to type.nat i below is = elim is [ ]
    names_to (type.opaque k) i below is = elim is [ ]
    names_to type.str i below is = elim is [ ]
    names_to type.raw i below is = elim is [ ]
    names_to type.flag i below is = elim is [ ]
    names_to type.call i below (d, is) = (n + t, (0, refl), of_calls d refl is)
    names_to (type.var k) i below is = elim is [ ]
    names_to (type.vector b T) i below is = names_to T i below is
    names_to (type.boxed h args) i below (inl (d, m)) = first_stands (type_node n t h) (nodes_of_each n t args) i (n + h, type_there h m.known, of_type h d refl m)
    names_to (type.boxed h args) i below (inr is) = rest_stands (type_node n t h) (nodes_of_each n t args) i (one_to args i below is)
    names_to (type.bare j args) i below (inl is) =
        first_stands (entry_node n j) (nodes_of_each n t args) i (j, entry_there j (subst (λ (x : ℕ). x < n) is below), itself (sym is) below)
    names_to (type.bare j args) i below (inr is) = rest_stands (entry_node n j) (nodes_of_each n t args) i (one_to args i below is)

    one_to : (args : Shapes) (i : ℕ) → i < n → NamesInOne S args i → Stands (nodes_of_each n t args) i
    one_to no_shapes i below is = elim is [ ]
    one_to (shape T args) i below (inl is) = first_stands (nodes_of n t T) (nodes_of_each n t args) i (names_to T i below is)
    one_to (shape T args) i below (inr is) = rest_stands (nodes_of n t T) (nodes_of_each n t args) i (one_to args i below is)

  -- ---- and a node among them stands for what it names

  type_meant : (h k i : ℕ) → (k ≡ n + h) × (h < t) → Meant k i → (d : Declaration) × IsMember S h i d
  type_meant h k i (at, below) (itself is within) = absurd (omega (arith, at, is, within))
  type_meant h k i (at, below) (of_type g d is m) = let same : g ≡ h = omega (arith, at, is) in (d, subst (λ (x : ℕ). IsMember S x i d) same m)
  type_meant h k i (at, below) (of_calls d is f) = absurd (omega (arith, at, below, is))

  entry_meant : (j k i : ℕ) → (k ≡ j) × (j < n) → Meant k i → i ≡ j
  entry_meant j k i (at, below) (itself is within) = omega (arith, at, is)
  entry_meant j k i (at, below) (of_type g d is m) = absurd (omega (arith, at, is, below))
  entry_meant j k i (at, below) (of_calls d is f) = absurd (omega (arith, at, is, below))

  calls_meant : (k i : ℕ) → k ≡ n + t → Meant k i → (d : Declaration) × IsFunction S i d
  calls_meant k i at (itself is within) = absurd (omega (arith, at, is, within))
  calls_meant k i at (of_type g d is m) = absurd (let known = m.known in omega (arith, at, is, known))
  calls_meant k i at (of_calls d is f) = (d, f)

  none_in : (k : ℕ) → IsIn k [] → ⊥
  none_in k (i, at) = none-some k at

  mutual
    pub names_from : (T : Shape) (k i : ℕ) → IsIn k (nodes_of n t T) → Meant k i → Names S T i
    names_from type.int k i there meant = none_in k there
    names_from type.long k i there meant = none_in k there
    names_from type.nat k i there meant = none_in k there
    names_from (type.opaque w) k i there meant = none_in k there
    names_from type.str k i there meant = none_in k there
    names_from type.raw k i there meant = none_in k there
    names_from type.flag k i there meant = none_in k there
    names_from type.call k i there meant = calls_meant k i (in_one k (n + t) there) meant
    names_from (type.var v) k i there meant = none_in k there
    names_from (type.vector b T) k i there meant = names_from T k i there meant
    names_from (type.boxed h args) k i there meant = elim (in_either (type_node n t h) (nodes_of_each n t args) k there) [
      | inl here ↦ inl (type_meant h k i (type_is h k here) meant)
      | inr later ↦ inr (one_from args k i later meant)
    ]
    names_from (type.bare j args) k i there meant = elim (in_either (entry_node n j) (nodes_of_each n t args) k there) [
      | inl here ↦ inl (entry_meant j k i (entry_is j k here) meant)
      | inr later ↦ inr (one_from args k i later meant)
    ]

    one_from : (args : Shapes) (k i : ℕ) → IsIn k (nodes_of_each n t args) → Meant k i → NamesInOne S args i
    one_from no_shapes k i there meant = none_in k there
    one_from (shape T args) k i there meant = elim (in_either (nodes_of n t T) (nodes_of_each n t args) k there) [
      | inl here ↦ inl (names_from T k i here meant)
      | inr later ↦ inr (one_from args k i later meant)
    ]

  -- ---- fields

  pub field_in : (fs : List Slot) (m k : ℕ) (f : Slot) → slice_get fs m ≡ Some f → IsIn k (nodes_of n t f.of) → IsIn k (nodes_in n t fs)
  field_in [] m k f at there = absurd (none-some f at)
  field_in (g ∷ fs) zero k f at there =
      in_first (nodes_of n t g.of) (nodes_in n t fs) k (subst (λ (x : Slot). IsIn k (nodes_of n t x.of)) (sym (same_Some g f at)) there)
  field_in (g ∷ fs) (suc m) k f at there = in_rest (nodes_of n t g.of) (nodes_in n t fs) k (field_in fs m k f at there)

  pub in_field : (fs : List Slot) (k : ℕ) → IsIn k (nodes_in n t fs) → (m : ℕ) × (f : Slot) × (slice_get fs m ≡ Some f) × IsIn k (nodes_of n t f.of)
  in_field [] k there = absurd (none_in k there)
  in_field (g ∷ fs) k there = elim (in_either (nodes_of n t g.of) (nodes_in n t fs) k there) [
    | inl here ↦ (0, g, refl, here)
    | inr later ↦ (let r = in_field fs k later in (suc r.0, r.1, r.2, r.3))
  ]

  -- the nodes are those of the graph
  abbrev AreBelow : List ℕ → Type 0
  AreBelow ks = (k : ℕ) → IsIn k ks → k < n + t + 1

  both_below : (js ks : List ℕ) → AreBelow js → AreBelow ks → AreBelow (js ++ ks)
  both_below js ks a b k there = elim (in_either js ks k there) [ inl here ↦ a k here | inr later ↦ b k later ]

  type_below : (h : ℕ) → AreBelow (type_node n t h)
  type_below h k there = let r = type_is h k there in omega (arith, r.0, r.1)

  entry_below : (j : ℕ) → AreBelow (entry_node n j)
  entry_below j k there = let r = entry_is j k there in omega (arith, r.0, r.1)

  mutual
    pub nodes_below : (T : Shape) → AreBelow (nodes_of n t T)
    nodes_below type.int k there = absurd (none_in k there)
    nodes_below type.long k there = absurd (none_in k there)
    nodes_below type.nat k there = absurd (none_in k there)
    nodes_below (type.opaque w) k there = absurd (none_in k there)
    nodes_below type.str k there = absurd (none_in k there)
    nodes_below type.raw k there = absurd (none_in k there)
    nodes_below type.flag k there = absurd (none_in k there)
    nodes_below type.call k there = let e = in_one k (n + t) there in omega (arith, e)
    nodes_below (type.var v) k there = absurd (none_in k there)
    nodes_below (type.vector b T) k there = nodes_below T k there
    nodes_below (type.boxed h args) k there = both_below (type_node n t h) (nodes_of_each n t args) (type_below h) (each_below args) k there
    nodes_below (type.bare j args) k there = both_below (entry_node n j) (nodes_of_each n t args) (entry_below j) (each_below args) k there

    each_below : (args : Shapes) → AreBelow (nodes_of_each n t args)
    each_below no_shapes k there = absurd (none_in k there)
    each_below (shape T args) k there = both_below (nodes_of n t T) (nodes_of_each n t args) (nodes_below T) (each_below args) k there
