-- Types with others in place of their variables, by numbers.
use Rattle.std.proofs.Common.{◌≡◌, ℕ, zero, suc, ◌≤◌, List, [], ◌∷◌, ◌++◌, length, map, get_or, slice_get, Bool, Some, refl, ap, ap₂, sym, ◌∙◌, arith}
use Rattle.std.proofs.lemmas.List.{map-append, length-map, get_or_past}
use Rattle.std.proofs.lemmas.Option.{slice_get_within}
use Rattle.tl_schema.specs.Types.{Shape, Shapes, shapes_of}
use Rattle.tl_schema.specs.Types as type
use Rattle.tl_schema.specs.Closing.{closed, closed_each}
use Rattle.tl_plan.specs.inner.Nodes.{AreBelow, Grows, type_at, type_by, types_at}
use Rattle.tl_schema.specs.declared.form.TypeForm.TheVariants as form
use Rattle.tl_plan.proofs.NodeTypes.{below_at, below_push, get_type, grows_below, grows_then, grows_types, type_got}

-- ---- one type

-- a variable that something stands in place of
pub variable_closed : (Ts : List Shape) (args : List ℕ) (i n : ℕ) (T : Shape) → AreBelow (length Ts) args → slice_get args i ≡ Some n → T ≡ type.var i → slice_get Ts n ≡ Some (closed (types_at Ts args) T)
variable_closed Ts args i n T below at is =
    get_type Ts n (below_at (length Ts) args i n below at) ∙ ap Some (sym (ap (closed (types_at Ts args)) is ∙ argument Ts args i n at))
  where
    argument : (Ts : List Shape) (args : List ℕ) (i n : ℕ) → slice_get args i ≡ Some n → get_or (types_at Ts args) i (type.var i) ≡ type_at Ts n
    argument Ts args i n at = go args i at (type.var i)
      where
        go : (ks : List ℕ) (j : ℕ) → slice_get ks j ≡ Some n → (d : Shape) → get_or (types_at Ts ks) j d ≡ type_at Ts n
        go [] j at d = absurd cc
        go (k ∷ ks) zero at d = let same : k ≡ n = cc in ap (type_at Ts) same
        go (k ∷ ks) (suc j) at d = go ks j at d

-- one that nothing does
pub variable_stays : (Ts : List Shape) (args : List ℕ) (i : ℕ) (T : Shape) → length args ≤ i → T ≡ type.var i → type.var i ≡ closed (types_at Ts args) T
variable_stays Ts args i T past is = sym (ap (closed (types_at Ts args)) is ∙ get_or_past (types_at Ts args) i (type.var i) (let e = length-map args (type_at Ts) in omega (arith, e, past)))

-- ---- types in order

pub record ClosedSoFar (before : List Shape) (args : List ℕ) (Us : List Shape) (Ts : List Shape) (ns : List ℕ) : Type 0 where
  pub grows : Grows before Ts
  pub argued : AreBelow (length Ts) args
  pub below : AreBelow (length Ts) ns
  pub types : types_at Ts ns ≡ map (closed (types_at before args)) Us

module _ (before : List Shape) (args : List ℕ) (Us : List Shape) (U : Shape) (Ts : List Shape) (ns : List ℕ) (so_far : ClosedSoFar before args Us Ts ns) (argued : AreBelow (length before) args) where
  pub next_closed : (Vs : List Shape) (n : ℕ) → Grows Ts Vs → slice_get Vs n ≡ Some (closed (types_at Ts args) U) → ClosedSoFar before args (Us ++ U ∷ []) Vs (ns ++ n ∷ [])
  next_closed Vs n grows at = record {
    grows = grows_then before Ts Vs so_far.grows grows;
    argued = grows_below Ts Vs args grows so_far.argued;
    below = below_push (length Vs) ns n (grows_below Ts Vs ns grows so_far.below) (slice_get_within Vs n _ at);
    types =
        map-append (type_at Vs) ns (n ∷ [])
        ∙ ap₂ (λ (xs : List Shape) (x : Shape). xs ++ x ∷ []) (grows_types Ts Vs ns grows so_far.below ∙ so_far.types) (type_got Vs n _ at ∙ ap (λ (xs : List Shape). closed xs U) (grows_types before Ts args so_far.grows argued))
        ∙ sym (map-append (closed (types_at before args)) Us (U ∷ []));
  }

pub each_closed : (args : List Shape) (Us : List Shape) → shapes_of (map (closed args) Us) ≡ closed_each args (shapes_of Us)
each_closed args [] = refl
each_closed args (U ∷ Us) = ap (type.shape (closed args U)) (each_closed args Us)

pub vector_closed : (b : Bool) (Ts : List Shape) (part : ℕ) (parts : List ℕ) (args : List Shape) (U T : Shape) → parts ≡ part ∷ [] → slice_get Ts part ≡ Some (closed args U) → T ≡ type.vector b U → type_by (form.Vector b) (types_at Ts parts) ≡ closed args T
vector_closed b Ts part parts args U T only at is =
    ap (λ (ks : List ℕ). type_by (form.Vector b) (types_at Ts ks)) only ∙ ap (type.vector b) (type_got Ts part (closed args U) at) ∙ sym (ap (closed args) is)

-- ---- no arguments

mutual
  pub closed_none : (T : Shape) → closed [] T ≡ T
  closed_none type.int = refl
  closed_none type.long = refl
  closed_none type.nat = refl
  closed_none (type.opaque n) = refl
  closed_none type.str = refl
  closed_none type.raw = refl
  closed_none type.flag = refl
  closed_none type.call = refl
  closed_none (type.var i) = refl
  closed_none (type.vector is_boxed T) = ap (type.vector is_boxed) (closed_none T)
  closed_none (type.boxed h args) = ap (type.boxed h) (closed_none_each args)
  closed_none (type.bare i args) = ap (type.bare i) (closed_none_each args)

  closed_none_each : (args : Shapes) → closed_each [] args ≡ args
  closed_none_each type.no_shapes = refl
  closed_none_each (type.shape T args) = ap₂ type.shape (closed_none T) (closed_none_each args)
