-- What is kept of declarations lifts the values of the type.
use Rattle.std.proofs.Common.{◌≡◌, inl, inr, ℕ, suc, ◌+◌, ◌≤◌, List, [], ◌∷◌, ◌++◌, map, length, slice_get, Option, Some, None, unwrap_or, Bool, true, false, if◌then◌else◌, bytes_eq, position, cond, not, ◌||◌, refl, ap, ap₂, sym, ◌∙◌, subst, arith}
use Rattle.std.specs.List.{position_or_len, list_any}
use Rattle.std.specs.Option.{option_map}
use Rattle.tl_names.proofs.Positions.{position_there, position_not_there}
use Rattle.tl_schema.specs.Types.{Shape, Shapes}
use Rattle.tl_schema.specs.Types as type
use Rattle.tl_schema.specs.Closing.{closed, list_of_shapes}
use Rattle.tl_schema.specs.Schemas.{Slot, Declaration, Declared}
use Rattle.tl_types.specs.Values.{ValueView, int, long, nat, opaque, text, truth, absent, list, node, call, ValueViews, no_values, value, values_of}
use Rattle.tl_types.specs.Spelling.{Spells, SpellEach, SpellFields, boxed, bare}
use Rattle.tl_layers.specs.Breaks.{field_index}
use Rattle.tl_types.specs.Seen.{view}
use Rattle.tl_types.specs.declared.value.Value.{Value}
use Rattle.std.specs.Prelude.{IfOk, Result, Ok, Err}
use Rattle.tl_layers.specs.Plain.{IsPlain}
use Rattle.tl_layers.proofs.MovedDeclarations.{reads_old_bytes}
use Rattle.tl_layers.specs.Counterparts.{entry_image, image}
use Rattle.tl_layers.specs.Compared.{LayersView, IsCounterpart}
use Rattle.tl_layers.specs.Lifted.{lifted, lifted_each, value_named, placed, old_fields, new_fields}
use Rattle.tl_layers.specs.Reached.{Names, Reached, named, further}
use Rattle.tl_layers.specs.inner.Tables.{HasMovedTo, IsKept, IsMade, pair_of, picked, entry_by, fields_by, moved_by, moved_each}
use Rattle.tl_layers.specs.declared.moved.Moved.{Moved}
use Rattle.tl_layers.proofs.ImageTypes.{NamedInList, named_in_list, names_closed}
use Rattle.tl_layers.proofs.LiftedValues.{get_some}
use Rattle.tl_layers.proofs.ReachedPaths.{reached_within}

-- ---- a value by its index

module _ {X : Type 0} (test : X → Bool) (x : X) (xs : List X) where
  next_len : test x ≡ false → position_or_len test (x ∷ xs) ≡ suc (position_or_len test xs)
  next_len e = ap (λ (b : Bool). cond (not b) (1 + position_or_len test xs) 0) e ∙ (let one : 1 + position_or_len test xs ≡ suc (position_or_len test xs) = omega arith in one)

  pub position_here : test x ≡ true → position test (x ∷ xs) ≡ Some 0
  position_here e =
      position_there test (x ∷ xs) (ap (λ (b : Bool). b || list_any test xs) e) ∙ ap Some (ap (λ (b : Bool). cond (not b) (1 + position_or_len test xs) 0) e)

  pub position_next : test x ≡ false → position test (x ∷ xs) ≡ option_map suc (position test xs)
  position_next e = by (list_any test xs) refl
    where
      any_is : list_any test (x ∷ xs) ≡ list_any test xs
      any_is = ap (λ (b : Bool). b || list_any test xs) e

      by : (b : Bool) → list_any test xs ≡ b → position test (x ∷ xs) ≡ option_map suc (position test xs)
      by true there = position_there test (x ∷ xs) (any_is ∙ there) ∙ ap Some (next_len e) ∙ ap (option_map suc) (sym (position_there test xs there))
      by false none = position_not_there test (x ∷ xs) (any_is ∙ none) ∙ ap (option_map suc) (sym (position_not_there test xs none))

pick_none : (o : Option ℕ) → absent ≡ picked [] o
pick_none None = refl
pick_none (Some k) = refl

pick_next : (w : ValueView) (ws : List ValueView) (o : Option ℕ) → picked ws o ≡ picked (w ∷ ws) (option_map suc o)
pick_next w ws None = refl
pick_next w ws (Some k) = refl

pub pick_named : (fs : List Slot) (ws : List ValueView) (name : List ℕ) → value_named fs ws name ≡ picked ws (field_index fs name)
pick_named [] ws name = refl
pick_named (f ∷ fs) [] name = pick_none (field_index (f ∷ fs) name)
pick_named (f ∷ fs) (w ∷ ws) name = by (bytes_eq name f.name) refl (pick_named fs ws name)
  where
    by : (b : Bool) → bytes_eq name f.name ≡ b → value_named fs ws name ≡ picked ws (field_index fs name) → (if b then w else value_named fs ws name) ≡ picked (w ∷ ws) (field_index (f ∷ fs) name)
    by true e later = ap (picked (w ∷ ws)) (sym (position_here (λ (g : Slot). bytes_eq name g.name) f fs e))
    by false e later = later ∙ pick_next w ws (field_index fs name) ∙ ap (picked (w ∷ ws)) (sym (position_next (λ (g : Slot). bytes_eq name g.name) f fs e))

-- ---- values

module _ (l : LayersView) (made : Shape) (moved : List (Option Moved)) (count : ℕ) (is : IsMade l made moved count) where
  abbrev IsKnown : Shape → Type 0
  IsKnown T = (i : ℕ) → Names l.old T i → Reached l.old l.of i

  -- what is kept of a declaration that is reached
  kept_at : (i : ℕ) → Reached l.old l.of i → (m : Moved) × (slice_get moved i ≡ Some (Some m)) × HasMovedTo (pair_of l) i m
  kept_at i r =
      let within = reached_within l.old (is.layers).old_is l.of i (is.layers).formed r in
      let long = is.long in
      let x = get_some moved i (omega (arith, within, long)) in
      by x.0 x.1 (is.each i x.0 x.1)
    where
      by : (o : Option Moved) → slice_get moved i ≡ Some o → IsKept l i o → (m : Moved) × (slice_get moved i ≡ Some (Some m)) × HasMovedTo (pair_of l) i m
      by None at none = absurd (none r)
      by (Some m) at k = (m, at, k.1)

  -- its values stand at their new indices, and its counterpart in its place
  entry_moves : (i : ℕ) → Reached l.old l.of i → entry_by (slice_get moved i) i ≡ entry_image l.old l.new i
  entry_moves i r =
      let k = kept_at i r in
      ap (λ (o : Option (Option Moved)). entry_by o i) k.1 ∙ ap (λ (o : Option ℕ). unwrap_or o (length (l.new).decls)) (sym (k.2).entry)

  fields_move : (i : ℕ) (ws : List ValueView) → Reached l.old l.of i → fields_by (slice_get moved i) ws ≡ placed (old_fields l.old i) (new_fields l.old l.new i) ws
  fields_move i ws r =
      let k = kept_at i r in
      ap (λ (o : Option (Option Moved)). fields_by o ws) k.1 ∙ ap (map (picked ws)) (k.2).from ∙ all_picked (new_fields l.old l.new i)
    where
      all_picked : (gs : List Slot) → map (picked ws) (map (λ (g : Slot). field_index (old_fields l.old i) g.name) gs) ≡ map (λ (g : Slot). value_named (old_fields l.old i) ws g.name) gs
      all_picked [] = refl
      all_picked (g ∷ gs) = ap₂ (λ (v : ValueView) (vs : List ValueView). v ∷ vs) (sym (pick_named (old_fields l.old i) ws g.name)) (all_picked gs)

  abbrev Lifts : ValueView → Type 0
  Lifts v = (T : Shape) (b : List ℕ) → IsKnown T → Spells l.old T v b → moved_by moved v ≡ lifted l.old l.new v

  abbrev EachLifts : ValueViews → Type 0
  EachLifts no_values = Unit {0}
  EachLifts (value v vs) = Lifts v × EachLifts vs

  known_as : (T U : Shape) → T ≡ U → IsKnown T → IsKnown U
  known_as T U e known = subst IsKnown e known

  fields_lift : (args : List Shape) (before : List ValueView) (fs : List Slot) (vs : ValueViews) (b : List ℕ) → EachLifts vs
      → ((k : ℕ) (f : Slot) → slice_get fs k ≡ Some f → IsKnown (closed args f.of)) → SpellFields l.old args before fs vs b → moved_each moved vs ≡ lifted_each l.old l.new vs
  fields_lift args before [] no_values b lifts known spelled = refl
  fields_lift args before (f ∷ fs) (value v vs) b lifts known (x, y, bytes, here, rest) =
      ap₂ (λ (u : ValueView) (us : List ValueView). u ∷ us)
      (elim here [ inl (there, spells) ↦ lifts.0 (closed args f.of) x (known 0 f refl) spells | inr (clear, none, no_bytes) ↦ none_lifts v none ])
      (fields_lift args (before ++ v ∷ []) fs vs y lifts.1 (λ k g at. known (suc k) g at) rest)
    where
      none_lifts : (v : ValueView) → v ≡ absent → moved_by moved v ≡ lifted l.old l.new v
      none_lifts v e = subst (λ (u : ValueView). moved_by moved u ≡ lifted l.old l.new u) (sym e) refl
  fields_lift args before [] (value v vs) b lifts known spelled = elim spelled [ ]
  fields_lift args before (f ∷ fs) no_values b lifts known spelled = elim spelled [ ]

  each_lift : (T : Shape) (vs : ValueViews) (b : List ℕ) → IsKnown T → EachLifts vs → SpellEach l.old T vs b → moved_each moved vs ≡ lifted_each l.old l.new vs
  each_lift T no_values b known lifts spelled = refl
  each_lift T (value v vs) b known lifts (x, y, bytes, here, rest) =
      ap₂ (λ (u : ValueView) (us : List ValueView). u ∷ us) (lifts.0 T x known here) (each_lift T vs y known lifts.1 rest)

  -- the fields of a declaration that is reached, applied to what is known
  fields_known : (i : ℕ) (d : Declaration) (args : List Shape) → Reached l.old l.of i → slice_get (l.old).decls i ≡ Some d → ((j : ℕ) → NamedInList l.old args j → Reached l.old l.of j)
      → (k : ℕ) (f : Slot) → slice_get d.fields k ≡ Some f → IsKnown (closed args f.of)
  fields_known i d args r here of_args k f at j names = elim (names_closed l.old args f.of j names) [
    | inl own ↦ further i j k d f r here at own
    | inr arg ↦ of_args j arg
  ]

  parts_lift : (i : ℕ) (d : Declaration) (args : List Shape) (vs : ValueViews) (b : List ℕ) → Reached l.old l.of i → slice_get (l.old).decls i ≡ Some d → ((j : ℕ) → NamedInList l.old args j → Reached l.old l.of j) → EachLifts vs
      → SpellFields l.old args [] d.fields vs b → fields_by (slice_get moved i) (moved_each moved vs) ≡ placed (old_fields l.old i) (new_fields l.old l.new i) (lifted_each l.old l.new vs)
  parts_lift i d args vs b r here of_args lifts spelled =
      ap (fields_by (slice_get moved i)) (fields_lift args [] d.fields vs b lifts (fields_known i d args r here of_args) spelled) ∙ fields_move i (lifted_each l.old l.new vs) r

  node_lifts : (i : ℕ) (vs : ValueViews) → EachLifts vs → Lifts (node i vs)
  node_lifts i vs lifts T b known (d, args, prefix, rest, boxed h same member before, bytes, fields) =
      let inside = known_as T (type.boxed h args) same known in
      let r = inside i (inl (d, member)) in
      ap₂ (λ (n : ℕ) (us : List ValueView). node n (values_of us)) (entry_moves i r) (parts_lift i d (list_of_shapes args) vs rest r member.there (λ j n. inside j (inr (named_in_list l.old args j n))) lifts fields)
  node_lifts i vs lifts T b known (d, args, prefix, rest, bare same there before, bytes, fields) =
      let inside = known_as T (type.bare i args) same known in
      let r = inside i (inl refl) in
      ap₂ (λ (n : ℕ) (us : List ValueView). node n (values_of us)) (entry_moves i r) (parts_lift i d (list_of_shapes args) vs rest r there (λ j n. inside j (inr (named_in_list l.old args j n))) lifts fields)

  call_lifts : (i : ℕ) (vs : ValueViews) → EachLifts vs → Lifts (call i vs)
  call_lifts i vs lifts T b known (d, rest, same, function, bytes, fields) =
      let r = known_as T type.call same known i (d, function) in
      ap₂ (λ (n : ℕ) (us : List ValueView). call n (values_of us)) (entry_moves i r) (parts_lift i d [] vs rest r function.there (λ j none. elim none [ ]) lifts fields)

  list_lifts : (vs : ValueViews) → EachLifts vs → Lifts (list vs)
  list_lifts vs lifts T b known (is_boxed, item, rest, same, few, bytes, spelled) =
      ap (λ (us : List ValueView). list (values_of us)) (each_lift item vs rest (known_as T (type.vector is_boxed item) same known) lifts spelled)

  mutual
    pub lifts_value : (v : ValueView) → Lifts v
    lifts_value (int z) T b known s = refl
    lifts_value (long z) T b known s = refl
    lifts_value (nat n) T b known s = refl
    lifts_value (opaque x) T b known s = refl
    lifts_value (text x) T b known s = refl
    lifts_value truth T b known s = refl
    lifts_value absent T b known s = refl
    lifts_value (list vs) T b known s = list_lifts vs (lifts_each vs) T b known s
    lifts_value (node i vs) T b known s = node_lifts i vs (lifts_each vs) T b known s
    lifts_value (call i vs) T b known s = call_lifts i vs (lifts_each vs) T b known s

    lifts_each : (vs : ValueViews) → EachLifts vs
    lifts_each no_values = tt
    lifts_each (value v vs) = (lifts_value v, lifts_each vs)

  pub lifts : (v : ValueView) (b : List ℕ) → Spells l.old l.of v b → moved_by moved v ≡ lifted l.old l.new v
  lifts v b spelled = lifts_value v l.of b (λ i n. named i n) spelled

-- ---- what is answered of a declaration

module _ (l : LayersView) (made : Shape) (moved : List (Option Moved)) (count : ℕ) (is : IsMade l made moved count) (i : ℕ) where
  pub entry_some : (m : Moved) → slice_get moved i ≡ Some (Some m) → IsCounterpart l i (Some m.entry)
  entry_some m at = let k = is.each i (Some m) at in (k.0, (k.1).entry)

  pub entry_none : slice_get moved i ≡ Some None → IsCounterpart l i None
  entry_none at = is.each i None at

  pub entry_past : length moved ≤ i → IsCounterpart l i None
  entry_past past = λ r.
      let within = reached_within l.old (is.layers).old_is l.of i (is.layers).formed r in
      let long = is.long in omega (arith, past, within, long)

-- ---- what is answered of a value

module _ {E : Type 0} (result : Result Value E) where
  -- the answer is this value, or out of memory
  abbrev pub Gives : ValueView → Type 0
  Gives w = IfOk result (λ v. view v ≡ w)

  spelled_by : (S : Declared) (T : Shape) (w : ValueView) (b : List ℕ) → Gives w → Spells S T w b → IfOk result (λ v. Spells S T (view v) b)
  spelled_by S T w b gives spelled = by result gives
    where
      by : (r : Result Value E) → IfOk r (λ v. view v ≡ w) → IfOk r (λ v. Spells S T (view v) b)
      by (Ok v) is = subst (λ (u : ValueView). Spells S T u b) (sym is) spelled
      by (Err e) is = tt

  module _ (l : LayersView) (made : Shape) (moved : List (Option Moved)) (count : ℕ) (is : IsMade l made moved count) (v : ValueView) (gives : Gives (moved_by moved v)) where
    pub lifts_to : (b : List ℕ) → Spells l.old l.of v b → Gives (lifted l.old l.new v)
    lifts_to b spelled = subst Gives (lifts l made moved count is v b spelled) gives

    pub spells_in : (b : List ℕ) → IsPlain l.old v → Spells l.old l.of v b → IfOk result (λ u. Spells l.new (image l.old l.new l.of) (view u) b)
    spells_in b plain spelled =
        spelled_by l.new (image l.old l.new l.of) (lifted l.old l.new v) b (lifts_to b spelled) (reads_old_bytes l.old l.new l.of is.layers v b plain spelled)
