-- What flags and formed types reach are flags and formed types.
use Rattle.std.proofs.Common.{◌≡◌, ◌⊎◌, inl, inr, ℕ, zero, suc, List, [], ◌∷◌, ◌++◌, length, map, slice_get, Option, Some, None, Ok, Err, Bool, true, false, refl, ap, sym, ◌∙◌, subst, if◌then◌else◌, nat_lt}
use Rattle.std.specs.List.{flat_map}
use Rattle.std.specs.Option.{option_map}
use Rattle.std.proofs.lemmas.Option.{slice_get-map}
use Rattle.tl_schema.specs.Types.{Shape, Shapes, no_shapes}
use Rattle.tl_schema.specs.Types as type
use Rattle.tl_schema.specs.Closing.{closed, list_of_shapes}
use Rattle.tl_schema.specs.Schemas.{Slot, Declaration, Declared}
use Rattle.tl_schema.specs.CheckedPrograms.{IsSchema}
use Rattle.tl_schema.specs.Formed.{IsFormed, IsOwn, AreArguments, count_of, field_variables}
use Rattle.tl_schema.proofs.FieldsFormed.{fields_are_formed}
use Rattle.tl_schema.proofs.ClosedFormed.{closing_keeps_formed}
use Rattle.tl_plan.specs.Types.{is_among, levels}
use Rattle.tl_plan.specs.Entries.{constructors_of, fields_at, fields_in, functions_of}
use Rattle.tl_plan.specs.Reached.{Named, fields_named, names_of, unnamed}
use Rattle.tl_plan.specs.Plans.{AreFormed, IsFlagOrFormed}
use Rattle.tl_plan.specs.declared.fault.PlanFault.TheVariants.{TypeTooDeep, TooManyInstances}
use Rattle.tl_plan.specs.declared.fault.TheConstants.{MAX_INSTANCES, MAX_LEVELS}
use Rattle.tl_plan.specs.inner.Walks.{Walk, add, add_all, expand, find, find_all, names_by, then_walk, walked}
use Rattle.tl_plan.proofs.EntryLists.{these_constructors, these_functions}
use Rattle.tl_plan.proofs.OwnDeclarations.{function_own, member_own}
use Rattle.tl_plan.proofs.TypeLists.{none_some, some_is}
use Rattle.tl_plan.proofs.Walking.{err_ok, ok_is}

-- ---- elements of lists

either_list : {X : Type 0} (xs ys : List X) (k : ℕ) (x : X) → slice_get (xs ++ ys) k ≡ Some x → ((j : ℕ) × (slice_get xs j ≡ Some x)) ⊎ ((j : ℕ) × (slice_get ys j ≡ Some x))
either_list [] ys k x at = inr (k, at)
either_list (y ∷ xs) ys zero x at = inl (0, at)
either_list (y ∷ xs) ys (suc k) x at = elim (either_list xs ys k x at) [ inl p ↦ inl (suc p.0, p.1) | inr q ↦ inr q ]

pub in_flat_map : {X Y : Type 0} (f : X → List Y) (xs : List X) (k : ℕ) (y : Y) → slice_get (flat_map f xs) k ≡ Some y → (i : ℕ) × (x : X) × (j : ℕ) × (slice_get xs i ≡ Some x) × (slice_get (f x) j ≡ Some y)
in_flat_map f [] k y at = absurd (none_some y at)
in_flat_map f (x ∷ xs) k y at = elim (either_list (f x) (flat_map f xs) k y at) [
  | inl p ↦ (0, x, p.0, refl, p.1)
  | inr q ↦ let r = in_flat_map f xs q.0 y q.1 in (suc r.0, r.1, r.2, r.3, r.4)
]

pub in_map : {X Y : Type 0} (f : X → Y) (xs : List X) (k : ℕ) (y : Y) → slice_get (map f xs) k ≡ Some y → (x : X) × (slice_get xs k ≡ Some x) × (y ≡ f x)
in_map f xs k y at = by (slice_get xs k) refl (sym (slice_get-map f xs k) ∙ at)
  where
    by : (o : Option _) → slice_get xs k ≡ o → option_map f o ≡ Some y → (x : _) × (slice_get xs k ≡ Some x) × (y ≡ f x)
    by None is e = absurd (none_some y e)
    by (Some x) is e = (x, is, sym (some_is (f x) y e))

-- ---- the types of fields

module _ (S : Declared) (good : IsSchema S) where
  fields_read : (i : ℕ) (d : Declaration) (args : Shapes) → IsOwn S i → slice_get S.decls i ≡ Some d → count_of args ≡ field_variables d → AreArguments S 0 args → (k : ℕ) (f : Slot) → slice_get d.fields k ≡ Some f → IsFlagOrFormed S (closed (list_of_shapes args) f.of)
  fields_read i d args own there count arguments k f at = elim (fields_are_formed S good i d k f own there at).type [
    | inl flag ↦ inl (ap (closed (list_of_shapes args)) flag)
    | inr formed ↦ inr (closing_keeps_formed S (field_variables d) 0 args f.of count arguments formed).formed
  ]

  own_variables : (d : Declaration) → d.function ≡ false → field_variables d ≡ d.vars
  own_variables d is = rw is refl

  no_variables : (d : Declaration) → d.function ≡ true → field_variables d ≡ 0
  no_variables d is = rw is refl

  named_field : (args : List Shape) (i : ℕ) (d : Declaration) (k : ℕ) (n : Named) → slice_get S.decls i ≡ Some d → slice_get (fields_named S args i) k ≡ Some n → (f : Slot) × (slice_get d.fields k ≡ Some f) × (n.of ≡ closed args f.of)
  named_field args i d k n there at =
      let p = in_map (λ (f : Slot). record { of = closed args f.of; decl = i }) (fields_at S i) k n at in
      (p.0, ap (λ (o : Option Declaration). slice_get (fields_in o) k) (sym there) ∙ p.1, ap (λ (m : Named). m.of) p.2)

  boxed_names : (h : ℕ) (args : Shapes) → IsFormed S (type.boxed h args) → (k : ℕ) (n : Named) → slice_get (flat_map (fields_named S (list_of_shapes args)) (constructors_of S h)) k ≡ Some n → IsFlagOrFormed S n.of
  boxed_names h args formed k n at =
      let p = in_flat_map (fields_named S (list_of_shapes args)) (constructors_of S h) k n at in
      let m = (these_constructors S h).only p.1 (p.0, p.3) in
      let f = named_field (list_of_shapes args) p.1 m.0 p.2 n m.1.there p.4 in
      let own = member_own S good h p.1 m.0 m.1 in
      subst (IsFlagOrFormed S) (sym f.2) (fields_read p.1 m.0 args own.1 m.1.there (sym (formed.0.arity p.1 m.0 m.1) ∙ sym (own_variables m.0 own.0)) formed.1 p.2 f.0 f.1)

  bare_names : (i : ℕ) (args : Shapes) → IsFormed S (type.bare i args) → (k : ℕ) (n : Named) → slice_get (flat_map (fields_named S (list_of_shapes args)) (i ∷ [])) k ≡ Some n → IsFlagOrFormed S n.of
  bare_names i args formed k n at =
      let p = in_flat_map (fields_named S (list_of_shapes args)) (i ∷ []) k n at in
      let a = formed.0 in
      let own = member_own S good a.h i a.d a.member in
      let here : i ≡ p.1 = only_one p.0 p.1 p.3 in
      let f = named_field (list_of_shapes args) i a.d p.2 n a.member.there (ap (λ (j : ℕ). slice_get (fields_named S (list_of_shapes args) j) p.2) here ∙ p.4) in
      subst (IsFlagOrFormed S) (sym f.2) (fields_read i a.d args own.1 a.member.there (sym a.arity ∙ sym (own_variables a.d own.0)) formed.1 p.2 f.0 f.1)
    where
      only_one : (k j : ℕ) → slice_get (i ∷ []) k ≡ Some j → i ≡ j
      only_one zero j e = some_is i j e
      only_one (suc k) j e = absurd (none_some j e)

  call_names : (k : ℕ) (n : Named) → slice_get (flat_map (fields_named S []) (functions_of S)) k ≡ Some n → IsFlagOrFormed S n.of
  call_names k n at =
      let p = in_flat_map (fields_named S []) (functions_of S) k n at in
      let m = (these_functions S).only p.1 (p.0, p.3) in
      let f = named_field [] p.1 m.0 p.2 n m.1.there p.4 in
      subst (IsFlagOrFormed S) (sym f.2) (fields_read p.1 m.0 no_shapes (function_own S good p.1 m.0 m.1) m.1.there (sym (no_variables m.0 m.1.function)) tt p.2 f.0 f.1)

  -- ---- what a type names

  pub names_formed : (T : Shape) → IsFlagOrFormed S T → (k : ℕ) (n : Named) → slice_get (names_of S T) k ≡ Some n → IsFlagOrFormed S n.of
  names_formed type.int h k n at = absurd (none_some n at)
  names_formed type.long h k n at = absurd (none_some n at)
  names_formed type.nat h k n at = absurd (none_some n at)
  names_formed (type.opaque m) h k n at = absurd (none_some n at)
  names_formed type.str h k n at = absurd (none_some n at)
  names_formed type.raw h k n at = absurd (none_some n at)
  names_formed type.flag h k n at = absurd (none_some n at)
  names_formed type.call h k n at = call_names k n at
  names_formed (type.var i) h k n at = absurd (none_some n at)
  names_formed (type.vector b T) (inl e) k n at = absurd cc
  names_formed (type.vector b T) (inr formed) zero n at = inr (subst (IsFormed S) (ap (λ (m : Named). m.of) (some_is _ n at)) formed.0)
  names_formed (type.vector b T) (inr formed) (suc k) n at = absurd (none_some n at)
  names_formed (type.boxed i args) (inl e) k n at = absurd cc
  names_formed (type.boxed i args) (inr formed) k n at = boxed_names i args formed k n at
  names_formed (type.bare i args) (inl e) k n at = absurd cc
  names_formed (type.bare i args) (inr formed) k n at = bare_names i args formed k n at

  -- ---- walks

  abbrev All : List Shape → Type 0
  All ts = (k : ℕ) (T : Shape) → slice_get ts k ≡ Some T → IsFlagOrFormed S T

  abbrev AllNamed : List Named → Type 0
  AllNamed ns = (k : ℕ) (n : Named) → slice_get ns k ≡ Some n → IsFlagOrFormed S n.of

  pushed : (ts : List Shape) (T : Shape) → All ts → IsFlagOrFormed S T → All (ts ++ T ∷ [])
  pushed ts T all one k U at = elim (either_list ts (T ∷ []) k U at) [
    | inl p ↦ all p.0 U p.1
    | inr q ↦ last q.0 q.1
  ]
    where
      last : (j : ℕ) → slice_get (T ∷ []) j ≡ Some U → IsFlagOrFormed S U
      last zero e = subst (IsFlagOrFormed S) (some_is T U e) one
      last (suc j) e = absurd (none_some U e)

  add_keeps : (ts us : List Shape) (n : Named) → All ts → IsFlagOrFormed S n.of → add ts n ≡ Ok us → All us
  add_keeps ts us n all one e = by (nat_lt MAX_LEVELS (levels n.of)) (nat_lt (length ts) MAX_INSTANCES) e
    where
      by : (a b : Bool) → (if a then Err (TypeTooDeep n.decl) else if b then Ok (ts ++ n.of ∷ []) else Err TooManyInstances) ≡ Ok us → All us
      by true b h = absurd (err_ok us _ h)
      by false true h = subst All (ok_is (ts ++ n.of ∷ []) us h) (pushed ts n.of all one)
      by false false h = absurd (err_ok us _ h)

  find_keeps : (ts us : List Shape) (n : Named) → All ts → IsFlagOrFormed S n.of → find ts n ≡ Ok us → All us
  find_keeps ts us n all one e = by (is_among n.of ts) e
    where
      by : (b : Bool) → (if b then Ok ts else add ts n) ≡ Ok us → All us
      by true h = subst All (ok_is ts us h) all
      by false h = add_keeps ts us n all one h

  find_all_keeps : (ns : List Named) (ts us : List Shape) → All ts → AllNamed ns → find_all ts ns ≡ Ok us → All us
  find_all_keeps [] ts us all named e = subst All (ok_is ts us e) all
  find_all_keeps (n ∷ ns) ts us all named e = by (find ts n) refl e (λ vs h. find_all_keeps ns vs us h (λ k m at. named (suc k) m at))
    where
      by : (w : Walk) → find ts n ≡ w → then_walk w (λ vs. find_all vs ns) ≡ Ok us → ((vs : List Shape) → All vs → find_all vs ns ≡ Ok us → All us) → All us
      by (Ok vs) is h later = later vs (find_keeps ts vs n all (named 0 n refl) is) h
      by (Err f) is h later = absurd (err_ok us f h)

  add_all_keeps : (ns : List Named) (ts us : List Shape) → All ts → AllNamed ns → add_all ts ns ≡ Ok us → All us
  add_all_keeps [] ts us all named e = subst All (ok_is ts us e) all
  add_all_keeps (n ∷ ns) ts us all named e = by (add ts n) refl e (λ vs h. add_all_keeps ns vs us h (λ k m at. named (suc k) m at))
    where
      by : (w : Walk) → add ts n ≡ w → then_walk w (λ vs. add_all vs ns) ≡ Ok us → ((vs : List Shape) → All vs → add_all vs ns ≡ Ok us → All us) → All us
      by (Ok vs) is h later = later vs (add_keeps ts vs n all (named 0 n refl) is) h
      by (Err f) is h later = absurd (err_ok us f h)

  module _ (roots : List Shape) (formed : AreFormed S roots) where
    roots_formed : AllNamed (unnamed S roots)
    roots_formed k n at = let p = in_map (λ (T : Shape). record { of = T; decl = length S.decls }) roots k n at in inr (subst (IsFormed S) (sym (ap (λ (m : Named). m.of) p.2)) (formed k p.0 p.1))

    expand_keeps : (n : ℕ) (ts us : List Shape) → All ts → expand S n ts ≡ Ok us → All us
    expand_keeps n ts us all e = by (slice_get ts n) refl e
      where
        by : (o : Option Shape) → slice_get ts n ≡ o → find_all ts (names_by S o) ≡ Ok us → All us
        by None is h = subst All (ok_is ts us h) all
        by (Some T) is h = find_all_keeps (names_of S T) ts us all (names_formed T (all n T is)) h

    pub walked_formed : (n : ℕ) (ts : List Shape) → walked S roots n ≡ Ok ts → All ts
    unfolding walked
    walked_formed zero ts e = add_all_keeps (unnamed S roots) [] ts (λ k T at. absurd (none_some T at)) roots_formed e
    walked_formed (suc n) ts e = by (walked S roots n) refl e (walked_formed n)
      where
        by : (w : Walk) → walked S roots n ≡ w → then_walk w (expand S n) ≡ Ok ts → ((us : List Shape) → walked S roots n ≡ Ok us → All us) → All ts
        by (Ok us) is h before = expand_keeps n us ts (before us is) h
        by (Err f) is h before = absurd (err_ok ts f h)
