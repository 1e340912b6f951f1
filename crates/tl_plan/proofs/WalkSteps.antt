-- Steps of making a plan: fields, members, instances.
use Rattle.std.proofs.Common.{◌≡◌, ℕ, ◌<◌, List, [], ◌∷◌, ◌++◌, length, map, get_or, slice_get, Some, None, Ok, Err, Result, refl, ap, ap₂, sym, ◌∙◌, subst, arith, append_assoc}
use Rattle.std.specs.List.{flat_map}
use Rattle.std.proofs.lemmas.List.{append-nil, map-append}
use Rattle.tl_schema.specs.Types.{Shape, Shapes}
use Rattle.tl_schema.specs.Types as type
use Rattle.tl_schema.specs.Closing.{closed, list_of_shapes}
use Rattle.tl_schema.specs.Schemas.{Slot, Declared}
use Rattle.tl_plan.specs.Types.{arguments_of, index_of}
use Rattle.tl_plan.specs.Entries.{constructors_of, entries_of, fields_at, functions_of}
use Rattle.tl_plan.specs.Reached.{Named, fields_named, names_of, unnamed}
use Rattle.tl_plan.specs.Plans.{AreAmong, InstanceView, MemberView, NamesAmong, instance_of, item_in, member_of}
use Rattle.tl_plan.specs.inner.Nodes.{AreBelow, Grows, parts_of, type_at, types_at}
use Rattle.tl_plan.specs.Seen.{Shows, member_view}
use Rattle.tl_schema.specs.Forms.{HasForm}
use Rattle.tl_schema.specs.declared.form.TypeForm.{TypeForm}
use Rattle.tl_plan.specs.declared.instances.Instance.{Instance}
use Rattle.tl_plan.specs.inner.Walks.{Walk, Walks, find, find_all, then_walk}
use Rattle.tl_plan.specs.declared.fault.PlanFault.{PlanFault}
use Rattle.tl_plan.specs.declared.fault.PlanFault.TheVariants.{TypeTooDeep, TooManyInstances, Memory}
use Rattle.std.proofs.lemmas.Option.{slice_get_within}
use Rattle.tl_plan.proofs.NodeTypes.{grows_below, grows_same, grows_then, grows_types, type_got}
use Rattle.tl_plan.proofs.TypeLists.{index_more}
use Rattle.tl_plan.proofs.Walking.{find_all_append, found_all}

-- ---- faults

-- out of memory is free
pub out_of_memory : {A : Type 0} (walk : Walk) (old new : List Shape) (ns : List ℕ) (result : Result A PlanFault) (e : PlanFault) (P : A → Type 0) → result ≡ Err e → e ≡ Memory → Walks walk old new ns result P
out_of_memory {A = A} walk old new ns result e P is why = subst (λ (r : Result A PlanFault). Walks walk old new ns r P) (sym (is ∙ ap Err why)) tt

-- a fault of a step is one of the whole
pub fails : {A B : Type 0} (walk whole : Walk) (old new before after : List Shape) (ns ms : List ℕ) (e : PlanFault) (P : A → Type 0) (Q : B → Type 0) → Walks walk old new ns (Err e) P → (walk ≡ Err e → whole ≡ Err e) → Walks whole before after ms (Err e) Q
fails walk whole old new before after ns ms (TypeTooDeep d) P Q h more = more h
fails walk whole old new before after ns ms TooManyInstances P Q h more = more h
fails walk whole old new before after ns ms Memory P Q h more = tt

pub find_all_fails : (ts us : List Shape) (xs ys : List Named) (y : Named) (e : PlanFault) → find_all ts xs ≡ Ok us → find us y ≡ Err e → find_all ts (xs ++ y ∷ ys) ≡ Err e
find_all_fails ts us xs ys y e went stopped =
    find_all_append ts xs (y ∷ ys) ∙ ap (λ (w : Walk). then_walk w (λ vs. find_all vs (y ∷ ys))) went ∙ ap (λ (w : Walk). then_walk w (λ vs. find_all vs ys)) stopped

pub find_all_fails_in : (ts us : List Shape) (xs ys zs : List Named) (e : PlanFault) → find_all ts xs ≡ Ok us → find_all us ys ≡ Err e → find_all ts (xs ++ (ys ++ zs)) ≡ Err e
find_all_fails_in ts us xs ys zs e went stopped =
    find_all_append ts xs (ys ++ zs) ∙ ap (λ (w : Walk). then_walk w (λ vs. find_all vs (ys ++ zs))) went
    ∙ find_all_append us ys zs ∙ ap (λ (w : Walk). then_walk w (λ vs. find_all vs zs)) stopped

pub find_all_push : (ts us vs : List Shape) (xs : List Named) (y : Named) → find_all ts xs ≡ Ok us → find us y ≡ Ok vs → find_all ts (xs ++ y ∷ []) ≡ Ok vs
find_all_push ts us vs xs y went one =
    find_all_append ts xs (y ∷ []) ∙ ap (λ (w : Walk). then_walk w (λ ws. find_all ws (y ∷ []))) went ∙ ap (λ (w : Walk). then_walk w (λ ws. find_all ws [])) one

-- ---- instances, when types come to the end

abbrev made : Shape → List MemberView → InstanceView
made T members = record { of = T; item = None; members = members }

module _ (S : Declared) (args ts more : List Shape) where
  abbrev us : List Shape
  us = ts ++ more

  pub fields_stay : (i : ℕ) (fs : List Slot) → AreAmong ts (map (λ f. record { of = closed args f.of; decl = i }) fs) → map (λ f. index_of (closed args f.of) us) fs ≡ map (λ f. index_of (closed args f.of) ts) fs
  fields_stay i [] are = refl
  fields_stay i (f ∷ fs) are = ap₂ (λ (k : ℕ) (ks : List ℕ). k ∷ ks) (index_more (closed args f.of) ts more are.0) (fields_stay i fs are.1)

  pub members_stay : (is : List ℕ) → AreAmong ts (flat_map (fields_named S args) is) → map (member_of S us args) is ≡ map (member_of S ts args) is
  members_stay [] are = refl
  members_stay (i ∷ is) are =
      let p = among_parts (fields_named S args i) (flat_map (fields_named S args) is) are in
      ap₂ (λ (m : MemberView) (ms : List MemberView). m ∷ ms) (ap (λ (ks : List ℕ). record { entry = i; fields = ks }) (fields_stay i (fields_at S i) p.0)) (members_stay is p.1)
    where
      among_parts : (xs ys : List Named) → AreAmong ts (xs ++ ys) → AreAmong ts xs × AreAmong ts ys
      among_parts [] ys are = (tt, are)
      among_parts (x ∷ xs) ys are = let p = among_parts xs ys are.1 in ((are.0, p.0), p.1)

-- an instance of which all that it names is there
pub instance_stays : (S : Declared) (ts more : List Shape) (T : Shape) → NamesAmong S ts T → instance_of S (ts ++ more) T ≡ instance_of S ts T
instance_stays S ts more type.int are = refl
instance_stays S ts more type.long are = refl
instance_stays S ts more type.nat are = refl
instance_stays S ts more (type.opaque n) are = refl
instance_stays S ts more type.str are = refl
instance_stays S ts more type.raw are = refl
instance_stays S ts more type.flag are = refl
instance_stays S ts more type.call are = ap (made type.call) (members_stay S [] ts more (entries_of S type.call) are)
instance_stays S ts more (type.var i) are = refl
instance_stays S ts more (type.vector b T) are = ap (λ (k : ℕ). record { of = type.vector b T; item = Some k; members = [] }) (index_more T ts more are.0)
instance_stays S ts more (type.boxed h args) are = ap (made (type.boxed h args)) (members_stay S (list_of_shapes args) ts more (entries_of S (type.boxed h args)) are)
instance_stays S ts more (type.bare i args) are = ap (made (type.bare i args)) (members_stay S (list_of_shapes args) ts more (entries_of S (type.bare i args)) are)

-- ---- fields

abbrev pub named_field : List Shape → ℕ → Slot → Named
named_field args i f = record { of = closed args f.of; decl = i }

abbrev pub indices : List Shape → List Shape → List Slot → List ℕ
indices args ts fs = map (λ f. index_of (closed args f.of) ts) fs

-- the types before are the first, and the numbers of those that are reached are among them
pub record Holds (before Ts : List Shape) (ns : List ℕ) : Type 0 where
  pub grows : Grows before Ts
  pub below : AreBelow (length Ts) ns

-- after these fields
pub record FieldsSoFar (args : List Shape) (i : ℕ) (before : List Shape) (first : List ℕ) (fs : List Slot) (Ts : List Shape) (ns ks : List ℕ) : Type 0 where
  pub walk : find_all (types_at before first) (map (named_field args i) fs) ≡ Ok (types_at Ts ns)
  pub holds : Holds before Ts ns
  pub fields : ks ≡ indices args (types_at Ts ns) fs

pub no_fields : (args : List Shape) (i : ℕ) (before : List Shape) (first : List ℕ) → AreBelow (length before) first → FieldsSoFar args i before first [] before first []
no_fields args i before first below = record { walk = refl; holds = record { grows = grows_same before; below = below }; fields = refl }

module _ (args : List Shape) (i : ℕ) (before : List Shape) (first : List ℕ) (fs : List Slot) (f : Slot) (Ts : List Shape) (ns fields : List ℕ) (so_far : FieldsSoFar args i before first fs Ts ns fields) where
  -- the type of the next field has a number
  module _ (Us : List Shape) (grows : Grows Ts Us) (n : ℕ) (at : slice_get Us n ≡ Some (closed args f.of)) where
    abbrev start : List Shape
    start = types_at before first

    pub closed_at : type_at Us n ≡ closed args f.of
    closed_at = type_got Us n (closed args f.of) at

    pub closed_within : n < length Us
    closed_within = slice_get_within Us n (closed args f.of) at

    pub closed_below : AreBelow (length Us) ns
    closed_below = grows_below Ts Us ns grows so_far.holds.below

    pub closed_same : types_at Us ns ≡ types_at Ts ns
    closed_same = grows_types Ts Us ns grows so_far.holds.below

    went : find_all start (map (named_field args i) fs) ≡ Ok (types_at Us ns)
    went = so_far.walk ∙ ap Ok (sym closed_same)

    as_named : (w : Walk) → find (types_at Us ns) (record { of = type_at Us n; decl = i }) ≡ w → find (types_at Us ns) (named_field args i f) ≡ w
    as_named w e = ap (λ (T : Shape). find (types_at Us ns) (record { of = T; decl = i })) (sym closed_at) ∙ e

    pub next_field : (ms : List ℕ) (k : ℕ) → Walks (find (types_at Us ns) (record { of = type_at Us n; decl = i })) Us Us ms (Ok k) (λ j. j ≡ index_of (type_at Us n) (types_at Us ms)) → FieldsSoFar args i before first (fs ++ f ∷ []) Us ms (fields ++ k ∷ [])
    next_field ms k h =
        let found = found_all (named_field args i f ∷ []) (types_at Us ns) (types_at Us ms) (ap (λ (w : Walk). then_walk w (λ vs. find_all vs [])) (as_named (Ok (types_at Us ms)) h.0)) in
        let all = found_all (map (named_field args i) fs) start (types_at Us ns) went in
        record {
          walk = ap (find_all start) (map-append (named_field args i) fs (f ∷ [])) ∙ find_all_push start (types_at Us ns) (types_at Us ms) (map (named_field args i) fs) (named_field args i f) went (as_named (Ok (types_at Us ms)) h.0);
          holds = record { grows = grows_then before Ts Us so_far.holds.grows grows; below = h.2 };
          fields =
              ap₂ (λ (xs ys : List ℕ). xs ++ ys)
              (so_far.fields ∙ ap (λ (vs : List Shape). indices args vs fs) (sym closed_same)
              ∙ sym (ap (λ (vs : List Shape). indices args vs fs) found.starts ∙ stay found.more fs all.each))
              (ap (λ (j : ℕ). j ∷ []) (h.3 ∙ ap (λ (T : Shape). index_of T (types_at Us ms)) closed_at))
              ∙ sym (map-append (λ (g : Slot). index_of (closed args g.of) (types_at Us ms)) fs (f ∷ []));
        }
      where
        stay : (more : List Shape) (gs : List Slot) → AreAmong (types_at Us ns) (map (named_field args i) gs) → indices args (types_at Us ns ++ more) gs ≡ indices args (types_at Us ns) gs
        stay more [] are = refl
        stay more (g ∷ gs) are = ap₂ (λ (k : ℕ) (ks : List ℕ). k ∷ ks) (index_more (closed args g.of) (types_at Us ns) more are.0) (stay more gs are.1)

    pub field_fails : {B : Type 0} (rest : List Slot) (after : List Shape) (ms js : List ℕ) (e : PlanFault) (Q : B → Type 0) → Walks (find (types_at Us ns) (record { of = type_at Us n; decl = i })) Us Us ms (Err e) (λ j. j ≡ index_of (type_at Us n) (types_at Us ms)) → Walks (find_all start (map (named_field args i) (fs ++ f ∷ rest))) before after js (Err e) Q
    field_fails rest after ms js e Q h =
        fails (find (types_at Us ns) (record { of = type_at Us n; decl = i })) (find_all start (map (named_field args i) (fs ++ f ∷ rest))) Us Us before after ms js e (λ j. j ≡ index_of (type_at Us n) (types_at Us ms)) Q h
        (λ stopped. ap (find_all start) (map-append (named_field args i) fs (f ∷ rest)) ∙ find_all_fails start (types_at Us ns) (map (named_field args i) fs) (map (named_field args i) rest) (named_field args i f) e went (as_named (Err e) stopped))

-- ---- members

-- after these declarations
pub record MembersSoFar (S : Declared) (args : List Shape) (before : List Shape) (first : List ℕ) (is : List ℕ) (Ts : List Shape) (ns : List ℕ) (ms : List MemberView) : Type 0 where
  pub walk : find_all (types_at before first) (flat_map (fields_named S args) is) ≡ Ok (types_at Ts ns)
  pub holds : Holds before Ts ns
  pub members : ms ≡ map (member_of S (types_at Ts ns) args) is

pub no_members : (S : Declared) (args : List Shape) (before : List Shape) (first : List ℕ) → AreBelow (length before) first → MembersSoFar S args before first [] before first []
no_members S args before first below = record { walk = refl; holds = record { grows = grows_same before; below = below }; members = refl }

flat_append : {X Y : Type 0} (f : X → List Y) (xs ys : List X) → flat_map f (xs ++ ys) ≡ flat_map f xs ++ flat_map f ys
flat_append f [] ys = refl
flat_append f (x ∷ xs) ys = ap (λ zs. f x ++ zs) (flat_append f xs ys) ∙ sym (append_assoc (f x) (flat_map f xs) (flat_map f ys))

module _ (S : Declared) (args : List Shape) (before : List Shape) (first : List ℕ) (is : List ℕ) (i : ℕ) (Ts : List Shape) (ns : List ℕ) (members : List MemberView) (so_far : MembersSoFar S args before first is Ts ns members) where
  abbrev begun : List Shape
  begun = types_at before first

  pub next_member : (Us : List Shape) (ms : List ℕ) (m : MemberView) → Walks (find_all (types_at Ts ns) (fields_named S args i)) Ts Us ms (Ok m) (λ w. w ≡ member_of S (types_at Us ms) args i) → MembersSoFar S args before first (is ++ i ∷ []) Us ms (members ++ m ∷ [])
  next_member Us ms m h =
      let found = found_all (fields_named S args i) (types_at Ts ns) (types_at Us ms) h.0 in
      let all = found_all (flat_map (fields_named S args) is) begun (types_at Ts ns) so_far.walk in
      record {
        walk =
            ap (find_all begun) (flat_append (fields_named S args) is (i ∷ []) ∙ ap (λ (ys : List Named). flat_map (fields_named S args) is ++ ys) (append-nil (fields_named S args i)))
            ∙ find_all_append begun (flat_map (fields_named S args) is) (fields_named S args i)
            ∙ ap (λ (w : Walk). then_walk w (λ vs. find_all vs (fields_named S args i))) so_far.walk ∙ h.0;
        holds = record { grows = grows_then before Ts Us so_far.holds.grows h.1; below = h.2 };
        members =
            ap₂ (λ (xs ys : List MemberView). xs ++ ys)
            (so_far.members ∙ sym (ap (λ (vs : List Shape). map (member_of S vs args) is) found.starts ∙ members_stay S args (types_at Ts ns) found.more is all.each))
            (ap (λ (w : MemberView). w ∷ []) h.3)
            ∙ sym (map-append (member_of S (types_at Us ms) args) is (i ∷ []));
      }

  pub member_fails : {A B : Type 0} (rest : List ℕ) (Us after : List Shape) (ms js : List ℕ) (e : PlanFault) (P : A → Type 0) (Q : B → Type 0) → Walks (find_all (types_at Ts ns) (fields_named S args i)) Ts Us ms (Err e) P → Walks (find_all begun (flat_map (fields_named S args) (is ++ i ∷ rest))) before after js (Err e) Q
  member_fails rest Us after ms js e P Q h =
      fails (find_all (types_at Ts ns) (fields_named S args i)) (find_all begun (flat_map (fields_named S args) (is ++ i ∷ rest))) Ts Us before after ms js e P Q h
      (λ stopped. ap (find_all begun) (flat_append (fields_named S args) is (i ∷ rest)) ∙ find_all_fails_in begun (types_at Ts ns) (flat_map (fields_named S args) is) (fields_named S args i) (flat_map (fields_named S args) rest) e so_far.walk stopped)

-- ---- instances

-- the type names the types of the fields of these declarations, applied to these types
pub record NamesBy (S : Declared) (T : Shape) (As : List Shape) (is : List ℕ) : Type 0 where
  pub named : names_of S T ≡ flat_map (fields_named S As) is
  pub no_item : (ts : List Shape) → item_in ts T ≡ None
  pub arguments : As ≡ arguments_of T
  pub entries : is ≡ entries_of S T

-- a type with these declarations
pub record_shows : (S : Declared) (T : Shape) (f : TypeForm) (As : List Shape) (entries : List ℕ) (old new : List Shape) (first ns : List ℕ) (result : Result Instance PlanFault) → HasForm T f → NamesBy S T As entries → Walks (find_all (types_at old first) (flat_map (fields_named S As) entries)) old new ns result (λ i. (i.form ≡ f) × (i.item ≡ None) × (map member_view i.members.items ≡ map (member_of S (types_at new ns) As) entries)) → Walks (find_all (types_at old first) (names_of S T)) old new ns result (λ i. Shows (instance_of S (types_at new ns) T) i)
record_shows S T f As entries old new first ns (Ok i) form names h = (
  ap (find_all (types_at old first)) names.named ∙ h.0,
  h.1,
  h.2,
  record {
    form = subst (HasForm T) (sym h.3.0) form;
    item = h.3.1 ∙ sym (names.no_item (types_at new ns));
    members = h.3.2 ∙ ap₂ (λ (Us : List Shape) (is : List ℕ). map (member_of S (types_at new ns) Us) is) names.arguments names.entries;
  },
)
record_shows S T f As entries old new first ns (Err (TypeTooDeep d)) form names h = ap (find_all (types_at old first)) names.named ∙ h
record_shows S T f As entries old new first ns (Err TooManyInstances) form names h = ap (find_all (types_at old first)) names.named ∙ h
record_shows S T f As entries old new first ns (Err Memory) form names h = tt

pub boxed_names : (S : Declared) (T : Shape) (h : ℕ) (args : Shapes) (As : List Shape) (entries : List ℕ) → T ≡ type.boxed h args → As ≡ parts_of T → entries ≡ constructors_of S h → NamesBy S T As entries
boxed_names S T h args As entries is parts these = subst (λ (U : Shape). NamesBy S U As entries) (sym is) (record {
  named = sym (ap₂ (λ (Us : List Shape) (is : List ℕ). flat_map (fields_named S Us) is) (parts ∙ ap parts_of is) these);
  no_item = λ ts. refl;
  arguments = parts ∙ ap parts_of is;
  entries = these;
})

pub bare_names : (S : Declared) (T : Shape) (i : ℕ) (args : Shapes) (As : List Shape) (entries : List ℕ) → T ≡ type.bare i args → As ≡ parts_of T → entries ≡ i ∷ [] → NamesBy S T As entries
bare_names S T i args As entries is parts these = subst (λ (U : Shape). NamesBy S U As entries) (sym is) (record {
  named = sym (ap₂ (λ (Us : List Shape) (is : List ℕ). flat_map (fields_named S Us) is) (parts ∙ ap parts_of is) these);
  no_item = λ ts. refl;
  arguments = parts ∙ ap parts_of is;
  entries = these;
})

pub call_names : (S : Declared) (T : Shape) (As : List Shape) (entries : List ℕ) → T ≡ type.call → As ≡ parts_of T → entries ≡ functions_of S → NamesBy S T As entries
call_names S T As entries is parts these = subst (λ (U : Shape). NamesBy S U As entries) (sym is) (record {
  named = sym (ap₂ (λ (Us : List Shape) (is : List ℕ). flat_map (fields_named S Us) is) (parts ∙ ap parts_of is) these);
  no_item = λ ts. refl;
  arguments = parts ∙ ap parts_of is;
  entries = these;
})

-- ---- a vector

pub one_part : (Ts : List Shape) (parts : List ℕ) → length parts ≡ 1 → types_at Ts parts ≡ type_at Ts (get_or parts 0 0) ∷ []
one_part Ts [] e = absurd (omega (arith, e))
one_part Ts (k ∷ []) e = refl
one_part Ts (k ∷ j ∷ ks) e = absurd (omega (arith, e))

pub vector_fails : {A B : Type 0} (S : Declared) (Ts : List Shape) (parts : List ℕ) (ts : List Shape) (old new : List Shape) (ns ms : List ℕ) (e : PlanFault) (P : A → Type 0) (Q : B → Type 0) → length parts ≡ 1 → Walks (find ts (record { of = type_at Ts (get_or parts 0 0); decl = length S.decls })) Ts Ts ns (Err e) P → Walks (find_all ts (unnamed S (types_at Ts parts))) old new ms (Err e) Q
vector_fails S Ts parts ts old new ns ms e P Q one h =
    fails (find ts (record { of = type_at Ts (get_or parts 0 0); decl = length S.decls })) (find_all ts (unnamed S (types_at Ts parts))) Ts Ts old new ns ms e P Q h
    (λ stopped. ap (λ (Us : List Shape). find_all ts (unnamed S Us)) (one_part Ts parts one) ∙ ap (λ (w : Walk). then_walk w (λ us. find_all us [])) stopped)

pub vector_walk : (S : Declared) (Ts : List Shape) (parts : List ℕ) (ts us : List Shape) → length parts ≡ 1 → find ts (record { of = type_at Ts (get_or parts 0 0); decl = length S.decls }) ≡ Ok us → find_all ts (unnamed S (types_at Ts parts)) ≡ Ok us
vector_walk S Ts parts ts us one went = ap (λ (Us : List Shape). find_all ts (unnamed S Us)) (one_part Ts parts one) ∙ ap (λ (w : Walk). then_walk w (λ vs. find_all vs [])) went
