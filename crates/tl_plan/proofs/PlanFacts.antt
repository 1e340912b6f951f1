-- What holds of plans: vectors have items, types have members, and these have fields.
use Rattle.std.proofs.Common.{◌≡◌, ◌≢◌, inl, inr, ℕ, zero, suc, List, [], ◌∷◌, ◌++◌, length, map, slice_get, Some, Ok, Err, Result, Bool, true, refl, ap, sym, ◌∙◌, subst}
use Rattle.std.specs.List.{flat_map}
use Rattle.std.specs.Option.{option_map}
use Rattle.std.proofs.lemmas.List.{length-map}
use Rattle.std.proofs.lemmas.Option.{slice_get-map}
use Rattle.tl_schema.specs.Types.{Shape}
use Rattle.tl_schema.specs.Types as type
use Rattle.tl_schema.specs.Closing.{closed}
use Rattle.tl_schema.specs.Formed.{IsFunction, IsMember}
use Rattle.tl_schema.specs.Schemas.{Slot, Declaration, Declared}
use Rattle.tl_plan.specs.Types.{arguments_of, index_of, is_among}
use Rattle.tl_plan.specs.Entries.{entries_of, fields_at, fields_in}
use Rattle.tl_plan.specs.Reached.{Named, fields_named, names_of}
use Rattle.tl_plan.specs.Plans.{AreAmong, InstanceView, IsFlagOrFormed, IsPlan, MemberView, PlanView, Plans, answer, instance_of, item_in, member_of, types_of_plan}
use Rattle.tl_plan.specs.PlanLaws.{AreThose, EachIsFormed, HasMembers, InstancesHaveMembers, IsInstance, IsMemberOf, ItemsHaveInstances, OneAnswer, entries_in}
use Rattle.tl_plan.specs.declared.fault.PlanFault.{PlanFault}
use Rattle.tl_plan.specs.declared.fault.PlanFault.TheVariants.{TypeTooDeep, TooManyInstances, Memory}
use Rattle.tl_plan.proofs.EntryLists.{these_constructors, these_functions}
use Rattle.tl_plan.proofs.FormedReached.{in_map}
use Rattle.tl_plan.proofs.TypeLists.{at_index, none_some, some_is}

module _ (p : PlanView) (good : IsPlan p) where
  abbrev S : Declared
  S = p.schema

  abbrev ts : List Shape
  ts = types_of_plan p

  -- a type that stands among those of the plan has its instance
  has_instance : (T : Shape) → is_among T ts ≡ true → IsInstance p (index_of T ts) T
  has_instance T there = let x = in_map (λ (y : InstanceView). y.of) p.instances (index_of T ts) T (at_index T ts there) in (x.0, x.1, sym x.2)

  module _ (k : ℕ) (x : InstanceView) (at : slice_get p.instances k ≡ Some x) where
    type_at_k : slice_get ts k ≡ Some x.of
    type_at_k = slice_get-map (λ (y : InstanceView). y.of) p.instances k ∙ ap (option_map (λ (y : InstanceView). y.of)) at

    instance_is : x ≡ instance_of S ts x.of
    instance_is =
        let made = in_map (instance_of S ts) ts k x (ap (λ (xs : List InstanceView). slice_get xs k) (sym good.instances) ∙ at) in
        made.2 ∙ ap (instance_of S ts) (some_is made.0 x.of (sym made.1 ∙ type_at_k))

    item_is : (b : Bool) (T : Shape) → x.of ≡ type.vector b T → (j : ℕ) × (x.item ≡ Some j) × IsInstance p j T
    item_is b T e =
        let among = subst (λ (U : Shape). AreAmong ts (names_of S U)) e (good.closed k x.of type_at_k) in
        (index_of T ts, ap (λ (y : InstanceView). y.item) instance_is ∙ ap (item_in ts) e, has_instance T among.0)

    formed_is : IsFlagOrFormed S x.of
    formed_is = good.formed k x.of type_at_k

    -- ---- members

    members_are : x.members ≡ map (member_of S ts (arguments_of x.of)) (entries_of S x.of)
    members_are = ap (λ (y : InstanceView). y.members) instance_is

    entries_again : (is : List ℕ) (args : List Shape) → map (λ (m : MemberView). m.entry) (map (member_of S ts args) is) ≡ is
    entries_again [] args = refl
    entries_again (i ∷ is) args = ap (λ (js : List ℕ). i ∷ js) (entries_again is args)

    there : (T : Shape) → IsFlagOrFormed S T → (h i : ℕ) → slice_get (entries_of S T) h ≡ Some i → (d : Declaration) × (slice_get S.decls i ≡ Some d)
    there type.int f h i e = absurd (none_some i e)
    there type.long f h i e = absurd (none_some i e)
    there type.nat f h i e = absurd (none_some i e)
    there (type.opaque n) f h i e = absurd (none_some i e)
    there type.str f h i e = absurd (none_some i e)
    there type.raw f h i e = absurd (none_some i e)
    there type.flag f h i e = absurd (none_some i e)
    there type.call f h i e = let m = (these_functions S).only i (h, e) in (m.0, m.1.there)
    there (type.var j) f h i e = absurd (none_some i e)
    there (type.vector b T) f h i e = absurd (none_some i e)
    there (type.boxed g args) f h i e = let m = (these_constructors S g).only i (h, e) in (m.0, m.1.there)
    there (type.bare j args) (inl flag) h i e = absurd cc
    there (type.bare j args) (inr f) zero i e = (f.0.d, ap (slice_get S.decls) (sym (some_is j i e)) ∙ f.0.member.there)
    there (type.bare j args) (inr f) (suc h) i e = absurd (none_some i e)

    -- the types of its fields stand among those of the plan
    among_fields : (is : List ℕ) (args : List Shape) → AreAmong ts (flat_map (fields_named S args) is) → (h i : ℕ) → slice_get is h ≡ Some i → AreAmong ts (fields_named S args i)
    among_fields [] args are h i e = absurd (none_some i e)
    among_fields (j ∷ is) args are zero i e = subst (λ (g : ℕ). AreAmong ts (fields_named S args g)) (some_is j i e) (front (fields_named S args j) (flat_map (fields_named S args) is) are)
      where
        front : (xs ys : List Named) → AreAmong ts (xs ++ ys) → AreAmong ts xs
        front [] ys are = tt
        front (x ∷ xs) ys are = (are.0, front xs ys are.1)
    among_fields (j ∷ is) args are (suc h) i e = among_fields is args (behind (fields_named S args j) (flat_map (fields_named S args) is) are) h i e
      where
        behind : (xs ys : List Named) → AreAmong ts (xs ++ ys) → AreAmong ts ys
        behind [] ys are = are
        behind (x ∷ xs) ys are = behind xs ys are.1

    all_fields : (T : Shape) → AreAmong ts (names_of S T) → AreAmong ts (flat_map (fields_named S (arguments_of T)) (entries_of S T))
    all_fields type.int are = are
    all_fields type.long are = are
    all_fields type.nat are = are
    all_fields (type.opaque n) are = are
    all_fields type.str are = are
    all_fields type.raw are = are
    all_fields type.flag are = are
    all_fields type.call are = are
    all_fields (type.var j) are = are
    all_fields (type.vector b T) are = tt
    all_fields (type.boxed g args) are = are
    all_fields (type.bare j args) are = are

    field_among : (fs : List Slot) (args : List Shape) (i : ℕ) → AreAmong ts (map (λ f. record { of = closed args f.of; decl = i }) fs) → (h : ℕ) (f : Slot) → slice_get fs h ≡ Some f → is_among (closed args f.of) ts ≡ true
    field_among [] args i are h f e = absurd (none_some f e)
    field_among (g ∷ fs) args i are zero f e = subst (λ (s : Slot). is_among (closed args s.of) ts ≡ true) (some_is g f e) are.0
    field_among (g ∷ fs) args i are (suc h) f e = field_among fs args i are.1 h f e

    member_is : (h : ℕ) (m : MemberView) → slice_get x.members h ≡ Some m → (d : Declaration) × IsMemberOf p x.of m d
    member_is h m e =
        let made = in_map (member_of S ts (arguments_of x.of)) (entries_of S x.of) h m (ap (λ (ms : List MemberView). slice_get ms h) (sym members_are) ∙ e) in
        let i = made.0 in
        let d = there x.of formed_is h i made.1 in
        let fields : fields_at S i ≡ d.0.fields = ap fields_in d.1 in
        let among = among_fields (entries_of S x.of) (arguments_of x.of) (all_fields x.of (good.closed k x.of type_at_k)) h i made.1 in (
          d.0,
          record {
            there = ap (λ (n : MemberView). slice_get S.decls n.entry) made.2 ∙ d.1;
            count = ap (λ (n : MemberView). length n.fields) made.2 ∙ length-map (fields_at S i) (λ f. index_of (closed (arguments_of x.of) f.of) ts) ∙ ap length fields;
            fields = λ l f at_l. (
              index_of (closed (arguments_of x.of) f.of) ts,
              ap (λ (n : MemberView). slice_get n.fields l) made.2 ∙ slice_get-map (λ f. index_of (closed (arguments_of x.of) f.of) ts) (fields_at S i) l
                  ∙ ap (λ (fs : List Slot). option_map (λ f. index_of (closed (arguments_of x.of) f.of) ts) (slice_get fs l)) fields ∙ ap (option_map (λ f. index_of (closed (arguments_of x.of) f.of) ts)) at_l,
              has_instance (closed (arguments_of x.of) f.of) (field_among (fields_at S i) (arguments_of x.of) i among l f (ap (λ (fs : List Slot). slice_get fs l) fields ∙ at_l)),
            );
          },
        )

    entries_are : (T : Shape) → x.of ≡ T → entries_in x ≡ entries_of S T
    entries_are T e = ap (map (λ (m : MemberView). m.entry)) members_are ∙ entries_again (entries_of S x.of) (arguments_of x.of) ∙ ap (entries_of S) e

    has_members : HasMembers p x
    has_members = record {
      of_boxed = λ h args e. subst (AreThose (λ i. (d : Declaration) × IsMember S h i d)) (sym (entries_are (type.boxed h args) e)) (these_constructors S h);
      of_bare = λ i args e. entries_are (type.bare i args) e;
      of_call = λ e. subst (AreThose (λ i. (d : Declaration) × IsFunction S i d)) (sym (entries_are type.call e)) (these_functions S);
      each = member_is;
    }

pub items_have_instances : ItemsHaveInstances
items_have_instances p good k x b T at e = item_is p good k x at b T e

pub instances_have_members : InstancesHaveMembers
instances_have_members p good k x at = has_members p good k x at

pub instances_are_formed : EachIsFormed
instances_are_formed p good k x at = formed_is p good k x at

-- ---- one answer

answer_is : (S : Declared) (roots : List Shape) (a : Result PlanView PlanFault) → Plans S roots a → a ≢ Err Memory → a ≡ answer S roots
answer_is S roots (Ok p) is other = is
answer_is S roots (Err (TypeTooDeep d)) is other = is
answer_is S roots (Err TooManyInstances) is other = is
answer_is S roots (Err Memory) is other = absurd (other refl)

pub one_answer : OneAnswer
one_answer S roots a b p q x y = answer_is S roots a p x ∙ sym (answer_is S roots b q y)
