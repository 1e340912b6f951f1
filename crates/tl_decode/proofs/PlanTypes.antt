-- What the instances of a plan show of their types and members.
use Rattle.std.proofs.Common.{◌≡◌, ℕ, ◌<◌, List, length, map, get_or, slice_get, [], Some, None, refl, ap, sym, ◌∙◌, subst}
use Rattle.std.specs.Option.{option_map}
use Rattle.std.proofs.lemmas.List.{length-map}
use Rattle.std.proofs.lemmas.Option.{slice_get-map, slice_get_within, slice_get_read, slice_get-get_or}
use Rattle.tl_schema.specs.Types.{Shape, Shapes}
use Rattle.tl_schema.specs.Types as type
use Rattle.tl_schema.specs.Closing.{closed}
use Rattle.tl_schema.specs.Schemas.{Slot, Declaration}
use Rattle.tl_plan.specs.Types.{arguments_of}
use Rattle.tl_plan.specs.Plans.{InstanceView, IsPlan, MemberView, PlanView}
use Rattle.tl_plan.specs.PlanLaws.{IsInstance}
use Rattle.tl_plan.specs.Seen.{ShowsAt, member_view}
use Rattle.tl_schema.specs.Forms.{HasForm}
use Rattle.tl_schema.specs.declared.form.TypeForm.{TypeForm}
use Rattle.tl_plan.specs.declared.instances.Member.{Member}
use Rattle.tl_plan.specs.declared.instances.Instance.{Instance}
use Rattle.tl_schema.specs.declared.form.TypeForm.TheVariants as form
use Rattle.tl_plan.proofs.PlanFacts.{instances_have_members, items_have_instances}
use Rattle.tl_plan.proofs.FormedReached.{in_map}
use Rattle.tl_types.specs.Values.{ValueViews}
use Rattle.tl_types.specs.Values as value
use Rattle.tl_types.specs.inner.Reading.{fields_in}
use Rattle.tl_types.proofs.Members.{fields_there}
use Rattle.tl_decode.specs.inner.Frames.{type_in, members_in, entry_in, find_in, made, IsInPlan, IsBare}

pub type_there : (p : PlanView) (j : ℕ) (x : InstanceView) → slice_get p.instances j ≡ Some x → type_in p j ≡ x.of
unfolding type_in
type_there p j x there = rw there refl

members_there : (p : PlanView) (j : ℕ) (x : InstanceView) → slice_get p.instances j ≡ Some x → members_in p j ≡ x.members
unfolding members_in
members_there p j x there = rw there refl

-- ---- types

pub shown_type : (p : PlanView) (j : ℕ) (i : Instance) (f : TypeForm) → ShowsAt p.instances j i → i.form ≡ f → HasForm (type_in p j) f
shown_type p j i f shows is = subst (HasForm (type_in p j)) is (subst (λ (T : Shape). HasForm T i.form) (sym (type_there p j shows.0 shows.1)) shows.2.form)

pub instance_type : (p : PlanView) (j : ℕ) (T : Shape) → IsInstance p j T → type_in p j ≡ T
instance_type p j T x = type_there p j x.0 x.1 ∙ x.2

pub instance_within : (p : PlanView) (j : ℕ) (T : Shape) → IsInstance p j T → IsInPlan p j
instance_within p j T x = slice_get_within p.instances j x.0 x.1

-- ---- members

pub shown_members : (p : PlanView) (j : ℕ) (i : Instance) → ShowsAt p.instances j i → map member_view i.members.items ≡ members_in p j
shown_members p j i shows = shows.2.members ∙ sym (members_there p j shows.0 shows.1)

pub shown_count : (p : PlanView) (j : ℕ) (i : Instance) → ShowsAt p.instances j i → length i.members.items ≡ length (members_in p j)
shown_count p j i shows = sym (length-map i.members.items member_view) ∙ ap length (shown_members p j i shows)

pub shown_member : (p : PlanView) (j : ℕ) (i : Instance) (m : ℕ) (here : Member) → ShowsAt p.instances j i → m < length i.members.items → here ≡ get_or i.members.items m here → slice_get (members_in p j) m ≡ Some (member_view here)
shown_member p j i m here shows lt is =
    ap (λ (ms : List MemberView). slice_get ms m) (sym (shown_members p j i shows)) ∙ slice_get-map member_view i.members.items m ∙ ap (option_map member_view) (slice_get_read i.members.items (length i.members.items) m here refl lt is)

pub entry_there : (p : PlanView) (j m : ℕ) (x : MemberView) → slice_get (members_in p j) m ≡ Some x → entry_in p j m ≡ x.entry
unfolding entry_in
entry_there p j m x there = rw there refl

-- a member: its declaration, and the instances of its fields
pub record IsHere (p : PlanView) (j m : ℕ) (here : Member) : Type 0 where
  pub d : Declaration
  pub there : slice_get p.schema.decls here.entry ≡ Some d
  pub entry : entry_in p j m ≡ here.entry
  pub slots : fields_in p.schema.decls (entry_in p j m) ≡ d.fields
  pub count : length here.fields.items ≡ length d.fields
  pub fields : (k : ℕ) (f : Slot) → slice_get d.fields k ≡ Some f → (h : ℕ) × (slice_get here.fields.items k ≡ Some h) × IsInstance p h (closed (arguments_of (type_in p j)) f.of)

pub is_here : (p : PlanView) → IsPlan p → (j : ℕ) (i : Instance) (m : ℕ) (here : Member) → ShowsAt p.instances j i → m < length i.members.items → here ≡ get_or i.members.items m here → IsHere p j m here
is_here p good j i m here shows lt is =
    let seen = shown_member p j i m here shows lt is in
    let own = (instances_have_members p good j shows.0 shows.1).each m (member_view here) (ap (λ (ms : List MemberView). slice_get ms m) (sym (members_there p j shows.0 shows.1)) ∙ seen) in
    let entry : entry_in p j m ≡ here.entry = entry_there p j m (member_view here) seen in
    record {
      d = own.0;
      there = own.1.there;
      entry = entry;
      slots = ap (fields_in p.schema.decls) entry ∙ fields_there p.schema.decls here.entry own.0 own.1.there;
      count = own.1.count;
      fields = λ k f at.
          let h = own.1.fields k f at in
          (h.0, h.1, subst (λ (T : Shape). IsInstance p h.0 (closed (arguments_of T) f.of)) (sym (type_there p j shows.0 shows.1)) h.2);
    }

-- ---- bare records and vectors

unknown : InstanceView
unknown = record { of = type.call; item = None; members = [] }

-- the one member of a bare record
pub bare_member : (p : PlanView) → IsPlan p → (j i : ℕ) → IsInPlan p j → IsBare (type_in p j) i → (0 < length (members_in p j)) × (entry_in p j 0 ≡ i)
bare_member p good j i within (args, is) =
    let x = get_or p.instances j unknown in
    let there : slice_get p.instances j ≡ Some x = slice_get-get_or p.instances j unknown within in
    let one = (instances_have_members p good j x there).of_bare i args (sym (type_there p j x there) ∙ is) in
    let own = in_map (λ (m : MemberView). m.entry) x.members 0 i (ap (λ (is : List ℕ). slice_get is 0) one) in
    let here : slice_get (members_in p j) 0 ≡ Some own.0 = ap (λ (ms : List MemberView). slice_get ms 0) (members_there p j x there) ∙ own.1 in
    (slice_get_within (members_in p j) 0 own.0 here, entry_there p j 0 own.0 here ∙ sym own.2)

-- the instance of a vector's elements
pub item_there : (p : PlanView) → IsPlan p → (j : ℕ) (i : Instance) (is_boxed : _) (U : Shape) → ShowsAt p.instances j i → type_in p j ≡ type.vector is_boxed U → (k : ℕ) × (i.item ≡ Some k) × IsInstance p k U
item_there p good j i is_boxed U shows is =
    let own = items_have_instances p good j shows.0 is_boxed U shows.1 (sym (type_there p j shows.0 shows.1) ∙ is) in
    (own.0, shows.2.item ∙ own.1, own.2)

-- ---- forms

pub made_node : (T : Shape) (f : TypeForm) → HasForm T f → (f ≡ form.Call → ⊥) → (i : ℕ) (vs : ValueViews) → made T i vs ≡ value.node i vs
made_node T form.Int e other i vs = rw e refl
made_node T form.Long e other i vs = rw e refl
made_node T form.Nat e other i vs = rw e refl
made_node T form.Double e other i vs = rw e refl
made_node T form.Int128 e other i vs = rw e refl
made_node T form.Int256 e other i vs = rw e refl
made_node T form.Str e other i vs = rw e refl
made_node T form.Raw e other i vs = rw e refl
made_node T form.Flag e other i vs = rw e refl
made_node T form.Call e other i vs = absurd (other refl)
made_node T (form.Var k) e other i vs = rw e refl
made_node T (form.Vector b) e other i vs = rw e.1 refl
made_node T (form.Boxed h) e other i vs = rw e.1 refl
made_node T (form.Bare k) e other i vs = rw e.1 refl

pub finds_none : (T : Shape) (f : TypeForm) → HasForm T f → (f ≡ form.Call → ⊥) → ((h : ℕ) → f ≡ form.Boxed h → ⊥) → (ds : List Declaration) (w : ℕ) → find_in ds T w ≡ None
finds_none T form.Int e other not_boxed ds w = rw e refl
finds_none T form.Long e other not_boxed ds w = rw e refl
finds_none T form.Nat e other not_boxed ds w = rw e refl
finds_none T form.Double e other not_boxed ds w = rw e refl
finds_none T form.Int128 e other not_boxed ds w = rw e refl
finds_none T form.Int256 e other not_boxed ds w = rw e refl
finds_none T form.Str e other not_boxed ds w = rw e refl
finds_none T form.Raw e other not_boxed ds w = rw e refl
finds_none T form.Flag e other not_boxed ds w = rw e refl
finds_none T form.Call e other not_boxed ds w = absurd (other refl)
finds_none T (form.Var k) e other not_boxed ds w = rw e refl
finds_none T (form.Vector b) e other not_boxed ds w = rw e.1 refl
finds_none T (form.Boxed h) e other not_boxed ds w = absurd (not_boxed h refl)
finds_none T (form.Bare k) e other not_boxed ds w = rw e.1 refl
