-- The member of an instance whose declaration has a number.
use Rattle.std.proofs.Common.{◌≡◌, inl, inr, ℕ, ◌-◌, ◌<◌, ◌≤◌, List, length, map, get_or, slice_get, Some, None, refl, ap, sym, ◌∙◌, subst, arith}
use Rattle.std.specs.Option.{option_map}
use Rattle.std.proofs.lemmas.Bool.{cases_order}
use Rattle.std.proofs.lemmas.Option.{slice_get-map, slice_get_within, slice_get_read, same_Some}
use Rattle.tl_names.specs.Indexes.{types_of}
use Rattle.tl_schema.specs.Types.{Shape, Shapes}
use Rattle.tl_schema.specs.Types as type
use Rattle.tl_schema.specs.Schemas.{Declaration}
use Rattle.tl_schema.specs.Formed.{IsMember, IsFunction, IsFormed}
use Rattle.tl_plan.specs.Plans.{InstanceView, IsFlagOrFormed, IsPlan, MemberView, PlanView}
use Rattle.tl_plan.specs.PlanLaws.{StandsIn, entries_in}
use Rattle.tl_plan.specs.Seen.{ShowsAt, member_view}
use Rattle.tl_plan.specs.declared.instances.Member.{Member}
use Rattle.tl_plan.specs.declared.instances.Instance.{Instance}
use Rattle.tl_plan.proofs.PlanFacts.{instances_have_members, instances_are_formed}
use Rattle.tl_plan.proofs.FormedReached.{in_map}
use Rattle.tl_types.specs.inner.Reading.{first_from, is_member, is_function}
use Rattle.tl_types.proofs.Members.{NumbersTell, SoughtNumber, has, lacks, member_found, function_found, no_member, no_function, seek_member, seek_function}
use Rattle.tl_types.proofs.SchemaTells.{schema_tells}
use Rattle.tl_decode.specs.inner.Frames.{type_in, members_in, entry_in, find_in, entries_shown}
use Rattle.tl_decode.proofs.PlanTypes.{type_there, shown_members, entry_there}

never : {P : Type 0} {e : ℕ} → None ≡ Some e → P
never e = absurd cc

-- in ascending order
abbrev pub Ascends : List ℕ → Type 0
Ascends is = (j k i h : ℕ) → j < k → slice_get is j ≡ Some i → slice_get is k ≡ Some h → i < h

-- what a search by a number needs of the declarations
record Listed (is : List ℕ) (e : ℕ) : Type 0 where
  stands : StandsIn is e
  ascends : Ascends is

module _ (p : PlanView) (good : IsPlan p) where
  tell : NumbersTell p.schema
  tell = (schema_tells p.schema good.schema).numbers

  member_is : (h w e : ℕ) → h < length (types_of p.schema.program) → first_from (is_member h w) 0 p.schema.decls ≡ Some e → (d : Declaration) × IsMember p.schema h e d
  member_is h w e known found = by (seek_member p.schema tell h w known)
    where
      by : SoughtNumber (IsMember p.schema h) w → (d : Declaration) × IsMember p.schema h e d
      by (has i d m number) =
          let same : i ≡ e = same_Some i e (sym (member_found p.schema tell h i d m) ∙ ap (λ (k : ℕ). first_from (is_member h k) 0 p.schema.decls) number ∙ found) in
          subst (λ (k : ℕ). (d : Declaration) × IsMember p.schema h k d) same (d, m)
      by (lacks none) = never (sym (no_member p.schema tell h w known none) ∙ found)

  function_is : (w e : ℕ) → first_from (is_function w) 0 p.schema.decls ≡ Some e → (d : Declaration) × IsFunction p.schema e d
  function_is w e found = by (seek_function p.schema tell w)
    where
      by : SoughtNumber (IsFunction p.schema) w → (d : Declaration) × IsFunction p.schema e d
      by (has i d m number) =
          let same : i ≡ e = same_Some i e (sym (function_found p.schema tell i d m) ∙ ap (λ (k : ℕ). first_from (is_function k) 0 p.schema.decls) number ∙ found) in
          subst (λ (k : ℕ). (d : Declaration) × IsFunction p.schema k d) same (d, m)
      by (lacks none) = never (sym (no_function p.schema tell w none) ∙ found)

  module _ (j : ℕ) (x : InstanceView) (there : slice_get p.instances j ≡ Some x) (w e : ℕ) where
    formed_boxed : (h : ℕ) (args : Shapes) → x.of ≡ type.boxed h args → IsFlagOrFormed p.schema x.of → h < length (types_of p.schema.program)
    formed_boxed h args is (inl flag) = absurd (flag_is_boxed h args (sym flag ∙ is))
      where
        flag_is_boxed : (h : ℕ) (args : Shapes) → type.flag ≡ type.boxed h args → ⊥
        flag_is_boxed h args e = cc
    formed_boxed h args is (inr formed) = let f = subst (IsFormed p.schema) is formed in f.0.known

    listed_by : (T : Shape) → x.of ≡ T → find_in p.schema.decls T w ≡ Some e → Listed (entries_in x) e
    listed_by (type.boxed h args) is found =
        let those = (instances_have_members p good j x there).of_boxed h args is in
        record { stands = those.all e (member_is h w e (formed_boxed h args is (instances_are_formed p good j x there)) found); ascends = those.ascending }
    listed_by type.call is found =
        let those = (instances_have_members p good j x there).of_call is in
        record { stands = those.all e (function_is w e found); ascends = those.ascending }
    listed_by T is found = never found

  module _ (j : ℕ) (i : Instance) (shows : ShowsAt p.instances j i) (w e : ℕ) (found : find_in p.schema.decls (type_in p j) w ≡ Some e) where
    listed : Listed (entries_shown i.members.items) e
    listed =
        subst (λ (ms : List MemberView). Listed (map (λ (m : MemberView). m.entry) ms) e) (sym shows.2.members)
        (listed_by j shows.0 shows.1 w e shows.0.of refl (ap (λ (T : Shape). find_in p.schema.decls T w) (sym (type_there p j shows.0 shows.1)) ∙ found))

    pub stands_there : StandsIn (entries_shown i.members.items) e
    stands_there = listed.stands

    pub in_order : Ascends (entries_shown i.members.items)
    in_order = listed.ascends

    pub found_member : (m : ℕ) → slice_get (entries_shown i.members.items) m ≡ Some e → (m < length (members_in p j)) × (find_in p.schema.decls (type_in p j) w ≡ Some (entry_in p j m))
    found_member m at =
        let own = in_map (λ (x : MemberView). x.entry) (map member_view i.members.items) m e at in
        let here : slice_get (members_in p j) m ≡ Some own.0 = ap (λ (ms : List MemberView). slice_get ms m) (sym (shown_members p j i shows)) ∙ own.1 in
        (slice_get_within (members_in p j) m own.0 here, found ∙ ap Some (own.2 ∙ sym (entry_there p j m own.0 here)))

-- ---- by halves

-- the index of e is at least low and below high
pub record Between (is : List ℕ) (e low high : ℕ) : Type 0 where
  pub k : ℕ
  pub at : slice_get is k ≡ Some e
  pub from : low ≤ k
  pub below : k < high

pub between_all : (is : List ℕ) (e n : ℕ) → StandsIn is e → n ≡ length is → Between is e 0 n
between_all is e n (k, at) same = let lt = slice_get_within is k e at in record { k = k; at = at; from = omega arith; below = omega (arith, lt, same) }

entry_at : (ms : List Member) (m : ℕ) (x : Member) → m < length ms → x ≡ get_or ms m x → slice_get (entries_shown ms) m ≡ Some x.entry
entry_at ms m x lt is =
    slice_get-map (λ (y : MemberView). y.entry) (map member_view ms) m ∙ ap (option_map (λ (y : MemberView). y.entry)) (slice_get-map member_view ms m ∙ ap (option_map member_view) (slice_get_read ms (length ms) m x refl lt is))

pub between_upper : (ms : List Member) (e low high m : ℕ) (x : Member) → Ascends (entries_shown ms) → Between (entries_shown ms) e low high → m < length ms → x ≡ get_or ms m x → x.entry ≤ e → Between (entries_shown ms) e m high
between_upper ms e low high m x order b lt is le =
    let here = entry_at ms m x lt is in
    elim (cases_order m b.k) [
      | inl same ↦ record { k = b.k; at = b.at; from = omega (arith, same); below = b.below }
      | inr (inl less) ↦ record { k = b.k; at = b.at; from = omega (arith, less); below = b.below }
      | inr (inr more) ↦ let above = order b.k m e x.entry more b.at here in absurd (omega (arith, above, le))
    ]

pub between_lower : (ms : List Member) (e low high m : ℕ) (x : Member) → Ascends (entries_shown ms) → Between (entries_shown ms) e low high → m < length ms → x ≡ get_or ms m x → e < x.entry → Between (entries_shown ms) e low m
between_lower ms e low high m x order b lt is gt =
    let here = entry_at ms m x lt is in
    elim (cases_order b.k m) [
      | inl same ↦ let own = same_Some e x.entry (sym b.at ∙ ap (slice_get (entries_shown ms)) same ∙ here) in absurd (omega (arith, own, gt))
      | inr (inl less) ↦ record { k = b.k; at = b.at; from = b.from; below = less }
      | inr (inr more) ↦ let above = order m b.k x.entry e more here b.at in absurd (omega (arith, above, gt))
    ]

pub between_one : (is : List ℕ) (e low high : ℕ) → Between is e low high → high - low ≤ 1 → slice_get is low ≡ Some e
between_one is e low high b le = let same : low ≡ b.k = omega (arith, b.from, b.below, le) in ap (slice_get is) same ∙ b.at
