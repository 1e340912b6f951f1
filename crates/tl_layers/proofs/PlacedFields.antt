-- The fields of a declaration that has no break, and those of its counterpart, side by side.
use Rattle.std.proofs.Common.{◌≡◌, inl, inr, ℕ, zero, suc, ◌+◌, ◌<◌, ◌≤◌, List, [], ◌∷◌, ◌++◌, map, length, get_or, slice_get, Option, Some, None, refl, ap, sym, ◌∙◌, subst, false, arith, length-append}
use Rattle.std.proofs.lemmas.List.{append_assoc, map-append}
use Rattle.std.specs.Option.{option_map}
use Rattle.std.proofs.lemmas.Bool.{cases_order, cases_Bool}
use Rattle.std.proofs.lemmas.Option.{none-some, same_Some, slice_get_within}
use Rattle.tl_schema.specs.Schemas.{Slot, Declared}
use Rattle.tl_schema.specs.Formed.{IsCondition}
use Rattle.tl_types.specs.Values.{ValueView, int, long, nat, opaque, text, truth, absent, list, node, call, ValueViews, no_values, value, values_of, list_of, count}
use Rattle.tl_types.specs.Conditions.{is_bit, bits_of, stands_by}
use Rattle.tl_layers.specs.Counterparts.{image}
use Rattle.tl_layers.specs.Breaks.{field_index, IsFieldNamed, named_condition, IsSpare, NamesBit}
use Rattle.tl_layers.specs.Plain.{HasNamedBits}
use Rattle.tl_layers.specs.Lifted.{lifted, lifted_each, placed, value_named}
use Rattle.tl_layers.proofs.WovenFields.{AreWoven, ended, kept, added}
use Rattle.tl_layers.proofs.LiftedValues.{AreApart, get_next, get_before, get_later, get_made, get_mapped, get_some, index_some, index_none, value_at, value_none, lifted_list, bits_kept, no_bit}

-- fields without a break
pub record AreSettled (old new : Declared) (fs gs : List Slot) : Type 0 where
  pub olds : AreApart fs
  pub news : AreApart gs
  pub old_conditions : (k : ℕ) (f : Slot) → slice_get fs k ≡ Some f → IsCondition fs k f.cond
  pub new_conditions : (k : ℕ) (g : Slot) → slice_get gs k ≡ Some g → IsCondition gs k g.cond
  pub keeps : (k : ℕ) (f : Slot) → slice_get fs k ≡ Some f → (m : ℕ) × (g : Slot) × IsFieldNamed gs f.name m g × (g.of ≡ image old new f.of) × (named_condition gs g.cond ≡ named_condition fs f.cond)
  pub ordered : (p m n : ℕ) (f g : Slot) → slice_get fs p ≡ Some f → slice_get fs (suc p) ≡ Some g → field_index gs f.name ≡ Some m → field_index gs g.name ≡ Some n → m ≤ n
  pub spare : (m : ℕ) (g : Slot) → slice_get gs m ≡ Some g → field_index fs g.name ≡ None → IsSpare fs gs g.cond

module _ (old new : Declared) (fs gs : List Slot) (settled : AreSettled old new fs gs) where
  -- old field k stands at index m among the new ones
  pub record StandsAt (k m : ℕ) : Type 0 where
    pub f : Slot
    pub here : slice_get fs k ≡ Some f
    pub index : field_index gs f.name ≡ Some m

  stands : (k : ℕ) (f : Slot) → slice_get fs k ≡ Some f → (m : ℕ) × StandsAt k m
  stands k f here = let t = settled.keeps k f here in (t.0, record { f = f; here = here; index = t.2.0 })

  new_name : (k m : ℕ) → StandsAt k m → (g : Slot) × (slice_get gs m ≡ Some g) × ((f : Slot) → slice_get fs k ≡ Some f → g.name ≡ f.name)
  new_name k m s = let p = index_some gs (s.f).name m s.index in (p.0, p.1, λ f here. p.2 ∙ ap (λ (x : Slot). x.name) (same_Some s.f f (sym s.here ∙ here)))

  one_index : (k m n : ℕ) → StandsAt k m → StandsAt k n → m ≡ n
  one_index k m n s t = same_Some m n (sym s.index ∙ ap (λ (f : Slot). field_index gs f.name) (same_Some s.f t.f (sym s.here ∙ t.here)) ∙ t.index)

  -- fields that stand at one index are one
  one_field : (j k m : ℕ) → StandsAt j m → StandsAt k m → j ≡ k
  one_field j k m s t =
      let p = new_name j m s in
      let q = new_name k m t in
      settled.olds j k s.f t.f s.here t.here (sym (p.2 s.f s.here) ∙ ap (λ (x : Slot). x.name) (same_Some p.0 q.0 (sym p.1 ∙ q.1)) ∙ q.2 t.f t.here)

  next_rises : (p m n : ℕ) → StandsAt p m → StandsAt (suc p) n → m < n
  next_rises p m n s t =
      let le = settled.ordered p m n s.f t.f s.here t.here s.index t.index in
      elim (cases_order m n) [
        | inl e ↦ absurd (let one : p ≡ suc p = one_field p (suc p) m s (subst (StandsAt (suc p)) (sym e) t) in omega (arith, one))
        | inr (inl less) ↦ less
        | inr (inr more) ↦ absurd (omega (arith, le, more))
      ]

  -- later fields stand later; n counts the fields between
  rises_by : (n j m l : ℕ) → StandsAt j m → StandsAt (suc (n + j)) l → m < l
  rises_by zero j m l s t = let one : suc (0 + j) ≡ suc j = omega arith in next_rises j m l s (subst (λ i. StandsAt i l) one t)
  rises_by (suc n) j m l s t =
      let within = slice_get_within fs (suc (suc n + j)) t.f t.here in
      let between = get_some fs (suc (n + j)) (omega (arith, within)) in
      let u = stands (suc (n + j)) between.0 between.1 in
      let next : suc (suc n + j) ≡ suc (suc (n + j)) = omega arith in
      let low = rises_by n j m u.0 s u.1 in
      let high = next_rises (suc (n + j)) u.0 l u.1 (subst (λ i. StandsAt i l) next t) in
      omega (arith, low, high)

  less_by : (j k : ℕ) → j < k → (n : ℕ) × (k ≡ suc (n + j))
  less_by zero zero lt = absurd (omega (arith, lt))
  less_by zero (suc k) lt = (k, omega arith)
  less_by (suc j) zero lt = absurd (omega (arith, lt))
  less_by (suc j) (suc k) lt = let r = less_by j k (omega (arith, lt)) in (r.0, omega (arith, r.1))

  rises : (j k m l : ℕ) → StandsAt j m → StandsAt k l → j < k → m < l
  rises j k m l s t lt = let b = less_by j k lt in rises_by b.0 j m l s (subst (λ i. StandsAt i l) b.1 t)

  -- ---- with values

  module _ (ws : ValueViews) (count_is : count ws ≡ length fs) (plain : HasNamedBits fs (list_of ws)) where
    length_listed : (vs : ValueViews) → length (list_of vs) ≡ count vs
    length_listed no_values = refl
    length_listed (value v vs) = ap suc (length_listed vs)

    -- the new values of these fields
    abbrev news_of : List Slot → List ValueView
    news_of xs = map (λ g. value_named fs (lifted_each old new ws) g.name) xs

    named_value : (k : ℕ) (f : Slot) (v : ValueView) (name : List ℕ) → slice_get fs k ≡ Some f → slice_get (list_of ws) k ≡ Some v → f.name ≡ name → value_named fs (lifted_each old new ws) name ≡ lifted old new v
    named_value k f v name at there same =
        value_at fs (lifted_each old new ws) name k f (lifted old new v) settled.olds at (ap (λ us. slice_get us k) (lifted_list old new ws) ∙ get_mapped (lifted old new) (list_of ws) k v there) same

    clear_bit : (k bit : ℕ) (v : ValueView) → slice_get (list_of ws) k ≡ Some v → (NamesBit fs k bit → ⊥) → is_bit (bits_of v) bit ≡ false
    clear_bit k bit (nat n) there spare = elim (cases_Bool (is_bit n bit)) [ inl set ↦ absurd (spare (plain k n bit there set)) | inr clear ↦ clear ]
    clear_bit k bit (int z) there spare = no_bit bit
    clear_bit k bit (long z) there spare = no_bit bit
    clear_bit k bit (opaque s) there spare = no_bit bit
    clear_bit k bit (text s) there spare = no_bit bit
    clear_bit k bit truth there spare = no_bit bit
    clear_bit k bit absent there spare = no_bit bit
    clear_bit k bit (list vs) there spare = no_bit bit
    clear_bit k bit (node i vs) there spare = no_bit bit
    clear_bit k bit (call i vs) there spare = no_bit bit

    module _ (dg : List Slot) (gs1 : List Slot) (is_new : gs ≡ dg ++ gs1) where
      -- what stands at an index before, among the new values
      value_before : (at : ℕ) (h : Slot) → slice_get gs at ≡ Some h → at < length dg → get_or (news_of dg) at absent ≡ value_named fs (lifted_each old new ws) h.name
      value_before at h there below =
          get_made (λ (g : Slot). value_named fs (lifted_each old new ws) g.name) dg at h absent (get_before dg gs1 at h (sym (ap (λ xs. slice_get xs at) is_new) ∙ there) below)

      added_clear : (g : Slot) → slice_get gs (length dg) ≡ Some g → IsSpare fs gs g.cond → stands_by g.cond (news_of dg) ≡ false
      added_clear g here s =
          let c : IsCondition gs (length dg) (Some (s.at, s.bit)) = subst (IsCondition gs (length dg)) s.is (settled.new_conditions (length dg) g here) in
          let name = index_some fs (s.h).name s.k s.here.0 in
          let within = slice_get_within fs s.k name.0 name.1 in
          let v = get_some (list_of ws) s.k (omega (arith, within, count_is, length_listed ws)) in
          ap (λ cond. stands_by cond (map (λ (x : Slot). value_named fs (lifted_each old new ws) x.name) dg)) s.is
          ∙ ap (λ u. is_bit (bits_of u) s.bit) (value_before s.at s.h s.there c.0 ∙ named_value s.k name.0 v.0 (s.h).name name.1 v.1 name.2)
          ∙ ap (λ n. is_bit n s.bit) (bits_kept old new v.0) ∙ clear_bit s.k s.bit v.0 v.1 s.spare

      module _ (df : List Slot) (fs1 : List Slot) (bv : List ValueView) (vs1 : ValueViews) (is_old : fs ≡ df ++ fs1) (is_values : list_of ws ≡ bv ++ list_of vs1) (same_length : length bv ≡ length df) where
        abbrev name_of : Option Slot → Option (List ℕ)
        name_of o = option_map (λ (x : Slot). x.name) o

        kept_by : (a b : Option (ℕ × ℕ)) → IsCondition fs (length df) a → IsCondition gs (length dg) b → named_condition gs b ≡ named_condition fs a
            → stands_by b (news_of dg) ≡ stands_by a bv
        kept_by None None ca cb same = refl
        kept_by None (Some d) ca cb same = absurd (none-some _ (sym same))
        kept_by (Some c) None ca cb same = absurd (none-some _ same)
        kept_by (Some (p, i)) (Some (q, j)) (below, few, (f, at, is)) (below_q, few_q, (g, at_q, is_q)) same =
            let pair = same_Some _ _ same in
            let bit : j ≡ i = ap (λ (x : Option (List ℕ) × ℕ). x.1) pair in
            let names : name_of (slice_get gs q) ≡ name_of (slice_get fs p) = ap (λ (x : Option (List ℕ) × ℕ). x.0) pair in
            let one : g.name ≡ f.name = same_Some g.name f.name (sym (ap name_of at_q) ∙ names ∙ ap name_of at) in
            let v = get_some bv p (omega (arith, below, same_length)) in
            let whole : slice_get (list_of ws) p ≡ Some v.0 = ap (λ xs. slice_get xs p) is_values ∙ get_later bv (list_of vs1) p v.0 v.1 in
            let there : get_or bv p absent ≡ v.0 = get_own bv p v.0 v.1 in
            ap (λ u. is_bit (bits_of u) j) (value_before q g at_q below_q ∙ named_value p f v.0 g.name at whole (sym one))
            ∙ ap (λ n. is_bit n j) (bits_kept old new v.0) ∙ ap (λ b. is_bit (bits_of v.0) b) bit ∙ ap (λ u. is_bit (bits_of u) i) (sym there)
          where
            get_own : (xs : List ValueView) (k : ℕ) (x : ValueView) → slice_get xs k ≡ Some x → get_or xs k absent ≡ x
            get_own [] k x at = absurd (none-some x at)
            get_own (z ∷ xs) zero x at = same_Some z x at
            get_own (z ∷ xs) (suc k) x at = get_own xs k x at

    -- ---- all of them

    -- from new field m and old field k on the others stand, and none before
    pub record Stands (k m : ℕ) : Type 0 where
      pub later : (j l : ℕ) → StandsAt j l → k ≤ j → m ≤ l
      pub before : (j l : ℕ) → StandsAt j l → j < k → l < m

    no_more : (dg df fs1 : List Slot) (vs1 : ValueViews) (bv : List ValueView) → gs ≡ dg ++ [] → fs ≡ df ++ fs1 → count vs1 ≡ length fs1 → Stands (length df) (length dg) → AreWoven old new bv fs1 vs1 (news_of dg) [] no_values
    no_more dg df [] no_values bv is_new is_old few s = ended bv _
    no_more dg df [] (value v vs) bv is_new is_old few s = absurd (omega (arith, few))
    no_more dg df (f ∷ fs1) vs1 bv is_new is_old few s =
        let here : slice_get fs (length df) ≡ Some f = ap (λ xs. slice_get xs (length df)) is_old ∙ get_next df fs1 f in
        let t = stands (length df) f here in
        let le = s.later (length df) t.0 t.1 (omega arith) in
        let p = new_name (length df) t.0 t.1 in
        let within = slice_get_within gs t.0 p.0 p.1 in
        absurd (omega (arith, le, within, ap length is_new, length-append dg []))

    -- the fields that are left, with their values, stand side by side
    abbrev Weaves : List Slot → Type 0
    Weaves gs1 = (dg df fs1 : List Slot) (vs1 : ValueViews) (bv : List ValueView) → gs ≡ dg ++ gs1 → fs ≡ df ++ fs1 → list_of ws ≡ bv ++ list_of vs1 → length bv ≡ length df → count vs1 ≡ length fs1 → Stands (length df) (length dg)
        → AreWoven old new bv fs1 vs1 (news_of dg) gs1 (values_of (news_of gs1))

    module _ (g : Slot) (gs1 : List Slot) (next : Weaves gs1) (dg df : List Slot) (bv : List ValueView) (is_new : gs ≡ dg ++ g ∷ gs1) (same : length bv ≡ length df) (s : Stands (length df) (length dg)) where
      here : slice_get gs (length dg) ≡ Some g
      here = ap (λ xs. slice_get xs (length dg)) is_new ∙ get_next dg gs1 g

      one_more_new : gs ≡ (dg ++ g ∷ []) ++ gs1
      one_more_new = is_new ∙ sym (append_assoc dg (g ∷ []) gs1)

      long_new : length (dg ++ g ∷ []) ≡ suc (length dg)
      long_new = let l = length-append dg (g ∷ []) in omega (arith, l)

      news_more : (u : ValueView) → value_named fs (lifted_each old new ws) g.name ≡ u → news_of (dg ++ g ∷ []) ≡ news_of dg ++ u ∷ []
      news_more u is = map-append (λ (x : Slot). value_named fs (lifted_each old new ws) x.name) dg (g ∷ []) ∙ ap (λ (w : ValueView). news_of dg ++ w ∷ []) is

      add : (fs1 : List Slot) (vs1 : ValueViews) → fs ≡ df ++ fs1 → list_of ws ≡ bv ++ list_of vs1 → count vs1 ≡ length fs1 → field_index fs g.name ≡ None → AreWoven old new bv fs1 vs1 (news_of dg) (g ∷ gs1) (values_of (news_of (g ∷ gs1)))
      add fs1 vs1 is_old is_values few none =
          let clear = added_clear dg (g ∷ gs1) is_new g here (settled.spare (length dg) g here none) in
          let gone : value_named fs (lifted_each old new ws) g.name ≡ absent = value_none fs (lifted_each old new ws) g.name (index_none fs g.name none) in
          let after : Stands (length df) (length (dg ++ g ∷ [])) = record {
            later = λ j l t le. elim (cases_order l (length dg)) [
              | inl e ↦ absurd (let p = new_name j l t in index_none fs g.name none j t.f t.here (sym (ap (λ (x : Slot). x.name) (same_Some g p.0 (sym here ∙ ap (slice_get gs) (sym e) ∙ p.1)) ∙ p.2 t.f t.here)))
              | inr (inl less) ↦ absurd (let low = s.later j l t le in omega (arith, low, less))
              | inr (inr more) ↦ omega (arith, more, long_new)
            ];
            before = λ j l t lt. let low = s.before j l t lt in omega (arith, low, long_new);
          } in
          let rest = next (dg ++ g ∷ []) df fs1 vs1 bv one_more_new is_old is_values same few after in
          subst (λ u. AreWoven old new bv fs1 vs1 (news_of dg) (g ∷ gs1) (value u (values_of (news_of gs1)))) (sym gone)
          (added bv (news_of dg) g fs1 gs1 vs1 (values_of (news_of gs1)) clear (subst (λ us. AreWoven old new bv fs1 vs1 us gs1 (values_of (news_of gs1))) (news_more absent gone) rest))

      keep : (f : Slot) (fs1 : List Slot) (v : ValueView) (vs1 : ValueViews) → fs ≡ df ++ f ∷ fs1 → list_of ws ≡ bv ++ v ∷ list_of vs1 → count vs1 ≡ length fs1 → f.name ≡ g.name → StandsAt (length df) (length dg) → AreWoven old new bv (f ∷ fs1) (value v vs1) (news_of dg) (g ∷ gs1) (values_of (news_of (g ∷ gs1)))
      keep f fs1 v vs1 is_old is_values few name st =
          let at : slice_get fs (length df) ≡ Some f = ap (λ xs. slice_get xs (length df)) is_old ∙ get_next df fs1 f in
          let there : slice_get (list_of ws) (length df) ≡ Some v = ap (λ xs. slice_get xs (length df)) is_values ∙ ap (slice_get (bv ++ v ∷ list_of vs1)) (sym same) ∙ get_next bv (list_of vs1) v in
          let k = settled.keeps (length df) f at in
          let same_position : k.0 ≡ length dg = one_index (length df) k.0 (length dg) (record { f = f; here = at; index = k.2.0 }) st in
          let same_field : k.1 ≡ g = same_Some k.1 g (sym k.2.1 ∙ ap (slice_get gs) same_position ∙ here) in
          let type : g.of ≡ image old new f.of = ap (λ (x : Slot). x.of) (sym same_field) ∙ k.3 in
          let cond : named_condition gs g.cond ≡ named_condition fs f.cond = ap (λ (x : Slot). named_condition gs x.cond) (sym same_field) ∙ k.4 in
          let alike = kept_by dg (g ∷ gs1) is_new df (f ∷ fs1) bv (value v vs1) is_old is_values same f.cond g.cond (settled.old_conditions (length df) f at) (settled.new_conditions (length dg) g here) cond in
          let moved : value_named fs (lifted_each old new ws) g.name ≡ lifted old new v = named_value (length df) f v g.name at there name in
          let long_old : length (df ++ f ∷ []) ≡ suc (length df) = (let l = length-append df (f ∷ []) in omega (arith, l)) in
          let long_values : length (bv ++ v ∷ []) ≡ suc (length bv) = (let l = length-append bv (v ∷ []) in omega (arith, l)) in
          let after : Stands (length (df ++ f ∷ [])) (length (dg ++ g ∷ [])) = record {
            later = λ j l t le. (let low = rises (length df) j (length dg) l st t (omega (arith, le, long_old)) in omega (arith, low, long_new));
            before = λ j l t lt. elim (cases_order j (length df)) [
              | inl e ↦ (let one : l ≡ length dg = one_index (length df) l (length dg) (subst (λ i. StandsAt i l) e t) st in omega (arith, one, long_new))
              | inr (inl less) ↦ (let low = s.before j l t less in omega (arith, low, long_new))
              | inr (inr more) ↦ absurd (omega (arith, lt, more, long_old))
            ];
          } in
          let rest = next (dg ++ g ∷ []) (df ++ f ∷ []) fs1 vs1 (bv ++ v ∷ []) one_more_new (is_old ∙ sym (append_assoc df (f ∷ []) fs1)) (is_values ∙ sym (append_assoc bv (v ∷ []) (list_of vs1))) (omega (arith, same, long_old, long_values)) few after in
          subst (λ u. AreWoven old new bv (f ∷ fs1) (value v vs1) (news_of dg) (g ∷ gs1) (value u (values_of (news_of gs1)))) (sym moved)
          (kept bv (news_of dg) f g fs1 gs1 v vs1 (values_of (news_of gs1)) type alike (subst (λ us. AreWoven old new (bv ++ v ∷ []) fs1 vs1 us gs1 (values_of (news_of gs1))) (news_more (lifted old new v) moved) rest))

      -- an old field of this name stands next
      is_next : (k : ℕ) → field_index fs g.name ≡ Some k → StandsAt k (length dg) × (k ≡ length df)
      is_next k index =
          let p = index_some fs g.name k index in
          let t = stands k p.0 p.1 in
          let q = new_name k t.0 t.1 in
          let same_position : t.0 ≡ length dg = settled.news t.0 (length dg) q.0 g q.1 here (q.2 p.0 p.1 ∙ p.2) in
          let st : StandsAt k (length dg) = subst (StandsAt k) same_position t.1 in (
            st,
            elim (cases_order k (length df)) [
              | inl e ↦ e
              | inr (inl less) ↦ absurd (let low = s.before k (length dg) st less in omega (arith, low))
              | inr (inr more) ↦
                  absurd (let within = slice_get_within fs k p.0 p.1 in
                  let first = get_some fs (length df) (omega (arith, within, more)) in
                  let u = stands (length df) first.0 first.1 in
                  let low = s.later (length df) u.0 u.1 (omega arith) in
                  let high = rises (length df) k u.0 (length dg) u.1 st more in
                  omega (arith, low, high))
            ],
          )

      keep_next : (fs1 : List Slot) (vs1 : ValueViews) → fs ≡ df ++ fs1 → list_of ws ≡ bv ++ list_of vs1 → count vs1 ≡ length fs1 → (k : ℕ) → field_index fs g.name ≡ Some k → AreWoven old new bv fs1 vs1 (news_of dg) (g ∷ gs1) (values_of (news_of (g ∷ gs1)))
      keep_next [] vs1 is_old is_values few k index =
          let p = index_some fs g.name k index in
          let within = slice_get_within fs k p.0 p.1 in absurd (let e = (is_next k index).1 in omega (arith, within, e, ap length is_old, length-append df []))
      keep_next (f ∷ fs1) no_values is_old is_values few k index = absurd (omega (arith, few))
      keep_next (f ∷ fs1) (value v vs1) is_old is_values few k index =
          let p = index_some fs g.name k index in
          let n = is_next k index in
          let at : slice_get fs k ≡ Some f = ap (slice_get fs) n.1 ∙ ap (λ xs. slice_get xs (length df)) is_old ∙ get_next df fs1 f in
          keep f fs1 v vs1 is_old is_values (let few : suc (count vs1) ≡ suc (length fs1) = few in omega (arith, few)) (ap (λ (x : Slot). x.name) (same_Some f p.0 (sym at ∙ p.1)) ∙ p.2) (subst (λ i. StandsAt i (length dg)) n.1 n.0)

      one_step : (fs1 : List Slot) (vs1 : ValueViews) → fs ≡ df ++ fs1 → list_of ws ≡ bv ++ list_of vs1 → count vs1 ≡ length fs1 → (o : Option ℕ) → field_index fs g.name ≡ o → AreWoven old new bv fs1 vs1 (news_of dg) (g ∷ gs1) (values_of (news_of (g ∷ gs1)))
      one_step fs1 vs1 is_old is_values few None none = add fs1 vs1 is_old is_values few none
      one_step fs1 vs1 is_old is_values few (Some k) index = keep_next fs1 vs1 is_old is_values few k index

    weaves : (gs1 : List Slot) → Weaves gs1
    weaves [] = λ dg df fs1 vs1 bv is_new is_old is_values same few s. no_more dg df fs1 vs1 bv is_new is_old few s
    weaves (g ∷ gs1) = λ dg df fs1 vs1 bv is_new is_old is_values same few s. one_step g gs1 (weaves gs1) dg df bv is_new same s fs1 vs1 is_old is_values few (field_index fs g.name) refl

    pub all_woven : AreWoven old new [] fs ws [] gs (values_of (placed fs gs (lifted_each old new ws)))
    all_woven = weaves gs [] [] fs ws [] refl refl refl refl count_is (record { later = λ j l t le. omega arith; before = λ j l t lt. absurd (omega (arith, lt)) })
