-- The first declaration of each type, and of what constructs none.
use Rattle.std.proofs.Common.{◌≡◌, ◌≢◌, ◌⊎◌, inl, inr, ℕ, zero, suc, ◌+◌, ◌<◌, ◌≤◌, List, [], ◌∷◌, set, take, length, position, replicate, get_or, slice_get, Option, Some, None, unwrap_or, is_some, not, true≢false, Bool, true, false, ◌==◌, if◌then◌else◌, refl, ap, sym, ◌∙◌, arith, eqb-true, eq-eqb}
use Rattle.std.proofs.lemmas.Bool.{cases_eq, cases_order, ne_eqb}
use Rattle.std.proofs.lemmas.List.{get_or_past, take_all, length-take}
use Rattle.std.proofs.lemmas.Option.{same_Some, slice_get_within}
use Rattle.std.specs.Prelude.{bytes_eq}
use Rattle.tl_graph.specs.Firsts.{First}
use Rattle.tl_names.specs.Writing.{own_type}
use Rattle.tl_names.specs.Indexes.{types_of}
use Rattle.tl_names.specs.What.{type_named}
use Rattle.tl_names.proofs.Maps.{take_push}
use Rattle.tl_names.proofs.Indexes.{HoldsAt}
use Rattle.tl_names.proofs.Positions.{first_position, position_push}
use Rattle.tl_schema.specs.CheckedPrograms.{IsSchema}
use Rattle.tl_schema.specs.Meanings.{head_in}
use Rattle.tl_schema.specs.Schemas.{Declaration, Declared}
use Rattle.tl_schema.proofs.Members.{declaration_at}
use Rattle.tl_layers.specs.Counterparts.{first_constructor}
use Rattle.tl_layers.specs.inner.Pairs.{AreFirsts, first_noted}
use Rattle.tl_layers.specs.inner.Graphs.{type_total}

-- ---- lists

get_none : (n h : ℕ) → get_or (replicate {A = Option ℕ} n None) h None ≡ None
get_none zero h = refl
get_none (suc n) zero = refl
get_none (suc n) (suc h) = get_none n h

noted_length : (os : List (Option ℕ)) (g i : ℕ) → length (first_noted os g i) ≡ length os
noted_length [] g i = refl
noted_length (o ∷ os) zero i = refl
noted_length (o ∷ os) (suc g) i = ap suc (noted_length os g i)

noted_here : (os : List (Option ℕ)) (h i : ℕ) → h < length os → get_or (first_noted os h i) h None ≡ Some (unwrap_or (get_or os h None) i)
noted_here [] h i below = absurd (omega (arith, below))
noted_here (o ∷ os) zero i below = refl
noted_here (o ∷ os) (suc h) i below = noted_here os h i (omega (arith, below))

noted_apart : (os : List (Option ℕ)) (g h i : ℕ) → (g ≡ h → ⊥) → get_or (first_noted os g i) h None ≡ get_or os h None
noted_apart [] g h i apart = refl
noted_apart (o ∷ os) zero zero i apart = absurd (apart refl)
noted_apart (o ∷ os) zero (suc h) i apart = refl
noted_apart (o ∷ os) (suc g) zero i apart = refl
noted_apart (o ∷ os) (suc g) (suc h) i apart = noted_apart os g h i (λ e. apart (ap suc e))

-- ---- the first n declarations

abbrev makes : ℕ → Declaration → Bool
makes h d = d.head == h

pub record FirstsSoFar (S : Declared) (n : ℕ) (firsts : List (Option ℕ)) : Type 0 where
  pub count : length firsts ≡ type_total S + 1
  pub each : (h : ℕ) → h < length firsts → get_or firsts h None ≡ position (λ d. d.head == h) (take n S.decls)

length_none : (n : ℕ) → length (replicate {A = Option ℕ} n None) ≡ n
length_none zero = refl
length_none (suc n) = ap suc (length_none n)

pub no_firsts : (S : Declared) (m : ℕ) → m ≡ type_total S + 1 → FirstsSoFar S 0 (replicate m None)
no_firsts S m is = record { count = length_none m ∙ is; each = λ h below. get_none m h }

module _ (S : Declared) (n : ℕ) (firsts : List (Option ℕ)) (so_far : FirstsSoFar S n firsts) (d : Declaration) (at : slice_get S.decls n ≡ Some d) (within : n < length S.decls) where
  many : length (take n S.decls) ≡ n
  many = let e = length-take n S.decls in omega (arith, e, within)

  more : (h : ℕ) → position (makes h) (take (n + 1) S.decls) ≡ (if d.head == h then Some (unwrap_or (position (makes h) (take n S.decls)) n) else position (makes h) (take n S.decls))
  more h =
      ap (position (makes h)) (take_push S.decls n d at) ∙ position_push (makes h) (take n S.decls) d
      ∙ ap (λ (m : ℕ). if d.head == h then Some (unwrap_or (position (makes h) (take n S.decls)) m) else position (makes h) (take n S.decls)) many

  if_is : (h : ℕ) (b : Bool) → (d.head == h) ≡ b → position (makes h) (take (n + 1) S.decls) ≡ (if b then Some (unwrap_or (position (makes h) (take n S.decls)) n) else position (makes h) (take n S.decls))
  if_is h b e = more h ∙ ap (λ (c : Bool). if c then Some (unwrap_or (position (makes h) (take n S.decls)) n) else position (makes h) (take n S.decls)) e

  one_more : (h : ℕ) → h < length (first_noted firsts d.head n) → (d.head ≡ h) ⊎ (d.head ≢ h) → get_or (first_noted firsts d.head n) h None ≡ position (makes h) (take (n + 1) S.decls)
  one_more h below (inl same) =
      let less : h < length firsts = (let e = noted_length firsts d.head n in omega (arith, e, below)) in
      ap (λ (g : ℕ). get_or (first_noted firsts g n) h None) same ∙ noted_here firsts h n less
      ∙ ap (λ (o : Option ℕ). Some (unwrap_or o n)) (so_far.each h less) ∙ sym (if_is h true (eq-eqb d.head h same))
  one_more h below (inr other) =
      let less : h < length firsts = (let e = noted_length firsts d.head n in omega (arith, e, below)) in
      noted_apart firsts d.head h n other ∙ so_far.each h less ∙ sym (if_is h false (ne_eqb d.head h other))

  pub next_firsts : FirstsSoFar S (n + 1) (first_noted firsts d.head n)
  next_firsts = record { count = noted_length firsts d.head n ∙ so_far.count; each = λ h below. one_more h below (cases_eq d.head h) }

-- ---- all

module _ (S : Declared) (good : IsSchema S) where
  low_by : (o : Option (List ℕ)) → head_in S.program o ≤ type_total S
  low_by None = omega arith
  low_by (Some type) = by (type_named S.program type) (first_position (bytes_eq type) (λ x. bytes_eq type x ≡ true) (λ x. (λ t. t, λ e. e)) (types_of S.program))
    where
      by : (o : Option ℕ) → First (HoldsAt (λ (x : List ℕ). bytes_eq type x ≡ true) (types_of S.program)) o → unwrap_or o (type_total S) ≤ type_total S
      by None first = omega arith
      by (Some k) first = let within = slice_get_within (types_of S.program) k first.0.x first.0.there in omega (arith, within)

  -- no declaration has a higher number than the number of types
  head_low : (i : ℕ) (d : Declaration) → slice_get S.decls i ≡ Some d → d.head ≤ type_total S
  head_low i d at =
      let t = declaration_at S good i d at in
      let head : d.head ≡ head_in S.program (own_type t.0) = ap (λ (x : Declaration). x.head) t.2.1 in
      let low = low_by (own_type t.0) in omega (arith, head, low)

  none_high : (h : ℕ) → type_total S < h → (o : Option ℕ) → First (HoldsAt (λ (x : Declaration). x.head ≡ h) S.decls) o → o ≡ None
  none_high h high None first = refl
  none_high h high (Some c) first = let p = first.0 in absurd (let low = head_low c p.x p.there in let is = p.has in omega (arith, low, is, high))

  past : (h : ℕ) → type_total S < h → first_constructor S h ≡ None
  past h high = none_high h high (first_constructor S h) (first_position (makes h) (λ x. x.head ≡ h) (λ x. (λ t. eqb-true x.head h t, λ e. eq-eqb x.head h e)) S.decls)

  pub all_firsts : (n : ℕ) (firsts : List (Option ℕ)) → FirstsSoFar S n firsts → length S.decls ≤ n → AreFirsts S firsts
  all_firsts n firsts so_far whole h = elim (cases_order h (length firsts)) [
    | inl e ↦ beyond (omega (arith, e))
    | inr (inl less) ↦ so_far.each h less ∙ ap (position (makes h)) (take_all n S.decls whole)
    | inr (inr more) ↦ beyond (omega (arith, more))
  ]
    where
      beyond : length firsts ≤ h → get_or firsts h None ≡ first_constructor S h
      beyond high = get_or_past firsts h None high ∙ sym (past h (let count = so_far.count in omega (arith, count, high)))

-- ---- the code's step

module _ (os : List (Option ℕ)) (h i : ℕ) where
  pub noted_past : length os ≤ h → os ≡ first_noted os h i
  noted_past = by os h
    where
      by : (os : List (Option ℕ)) (h : ℕ) → length os ≤ h → os ≡ first_noted os h i
      by [] h past = refl
      by (o ∷ os) zero past = absurd (omega (arith, past))
      by (o ∷ os) (suc h) past = ap (λ (xs : List (Option ℕ)). o ∷ xs) (by os h (omega (arith, past)))

pub noted_some : (os : List (Option ℕ)) (h i c : ℕ) → slice_get os h ≡ Some (Some c) → os ≡ first_noted os h i
noted_some [] h i c at = refl
noted_some (o ∷ os) zero i c at = ap (λ (x : Option ℕ). x ∷ os) (same_Some o (Some c) at ∙ ap (λ (x : Option ℕ). Some (unwrap_or x i)) (sym (same_Some o (Some c) at)))
noted_some (o ∷ os) (suc h) i c at = ap (λ (xs : List (Option ℕ)). o ∷ xs) (noted_some os h i c at)

pub noted_set : (os : List (Option ℕ)) (h i : ℕ) → slice_get os h ≡ Some None → set os h (Some i) ≡ first_noted os h i
noted_set [] h i at = refl
noted_set (o ∷ os) zero i at = ap (λ (x : Option ℕ). Some (unwrap_or x i) ∷ os) (sym (same_Some o None at))
noted_set (o ∷ os) (suc h) i at = ap (λ (xs : List (Option ℕ)). o ∷ xs) (noted_set os h i at)

pub no_first : (o : Option ℕ) (b : Bool) → is_some o ≡ not b → b ≡ true → o ≡ None
no_first None b is e = refl
no_first (Some c) b is e = absurd (true≢false (is ∙ ap not e))

pub noted_kept : (os : List (Option ℕ)) (h i : ℕ) (o : Option ℕ) → slice_get os h ≡ Some o → (b : Bool) → is_some o ≡ not b → b ≡ false → os ≡ first_noted os h i
noted_kept os h i None at b is e = absurd (true≢false (sym (is ∙ ap not e)))
noted_kept os h i (Some c) at b is e = noted_some os h i c at
