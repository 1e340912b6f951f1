-- What is left of a walk, before and after its next part.
use Rattle.std.proofs.Common.{◌≡◌, ℕ, ◌+◌, ◌-◌, ◌<◌, ◌≤◌, List, [], ◌∷◌, ◌++◌, append_assoc, length, map, reverse, Option, Some, None, nat_lt, refl, sym, ap, ◌∙◌, subst, arith, ltb-true, ltb-false}
use Rattle.std.proofs.lemmas.List.{reverse-append, map_push}
use Rattle.std.specs.Option.{option_map}
use Rattle.std.proofs.lemmas.Option.{same_Some}
use Rattle.tl_plan.specs.Plans.{PlanView}
use Rattle.tl_types.specs.Fitting.{MisfitView, inside, or_else}
use Rattle.tl_types.specs.Fitting.{misfit as misfit_of}
use Rattle.tl_types.specs.Seen.{view}
use Rattle.tl_types.proofs.Members.{by_test}
use Rattle.tl_encode.specs.declared.frames.WalkFrame.{WalkFrame}
use Rattle.tl_encode.specs.declared.frames.Part.{Part}
use Rattle.tl_encode.specs.inner.Frames.{EachIsCounted, IsCounted, after, first_of, path_of, rested, standing_at, stepped}
use Rattle.tl_encode.specs.inner.Walks.{AreOfPlan, GoesOn, HasInstances, IsNextPart, bytes_left, frame_bytes, frame_misfit, levels_in, misfit_left, part_type, under, weight_left}
use Rattle.tl_encode.proofs.NextParts.{no_bytes_left, none_left}

-- ---- paths

pub path_more : (f : WalkFrame) (fs : List WalkFrame) → path_of (after f ∷ fs) ≡ path_of fs ++ f.at ∷ []
path_more f fs =
    let i : f.at + 1 - 1 ≡ f.at = omega arith in
    ap (map (λ (g : WalkFrame). g.at - 1)) (reverse-append (after f ∷ []) fs) ∙ map_push (λ (g : WalkFrame). g.at - 1) (reverse fs) (after f) ∙ ap (λ (k : ℕ). path_of fs ++ k ∷ []) i

pub under_first : (path : List ℕ) (i : ℕ) (m rest later : Option MisfitView) → or_else (under path (or_else (inside i m) rest)) later ≡ or_else (under (path ++ i ∷ []) m) (or_else (under path rest) later)
under_first path i None rest later = refl
under_first path i (Some m) rest later = ap (λ (q : List ℕ). Some (q, m.1)) (sym (append_assoc path (i ∷ []) m.0))

-- ---- frames with no part left are passed over

-- what holds of the frames that are left: they begin with one that has a part, or there is none
abbrev IsRested : List WalkFrame → Type 0
IsRested [] = Unit {0}
IsRested (f ∷ fs) = f.at < length f.values.now

rested_is : (fs : List WalkFrame) → IsRested (rested fs)
rested_is [] = tt
rested_is (f ∷ fs) = by_test (nat_lt f.at (length f.values.now)) (λ some. rw some (ltb-true f.at (length f.values.now) some)) (λ none. rw none (rested_is fs))

pub rested_counted : (fs : List WalkFrame) → EachIsCounted fs → EachIsCounted (rested fs)
rested_counted [] all = tt
rested_counted (f ∷ fs) all = by_test (nat_lt f.at (length f.values.now)) (λ some. rw some all) (λ none. rw none (rested_counted fs all.1))

pub stepped_counted : (fs : List WalkFrame) → EachIsCounted fs → EachIsCounted (stepped fs)
stepped_counted [] all = tt
stepped_counted (f ∷ fs) all = all

rested_weight : (fs : List WalkFrame) → weight_left (rested fs) ≤ weight_left fs
rested_weight [] = omega arith
rested_weight (f ∷ fs) = by_test (nat_lt f.at (length f.values.now)) (λ some. rw some (omega arith)) (λ none. rw none (let rest = rested_weight fs in omega (arith, rest)))

-- the first frame of those has a part left
pub first_has : (fs : List WalkFrame) (f : WalkFrame) → first_of (rested fs) ≡ Some f → EachIsCounted fs → (f.at < length f.values.now) × IsCounted f
first_has fs f is counted = has (rested fs) is (rested_is fs) (rested_counted fs counted)
  where
    has : (gs : List WalkFrame) → first_of gs ≡ Some f → IsRested gs → EachIsCounted gs → (f.at < length f.values.now) × IsCounted f
    has [] is here all = absurd cc
    has (g ∷ gs) is here all = let same : g ≡ f = cc in (subst (λ (x : WalkFrame). x.at < length x.values.now) same here, subst IsCounted same all.0)

pub was_none : (gs : List WalkFrame) → None ≡ option_map (λ (f : WalkFrame). f.at) (first_of gs) → first_of gs ≡ None
was_none [] is = refl
was_none (f ∷ gs) is = absurd cc

-- what the first of these frames, one part after which was told, was before it
pub was_first : (gs new : List WalkFrame) (g : WalkFrame) (i : ℕ) → Some i ≡ option_map (λ (f : WalkFrame). f.at) (first_of gs) → new ≡ stepped gs → first_of new ≡ Some g → first_of gs ≡ Some (standing_at g i)
was_first [] new g i at is first = absurd cc
was_first (f ∷ gs) new g i at is first =
    let top : after f ≡ g = same_Some (after f) g (sym (ap first_of is) ∙ first) in
    let own : i ≡ f.at = same_Some i f.at at in
    rw (own, sym top) refl

module _ (p : PlanView) where
  rested_plan : (fs : List WalkFrame) → AreOfPlan p fs → AreOfPlan p (rested fs)
  rested_plan [] all = tt
  rested_plan (f ∷ fs) all = by_test (nat_lt f.at (length f.values.now)) (λ some. rw some all) (λ none. rw none (rested_plan fs all.1))

  rested_misfit : (fs : List WalkFrame) → misfit_left p fs ≡ misfit_left p (rested fs)
  rested_misfit [] = refl
  rested_misfit (f ∷ fs) =
      by_test (nat_lt f.at (length f.values.now)) (λ some. rw some refl)
      (λ none. rw none (ap (λ (m : Option MisfitView). or_else (under (path_of fs) m) (misfit_left p fs)) (none_left p (levels_in (f ∷ fs)) f.parts f.values.now f.at (ltb-false f.at (length f.values.now) none)) ∙ rested_misfit fs))

  rested_bytes : (fs : List WalkFrame) → bytes_left p fs ≡ bytes_left p (rested fs)
  rested_bytes [] = refl
  rested_bytes (f ∷ fs) =
      by_test (nat_lt f.at (length f.values.now)) (λ some. rw some refl)
      (λ none. rw none (ap (λ (b : List ℕ). b ++ bytes_left p fs) (no_bytes_left p f.parts f.values.now f.at (ltb-false f.at (length f.values.now) none)) ∙ rested_bytes fs))

  -- ---- the next part

  ended : (fs gs : List WalkFrame) → first_of gs ≡ None → misfit_left p fs ≡ misfit_left p gs → bytes_left p fs ≡ bytes_left p gs → AreOfPlan p gs → GoesOn p fs (stepped gs) None
  ended fs [] is misfit bytes all = record { frames = tt; part = tt; misfit = misfit; bytes = bytes; less = omega arith }
  ended fs (g ∷ gs) is misfit bytes all = absurd cc

  next : (fs gs : List WalkFrame) (f : WalkFrame) (x : Part) → first_of gs ≡ Some f → IsNextPart p f x → misfit_left p fs ≡ misfit_left p gs → bytes_left p fs ≡ bytes_left p gs → weight_left gs ≤ weight_left fs
      → AreOfPlan p gs → GoesOn p fs (stepped gs) (Some x)
  next fs [] f x is part misfit bytes less all = absurd cc
  next fs (g ∷ gs) f x is part misfit bytes less all =
      let same : f ≡ g = cc in
      let own = subst (λ (h : WalkFrame). IsNextPart p h x) same part in
      let m = misfit_of p.schema.decls (levels_in (g ∷ gs)) x.bit (part_type p x) (view x.value.now) in
      record {
        frames = all;
        part = own.instance;
        misfit = misfit ∙ ap (λ (m : Option MisfitView). or_else (under (path_of gs) m) (misfit_left p gs)) (own.misfit (levels_in (g ∷ gs)))
            ∙ under_first (path_of gs) g.at m (frame_misfit p (levels_in (g ∷ gs)) (after g)) (misfit_left p gs)
            ∙ ap (λ (path : List ℕ). or_else (under path m) (or_else (under (path_of gs) (frame_misfit p (levels_in (g ∷ gs)) (after g))) (misfit_left p gs))) (sym (path_more g gs));
        bytes = bytes ∙ ap (λ (b : List ℕ). b ++ bytes_left p gs) own.bytes ∙ append_assoc _ (frame_bytes p (after g)) (bytes_left p gs);
        less = omega (arith, own.weight, less);
      }

  pub goes_none : (fs new : List WalkFrame) (r : Option Part) → first_of (rested fs) ≡ None → new ≡ stepped (rested fs) → r ≡ None → AreOfPlan p fs → GoesOn p fs new r
  goes_none fs new r is stepped_is none all = rw (stepped_is, none) (ended fs (rested fs) is (rested_misfit fs) (rested_bytes fs) (rested_plan fs all))

  -- the first frame's instances are the plan's
  first_plan : (gs : List WalkFrame) (f : WalkFrame) → first_of gs ≡ Some f → AreOfPlan p gs → HasInstances p f.parts
  first_plan [] f is all = absurd cc
  first_plan (g ∷ gs) f is all = let same : g ≡ f = cc in subst (λ (h : WalkFrame). HasInstances p h.parts) same all.0

  pub goes_some : (fs new : List WalkFrame) (f : WalkFrame) (x : Part) → first_of (rested fs) ≡ Some f → new ≡ stepped (rested fs) → (HasInstances p f.parts → IsNextPart p f x) → AreOfPlan p fs → GoesOn p fs new (Some x)
  goes_some fs new f x is stepped_is part all =
      let rest = rested_plan fs all in
      rw stepped_is (next fs (rested fs) f x is (part (first_plan (rested fs) f is rest)) (rested_misfit fs) (rested_bytes fs) (rested_weight fs) rest)
