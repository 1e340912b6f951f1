-- Lists of frames: what the last of them does, and how much work they leave.
use Rattle.std.proofs.Common.{◌≡◌, ℕ, zero, suc, ◌+◌, ◌-◌, ◌*◌, ◌^◌, ◌<◌, ◌≤◌, List, [], ◌∷◌, ◌++◌, length, Ok, Err, Result, refl, ap, ◌∙◌, arith}
use Rattle.std.proofs.lemmas.List.{map_push, length_push}
use Rattle.std.proofs.lemmas.Nat.{mul-le}
use Rattle.tl_schema.specs.Schemas.{Declaration}
use Rattle.tl_plan.specs.Plans.{PlanView}
use Rattle.tl_types.specs.Values.{ValueView}
use Rattle.tl_types.specs.inner.Reading.{Fault, Read, ◌>>=◌}
use Rattle.tl_types.specs.declared.value.TheConstants.{MAX_LEVELS}
use Rattle.tl_decode.specs.declared.stack.StackFrame.{StackFrame}
use Rattle.tl_decode.specs.inner.Frames.{StackFrameView, frame_view, views, goes_on, with_value, resume, resumes, levels_in, levels_below, IsWellFrame, AreWell, cost, parts_after, frames_work}

-- ---- frames in range

pub well_push : (p : PlanView) (fs : List StackFrame) (f : StackFrame) → AreWell p fs → IsWellFrame p f → AreWell p (fs ++ f ∷ [])
well_push p [] f well one = (one, tt)
well_push p (g ∷ fs) f well one = (well.0, well_push p fs f well.1 one)

pub well_pop : (p : PlanView) (fs : List StackFrame) (f : StackFrame) → AreWell p (fs ++ f ∷ []) → AreWell p fs × IsWellFrame p f
well_pop p [] f well = (tt, well.0)
well_pop p (g ∷ fs) f well = let both = well_pop p fs f well.1 in ((well.0, both.0), both.1)

pub views_push : (p : PlanView) (fs : List StackFrame) (f : StackFrame) → views p (fs ++ f ∷ []) ≡ views p fs ++ frame_view p f ∷ []
views_push p fs f = map_push (frame_view p) fs f

-- ---- what frames do

pub bind_again : {A B C : Type 0} (r : Result A Fault) (f : A → Result B Fault) (g : B → Result C Fault) → ((r >>= f) >>= g) ≡ (r >>= λ x. f x >>= g)
bind_again (Ok x) f g = refl
bind_again (Err e) f g = refl

pub resume_err : (ds : List Declaration) (n : ℕ) (fs : List StackFrameView) (e : Fault) → resume ds n fs (Err e) ≡ Err e
unfolding resume
resume_err ds n [] e = refl
resume_err ds n (f ∷ fs) e = rw (resume_err ds (n - 1) fs e) refl

pub resume_bind : {A : Type 0} (ds : List Declaration) (n : ℕ) (fs : List StackFrameView) (r : Result A Fault) (f : A → Read ValueView) → resume ds n fs (r >>= f) ≡ (r >>= λ x. resume ds n fs (f x))
resume_bind ds n fs (Ok x) f = refl
resume_bind ds n fs (Err e) f = resume_err ds n fs e

unfoldable pub closing : List Declaration → ℕ → StackFrameView → Read ValueView → Read ValueView
closing ds n f r = r >>= λ x. goes_on ds n (with_value f x.0) x.1

resume_push : (ds : List Declaration) (n : ℕ) (fs : List StackFrameView) (f : StackFrameView) (r : Read ValueView) → resume ds n (fs ++ f ∷ []) r ≡ resume ds n fs (closing ds (n - (length fs + 1)) f r)
unfolding resume closing
resume_push ds n [] f r = refl
resume_push ds n (g ∷ fs) f r =
    let same : (n - 1) - (length fs + 1) ≡ n - (length (g ∷ fs) + 1) = omega arith in
    ap (λ (y : Read ValueView). y >>= λ x. goes_on ds (n - 1) (with_value g x.0) x.1) (resume_push ds (n - 1) fs f r ∙ ap (λ (k : ℕ). resume ds (n - 1) fs (closing ds k f r)) same)

-- inside frames and one more
pub resumes_push : (p : PlanView) (fs : List StackFrame) (f : StackFrame) (r : Read ValueView) → resumes p (views p (fs ++ f ∷ [])) r ≡ resumes p (views p fs) (closing p.schema.decls (levels_below (views p fs)) (frame_view p f) r)
resumes_push p fs f r = ap (λ (gs : List StackFrameView). resumes p gs r) (views_push p fs f) ∙ resume_push p.schema.decls MAX_LEVELS (views p fs) (frame_view p f) r

pub levels_push : (p : PlanView) (fs : List StackFrame) (f : StackFrame) → levels_in (views p (fs ++ f ∷ [])) ≡ levels_below (views p fs)
levels_push p fs f = ap (λ (gs : List StackFrameView). levels_in gs) (views_push p fs f) ∙ ap (λ (k : ℕ). MAX_LEVELS - k) (length_push (views p fs) (frame_view p f))

-- ---- work

pub cost_least : (n : ℕ) → 3 ≤ cost n
unfolding cost
cost_least zero = omega arith
cost_least (suc n) = omega arith

pub cost_more : (n m : ℕ) → n ≡ suc m → cost n ≡ 2 ^ 64 * (cost m + 1) + 6
unfolding cost
cost_more n m e = rw e refl

work_push : (n : ℕ) (fs : List StackFrameView) (f : StackFrameView) → frames_work n (fs ++ f ∷ []) ≡ frames_work n fs + (parts_after f * (cost (n - (length fs + 1)) + 1) + 2)
unfolding frames_work
work_push n [] f = omega arith
work_push n (g ∷ fs) f =
    let same : (n - 1) - (length fs + 1) ≡ n - (length (g ∷ fs) + 1) = omega arith in
    let step = work_push (n - 1) fs f ∙ ap (λ (k : ℕ). frames_work (n - 1) fs + (parts_after f * (cost k + 1) + 2)) same in
    let a = parts_after g * (cost (n - 1) + 1) in
    let b = parts_after f * (cost (n - (length (g ∷ fs) + 1)) + 1) in
    ap (λ (k : ℕ). (a + 2) + k) step ∙ regroup a (frames_work (n - 1) fs) b
  where
    regroup : (a w b : ℕ) → (a + 2) + (w + (b + 2)) ≡ ((a + 2) + w) + (b + 2)
    regroup a w b = omega arith

pub works_push : (p : PlanView) (fs : List StackFrame) (f : StackFrame) → frames_work MAX_LEVELS (views p (fs ++ f ∷ [])) ≡ frames_work MAX_LEVELS (views p fs) + (parts_after (frame_view p f) * (cost (levels_below (views p fs)) + 1) + 2)
works_push p fs f = ap (frames_work MAX_LEVELS) (views_push p fs f) ∙ work_push MAX_LEVELS (views p fs) (frame_view p f)

-- fewer than 2^64 parts
pub parts_few : (k c : ℕ) → k < 2 ^ 64 → k * c ≤ 2 ^ 64 * c
parts_few k c few = mul-le k c (2 ^ 64) c (omega arith) (omega arith)

pub one_part : (k c : ℕ) → suc k * c ≡ c + k * c
one_part k c = omega arith
