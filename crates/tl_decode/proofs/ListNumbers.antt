-- Numbers of a list, taken in one loop.
use Rattle.std.proofs.Common.{◌≡◌, inl, inr, ℕ, suc, ◌+◌, ◌-◌, ◌*◌, ◌^◌, ◌<◌, ◌≤◌, List, [], ◌∷◌, ◌++◌, length, map, take, drop, Vec, None, Some, Ok, refl, ap, sym, ◌∙◌, subst, arith}
use Rattle.std.specs.declared.alloc.Global.{Global}
use Rattle.std.specs.Int.{w32, from_le_bytes}
use Rattle.std.proofs.lemmas.List.{drop-drop, length-drop}
use Rattle.tl_plan.specs.Plans.{PlanView}
use Rattle.tl_types.specs.Offsets.{moved}
use Rattle.tl_types.specs.Seen.{view}
use Rattle.tl_types.specs.Values as value
use Rattle.tl_types.specs.inner.Reading.{Spot, spot}
use Rattle.tl_types.specs.declared.value.Value.{Value}
use Rattle.tl_types.proofs.Numbers.{moved_moved, stays}
use Rattle.tl_decode.specs.declared.stack.StackFrame.{StackFrame}
use Rattle.tl_decode.specs.declared.stack.StackFrame.TheVariants as frame
use Rattle.tl_decode.specs.declared.stack.WantedItem.{WantedItem}
use Rattle.tl_decode.specs.declared.stack.WantedItem.TheVariants as wanted
use Rattle.tl_decode.specs.declared.stack.Item.TheVariants as item
use Rattle.tl_decode.specs.declared.stack.Next.TheVariants as next_step
use Rattle.tl_decode.specs.declared.stack.Found.TheVariants as found
use Rattle.tl_decode.specs.declared.stack.Advance.TheVariants as step
use Rattle.tl_decode.specs.declared.stack.Reading.{Reading}
use Rattle.tl_decode.specs.inner.Frames.{StackFrameView, frame_view, in_list, type_in, views, word, item_at, found_at, found_work, resumes, AreWell, IsInPlan, IsItem, IsNumber, Takes}
use Rattle.tl_decode.specs.inner.Needs.{AddsNumbers, FindsItem, IsInOrder, MovesOn, TakesWords, WorksLess, reads_on}
use Rattle.tl_decode.proofs.FrameLists.{views_push, well_pop, well_push}
use Rattle.tl_decode.proofs.HeldBytes.{word_next}
use Rattle.tl_decode.proofs.InPlace.{closes_opens, list_adds, steps_then}
use Rattle.tl_decode.proofs.ItemSteps.{takes_nat}
use Rattle.tl_decode.proofs.Onward.{item_then}

-- ---- moving on

-- the frames are the same
pub moves_same : (p : PlanView) (W : WantedItem) (next : List ℕ) (old new : List StackFrame) → views p old ≡ views p new → AreWell p new → MovesOn p W next old new 0
moves_same p W next old new e well =
    let as_much = ap (λ (vs : List StackFrameView). found_work p vs (found.Wants W)) e in
    record {
      within = omega arith;
      frames = well;
      same = λ at lt more. ap (λ (vs : List StackFrameView). found_at p vs (found.Wants W) (spot at (next ++ more))) e ∙ ap (λ (q : ℕ). found_at p (views p new) (found.Wants W) (spot q (next ++ more))) (stays at lt);
      work = omega (arith, as_much);
      less = λ some. omega (arith, some);
    }

pub moves_then : (p : PlanView) (W : WantedItem) (next : List ℕ) (a b c : List StackFrame) (n m : ℕ) → MovesOn p W next a b n → MovesOn p W (drop n next) b c m → 0 < m → MovesOn p W next a c (n + m)
moves_then p W next a b c n m x y some =
    let on = λ (q : ℕ) (z more : List ℕ). found_at p (views p c) (found.Wants W) (spot q (z ++ more)) in
    let fell = y.less some in
    record {
      within = omega (arith, x.within, y.within, length-drop n next);
      frames = y.frames;
      same = λ at lt more. x.same at lt more ∙ y.same (moved at n) (omega arith) more ∙ ap (λ (q : ℕ). on q (drop m (drop n next)) more) (moved_moved at n m (n + m) refl) ∙ ap (λ (z : List ℕ). on (moved at (n + m)) z more) (drop-drop m n next);
      work = omega (arith, x.work, y.work);
      less = λ more. omega (arith, x.work, fell);
    }

-- ---- one number

pub number_takes : (p : PlanView) (W : WantedItem) (w : ℕ) (v : Value) → IsNumber W → (W ≡ wanted.Int → ⊥) → view v ≡ value.nat w → Takes p W (word w) (Ok (next_step.Close v))
number_takes p W w v (inl is) other seen = absurd (other is)
number_takes p W w v (inr is) other seen = rw is (takes_nat p w v seen)

module _ (p : PlanView) (W : WantedItem) (j : ℕ) (within : IsInPlan p j) (opens : IsItem p j W) where
  -- the elements stand in other memory
  pub elements_move : (left : ℕ) (items all : Vec Value Global) (next : List ℕ) → all.items ≡ items.items → AddsNumbers p W next (frame.List j left items) (frame.List j left all) 0
  elements_move left items all next e = λ fs well.
      let f = frame.List j left items in
      let g = frame.List j left all in
      let seen : frame_view p g ≡ frame_view p f = ap (λ (xs : List Value). in_list (type_in p j) left (map view xs)) e in
      let same = views_push p fs f ∙ ap (λ (x : StackFrameView). views p fs ++ x ∷ []) (sym seen) ∙ sym (views_push p fs g) in
      moves_same p W next (fs ++ f ∷ []) (fs ++ g ∷ []) same (well_push p fs g (well_pop p fs f well).0 within)

  -- a word becomes an element, and the next one is looked for
  one_moves : (left k : ℕ) (items all : Vec Value Global) (v : Value) (w : ℕ) (next : List ℕ) → all.items ≡ items.items ++ v ∷ [] → left ≡ suc k → FindsItem W [] [] next (Ok (Some (item.Word w, 4))) → Takes p W (word w) (Ok (next_step.Close v))
      → AddsNumbers p W next (frame.List j left items) (frame.List j k all) 4
  one_moves left k items all v w next e is f t = λ fs well.
      let old = fs ++ frame.List j left items ∷ [] in
      let new = fs ++ frame.List j k all ∷ [] in
      let vs = views p old in
      let closed = closes_opens p old new fs (frame.List j left items) (frame.List j k all) v j refl refl well (list_adds p j left k items all v e within is) in
      let s = steps_then p old new new (next_step.Close v) (next_step.Open j) (Ok (step.Stops (found.Wants W))) closed (opens new closed.0.frames) in
      let fewer = t.2 vs in
      let fell : found_work p (views p new) (found.Wants W) < found_work p vs (found.Wants W) = omega (arith, fewer, s.1) in
      record {
        within = f.1;
        frames = s.0.frames;
        same = λ at lt more.
            let r = spot (moved at 4) (drop 4 next ++ more) in
            ap (resumes p vs) (item_then p vs W (spot at (next ++ more)) (word w) r (f.2 at more)) ∙ t.1 vs at r ∙ s.0.same r;
        work = omega (arith, fell);
        less = λ some. fell;
      }

  number_item : IsNumber W → (s : Spot) → item_at W s ≡ item_at wanted.Nat s
  unfolding item_at
  number_item (inl is) s = rw is refl
  number_item (inr is) s = rw is refl

  -- n words did, and one more does
  pub numbers_more : (left n : ℕ) (items now all : Vec Value Global) (v : Value) (w : ℕ) (next : List ℕ) → IsNumber W → n < left → 4 * n + 4 ≤ length next → w ≡ from_le_bytes w32 (take 4 (drop (4 * n) next)) → all.items ≡ now.items ++ v ∷ [] → Takes p W (word w) (Ok (next_step.Close v))
      → AddsNumbers p W next (frame.List j left items) (frame.List j (left - n) now) (4 * n) → AddsNumbers p W next (frame.List j left items) (frame.List j (left - (n + 1)) all) (4 * (n + 1))
  numbers_more left n items now all v w next number few there is e t before = λ fs well.
      let some : 4 ≤ length (drop (4 * n) next) = omega (arith, there, length-drop (4 * n) next) in
      let a = before fs well in
      let one = one_moves (left - n) (left - (n + 1)) now all v w (drop (4 * n) next) e (omega (arith, few)) (word_next W [] (drop (4 * n) next) w (number_item number) refl some is) t in
      let both = moves_then p W next (fs ++ frame.List j left items ∷ []) (fs ++ frame.List j (left - n) now ∷ []) (fs ++ frame.List j (left - (n + 1)) all ∷ []) (4 * n) 4 a (one fs a.frames) (omega arith) in
      let four : 4 * n + 4 ≡ 4 * (n + 1) = omega arith in
      subst (λ (m : ℕ). MovesOn p W next (fs ++ frame.List j left items ∷ []) (fs ++ frame.List j (left - (n + 1)) all ∷ []) m) four both

-- ---- of a reading

fewer : (a b : ℕ) (held : ℕ) (n : ℕ) → a ≤ b → (0 < n → a < b) → (a * 2 ^ 64 + (2 ^ 64 - held) ≤ b * 2 ^ 64 + (2 ^ 64 - held)) × (0 < n → a * 2 ^ 64 + (2 ^ 64 - held) < b * 2 ^ 64 + (2 ^ 64 - held))
fewer a b held n le lt = (omega (arith, le), λ some. let l = lt some in omega (arith, l))

pub less_moved : (p : PlanView) (old : Reading) (frames : Vec StackFrame Global) (next : List ℕ) (n : ℕ) → MovesOn p old.wanted next old.frames.items frames.items n → WorksLess p old (record old { frames = frames }) n
less_moved p old frames next n m = fewer (found_work p (views p frames.items) (found.Wants old.wanted)) (found_work p (views p old.frames.items) (found.Wants old.wanted)) (length old.held.items) n m.work m.less

pub takes_moved : (p : PlanView) (old : Reading) (frames : Vec StackFrame Global) (next : List ℕ) (n at then : ℕ) → IsInOrder p old → old.held.items ≡ [] → MovesOn p old.wanted next old.frames.items frames.items n → at < 2 ^ 64 → then ≡ moved at n
    → TakesWords p (reads_on p old at) next (record old { frames = frames }) then (Ok (None, n))
takes_moved p old frames next n at then order none m lt is =
    let on = λ (vs : List StackFrameView) (q : ℕ) (z : List ℕ). found_at p vs (found.Wants old.wanted) (spot q z) in
    let same : (more : List ℕ) → reads_on p old at (next ++ more) ≡ reads_on p (record old { frames = frames }) then (drop n next ++ more) = λ more.
    ap (λ (z : List ℕ). on (views p old.frames.items) at (z ++ (next ++ more))) none
    ∙ m.same at lt more
    ∙ ap (λ (q : ℕ). on (views p frames.items) q (drop n next ++ more)) (sym is)
    ∙ ap (λ (z : List ℕ). on (views p frames.items) then (z ++ (drop n next ++ more))) (sym none) in
    (m.within, (record { frames = m.frames; well = order.well; begins = order.begins }, same))
