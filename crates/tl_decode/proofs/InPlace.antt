-- Steps that change the innermost frame in place.
use Rattle.std.proofs.Common.{◌≡◌, ℕ, suc, ◌+◌, ◌-◌, ◌<◌, List, [], ◌∷◌, ◌++◌, length, map, take, drop, get_or, slice_set, Vec, None, Some, Result, Ok, Err, refl, ap, sym, subst, ◌∙◌, arith}
use Rattle.std.specs.declared.alloc.Global.{Global}
use Rattle.std.proofs.lemmas.List.{drop_all, drop_more, map_push, same_from_push, set_split, take-append-drop}
use Rattle.tl_plan.specs.Plans.{PlanView}
use Rattle.tl_types.specs.Seen.{view}
use Rattle.tl_types.specs.inner.Reading.{fields_in}
use Rattle.tl_types.specs.declared.value.Value.{Value}
use Rattle.tl_decode.specs.declared.stack.StackFrame.{StackFrame}
use Rattle.tl_decode.specs.declared.stack.StackFrame.TheVariants as frame
use Rattle.tl_decode.specs.declared.stack.Found.{Found}
use Rattle.tl_decode.specs.declared.stack.Next.{Next}
use Rattle.tl_decode.specs.declared.stack.Next.TheVariants as next
use Rattle.tl_decode.specs.declared.stack.Advance.{Advance}
use Rattle.tl_decode.specs.declared.stack.Advance.TheVariants as step
use Rattle.tl_base.specs.declared.fault.Fault.{Fault}
use Rattle.tl_base.specs.declared.fault.Fault.TheVariants as stop
use Rattle.tl_types.specs.declared.cause.Cause.{Cause}
use Rattle.tl_decode.specs.inner.Frames.{in_list, in_record, type_in, entry_in, IsInPlan, AreWell, IsWellFrame, SettlesFrom, StepsFrom, Adds, IsWith, Opens}
use Rattle.tl_decode.proofs.FrameLists.{well_pop}
use Rattle.tl_decode.proofs.PartSteps.{closes_in, list_opens}

-- ---- two steps as one

pub steps_then : (p : PlanView) (old mid new : List StackFrame) (n m : Next) (r : Result Advance (Fault Cause)) → StepsFrom p old n mid (Ok (step.Goes m)) → StepsFrom p mid m new r → StepsFrom p old n new r
steps_then p old mid new n m (Ok (step.Goes k)) a b = (record { frames = b.0.frames; is_well = b.0.is_well; same = λ s. a.0.same s ∙ b.0.same s }, omega (arith, a.1, b.1))
steps_then p old mid new n m (Ok (step.Stops f)) a b = (record { frames = b.0.frames; is_well = b.0.is_well; same = λ s. a.0.same s ∙ b.0.same s }, omega (arith, a.1, b.1))
steps_then p old mid new n m (Err (stop.Refused cause)) a b = (b.0, λ s. a.0.same s ∙ b.1 s)
steps_then p old mid new n m (Err stop.Memory) a b = tt

pub closes_opens : (p : PlanView) (old new fs : List StackFrame) (f g : StackFrame) (v : Value) (j : ℕ) → old ≡ fs ++ f ∷ [] → new ≡ fs ++ g ∷ [] → AreWell p old → Adds p f v g (Some j) → StepsFrom p old (next.Close v) new (Ok (step.Goes (next.Open j)))
closes_opens p old new fs f g v j e is all (h, one, opens) =
    let first = closes_in p old fs f h v e all one.0 (λ w. one.1) in
    rw is (steps_then p old fs (fs ++ g ∷ []) (next.Close v) (next.Part h) (Ok (step.Goes (next.Open j))) first (opens fs first.0.frames))

pub closes_taken : (p : PlanView) (fs others : List StackFrame) (f g h : StackFrame) (v : Value) → AreWell p (fs ++ f ∷ []) → Adds p f v g None → fs ++ g ∷ [] ≡ others ++ h ∷ [] → StepsFrom p (fs ++ f ∷ []) (next.Close v) others (Ok (step.Goes (next.Part h)))
closes_taken p fs others f g h v well adds split =
    let both = same_from_push fs others g h split in
    rw (sym both.0, sym both.1) (closes_in p (fs ++ f ∷ []) fs f g v refl well adds.0 (λ w. adds.1))

-- ---- one value more

pub list_with : (p : PlanView) (j left : ℕ) (items all : Vec Value Global) (v : Value) → all.items ≡ items.items ++ v ∷ [] → IsInPlan p j → IsWith p (frame.List j left items) v (frame.List j left all)
list_with p j left items all v e within = (ap (in_list (type_in p j) left) (ap (map view) e ∙ map_push view items.items v), within)

pub record_with : (p : PlanView) (j m : ℕ) (fields all : Vec Value Global) (v : Value) → all.items ≡ fields.items ++ v ∷ [] → IsWellFrame p (frame.Record j m fields) → IsWith p (frame.Record j m fields) v (frame.Record j m all)
record_with p j m fields all v e well =
    (ap (in_record (type_in p j) (entry_in p j m) (fields_in p.schema.decls (entry_in p j m))) (ap (map view) e ∙ map_push view fields.items v), well)

pub list_adds : (p : PlanView) (j left k : ℕ) (items all : Vec Value Global) (v : Value) → all.items ≡ items.items ++ v ∷ [] → IsInPlan p j → left ≡ suc k → Adds p (frame.List j left items) v (frame.List j k all) (Some j)
list_adds p j left k items all v e within is = (frame.List j left all, list_with p j left items all v e within, λ fs well. list_opens p fs well j left k all _ is refl within)

pub record_adds : (p : PlanView) (j m h : ℕ) (fields all : Vec Value Global) (v : Value) → all.items ≡ fields.items ++ v ∷ [] → IsWellFrame p (frame.Record j m fields) → Opens p (frame.Record j m all) (frame.Record j m all) h
    → Adds p (frame.Record j m fields) v (frame.Record j m all) (Some h)
record_adds p j m h fields all v e well opens = (frame.Record j m all, record_with p j m fields all v e well, opens)

-- ---- the last of some frames

module _ (p : PlanView) (xs : List StackFrame) (n : ℕ) (f : StackFrame) (len : length xs ≡ n) (some : 0 < n) (is : f ≡ get_or xs (n - 1) f) (well : AreWell p xs) where
  last_of : xs ≡ take (n - 1) xs ++ f ∷ []
  last_of =
      let after : drop (n - 1) xs ≡ f ∷ [] = drop_more xs (n - 1) f (omega (arith, len, some)) ∙ ap (λ (x : StackFrame). x ∷ drop ((n - 1) + 1) xs) (sym is) ∙ ap (λ (ys : List StackFrame). f ∷ ys) (drop_all ((n - 1) + 1) xs (omega (arith, len, some))) in
      sym (take-append-drop (n - 1) xs) ∙ ap (λ (ys : List StackFrame). take (n - 1) xs ++ ys) after

  last_set : (g : StackFrame) → slice_set xs (n - 1) g ≡ take (n - 1) xs ++ g ∷ []
  last_set g = set_split xs (n - 1) g (omega (arith, len, some)) ∙ ap (λ (ys : List StackFrame). take (n - 1) xs ++ g ∷ ys) (drop_all (suc (n - 1)) xs (omega (arith, len, some)))

  pub last_well : IsWellFrame p f
  last_well = (well_pop p (take (n - 1) xs) f (subst (AreWell p) last_of well)).1

  -- a value closes inside it, and its next part is opened
  pub last_opens : (g : StackFrame) (v : Value) (j : ℕ) → Adds p f v g (Some j) → StepsFrom p xs (next.Close v) (slice_set xs (n - 1) g) (Ok (step.Goes (next.Open j)))
  last_opens g v j adds = closes_opens p xs (slice_set xs (n - 1) g) (take (n - 1) xs) f g v j last_of (last_set g) well adds

  -- a value closes inside it, and it is taken off
  pub last_taken : (g h : StackFrame) (v : Value) (others : List StackFrame) → Adds p f v g None → slice_set xs (n - 1) g ≡ others ++ h ∷ [] → StepsFrom p xs (next.Close v) others (Ok (step.Goes (next.Part h)))
  last_taken g h v others adds split =
      let both = same_from_push (take (n - 1) xs) others g h (sym (last_set g) ∙ split) in
      rw (sym both.0, sym both.1) (closes_in p xs (take (n - 1) xs) f g v last_of well adds.0 (λ w. adds.1))

  -- what holds of any frames inside which it becomes another
  pub last_becomes : (P : List StackFrame → List StackFrame → Type 0) (g : StackFrame) → ((fs : List StackFrame) → AreWell p (fs ++ f ∷ []) → P (fs ++ f ∷ []) (fs ++ g ∷ [])) → P xs (slice_set xs (n - 1) g)
  last_becomes P g holds =
      let ys = take (n - 1) xs in
      let there = holds ys (subst (AreWell p) last_of well) in
      subst (λ (zs : List StackFrame). P zs (slice_set xs (n - 1) g)) (sym last_of) (subst (λ (zs : List StackFrame). P (ys ++ f ∷ []) zs) (sym (last_set g)) there)

-- ---- a step, and then all others

pub settles_then : (p : PlanView) (old mid new : List StackFrame) (n m : Next) (r : Result Found (Fault Cause)) → StepsFrom p old n mid (Ok (step.Goes m)) → SettlesFrom p mid m new r → SettlesFrom p old n new r
settles_then p old mid new n m (Ok f) a b = (record { frames = b.0.frames; is_well = b.0.is_well; same = λ s. a.0.same s ∙ b.0.same s }, omega (arith, a.1, b.1))
settles_then p old mid new n m (Err (stop.Refused cause)) a b = (b.0, λ s. a.0.same s ∙ b.1 s)
settles_then p old mid new n m (Err stop.Memory) a b = tt
