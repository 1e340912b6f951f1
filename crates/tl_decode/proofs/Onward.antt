-- An item that is taken from a source, and how reading goes on from there.
use Rattle.std.proofs.Common.{◌≡◌, ℕ, ◌<◌, List, [], Option, Some, None, Result, Ok, Err, refl, ap, sym, ◌∙◌, subst, arith}
use Rattle.std.specs.Prelude.{IfOk}
use Rattle.tl_plan.specs.Plans.{PlanView}
use Rattle.tl_types.specs.Seen.{view}
use Rattle.tl_types.specs.inner.Reading.{Spot, spot, Reader, value_at}
use Rattle.tl_types.specs.declared.value.Value.{Value}
use Rattle.tl_types.specs.declared.value.TheConstants.{MAX_LEVELS}
use Rattle.tl_decode.specs.declared.fault.DecodeFault.{DecodeFault}
use Rattle.tl_decode.specs.declared.fault.DecodeFault.TheVariants.{Refused, ReadFault, Memory}
use Rattle.tl_decode.specs.declared.stack.StackFrame.{StackFrame}
use Rattle.tl_decode.specs.declared.stack.WantedItem.{WantedItem}
use Rattle.tl_decode.specs.declared.stack.Item.{Item}
use Rattle.tl_decode.specs.declared.stack.Next.{Next}
use Rattle.tl_decode.specs.declared.stack.Next.TheVariants as next
use Rattle.tl_decode.specs.declared.stack.Found.{Found}
use Rattle.tl_decode.specs.declared.stack.Found.TheVariants as found
use Rattle.tl_base.specs.declared.fault.Fault.{Fault}
use Rattle.tl_base.specs.declared.fault.Fault.TheVariants as stop
use Rattle.tl_types.specs.declared.cause.Cause.{Cause}
use Rattle.tl_decode.specs.inner.Steps.{ReadsAs, FailsAs}
use Rattle.tl_decode.specs.inner.Frames.{StackFrameView, ItemView, views, type_in, resume, resumes, item_at, item_view, after, wanted_at, levels_below, next_at, found_at, next_work, found_work, IsFound, IsStop, ReadsOn, Settles, SettlesAt, Steps, Takes}
use Rattle.tl_decode.proofs.FrameLists.{resume_err}
use Rattle.tl_decode.proofs.Steps.{Continues, as_read}

module _ (p : PlanView) (fs : List StackFrameView) (W : WantedItem) where
  pub item_then : (s : Spot) (x : ItemView) (r : Spot) → item_at W s ≡ Ok (x, r) → wanted_at p (levels_below fs) W s ≡ after p (levels_below fs) W s.place x r
  unfolding wanted_at
  item_then s x r e = rw e refl

  pub item_fails : (s : Spot) (place : ℕ) (cause : _) → item_at W s ≡ Err (place, cause) → wanted_at p (levels_below fs) W s ≡ Err (place, cause)
  unfolding wanted_at
  item_fails s place cause e = rw e refl

  pub item_failed : (a b : Option (List ℕ)) (m q r : ℕ) (e : DecodeFault) (on : Found → Reader) → ReadsAs {X = Item} item_view a b m q (Err e) (item_at W) → ReadsOn (found_at p fs (found.Wants W)) a b m r (Err e) on
  item_failed None b m q r e on h = tt
  item_failed (Some bytes) b m q r (Refused place cause) on h = ap (resumes p fs) (item_fails (spot m bytes) place cause h) ∙ resume_err p.schema.decls MAX_LEVELS fs _
  item_failed (Some bytes) b m q r ReadFault on h = tt
  item_failed (Some bytes) b m q r Memory on h = tt

  pub item_refused : (a b : Option (List ℕ)) (m q r : ℕ) (x : Item) (st : Fault Cause) (e : DecodeFault) (on : Found → Reader) → ReadsAs item_view a b m q (Ok x) (item_at W) → Takes p W (item_view x) (Err st) → IsStop st m e → ReadsOn (found_at p fs (found.Wants W)) a b m r (Err e) on
  item_refused None b m q r x st e on h t is = tt
  item_refused (Some bytes) b m q r x (stop.Refused cause) e on h t is =
      subst (λ (f : DecodeFault). FailsAs f (found_at p fs (found.Wants W) (spot m bytes))) (sym is)
      (ap (resumes p fs) (item_then (spot m bytes) (item_view x) (spot q h.0) h.2 ∙ t.1 (levels_below fs) m (spot q h.0)) ∙ resume_err p.schema.decls MAX_LEVELS fs _)
  item_refused (Some bytes) b m q r x stop.Memory e on h t is = subst (λ (f : DecodeFault). FailsAs f (found_at p fs (found.Wants W) (spot m bytes))) (sym is) tt

  item_goes : (m q : ℕ) (bytes rest : List ℕ) (x : ItemView) (n : Next) → item_at W (spot m bytes) ≡ Ok (x, spot q rest) → Takes p W x (Ok n) → found_at p fs (found.Wants W) (spot m bytes) ≡ next_at p fs n (spot q rest)
  item_goes m q bytes rest x n h t = ap (resumes p fs) (item_then (spot m bytes) x (spot q rest) h) ∙ t.1 fs m (spot q rest)

  pub item_settled : (new : List StackFrame) (a b : Option (List ℕ)) (m q work : ℕ) (x : Item) (n : Next) (r : Result Found DecodeFault) → ReadsAs item_view a b m q (Ok x) (item_at W) → Takes p W (item_view x) (Ok n) → SettlesAt p (next_at p fs n) work q new r
      → ReadsOn (found_at p fs (found.Wants W)) a b m q r (found_at p (views p new))
  item_settled new None b m q work x n r h t s = tt
  item_settled new (Some bytes) b m q work x n (Ok f) h t s = (h.0, h.1, item_goes m q bytes h.0 (item_view x) n h.2 t ∙ s.0.same (spot q h.0))
  item_settled new (Some bytes) b m q work x n (Err (Refused place cause)) h t s = item_goes m q bytes h.0 (item_view x) n h.2 t ∙ s.1 h.0
  item_settled new (Some bytes) b m q work x n (Err ReadFault) h t s = tt
  item_settled new (Some bytes) b m q work x n (Err Memory) h t s = tt

  pub item_work : (new : List StackFrame) (old : Reader) (q : ℕ) (x : ItemView) (n : Next) (r : Result Found DecodeFault) → Takes p W x (Ok n) → SettlesAt p old (next_work p fs n) q new r → IfOk r (λ f. found_work p (views p new) f < found_work p fs (found.Wants W))
  item_work new old q x n (Ok f) t s = let less = t.2 fs in omega (arith, less, s.1)
  item_work new old q x n (Err e) t s = tt

pub settled_well : (p : PlanView) (new : List StackFrame) (old : Reader) (work q : ℕ) (r : Result Found DecodeFault) → SettlesAt p old work q new r → IsFound p new r
settled_well p new old work q (Ok f) s = (s.0.frames, s.0.is_well)
settled_well p new old work q (Err e) s = tt

pub settles_stop : (p : PlanView) (new : List StackFrame) (old : Reader) (work place : ℕ) (st : Fault Cause) (e : DecodeFault) → Settles p old work new (Err st) → IsStop st place e → SettlesAt p old work place new (Err e)
settles_stop p new old work place (stop.Refused cause) e s is = subst (λ (f : DecodeFault). SettlesAt p old work place new (Err f)) (sym is) (s.0, λ b. s.1 (spot place b))
settles_stop p new old work place stop.Memory e s is = subst (λ (f : DecodeFault). SettlesAt p old work place new (Err f)) (sym is) tt

pub settles_err : (p : PlanView) (old mid : Reader) (work less : ℕ) (fs : List StackFrame) (e : Fault Cause) → ((s : Spot) → old s ≡ mid s) → Steps p mid less fs (Err e) → Settles p old work fs (Err e)
settles_err p old mid work less fs (stop.Refused cause) same s = (s.0, λ r. same r ∙ s.1 r)
settles_err p old mid work less fs stop.Memory same s = tt

-- ---- the whole

pub goes_on_from : (start on : Reader) (then : Found → Reader) (a b c : Option (List ℕ)) (m q r : ℕ) (f : Found) → Continues start a b m q on → ReadsOn on b c q r (Ok f) then → Continues start a c m r (then f)
unfolding Continues
goes_on_from start on then None b c m q r f h k = tt
goes_on_from start on then (Some bytes) b c m q r f h k =
    let there = subst (λ (o : Option (List ℕ)). ReadsOn on o c q r (Ok f) then) h.1 k in
    (there.0, there.1, sym there.2 ∙ h.2)

pub stops_from : (start on : Reader) (then : Found → Reader) (a b c : Option (List ℕ)) (m q r : ℕ) (e : DecodeFault) → Continues start a b m q on → ReadsOn on b c q r (Err e) then → ReadsAs {X = Value} view a c m r (Err e) start
unfolding Continues
stops_from start on then None b c m q r e h k = tt
stops_from start on then (Some bytes) b c m q r (Refused place cause) h k =
    let there = subst (λ (o : Option (List ℕ)). ReadsOn on o c q r (Err (Refused place cause)) then) h.1 k in
    sym h.2 ∙ there
stops_from start on then (Some bytes) b c m q r ReadFault h k = tt
stops_from start on then (Some bytes) b c m q r Memory h k = tt

module _ (p : PlanView) (j : ℕ) where
  abbrev start : Reader
  start = value_at p.schema.decls MAX_LEVELS (type_in p j)

  opens : (s : Spot) → next_at p [] (next.Open j) s ≡ start s
  unfolding resume
  opens s = refl

  -- it goes on from what was found first
  pub begins : (none new : List StackFrame) (a b : Option (List ℕ)) (m q work : ℕ) (f : Found) (r : Result Value DecodeFault) → none ≡ [] → SettlesAt p (next_at p (views p none) (next.Open j)) work m new (Ok f) → ReadsAs view a b m q r (found_at p (views p new) f) → ReadsAs view a b m q r start
  begins none new a b m q work f r e s h =
      let first = subst (λ (fs : List StackFrame). SettlesAt p (next_at p (views p fs) (next.Open j)) work m new (Ok f)) e s in
      as_read view a b m q r (found_at p (views p new) f) start h (λ z. sym (opens z) ∙ first.0.same z)

  begins_empty : (new : List StackFrame) (a : Option (List ℕ)) (m r work : ℕ) (e : DecodeFault) → SettlesAt p (next_at p [] (next.Open j)) work m new (Err e) → ReadsAs {X = Value} view a a m r (Err e) start
  begins_empty new None m r work e s = tt
  begins_empty new (Some bytes) m r work (Refused place cause) s = sym (opens (spot m bytes)) ∙ s.1 bytes
  begins_empty new (Some bytes) m r work ReadFault s = tt
  begins_empty new (Some bytes) m r work Memory s = tt

  pub begins_not : (none new : List StackFrame) (a : Option (List ℕ)) (m r work : ℕ) (e : DecodeFault) → none ≡ [] → SettlesAt p (next_at p (views p none) (next.Open j)) work m new (Err e) → ReadsAs {X = Value} view a a m r (Err e) start
  begins_not none new a m r work e is s = begins_empty new a m r work e (subst (λ (fs : List StackFrame). SettlesAt p (next_at p (views p fs) (next.Open j)) work m new (Err e)) is s)
