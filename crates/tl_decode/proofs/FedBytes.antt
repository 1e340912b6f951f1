-- What a decoder has after bytes, and what it answers for a piece.
use Rattle.std.proofs.Common.{◌≡◌, ℕ, ◌-◌, ◌<◌, ◌≤◌, List, [], ◌++◌, length, drop, Option, Some, None, Result, Ok, Err, refl, ap, sym, ◌∙◌, subst, arith, append_assoc, append-nil, true≢false, inl, inr}
use Rattle.std.specs.Prelude.{◌≢◌, IfErr}
use Rattle.std.proofs.lemmas.List.{length-append, length-drop}
use Rattle.tl_numbers.specs.Bytes.{AreBytes}
use Rattle.tl_schema.specs.Types.{Shape}
use Rattle.tl_schema.specs.Formed.{IsFormed}
use Rattle.tl_plan.specs.Plans.{IsPlan, PlanView}
use Rattle.tl_plan.specs.PlanLaws.{IsInstance}
use Rattle.tl_types.specs.Offsets.{moved}
use Rattle.tl_types.specs.Refusal.{Refused}
use Rattle.tl_types.specs.Spelling.{Spells}
use Rattle.tl_types.specs.Values.{ValueView, depth}
use Rattle.tl_types.specs.Seen.{view}
use Rattle.tl_types.specs.inner.Reading.{Spot, spot, Read, value_at}
use Rattle.tl_types.specs.declared.cause.Cause.{Cause}
use Rattle.tl_types.specs.declared.cause.Cause.TheVariants.{Truncated}
use Rattle.tl_types.specs.declared.value.Value.{Value}
use Rattle.tl_types.specs.declared.value.TheConstants.{MAX_LEVELS}
use Rattle.tl_decode.specs.declared.fault.DecodeFault.{DecodeFault}
use Rattle.tl_decode.specs.declared.fault.DecodeFault.TheVariants as fault
use Rattle.tl_decode.specs.declared.stack.StackFrame.{StackFrame}
use Rattle.tl_decode.specs.declared.stack.Progress.{Progress}
use Rattle.tl_decode.specs.declared.stack.Progress.TheVariants as progress
use Rattle.tl_decode.specs.declared.stack.Reading.{Reading}
use Rattle.tl_decode.specs.declared.stack.Next.TheVariants as next
use Rattle.tl_decode.specs.declared.stack.Found.{Found}
use Rattle.tl_decode.specs.declared.stack.Found.TheVariants as found
use Rattle.tl_decode.specs.declared.stack.Fed.{Fed}
use Rattle.tl_decode.specs.declared.stack.Fed.TheVariants as fed
use Rattle.tl_decode.specs.inner.Frames.{views, type_in, found_at, next_at, resume, resumes, is_truncated, AreWell, SettlesAt}
use Rattle.tl_decode.specs.inner.Needs.{IsInOrder, TakesPiece, piece_work, reads_on}
use Rattle.tl_decode.specs.Decoders.{DecoderView, EachRefusalStays, Feeds, HasCome, HasTaken, GivesEnd, GivesRefusal, GivesMore, IsDecoder, pieces_left, reads_all, stopped, stopped_by, work_left}
use Rattle.tl_types.proofs.Exactly.{exactly_one}
use Rattle.tl_decode.proofs.FrameLists.{resume_err}
use Rattle.tl_decode.proofs.HeldBytes.{item_cut}
use Rattle.tl_decode.proofs.Onward.{item_fails}
use Rattle.tl_decode.proofs.PieceSteps.{begins_none}
use Rattle.tl_decode.proofs.PlanTypes.{instance_type}
use Rattle.tl_decode.proofs.Outcomes.{same_ok, never_err, same_err, reads, fails, root_read}

-- ---- what was answered

-- the answer for a piece after which these bytes were taken, of which there were so many before
abbrev pub Told : DecoderView → List ℕ → ℕ → Result Fed DecodeFault → Type 0
Told d bytes before (Ok fed.More) = (r : Reading) × HasCome d bytes (progress.Reading r)
Told d bytes before (Ok (fed.Done used)) = (v : Value) × (come : HasCome d bytes (progress.Done v)) × (d.progress ≡ progress.Done v) × (used ≡ (length bytes - before) - length come.0)
Told d bytes before (Err e) = HasCome d bytes (progress.Stopped e)

module _ (d : DecoderView) (bytes : List ℕ) where
  at_end : {r : List ℕ → Read ValueView} → ((more : List ℕ) → reads_all d (bytes ++ more) ≡ r more) → reads_all d bytes ≡ r []
  at_end h = ap (reads_all d) (sym (append-nil bytes)) ∙ h []

  -- an item that isn't whole is cut off where the input ends
  cut_at : (r : Reading) → HasCome d bytes (progress.Reading r) → reads_all d bytes ≡ Err (d.at, Truncated)
  cut_at r h =
      let held = r.held.items in
      at_end {r = λ more. reads_on d.plan r d.at more} h.1
      ∙ ap (λ (z : List ℕ). found_at d.plan (views d.plan r.frames.items) (found.Wants r.wanted) (spot d.at z)) (append-nil held)
      ∙ ap (resumes d.plan (views d.plan r.frames.items)) (item_fails d.plan (views d.plan r.frames.items) r.wanted (spot d.at held) d.at Truncated (item_cut r.wanted d.at held h.0.begins)) ∙ resume_err d.plan.schema.decls MAX_LEVELS (views d.plan r.frames.items) _

  pub done_at : (v : Value) (h : HasCome d bytes (progress.Done v)) → reads_all d bytes ≡ Ok (view v, spot d.at h.0)
  done_at v h = at_end {r = λ more. Ok (view v, spot d.at (h.0 ++ more))} h.1 ∙ ap (λ (z : List ℕ). Ok (view v, spot d.at z)) (append-nil h.0)

  stop_at : (offset : ℕ) (cause : Cause) → HasCome d bytes (progress.Stopped (fault.Refused offset cause)) → reads_all d bytes ≡ Err (offset, cause)
  stop_at offset cause h = at_end {r = λ more. Err (offset, cause)} h.1

  module _ (before : ℕ) where
    pub gives_end : (r : Result Fed DecodeFault) → Told d bytes before r → (v : ValueView) (x rest : List ℕ) (q : ℕ) → bytes ≡ x ++ rest → reads_all d bytes ≡ Ok (v, spot q rest) → GivesEnd d before r v (length x)
    gives_end (Ok fed.More) t v x rest q split e = never_err (sym (cut_at t.0 t.1) ∙ e)
    gives_end (Ok (fed.Done used)) t v x rest q split e =
        let both = same_ok (sym (done_at t.0 t.1) ∙ e) in
        let left : length t.1.0 ≡ length rest = ap (λ (y : ValueView × Spot). length y.1.bytes) both in
        (omega (arith, t.3, left, ap length split, length-append x rest), (t.0, t.2, ap (λ (y : ValueView × Spot). y.0) both))
    gives_end (Err (fault.Refused offset cause)) t v x rest q split e = never_err (sym (stop_at offset cause t) ∙ e)
    gives_end (Err fault.ReadFault) t v x rest q split e = t
    gives_end (Err fault.Memory) t v x rest q split e = tt

    pub gives_refusal : (r : Result Fed DecodeFault) → Told d bytes before r → (offset : ℕ) (cause : Cause) → cause ≢ Truncated → reads_all d bytes ≡ Err (offset, cause) → GivesRefusal r offset cause
    gives_refusal (Ok fed.More) t offset cause other e = other (sym (same_err (sym (cut_at t.0 t.1) ∙ e)).1)
    gives_refusal (Ok (fed.Done used)) t offset cause other e = never_err (sym e ∙ done_at t.0 t.1)
    gives_refusal (Err (fault.Refused place why)) t offset cause other e = same_err (sym (stop_at place why t) ∙ e)
    gives_refusal (Err fault.ReadFault) t offset cause other e = t
    gives_refusal (Err fault.Memory) t offset cause other e = tt

    pub gives_more : (r : Result Fed DecodeFault) → Told d bytes before r → (offset : ℕ) → reads_all d bytes ≡ Err (offset, Truncated) → GivesMore d r offset
    gives_more (Ok fed.More) t offset e = (same_err (sym (cut_at t.0 t.1) ∙ e)).0
    gives_more (Ok (fed.Done used)) t offset e = never_err (sym e ∙ done_at t.0 t.1)
    gives_more (Err (fault.Refused place why)) t offset e = true≢false (sym (ap is_truncated (same_err (sym (stop_at place why t) ∙ e)).1) ∙ t.0)
    gives_more (Err fault.ReadFault) t offset e = t
    gives_more (Err fault.Memory) t offset e = tt

  -- where the input is cut off
  ends_at : (now : Progress) → HasCome d bytes now → (offset : ℕ) → reads_all d bytes ≡ Err (offset, Truncated) → stopped_by now ≢ Some fault.Memory → d.at ≡ offset
  ends_at (progress.Reading r) h offset e other = (same_err (sym (cut_at r h) ∙ e)).0
  ends_at (progress.Done v) h offset e other = never_err (sym e ∙ done_at v h)
  ends_at (progress.Stopped (fault.Refused place why)) h offset e other = absurd (true≢false (sym (ap is_truncated (same_err (sym (stop_at place why h) ∙ e)).1) ∙ h.0))
  ends_at (progress.Stopped fault.ReadFault) h offset e other = absurd h
  ends_at (progress.Stopped fault.Memory) h offset e other = absurd (other refl)

  -- where the value is there
  value_ends_at : (now : Progress) → HasCome d bytes now → (v : ValueView) (offset : ℕ) (rest : List ℕ) → reads_all d bytes ≡ Ok (v, spot offset rest) → stopped_by now ≢ Some fault.Memory → d.at ≡ offset
  value_ends_at (progress.Reading r) h v offset rest e other = never_err (sym (cut_at r h) ∙ e)
  value_ends_at (progress.Done w) h v offset rest e other = ap (λ (y : ValueView × Spot). y.1.place) (same_ok (sym (done_at w h) ∙ e))
  value_ends_at (progress.Stopped (fault.Refused place why)) h v offset rest e other = never_err (sym (stop_at place why h) ∙ e)
  value_ends_at (progress.Stopped fault.ReadFault) h v offset rest e other = absurd h
  value_ends_at (progress.Stopped fault.Memory) h v offset rest e other = absurd (other refl)

-- ---- what the bytes read as

module _ (d : DecoderView) (good : IsPlan d.plan) (T : Shape) (is : IsInstance d.plan d.root T) where
  as_type : (bytes : List ℕ) (r : Read ValueView) → value_at d.plan.schema.decls MAX_LEVELS T (spot 0 bytes) ≡ r → reads_all d bytes ≡ r
  as_type bytes r e = ap (λ (U : Shape). value_at d.plan.schema.decls MAX_LEVELS U (spot 0 bytes)) (instance_type d.plan d.root T is) ∙ e

  pub spelled_reads : (bytes : List ℕ) (v : ValueView) (x rest : List ℕ) → bytes ≡ x ++ rest → Spells d.plan.schema T v x → depth v ≤ MAX_LEVELS → reads_all d bytes ≡ Ok (v, spot (moved 0 (length x)) rest)
  spelled_reads bytes v x rest split s deep = as_type bytes _ (reads d.plan.schema good.schema T MAX_LEVELS 0 (omega arith) bytes v x rest split s deep)

  pub refused_reads : (bytes : List ℕ) (offset : ℕ) (cause : Cause) → Refused d.plan.schema MAX_LEVELS T bytes offset cause → reads_all d bytes ≡ Err (moved 0 offset, cause)
  refused_reads bytes offset cause s = as_type bytes _ (fails d.plan.schema good.schema T (root_read d.plan good d.root T is) MAX_LEVELS 0 (omega arith) bytes offset cause s)

-- ---- at first

module _ (p : PlanView) (root : ℕ) (fs none : List StackFrame) (work : ℕ) (empty : none ≡ []) where
  opens : (s : Spot) → next_at p [] (next.Open root) s ≡ value_at p.schema.decls MAX_LEVELS (type_in p root) s
  unfolding resume
  opens s = refl

  abbrev pub Settled : Result Found DecodeFault → Type 0
  Settled r = SettlesAt p (next_at p (views p none) (next.Open root)) work 0 fs r

  abbrev pub HasBegun : Progress → Type 0
  HasBegun now = HasTaken (record { plan = p; root = root; progress = now; at = 0 }) []

  first : (r : Result Found DecodeFault) → Settled r → SettlesAt p (next_at p [] (next.Open root)) work 0 fs r
  first r s = subst (λ (z : List StackFrame). SettlesAt p (next_at p (views p z) (next.Open root)) work 0 fs r) empty s

  pub begun_reading : (r : Reading) → r.frames.items ≡ fs → r.held.items ≡ [] → Settled (Ok (found.Wants r.wanted)) → HasBegun (progress.Reading r)
  unfolding HasTaken
  begun_reading r same held s =
      let t = first (Ok (found.Wants r.wanted)) s in (
        record { frames = subst (AreWell p) (sym same) t.0.frames; well = t.0.is_well; begins = rw held (begins_none p r.wanted t.0.is_well) },
        λ more. sym (opens (spot 0 more)) ∙ t.0.same (spot 0 more) ∙ ap (λ (z : List StackFrame). found_at p (views p z) (found.Wants r.wanted) (spot 0 more)) (sym same) ∙ ap (λ (z : List ℕ). found_at p (views p r.frames.items) (found.Wants r.wanted) (spot 0 (z ++ more))) (sym held),
      )

  pub begun_done : (v : Value) → Settled (Ok (found.Done v)) → HasBegun (progress.Done v)
  unfolding HasTaken
  begun_done v s = let t = first (Ok (found.Done v)) s in ([], λ more. sym (opens (spot 0 more)) ∙ t.0.same (spot 0 more))

  pub begun_stopped : (e : DecodeFault) → Settled (Err e) → HasBegun (progress.Stopped e)
  unfolding HasTaken
  begun_stopped (fault.Refused place cause) s = let t = first (Err (fault.Refused place cause)) s in (t.0, λ more. sym (opens (spot 0 more)) ∙ t.1 more)
  begun_stopped fault.ReadFault s = s
  begun_stopped fault.Memory s = tt

-- ---- a piece

-- what a piece leaves: the answer and the bytes that were taken
record Fits (d : DecoderView) (bytes : List ℕ) (before : ℕ) (r : Result Fed DecodeFault) : Type 0 where
  told : Told d bytes before r
  taken : HasTaken d bytes

module _ (d : DecoderView) (bytes piece : List ℕ) where
  regroup : {r : List ℕ → Read ValueView} → ((more : List ℕ) → reads_all d (bytes ++ more) ≡ r more) → (more : List ℕ) → reads_all d ((bytes ++ piece) ++ more) ≡ r (piece ++ more)
  regroup h more = ap (reads_all d) (append_assoc bytes piece more) ∙ h (piece ++ more)

  -- what has come of some bytes
  come : {now : Progress} → d.progress ≡ now → HasTaken d bytes → HasCome d bytes now
  unfolding HasTaken
  come is h = subst (HasCome d bytes) is h

  -- a decoder that has stopped
  stays_stopped : (e : DecodeFault) → HasCome d bytes (progress.Stopped e) → HasCome d (bytes ++ piece) (progress.Stopped e)
  stays_stopped (fault.Refused place cause) h = (h.0, regroup {r = λ more. Err (place, cause)} h.1)
  stays_stopped fault.ReadFault h = h
  stays_stopped fault.Memory h = tt

  fits_stopped : (e : DecodeFault) → d.progress ≡ progress.Stopped e → HasTaken d bytes → Fits d (bytes ++ piece) (length bytes) (Err e)
  unfolding HasTaken
  fits_stopped e is h = let now = stays_stopped e (come is h) in record { told = now; taken = subst (HasCome d (bytes ++ piece)) (sym is) now }

  -- one that is done
  fits_done : (v : Value) → d.progress ≡ progress.Done v → HasTaken d bytes → Fits d (bytes ++ piece) (length bytes) (Ok (fed.Done 0))
  unfolding HasTaken
  fits_done v is h =
      let was = come is h in
      let now : HasCome d (bytes ++ piece) (progress.Done v) = (was.0 ++ piece, λ more. regroup {r = λ more. Ok (view v, spot d.at (was.0 ++ more))} was.1 more ∙ ap (λ (y : List ℕ). Ok (view v, spot d.at y)) (sym (append_assoc was.0 piece more))) in
      record { told = (v, now, is, omega (arith, length-append bytes piece, length-append was.0 piece)); taken = subst (HasCome d (bytes ++ piece)) (sym is) now }

  -- one that goes on
  module _ (r : Reading) (is : d.progress ≡ progress.Reading r) (h : HasTaken d bytes) (new : Reading) (at : ℕ) where
    abbrev after : Progress → DecoderView
    after now = record { plan = d.plan; root = d.root; progress = now; at = at }

    abbrev Takes : Result (Option (Value × ℕ)) DecodeFault → Type 0
    Takes s = TakesPiece d.plan (reads_on d.plan r d.at) piece new at s

    goes : (more : List ℕ) → reads_all d ((bytes ++ piece) ++ more) ≡ reads_on d.plan r d.at (piece ++ more)
    goes more = regroup {r = λ z. reads_on d.plan r d.at z} (come is h).1 more

    fits_more : Takes (Ok None) → Fits (after (progress.Reading new)) (bytes ++ piece) (length bytes) (Ok fed.More)
    unfolding HasTaken
    fits_more t = let now : HasCome (after (progress.Reading new)) (bytes ++ piece) (progress.Reading new) = (t.0, λ more. goes more ∙ t.1 more) in record { told = (new, now); taken = now }

    fits_end : (v : Value) (used : ℕ) → Takes (Ok (Some (v, used))) → Fits (after (progress.Done v)) (bytes ++ piece) (length bytes) (Ok (fed.Done used))
    unfolding HasTaken
    fits_end v used t =
        let now : HasCome (after (progress.Done v)) (bytes ++ piece) (progress.Done v) = (drop used piece, λ more. goes more ∙ t.1 more) in
        record { told = (v, now, refl, omega (arith, t.0, length-append bytes piece, length-drop used piece)); taken = now }

    stops : (e : DecodeFault) → Takes (Err e) → HasCome (after (progress.Stopped e)) (bytes ++ piece) (progress.Stopped e)
    stops (fault.Refused place cause) t = (t.0, λ more. goes more ∙ t.1 more)
    stops fault.ReadFault t = t
    stops fault.Memory t = tt

    fits_err : (e : DecodeFault) → Takes (Err e) → Fits (after (progress.Stopped e)) (bytes ++ piece) (length bytes) (Err e)
    unfolding HasTaken
    fits_err e t = let now = stops e t in record { told = now; taken = now }

-- ---- what a piece does

-- a decoder that goes on is in order
pub in_order : (d : DecoderView) (r : Reading) → IsDecoder d → d.progress ≡ progress.Reading r → IsInOrder d.plan r
in_order d r good is = (come d good.taken.0 [] is good.taken.1).0

-- of the same decoder
pub feeds_same : (d e new : DecoderView) (piece : List ℕ) (r : Result Fed DecodeFault) → d ≡ e → Feeds d new piece r → Feeds e new piece r
feeds_same d e new piece r is f = subst (λ (z : DecoderView). Feeds z new piece r) is f

-- it is a decoder again
pub still_decoder : (d new : DecoderView) (piece : List ℕ) (r : Result Fed DecodeFault) → IsDecoder d → Feeds d new piece r → IsDecoder new
still_decoder d new piece r good f = record {
  sound = subst IsPlan (sym f.plan) good.sound;
  root = subst (λ (p : PlanView). new.root < p.roots) (sym f.plan) (subst (λ (k : ℕ). k < d.plan.roots) (sym f.root) good.root);
  taken = (good.taken.0 ++ piece, f.taken good.taken.0 good.taken.1);
}

module _ (d new : DecoderView) (piece : List ℕ) (r : Result Fed DecodeFault) (good : IsDecoder d) (plan : new.plan ≡ d.plan) (root : new.root ≡ d.root) (fits : (bytes : List ℕ) → HasTaken d bytes → Fits new (bytes ++ piece) (length bytes) r) where
  as_new : (bytes : List ℕ) (x : Read ValueView) → reads_all d bytes ≡ x → reads_all new bytes ≡ x
  as_new bytes x e = ap (λ (p : PlanView). value_at p.schema.decls MAX_LEVELS (type_in p new.root) (spot 0 bytes)) plan ∙ ap (λ (k : ℕ). value_at d.plan.schema.decls MAX_LEVELS (type_in d.plan k) (spot 0 bytes)) root ∙ e

  -- what was answered, after some bytes that were taken
  told_of : {s : Result Fed DecodeFault} → r ≡ s → Told new (good.taken.0 ++ piece) (length good.taken.0) s
  told_of e = subst (Told new (good.taken.0 ++ piece) (length good.taken.0)) e (fits good.taken.0 good.taken.1).told

  feeds : (0 < length piece → r ≡ Ok fed.More → pieces_left new < pieces_left d) → IfErr r (λ e. stopped new ≡ Some e) → ((e : DecodeFault) → stopped d ≡ Some e → r ≡ Err e) → Feeds d new piece r
  feeds less stays again = record {
    plan = plan;
    root = root;
    taken = λ bytes h. (fits bytes h).taken;
    spelled = λ bytes h T is v x rest split s deep.
        gives_end new (bytes ++ piece) (length bytes) r (fits bytes h).told v x rest (moved 0 (length x)) split (as_new (bytes ++ piece) _ (spelled_reads d good.sound T is (bytes ++ piece) v x rest split s deep));
    refused = λ bytes h T is offset cause other s.
        gives_refusal new (bytes ++ piece) (length bytes) r (fits bytes h).told (moved 0 offset) cause other (as_new (bytes ++ piece) _ (refused_reads d good.sound T is (bytes ++ piece) offset cause s));
    cut_off = λ bytes h T is offset s. gives_more new (bytes ++ piece) (length bytes) r (fits bytes h).told (moved 0 offset) (as_new (bytes ++ piece) _ (refused_reads d good.sound T is (bytes ++ piece) offset Truncated s));
    done = λ used e. let t = told_of e in (view t.0, (t.0, t.2, refl));
    unread = λ e. told_of e;
    less = less;
    fault = stays;
    again = again;
  }

module _ (d : DecoderView) (piece : List ℕ) (good : IsDecoder d) where
  -- one that has stopped
  pub feeds_stopped : (e : DecodeFault) → d.progress ≡ progress.Stopped e → Feeds d (record d { progress = progress.Stopped e }) piece (Err e)
  feeds_stopped e is =
      subst (λ (now : Progress). Feeds d (record d { progress = now }) piece (Err e)) is
      (feeds d d piece (Err e) good refl refl (λ bytes h. fits_stopped d bytes piece e is h) (λ some more. absurd cc) (ap stopped_by is) (λ f other. ap Err (same (sym (ap stopped_by is) ∙ other))))
    where
      same : {f : DecodeFault} → ◌≡◌ {A = Option DecodeFault} (Some e) (Some f) → e ≡ f
      same s = cc

  -- one that is done
  pub feeds_done : (v : Value) → d.progress ≡ progress.Done v → Feeds d d piece (Ok (fed.Done 0))
  feeds_done v is = feeds d d piece (Ok (fed.Done 0)) good refl refl (λ bytes h. fits_done d bytes piece v is h) (λ some more. absurd cc) tt (λ f other. never (sym (ap stopped_by is) ∙ other))
    where
      never : {P : Type 0} {f : DecodeFault} → ◌≡◌ {A = Option DecodeFault} None (Some f) → P
      never s = absurd cc

  -- one that goes on
  module _ (r : Reading) (is : d.progress ≡ progress.Reading r) (new : Reading) (at : ℕ) where
    abbrev then : Progress → DecoderView
    then now = record { plan = d.plan; root = d.root; progress = now; at = at }

    abbrev Taken : Result (Option (Value × ℕ)) DecodeFault → Type 0
    Taken s = TakesPiece d.plan (reads_on d.plan r d.at) piece new at s

    never_stopped : {P : Type 0} {f : DecodeFault} → stopped d ≡ Some f → P
    never_stopped other = absurd (no_fault (sym (ap stopped_by is) ∙ other))
      where
        no_fault : {f : DecodeFault} → ◌≡◌ {A = Option DecodeFault} None (Some f) → ⊥
        no_fault s = cc

    less_left : (0 < length piece → piece_work d.plan new < piece_work d.plan r) → 0 < length piece → pieces_left (then (progress.Reading new)) < pieces_left d
    unfolding pieces_left
    less_left less some = subst (λ (now : Progress). piece_work d.plan new < work_left d.plan now) (sym is) (less some)

    pub feeds_more : Taken (Ok None) → (0 < length piece → piece_work d.plan new < piece_work d.plan r) → Feeds d (then (progress.Reading new)) piece (Ok fed.More)
    feeds_more t less = feeds d (then (progress.Reading new)) piece (Ok fed.More) good refl refl (λ bytes h. fits_more d bytes piece r is h new at t) (λ some e. less_left less some) tt (λ f other. never_stopped other)

    pub feeds_end : (v : Value) (used : ℕ) → Taken (Ok (Some (v, used))) → Feeds d (then (progress.Done v)) piece (Ok (fed.Done used))
    feeds_end v used t = feeds d (then (progress.Done v)) piece (Ok (fed.Done used)) good refl refl (λ bytes h. fits_end d bytes piece r is h new at v used t) (λ some e. absurd cc) tt (λ f other. never_stopped other)

    pub feeds_err : (e : DecodeFault) → Taken (Err e) → Feeds d (then (progress.Stopped e)) piece (Err e)
    feeds_err e t = feeds d (then (progress.Stopped e)) piece (Err e) good refl refl (λ bytes h. fits_err d bytes piece r is h new at e t) (λ some e. absurd cc) refl (λ f other. never_stopped other)

-- ---- where the input ends

pub says_ended : (d : DecoderView) (good : IsPlan d.plan) (bytes : List ℕ) → HasTaken d bytes → (T : Shape) → IsInstance d.plan d.root T → (offset : ℕ) → Refused d.plan.schema MAX_LEVELS T bytes offset Truncated → stopped d ≢ Some fault.Memory → d.at ≡ moved 0 offset
unfolding HasTaken
says_ended d good bytes h T is offset s other = ends_at d bytes d.progress h (moved 0 offset) (refused_reads d good T is bytes offset Truncated s) other

pub says_value_ended : (d : DecoderView) (good : IsPlan d.plan) (bytes : List ℕ) → HasTaken d bytes → (T : Shape) → IsInstance d.plan d.root T → (v : ValueView) (x rest : List ℕ) → bytes ≡ x ++ rest → Spells d.plan.schema T v x → depth v ≤ MAX_LEVELS
    → stopped d ≢ Some fault.Memory → d.at ≡ moved 0 (length x)
unfolding HasTaken
says_value_ended d good bytes h T is v x rest split s deep other = value_ends_at d bytes d.progress h v (moved 0 (length x)) rest (spelled_reads d good T is bytes v x rest split s deep) other

-- ---- a refusal stays

refused_all : (d : DecoderView) → IsPlan d.plan → (all : List ℕ) → AreBytes all → (T : Shape) → IsInstance d.plan d.root T → IsFormed d.plan.schema T → (place : ℕ) (cause : Cause) → reads_all d all ≡ Err (place, cause)
    → (offset : ℕ) × Refused d.plan.schema MAX_LEVELS T all offset cause × (place ≡ moved 0 offset)
refused_all d good all are T is formed place cause e = elim (exactly_one d.plan.schema good.schema MAX_LEVELS T all formed are).either [
  | inl (v, x, (rest, split, spells, deep)) ↦ never_err (sym e ∙ spelled_reads d good T is all v x rest split spells deep)
  | inr (offset, why, r) ↦ (let same = same_err (sym e ∙ refused_reads d good T is all offset why r) in (offset, subst (Refused d.plan.schema MAX_LEVELS T all offset) (sym same.1) r, same.0))
]

refusal_stays : (d : DecoderView) (bytes more : List ℕ) (place : ℕ) (cause : Cause) (now : Progress) → HasCome d bytes now → stopped_by now ≡ Some (fault.Refused place cause) → reads_all d (bytes ++ more) ≡ Err (place, cause)
refusal_stays d bytes more place cause (progress.Reading r) h e = absurd cc
refusal_stays d bytes more place cause (progress.Done v) h e = absurd cc
refusal_stays d bytes more place cause (progress.Stopped f) h e = (subst (λ (g : DecodeFault). HasCome d bytes (progress.Stopped g)) (same e) h).1 more
  where
    same : ◌≡◌ {A = Option DecodeFault} (Some f) (Some (fault.Refused place cause)) → f ≡ fault.Refused place cause
    same e = cc

pub each_refusal_stays : EachRefusalStays
unfolding HasTaken
each_refusal_stays d good bytes more are h T is formed place cause stopped =
    refused_all d good (bytes ++ more) are T is formed place cause (refusal_stays d bytes more place cause d.progress h stopped)
