-- What is told of a session that ended, or a beginning of that.
use Rattle.std.proofs.Common.{◌≡◌, inl, inr, ℕ, ◌+◌, ◌<◌, List, [], ◌∷◌, ◌++◌, length, append-nil, Bool, true, false, true≢false, Option, Some, None, Result, Ok, Err, refl, sym, ap, ◌∙◌, subst, arith}
use Rattle.tl_base.specs.declared.host.Out.TheVariants as outs
use Rattle.box_server.specs.Servers.{ServerState}
use Rattle.outside.specs.Answer.{link_fault_line, write_fault_line}
use Rattle.outside.specs.Kept.{AddsPrefix}
use Rattle.outside.specs.declared.status.Status.{Status}
use Rattle.outside.specs.declared.status.Status.TheVariants as statuses
use Rattle.outside.specs.Events.{Event, Outside}
use Rattle.outside.specs.Pieces.{Tells, Writes}
use Rattle.outside.specs.Steps.{Ends, Then}
use Rattle.outside.proofs.Causing.{happened_first, happened_last, unwritten}
use Rattle.outside.specs.Laws.{IsFailure}
use Rattle.tl_base.specs.declared.counts.Kind.TheVariants as kinds
use Rattle.outside.specs.Fits.{Fits}
use Rattle.outside.specs.Reliable.{IsReliable}
use Rattle.outside.proofs.Fitting.{fits_both, writes_append, writes_fail_full}
use Rattle.update_sessions.specs.declared.fault.SessionFault.{SessionFault}
use Rattle.session_commands.specs.Lines.{served_line}
use Rattle.session_commands.specs.Serve.{SessionEnd, served, peer_fault, link_fault, end_by, end_of, end_errors, end_output, end_status, first_fault}
use Rattle.session_commands.specs.SessionEnds.{session_line}
use Rattle.session_commands.specs.inner.Serving.{GoesOn}
use Rattle.session_rooms.proofs.LeftViews.{beside}
use Rattle.serve_rooms.specs.Acts.{Act, events_in}
use Rattle.serve_rooms.specs.Answering.{over}
use Rattle.serve_rooms.specs.Doing.{Hosted}
use Rattle.serve_rooms.specs.Sessions.{Next, more, no_more, after_telling, after_session}
use Rattle.serve_rooms.specs.Telling.{Told, goes_on, is_over, TellsLine, TellsFault, after_line, fault_told, TellsEnd}
use Rattle.serve_rooms.specs.declared.status.KeptStatus.TheVariants.{Run}
use Rattle.serve_rooms.specs.declared.telling.Tally.{Tally}
use Rattle.run_laws.specs.Ended.{ErrorsFailed, IsUntold, WriteFailed}
use Rattle.run_laws.proofs.Untold.{unwritten_errors}
use Rattle.run_laws.proofs.serving.Beginnings.{Seam, within, past, hosted_both, hosted_events, nothing_after, nothing_follows, seam, some_more}
use Rattle.run_laws.proofs.serving.Lines.{LineSo, OnErrors, OnOutput, all_added, errors_of, lined, none_added, nothing_on, on_errors, on_output, output_of, so_prefix, writes_begun}

-- ---- a line on Errors, where all before it stand there whole

-- a prefix of the line was added, where all before it stand there whole
abbrev pub SomeOf : Bool → List ℕ → List ℕ → List ℕ → Type 0
SomeOf true old new line = AddsPrefix old new line
SomeOf false old new line = new ≡ old

pub some_none : (whole : Bool) (old new line : List ℕ) → new ≡ old → SomeOf whole old new line
some_none true old new line is = none_added old new line is
some_none false old new line is = is

lines_some : (before after : Bool) (old new line : List ℕ) → GoesOn before after old new line → SomeOf before old new line
lines_some true true old new line h = all_added old new line h
lines_some true false old new line h = h
lines_some false true old new line h = absurd h
lines_some false false old new line h = h

data Lines (before after : Bool) (line : List ℕ) (t u : List Event) (a b : Outside) : Type 0 where
  whole_line : u ≡ [] → GoesOn before after (errors_of a) (errors_of b) line → (before ≡ true → after ≡ false → ErrorsFailed t) → Lines before after line t u a b
  part_line : 0 < length u → SomeOf before (errors_of a) (errors_of b) line → Lines before after line t u a b

record Lined (before after : Bool) (line : List ℕ) (t u : List Event) (a b : Outside) : Type 0 where
  on : OnErrors a b
  lines : Lines before after line t u a b

true_lines : (after : Bool) (line : List ℕ) (t u : List Event) (a b : Outside) → Writes outs.Errors line (t ++ u) after → Fits t a b → Lines true after line t u a b
true_lines true line t [] a b h f = whole_line refl (writes_append outs.Errors line t a b (subst (λ (l : List Event). Writes outs.Errors line l true) (append-nil t) h) f) (λ _ is. absurd (true≢false is))
true_lines false line t [] a b h f = whole_line refl (writes_begun outs.Errors line t [] false a b h f) (λ _ _. unwritten_errors line t (subst (λ (l : List Event). Writes outs.Errors line l false) (append-nil t) h))
true_lines after line t (e ∷ u) a b h f = part_line (omega arith) (writes_begun outs.Errors line t (e ∷ u) after a b h f)

line_told : (before after : Bool) (line : List ℕ) (t u : List Event) (a b : Outside) → TellsLine before line (t ++ u) after → Fits t a b → Lined before after line t u a b
line_told true after line t u a b h f = record { on = on_errors line t u after a b h f; lines = true_lines after line t u a b h f }
line_told false after line t u a b h f =
    let stays : b ≡ a = subst (λ (l : List Event). Fits l a b) (nothing_follows t u h.0) f in
    record {
      on = nothing_on a b stays;
      lines = whole_line (nothing_after t u h.0) (subst (λ (c : Bool). GoesOn false c (errors_of a) (errors_of b) line) (sym h.1) (ap errors_of stays)) (λ is. absurd (true≢false (sym is)));
    }

pub lines_prefix : (before after : Bool) (old new line : List ℕ) → GoesOn before after old new line → AddsPrefix old new line
lines_prefix true true old new line h = all_added old new line h
lines_prefix true false old new line h = h
lines_prefix false true old new line h = absurd h
lines_prefix false false old new line h = none_added old new line h

-- ---- how a session's end is told

pub record Says (number : ℕ) (e : SessionEnd) (tally later : Tally) (E : Type 0) (a b : Outside) : Type 0 where
  pub status : later.status ≡ first_fault tally.status (end_status e)
  pub output : output_of b ≡ output_of a ++ end_output number e
  pub lines : GoesOn tally.whole later.whole (errors_of a) (errors_of b) (end_errors e)
  pub torn : tally.whole ≡ true → later.whole ≡ false → E
  pub rest : beside b.view ≡ beside a.view

-- the line on Output wasn't written whole, and then that is told
pub record Unwritten (number n : ℕ) (done some W E : Type 0) (a b : Outside) : Type 0 where
  pub stopped : Outside
  pub failed : W
  pub output : AddsPrefix (output_of a) (output_of stopped) (served_line number n)
  pub on : OnOutput a stopped
  pub full : IsReliable a → a.view.room < length (output_of a) + length (served_line number n)
  pub after : OnErrors stopped b
  pub line_is : LineSo done some E write_fault_line stopped b

-- All was told, and others may come; a part of it, and more is to come; or the line wasn't written.
pub data EndTold {R : Type 0} (on : Tally → R) (over_by : Status → R) (number : ℕ) (e : SessionEnd) (tally : Tally) (W E none some : Type 0) (r : R) (a b : Outside) : Type 0 where
  told_all : (later : Tally) → none → r ≡ on later → Says number e tally later E a b → EndTold on over_by number e tally W E none some r a b
  told_some : some → AddsPrefix (output_of a) (output_of b) (end_output number e) → SomeOf tally.whole (errors_of a) (errors_of b) (end_errors e) → EndTold on over_by number e tally W E none some r a b
  unwritten_by : (n : ℕ) → e ≡ served n → Unwritten number n (none × (r ≡ over_by statuses.WriteFault)) some W E a b → EndTold on over_by number e tally W E none some r a b

first_done : (s : Status) → s ≡ first_fault s statuses.Done
first_done statuses.Done = refl
first_done statuses.Refused = refl
first_done statuses.Usage = refl
first_done statuses.ReadFault = refl
first_done statuses.WriteFault = refl
first_done statuses.Memory = refl
first_done statuses.LinkFault = refl
first_done statuses.PeerFault = refl

goes_nowhere : (whole : Bool) (old new : List ℕ) → new ≡ old → GoesOn whole whole old new []
goes_nowhere true old new is = is ∙ sym (append-nil old)
goes_nowhere false old new is = is

not_torn : (whole : Bool) (W : Type 0) → whole ≡ true → whole ≡ false → W
not_torn whole W is not = absurd (true≢false (sym is ∙ not))

module _ (number : ℕ) (tally : Tally) (t u : List Event) (r : Told) (a b : Outside) (f : Fits t a b) where
  abbrev pub TellsOf : SessionEnd → Type 0
  TellsOf e = EndTold goes_on is_over number e tally (WriteFailed t) (ErrorsFailed t) (u ≡ []) (0 < length u) r a b

  -- a fault
  fault_lines : (e : SessionEnd) (line : List ℕ) (status : Status) (after : Bool) → end_status e ≡ status → end_errors e ≡ line → end_output number e ≡ [] → r ≡ goes_on (record { status = first_fault tally.status status; whole = after }) → Lined tally.whole after line t u a b → TellsOf e
  fault_lines e line status after is says silent ends l =
      let same : output_of b ≡ output_of a ++ end_output number e = l.on.output ∙ sym (ap (λ (x : List ℕ). output_of a ++ x) silent ∙ append-nil (output_of a)) in
      elim l.lines as (λ z. TellsOf e) [
        | whole_line none lines torn ↦ told_all (record { status = first_fault tally.status status; whole = after }) none ends (record {
          status = ap (first_fault tally.status) (sym is);
          output = same;
          lines = subst (GoesOn tally.whole after (errors_of a) (errors_of b)) (sym says) lines;
          torn = torn;
          rest = l.on.rest;
        })
        | part_line follows prefix ↦ told_some follows (all_added (output_of a) (output_of b) (end_output number e) same) (subst (SomeOf tally.whole (errors_of a) (errors_of b)) (sym says) prefix)
      ]

  fault_ends : (e : SessionEnd) (line : List ℕ) (status : Status) → end_status e ≡ status → end_errors e ≡ line → end_output number e ≡ [] → TellsFault tally line status (t ++ u) r → TellsOf e
  fault_ends e line status is says silent h =
      let tells : TellsLine tally.whole line (t ++ u) h.between = subst (λ (l : List Event). TellsLine tally.whole line l h.between) (sym (h.splits ∙ ap (λ (l : List Event). h.first ++ l) h.goes.0 ∙ append-nil h.first)) h.does in
      fault_lines e line status h.between is says silent h.goes.1 (line_told tally.whole h.between line t u a b tells f)

  -- a fault, by its line
  fault_ends_by : (line : Option (List ℕ)) → fault_told tally line (t ++ u) r → TellsOf (end_by line)
  fault_ends_by (Some line) h = fault_ends (peer_fault line) line statuses.PeerFault refl refl refl h
  fault_ends_by None h = fault_ends link_fault link_fault_line statuses.LinkFault refl refl refl h

  -- the line of a session without a fault
  module _ (n : ℕ) where
    abbrev line : List ℕ
    line = served_line number n

    begun_line : (m : List Event) (ok : Bool) → 0 < length u → Writes outs.Output line (t ++ m) ok → TellsOf (served n)
    begun_line m ok some h =
        let on = on_output line t m ok a b h f in
        told_some some (writes_begun outs.Output line t m ok a b h f) (some_none tally.whole (errors_of a) (errors_of b) [] on.errors)

    written_line : t ++ u ≡ t → Writes outs.Output line t true → u ≡ [] → r ≡ goes_on tally → TellsOf (served n)
    written_line same h none is =
        let on = on_output line t [] true a b (subst (λ (l : List Event). Writes outs.Output line l true) (sym (append-nil t)) h) f in
        told_all tally none is (record {
          status = first_done tally.status;
          output = writes_append outs.Output line t a b h f;
          lines = goes_nowhere tally.whole (errors_of a) (errors_of b) on.errors;
          torn = not_torn tally.whole (ErrorsFailed t);
          rest = on.rest;
        })

    unwritten_line : (first m : List Event) → t ≡ first ++ m → Writes outs.Output line first false → Then (Tells write_fault_line statuses.WriteFault) (λ status. Ends (is_over status)) (m ++ u) r → TellsOf (served n)
    unwritten_line first m is h goes =
        let parts = fits_both first m a b (subst (λ (l : List Event). Fits l a b) is f) in
        let k = parts.0 in
        let first_nil : Writes outs.Output line (first ++ []) false = subst (λ (l : List Event). Writes outs.Output line l false) (sym (append-nil first)) h in
        let tells : Tells write_fault_line statuses.WriteFault (m ++ u) goes.between = subst (λ (l : List Event). Tells write_fault_line statuses.WriteFault l goes.between) (sym (goes.splits ∙ ap (λ (l : List Event). goes.first ++ l) goes.goes.0 ∙ append-nil goes.first)) goes.does in
        let l = lined write_fault_line statuses.WriteFault m u goes.between k b tells parts.2 in
        let ends : r ≡ is_over statuses.WriteFault = goes.goes.1 ∙ ap is_over l.status_is in
        let later : ErrorsFailed m → ErrorsFailed t = λ w. subst ErrorsFailed (sym is) (happened_last IsUntold first m w) in
        unwritten_by n refl (record {
          stopped = k;
          failed = subst WriteFailed (sym is) (happened_first (IsFailure kinds.Writes) first m (unwritten outs.Output line first h));
          output = writes_begun outs.Output line first [] false a k first_nil parts.1;
          on = on_output line first [] false a k first_nil parts.1;
          full = λ reliable. writes_fail_full outs.Output line first a k h parts.1 reliable;
          after = l.on;
          line_is = elim l.line_is as (λ z. LineSo ((u ≡ []) × (r ≡ is_over statuses.WriteFault)) (0 < length u) (ErrorsFailed t) write_fault_line k b) [
            | inl (none, inl whole) ↦ inl ((none, ends), inl whole)
            | inl (none, inr (failed, prefix)) ↦ inl ((none, ends), inr (later failed, prefix))
            | inr (some, prefix) ↦ inr (some, prefix)
          ];
        })

    past_line : (ok : Bool) (first m : List Event) → t ≡ first ++ m → Writes outs.Output line first ok → after_line tally ok (m ++ u) r → TellsOf (served n)
    past_line true first m is h goes =
        let none : m ≡ [] = nothing_follows m u goes.0 in
        let all : first ≡ t = sym (is ∙ ap (λ (l : List Event). first ++ l) none ∙ append-nil first) in
        let last : u ≡ [] = nothing_after m u goes.0 in
        written_line (ap (λ (l : List Event). t ++ l) last ∙ append-nil t) (subst (λ (l : List Event). Writes outs.Output line l true) all h) last goes.1
    past_line false first m is h goes = unwritten_line first m is h goes

    served_at : (h : TellsEnd number tally (Ok n) (t ++ u) r) → Seam t u h.first h.rest → TellsOf (served n)
    served_at h (within m is at some) = begun_line m h.between (some_more u m h.rest at some) (subst (λ (l : List Event). Writes outs.Output line l h.between) is h.does)
    served_at h (past m is at) = past_line h.between h.first m is h.does (subst (λ (l : List Event). after_line tally h.between l r) at h.goes)

    served_ends : TellsEnd number tally (Ok n) (t ++ u) r → TellsOf (served n)
    served_ends h = served_at h (seam t u h.first h.rest h.splits)

  pub tells_end : (end : Result ℕ SessionFault) → TellsEnd number tally end (t ++ u) r → TellsOf (end_of end)
  tells_end (Ok n) h = served_ends n h
  tells_end (Err fault) h = fault_ends_by (session_line fault) h

-- ---- likewise of acts, after which the next session may come

module _ (number : ℕ) (tally : Tally) (x : ServerState) (end : Result ℕ SessionFault) (t u : List Act) (r : Next) (a b : Outside) (f : Fits (events_in t) a b) where
  abbrev e : SessionEnd
  e = end_of end

  abbrev pub TellsNext : Type 0
  TellsNext = EndTold (λ later. more x later) (λ status. no_more (Run status)) number e tally (WriteFailed (events_in t)) (ErrorsFailed (events_in t)) (u ≡ []) (0 < length u) r a b

  next_is : (q : Told) (v : List Act) → after_telling x q v r → (v ≡ []) × ((later : Tally) → q ≡ goes_on later → r ≡ more x later) × ((status : Status) → q ≡ is_over status → r ≡ no_more (Run status))
  next_is (goes_on tally) v h = (h.0, λ later is. h.1 ∙ (let same : tally ≡ later = cc in ap (λ (y : Tally). more x y) same), λ status is. absurd cc)
  next_is (is_over status) v h = (h.0, λ later is. absurd cc, λ given is. h.1 ∙ (let same : status ≡ given = cc in ap (λ (y : Status). no_more (Run y)) same))

  told_begun : (q : Told) (m : List Act) → 0 < length u → Hosted (TellsEnd number tally end) (t ++ m) q → TellsNext
  told_begun q m some h =
      elim (tells_end number tally (events_in t) (events_in m) q a b f end (hosted_both (TellsEnd number tally end) t m q h)) as (λ z. TellsNext) [
        | told_all later none is says ↦ told_some some (all_added (output_of a) (output_of b) (end_output number e) says.output) (lines_some tally.whole later.whole (errors_of a) (errors_of b) (end_errors e) says.lines)
        | told_some follows output errors ↦ told_some some output errors
        | unwritten_by n is w ↦ unwritten_by n is (record {
          stopped = w.stopped;
          failed = w.failed;
          output = w.output;
          on = w.on;
          full = w.full;
          after = w.after;
          line_is = inr (some, so_prefix ((events_in m ≡ []) × (q ≡ is_over statuses.WriteFault)) (0 < length (events_in m)) (ErrorsFailed (events_in t)) write_fault_line w.stopped b w.line_is);
        })
      ]

  told_whole : (q : Told) (v : List Act) → u ≡ [] → Hosted (TellsEnd number tally end) t q → after_telling x q v r → TellsNext
  told_whole q v none (events, at, h) goes =
      let same : events ≡ events_in t = sym (hosted_events t events at) in
      let tells : TellsEnd number tally end (events_in t ++ []) q = subst (λ (l : List Event). TellsEnd number tally end l q) (same ∙ sym (append-nil (events_in t))) h in
      let ends = next_is q v goes in
      elim (tells_end number tally (events_in t) [] q a b f end tells) as (λ z. TellsNext) [
        | told_all later last is says ↦ told_all later none (ends.1 later is) says
        | told_some follows output errors ↦ absurd (omega (arith, follows))
        | unwritten_by n is w ↦ unwritten_by n is (record {
          stopped = w.stopped;
          failed = w.failed;
          output = w.output;
          on = w.on;
          full = w.full;
          after = w.after;
          line_is = elim w.line_is as (λ z. LineSo ((u ≡ []) × (r ≡ no_more (Run statuses.WriteFault))) (0 < length u) (ErrorsFailed (events_in t)) write_fault_line w.stopped b) [
            | inl ((last, over_is), tells_it) ↦ inl ((none, ends.2 statuses.WriteFault over_is), tells_it)
            | inr (follows, prefix) ↦ absurd (omega (arith, follows))
          ];
        })
      ]

  next_at : (h : after_session number tally (over x end) (t ++ u) r) → Seam t u h.first h.rest → TellsNext
  next_at h (within m is at some) = told_begun h.between m (some_more u m h.rest at some) (subst (λ (l : List Act). Hosted (TellsEnd number tally end) l h.between) is h.does)
  next_at h (past m is at) =
      let none : m ++ u ≡ [] = sym at ∙ (next_is h.between h.rest h.goes).0 in
      let all : h.first ≡ t = sym (is ∙ ap (λ (l : List Act). h.first ++ l) (nothing_follows m u none) ∙ append-nil h.first) in
      told_whole h.between h.rest (nothing_after m u none) (subst (λ (l : List Act). Hosted (TellsEnd number tally end) l h.between) all h.does) h.goes

  pub next_told : after_session number tally (over x end) (t ++ u) r → TellsNext
  next_told h = next_at h (seam t u h.first h.rest h.splits)
