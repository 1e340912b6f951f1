-- All sessions of a run, or a beginning of them: how far they came, and what stopped them.
use Rattle.std.proofs.Common.{◌≡◌, ◌⊎◌, inl, inr, ℕ, suc, ◌+◌, ◌<◌, ◌≤◌, ltb, List, [], ◌∷◌, ◌++◌, length, append-nil, append_assoc, map, Bool, true, false, Some, Result, refl, sym, ap, ◌∙◌, subst, arith}
use Rattle.std.proofs.lemmas.Bool.{cases_lt, ltb-true, ltb-false}
use Rattle.std.proofs.lemmas.List.{length-append, length-drop}
use Rattle.tl_base.specs.Outside.{View}
use Rattle.box_server.specs.Servers.{ServerState}
use Rattle.box_server.specs.declared.entry.Entry.{Entry}
use Rattle.wire_profile.specs.Indexes.{ProfileView}
use Rattle.outside.specs.Answer.{link_fault_line, write_fault_line}
use Rattle.outside.specs.Kept.{AddsPrefix, Leaves}
use Rattle.outside.specs.declared.status.Status.TheVariants as statuses
use Rattle.outside.specs.Events.{Event, Outside, listened}
use Rattle.outside.specs.Laws.{Happened, Throughout}
use Rattle.outside.specs.Steps.{Turn, again, leave, Loops, Reaches, here, turn}
use Rattle.outside.proofs.Causing.{happened_first, happened_last}
use Rattle.outside.specs.Fits.{Fits}
use Rattle.outside.specs.Reliable.{IsReliable}
use Rattle.outside.proofs.Fitting.{fits_keeps, reliable_on}
use Rattle.update_sessions.specs.declared.fault.SessionFault.{SessionFault}
use Rattle.session_commands.specs.Lines.{served_line}
use Rattle.session_commands.specs.Serve.{served, IsAny, Sessions, Total, end_errors, end_output, end_of}
use Rattle.session_commands.specs.inner.Serving.{GoesOn}
use Rattle.session_rooms.proofs.LeftViews.{leaves_then}
use Rattle.serve_rooms.specs.Acts.{Act, hosted, events_in, IsKeeperFault}
use Rattle.serve_rooms.specs.Answering.{over}
use Rattle.serve_rooms.specs.ServedBytes.{added_in}
use Rattle.serve_rooms.specs.Sessions.{Next, more, no_more, keep_fault_line, after_telling, after_session, ServesNext, Serving, turn_of, serves_by, ServesOn, after_listen, ServesAll}
use Rattle.serve_rooms.specs.Telling.{Told, goes_on, is_over, new_tally}
use Rattle.serve_rooms.specs.declared.status.KeptStatus.{KeptStatus}
use Rattle.serve_rooms.specs.declared.status.KeptStatus.TheVariants.{Run, KeepFault}
use Rattle.serve_rooms.specs.declared.telling.Tally.{Tally}
use Rattle.serve_rooms.proofs.AnsweredBytes.{added_more, fits_hosted, fits_none, fits_parts, nothing_added}
use Rattle.run_laws.specs.Ended.{ErrorsFailed, LinkFailed, WriteFailed}
use Rattle.run_laws.proofs.serving.Beginnings.{LoopBegun, Seam, reached, turning, within, past, hosted_events, nothing_after, nothing_follows, reaches_begun, seam, some_more}
use Rattle.run_laws.proofs.serving.Connected.{Connected, Lost, NextCame, unheard, nobody, heard, broken_off, added_after, line_as, next_came}
use Rattle.run_laws.proofs.serving.Lines.{LineEnd, LineSo, added_after as prefix_after, all_added, errors_of, line_end, longer, output_of, so_prefix}
use Rattle.run_laws.proofs.serving.LinkCauses.{errors_last, link_first, link_last, write_last}
use Rattle.run_laws.proofs.serving.Quiet.{IsQuiet, Silent, begun_quiet}
use Rattle.run_laws.proofs.serving.SoFar.{SoFar, Untold, WholeOr, none_yet, one_over, one_told, so_far, whole_later}
use Rattle.run_laws.proofs.serving.ToldLines.{Says, SomeOf, some_none, Unwritten, told_all, told_some, unwritten_by, lines_prefix, next_told}

-- the telling of a session's end adds no entry
next_ends : (x : ServerState) (q : Told) (w : List Act) (r : Next) → after_telling x q w r → w ≡ []
next_ends x (goes_on tally) w r h = h.0
next_ends x (is_over status) w r h = h.0

pub end_adds : (number : ℕ) (tally : Tally) (x : ServerState) (end : Result ℕ SessionFault) (m u : List Act) (r : Next) → after_session number tally (over x end) (m ++ u) r → added_in m ≡ []
end_adds number tally x end m u r h =
    let all : added_in (m ++ u) ≡ [] = ap added_in h.splits ∙ added_more h.first h.rest ∙ ap (λ (l : List Entry). l ++ added_in h.rest) (nothing_added h.first h.does.0 h.does.1) ∙ ap added_in (next_ends x h.between h.rest r h.goes) in
    nothing_follows (added_in m) (added_in u) (sym (added_more m u) ∙ all)

-- what stands on Errors after these lines and a prefix of more
errors_on : (whole : Bool) (x y z l m : List ℕ) → GoesOn true whole x y l → SomeOf whole y z m → AddsPrefix x z (l ++ m)
errors_on true x y z l m h k = prefix_after x y z l m h k
errors_on false x y z l m h k = subst (λ (q : List ℕ). AddsPrefix x q (l ++ m)) (sym k) (longer x y (l ++ m) l m h refl)

module _ (p : ProfileView) (s : ServerState) (n : ℕ) (R : Type 0) (v : View) where
  -- what was written is a prefix of what so many sessions tell
  pub record Given (b : Outside) : Type 0 where
    pub number : ℕ
    pub few : number ≤ n
    pub total : Total
    pub sessions : Sessions IsAny p s v.links v.moments number total
    pub output : AddsPrefix v.written.output (output_of b) total.output
    pub errors : AddsPrefix v.written.errors (errors_of b) total.errors

  -- likewise, and it is known what they sent, and which entries were added
  pub record Stopped (t : List Act) (b : Outside) : Type 0 where
    pub number : ℕ
    pub few : number ≤ n
    pub total : Total
    pub sessions : Sessions IsAny p s v.links v.moments number total
    pub whole : WholeOr p s n R v number total t
    pub entries : added_in t ≡ total.entries
    pub output : AddsPrefix v.written.output (output_of b) total.output
    pub errors : AddsPrefix v.written.errors (errors_of b) total.errors
    pub leaves : Leaves (so_far number total) v b.view

  pub stopped_given : (t : List Act) (b : Outside) → Stopped t b → Given b
  stopped_given t b h = record { number = h.number; few = h.few; total = h.total; sessions = h.sessions; output = h.output; errors = h.errors }

  -- the keeper broke off the session with this number
  pub record KeeperLost (t : List Act) (j : Outside) : Type 0 where
    pub number : ℕ
    pub less : number < n
    pub server : ServerState
    pub tally : Tally
    pub first : List Act
    pub acts : List Act
    pub later : List Act
    pub started : Outside
    pub all : t ≡ (first ++ acts) ++ later
    pub so : SoFar p s n R v number server tally first started
    pub lost : Lost p server acts started j
    pub none : added_in later ≡ []

  pub keeper_happened : (t : List Act) (j : Outside) → KeeperLost t j → Happened IsKeeperFault t
  keeper_happened t j h = subst (Happened IsKeeperFault) (sym h.all) (happened_first IsKeeperFault (h.first ++ h.acts) h.later (happened_last IsKeeperFault h.first h.acts h.lost.fault))

  -- All were served; nobody could be taken; the line of one wasn't written; the keeper failed; or they are begun.
  pub data LoopCame (t u : List Act) (r : KeptStatus) (b : Outside) : Type 0 where
    served_all : (server : ServerState) (tally : Tally) → u ≡ [] → r ≡ Run tally.status → SoFar p s n R v n server tally t b → LoopCame t u r b
    unlinked : (m : Outside) → Stopped t m → LinkFailed (events_in t) → (R → length v.links < n) → LineEnd (ErrorsFailed (events_in t)) link_fault_line (Run statuses.LinkFault) u r m b → LoopCame t u r b
    unwritten : (m : Outside) (h : Stopped t m) → WriteFailed (events_in t) → (R → v.room < length v.written.output + length h.total.output) → LineEnd (ErrorsFailed (events_in t)) write_fault_line (Run statuses.WriteFault) u r m b → LoopCame t u r b
    unkept : (m : Outside) → KeeperLost t m → LineEnd (ErrorsFailed (events_in t)) keep_fault_line KeepFault u r m b → LoopCame t u r b
    begun : 0 < length u → Given b → LoopCame t u r b

  pub so_given : (k : ℕ) (server : ServerState) (tally : Tally) (t : List Act) (b : Outside) → k ≤ n → SoFar p s n R v k server tally t b → Given b
  so_given k server tally t b few so = record {
    number = k;
    few = few;
    total = so.total;
    sessions = so.sessions;
    output = all_added v.written.output (output_of b) so.total.output so.output;
    errors = lines_prefix true tally.whole v.written.errors (errors_of b) so.total.errors so.lines;
  }

  silent_given : (m b : Outside) → Silent m b → Given m → Given b
  silent_given m b same h = record {
    number = h.number;
    few = h.few;
    total = h.total;
    sessions = h.sessions;
    output = subst (λ (l : List ℕ). AddsPrefix v.written.output l h.total.output) (sym same.output) h.output;
    errors = subst (λ (l : List ℕ). AddsPrefix v.written.errors l h.total.errors) (sym same.errors) h.errors;
  }

  -- ---- one connection

  -- it is the last of what happened, or the end of all
  abbrev Follows : ℕ → List Act → Next → List Act → KeptStatus → Type 0
  Follows number w q u r = (0 < length u) ⊎ ((u ≡ []) × (w ≡ []) × (leave r ≡ turn_of number q))

  same_leave : (x y : KeptStatus) → ◌≡◌ {A = Turn Serving KeptStatus} (leave x) (leave y) → x ≡ y
  same_leave x y is = cc

  line_follows : (number : ℕ) (W : Type 0) (line : List ℕ) (x : KeptStatus) (w : List Act) (q : Next) (u : List Act) (r : KeptStatus) (m b : Outside) → Follows number w q u r → LineEnd W line (no_more x) w q m b → LineEnd W line x u r m b
  line_follows number W line x w q u r m b (inl some) h = record { on = h.on; line_is = inr (some, so_prefix ((w ≡ []) × (q ≡ no_more x)) (0 < length w) W line m b h.line_is) }
  line_follows number W line x w q u r m b (inr (none, last, is)) h = record {
    on = h.on;
    line_is = elim h.line_is as (λ z. LineSo ((u ≡ []) × (r ≡ x)) (0 < length u) W line m b) [
      | inl ((empty, ends), tells) ↦ inl ((none, same_leave r x (is ∙ ap (turn_of number) ends)), tells)
      | inr (follows, prefix) ↦ absurd (omega (arith, follows, ap length last))
    ];
  }

  module _ (k : ℕ) (less : k < n) (server : ServerState) (tally : Tally) (t first step w : List Act) (q : Next) (u : List Act) (r : KeptStatus) (m b : Outside) (splits : t ≡ first ++ step) (so : SoFar p s n R v k server tally first m) (f : Fits (events_in step) m b) (how : Follows k w q u r) where
    errors_lift : ErrorsFailed (events_in step) → ErrorsFailed (events_in t)
    errors_lift h = subst (λ (l : List Act). ErrorsFailed (events_in l)) (sym splits) (errors_last first step h)

    goes_begun : 0 < length w → Given b → LoopCame t u r b
    goes_begun some given = elim how as (λ z. LoopCame t u r b) [
      | inl follows ↦ begun follows given
      | inr (none, last, is) ↦ absurd (omega (arith, some, ap length last))
    ]

    -- nobody was taken
    nobody_stops : (j : Outside) → j.view ≡ m.view → added_in step ≡ [] → LinkFailed (events_in step) → (IsReliable m → length m.view.links ≡ 0) → LineEnd (ErrorsFailed (events_in step)) link_fault_line (no_more (Run statuses.LinkFault)) w q j b → LoopCame t u r b
    nobody_stops j view none failed empty line =
        unlinked j
        (record {
          number = k;
          few = omega (arith, less);
          total = so.total;
          sessions = so.sessions;
          whole = whole_later p s n R v k so.total t first step splits so.whole;
          entries = ap added_in splits ∙ added_more first step ∙ ap (λ (l : List Entry). added_in first ++ l) none ∙ append-nil (added_in first) ∙ so.entries;
          output = all_added v.written.output (output_of j) so.total.output (ap (λ (x : View). x.written.output) view ∙ so.output);
          errors = subst (λ (l : List ℕ). AddsPrefix v.written.errors l so.total.errors) (sym (ap (λ (x : View). x.written.errors) view)) (lines_prefix true tally.whole v.written.errors (errors_of m) so.total.errors so.lines);
          leaves = subst (λ (x : View). Leaves (so_far k so.total) v x) (sym view) so.leaves;
        })
        (subst (λ (l : List Act). LinkFailed (events_in l)) (sym splits) (link_last first step failed))
        (λ sound. omega (arith, less, empty (so.sound sound), ap length so.leaves.coming, length-drop k v.links))
        (line_as (ErrorsFailed (events_in step)) (ErrorsFailed (events_in t)) errors_lift link_fault_line (Run statuses.LinkFault) u r j b (line_follows k (ErrorsFailed (events_in step)) link_fault_line (Run statuses.LinkFault) w q u r j b how line))

    -- the session is over, and something of it is told
    module _ (acts rest : List Act) (x : ServerState) (end : Result ℕ SessionFault) (j : Outside) (parts : step ≡ acts ++ rest) (c : Connected p server acts x end m j) (fits : Fits (events_in acts) m j) (tells : Fits (events_in rest) j b) (goes : after_session k tally (over x end) (rest ++ w) q) where
      splits_so : t ≡ (first ++ acts) ++ rest
      splits_so = splits ∙ ap (λ (l : List Act). first ++ l) parts ∙ sym (append_assoc first acts rest)

      one : Untold p s n R v k x tally (end_of end) (first ++ acts) j
      one = one_over p s n R v k less server x tally end (first ++ acts) first acts m j refl so c fits

      adds_nothing : added_in rest ≡ []
      adds_nothing = end_adds k tally x end rest w q goes

      errors_lift_rest : ErrorsFailed (events_in rest) → ErrorsFailed (events_in t)
      errors_lift_rest h = subst (λ (l : List Act). ErrorsFailed (events_in l)) (sym splits_so) (errors_last (first ++ acts) rest h)

      next_all : (later : Tally) → w ≡ [] → q ≡ more x later → Says k (end_of end) tally later (ErrorsFailed (events_in rest)) j b → LoopCame t u r b
      next_all later last is says = elim how as (λ z. LoopCame t u r b) [
        | inl follows ↦ begun follows (so_given (suc k) x later t b (omega (arith, less)) (one_told p s n R v k x tally later (end_of end) t (first ++ acts) rest j b splits_so adds_nothing one says tells))
        | inr (none, empty, ends) ↦ absurd (let no : ◌≡◌ {A = Turn Serving KeptStatus} (leave r) (again (record { number = k + 1; server = x; tally = later })) = ends ∙ ap (turn_of k) is in cc)
      ]

      next_part : 0 < length w → AddsPrefix (output_of j) (output_of b) (end_output k (end_of end)) → SomeOf tally.whole (errors_of j) (errors_of b) (end_errors (end_of end)) → LoopCame t u r b
      next_part some output errors = goes_begun some (record {
        number = suc k;
        few = omega (arith, less);
        total = one.total;
        sessions = one.sessions;
        output = subst (AddsPrefix v.written.output (output_of b)) (sym one.output_is) (prefix_after v.written.output (output_of j) (output_of b) one.before.output (end_output k (end_of end)) one.output output);
        errors = subst (AddsPrefix v.written.errors (errors_of b)) (sym one.errors_is) (errors_on tally.whole v.written.errors (errors_of j) (errors_of b) one.before.errors (end_errors (end_of end)) one.lines errors);
      })

      next_unwritten : (i : ℕ) → (end_of end) ≡ served i → Unwritten k i ((w ≡ []) × (q ≡ no_more (Run statuses.WriteFault))) (0 < length w) (WriteFailed (events_in rest)) (ErrorsFailed (events_in rest)) j b → LoopCame t u r b
      next_unwritten i is h =
          let line = served_line k i in
          let y = h.stopped in
          let ends : end_output k (end_of end) ≡ line = ap (end_output k) is in
          let output : AddsPrefix v.written.output (output_of y) (one.before.output ++ end_output k (end_of end)) =
          prefix_after v.written.output (output_of j) (output_of y) one.before.output (end_output k (end_of end)) one.output (subst (AddsPrefix (output_of j) (output_of y)) (sym ends) h.output) in
          unwritten y
          (record {
            number = suc k;
            few = omega (arith, less);
            total = one.total;
            sessions = one.sessions;
            whole = whole_later p s n R v (suc k) one.total t (first ++ acts) rest splits_so one.whole;
            entries = ap added_in splits_so ∙ added_more (first ++ acts) rest ∙ ap (λ (l : List Entry). added_in (first ++ acts) ++ l) adds_nothing ∙ append-nil (added_in (first ++ acts)) ∙ one.entries;
            output = subst (AddsPrefix v.written.output (output_of y)) (sym one.output_is) output;
            errors = subst (AddsPrefix v.written.errors (errors_of y)) (sym one.errors_is) (errors_on tally.whole v.written.errors (errors_of j) (errors_of y) one.before.errors (end_errors (end_of end)) one.lines (some_none tally.whole (errors_of j) (errors_of y) (end_errors (end_of end)) h.on.errors));
            leaves = leaves_then (so_far (suc k) one.total) v j.view y.view one.leaves h.on.rest;
          })
          (subst (λ (l : List Act). WriteFailed (events_in l)) (sym splits_so) (write_last (first ++ acts) rest h.failed))
          (λ sound. omega (arith, h.full (one.sound sound), one.room, ap length one.output, length-append v.written.output one.before.output, ap length one.output_is, length-append one.before.output (end_output k (end_of end)), ap length ends))
          (line_as (ErrorsFailed (events_in rest)) (ErrorsFailed (events_in t)) errors_lift_rest write_fault_line (Run statuses.WriteFault) u r y b
          (line_follows k (ErrorsFailed (events_in rest)) write_fault_line (Run statuses.WriteFault) w q u r y b how (record { on = h.after; line_is = h.line_is })))

      heard_came : LoopCame t u r b
      heard_came = elim (next_told k tally x end rest w q j b tells goes) as (λ z. LoopCame t u r b) [
        | told_all later last is says ↦ next_all later last is says
        | told_some some output errors ↦ next_part some output errors
        | unwritten_by i is h ↦ next_unwritten i is h
      ]

    turn_came : NextCame p k server tally step w q m b → LoopCame t u r b
    turn_came (unheard some same) = goes_begun some (silent_given m b same (so_given k server tally first m (omega (arith, less)) so))
    turn_came (nobody j view none failed empty line) = nobody_stops j view none failed empty line
    turn_came (heard acts rest x end j parts c fits tells goes) = heard_came acts rest x end j parts c fits tells goes
    turn_came (broken_off acts rest j parts lost none line) =
        let all : t ≡ (first ++ acts) ++ rest = splits ∙ ap (λ (l : List Act). first ++ l) parts ∙ sym (append_assoc first acts rest) in
        unkept j (record { number = k; less = less; server = server; tally = tally; first = first; acts = acts; later = rest; started = m; all = all; so = so; lost = lost; none = none })
        (line_as (ErrorsFailed (events_in step)) (ErrorsFailed (events_in t)) errors_lift keep_fault_line KeepFault u r j b (line_follows k (ErrorsFailed (events_in step)) keep_fault_line KeepFault w q u r j b how line))

  -- ---- turns

  abbrev pub start : Serving
  start = record { number = 0; server = s; tally = new_tally }

  -- acts before the first session, and what they left
  module _ (before : List Act) (o : Outside) (view : o.view ≡ v) (sound : R → IsReliable o) (adds : added_in before ≡ []) where
    record Reached (x : Serving) (t : List Act) (b : Outside) : Type 0 where
      so : SoFar p s n R v x.number x.server x.tally (before ++ t) b
      few : x.number ≤ n

    again_is : (x y : Serving) → ◌≡◌ {A = Turn Serving KeptStatus} (again y) (again x) → x ≡ y
    again_is x y is = cc

    abbrev with_one : Serving → ServerState → Tally → Serving
    with_one x d later = record { number = x.number + 1; server = d; tally = later }

    reached_none : (x : Serving) (t : List Act) → t ≡ [] → x ≡ start → Reached x t o
    reached_none x t none is =
        let all : before ++ t ≡ before = ap (λ (l : List Act). before ++ l) none ∙ append-nil before in
        subst (λ (y : Serving). Reached y t o) (sym is) (record { so = subst (λ (l : List Act). SoFar p s n R v 0 s new_tally l o) (sym all) (none_yet p s n R v before o view sound adds); few = omega arith })

    -- one more session was served, and others come
    module _ (x y : Serving) (t first rest : List Act) (m b : Outside) (splits : t ≡ first ++ rest) (so : Reached x first m) (less : x.number < n) where
      all_splits : before ++ t ≡ (before ++ first) ++ rest
      all_splits = ap (λ (l : List Act). before ++ l) splits ∙ sym (append_assoc before first rest)

      told_on : (acts later_acts : List Act) (d : ServerState) (end : Result ℕ SessionFault) (later : Tally) (j : Outside) → rest ≡ acts ++ later_acts → (c : Connected p x.server acts d end m j) → Fits (events_in acts) m j → Fits (events_in later_acts) j b
          → added_in later_acts ≡ [] → Says x.number (end_of end) x.tally later (ErrorsFailed (events_in later_acts)) j b → Reached (with_one x d later) t b
      told_on acts later_acts d end later j parts c f g none says =
          let one = one_over p s n R v x.number less x.server d x.tally end ((before ++ first) ++ acts) (before ++ first) acts m j refl so.so c f in
          let all : before ++ t ≡ ((before ++ first) ++ acts) ++ later_acts = all_splits ∙ ap (λ (l : List Act). (before ++ first) ++ l) parts ∙ sym (append_assoc (before ++ first) acts later_acts) in
          let after = one_told p s n R v x.number d x.tally later (end_of end) (before ++ t) ((before ++ first) ++ acts) later_acts j b all none one says g in
          let number : suc x.number ≡ x.number + 1 = omega arith in
          record { so = subst (λ (i : ℕ). SoFar p s n R v i d later (before ++ t) b) number after; few = omega (arith, less) }

      next_on : (q : Next) → again y ≡ turn_of x.number q → NextCame p x.number x.server x.tally rest [] q m b → Reached y t b
      next_on q is (unheard some same) = absurd (omega (arith, some))
      next_on q is (nobody j view none failed empty line) = elim line.line_is as (λ z. Reached y t b) [
        | inl ((empty_now, ends), tells) ↦ absurd (let no : ◌≡◌ {A = Turn Serving KeptStatus} (again y) (leave (Run statuses.LinkFault)) = is ∙ ap (turn_of x.number) ends in cc)
        | inr (follows, prefix) ↦ absurd (omega (arith, follows))
      ]
      next_on q is (broken_off acts rest_acts j parts lost none line) = elim line.line_is as (λ z. Reached y t b) [
        | inl ((empty_now, ends), tells) ↦ absurd (let no : ◌≡◌ {A = Turn Serving KeptStatus} (again y) (leave KeepFault) = is ∙ ap (turn_of x.number) ends in cc)
        | inr (follows, prefix) ↦ absurd (omega (arith, follows))
      ]
      next_on q is (heard acts rest_acts d end j parts c fits tells goes) =
          elim (next_told x.number x.tally d end rest_acts [] q j b tells goes) as (λ z. Reached y t b) [
            | told_all later none ends says ↦
                (let same : with_one x d later ≡ y = again_is (with_one x d later) y (is ∙ ap (turn_of x.number) ends) in
                subst (λ (z : Serving). Reached z t b) same (told_on acts rest_acts d end later j parts c fits tells (end_adds x.number x.tally d end rest_acts [] q goes) says))
            | told_some some output errors ↦ absurd (omega (arith, some))
            | unwritten_by i served_is h ↦ elim h.line_is as (λ z. Reached y t b) [
              | inl ((empty_now, ends), tells_it) ↦ absurd (let no : ◌≡◌ {A = Turn Serving KeptStatus} (again y) (leave (Run statuses.WriteFault)) = is ∙ ap (turn_of x.number) ends in cc)
              | inr (follows, prefix) ↦ absurd (omega (arith, follows))
            ]
          ]

    turn_on : (x y : Serving) (goes : Bool) (t first rest : List Act) (m b : Outside) → t ≡ first ++ rest → ltb x.number n ≡ goes → Reached x first m → serves_by p goes x rest (again y) → Fits (events_in rest) m b → Reached y t b
    turn_on x y false t first rest m b splits is so h f = absurd (let no : ◌≡◌ {A = Turn Serving KeptStatus} (again y) (leave (Run x.tally.status)) = h.1 in cc)
    turn_on x y true t first rest m b splits is so h f =
        let step : rest ≡ h.first = h.splits ∙ ap (λ (l : List Act). h.first ++ l) h.goes.0 ∙ append-nil h.first in
        let serves : ServesNext p x.number x.server x.tally (rest ++ []) h.between = subst (λ (l : List Act). ServesNext p x.number x.server x.tally l h.between) (sym step ∙ sym (append-nil rest)) h.does in
        next_on x y t first rest m b splits so (ltb-true x.number n is) h.between h.goes.1 (next_came p x.number x.server x.tally rest [] h.between m b serves f)

    reaches : (t : List Act) (x : Serving) (b : Outside) → Reaches (ServesOn p n) start t x → Fits (events_in t) o b → Reached x t b
    reaches t x b (here _ _ empty is) f = subst (λ (z : Outside). Reached x t z) (sym (fits_none t o b (ap events_in empty) f)) (reached_none x t empty is)
    reaches t x b (turn _ first rest between _ splits earlier this) f =
        let parts = fits_parts t first rest o b splits f in
        turn_on between x (ltb between.number n) t first rest parts.0 b splits refl (reaches first between parts.0 earlier parts.1) this parts.2

    -- ---- how far they came

    module _ (t u : List Act) (r : KeptStatus) (b : Outside) where
      -- a turn was begun, and more is to come
      begun_turn : (x : Serving) (goes : Bool) (first step later : List Act) (m : Outside) (z : Turn Serving KeptStatus) → t ≡ first ++ step → ltb x.number n ≡ goes → Reached x first m → serves_by p goes x (step ++ later) z → Fits (events_in step) m b → 0 < length u → LoopCame (before ++ t) u r b
      begun_turn x false first step later m z splits is so h f some =
          let none : step ≡ [] = nothing_follows step later h.0 in
          let stays : b ≡ m = fits_none step m b (ap events_in none) f in
          begun some (subst Given (sym stays) (so_given x.number x.server x.tally (before ++ first) m so.few so.so))
      begun_turn x true first step later m z splits is so h f some = by_step h (seam step later h.first h.rest h.splits)
        where
          all : before ++ t ≡ (before ++ first) ++ step
          all = ap (λ (l : List Act). before ++ l) splits ∙ sym (append_assoc before first step)

          by_step : (h : serves_by p true x (step ++ later) z) → Seam step later h.first h.rest → LoopCame (before ++ t) u r b
          by_step h (within w at cut more_acts) =
              turn_came x.number (ltb-true x.number n is) x.server x.tally (before ++ t) (before ++ first) step w h.between u r m b all so.so f (inl some)
              (next_came p x.number x.server x.tally step w h.between m b (subst (λ (l : List Act). ServesNext p x.number x.server x.tally l h.between) at h.does) f)
          by_step h (past w at follows) =
              let none : w ≡ [] = nothing_follows w later (sym follows ∙ h.goes.0) in
              let same : h.first ≡ step ++ [] = sym (at ∙ ap (λ (l : List Act). h.first ++ l) none ∙ append-nil h.first) ∙ sym (append-nil step) in
              turn_came x.number (ltb-true x.number n is) x.server x.tally (before ++ t) (before ++ first) step [] h.between u r m b all so.so f (inl some)
              (next_came p x.number x.server x.tally step [] h.between m b (subst (λ (l : List Act). ServesNext p x.number x.server x.tally l h.between) same h.does) f)

      loop_begun : LoopBegun (ServesOn p n) start t → Fits (events_in t) o b → 0 < length u → LoopCame (before ++ t) u r b
      loop_begun (reached x turns) f some = let so = reaches t x b turns f in begun some (so_given x.number x.server x.tally (before ++ t) b so.few so.so)
      loop_begun (turning first step later x z is turns this) f some =
          let parts = fits_parts t first step o b is f in
          begun_turn x (ltb x.number n) first step later parts.0 z is refl (reaches first x parts.0 turns parts.1) this parts.2 some

      -- the last turn
      last_turn : (x : Serving) (goes : Bool) (first step : List Act) (m : Outside) → t ≡ first ++ step → ltb x.number n ≡ goes → Reached x first m → serves_by p goes x (step ++ u) (leave r) → Fits (events_in step) m b → LoopCame (before ++ t) u r b
      last_turn x false first step m splits is so h f =
          let none : step ≡ [] = nothing_follows step u h.0 in
          let stays : b ≡ m = fits_none step m b (ap events_in none) f in
          let full : x.number ≡ n = omega (arith, ltb-false x.number n is, so.few) in
          let all : first ≡ t = sym (splits ∙ ap (λ (l : List Act). first ++ l) none ∙ append-nil first) in
          let here : SoFar p s n R v n x.server x.tally (before ++ t) m = subst (λ (l : List Act). SoFar p s n R v n x.server x.tally (before ++ l) m) all (subst (λ (i : ℕ). SoFar p s n R v i x.server x.tally (before ++ first) m) full so.so) in
          served_all x.server x.tally (nothing_after step u h.0) (same_leave r (Run x.tally.status) h.1) (subst (λ (z : Outside). SoFar p s n R v n x.server x.tally (before ++ t) z) (sym stays) here)
      last_turn x true first step m splits is so h f = by_step h (seam step u h.first h.rest h.splits)
        where
          all : before ++ t ≡ (before ++ first) ++ step
          all = ap (λ (l : List Act). before ++ l) splits ∙ sym (append_assoc before first step)

          by_step : (h : serves_by p true x (step ++ u) (leave r)) → Seam step u h.first h.rest → LoopCame (before ++ t) u r b
          by_step h (within w at cut more_acts) =
              turn_came x.number (ltb-true x.number n is) x.server x.tally (before ++ t) (before ++ first) step w h.between u r m b all so.so f (inl (some_more u w h.rest cut more_acts))
              (next_came p x.number x.server x.tally step w h.between m b (subst (λ (l : List Act). ServesNext p x.number x.server x.tally l h.between) at h.does) f)
          by_step h (past w at follows) =
              let both : w ++ u ≡ [] = sym follows ∙ h.goes.0 in
              let none : w ≡ [] = nothing_follows w u both in
              let same : h.first ≡ step ++ [] = sym (at ∙ ap (λ (l : List Act). h.first ++ l) none ∙ append-nil h.first) ∙ sym (append-nil step) in
              turn_came x.number (ltb-true x.number n is) x.server x.tally (before ++ t) (before ++ first) step [] h.between u r m b all so.so f (inr (nothing_after w u both, refl, h.goes.1))
              (next_came p x.number x.server x.tally step [] h.between m b (subst (λ (l : List Act). ServesNext p x.number x.server x.tally l h.between) same h.does) f)

      loop_at : (h : Loops (ServesOn p n) start (t ++ u) r) → Seam t u h.first h.rest → Fits (events_in t) o b → LoopCame (before ++ t) u r b
      loop_at h (within w at cut some) f = loop_begun (reaches_begun (ServesOn p n) start h.first h.between h.does t w at) f (some_more u w h.rest cut some)
      loop_at h (past w at follows) f =
          let parts = fits_parts t h.first w o b at f in
          last_turn h.between (ltb h.between.number n) h.first w parts.0 at refl (reaches h.first h.between parts.0 h.does parts.1) (subst (λ (l : List Act). ServesOn p n h.between l (leave r)) follows h.goes) parts.2

      pub loop_came : Loops (ServesOn p n) start (t ++ u) r → Fits (events_in t) o b → LoopCame (before ++ t) u r b
      loop_came h f = loop_at h (seam t u h.first h.rest h.splits) f

-- ---- all sessions

-- the view with this address
abbrev pub listening : List ℕ → View → View
listening address v = record v { address = Some address }

-- Nothing was heard yet; nothing listens; or something does, and sessions come.
pub data AllCame (p : ProfileView) (address : List ℕ) (n : ℕ) (s : ServerState) (t u : List Act) (r : KeptStatus) (a b : Outside) : Type 0 where
  not_yet : 0 < length u → Silent a b → AllCame p address n s t u r a b
  unlistened : (m : Outside) → m.view ≡ a.view → added_in t ≡ [] → LinkFailed (events_in t) → (IsReliable a → a.view.room < length address) → LineEnd (ErrorsFailed (events_in t)) link_fault_line (Run statuses.LinkFault) u r m b → AllCame p address n s t u r a b
  served_so : LoopCame p s n (IsReliable a) (listening address a.view) t u r b → AllCame p address n s t u r a b

module _ (p : ProfileView) (address : List ℕ) (n : ℕ) (s : ServerState) (t u : List Act) (r : KeptStatus) (a b : Outside) where
  listen_came : (ok : Bool) (first rest : List Act) (events : List Event) (m : Outside) → t ≡ first ++ rest → first ≡ map (λ e. hosted e) events → events ≡ listened address ok ∷ [] → Fits (events_in first) a m → Fits (events_in rest) m b → after_listen p n s ok (rest ++ u) r → AllCame p address n s t u r a b
  listen_came true first rest events m is hosts event f g goes =
      let o = subst (λ (l : List Event). Fits l a m) event (fits_hosted first events a m hosts f) in
      let view : m.view ≡ listening address a.view = ap (λ (x : Outside). x.view) o.2 ∙ o.1.0 in
      let came = loop_came p s n (IsReliable a) (listening address a.view) first m view (λ sound. reliable_on a m (fits_keeps (events_in first) a m f) sound) (nothing_added first events hosts) rest u r b goes g in
      served_so (subst (λ (l : List Act). LoopCame p s n (IsReliable a) (listening address a.view) l u r b) (sym is) came)
  listen_came false first rest events m is hosts event f g goes =
      let o = subst (λ (l : List Event). Fits l a m) event (fits_hosted first events a m hosts f) in
      let view : m.view ≡ a.view = ap (λ (x : Outside). x.view) o.2 ∙ o.1.0 in
      let failed : LinkFailed (events_in first) = subst LinkFailed (sym (hosted_events first events hosts ∙ event)) (inl refl) in
      let all : added_in (rest ++ u) ≡ [] = ap added_in goes.splits ∙ added_more goes.first goes.rest ∙ ap (λ (l : List Entry). l ++ added_in goes.rest) (nothing_added goes.first goes.does.0 goes.does.1) ∙ ap added_in goes.goes.0 in
      let none : added_in t ≡ [] = added_after t first rest events is hosts ∙ nothing_follows (added_in rest) (added_in u) (sym (added_more rest u) ∙ all) in
      let full : IsReliable a → a.view.room < length address = λ reliable. elim o.1.1.0 as (λ z. a.view.room < length address) [ inl fails ↦ absurd (omega (arith, fails.1, reliable)) | inr no_room ↦ elim (cases_lt a.view.room (length address)) as (λ z. a.view.room < length address) [ inl long ↦ long | inr fits ↦ absurd (no_room fits) ] ] in
      unlistened m view none (subst (λ (l : List Act). LinkFailed (events_in l)) (sym is) (link_first first rest failed)) full
      (line_as (ErrorsFailed (events_in rest)) (ErrorsFailed (events_in t)) (λ w. subst (λ (l : List Act). ErrorsFailed (events_in l)) (sym is) (errors_last first rest w)) link_fault_line (Run statuses.LinkFault) u r m b
      (line_end link_fault_line statuses.LinkFault (λ status. Run status) rest u r m b g goes))

  came_at : (h : ServesAll address n s p (t ++ u) r) → Seam t u h.first h.rest → Fits (events_in t) a b → AllCame p address n s t u r a b
  came_at h (within w at cut some) f =
      let (events, hosts, event) = h.does in
      let one : Throughout IsQuiet (events_in (t ++ w)) = subst (λ (l : List Act). Throughout IsQuiet (events_in l)) at (subst (Throughout IsQuiet) (sym (hosted_events h.first events hosts ∙ event)) (tt, tt)) in
      not_yet (some_more u w h.rest cut some) (begun_quiet t w a b one f)
  came_at h (past w at follows) f =
      let parts = fits_parts t h.first w a b at f in
      let (events, hosts, event) = h.does in
      listen_came h.between h.first w events parts.0 at hosts event parts.1 parts.2 (subst (λ (l : List Act). after_listen p n s h.between l r) follows h.goes)

  pub all_came : ServesAll address n s p (t ++ u) r → Fits (events_in t) a b → AllCame p address n s t u r a b
  all_came h f = came_at h (seam t u h.first h.rest h.splits) f
