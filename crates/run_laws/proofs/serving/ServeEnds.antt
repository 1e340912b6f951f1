-- How a run of `serve` ends.
use Rattle.std.proofs.Common.{◌≡◌, ◌⊎◌, inl, inr, ℕ, ◌<◌, ◌≤◌, List, [], ◌++◌, length, append-nil, drop, map, Bool, true, false, refl, sym, ap, ◌∙◌, subst, arith}
use Rattle.tl_base.specs.Outside.{View}
use Rattle.tl_base.specs.declared.counts.Kind.TheVariants as kinds
use Rattle.box_server.specs.Servers.{ServerState, new_server}
use Rattle.outside.specs.Answer.{Answer, link_fault_line, memory_line, read_fault_line, refused, write_fault_line}
use Rattle.outside.specs.Jobs.{Job, MayAnswer, WritesSomeOf}
use Rattle.outside.specs.Kept.{AddsPrefix, Leaves, WritesNothing}
use Rattle.outside.specs.Telling.{Tells, TellsLine}
use Rattle.outside.specs.declared.status.Status.{Status}
use Rattle.outside.specs.declared.status.Status.TheVariants as statuses
use Rattle.fault_lines.specs.Profiled.{HasProfile, profiled}
use Rattle.outside.specs.Events.{Event, Outside}
use Rattle.outside.specs.Laws.{Happened, IsFailure, Throughout}
use Rattle.outside.specs.Pieces as pieces
use Rattle.outside.specs.Runs as runs
use Rattle.outside.specs.Steps.{StepOf}
use Rattle.outside.proofs.Causing.{happened_first, happened_last, throughout_first}
use Rattle.outside.specs.Fits.{Fits}
use Rattle.outside.specs.Reliable.{IsReliable}
use Rattle.outside.proofs.Fitting.{fits_both}
use Rattle.schema_files.specs.Answering.{schema_of}
use Rattle.session_commands.specs.Serve.{IsAny, IsWhole, OfSessions, Sessions, Total, serve_job, total_answer}
use Rattle.session_commands.specs.inner.Serving.{GoesOn}
use Rattle.session_rooms.proofs.LeftViews.{plain_leaves}
use Rattle.serve_rooms.specs.Acts.{Act, hosted, events_in, IsKeeperFault}
use Rattle.serve_rooms.specs.Doing.{IsKept, to_serve}
use Rattle.serve_rooms.specs.Serve.{OfProfiled, serves}
use Rattle.serve_rooms.specs.Sessions.{ServesAll}
use Rattle.serve_rooms.specs.declared.status.KeptStatus.{KeptStatus}
use Rattle.serve_rooms.specs.declared.status.KeptStatus.TheVariants.{Run, KeepFault}
use Rattle.serve_rooms.proofs.Acting.{events_more}
use Rattle.serve_rooms.proofs.Spared.{never_failed}
use Rattle.run_laws.specs.Ended.{Anything, Ended, answered, read_failed, write_failed, link_failed, out_of_memory, out_of_memory_later, out_of_memory_told, ErrorsFailed, IsFaultLine, IsUntold, LinkFailed, RunEnds, StopsIn, ToldBefore}
use Rattle.run_laws.proofs.serving.AllCame.{AllCame, not_yet, unlistened, served_so, Given, LoopCame, served_all, unlinked, unwritten, unkept, begun, Stopped, all_came, keeper_happened, listening, so_given}
use Rattle.run_laws.proofs.serving.Beginnings.{split}
use Rattle.run_laws.proofs.serving.Lines.{LineEnd, lined, so_prefix}
use Rattle.run_laws.proofs.serving.Loads.{Came, silent, unread, refusal, profile, Untouched, any_profile, came}
use Rattle.run_laws.proofs.serving.SoFar.{SoFar}

same_run : (x y : Status) → Run x ≡ Run y → x ≡ y
same_run x y is = cc

none_more : (u : List Act) → u ≡ [] → 0 < length u → ⊥
none_more u none some = omega (arith, some, ap length none)

pub lines_tell : (W : Type 0) (b : Bool) (line old : List ℕ) (v w : View) → v.written.errors ≡ old → (b ≡ false → W) → GoesOn true b old w.written.errors line → Tells W line v w
lines_tell W true line old v w same torn h = inl (h ∙ ap (λ (l : List ℕ). l ++ line) (sym same))
lines_tell W false line old v w same torn h = inr (torn refl, subst (λ (l : List ℕ). AddsPrefix l w.written.errors line) (sym same) h)

pub tells_on : (W V : Type 0) → (W → V) → (line : List ℕ) (v w : View) → Tells W line v w → Tells V line v w
tells_on W V into line v w (inl whole) = inl whole
tells_on W V into line v w (inr (failed, prefix)) = inr (into failed, prefix)

-- how a line ended that nothing follows
pub line_done : {A : Type 0} (W : Type 0) (line : List ℕ) (x r : A) (a b : Outside) → LineEnd W line x [] r a b → (r ≡ x) × TellsLine W line a.view b.view
line_done W line x r a b h = elim h.line_is as (λ z. (r ≡ x) × TellsLine W line a.view b.view) [
  | inl ((none, is), tells) ↦ (is, (h.on.output, tells))
  | inr (some, prefix) ↦ absurd (none_more [] refl some)
]

-- likewise, as far as it was told
pub line_part : {A : Type 0} (W : Type 0) (line : List ℕ) (x : A) (u : List Act) (r : A) (a b : Outside) → LineEnd W line x u r a b → TellsLine (Unit {0}) line a.view b.view
line_part W line x u r a b h = (h.on.output, inr (tt, so_prefix ((u ≡ []) × (r ≡ x)) (0 < length u) W line a b h.line_is))

-- what happened in these acts happened in all
abbrev Lifts : List Event → List Act → Type 1
Lifts all t = (P : Event → Type 0) → Happened P (events_in t) → Happened P all

module _ (schema address : List ℕ) (n : ℕ) where
  abbrev pub job : Job
  job = serve_job schema address n

  -- of a run that did all this
  module _ (all : List Event) (a : Outside) where
    abbrev E : Type 0
    E = ErrorsFailed all

    abbrev L : Type 0
    L = LinkFailed all

    abbrev v : View
    v = a.view

    -- ---- what is given

    -- the schema was read, and is a profile
    module _ (h : HasProfile v.files schema) (m : Outside) (same : Untouched a m) where
      links : m.view.links ≡ v.links
      links = ap (λ (x : View). x.links) same.rest

      moments : m.view.moments ≡ v.moments
      moments = ap (λ (x : View). x.moments) same.rest

      sessions_as : (Is : _) (k : ℕ) (total : Total) → Sessions Is h.p new_server m.view.links m.view.moments k total → Sessions Is h.p new_server v.links v.moments k total
      sessions_as Is k total x = subst (λ (l : List (List ℕ)). Sessions Is h.p new_server l v.moments k total) links (subst (λ (l : List ℕ). Sessions Is h.p new_server m.view.links l k total) moments x)

      given_some : (k : ℕ) (total : Total) (b : Outside) → k ≤ n → Sessions IsAny h.p new_server m.view.links m.view.moments k total → AddsPrefix m.view.written.output b.view.written.output total.output → AddsPrefix m.view.written.errors b.view.written.errors total.errors
          → WritesSomeOf job L v b.view
      given_some k total b few sessions output errors = (
        total_answer address k total,
        inr (h, k, few, (total, sessions_as IsAny k total sessions, refl)),
        subst (λ (l : List ℕ). AddsPrefix l b.view.written.output total.output) same.output output,
        inr (tt, subst (λ (l : List ℕ). AddsPrefix l b.view.written.errors total.errors) same.errors errors),
      )

      some_given : (b : Outside) → Given h.p new_server n (IsReliable m) (listening address m.view) b → WritesSomeOf job L v b.view
      some_given b g = given_some g.number g.total b g.few g.sessions g.output g.errors

      some_stopped : (t : List Act) (b : Outside) → Stopped h.p new_server n (IsReliable m) (listening address m.view) t b → WritesSomeOf job L v b.view
      some_stopped t b g = given_some g.number g.total b g.few g.sessions g.output g.errors

      -- nothing listens
      some_unlistened : (b : Outside) → b.view ≡ m.view → WritesSomeOf job L v b.view
      some_unlistened b view = given_some 0 (no_total) b (omega arith) refl ([], [], refl, ap (λ (x : View). x.written.output) view ∙ sym (append-nil m.view.written.output)) ([], [], refl, ap (λ (x : View). x.written.errors) view ∙ sym (append-nil m.view.written.errors))
        where
          no_total : Total
          no_total = record { server = new_server; entries = []; output = []; errors = []; sent = []; status = statuses.Done }

      -- all were served
      module _ (server : ServerState) (tally : _) (t : List Act) (b : Outside) (so : SoFar h.p new_server n (IsReliable m) (listening address m.view) n server tally t b) (into : LinkFailed (events_in t) → L) where
        abbrev x : Answer
        x = total_answer address n so.total

        answer_may : MayAnswer job L v x
        answer_may = elim so.whole as (λ z. MayAnswer job L v x) [
          | inl whole ↦ inl (h.text, h.there, schema_of h.is.schema h.is.read (profiled h.p h.is.is (so.total, sessions_as IsWhole n so.total whole, refl)))
          | inr broke ↦ inr (into broke.failed, (h, (so.total, sessions_as IsAny n so.total so.sessions, refl)))
        ]

        answer_leaves : Leaves x v b.view
        answer_leaves = record {
          files = so.leaves.files ∙ ap (λ (y : View). y.files) same.rest;
          moments = so.leaves.moments ∙ ap (λ (y : View). drop n y.moments) same.rest;
          coming = so.leaves.coming ∙ ap (λ (y : View). drop n y.links) same.rest;
          state_name = so.leaves.state_name ∙ ap (λ (y : View). y.state_name) same.rest;
          state = so.leaves.state ∙ ap (λ (y : View). y.written.state) same.rest;
          links = so.leaves.links ∙ ap (λ (y : View). y.written.links ++ so.total.sent) same.rest;
          address = so.leaves.address;
        }

        all_answered : (status : Status) → Run status ≡ Run tally.status → (ErrorsFailed (events_in t) → E) → Ended job all status v b.view
        all_answered status is untold =
            answered x answer_may (same_run status tally.status is ∙ so.status) (so.output ∙ ap (λ (l : List ℕ). l ++ so.total.output) same.output) answer_leaves
            (lines_tell E tally.whole so.total.errors m.view.written.errors v b.view (sym same.errors) (λ torn. untold (so.torn torn)) so.lines)

      -- ---- the run is done

      module _ (t : List Act) (status : Status) (b : Outside) (lift : Lifts all t) where
        stops : (line : List ℕ) (y : Outside) → WritesSomeOf job L v y.view → TellsLine (ErrorsFailed (events_in t)) line y.view b.view → StopsIn job all line v b.view
        stops line y some tells = record { stopped = y.view; given = some; told = (tells.0, tells_on (ErrorsFailed (events_in t)) E (lift IsUntold) line y.view b.view tells.1) }

        loop_ends : LoopCame h.p new_server n (IsReliable m) (listening address m.view) t [] (Run status) b → Ended job all status v b.view
        loop_ends (served_all server tally none is so) = all_answered server tally t b so (lift (IsFailure kinds.Links)) status is (lift IsUntold)
        loop_ends (unlinked y stop failed few line) =
            let e = line_done (ErrorsFailed (events_in t)) link_fault_line (Run statuses.LinkFault) (Run status) y b line in
            link_failed (lift (IsFailure kinds.Links) failed) (same_run status statuses.LinkFault e.0) (stops link_fault_line y (some_stopped t y stop) e.1)
        loop_ends (unwritten y stop failed few line) =
            let e = line_done (ErrorsFailed (events_in t)) write_fault_line (Run statuses.WriteFault) (Run status) y b line in
            write_failed (lift (IsFailure kinds.Writes) failed) (same_run status statuses.WriteFault e.0) (stops write_fault_line y (some_stopped t y stop) e.1)
        loop_ends (unkept y lost line) =
            let e = line_done (ErrorsFailed (events_in t)) _ KeepFault (Run status) y b line in
            absurd (let no : Run status ≡ KeepFault = e.0 in cc)
        loop_ends (begun some given) = absurd (none_more [] refl some)

        all_ends : AllCame h.p address n new_server t [] (Run status) m b → Ended job all status v b.view
        all_ends (not_yet some quiet) = absurd (none_more [] refl some)
        all_ends (unlistened y view none failed full line) =
            let e = line_done (ErrorsFailed (events_in t)) link_fault_line (Run statuses.LinkFault) (Run status) y b line in
            link_failed (lift (IsFailure kinds.Links) failed) (same_run status statuses.LinkFault e.0) (stops link_fault_line y (some_unlistened y view) e.1)
        all_ends (served_so loop) = loop_ends loop

    -- ---- memory ran out

    -- what was written until then
    data Before (w : View) : Type 0 where
      nothing : WritesNothing v w → Before w
      something : WritesSomeOf job L v w → Before w
      a_fault : ToldBefore job all v w → Before w

    fault_some : (line : List ℕ) (y w : View) → IsFaultLine all line → WritesNothing v y ⊎ WritesSomeOf job L v y → TellsLine (Unit {0}) line y w → Before w
    fault_some line y w fault given told_so = a_fault (record { line = line; fault = fault; stopped = y; given = given; told = told_so })

    module _ (h : HasProfile v.files schema) (m : Outside) (same : Untouched a m) (t u : List Act) (r : KeptStatus) (b : Outside) (lift : Lifts all t) (kept : Happened IsKeeperFault t → ⊥) where
      loop_before : LoopCame h.p new_server n (IsReliable m) (listening address m.view) t u r b → Before b.view
      loop_before (served_all server tally none is so) = something (some_given h m same b (so_given h.p new_server n (IsReliable m) (listening address m.view) n server tally t b (omega arith) so))
      loop_before (unlinked y stop failed few line) =
          fault_some link_fault_line y.view b.view (inr (inr (lift (IsFailure kinds.Links) failed, refl))) (inr (some_stopped h m same t y stop)) (line_part (ErrorsFailed (events_in t)) link_fault_line (Run statuses.LinkFault) u r y b line)
      loop_before (unwritten y stop failed few line) =
          fault_some write_fault_line y.view b.view (inr (inl (lift (IsFailure kinds.Writes) failed, refl))) (inr (some_stopped h m same t y stop)) (line_part (ErrorsFailed (events_in t)) write_fault_line (Run statuses.WriteFault) u r y b line)
      loop_before (unkept y lost line) = absurd (kept (keeper_happened h.p new_server n (IsReliable m) (listening address m.view) t y lost))
      loop_before (begun some given) = something (some_given h m same b given)

      all_before : AllCame h.p address n new_server t u r m b → Before b.view
      all_before (not_yet some quiet) = nothing (record { output = quiet.output ∙ same.output; errors = quiet.errors ∙ same.errors })
      all_before (unlistened y view none failed full line) =
          fault_some link_fault_line y.view b.view (inr (inr (lift (IsFailure kinds.Links) failed, refl))) (inr (some_unlistened h m same y view)) (line_part (ErrorsFailed (events_in t)) link_fault_line (Run statuses.LinkFault) u r y b line)
      all_before (served_so loop) = loop_before loop

    memory_ends : (status : Status) (m b : Outside) → Before m.view → status ≡ statuses.Memory → m.view.written.output ≡ b.view.written.output → Tells E memory_line m.view b.view → Ended job all status v b.view
    memory_ends status m b (nothing none) is same tells = out_of_memory is (sym same ∙ none.output) (tells_from m.view none.errors tells)
      where
        tells_from : (u : View) → u.written.errors ≡ v.written.errors → Tells E memory_line u b.view → Tells E memory_line v b.view
        tells_from u errors (inl whole) = inl (whole ∙ ap (λ (l : List ℕ). l ++ memory_line) errors)
        tells_from u errors (inr (failed, prefix)) = inr (failed, subst (λ (l : List ℕ). AddsPrefix l b.view.written.errors memory_line) errors prefix)
    memory_ends status m b (something some) is same tells = out_of_memory_later is (record { stopped = m.view; given = some; told = (sym same, tells) }) tt
    memory_ends status m b (a_fault fault) is same tells = out_of_memory_told is m.view fault (sym same, tells) tt

  -- ---- the schema

  abbrev Work : StepOf Act KeptStatus
  Work = OfProfiled (ServesAll address n new_server) schema

  module _ (all : List Event) (t u : List Act) (a b : Outside) (lift : Lifts all t) where
    -- what the host did before the sessions
    module _ (events : List Event) (rest : List Act) (is : t ≡ map (λ e. hosted e) events ++ rest) where
      lift_on : Lifts all rest
      lift_on P w = lift P (subst (λ (l : List Act). Happened P (events_in l)) (sym is) (subst (Happened P) (sym (events_more (map (λ e. hosted e) events) rest)) (happened_last P (events_in (map (λ e. hosted e) events)) (events_in rest) w)))

      fault_on : Happened IsKeeperFault rest → Happened IsKeeperFault t
      fault_on w = subst (Happened IsKeeperFault) (sym is) (happened_last IsKeeperFault (map (λ e. hosted e) events) rest w)

    came_ends : (status : Status) → u ≡ [] → Came (ServesAll address n new_server) schema t u (Run status) a b → Ended job all status a.view b.view
    came_ends status done (silent some same) = absurd (omega (arith, some, ap length done))
    came_ends status done (unread failed missing is none line) =
        read_failed (lift (IsFailure kinds.Reads) failed) (same_run status statuses.ReadFault is) line.output (tells_on (ErrorsFailed (events_in t)) (ErrorsFailed all) (lift IsUntold) read_fault_line a.view b.view (line.tells done))
    came_ends status done (refusal text answers is none line) =
        answered (refused text) (inl (any_profile (OfSessions new_server address IsWhole n a.view.links a.view.moments) a.view.files schema (refused text) answers)) (same_run status statuses.Refused is) (line.output ∙ sym (append-nil a.view.written.output)) (plain_leaves statuses.Refused [] text a.view b.view line.rest)
        (tells_on (ErrorsFailed (events_in t)) (ErrorsFailed all) (lift IsUntold) text a.view b.view (line.tells done))
    came_ends status done (profile h events rest m is same f g works) =
        let sessions : ServesAll address n new_server h.p (rest ++ []) (Run status) = subst (λ (l : List Act). ServesAll address n new_server h.p (rest ++ l) (Run status)) done works in
        all_ends all a h m same rest status b (lift_on events rest is) (all_came h.p address n new_server rest [] (Run status) m b sessions g)

    came_before : (r : KeptStatus) → (Happened IsKeeperFault t → ⊥) → Came (ServesAll address n new_server) schema t u r a b → Before all a b.view
    came_before r kept (silent some same) = nothing (record { output = same.output; errors = same.errors })
    came_before r kept (unread failed missing is none line) =
        fault_some all a read_fault_line a.view b.view (inl (lift (IsFailure kinds.Reads) failed, refl)) (inl (record { output = refl; errors = refl })) (line.output, inr (tt, line.errors))
    came_before r kept (refusal text answers is none line) = something (
      refused text,
      inl (inl (any_profile (OfSessions new_server address IsWhole n a.view.links a.view.moments) a.view.files schema (refused text) answers)),
      ([], [], refl, line.output ∙ sym (append-nil a.view.written.output)),
      inr (tt, line.errors),
    )
    came_before r kept (profile h events rest m is same f g works) =
        all_before all a h m same rest u r b (lift_on events rest is) (λ fault. kept (fault_on events rest is fault)) (all_came h.p address n new_server rest u r m b works g)

  -- ---- a run

  pub serve_ends : RunEnds Anything job to_serve (serves schema address n)
  serve_ends t status s b shown (runs.done h) f =
      let fits : Fits (events_in h.acts) s b = subst (λ (l : List Event). Fits l s b) h.events f in
      let works : Work (h.acts ++ []) (Run status) = subst (λ (l : List Act). Work l (Run status)) (sym (append-nil h.acts)) h.works in
      came_ends t h.acts [] s b (λ P. subst (Happened P) (sym h.events)) status refl (came (ServesAll address n new_server) schema h.acts [] (Run status) s b works fits)
  serve_ends t status s b shown (runs.out_of_memory h) f =
      let begins = h.does.0 in
      let spares = begins.whole in
      let parts = split spares.acts h.first begins.rest (sym spares.events) in
      let fits = fits_both h.first h.rest s b (subst (λ (l : List Event). Fits l s b) h.splits f) in
      let m = fits.0 in
      let first : Fits (events_in parts.first) s m = subst (λ (l : List Event). Fits l s m) (sym parts.events) fits.1 in
      let works : Work (parts.first ++ parts.rest) (Run begins.answer) = subst (λ (l : List Act). Work l (Run begins.answer)) parts.all spares.works in
      let kept : Throughout IsKept parts.first = throughout_first IsKept parts.first parts.rest (subst (Throughout IsKept) parts.all spares.kept) in
      let into : Lifts t parts.first = λ P w. subst (Happened P) (sym h.splits) (happened_first P h.first h.rest (subst (Happened P) parts.events w)) in
      let before = came_before t parts.first parts.rest s m into (Run begins.answer) (never_failed parts.first kept) (came (ServesAll address n new_server) schema parts.first parts.rest (Run begins.answer) s m works first) in
      let tells : pieces.Tells memory_line h.between (h.rest ++ []) status = subst (λ (l : List Event). pieces.Tells memory_line h.between l status) (sym (append-nil h.rest)) h.goes in
      let line = lined memory_line h.between h.rest [] status m b tells fits.2 in
      let told = elim line.line_is as (λ z. Tells (ErrorsFailed h.rest) memory_line m.view b.view) [ inl (none, x) ↦ x | inr (some, prefix) ↦ absurd (omega (arith, some)) ] in
      memory_ends t s status m b before (line.status_is ∙ h.does.1) (sym line.on.output)
      (tells_on (ErrorsFailed h.rest) (ErrorsFailed t) (λ w. subst ErrorsFailed (sym h.splits) (happened_last IsUntold h.first h.rest w)) memory_line m.view b.view told)
