-- How a run of `keep` ends whose keeper's entries were read: its sessions, and what is kept of them.
use Rattle.std.proofs.Common.{◌≡◌, inl, inr, ℕ, ◌<◌, ◌≤◌, List, [], ◌∷◌, ◌++◌, append-nil, drop, get_or, length, map, true, Option, Some, refl, sym, ap, ◌∙◌, subst, arith}
use Rattle.tl_numbers.specs.Bytes.{ListsOfBytes}
use Rattle.tl_base.specs.Outside.{View, left_of}
use Rattle.tl_base.specs.declared.counts.Kind.TheVariants as kinds
use Rattle.tl_base.specs.declared.host.Slot.TheVariants.{Link}
use Rattle.box_server.specs.Servers.{ServerState, dated_at}
use Rattle.box_server.specs.declared.entry.Entry.{Entry}
use Rattle.box_server.specs.Keeping.{KeeperState, with_more}
use Rattle.box_server.specs.Rebuilding.{rebuilt}
use Rattle.wire_profile.specs.Profiles.{IsProfile}
use Rattle.outside.specs.Answer.{link_fault_line, memory_line, write_fault_line}
use Rattle.outside.specs.Jobs.{WritesSomeOf}
use Rattle.outside.specs.Kept.{AddsPrefix, Leaves}
use Rattle.outside.specs.Sound as sound
use Rattle.outside.specs.Sound.{IsFault}
use Rattle.outside.specs.Telling.{TellsLine}
use Rattle.outside.specs.declared.status.Status.{Status}
use Rattle.outside.specs.declared.status.Status.TheVariants as statuses
use Rattle.fault_lines.specs.Profiled.{HasProfile}
use Rattle.fault_lines.proofs.Profiled.{are_profiles}
use Rattle.outside.specs.Events.{Event, Outside}
use Rattle.outside.specs.Laws.{Happened, IsFailure}
use Rattle.outside.proofs.Causing.{happened_first, happened_last}
use Rattle.outside.specs.Fits.{Fits}
use Rattle.outside.specs.Reliable.{IsReliable}
use Rattle.outside.proofs.Fitting.{fits_keeps, reliable_on}
use Rattle.update_sessions.specs.Kept.{KeeperBroke, kept_in}
use Rattle.session_commands.specs.Keep.{KeepsFirst, RoomForAll, RoomForRun, SessionsBy, Starts, told_job}
use Rattle.session_commands.specs.Serve.{Total, no_sessions, total_answer}
use Rattle.session_commands.proofs.ServeRuns.{at_zero}
use Rattle.session_rooms.proofs.LeftViews.{beside, leaves_later}
use Rattle.serve_rooms.specs.Acts.{Act, AgreesAll, IsKeeperFault, IsSure, KeeperGrew, hosted, loaded, rebuilds, events_in}
use Rattle.serve_rooms.specs.ServedBytes.{added_in}
use Rattle.serve_rooms.specs.Answering.{lost}
use Rattle.serve_rooms.specs.Sessions.{ServesAll, keep_fault_line}
use Rattle.serve_rooms.specs.declared.status.KeptStatus.{KeptStatus}
use Rattle.serve_rooms.specs.declared.status.KeptStatus.TheVariants.{KeepFault, Run}
use Rattle.serve_rooms.specs.declared.telling.Tally.{Tally}
use Rattle.serve_rooms.proofs.Acting.{events_hosted, events_more}
use Rattle.serve_rooms.proofs.AnsweredBytes.{added_more, nothing_added, sessions_answer}
use Rattle.run_laws.specs.Ended.{ErrorsFailed, IsShown, IsUntold, LinkFailed, WriteFailed}
use Rattle.run_laws.specs.Ended as ending
use Rattle.run_laws.specs.Kept as kept
use Rattle.run_laws.proofs.serving.AllCame.{AllCame, Given, KeeperLost, LoopCame, Stopped, begun, listening, not_yet, served_all, served_so, unkept, unlinked, unlistened, unwritten, all_came, so_given}
use Rattle.run_laws.proofs.keeping.Ending.{Part, memory_part, memory_told}
use Rattle.run_laws.proofs.keeping.Entries.{full_where, grown_entries}
use Rattle.run_laws.proofs.keeping.Jobs.{any_before, any_by, by_before, fits_later, keeps_some, may_answer, part_given, sessions_fit}
use Rattle.run_laws.proofs.serving.Lines.{LineEnd, errors_of, output_of}
use Rattle.run_laws.proofs.serving.Loads.{LineSaid, Untouched}
use Rattle.run_laws.proofs.keeping.Openings.{agrees_first, job}
use Rattle.run_laws.proofs.keeping.Rooms.{never_full}
use Rattle.run_laws.proofs.serving.ServeEnds.{line_done, line_part, lines_tell, tells_on}
use Rattle.run_laws.proofs.serving.SoFar.{SoFar, by_failed}
use Rattle.run_laws.proofs.serving.ToldLines.{lines_prefix}
use Rattle.run_laws.proofs.serving.Unfailing.{sessions_sound}

-- ---- a run whose keeper's entries rebuilt a server

module _ (schema address : List ℕ) (n : ℕ) (old new : KeeperState) (all t : List Act) (status : KeptStatus) (a b m : Outside) (shown : IsShown a.view) (grew : KeeperGrew old all new) (h : HasProfile a.view.files schema) (s : ServerState) (starts : Starts old.entries s)
    (events : List Event) (rest : List Act) (is : t ≡ map (λ e. hosted e) events ++ loaded (rebuilds s) ∷ rest) (same : Untouched a m) (loads : Fits events a m) (lift : (P : Event → Type 0) → Happened P (events_in rest) → Happened P (events_in all))
    (fault_lift : Happened IsKeeperFault rest → Happened IsKeeperFault all) (agrees : AgreesAll (IsSure old) old.room old.entries t) where
  abbrev E : Type 0
  E = ErrorsFailed (events_in all)

  abbrev L : Type 0
  L = LinkFailed (events_in all)

  abbrev R : Type 0
  R = IsReliable m

  abbrev v : View
  v = listening address m.view

  added_are : added_in t ≡ added_in rest
  added_are = ap added_in is ∙ added_more (map (λ e. hosted e) events) (loaded (rebuilds s) ∷ rest) ∙ ap (λ (l : List Entry). l ++ added_in rest) (nothing_added (map (λ e. hosted e) events) events refl)

  -- ---- what the sessions did, as it is seen from the start of the run

  -- the first of them, with what they sent, and their entries
  record Few (j : Outside) : Type 0 where
    number : ℕ
    few : number ≤ n
    total : Total
    by : SessionsBy L h.p s a.view.links a.view.moments number total
    entries : added_in rest ≡ total.entries
    output : AddsPrefix (output_of a) (output_of j) total.output
    errors : AddsPrefix (errors_of a) (errors_of j) total.errors
    links : j.view.written.links ≡ a.view.written.links ++ total.sent
    address_is : 0 < number → j.view.address ≡ Some address

  from_start : (x : View → List ℕ) (y text : List ℕ) → x m.view ≡ x a.view → AddsPrefix (x m.view) y text → AddsPrefix (x a.view) y text
  from_start x y text at part = subst (λ (l : List ℕ). AddsPrefix l y text) at part

  few_stopped : (j : Outside) → Stopped h.p s n R v rest j → Few j
  few_stopped j x = record {
    number = x.number;
    few = x.few;
    total = x.total;
    by = by_before h.p a m same (LinkFailed (events_in rest)) L (lift (IsFailure kinds.Links)) s x.number x.total (by_failed h.p s n R v x.number x.total rest x.sessions x.whole);
    entries = x.entries;
    output = from_start (λ (z : View). z.written.output) (output_of j) x.total.output same.output x.output;
    errors = from_start (λ (z : View). z.written.errors) (errors_of j) x.total.errors same.errors x.errors;
    links = x.leaves.links ∙ ap (λ (z : View). z.written.links ++ x.total.sent) same.rest;
    address_is = λ _. x.leaves.address;
  }

  few_none : (j : Outside) → j.view ≡ m.view → added_in rest ≡ [] → Few j
  few_none j view none = record {
    number = 0;
    few = omega arith;
    total = no_sessions s;
    by = inl refl;
    entries = none;
    output = ([], [], refl, ap (λ (z : View). z.written.output) view ∙ same.output ∙ sym (append-nil (output_of a)));
    errors = ([], [], refl, ap (λ (z : View). z.written.errors) view ∙ same.errors ∙ sym (append-nil (errors_of a)));
    links = ap (λ (z : View). z.written.links) view ∙ ap (λ (z : View). z.written.links) same.rest ∙ sym (append-nil a.view.written.links);
    address_is = λ some. absurd (omega (arith, some));
  }

  few_given : (j : Outside) (x : Few j) → WritesSomeOf (job old.entries schema address n) L a.view j.view
  few_given j x = part_given old.entries schema address n a.view h s starts L j.view x.number x.few x.total (any_by L h.p s a.view.links a.view.moments x.number x.total x.by) x.output x.errors

  given_some : (j : Outside) → Given h.p s n R v j → WritesSomeOf (job old.entries schema address n) L a.view j.view
  given_some j x =
      part_given old.entries schema address n a.view h s starts L j.view x.number x.few x.total (any_before h.p a m same s x.number x.total x.sessions) (from_start (λ (z : View). z.written.output) (output_of j) x.total.output same.output x.output)
      (from_start (λ (z : View). z.written.errors) (errors_of j) x.total.errors same.errors x.errors)

  -- ---- the keeper

  new_entries : all ≡ t → (r : Total) → added_in rest ≡ r.entries → new.entries ≡ with_more r.entries old.entries
  new_entries whole r entries = grown_entries old new all grew ∙ ap (λ (l : List Entry). with_more l old.entries) (ap added_in whole ∙ added_are ∙ entries)

  few_kept : all ≡ t → (j : Outside) (x : Few j) → beside b.view ≡ beside j.view → KeepsFirst L h.p address s n old.entries new.entries a.view b.view
  few_kept whole j x rest_same = (
    x.number,
    x.few,
    keeps_some old.entries schema address n a.view h s starts L new.entries b.view x.number x.total shown.moments x.by (ap (λ (z : View). z.written.links) rest_same ∙ x.links) (λ some. ap (λ (z : View). z.address) rest_same ∙ x.address_is some)
        (new_entries whole x.total x.entries),
  )

  module _ (j : Outside) (x : KeeperLost h.p s n R v rest j) where
    lost_fault : Happened IsKeeperFault all
    lost_fault = fault_lift (subst (Happened IsKeeperFault) (sym x.all) (happened_first IsKeeperFault (x.first ++ x.acts) x.later (happened_last IsKeeperFault x.first x.acts x.lost.fault)))

    lost_given : WritesSomeOf (job old.entries schema address n) L a.view j.view
    lost_given =
        given_some j (record {
          number = x.number;
          few = omega (arith, x.less);
          total = x.so.total;
          sessions = x.so.sessions;
          output = (x.so.total.output, [], append-nil x.so.total.output, x.lost.silent.output ∙ x.so.output);
          errors = subst (λ (l : List ℕ). AddsPrefix m.view.written.errors l x.so.total.errors) (sym x.lost.silent.errors) (lines_prefix true x.tally.whole m.view.written.errors (errors_of x.started) x.so.total.errors x.so.lines);
        })

    moment : x.lost.now ≡ get_or a.view.moments x.number 0
    moment = x.lost.moment ∙ ap (λ (l : List ℕ). get_or l 0 0) (x.so.leaves.moments ∙ ap (λ (z : View). drop x.number z.moments) same.rest) ∙ at_zero a.view.moments x.number 0

    link : left_of Link x.lost.started.view ≡ get_or a.view.links x.number []
    link = ap (left_of Link) x.lost.view ∙ ap (λ (l : List (List ℕ)). get_or l 0 []) (x.so.leaves.coming ∙ ap (λ (z : View). drop x.number z.links) same.rest) ∙ at_zero a.view.links x.number []

    dated_server : dated_at x.server x.lost.now ≡ dated_at x.so.total.server (get_or a.view.moments x.number 0)
    dated_server = ap (λ (z : ServerState). dated_at z x.lost.now) x.so.server_is ∙ ap (λ (i : ℕ). dated_at x.so.total.server i) moment

    lost_never : (es : List Entry) → old.entries ≡ Some es → IsSure old → RoomForRun schema n old.room a.view es → ⊥
    lost_never es at sure room =
        let started = x.lost.started in
        let so = sessions_answer h.p (dated_at x.server x.lost.now) x.lost.answering lost started j x.lost.answered x.lost.fits in
        let first : s ≡ rebuilt es = (subst (λ (o : Option (List Entry)). Starts o s) at starts).1 in
        let dated = dated_at x.so.total.server (get_or a.view.moments x.number 0) in
        let broke : KeeperBroke h.p dated (get_or a.view.links x.number []) so.sent so.calls =
        subst (λ (z : ServerState). KeeperBroke h.p z (get_or a.view.links x.number []) so.sent so.calls) dated_server (subst (λ (l : List ℕ). KeeperBroke h.p (dated_at x.server x.lost.now) l so.sent so.calls) link so.ends) in
        let added : added_in rest ≡ x.so.total.entries ++ kept_in dated so.calls =
        ap added_in x.all ∙ added_more (x.first ++ x.acts) x.later ∙ ap (λ (l : List Entry). added_in (x.first ++ x.acts) ++ l) x.none ∙ append-nil (added_in (x.first ++ x.acts)) ∙ added_more x.first x.acts ∙ ap (λ (l : List Entry). l ++ added_in x.acts) x.so.entries
        ∙ ap (λ (l : List Entry). x.so.total.entries ++ l) (x.lost.entries ∙ so.entries ∙ ap (λ (z : ServerState). kept_in z so.calls) dated_server) in
        let failed : Happened IsKeeperFault t =
        subst (Happened IsKeeperFault) (sym is) (happened_last IsKeeperFault (map (λ e. hosted e) events) (loaded (rebuilds s) ∷ rest) (inr (subst (Happened IsKeeperFault) (sym x.all) (happened_first IsKeeperFault (x.first ++ x.acts) x.later (happened_last IsKeeperFault x.first x.acts x.lost.fault))))) in
        let full = full_where (IsSure old) old.room es t (subst (λ (o : Option (List Entry)). AgreesAll (IsSure old) old.room o t) at agrees) sure failed in
        let most = subst (λ (l : List Entry). old.room ≤ length (es ++ l)) (added_are ∙ added) full in
        never_full h.p s n old.room a.view es x.number x.less x.so.total (any_before h.p a m same s x.number x.so.total x.so.sessions) so.sent so.calls broke
        (subst (λ (z : ServerState). RoomForAll h.p z n old.room a.view es) (sym first) (room h)) most

  -- ---- all is over

  -- no fault of the outside, where nothing was to fail
  abbrev Unfailing : Type 0
  Unfailing = (x : Status) → status ≡ Run x → IsReliable a → sound.Fits (told_job old.entries schema address n) a.view → IsFault x → ⊥

  all_sound : AllCame h.p address n s rest [] status m b → Unfailing
  all_sound came x at reliable fits fault =
      let kept_so = fits_keeps events a m loads in
      let good : IsProfile h.p = (are_profiles h.is.schema h.p h.is.read.good h.is.is).0 in
      let bytes : ListsOfBytes m.view.links = subst ListsOfBytes (sym (ap (λ (z : View). z.links) same.rest)) shown.bytes.links in
      let room = fits_later h.p n s address a m same kept_so.room (sessions_fit old.entries schema address n a.view h s starts fits) in
      sessions_sound h.p good address n s m bytes (reliable_on a m kept_so reliable) room rest x b (subst (λ (r : KeptStatus). AllCame h.p address n s rest [] r m b) at came) fault

  module _ (whole : all ≡ t) (unfailing : Unfailing) where
    -- all were served
    served_part : (server : ServerState) (tally : Tally) → status ≡ Run tally.status → SoFar h.p s n R v n server tally rest b → Part schema address n old new all status a b
    served_part server tally ends so =
        let total = so.total in
        let by : SessionsBy L h.p s a.view.links a.view.moments n total = by_before h.p a m same (LinkFailed (events_in rest)) L (lift (IsFailure kinds.Links)) s n total (by_failed h.p s n R v n total rest so.sessions so.whole) in
        let left : Leaves (total_answer address n total) m.view b.view =
        record { files = so.leaves.files; moments = so.leaves.moments; coming = so.leaves.coming; state_name = so.leaves.state_name; state = so.leaves.state; links = so.leaves.links; address = so.leaves.address } in
        record {
          end = kept.served tally.status;
          status_is = ends;
          ends = ending.answered (total_answer address n total) (may_answer old.entries schema address n a.view h s starts L total by) so.status (so.output ∙ ap (λ (l : List ℕ). l ++ total.output) same.output) (leaves_later (total_answer address n total) a.view m.view b.view same.rest left)
              (lines_tell E tally.whole total.errors m.view.written.errors a.view b.view (sym same.errors) (λ torn. lift IsUntold (so.torn torn)) so.lines);
          entries = (h, s, starts, keeps_some old.entries schema address n a.view h s starts L new.entries b.view n total shown.moments by (so.leaves.links ∙ ap (λ (z : View). z.written.links ++ total.sent) same.rest) (λ some. so.leaves.address) (new_entries whole total so.entries));
          fault = λ f. absurd f;
          never = λ es at sure room f. f;
          spares = inr h;
          sound = λ reliable fits fault. unfailing tally.status ends reliable fits fault;
        }

    unlinked_part : (j : Outside) → Few j → LinkFailed (events_in rest) → LineEnd (ErrorsFailed (events_in rest)) link_fault_line (Run statuses.LinkFault) [] status j b → Part schema address n old new all status a b
    unlinked_part j x failed line =
        let ends = line_done (ErrorsFailed (events_in rest)) link_fault_line (Run statuses.LinkFault) status j b line in
        record {
          end = kept.stopped statuses.LinkFault;
          status_is = ends.0;
          ends = ending.link_failed (lift (IsFailure kinds.Links) failed) refl (record { stopped = j.view; given = few_given j x; told = (line.on.output, tells_on (ErrorsFailed (events_in rest)) E (lift IsUntold) link_fault_line j.view b.view ends.1.1) });
          entries = (h, s, starts, few_kept whole j x line.on.rest);
          fault = λ f. absurd f;
          never = λ es at sure room f. f;
          spares = inr h;
          sound = λ reliable fits fault. unfailing statuses.LinkFault ends.0 reliable fits fault;
        }

    unwritten_part : (j : Outside) → Few j → WriteFailed (events_in rest) → LineEnd (ErrorsFailed (events_in rest)) write_fault_line (Run statuses.WriteFault) [] status j b → Part schema address n old new all status a b
    unwritten_part j x failed line =
        let ends = line_done (ErrorsFailed (events_in rest)) write_fault_line (Run statuses.WriteFault) status j b line in
        record {
          end = kept.stopped statuses.WriteFault;
          status_is = ends.0;
          ends = ending.write_failed (lift (IsFailure kinds.Writes) failed) refl (record { stopped = j.view; given = few_given j x; told = (line.on.output, tells_on (ErrorsFailed (events_in rest)) E (lift IsUntold) write_fault_line j.view b.view ends.1.1) });
          entries = (h, s, starts, few_kept whole j x line.on.rest);
          fault = λ f. absurd f;
          never = λ es at sure room f. f;
          spares = inr h;
          sound = λ reliable fits fault. unfailing statuses.WriteFault ends.0 reliable fits fault;
        }

    unkept_part : (j : Outside) → KeeperLost h.p s n R v rest j → LineEnd (ErrorsFailed (events_in rest)) keep_fault_line KeepFault [] status j b → Part schema address n old new all status a b
    unkept_part j x line =
        let ends = line_done (ErrorsFailed (events_in rest)) keep_fault_line KeepFault status j b line in
        record {
          end = kept.keeper_failed;
          status_is = ends.0;
          ends = record { stopped = j.view; given = lost_given j x; told = (line.on.output, tells_on (ErrorsFailed (events_in rest)) E (lift IsUntold) keep_fault_line j.view b.view ends.1.1) };
          entries = h;
          fault = λ f. lost_fault j x;
          never = λ es at sure room f. lost_never j x es at sure room;
          spares = inr h;
          sound = λ reliable fits f. f;
        }

    loop_part : LoopCame h.p s n R v rest [] status b → Part schema address n old new all status a b
    loop_part (served_all server tally none ends so) = served_part server tally ends so
    loop_part (unlinked j x failed few line) = unlinked_part j (few_stopped j x) failed line
    loop_part (unwritten j x failed full line) = unwritten_part j (few_stopped j x) failed line
    loop_part (unkept j x line) = unkept_part j x line
    loop_part (begun some given) = absurd (omega (arith, some))

    all_part : AllCame h.p address n s rest [] status m b → Part schema address n old new all status a b
    all_part (not_yet some quiet) = absurd (omega (arith, some))
    all_part (unlistened j view none failed full line) = unlinked_part j (few_none j view none) failed line
    all_part (served_so came) = loop_part came

  -- ---- memory ran out

  module _ (u : List Act) (r : KeptStatus) (k : Outside) (ends : status ≡ Run statuses.Memory) (told : LineSaid memory_line E (Unit {0}) k b) where
    later_memory : WritesSomeOf (job old.entries schema address n) L a.view k.view → Part schema address n old new all status a b
    later_memory given =
        memory_part schema address n old new all status a b ends k told (inr h) (ending.out_of_memory_later refl (record { stopped = k.view; given = given; told = memory_told schema address n old new all status a b ends k told }) tt)

    told_memory : (line : List ℕ) → ending.IsFaultLine (events_in all) line → (j : Outside) → WritesSomeOf (job old.entries schema address n) L a.view j.view → TellsLine (Unit {0}) line j.view k.view → Part schema address n old new all status a b
    told_memory line fault j given said =
        memory_part schema address n old new all status a b ends k told (inr h)
        (ending.out_of_memory_told refl k.view (record { line = line; fault = fault; stopped = j.view; given = inr given; told = said }) (memory_told schema address n old new all status a b ends k told) tt)

    loop_memory : LoopCame h.p s n R v rest u r k → Part schema address n old new all status a b
    loop_memory (served_all server tally none ended so) = later_memory (given_some k (so_given h.p s n R v n server tally rest k (omega arith) so))
    loop_memory (unlinked j x failed few line) =
        told_memory link_fault_line (inr (inr (lift (IsFailure kinds.Links) failed, refl))) j (few_given j (few_stopped j x)) (line_part (ErrorsFailed (events_in rest)) link_fault_line (Run statuses.LinkFault) u r j k line)
    loop_memory (unwritten j x failed full line) =
        told_memory write_fault_line (inr (inl (lift (IsFailure kinds.Writes) failed, refl))) j (few_given j (few_stopped j x)) (line_part (ErrorsFailed (events_in rest)) write_fault_line (Run statuses.WriteFault) u r j k line)
    loop_memory (unkept j x line) = record {
      end = kept.keeper_untold;
      status_is = ends;
      ends = (
        k.view,
        record { stopped = j.view; given = lost_given j x; told = line_part (ErrorsFailed (events_in rest)) keep_fault_line KeepFault u r j k line },
        memory_told schema address n old new all status a b ends k told,
      );
      entries = h;
      fault = λ f. lost_fault j x;
      never = λ es at sure room f. lost_never j x es at sure room;
      spares = inr h;
      sound = λ reliable fits f. f;
    }
    loop_memory (begun some given) = later_memory (given_some k given)

    all_memory : AllCame h.p address n s rest u r m k → Part schema address n old new all status a b
    all_memory (not_yet some quiet) =
        later_memory (given_some k (record {
          number = 0;
          few = omega arith;
          total = no_sessions s;
          sessions = refl;
          output = ([], [], refl, quiet.output ∙ sym (append-nil (output_of m)));
          errors = ([], [], refl, quiet.errors ∙ sym (append-nil (errors_of m)));
        }))
    all_memory (unlistened j view none failed full line) =
        told_memory link_fault_line (inr (inr (lift (IsFailure kinds.Links) failed, refl))) j (few_given j (few_none j view none)) (line_part (ErrorsFailed (events_in rest)) link_fault_line (Run statuses.LinkFault) u r j k line)
    all_memory (served_so came) = loop_memory came

-- ---- the run

lift_events : (P : Event → Type 0) (t : List Act) (events : List Event) (s : ServerState) (rest : List Act) → t ≡ map (λ e. hosted e) events ++ loaded (rebuilds s) ∷ rest → Happened P (events_in rest) → Happened P (events_in t)
lift_events P t events s rest is h =
    let all : events_in t ≡ events ++ events_in rest = ap events_in is ∙ events_more (map (λ e. hosted e) events) (loaded (rebuilds s) ∷ rest) ∙ ap (λ (l : List Event). l ++ events_in rest) (events_hosted events) in
    subst (Happened P) (sym all) (happened_last P events (events_in rest) h)

lift_first : (P : Event → Type 0) (all t last : List Act) → all ≡ t ++ last → Happened P (events_in t) → Happened P (events_in all)
lift_first P all t last splits h = subst (λ (l : List Act). Happened P (events_in l)) (sym splits) (subst (Happened P) (sym (events_more t last)) (happened_first P (events_in t) (events_in last) h))

lift_fault : (t : List Act) (events : List Event) (s : ServerState) (rest : List Act) → t ≡ map (λ e. hosted e) events ++ loaded (rebuilds s) ∷ rest → Happened IsKeeperFault rest → Happened IsKeeperFault t
lift_fault t events s rest is h = subst (Happened IsKeeperFault) (sym is) (happened_last IsKeeperFault (map (λ e. hosted e) events) (loaded (rebuilds s) ∷ rest) (inr h))

module _ (schema address : List ℕ) (n : ℕ) (old new : KeeperState) where
  pub serving_part : (all : List Act) (status : KeptStatus) (a b : Outside) → IsShown a.view → KeeperGrew old all new → (h : HasProfile a.view.files schema) (s : ServerState) → Starts old.entries s → (first : List Event) (rest : List Act) (m : Outside)
      → all ≡ map (λ e. hosted e) first ++ loaded (rebuilds s) ∷ rest → Untouched a m → Fits first a m → Fits (events_in rest) m b → ServesAll address n s h.p (rest ++ []) status → Part schema address n old new all status a b
  serving_part all status a b shown grew h s starts first rest m is same g k x =
      all_part schema address n old new all all status a b m shown grew h s starts first rest is same g (λ P. lift_events P all first s rest is) (lift_fault all first s rest is) grew.agrees refl
      (all_sound schema address n old new all all status a b m shown grew h s starts first rest is same g (λ P. lift_events P all first s rest is) (lift_fault all first s rest is) grew.agrees
      (all_came h.p address n s rest [] status m b x k))
      (all_came h.p address n s rest [] status m b x k)

  pub serving_memory : (all t last : List Act) (status : KeptStatus) (a m b : Outside) → IsShown a.view → KeeperGrew old all new → all ≡ t ++ last → status ≡ Run statuses.Memory → LineSaid memory_line (ErrorsFailed (events_in all)) (Unit {0}) m b → (h : HasProfile a.view.files schema) (s : ServerState)
      → Starts old.entries s → (first : List Event) (rest : List Act) (k : Outside) → t ≡ map (λ e. hosted e) first ++ loaded (rebuilds s) ∷ rest → Untouched a k → Fits first a k → Fits (events_in rest) k m → (u : List Act) (r : KeptStatus) → ServesAll address n s h.p (rest ++ u) r
      → Part schema address n old new all status a b
  serving_memory all t last status a m b shown grew splits ends told h s starts first rest k is same g j u r x =
      all_memory schema address n old new all t status a b k shown grew h s starts first rest is same g (λ P f. lift_first P all t last splits (lift_events P t first s rest is f))
      (λ f. subst (Happened IsKeeperFault) (sym splits) (happened_first IsKeeperFault t last (lift_fault t first s rest is f)))
      (agrees_first (IsSure old) old.room old.entries t last (subst (AgreesAll (IsSure old) old.room old.entries) splits grew.agrees)) u r m ends told (all_came h.p address n s rest u r k m x j)
