-- One connection, or a beginning of it: nobody was taken, or a session was over; until then nothing is told.
use Rattle.std.proofs.Common.{◌≡◌, ◌⊎◌, inl, inr, ℕ, ◌<◌, List, [], ◌∷◌, ◌++◌, length, append_assoc, drop, map, Bool, true, false, Result, Err, refl, sym, ap, ◌∙◌, subst, arith}
use Rattle.std.specs.Prelude.{get_or}
use Rattle.std.proofs.lemmas.Bool.{cases_lt}
use Rattle.tl_numbers.specs.Bytes.{AreBytes}
use Rattle.tl_base.specs.Calls.{link_taken}
use Rattle.tl_base.specs.Outside.{View, left_of, written_of}
use Rattle.tl_base.specs.declared.host.Out.TheVariants as outs
use Rattle.tl_base.specs.declared.host.Slot.TheVariants.{Link}
use Rattle.box_server.specs.Servers.{ServerState, dated_at}
use Rattle.box_server.specs.declared.entry.Entry.{Entry}
use Rattle.wire_profile.specs.Indexes.{ProfileView}
use Rattle.wire_profile.specs.Profiles.{IsProfile}
use Rattle.outside.specs.Answer.{link_fault_line}
use Rattle.outside.specs.Kept.{Leaves}
use Rattle.outside.specs.declared.status.Status.TheVariants as statuses
use Rattle.outside.specs.Events.{Event, Outside, accepted, told}
use Rattle.outside.specs.Laws.{Happened, Throughout}
use Rattle.outside.specs.Pieces.{Tells}
use Rattle.outside.specs.Steps.{Ends, Then}
use Rattle.outside.specs.Fits.{Fits}
use Rattle.outside.specs.Reliable.{IsReliable}
use Rattle.outside.proofs.Fitting.{Keeps as KeepsOutside, fits_keeps, reliable_on}
use Rattle.update_sessions.specs.declared.fault.SessionFault.{SessionFault}
use Rattle.update_sessions.specs.declared.fault.SessionFault.TheVariants as session
use Rattle.session_commands.specs.Linked.{next_link}
use Rattle.session_commands.specs.Serve.{SessionEnd, served, peer_fault, link_fault, IsWhole, end_of}
use Rattle.session_commands.specs.Serve as commands
use Rattle.session_rooms.proofs.LeftViews.{IsOverLink, last_link, link_spares, unlinked}
use Rattle.serve_rooms.specs.Acts.{Act, hosted, events_in, IsKeeperFault}
use Rattle.serve_rooms.specs.Answering.{AnswersAll, Session, over, lost}
use Rattle.serve_rooms.specs.Doing.{Hosted}
use Rattle.serve_rooms.specs.ServedBytes.{added_in}
use Rattle.serve_rooms.specs.Sessions.{Next, no_more, keep_fault_line, TellsKeepFault, after_session, after_moment, after_accept, ServesNext}
use Rattle.serve_rooms.specs.declared.status.KeptStatus.TheVariants.{Run, KeepFault}
use Rattle.serve_rooms.specs.declared.telling.Tally.{Tally}
use Rattle.serve_rooms.proofs.Acting.{events_more}
use Rattle.serve_rooms.proofs.Answered.{lost_at_fault}
use Rattle.serve_rooms.proofs.AnsweredBytes.{added_more, fits_hosted, fits_parts, nothing_added, sessions_answer}
use Rattle.serve_rooms.proofs.SessionEvents.{session_keeps}
use Rattle.outside.proofs.Causing.{happened_first, happened_last}
use Rattle.run_laws.specs.Ended.{ErrorsFailed, LinkFailed}
use Rattle.run_laws.specs.Sessions.{session_answer}
use Rattle.run_laws.proofs.serving.Beginnings.{Seam, within, past, hosted_events, nothing_follows, seam, some_more}
use Rattle.run_laws.proofs.serving.KnownEnds.{failed_end, session_known}
use Rattle.run_laws.proofs.serving.Lines.{LineEnd, LineSo, line_end}
use Rattle.run_laws.proofs.serving.LinkCauses.{errors_last, link_first, link_last, session_cause}
use Rattle.run_laws.proofs.serving.LinkRooms.{link_short, none_sent}
use Rattle.run_laws.proofs.serving.Quiet.{IsQuiet, Silent, begun_quiet, silent, silent_then}

-- a link and a moment were taken
abbrev pub ready : View → View
ready v = record (link_taken v) { moments = drop 1 v.moments }

-- the link failed: over a reliable outside there is no room for what any session sends whose link doesn't fail
pub record Failed (p : ProfileView) (s : ServerState) (acts : List Act) (a : Outside) : Type 0 where
  pub failed : LinkFailed (events_in acts)
  pub short : IsReliable a → IsProfile p → AreBytes (next_link a.view) → (out : List ℕ) (t : ServerState) (new : List Entry) (e : SessionEnd) → commands.Session p s (get_or a.view.moments 0 0) (next_link a.view) out t new e → IsWhole e → a.view.room < length out

-- a session at the next moment over what the next link gives; nothing is told of it yet
pub record Connected (p : ProfileView) (s : ServerState) (acts : List Act) (x : ServerState) (end : Result ℕ SessionFault) (a j : Outside) : Type 0 where
  pub sent : List ℕ
  pub session : commands.Session p s (get_or a.view.moments 0 0) (next_link a.view) sent x (added_in acts) (end_of end)
  pub whole : IsWhole (end_of end) ⊎ Failed p s acts a
  pub silent : Silent a j
  pub leaves : (number : ℕ) → Leaves (session_answer number (end_of end) sent) a.view j.view

whole_or : (F : Type 0) (end : Result ℕ SessionFault) (e : SessionEnd) → end_of end ≡ e → (end ≡ Err session.LinkFault → F) → IsWhole e ⊎ F
whole_or F end (served n) is fails = inl tt
whole_or F end (peer_fault line) is fails = inl tt
whole_or F end link_fault is fails = inr (fails (failed_end end is))

-- a session that the keeper broke off
pub record Lost (p : ProfileView) (s : ServerState) (acts : List Act) (a j : Outside) : Type 0 where
  pub now : ℕ
  pub moment : now ≡ get_or a.view.moments 0 0
  pub answering : List Act
  pub started : Outside
  pub view : started.view ≡ ready a.view
  pub answered : AnswersAll p (dated_at s now) answering lost
  pub fits : Fits (events_in answering) started j
  pub entries : added_in acts ≡ added_in answering
  pub fault : Happened IsKeeperFault acts
  pub silent : Silent a j

-- What the acts of a connection came to: nothing is told yet, and more is to come; nobody was taken; a session is over; or the keeper failed.
pub data NextCame (p : ProfileView) (number : ℕ) (s : ServerState) (tally : Tally) (t u : List Act) (r : Next) (a b : Outside) : Type 0 where
  unheard : 0 < length u → Silent a b → NextCame p number s tally t u r a b
  nobody : (k : Outside) → k.view ≡ a.view → added_in t ≡ [] → LinkFailed (events_in t) → (IsReliable a → length a.view.links ≡ 0) → LineEnd (ErrorsFailed (events_in t)) link_fault_line (no_more (Run statuses.LinkFault)) u r k b → NextCame p number s tally t u r a b
  heard : (first m : List Act) (x : ServerState) (end : Result ℕ SessionFault) (j : Outside) → t ≡ first ++ m → Connected p s first x end a j → Fits (events_in first) a j → Fits (events_in m) j b → after_session number tally (over x end) (m ++ u) r → NextCame p number s tally t u r a b
  broken_off : (first m : List Act) (j : Outside) → t ≡ first ++ m → Lost p s first a j → added_in m ≡ [] → LineEnd (ErrorsFailed (events_in t)) keep_fault_line (no_more KeepFault) u r j b → NextCame p number s tally t u r a b

pub line_as : {A : Type 0} (W V : Type 0) → (W → V) → (line : List ℕ) (x : A) (u : List Act) (r : A) (a b : Outside) → LineEnd W line x u r a b → LineEnd V line x u r a b
line_as W V into line x u r a b h = record {
  on = h.on;
  line_is = elim h.line_is as (λ z. LineSo ((u ≡ []) × (r ≡ x)) (0 < length u) V line a b) [
    | inl (done, inl whole) ↦ inl (done, inl whole)
    | inl (done, inr (failed, prefix)) ↦ inl (done, inr (into failed, prefix))
    | inr (some, prefix) ↦ inr (some, prefix)
  ];
}

-- what was added after a host's events
pub added_after : (t first rest : List Act) (events : List Event) → t ≡ first ++ rest → first ≡ map (λ e. hosted e) events → added_in t ≡ added_in rest
added_after t first rest events splits is = ap added_in splits ∙ added_more first rest ∙ ap (λ (l : List Entry). l ++ added_in rest) (nothing_added first events is)

keeper_first : (t u : List Act) → Happened IsKeeperFault t → Happened IsKeeperFault (t ++ u)
keeper_first t u h = happened_first IsKeeperFault t u h

fits_then : (v w : List Event) (x y z : Outside) → Fits v x y → Fits w y z → Fits (v ++ w) x z
fits_then [] w x y z f g = subst (λ (o : Outside). Fits w o z) f g
fits_then (e ∷ v) w x y z f g = (f.0, f.1, fits_then v w f.0 y z f.2 g)

pub fits_joined : (v w : List Act) (x y z : Outside) → Fits (events_in v) x y → Fits (events_in w) y z → Fits (events_in (v ++ w)) x z
fits_joined v w x y z f g = subst (λ (l : List Event). Fits l x z) (sym (events_more v w)) (fits_then (events_in v) (events_in w) x y z f g)

module _ (p : ProfileView) (number : ℕ) (s : ServerState) (tally : Tally) (t u : List Act) (r : Next) (a b : Outside) where
  abbrev Came : Type 0
  Came = NextCame p number s tally t u r a b

  -- nobody was taken
  nobody_came : (first m : List Act) (events : List Event) (k : Outside) → t ≡ first ++ m → first ≡ map (λ e. hosted e) events → events ≡ accepted false ∷ [] → Fits events a k → Fits (events_in m) k b
      → Then (Hosted (Tells link_fault_line statuses.LinkFault)) (λ status. Ends (no_more (Run status))) (m ++ u) r → added_in m ≡ [] → Came
  nobody_came first m events k is hosts event f g goes none =
      let o = subst (λ (l : List Event). Fits l a k) event f in
      let view : k.view ≡ a.view = ap (λ (x : Outside). x.view) o.2 ∙ o.1.0 in
      let failed : LinkFailed events = subst LinkFailed (sym event) (inl refl) in
      let first_failed : LinkFailed (events_in first) = subst LinkFailed (sym (hosted_events first events hosts)) failed in
      let empty : IsReliable a → length a.view.links ≡ 0 = λ reliable. elim o.1.1.0 as (λ z. length a.view.links ≡ 0) [ inl fails ↦ absurd (omega (arith, fails.1, reliable)) | inr no_links ↦ elim (cases_lt 0 (length a.view.links)) as (λ z. length a.view.links ≡ 0) [ inl some ↦ absurd (no_links some) | inr few ↦ omega (arith, few) ] ] in
      nobody k view (added_after t first m events is hosts ∙ none) (subst (λ (l : List Act). LinkFailed (events_in l)) (sym is) (link_first first m first_failed)) empty
      (line_as (ErrorsFailed (events_in m)) (ErrorsFailed (events_in t)) (λ w. subst (λ (l : List Act). ErrorsFailed (events_in l)) (sym is) (errors_last first m w)) link_fault_line (no_more (Run statuses.LinkFault)) u r k b
      (line_end link_fault_line statuses.LinkFault (λ status. no_more (Run status)) m u r k b g goes))

  -- somebody was, and the clock was read
  module _ (first m : List Act) (is : t ≡ first ++ m) (none : added_in first ≡ []) (k : Outside) (view : k.view ≡ ready a.view) (keeps : KeepsOutside a k) (before : Fits (events_in first) a k) (still : Silent a k) (now : ℕ) (moment : now ≡ get_or a.view.moments 0 0) where
    all_first : (answered told_acts : List Act) → m ≡ answered ++ told_acts → t ≡ (first ++ answered) ++ told_acts
    all_first answered told_acts at = is ∙ ap (λ (l : List Act). first ++ l) at ∙ sym (append_assoc first answered told_acts)

    fits_all : (answered : List Act) (j : Outside) → Fits (events_in answered) k j → Fits (events_in (first ++ answered)) a j
    fits_all answered j f = fits_joined first answered a k j before f

    module _ (answered : List Act) (j : Outside) (f : Fits (events_in answered) k j) where
      quiet : (q : Session) → AnswersAll p (dated_at s now) answered q → Silent a j
      quiet q h = silent_then a k j still (silent (events_in answered) k j (session_keeps IsQuiet (λ _. tt) tt (λ _. tt) tt tt p (dated_at s now) answered q h) f)

      new_entries : added_in answered ≡ added_in (first ++ answered)
      new_entries = sym (added_more first answered ∙ ap (λ (l : List Entry). l ++ added_in answered) none)

      given : left_of Link k.view ≡ next_link a.view
      given = ap (left_of Link) view

      session_as : (out : List ℕ) (x : ServerState) (new : List Entry) (e : SessionEnd) → commands.Session p s now (left_of Link k.view) out x new e → commands.Session p s (get_or a.view.moments 0 0) (next_link a.view) out x new e
      session_as out x new e h = subst (λ (n : ℕ). commands.Session p s n (next_link a.view) out x new e) moment (subst (λ (l : List ℕ). commands.Session p s now l out x new e) given h)

      session_back : (out : List ℕ) (x : ServerState) (new : List Entry) (e : SessionEnd) → commands.Session p s (get_or a.view.moments 0 0) (next_link a.view) out x new e → commands.Session p s now (left_of Link k.view) out x new e
      session_back out x new e h = subst (λ (n : ℕ). commands.Session p s n (left_of Link k.view) out x new e) (sym moment) (subst (λ (l : List ℕ). commands.Session p s (get_or a.view.moments 0 0) l out x new e) (sym given) h)

      failed_at : (x : ServerState) (end : Result ℕ SessionFault) → AnswersAll p (dated_at s now) answered (over x end) → end ≡ Err session.LinkFault → Failed p s (first ++ answered) a
      failed_at x end h ends =
          let broke : AnswersAll p (dated_at s now) answered (over x (Err session.LinkFault)) = subst (λ (z : Result ℕ SessionFault). AnswersAll p (dated_at s now) answered (over x z)) ends h in
          record {
            failed = link_last first answered (session_cause p (dated_at s now) x answered broke);
            short = λ reliable good bytes out v new e other whole.
                (let more = link_short p good s now answered x k j broke f (ap (written_of outs.Link) view ∙ none_sent a.view.written.unlinked a.view.written.links) (reliable_on a k keeps reliable) (subst AreBytes (sym given) bytes) out v new e (session_back out v new e other) whole in
                omega (arith, more, keeps.room));
          }

      connected : (x : ServerState) (end : Result ℕ SessionFault) → AnswersAll p (dated_at s now) answered (over x end) → Connected p s (first ++ answered) x end a j
      connected x end h =
          let word = session_known p (dated_at s now) answered (over x end) k j h f in
          let so = sessions_answer p (dated_at s now) answered (over x end) k j h f in
          let over_link : Throughout IsOverLink (events_in answered) = session_keeps IsOverLink (λ _. refl) tt (λ _. tt) tt tt p (dated_at s now) answered (over x end) h in
          let spares : unlinked j.view ≡ unlinked k.view = link_spares k j (events_in answered) over_link f in
          let this : commands.Session p s now (left_of Link k.view) so.sent x (added_in answered) (end_of end) = record { answer = end; calls = so.calls; serves = so.ends; entries = so.entries; word = word; ended = refl } in
          record {
            sent = so.sent;
            session = subst (λ (l : List Entry). commands.Session p s (get_or a.view.moments 0 0) (next_link a.view) so.sent x l (end_of end)) new_entries (session_as so.sent x (added_in answered) (end_of end) this);
            whole = whole_or (Failed p s (first ++ answered) a) end (end_of end) refl (failed_at x end h);
            silent = quiet (over x end) h;
            leaves = λ number. record {
              files = ap (λ (v : View). v.files) spares ∙ ap (λ (v : View). v.files) view;
              moments = ap (λ (v : View). v.moments) spares ∙ ap (λ (v : View). v.moments) view;
              coming = ap (λ (v : View). v.links) spares ∙ ap (λ (v : View). v.links) view;
              state_name = ap (λ (v : View). v.state_name) spares ∙ ap (λ (v : View). v.state_name) view;
              state = ap (λ (v : View). v.written.state) spares ∙ ap (λ (v : View). v.written.state) view;
              links = last_link k j (events_in answered) over_link f a.view.written.links so.sent (ap (λ (v : View). v.written.links) view) so.wrote;
              address = ap (λ (v : View). v.address) spares ∙ ap (λ (v : View). v.address) view;
            };
          }

    session_came : (q : Session) (answered : List Act) (later : List Act) (j : Outside) → m ≡ answered ++ later → AnswersAll p (dated_at s now) answered q → Fits (events_in answered) k j → Fits (events_in later) j b → after_session number tally q (later ++ u) r → Came
    session_came (over x end) answered later j at h f g goes = heard (first ++ answered) later x end j (all_first answered later at) (connected answered j f x end h) (fits_all answered j f) g goes
    session_came lost answered later j at h f g goes =
        let lines = line_end keep_fault_line KeepFault (λ status. no_more status) later u r j b g goes in
        let all = all_first answered later at in
        let none_added : added_in later ≡ [] = keep_adds goes in
        broken_off (first ++ answered) later j all
        (record {
          now = now;
          moment = moment;
          answering = answered;
          started = k;
          view = view;
          answered = h;
          fits = f;
          entries = sym (new_entries answered j f);
          fault = happened_last IsKeeperFault first answered (lost_at_fault p (dated_at s now) answered h);
          silent = quiet answered j f lost h;
        })
        none_added
        (line_as (ErrorsFailed (events_in later)) (ErrorsFailed (events_in t)) (λ w. subst (λ (l : List Act). ErrorsFailed (events_in l)) (sym all) (errors_last (first ++ answered) later w)) keep_fault_line (no_more KeepFault) u r j b lines)
      where
        keep_adds : Then TellsKeepFault (λ status. Ends (no_more status)) (later ++ u) r → added_in later ≡ []
        keep_adds h =
            let all : added_in (later ++ u) ≡ [] = ap added_in h.splits ∙ added_more h.first h.rest ∙ ap (λ (l : List Entry). l ++ added_in h.rest) (nothing_added h.first h.does.0 h.does.1) ∙ ap added_in h.goes.0 in
            nothing_follows (added_in later) (added_in u) (sym (added_more later u) ∙ all)

    answered_at : (h : after_moment p number s tally now (m ++ u) r) → Fits (events_in m) k b → Seam m u h.first h.rest → Came
    answered_at h f (within w at cut some) =
        let answers : AnswersAll p (dated_at s now) (m ++ w) h.between = subst (λ (l : List Act). AnswersAll p (dated_at s now) l h.between) at h.does in
        let here = begun_quiet m w k b (session_keeps IsQuiet (λ _. tt) tt (λ _. tt) tt tt p (dated_at s now) (m ++ w) h.between answers) f in
        unheard (some_more u w h.rest cut some) (silent_then a k b still here)
    answered_at h f (past w at follows) =
        let parts = fits_parts m h.first w k b at f in
        session_came h.between h.first w parts.0 at h.does parts.1 parts.2 (subst (λ (l : List Act). after_session number tally h.between l r) follows h.goes)

  -- the clock is read
  module _ (first m : List Act) (is : t ≡ first ++ m) (none : added_in first ≡ []) (k : Outside) (view : k.view ≡ link_taken a.view) (before : Fits (events_in first) a k) (still : Silent a k) where
    clock_read : (now : ℕ) (clock w : List Act) (events : List Event) (j : Outside) → m ≡ clock ++ w → clock ≡ map (λ e. hosted e) events → events ≡ told now ∷ [] → Fits (events_in clock) k j → Fits (events_in w) j b → after_moment p number s tally now (w ++ u) r → Came
    clock_read now clock w events j at hosts event f g goes =
        let o = subst (λ (l : List Event). Fits l k j) event (fits_hosted clock events k j hosts f) in
        let moment : now ≡ get_or a.view.moments 0 0 = o.1.0.0 ∙ ap (λ (v : View). get_or v.moments 0 0) view in
        let taken : j.view ≡ ready a.view = ap (λ (x : Outside). x.view) o.2 ∙ o.1.0.1 ∙ ap (λ (v : View). record v { moments = drop 1 v.moments }) view in
        let joined = fits_joined first clock a k j before f in
        let one : Throughout IsQuiet events = subst (Throughout IsQuiet) (sym event) (tt, tt) in
        let here = silent events k j one (fits_hosted clock events k j hosts f) in
        let nothing : added_in (first ++ clock) ≡ [] = added_more first clock ∙ ap (λ (l : List Entry). l ++ added_in clock) none ∙ nothing_added clock events hosts in
        answered_at (first ++ clock) w (is ∙ ap (λ (l : List Act). first ++ l) at ∙ sym (append_assoc first clock w)) nothing j taken (fits_keeps (events_in (first ++ clock)) a j joined) joined (silent_then a k j still here) now moment goes g (seam w u goes.first goes.rest goes.splits)

    clock_at : (h : after_accept p number s tally true (m ++ u) r) → Fits (events_in m) k b → Seam m u h.first h.rest → Came
    clock_at h f (within w at cut some) =
        let (events, hosts, event) = h.does in
        let one : Throughout IsQuiet (events_in (m ++ w)) = subst (λ (l : List Act). Throughout IsQuiet (events_in l)) at (subst (Throughout IsQuiet) (sym (hosted_events h.first events hosts ∙ event)) (tt, tt)) in
        unheard (some_more u w h.rest cut some) (silent_then a k b still (begun_quiet m w k b one f))
    clock_at h f (past w at follows) =
        let parts = fits_parts m h.first w k b at f in
        let (events, hosts, event) = h.does in
        clock_read h.between h.first w events parts.0 at hosts event parts.1 parts.2 (subst (λ (l : List Act). after_moment p number s tally h.between l r) follows h.goes)

  -- a link is taken, or none
  accept_came : (ok : Bool) (first m : List Act) (events : List Event) (k : Outside) → t ≡ first ++ m → first ≡ map (λ e. hosted e) events → events ≡ accepted ok ∷ [] → Fits (events_in first) a k → Fits (events_in m) k b → after_accept p number s tally ok (m ++ u) r → Came
  accept_came true first m events k is hosts event f g goes =
      let fits = fits_hosted first events a k hosts f in
      let o = subst (λ (l : List Event). Fits l a k) event fits in
      let taken : k.view ≡ link_taken a.view = ap (λ (x : Outside). x.view) o.2 ∙ o.1.0.1 in
      let one : Throughout IsQuiet events = subst (Throughout IsQuiet) (sym event) (tt, tt) in
      clock_at first m is (nothing_added first events hosts) k taken f (silent events a k one fits) goes g (seam m u goes.first goes.rest goes.splits)
  accept_came false first m events k is hosts event f g goes =
      let all : added_in (m ++ u) ≡ [] = ap added_in goes.splits ∙ added_more goes.first goes.rest ∙ ap (λ (l : List Entry). l ++ added_in goes.rest) (nothing_added goes.first goes.does.0 goes.does.1) ∙ ap added_in goes.goes.0 in
      nobody_came first m events k is hosts event (fits_hosted first events a k hosts f) g goes (nothing_follows (added_in m) (added_in u) (sym (added_more m u) ∙ all))

  came_at : (h : ServesNext p number s tally (t ++ u) r) → Fits (events_in t) a b → Seam t u h.first h.rest → Came
  came_at h f (within w at cut some) =
      let (events, hosts, event) = h.does in
      let one : Throughout IsQuiet (events_in (t ++ w)) = subst (λ (l : List Act). Throughout IsQuiet (events_in l)) at (subst (Throughout IsQuiet) (sym (hosted_events h.first events hosts ∙ event)) (tt, tt)) in
      unheard (some_more u w h.rest cut some) (begun_quiet t w a b one f)
  came_at h f (past w at follows) =
      let parts = fits_parts t h.first w a b at f in
      let (events, hosts, event) = h.does in
      accept_came h.between h.first w events parts.0 at hosts event parts.1 parts.2 (subst (λ (l : List Act). after_accept p number s tally h.between l r) follows h.goes)

  pub next_came : ServesNext p number s tally (t ++ u) r → Fits (events_in t) a b → NextCame p number s tally t u r a b
  next_came h f = came_at h f (seam t u h.first h.rest h.splits)
