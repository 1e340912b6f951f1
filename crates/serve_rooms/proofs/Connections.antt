-- Sessions over connections, by their parts.
use Rattle.std.proofs.Common.{◌≡◌, ℕ, ◌+◌, ◌<◌, ◌≤◌, ltb, List, [], ◌∷◌, ◌++◌, map, Bool, true, false, Option, Some, None, Result, refl, sym, subst}
use Rattle.std.specs.Prelude.{option_map}
use Rattle.std.proofs.lemmas.List.{append-nil}
use Rattle.box_server.specs.Servers.{ServerState, dated_at}
use Rattle.box_server.specs.Keeping.{KeeperState}
use Rattle.wire_profile.specs.Indexes.{ProfileView}
use Rattle.outside.specs.Answer.{link_fault_line}
use Rattle.outside.specs.declared.status.Status.{Status}
use Rattle.outside.specs.declared.status.Status.TheVariants.{LinkFault}
use Rattle.outside.specs.Events.{Event, HostState, listened, accepted, told}
use Rattle.outside.specs.Grown.{Grew}
use Rattle.outside.specs.Laws.{Happened, Throughout}
use Rattle.outside.specs.Pieces.{Tells}
use Rattle.outside.specs.Begun.{Did}
use Rattle.outside.specs.Steps.{StepOf, Turn, again, leave, Ends, Calls, Then, Loops}
use Rattle.outside.proofs.Causing.{happened_first, happened_last}
use Rattle.outside.proofs.Growing.{did_call}
use Rattle.outside.proofs.Piecewise.{can_tell}
use Rattle.update_sessions.specs.declared.fault.SessionFault.{SessionFault}
use Rattle.serve_rooms.specs.Acts.{Act, hosted, IsKeeperFault, KeptState, beside}
use Rattle.serve_rooms.specs.Answering.{AnswersAll, Session, over, lost}
use Rattle.serve_rooms.specs.Doing.{Hosted, IsKept, BeginsKept, DidKept}
use Rattle.serve_rooms.specs.Telling.{Told, goes_on, is_over, TellsEnd}
use Rattle.serve_rooms.specs.Sessions.{Next, more, no_more, keep_fault_line, TellsKeepFault, after_telling, after_session, after_moment, after_accept, ServesNext, Serving, turn_of, serves_by, ServesOn, after_listen, ServesAll}
use Rattle.serve_rooms.specs.declared.status.KeptStatus.{KeptStatus}
use Rattle.serve_rooms.specs.declared.status.KeptStatus.TheVariants.{Run, KeepFault}
use Rattle.serve_rooms.specs.declared.telling.Tally.{Tally}
use Rattle.session_rooms.proofs.Conversations.{is_less, not_less}
use Rattle.serve_rooms.proofs.Answered.{lost_at_fault}
use Rattle.serve_rooms.proofs.Doing.{Turned, Leaves, can_end, can_host, can_last, can_then, can_then_by, did_host, did_last, did_nothing, did_stop, did_then, kept_hosted_all, loop_left, loop_stopped, turned_more}
use Rattle.serve_rooms.proofs.ToldEnds.{can_tell_end}

-- ---- what can follow

-- a call of the host can fail
can_fail : (event : Bool → Event) → BeginsKept (Hosted (Calls event)) []
can_fail event = record { rest = hosted (event false) ∷ []; answer = false; kept = (tt, tt); whole = (event false ∷ [], refl, refl) }

can_after_telling : (s : ServerState) (told : Told) → BeginsKept (after_telling s told) []
can_after_telling s (goes_on tally) = can_end (more s tally)
can_after_telling s (is_over status) = can_end (no_more (Run status))

pub can_keep_fault : BeginsKept TellsKeepFault []
can_keep_fault = can_host (Tells keep_fault_line KeepFault) (can_tell keep_fault_line KeepFault)

can_after_session : (number : ℕ) (tally : Tally) (x : Session) → BeginsKept (after_session number tally x) []
can_after_session number tally (over s end) = can_then (Hosted (TellsEnd number tally end)) (after_telling s) (can_host _ (can_tell_end number tally end)) (can_after_telling s)
can_after_session number tally lost = can_then TellsKeepFault (λ (status : KeptStatus). Ends (no_more status)) can_keep_fault (λ status. can_end (no_more status))

-- nobody can be listened to
pub can_serve_all : (address : List ℕ) (sessions : ℕ) (s : ServerState) (p : ProfileView) → BeginsKept (ServesAll address sessions s p) []
unfolding can_fail
can_serve_all address sessions s p = can_then_by (Hosted (Calls (listened address))) (after_listen p sessions s) (can_fail (listened address)) (can_last _ (can_tell link_fault_line LinkFault))

-- ---- a keeper's fault

module _ (p : ProfileView) where
  telling_faulty : (s : ServerState) (x : Told) (t : List Act) → after_telling s x t (no_more KeepFault) → ⊥
  telling_faulty s (goes_on tally) t h = absurd (let no : no_more KeepFault ≡ more s tally = h.1 in cc)
  telling_faulty s (is_over status) t h = absurd (let no : no_more KeepFault ≡ no_more (Run status) = h.1 in cc)

  session_faulty : (number now : ℕ) (tally : Tally) (s : ServerState) (x : Session) (t u : List Act) → AnswersAll p s t x → after_session number tally x u (no_more KeepFault) → Happened IsKeeperFault (t ++ u)
  session_faulty number now tally s (over r end) t u answers h = absurd (telling_faulty r h.between h.rest h.goes)
  session_faulty number now tally s lost t u answers h = happened_first IsKeeperFault t u (lost_at_fault p s t answers)

  moment_faulty : (number now : ℕ) (s : ServerState) (tally : Tally) (t : List Act) → after_moment p number s tally now t (no_more KeepFault) → Happened IsKeeperFault t
  moment_faulty number now s tally t h = subst (Happened IsKeeperFault) (sym h.splits) (session_faulty number now tally (dated_at s now) h.between h.first h.rest h.does h.goes)

  accept_faulty : (number : ℕ) (s : ServerState) (tally : Tally) (ok : Bool) (t : List Act) → after_accept p number s tally ok t (no_more KeepFault) → Happened IsKeeperFault t
  accept_faulty number s tally true t h = subst (Happened IsKeeperFault) (sym h.splits) (happened_last IsKeeperFault h.first h.rest (moment_faulty number h.between s tally h.rest h.goes))
  accept_faulty number s tally false t h = absurd (let no : no_more KeepFault ≡ no_more (Run h.between) = h.goes.1 in cc)

  next_faulty : (number : ℕ) (s : ServerState) (tally : Tally) (t : List Act) → ServesNext p number s tally t (no_more KeepFault) → Happened IsKeeperFault t
  next_faulty number s tally t h = subst (Happened IsKeeperFault) (sym h.splits) (happened_last IsKeeperFault h.first h.rest (accept_faulty number s tally h.between h.rest h.goes))

  turned_faulty : (x : Serving) (r : Next) (t : List Act) → ServesNext p x.number x.server x.tally t r → ◌≡◌ {A = Turn Serving KeptStatus} (leave KeepFault) (turn_of x.number r) → Happened IsKeeperFault t
  turned_faulty x (more s tally) t h is = absurd (let no : ◌≡◌ {A = Turn Serving KeptStatus} (leave KeepFault) (again (record { number = x.number + 1; server = s; tally = tally })) = is in cc)
  turned_faulty x (no_more status) t h is =
      let same : status ≡ KeepFault = (let e : ◌≡◌ {A = Turn Serving KeptStatus} (leave KeepFault) (leave status) = is in cc) in
      next_faulty x.number x.server x.tally t (subst (λ (y : KeptStatus). ServesNext p x.number x.server x.tally t (no_more y)) same h)

  turn_faulty : (more : Bool) (x : Serving) (t : List Act) → serves_by p more x t (leave KeepFault) → Happened IsKeeperFault t
  turn_faulty false x t h = absurd (let no : ◌≡◌ {A = Turn Serving KeptStatus} (leave KeepFault) (leave (Run x.tally.status)) = h.1 in cc)
  turn_faulty true x t h = subst (Happened IsKeeperFault) (sym h.splits) (happened_first IsKeeperFault h.first h.rest (turned_faulty x h.between h.first h.does h.goes.1))

  listen_faulty : (sessions : ℕ) (s : ServerState) (ok : Bool) (t : List Act) → after_listen p sessions s ok t KeepFault → Happened IsKeeperFault t
  listen_faulty sessions s true t h = subst (Happened IsKeeperFault) (sym h.splits) (happened_last IsKeeperFault h.first h.rest (turn_faulty (ltb h.between.number sessions) h.between h.rest h.goes))
  listen_faulty sessions s false t h = absurd (let no : KeepFault ≡ Run h.between = h.goes.1 in cc)

-- a run ends by a keeper's fault only where a call to the keeper failed
pub faulty : (address : List ℕ) (sessions : ℕ) (s : ServerState) (p : ProfileView) (t : List Act) → ServesAll address sessions s p t KeepFault → Happened IsKeeperFault t
faulty address sessions s p t h = subst (Happened IsKeeperFault) (sym h.splits) (happened_last IsKeeperFault h.first h.rest (listen_faulty p sessions s h.between h.rest h.goes))

-- ---- one session

-- a step, and what its answer is taken for
did_map : {A B : Type 0} (S : StepOf Act A) (f : A → B) (a b : KeptState) (x : Option A) → DidKept S a b x → DidKept (Then S (λ y. Ends (f y))) a b (option_map f x)
did_map S f a b (Some y) h = did_then S (λ z. Ends (f z)) a b b y (Some (f y)) h (did_nothing b (f y))
did_map S f a b None h = did_stop S (λ z. Ends (f z)) a b (λ z. can_end (f z)) h

-- a call of the host
did_event : {A : Type 0} (event : A → Event) (p q : HostState) (k : KeeperState) (x : A) → Grew p (event x ∷ []) q → DidKept (Hosted (Calls event)) (beside p k) (beside q k) (Some x)
did_event event p q k x g = did_host {outs = []} (Calls event) p q k (Some x) (did_call event p q x g)

module _ (number : ℕ) (tally : Tally) (s : ServerState) (end : Result ℕ SessionFault) (p q : HostState) (k : KeeperState) where
  pub goes_on_told : (after : Tally) → Did (TellsEnd number tally end) p q (Some (goes_on after)) → DidKept (after_session number tally (over s end)) (beside p k) (beside q k) (Some (more s after))
  goes_on_told after h = did_then (Hosted (TellsEnd number tally end)) (after_telling s) (beside p k) (beside q k) (beside q k) (goes_on after) _ (did_host _ p q k (Some (goes_on after)) h) (did_nothing (beside q k) (more s after))

  pub over_told : (status : Status) → Did (TellsEnd number tally end) p q (Some (is_over status)) → DidKept (after_session number tally (over s end)) (beside p k) (beside q k) (Some (no_more (Run status)))
  over_told status h = did_then (Hosted (TellsEnd number tally end)) (after_telling s) (beside p k) (beside q k) (beside q k) (is_over status) _ (did_host _ p q k (Some (is_over status)) h) (did_nothing (beside q k) (no_more (Run status)))

  pub none_told : Did (TellsEnd number tally end) p q None → DidKept (after_session number tally (over s end)) (beside p k) (beside q k) None
  none_told h = did_stop (Hosted (TellsEnd number tally end)) (after_telling s) (beside p k) (beside q k) (can_after_telling s) (did_host _ p q k None h)

module _ (p : ProfileView) (number now : ℕ) (s d : ServerState) (dated : d ≡ dated_at s now) (tally : Tally) (a : KeptState) where
  by_date : (c : KeptState) (x : Option Next) → DidKept (Then (AnswersAll p d) (after_session number tally)) a c x → DidKept (after_moment p number s tally now) a c x
  by_date c x h = subst (λ (y : ServerState). DidKept (Then (AnswersAll p y) (after_session number tally)) a c x) dated h

  pub session_told : (b c : KeptState) (r : ServerState) (end : Result ℕ SessionFault) (x : Option Next) → DidKept (AnswersAll p d) a b (Some (over r end)) → DidKept (after_session number tally (over r end)) b c x → DidKept (after_moment p number s tally now) a c x
  session_told b c r end x h then_so = by_date c x (did_then (AnswersAll p d) (after_session number tally) a b c (over r end) x h then_so)

  pub session_left : (b : KeptState) → DidKept (AnswersAll p d) a b None → DidKept (after_moment p number s tally now) a b None
  session_left b h = by_date b None (did_stop (AnswersAll p d) (after_session number tally) a b (can_after_session number tally) h)

  -- the keeper's fault is told
  pub session_lost : (q r : HostState) (k : KeeperState) (status : KeptStatus) → DidKept (AnswersAll p d) a (beside q k) (Some lost) → Did (Tells keep_fault_line KeepFault) q r (Some status) → DidKept (after_moment p number s tally now) a (beside r k) (Some (no_more status))
  session_lost q r k status h told_so =
      by_date (beside r k) (Some (no_more status))
      (did_then (AnswersAll p d) (after_session number tally) a (beside q k) (beside r k) lost (Some (no_more status)) h
      (did_map TellsKeepFault (λ x. no_more x) (beside q k) (beside r k) (Some status) (did_host (Tells keep_fault_line KeepFault) q r k (Some status) told_so)))

module _ (p : ProfileView) (number : ℕ) (s : ServerState) (tally : Tally) (a b c : HostState) (k : KeeperState) where
  pub next_served : (now : ℕ) (e : KeptState) (x : Option Next) → Grew a (accepted true ∷ []) b → Grew b (told now ∷ []) c → DidKept (after_moment p number s tally now) (beside c k) e x → DidKept (ServesNext p number s tally) (beside a k) e x
  next_served now e x taken clock h =
      did_then (Hosted (Calls accepted)) (after_accept p number s tally) (beside a k) (beside b k) e true x (did_event accepted a b k true taken)
      (did_then (Hosted (Calls told)) (after_moment p number s tally) (beside b k) (beside c k) e now x (did_event told b c k now clock) h)

  pub nobody_served : (status : Status) → Grew a (accepted false ∷ []) b → Did (Tells link_fault_line LinkFault) b c (Some status) → DidKept (ServesNext p number s tally) (beside a k) (beside c k) (Some (no_more (Run status)))
  nobody_served status taken h =
      did_then (Hosted (Calls accepted)) (after_accept p number s tally) (beside a k) (beside b k) (beside c k) false _ (did_event accepted a b k false taken)
      (did_map (Hosted (Tells link_fault_line LinkFault)) (λ status. no_more (Run status)) (beside b k) (beside c k) (Some status) (did_host _ b c k (Some status) h))

-- ---- all sessions

module _ (p : ProfileView) (sessions : ℕ) where
  abbrev LeftBy : Bool → Serving → Type 0
  LeftBy goes x = (t : List Act) × (r : KeptStatus) × Throughout IsKept t × serves_by p goes x t (leave r)

  -- sessions can end, wherever they are: nobody is taken
  leaves_by : (goes : Bool) (x : Serving) → LeftBy goes x
  leaves_by false x = ([], Run x.tally.status, tt, (refl, refl))
  leaves_by true x =
      let m = can_tell link_fault_line LinkFault in
      let told = map (λ e. hosted e) m.rest in (
        hosted (accepted false) ∷ told,
        Run m.answer,
        (tt, kept_hosted_all m.rest),
        record {
          first = hosted (accepted false) ∷ told;
          rest = [];
          between = no_more (Run m.answer);
          splits = sym (append-nil (hosted (accepted false) ∷ told));
          does = record {
            first = hosted (accepted false) ∷ [];
            rest = told;
            between = false;
            splits = refl;
            does = (accepted false ∷ [], refl, refl);
            goes = record { first = told; rest = []; between = m.answer; splits = sym (append-nil told); does = (m.rest, refl, m.whole); goes = (refl, refl) };
          };
          goes = (refl, refl);
        },
      )

  leaves_at : (x : Serving) → Leaves (ServesOn p sessions) x
  leaves_at x = let l = leaves_by (ltb x.number sessions) x in record { trace = l.0; answer = l.1; kept = l.2; does = l.3 }

  served_turn : (x : Serving) (a b : KeptState) (r : Option Next) → x.number < sessions → DidKept (ServesNext p x.number x.server x.tally) a b r → DidKept (ServesOn p sessions x) a b (option_map (turn_of x.number) r)
  served_turn x a b r few h =
      subst (λ (goes : Bool). DidKept (serves_by p goes x) a b (option_map (turn_of x.number) r)) (sym (is_less x.number sessions few)) (did_map (ServesNext p x.number x.server x.tally) (turn_of x.number) a b r h)

  module _ (start x : Serving) (a b : KeptState) (g : Turned (ServesOn p sessions) start a b x) where
    pub one_more : (s : ServerState) (tally : Tally) (c : KeptState) → x.number < sessions → DidKept (ServesNext p x.number x.server x.tally) b c (Some (more s tally))
        → Turned (ServesOn p sessions) start a c (record { number = x.number + 1; server = s; tally = tally })
    one_more s tally c few h =
        let n : Serving = record { number = x.number + 1; server = s; tally = tally } in
        turned_more (ServesOn p sessions) start x n (again n) a b c refl g (served_turn x b c (Some (more s tally)) few h)

    pub last_one : (r : Option KeptStatus) (c : KeptState) → x.number < sessions → DidKept (ServesNext p x.number x.server x.tally) b c (option_map (λ status. no_more status) r) → DidKept (Loops (ServesOn p sessions) start) a c r
    last_one (Some status) c few h = loop_left (ServesOn p sessions) start x (leave status) status a b c refl g (served_turn x b c (Some (no_more status)) few h)
    last_one None c few h = loop_stopped (ServesOn p sessions) start x a b c leaves_at g (served_turn x b c None few h)

    pub all_served : sessions ≤ x.number → DidKept (Loops (ServesOn p sessions) start) a b (Some (Run x.tally.status))
    all_served many =
        let r = Run x.tally.status in
        loop_left (ServesOn p sessions) start x (leave r) r a b b refl g (subst (λ (goes : Bool). DidKept (serves_by p goes x) b b (Some (leave r))) (sym (not_less x.number sessions many)) (did_nothing b (leave r)))

module _ (address : List ℕ) (sessions : ℕ) (s : ServerState) (p : ProfileView) (a b : HostState) (k : KeeperState) where
  pub listening_served : (e : KeptState) (x : Option KeptStatus) → Grew a (listened address true ∷ []) b → DidKept (after_listen p sessions s true) (beside b k) e x → DidKept (ServesAll address sessions s p) (beside a k) e x
  listening_served e x heard h = did_then (Hosted (Calls (listened address))) (after_listen p sessions s) (beside a k) (beside b k) e true x (did_event (listened address) a b k true heard) h

  pub nobody_listened : (c : HostState) (status : Status) → Grew a (listened address false ∷ []) b → Did (Tells link_fault_line LinkFault) b c (Some status) → DidKept (ServesAll address sessions s p) (beside a k) (beside c k) (Some (Run status))
  nobody_listened c status heard h =
      did_then (Hosted (Calls (listened address))) (after_listen p sessions s) (beside a k) (beside b k) (beside c k) false _ (did_event (listened address) a b k false heard) (did_last (Tells link_fault_line LinkFault) b c k status h)
