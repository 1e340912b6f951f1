-- Laws of `serve` and `keep`.
use Rattle.std.proofs.Common.{◌≡◌, inl, codes, ltb, ℕ, List, [], ◌∷◌, ◌++◌, map, Bool, true, false, true≢false, Option, Some, None, Result, Ok, Err, refl, sym, ap, ◌∙◌, subst}
use Rattle.std.proofs.lemmas.List.{append_assoc}
use Rattle.tl_base.specs.declared.counts.Kind.TheVariants as kinds
use Rattle.tl_base.specs.declared.host.Slot.TheVariants as slots
use Rattle.tl_base.specs.declared.host.Out.TheVariants as outs
use Rattle.tl_schema.specs.Schemas.{Declared}
use Rattle.box_events.specs.declared.requests.Numbered.{Numbered}
use Rattle.box_server.specs.Servers.{ServerState, new_server, dated_at}
use Rattle.wire_profile.specs.Indexes.{ProfileView}
use Rattle.outside.specs.Answer.{link_fault_line, memory_line, read_fault_line, refused, write_fault_line}
use Rattle.outside.specs.declared.status.Status.{Status}
use Rattle.outside.specs.declared.status.Status.TheVariants as statuses
use Rattle.fault_lines.specs.Profiled.{form_line}
use Rattle.schema_files.specs.Lines.{schema_line}
use Rattle.schema_files.specs.declared.schema_text.TheConstants.{SCHEMA_BYTES}
use Rattle.outside.specs.Events.{Event, listened, accepted}
use Rattle.outside.specs.Laws.{Happened, Throughout, IsFailure, IsFromLink, Explains, HasCause}
use Rattle.outside.specs.Packets.{PacketView, whole, TakesPacket}
use Rattle.outside.specs.Packets as packets
use Rattle.outside.specs.Pieces.{ReadsFile, Tells, Writes}
use Rattle.outside.specs.Printing.{Prints, Unread}
use Rattle.outside.specs.Runs.{RunsIn}
use Rattle.outside.specs.Runs as runs
use Rattle.outside.specs.Steps.{Step, Turn, again, leave, Calls, Reaches, here, turn}
use Rattle.outside.proofs.Causing.{cause_print, cause_run, cause_tell, explains_first, explains_last, happened_first, happened_last, keeps_begun, keeps_tell, throughout_both, throughout_first, told_status, unread_file, unwritten}
use Rattle.outside.proofs.TakenPackets.{IsUnbroken, broken_packet, packet_came}
use Rattle.update_sessions.specs.declared.fault.SessionFault.{SessionFault}
use Rattle.update_sessions.specs.declared.fault.SessionFault.TheVariants as session
use Rattle.update_sessions.specs.declared.fault.TheConstants.{MAX_FRAMES}
use Rattle.update_sessions.specs.Packed.{SpellsFrame}
use Rattle.update_sessions.specs.Serving.{after_request, sent_for}
use Rattle.session_commands.specs.Keep.{bad_entry_line}
use Rattle.session_commands.specs.Lines.{served_line}
use Rattle.session_commands.specs.Serve.{first_fault}
use Rattle.session_commands.specs.SessionEnds.{session_line}
use Rattle.session_rooms.specs.Sending.{Sends}
use Rattle.session_rooms.proofs.SentMessages.{unsent}
use Rattle.serve_rooms.specs.Acts.{Act, Loading, hosted, loaded, added, rebuilds, unaccepted, unread, events_in, IsKeeperFault}
use Rattle.serve_rooms.specs.Answering.{Answered, goes_on, has_ended, fails, unkept, after_sending, after_adding, AnswersBytes, no_call, answers, after_packet, AnswersNext, Session, over, lost, Served, answers_by, AnswersOn, AnswersAll}
use Rattle.serve_rooms.specs.Answering as answering
use Rattle.serve_rooms.specs.Doing.{Hosted, Last, to_serve}
use Rattle.serve_rooms.specs.Doing as doing
use Rattle.serve_rooms.specs.Serve.{EndsBy, OfText, no_schema, schema_of, after_reading, LoadsSchema, OfProfile, OfSchema, no_profile, profiled, after_loading, OfProfiled, after_opening, OpensAndServes, keeps, serves}
use Rattle.serve_rooms.specs.ServeLaws.{IsOfServe, KeepTouches, IsListening, IsUnread, ReadsFirst, KeepReadsFirst, ExplainsKept, KeepHasCause}
use Rattle.serve_rooms.specs.Sessions.{Next, more, no_more, keep_fault_line, after_telling, after_session, after_moment, after_accept, ServesNext, Serving, turn_of, serves_by, ServesOn, after_listen, ServesAll}
use Rattle.serve_rooms.specs.Telling.{Told, is_over, new_tally, TellsFault, after_line, fault_told, TellsEnd}
use Rattle.serve_rooms.specs.Telling as telling
use Rattle.serve_rooms.specs.declared.loading.Loaded.{Loaded}
use Rattle.serve_rooms.specs.declared.loading.Loaded.TheVariants as schema
use Rattle.serve_rooms.specs.declared.status.KeptStatus.{KeptStatus}
use Rattle.serve_rooms.specs.declared.status.KeptStatus.TheVariants.{Run, KeepFault}
use Rattle.serve_rooms.specs.declared.telling.Tally.{Tally}
use Rattle.serve_rooms.proofs.Acting.{events_more, events_hosted}
use Rattle.serve_rooms.proofs.Connections.{faulty}
use Rattle.serve_rooms.proofs.Touching.{keeps_load, tells, prints_refusal, keeps_last, keeps_opening, keeps_begun_kept, IsTouched, touched, keeps_serve, keeps_keep}
use Rattle.session_rooms.proofs.ClientLaws.{IsBlamed, IsEnded, has_line}

-- no run of `serve` does anything else, also one that runs out of memory
pub serve_touches : (schema address : List ℕ) (sessions : ℕ) (t : List Event) (status : Status) → RunsIn to_serve (serves schema address sessions) t status → Throughout (IsOfServe schema address) t
serve_touches schema_name address sessions t s (runs.done h) = keeps_serve schema_name address sessions t s h
serve_touches schema_name address sessions t s (runs.out_of_memory h) =
    let P = IsOfServe schema_name address in
    subst (Throughout P) (sym h.splits)
    (throughout_both P h.first h.rest (keeps_begun P (serves schema_name address sessions) h.first (keeps_serve schema_name address sessions) h.does.0) (keeps_tell P (λ _. tt) tt memory_line h.between h.rest s h.goes))

pub keep_touches : KeepTouches
keep_touches schema_name address sessions t s (doing.done h) = touched schema_name address t (keeps_keep schema_name address sessions t s h)
keep_touches schema_name address sessions t s (doing.out_of_memory h) =
    let Q = IsTouched schema_name address in
    touched schema_name address t
    (subst (Throughout Q) (sym h.splits)
    (throughout_both Q h.first h.rest (keeps_begun_kept Q (keeps schema_name address sessions) h.first (keeps_keep schema_name address sessions) h.does.0)
    (keeps_last schema_name address Q (λ e of. of) (λ e ok. tt) (Tells memory_line h.between) (tells schema_name address memory_line h.between) h.rest s h.goes)))

-- ---- when a keeper is read

reads_after : (t : List Act) → Throughout IsUnread t → ReadsFirst t
reads_after [] h = tt
reads_after (hosted e ∷ t) h = (λ _. h.1, reads_after t h.1)
reads_after (loaded by ∷ t) h = absurd h.0
reads_after (added e ok ∷ t) h = reads_after t h.1

reads_begun : (t u : List Act) → ReadsFirst (t ++ u) → ReadsFirst t
reads_begun [] u h = tt
reads_begun (hosted e ∷ t) u h = (λ listens. throughout_first IsUnread t u (h.0 listens), reads_begun t u h.1)
reads_begun (loaded by ∷ t) u h = reads_begun t u h
reads_begun (added e ok ∷ t) u h = reads_begun t u h

reads_more : (t u : List Act) → ReadsFirst t → Throughout IsUnread u → ReadsFirst (t ++ u)
reads_more [] u h after = reads_after u after
reads_more (hosted e ∷ t) u h after = (λ listens. throughout_both IsUnread t u (h.0 listens) after, reads_more t u h.1 after)
reads_more (loaded by ∷ t) u h after = reads_more t u h after
reads_more (added e ok ∷ t) u h after = reads_more t u h after

abbrev IsSilent : Event → Type 0
IsSilent e = IsListening e → ⊥

reads_silent : (t : List Event) (u : List Act) → Throughout IsSilent t → ReadsFirst u → ReadsFirst (map (λ e. hosted e) t ++ u)
reads_silent [] u silent h = h
reads_silent (e ∷ t) u silent h = (λ listens. absurd (silent.0 listens), reads_silent t u silent.1 h)

module _ (schema_name address : List ℕ) (sessions : ℕ) where
  reads_opening : (p : ProfileView) (t : List Act) (status : KeptStatus) → OpensAndServes address sessions p t status → ReadsFirst t
  reads_opening p t status h = subst ReadsFirst (sym h.splits) (subst (λ (l : List Act). ReadsFirst (l ++ h.rest)) (sym h.does) (reads_after h.rest (keeps_opening schema_name address IsUnread (λ e of. tt) (λ e ok. tt) sessions p h.between h.rest status h.goes)))

  reads_schema : (S : Declared) (t : List Act) (status : KeptStatus) → OfSchema (OpensAndServes address sessions) S t status → ReadsFirst t
  reads_schema S t status (no_profile fault lacks h) = reads_after t (keeps_last schema_name address IsUnread (λ e of. tt) (λ e ok. tt) (Prints (refused (form_line fault))) (prints_refusal schema_name address (form_line fault)) t status h)
  reads_schema S t status (profiled p is h) = reads_opening p t status h

  reads_loaded : (r : Loaded) (t : List Act) (status : KeptStatus) → after_loading (OpensAndServes address sessions) r t status → ReadsFirst t
  reads_loaded (schema.Schema S) t status h = reads_schema S t status h
  reads_loaded (schema.Ended given) t status h = subst ReadsFirst (sym h.0) tt

  reads_keep : (t : List Act) (status : KeptStatus) → keeps schema_name address sessions t status → ReadsFirst t
  reads_keep t status h =
      let (events, is, loads) = h.does in
      let silent = keeps_load IsSilent (λ _ is. is) (λ is. is) (λ _ is. is) (λ is. is) schema_name (λ ok is. is) (λ _ is. is) (λ is. is) (λ is. is) events h.between loads in
      subst ReadsFirst (sym h.splits) (subst (λ (l : List Act). ReadsFirst (l ++ h.rest)) (sym is) (reads_silent events h.rest silent (reads_loaded h.between h.rest status h.goes)))

pub keep_reads_first : KeepReadsFirst
keep_reads_first schema_name address sessions t s (doing.done h) = reads_keep schema_name address sessions t s h
keep_reads_first schema_name address sessions t s (doing.out_of_memory h) =
    let m = h.does.0 in
    subst ReadsFirst (sym h.splits)
    (reads_more h.first h.rest (reads_begun h.first m.rest (reads_keep schema_name address sessions (h.first ++ m.rest) m.answer m.whole))
    (keeps_last schema_name address IsUnread (λ e of. tt) (λ e ok. tt) (Tells memory_line h.between) (tells schema_name address memory_line h.between) h.rest s h.goes))

-- ---- causes

-- what holds of a part of the host's events, of more acts
at_first : (R : List Event → Type 0) → ((t u : List Event) → R t → R (t ++ u)) → (t u : List Act) → R (events_in t) → R (events_in (t ++ u))
at_first R first t u h = subst R (sym (events_more t u)) (first (events_in t) (events_in u) h)

at_last : (R : List Event → Type 0) → ((t u : List Event) → R u → R (t ++ u)) → (t u : List Act) → R (events_in u) → R (events_in (t ++ u))
at_last R last t u h = subst R (sym (events_more t u)) (last (events_in t) (events_in u) h)

host_events : (t : List Act) (events : List Event) → t ≡ map (λ e. hosted e) events → events_in t ≡ events
host_events t events is = ap events_in is ∙ events_hosted events

came_first : (t u : List Act) → Happened IsFromLink (events_in t) → Happened IsFromLink (events_in (t ++ u))
came_first = at_first (Happened IsFromLink) (happened_first IsFromLink)

blamed_first : (line : Option (List ℕ)) (t u : List Event) → IsBlamed line t → IsBlamed line (t ++ u)
blamed_first (Some line) t u h = happened_first IsFromLink t u h
blamed_first None t u h = happened_first (IsFailure kinds.Links) t u h

blamed_last : (line : Option (List ℕ)) (t u : List Event) → IsBlamed line u → IsBlamed line (t ++ u)
blamed_last (Some line) t u h = happened_last IsFromLink t u h
blamed_last None t u h = happened_last (IsFailure kinds.Links) t u h

-- ---- a packet

abbrev IsAnswered : Answered → List Event → Type 0
IsAnswered (goes_on s) t = Happened IsFromLink t
IsAnswered (has_ended s) t = Unit {0}
IsAnswered (fails s fault) t = IsEnded fault t
IsAnswered unkept t = Unit {0}

answered_first : (a : Answered) (t u : List Event) → IsAnswered a t → IsAnswered a (t ++ u)
answered_first (goes_on s) t u h = happened_first IsFromLink t u h
answered_first (has_ended s) t u h = tt
answered_first (fails s fault) t u h = blamed_first (session_line fault) t u h
answered_first unkept t u h = tt

answered_last : (a : Answered) (t u : List Event) → IsAnswered a u → IsAnswered a (t ++ u)
answered_last (goes_on s) t u h = happened_last IsFromLink t u h
answered_last (has_ended s) t u h = tt
answered_last (fails s fault) t u h = blamed_last (session_line fault) t u h
answered_last unkept t u h = tt

came_at : (m : PacketView) (t : List Act) → Hosted (TakesPacket slots.Link) t m → IsUnbroken m → Happened IsFromLink (events_in t)
came_at m t (events, is, h) unbroken = subst (Happened IsFromLink) (sym (host_events t events is)) (packet_came events m h unbroken)

abbrev IsEnd : Result ℕ SessionFault → List Event → Type 0
IsEnd (Ok n) t = Unit {0}
IsEnd (Err fault) t = IsEnded fault t

end_last : (end : Result ℕ SessionFault) (t u : List Event) → IsEnd end u → IsEnd end (t ++ u)
end_last (Ok n) t u h = tt
end_last (Err fault) t u h = blamed_last (session_line fault) t u h

abbrev IsOver : Session → List Event → Type 0
IsOver (over s end) t = IsEnd end t
IsOver lost t = Unit {0}

over_last : (r : Session) (t u : List Event) → IsOver r u → IsOver r (t ++ u)
over_last (over s end) t u h = end_last end t u h
over_last lost t u h = tt

abbrev IsTurned : Turn Served Session → List Event → Type 0
IsTurned (again x) t = Happened IsFromLink t
IsTurned (leave r) t = IsOver r t

turned : (n : ℕ) (a : Answered) (t : List Event) → IsAnswered a t → IsTurned (answering.turn_of n a) t
turned n (goes_on s) t h = h
turned n (has_ended s) t h = tt
turned n (fails s fault) t h = h
turned n unkept t h = tt

module _ (p : ProfileView) where
  sending_cause : (s : ServerState) (c : Numbered) (x : ServerState) (ok : Bool) (r : Answered) (b t u : List Act) → Happened IsFromLink (events_in b) → Hosted (Sends (SpellsFrame p) (sent_for x c.number c.request)) t ok → after_sending s ok u r → IsAnswered r (events_in (b ++ (t ++ u)))
  sending_cause s c x true r b t u came sent h = subst (λ (a : Answered). IsAnswered a (events_in (b ++ (t ++ u)))) (sym h.1) (came_first b (t ++ u) came)
  sending_cause s c x false r b t u came (events, is, sent) h =
      let Failed = Happened (IsFailure kinds.Links) in
      subst (λ (a : Answered). IsAnswered a (events_in (b ++ (t ++ u)))) (sym h.1)
      (at_last Failed (happened_last (IsFailure kinds.Links)) b (t ++ u) (at_first Failed (happened_first (IsFailure kinds.Links)) t u (subst Failed (sym (host_events t events is)) (unsent (SpellsFrame p) (sent_for x c.number c.request) events sent))))

  adding_cause : (s : ServerState) (c : Numbered) (ok : Bool) (r : Answered) (b u : List Act) → Happened IsFromLink (events_in b) → after_adding p s c ok u r → IsAnswered r (events_in (b ++ u))
  adding_cause s c true r b u came h = subst (λ (l : List Act). IsAnswered r (events_in (b ++ l))) (sym h.splits) (sending_cause (after_request s c.request) c s h.between r b h.first h.rest came h.does h.goes)
  adding_cause s c false r b u came h = subst (λ (a : Answered). IsAnswered a (events_in (b ++ u))) (sym h.1) tt

  bytes_cause : (s : ServerState) (bytes : List ℕ) (r : Answered) (b u : List Act) → Happened IsFromLink (events_in b) → AnswersBytes p s bytes u r → IsAnswered r (events_in (b ++ u))
  bytes_cause s bytes r b u came (no_call f refuses none is) =
      subst (λ (a : Answered). IsAnswered a (events_in (b ++ u))) (sym is) (has_line (session.Wire f) (events_in (b ++ u)) _ refl (came_first b u came))
  bytes_cause s bytes r b u came (answers c means h) =
      subst (λ (l : List Act). IsAnswered r (events_in (b ++ l))) (sym h.splits)
      (subst (λ (l : List Act). IsAnswered r (events_in l)) (append_assoc b h.first h.rest) (adding_cause s c h.between r (b ++ h.first) h.rest (came_first b h.first came) h.goes))

  packet_cause : (s : ServerState) (m : PacketView) (r : Answered) (t u : List Act) → Hosted (TakesPacket slots.Link) t m → after_packet p s m u r → IsAnswered r (events_in (t ++ u))
  packet_cause s (whole bytes) r t u taken h = bytes_cause s bytes r t u (came_at (whole bytes) t taken tt) h
  packet_cause s packets.none r t u taken h = subst (λ (a : Answered). IsAnswered a (events_in (t ++ u))) (sym h.1) tt
  packet_cause s (packets.wrong cause) r t u taken h =
      subst (λ (a : Answered). IsAnswered a (events_in (t ++ u))) (sym h.1) (has_line (session.Packet cause) (events_in (t ++ u)) _ refl (came_first t u (came_at (packets.wrong cause) t taken tt)))
  packet_cause s packets.broken r t u (events, is, taken) h =
      let Failed = Happened (IsFailure kinds.Links) in
      subst (λ (a : Answered). IsAnswered a (events_in (t ++ u))) (sym h.1) (at_first Failed (happened_first (IsFailure kinds.Links)) t u (subst Failed (sym (host_events t events is)) (broken_packet slots.Link events taken)))

  answer_cause : (s : ServerState) (r : Answered) (t : List Act) → AnswersNext p s t r → IsAnswered r (events_in t)
  answer_cause s r t h = subst (λ (l : List Act). IsAnswered r (events_in l)) (sym h.splits) (packet_cause s h.between r h.first h.rest h.does h.goes)

  -- ---- a session

  turn_cause : (goes : Bool) (x : Served) (y : Turn Served Session) (b t : List Act) → (goes ≡ false → Happened IsFromLink (events_in b)) → answers_by p goes x t y → IsTurned y (events_in (b ++ t))
  turn_cause false (s, n) y b t came h = subst (λ (z : Turn Served Session). IsTurned z (events_in (b ++ t))) (sym h.1) (has_line session.TooManyFrames (events_in (b ++ t)) _ refl (came_first b t (came refl)))
  turn_cause true (s, n) y b t came h =
      let a = h.between in
      let here_caused = subst (λ (l : List Act). IsAnswered a (events_in l)) (sym h.splits) (at_first (IsAnswered a) (answered_first a) h.first h.rest (answer_cause s a h.first h.does)) in
      subst (λ (z : Turn Served Session). IsTurned z (events_in (b ++ t))) (sym h.goes.1) (turned n a (events_in (b ++ t)) (at_last (IsAnswered a) (answered_last a) b t here_caused))

  again_came : (goes : Bool) (x y : Served) (t : List Act) → answers_by p goes x t (again y) → Happened IsFromLink (events_in t)
  again_came false (s, n) y t h = absurd (let no : ◌≡◌ {A = Turn Served Session} (again y) (leave (over s (Err session.TooManyFrames))) = h.1 in cc)
  again_came true (s, n) y t h = turn_cause true (s, n) (again y) [] t (λ is. absurd (true≢false is)) h

  on_came : (x y : Served) (t : List Act) → AnswersOn p x t (again y) → Happened IsFromLink (events_in t)
  on_came (s, n) y t h = again_came (ltb n MAX_FRAMES) (s, n) y t h

  -- a session that is too long isn't at its start
  full_came : (s : ServerState) (t : List Act) (x : Served) → Reaches (AnswersOn p) (s, 0) t x → ltb x.1 MAX_FRAMES ≡ false → Happened IsFromLink (events_in t)
  full_came s t x (here _ _ none is) full = absurd (true≢false (subst (λ (y : Served). ltb y.1 MAX_FRAMES ≡ false) is full))
  full_came s t x (turn _ first rest between _ splits before this) full = subst (λ (l : List Act). Happened IsFromLink (events_in l)) (sym splits) (at_last (Happened IsFromLink) (happened_last IsFromLink) first rest (on_came between x rest this))

  on_cause : (s : ServerState) (x : Served) (r : Session) (b t : List Act) → Reaches (AnswersOn p) (s, 0) b x → AnswersOn p x t (leave r) → IsOver r (events_in (b ++ t))
  on_cause s (q, n) r b t before h = turn_cause (ltb n MAX_FRAMES) (q, n) (leave r) b t (full_came s b (q, n) before) h

  session_cause : (s : ServerState) (r : Session) (t : List Act) → AnswersAll p s t r → IsOver r (events_in t)
  session_cause s r t h = subst (λ (l : List Act). IsOver r (events_in l)) (sym h.splits) (on_cause s h.between r h.first h.rest h.does h.goes)

-- ---- how a session's end is told

first_explained : (a b : Status) (t : List Event) → Explains a t → Explains b t → Explains (first_fault a b) t
first_explained statuses.Done b t x y = y
first_explained statuses.Refused b t x y = x
first_explained statuses.Usage b t x y = x
first_explained statuses.ReadFault b t x y = x
first_explained statuses.WriteFault b t x y = x
first_explained statuses.Memory b t x y = x
first_explained statuses.LinkFault b t x y = x
first_explained statuses.PeerFault b t x y = x

abbrev IsSaid : Told → List Event → Type 0
IsSaid (telling.goes_on tally) t = Explains tally.status t
IsSaid (is_over status) t = Explains status t

said_first : (r : Told) (t u : List Event) → IsSaid r t → IsSaid r (t ++ u)
said_first (telling.goes_on tally) t u h = explains_first tally.status t u h
said_first (is_over status) t u h = explains_first status t u h

fault_cause : (tally : Tally) (line : List ℕ) (status : Status) (r : Told) (b t : List Event) → Explains tally.status b → Explains status b → TellsFault tally line status t r → IsSaid r (b ++ t)
fault_cause tally line status r b t before this h = subst (λ (x : Told). IsSaid x (b ++ t)) (sym h.goes.1) (explains_first (first_fault tally.status status) b t (first_explained tally.status status b before this))

blame_cause : (tally : Tally) (line : Option (List ℕ)) (r : Told) (b t : List Event) → Explains tally.status b → IsBlamed line b → fault_told tally line t r → IsSaid r (b ++ t)
blame_cause tally (Some line) r b t before blamed h = fault_cause tally line statuses.PeerFault r b t before blamed h
blame_cause tally None r b t before blamed h = fault_cause tally link_fault_line statuses.LinkFault r b t before blamed h

line_cause : (tally : Tally) (line : List ℕ) (ok : Bool) (r : Told) (b t u : List Event) → Explains tally.status b → Writes outs.Output line t ok → after_line tally ok u r → IsSaid r (b ++ (t ++ u))
line_cause tally line true r b t u before w h = subst (λ (x : Told). IsSaid x (b ++ (t ++ u))) (sym h.1) (explains_first tally.status b (t ++ u) before)
line_cause tally line false r b t u before w h =
    let s = h.between in
    let this = explains_first s (t ++ h.first) h.rest (cause_tell write_fault_line statuses.WriteFault t h.first s (unwritten outs.Output line t w) h.does) in
    subst (λ (x : Told). IsSaid x (b ++ (t ++ u))) (sym h.goes.1) (explains_last s b (t ++ u) (subst (λ (l : List Event). Explains s (t ++ l)) (sym h.splits) (subst (Explains s) (append_assoc t h.first h.rest) this)))

end_cause : (number : ℕ) (tally : Tally) (end : Result ℕ SessionFault) (r : Told) (b t : List Event) → Explains tally.status b → IsEnd end b → TellsEnd number tally end t r → IsSaid r (b ++ t)
end_cause number tally (Ok frames) r b t before met h = subst (λ (l : List Event). IsSaid r (b ++ l)) (sym h.splits) (line_cause tally (served_line number frames) h.between r b h.first h.rest before h.does h.goes)
end_cause number tally (Err fault) r b t before met h = blame_cause tally (session_line fault) r b t before met h

-- ---- sessions

abbrev IsLeft : KeptStatus → List Event → Type 0
IsLeft (Run status) t = Explains status t
IsLeft KeepFault t = Unit {0}

left_first : (status : KeptStatus) (t u : List Event) → IsLeft status t → IsLeft status (t ++ u)
left_first (Run status) t u h = explains_first status t u h
left_first KeepFault t u h = tt

left_last : (status : KeptStatus) (t u : List Event) → IsLeft status u → IsLeft status (t ++ u)
left_last (Run status) t u h = explains_last status t u h
left_last KeepFault t u h = tt

abbrev IsNext : Next → List Event → Type 0
IsNext (more s tally) t = Explains tally.status t
IsNext (no_more status) t = IsLeft status t

next_first : (n : Next) (t u : List Event) → IsNext n t → IsNext n (t ++ u)
next_first (more s tally) t u h = explains_first tally.status t u h
next_first (no_more status) t u h = left_first status t u h

said_next : (s : ServerState) (r : Told) (n : Next) (u : List Act) (t : List Event) → IsSaid r t → after_telling s r u n → IsNext n t
said_next s (telling.goes_on tally) n u t said h = subst (λ (x : Next). IsNext x t) (sym h.1) said
said_next s (is_over status) n u t said h = subst (λ (x : Next). IsNext x t) (sym h.1) said

over_cause : (number : ℕ) (tally : Tally) (r : Session) (n : Next) (b t : List Act) → Explains tally.status (events_in b) → IsOver r (events_in b) → after_session number tally r t n → IsNext n (events_in (b ++ t))
over_cause number tally (over s end) n b t before met h =
    let (events, is, tells) = h.does in
    let said = end_cause number tally end h.between (events_in b) events before met tells in
    let here_said = subst (IsSaid h.between) (sym (events_more b h.first ∙ ap (λ (l : List Event). events_in b ++ l) (host_events h.first events is))) said in
    let all_said = subst (λ (l : List Act). IsSaid h.between (events_in l)) (append_assoc b h.first h.rest) (at_first (IsSaid h.between) (said_first h.between) (b ++ h.first) h.rest here_said) in
    subst (λ (l : List Act). IsNext n (events_in (b ++ l))) (sym h.splits) (said_next s h.between n h.rest (events_in (b ++ (h.first ++ h.rest))) all_said h.goes)
over_cause number tally lost n b t before met h =
    let (events, is, tells) = h.does in
    subst (λ (x : Next). IsNext x (events_in (b ++ t))) (sym (h.goes.1 ∙ ap (λ (status : KeptStatus). no_more status) (told_status keep_fault_line KeepFault events h.between tells))) tt

-- a line on Errors by whose status the run is over, which has its cause
told_cause : (line : List ℕ) (status given : Status) (b t : List Act) → Explains status (events_in b) → Hosted (Tells line status) t given → Explains given (events_in (b ++ t))
told_cause line status given b t before (events, is, tells) =
    subst (Explains given) (sym (events_more b t ∙ ap (λ (l : List Event). events_in b ++ l) (host_events t events is))) (cause_tell line status (events_in b) events given before tells)

module _ (p : ProfileView) where
  moment_cause : (number now : ℕ) (s : ServerState) (tally : Tally) (n : Next) (b t : List Act) → Explains tally.status (events_in b) → after_moment p number s tally now t n → IsNext n (events_in (b ++ t))
  moment_cause number now s tally n b t before h =
      subst (λ (l : List Act). IsNext n (events_in (b ++ l))) (sym h.splits)
      (subst (λ (l : List Act). IsNext n (events_in l)) (append_assoc b h.first h.rest)
      (over_cause number tally h.between n (b ++ h.first) h.rest (at_first (Explains tally.status) (explains_first tally.status) b h.first before)
      (at_last (IsOver h.between) (over_last h.between) b h.first (session_cause p (dated_at s now) h.between h.first h.does)) h.goes))

  accept_cause : (number : ℕ) (s : ServerState) (tally : Tally) (ok : Bool) (n : Next) (b t : List Act) → Explains tally.status (events_in b) → (ok ≡ false → Happened (IsFailure kinds.Links) (events_in b)) → after_accept p number s tally ok t n → IsNext n (events_in (b ++ t))
  accept_cause number s tally true n b t before failed h =
      subst (λ (l : List Act). IsNext n (events_in (b ++ l))) (sym h.splits)
      (subst (λ (l : List Act). IsNext n (events_in l)) (append_assoc b h.first h.rest)
      (moment_cause number h.between s tally n (b ++ h.first) h.rest (at_first (Explains tally.status) (explains_first tally.status) b h.first before) h.goes))
  accept_cause number s tally false n b t before failed h =
      let x = no_more (Run h.between) in
      subst (λ (l : List Act). IsNext n (events_in (b ++ l))) (sym h.splits)
      (subst (λ (y : Next). IsNext y (events_in (b ++ (h.first ++ h.rest)))) (sym h.goes.1)
      (subst (λ (l : List Act). IsNext x (events_in l)) (append_assoc b h.first h.rest)
      (at_first (IsNext x) (next_first x) (b ++ h.first) h.rest (told_cause link_fault_line statuses.LinkFault h.between b h.first (failed refl) h.does))))

  not_accepted : (b t : List Act) (ok : Bool) → Hosted (Calls accepted) t ok → ok ≡ false → Happened (IsFailure kinds.Links) (events_in (b ++ t))
  not_accepted b t ok (events, is, e) not =
      let Failed = Happened (IsFailure kinds.Links) in
      at_last Failed (happened_last (IsFailure kinds.Links)) b t (subst Failed (sym (host_events t events is ∙ e ∙ ap (λ (x : Bool). accepted x ∷ []) not)) (inl refl))

  next_cause : (number : ℕ) (s : ServerState) (tally : Tally) (n : Next) (b t : List Act) → Explains tally.status (events_in b) → ServesNext p number s tally t n → IsNext n (events_in (b ++ t))
  next_cause number s tally n b t before h =
      subst (λ (l : List Act). IsNext n (events_in (b ++ l))) (sym h.splits)
      (subst (λ (l : List Act). IsNext n (events_in l)) (append_assoc b h.first h.rest)
      (accept_cause number s tally h.between n (b ++ h.first) h.rest (at_first (Explains tally.status) (explains_first tally.status) b h.first before) (not_accepted b h.first h.between h.does) h.goes))

  abbrev IsServing : Turn Serving KeptStatus → List Event → Type 0
  IsServing (again x) t = Explains x.tally.status t
  IsServing (leave status) t = IsLeft status t

  stepped : (number : ℕ) (n : Next) (t : List Event) → IsNext n t → IsServing (turn_of number n) t
  stepped number (more s tally) t h = h
  stepped number (no_more status) t h = h

  serving_cause : (goes : Bool) (x : Serving) (y : Turn Serving KeptStatus) (b t : List Act) → Explains x.tally.status (events_in b) → serves_by p goes x t y → IsServing y (events_in (b ++ t))
  serving_cause false x y b t before h = subst (λ (z : Turn Serving KeptStatus). IsServing z (events_in (b ++ t))) (sym h.1) (at_first (Explains x.tally.status) (explains_first x.tally.status) b t before)
  serving_cause true x y b t before h =
      let n = h.between in
      let this = at_first (IsNext n) (next_first n) (b ++ h.first) h.rest (next_cause x.number x.server x.tally n b h.first before h.does) in
      subst (λ (l : List Act). IsServing y (events_in (b ++ l))) (sym h.splits)
      (subst (λ (z : Turn Serving KeptStatus). IsServing z (events_in (b ++ (h.first ++ h.rest)))) (sym h.goes.1)
      (stepped x.number n (events_in (b ++ (h.first ++ h.rest))) (subst (λ (l : List Act). IsNext n (events_in l)) (append_assoc b h.first h.rest) this)))

  module _ (sessions : ℕ) (s : ServerState) where
    abbrev start : Serving
    start = record { number = 0; server = s; tally = new_tally }

    reached_cause : (t : List Act) (x : Serving) → Reaches (ServesOn p sessions) start t x → Explains x.tally.status (events_in t)
    reached_cause t x (here _ _ none is) = subst (λ (y : Serving). Explains y.tally.status (events_in t)) (sym is) tt
    reached_cause t x (turn _ first rest between _ splits before this) =
        subst (λ (l : List Act). Explains x.tally.status (events_in l)) (sym splits) (serving_cause (ltb between.number sessions) between (again x) first rest (reached_cause first between before) this)

    listen_cause : (ok : Bool) (status : KeptStatus) (b t : List Act) → (ok ≡ false → Happened (IsFailure kinds.Links) (events_in b)) → after_listen p sessions s ok t status → IsLeft status (events_in (b ++ t))
    listen_cause true status b t failed h =
        at_last (IsLeft status) (left_last status) b t
        (subst (λ (l : List Act). IsLeft status (events_in l)) (sym h.splits) (serving_cause (ltb h.between.number sessions) h.between (leave status) h.first h.rest (reached_cause h.first h.between h.does) h.goes))
    listen_cause false status b t failed h =
        let x = Run h.between in
        subst (λ (l : List Act). IsLeft status (events_in (b ++ l))) (sym h.splits)
        (subst (λ (y : KeptStatus). IsLeft y (events_in (b ++ (h.first ++ h.rest)))) (sym h.goes.1)
        (subst (λ (l : List Act). IsLeft x (events_in l)) (append_assoc b h.first h.rest)
        (at_first (IsLeft x) (left_first x) (b ++ h.first) h.rest (told_cause link_fault_line statuses.LinkFault h.between b h.first (failed refl) h.does))))

    module _ (address : List ℕ) where
      not_listened : (t : List Act) (ok : Bool) → Hosted (Calls (listened address)) t ok → ok ≡ false → Happened (IsFailure kinds.Links) (events_in t)
      not_listened t ok (events, is, e) not = subst (Happened (IsFailure kinds.Links)) (sym (host_events t events is ∙ e ∙ ap (λ (x : Bool). listened address x ∷ []) not)) (inl refl)

      all_left : (status : KeptStatus) (t : List Act) → ServesAll address sessions s p t status → IsLeft status (events_in t)
      all_left status t h = subst (λ (l : List Act). IsLeft status (events_in l)) (sym h.splits) (listen_cause h.between status h.first h.rest (not_listened h.first h.between h.does) h.goes)

      all_cause : (t : List Act) (status : KeptStatus) → ServesAll address sessions s p t status → ExplainsKept status t
      all_cause t (Run status) h = all_left (Run status) t h
      all_cause t KeepFault h = faulty address sessions s p t h

-- ---- a command

kept_last : (status : KeptStatus) (t u : List Act) → ExplainsKept status u → ExplainsKept status (t ++ u)
kept_last (Run status) t u h = at_last (Explains status) (explains_last status) t u h
kept_last KeepFault t u h = happened_last IsKeeperFault t u h

kept_first : (status : KeptStatus) (t u : List Act) → ExplainsKept status t → ExplainsKept status (t ++ u)
kept_first (Run status) t u h = at_first (Explains status) (explains_first status) t u h
kept_first KeepFault t u h = happened_first IsKeeperFault t u h

last_cause : (S : Step Status) → HasCause S → (t : List Act) (status : KeptStatus) → Last S t status → ExplainsKept status t
last_cause S cause t status h =
    let (events, is, s) = h.does in
    subst (λ (x : KeptStatus). ExplainsKept x t) (sym h.goes.1)
    (subst (λ (l : List Act). ExplainsKept (Run h.between) l) (sym h.splits) (kept_first (Run h.between) h.first h.rest (subst (Explains h.between) (sym (host_events h.first events is)) (cause events h.between s))))

abbrev IsLoaded : Loaded → List Event → Type 0
IsLoaded (schema.Schema S) t = Unit {0}
IsLoaded (schema.Ended status) t = Explains status t

loaded_last : (r : Loaded) (t u : List Event) → IsLoaded r u → IsLoaded r (t ++ u)
loaded_last (schema.Schema S) t u h = tt
loaded_last (schema.Ended status) t u h = explains_last status t u h

by_cause : (S : Step Status) (b : List Event) → ((t : List Event) (status : Status) → S t status → Explains status (b ++ t)) → (t : List Event) (r : Loaded) → EndsBy S t r → IsLoaded r (b ++ t)
by_cause S b cause t r h =
    let s = h.between in
    subst (λ (x : Loaded). IsLoaded x (b ++ t)) (sym h.goes.1)
    (subst (λ (l : List Event). Explains s (b ++ l)) (sym h.splits) (subst (Explains s) (append_assoc b h.first h.rest) (explains_first s (b ++ h.first) h.rest (cause h.first s h.does))))

text_cause : (text : List ℕ) (t : List Event) (r : Loaded) → OfText text t r → IsLoaded r t
text_cause text t r (no_schema cause refuses h) = by_cause (Prints (refused (schema_line (codes "schema") cause))) [] (cause_print (refused (schema_line (codes "schema") cause)) tt) t r h
text_cause text t r (schema_of S is none same) = subst (λ (x : Loaded). IsLoaded x t) (sym same) tt

reading_cause : (name : List ℕ) (text : Option (List ℕ)) (t u : List Event) (r : Loaded) → ReadsFile slots.Schema name SCHEMA_BYTES t text → after_reading text u r → IsLoaded r (t ++ u)
reading_cause name (Some text) t u r reads h = loaded_last r t u (text_cause text u r h)
reading_cause name None t u r reads h = by_cause Unread t (λ v status tells. cause_tell read_fault_line statuses.ReadFault t v status (unread_file slots.Schema name SCHEMA_BYTES t reads) tells) u r h

load_cause : (name : List ℕ) (t : List Event) (r : Loaded) → LoadsSchema name t r → IsLoaded r t
load_cause name t r h = subst (IsLoaded r) (sym h.splits) (reading_cause name h.between h.first h.rest r h.does h.goes)

module _ (Rest : OfProfile) (rest : (p : ProfileView) (t : List Act) (status : KeptStatus) → Rest p t status → ExplainsKept status t) where
  schema_cause : (S : Declared) (t : List Act) (status : KeptStatus) → OfSchema Rest S t status → ExplainsKept status t
  schema_cause S t status (no_profile fault lacks h) = last_cause (Prints (refused (form_line fault))) (cause_print (refused (form_line fault)) tt) t status h
  schema_cause S t status (profiled p is h) = rest p t status h

  loaded_cause : (r : Loaded) (t u : List Act) (status : KeptStatus) → IsLoaded r (events_in t) → after_loading Rest r u status → ExplainsKept status (t ++ u)
  loaded_cause (schema.Schema S) t u status met h = kept_last status t u (schema_cause S u status h)
  loaded_cause (schema.Ended given) t u status met h = subst (λ (x : KeptStatus). ExplainsKept x (t ++ u)) (sym h.1) (kept_first (Run given) t u met)

  profiled_cause : (name : List ℕ) (t : List Act) (status : KeptStatus) → OfProfiled Rest name t status → ExplainsKept status t
  profiled_cause name t status h =
      let (events, is, loads) = h.does in
      subst (ExplainsKept status) (sym h.splits) (loaded_cause h.between h.first h.rest status (subst (IsLoaded h.between) (sym (host_events h.first events is)) (load_cause name events h.between loads)) h.goes)

serve_cause : (schema_name address : List ℕ) (sessions : ℕ) → HasCause (serves schema_name address sessions)
serve_cause schema_name address sessions t status h =
    subst (Explains status) (sym h.events) (profiled_cause (ServesAll address sessions new_server) (λ p. all_cause p sessions new_server address) schema_name h.acts (Run status) h.works)

pub serve_has_cause : (schema address : List ℕ) (sessions : ℕ) → HasCause (RunsIn to_serve (serves schema address sessions))
serve_has_cause schema_name address sessions = cause_run (serves schema_name address sessions) (serve_cause schema_name address sessions)

-- a line that is told of what is refused
refusal_cause : (line : List ℕ) → HasCause (Tells line statuses.Refused)
refusal_cause line t status h = cause_tell line statuses.Refused [] t status tt h

module _ (address : List ℕ) (sessions : ℕ) (p : ProfileView) where
  opening_cause : (by : Loading) (u : List Act) (status : KeptStatus) → after_opening address sessions p by u status → ExplainsKept status (loaded by ∷ u)
  opening_cause (rebuilds s) u status h = kept_last status (loaded (rebuilds s) ∷ []) u (all_cause p sessions s address u status h)
  opening_cause (unaccepted n) u status h = kept_last status (loaded (unaccepted n) ∷ []) u (last_cause (Tells (bad_entry_line n) statuses.Refused) (refusal_cause (bad_entry_line n)) u status h)
  opening_cause unread u status (events, is, tells) = subst (λ (x : KeptStatus). ExplainsKept x (loaded unread ∷ u)) (sym (told_status keep_fault_line KeepFault events status tells)) (inl tt)

  open_cause : (t : List Act) (status : KeptStatus) → OpensAndServes address sessions p t status → ExplainsKept status t
  open_cause t status h = subst (ExplainsKept status) (sym h.splits) (subst (λ (l : List Act). ExplainsKept status (l ++ h.rest)) (sym h.does) (opening_cause h.between h.rest status h.goes))

pub keep_has_cause : KeepHasCause
keep_has_cause schema_name address sessions t s (doing.done h) = profiled_cause (OpensAndServes address sessions) (open_cause address sessions) schema_name t s h
keep_has_cause schema_name address sessions t s (doing.out_of_memory h) =
    let told = h.goes in
    let (events, is, tells) = told.does in
    subst (λ (x : KeptStatus). ExplainsKept x t) (sym (told.goes.1 ∙ ap (λ (x : Status). Run x) (told_status memory_line h.between events told.between tells ∙ h.does.1))) tt
