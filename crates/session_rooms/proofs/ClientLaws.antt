-- Laws of `client`.
use Rattle.std.proofs.Common.{◌≡◌, inl, codes, ltb, ℕ, ◌+◌, ℤ, List, [], ◌∷◌, ◌++◌, Bool, true, false, Option, Some, None, Ok, Err, true≢false, refl, sym, subst}
use Rattle.tl_base.specs.declared.counts.Kind.TheVariants as kinds
use Rattle.tl_base.specs.declared.host.Slot.TheVariants as slots
use Rattle.tl_base.specs.declared.host.Out.TheVariants as outs
use Rattle.tl_base.specs.declared.packet.PacketCause.{PacketCause}
use Rattle.tl_base.specs.declared.packet.PacketCause.TheVariants.{Ended}
use Rattle.box_events.specs.declared.requests.Numbered.{Numbered}
use Rattle.box_client.specs.States.{ClientState}
use Rattle.box_client.specs.Asking.{ticks, wakes, is_one_asking}
use Rattle.wire_profile.specs.Indexes.{ProfileView}
use Rattle.outside.specs.Answer.{done, link_fault_line, memory_line, refused, write_fault_line}
use Rattle.outside.specs.declared.status.Status.{Status}
use Rattle.outside.specs.declared.status.Status.TheVariants.{LinkFault, Memory, PeerFault, ReadFault, WriteFault}
use Rattle.outside.specs.Events.{Event, connected, created}
use Rattle.outside.specs.Laws.{Throughout, Keeps, Happened, IsFailure, IsFromLink, Explains, HasCause}
use Rattle.outside.specs.Packets.{PacketView, whole, TakesPacket}
use Rattle.outside.specs.Packets as packets
use Rattle.outside.specs.Pieces.{ReadsFile, Writes}
use Rattle.outside.specs.Begun.{to_link}
use Rattle.outside.specs.Runs.{RunsIn}
use Rattle.outside.specs.Runs as runs
use Rattle.outside.specs.Steps.{Turn, again, leave, Reaches, here, turn}
use Rattle.outside.proofs.Causing.{cause_print, cause_run, cause_tell, cause_then, explains_last, happened_first, happened_last, keeps_begun, keeps_call, keeps_file, keeps_print, keeps_tell, keeps_then, keeps_write, throughout_both, unread_file, unwritten}
use Rattle.outside.proofs.TakenPackets.{IsUnbroken, broken_packet, packet_came}
use Rattle.codec_rooms.proofs.TypedLaws.{keeps_of_file, cause_of_file}
use Rattle.update_commands.specs.Profile.{OfProfile}
use Rattle.update_commands.proofs.ProfiledLaws.{keeps_profile, cause_profile}
use Rattle.update_sessions.specs.declared.fault.SessionFault.{SessionFault}
use Rattle.update_sessions.specs.declared.fault.SessionFault.TheVariants as session
use Rattle.update_sessions.specs.declared.fault.TheConstants.{MAX_FRAMES}
use Rattle.update_sessions.specs.Hearing.{hears}
use Rattle.update_sessions.specs.Packed.{SpellsCall}
use Rattle.session_commands.specs.Client.{client_line, many_channels_line}
use Rattle.session_commands.specs.SessionEnds.{session_line}
use Rattle.session_commands.specs.declared.state.TheConstants.{MAX_STATE_BYTES}
use Rattle.session_rooms.specs.Client.{OfState, no_client, too_many, watches, OfStateFile, Recovers, after_reading, after_connect, after_session, Leaves, after_create, no_memory, saves, after_state, ends_by, recovers}
use Rattle.session_rooms.specs.ClientLaws.{IsOfClient}
use Rattle.session_rooms.specs.Conversing.{Outcome, Asks, after_asking, HearsBytes, no_frame, refused as refused_frame, heard, after_packet, HearsNext, Heard, turn_of, hears_by, HearsOn, after_begin, Converses}
use Rattle.session_rooms.specs.Sending.{Sends}
use Rattle.session_rooms.proofs.Conversed.{keeps_converse}
use Rattle.session_rooms.proofs.SentMessages.{unsent}

-- ---- events

module _ (schema address state : List ℕ) where
  abbrev P : Event → Type 0
  P = IsOfClient schema address state

  module _ (p : ProfileView) where
    -- ---- what is left

    keeps_written : (c : ClientState) (ok : Bool) → Keeps P (after_state c ok)
    keeps_written c true = keeps_print P (λ _. tt) tt (λ _. tt) tt (done (client_line c))
    keeps_written c false = keeps_tell P (λ _. tt) tt write_fault_line WriteFault

    keeps_created : (c : ClientState) (bytes : List ℕ) (ok : Bool) → Keeps P (after_create c bytes ok)
    keeps_created c bytes true t s h = keeps_then P _ _ (keeps_write P outs.State bytes (λ _. tt) tt) (keeps_written c) t s h
    keeps_created c bytes false t s h = keeps_tell P (λ _. tt) tt write_fault_line WriteFault t s h

    keeps_leave : (c : ClientState) → Keeps P (Leaves p state c)
    keeps_leave c t s (saves bytes framed h) = keeps_then P _ _ (keeps_call P (created outs.State state) (λ ok. refl)) (keeps_created c bytes) t s h
    keeps_leave c t s (no_memory h) = keeps_tell P (λ _. tt) tt memory_line Memory t s h

    keeps_ends : (o : Option (List ℕ)) → Keeps P (ends_by o)
    keeps_ends (Some line) = keeps_tell P (λ _. tt) tt line PeerFault
    keeps_ends None = keeps_tell P (λ _. tt) tt link_fault_line LinkFault

    keeps_session : (r : Outcome) → Keeps P (after_session p state r)
    keeps_session (Ok c) = keeps_leave c
    keeps_session (Err fault) = keeps_ends (session_line fault)

    keeps_connected : (c : ClientState) (ok : Bool) → Keeps P (after_connect p state c ok)
    keeps_connected c true = keeps_then P _ _ (keeps_converse P (λ _. tt) tt (λ _. tt) tt tt p c) keeps_session
    keeps_connected c false = keeps_tell P (λ _. tt) tt link_fault_line LinkFault

    keeps_recover : (c : ClientState) → Keeps P (Recovers p address state c)
    keeps_recover c = keeps_then P _ _ (keeps_call P (connected address) (λ ok. refl)) (keeps_connected c)

    module _ (channels : List ℤ) where
      keeps_state : (bytes : List ℕ) → Keeps P (OfState p address state channels bytes)
      keeps_state bytes t s (no_client line told h) = keeps_print P (λ _. tt) tt (λ _. tt) tt (refused line) t s h
      keeps_state bytes t s (too_many c has none h) = keeps_print P (λ _. tt) tt (λ _. tt) tt (refused many_channels_line) t s h
      keeps_state bytes t s (watches c d has is h) = keeps_recover d t s h

      keeps_read : (o : Option (List ℕ)) → Keeps P (after_reading p address state channels o)
      keeps_read (Some bytes) = keeps_state bytes
      keeps_read None = keeps_tell P (λ _. tt) tt _ _

      keeps_state_file : Keeps P (OfStateFile address state channels p)
      keeps_state_file = keeps_then P _ _ (keeps_file P slots.State state MAX_STATE_BYTES (λ ok. refl) (λ _. tt) tt tt) keeps_read

  keeps_client : (channels : List ℤ) → Keeps P (recovers schema address state channels)
  keeps_client channels =
      let Rest = OfStateFile address state channels in
      keeps_of_file P (λ _. tt) tt (λ _. tt) tt slots.Schema (codes "schema") (OfProfile Rest) schema (λ ok. refl) (λ _. tt) tt tt (keeps_profile Rest P (λ _. tt) tt (λ _. tt) tt (λ p. keeps_state_file p channels))

-- no run does anything else, also one that runs out of memory
pub client_touches : (schema address state : List ℕ) (channels : List ℤ) (t : List Event) (status : Status) → RunsIn to_link (recovers schema address state channels) t status → Throughout (IsOfClient schema address state) t
client_touches schema address state channels t s (runs.done h) = keeps_client schema address state channels t s h
client_touches schema address state channels t s (runs.out_of_memory h) =
    let P = IsOfClient schema address state in
    subst (Throughout P) (sym h.splits)
    (throughout_both P h.first h.rest (keeps_begun P (recovers schema address state channels) h.first (keeps_client schema address state channels) h.does.0) (keeps_tell P (λ _. tt) tt _ _ h.rest s h.goes))

-- ---- causes

-- what a fault is told by has its cause: a line's is that something came over the link; without one the link failed
abbrev pub IsBlamed : Option (List ℕ) → List Event → Type 0
IsBlamed (Some line) t = Happened IsFromLink t
IsBlamed None t = Happened (IsFailure kinds.Links) t

blamed_first : (o : Option (List ℕ)) (t u : List Event) → IsBlamed o t → IsBlamed o (t ++ u)
blamed_first (Some line) t u h = happened_first IsFromLink t u h
blamed_first None t u h = happened_first (IsFailure kinds.Links) t u h

blamed_last : (o : Option (List ℕ)) (t u : List Event) → IsBlamed o u → IsBlamed o (t ++ u)
blamed_last (Some line) t u h = happened_last IsFromLink t u h
blamed_last None t u h = happened_last (IsFailure kinds.Links) t u h

-- a session that ended by this fault
abbrev pub IsEnded : SessionFault → List Event → Type 0
IsEnded fault t = IsBlamed (session_line fault) t

ended_first : (fault : SessionFault) (t u : List Event) → IsEnded fault t → IsEnded fault (t ++ u)
ended_first fault = blamed_first (session_line fault)

ended_last : (fault : SessionFault) (t u : List Event) → IsEnded fault u → IsEnded fault (t ++ u)
ended_last fault = blamed_last (session_line fault)

-- of another fault, which is the same
ended_as : (fault other : SessionFault) (t : List Event) → fault ≡ other → IsEnded other t → IsEnded fault t
ended_as fault other t is h = subst (λ (f : SessionFault). IsEnded f t) (sym is) h

same_fault : (fault other : SessionFault) → ◌≡◌ {A = Outcome} (Err fault) (Err other) → fault ≡ other
same_fault fault other is = cc

pub has_line : (fault : SessionFault) (t : List Event) (line : List ℕ) → session_line fault ≡ Some line → Happened IsFromLink t → IsEnded fault t
has_line fault t line is came = subst (λ (o : Option (List ℕ)). IsBlamed o t) (sym is) came

module _ (p : ProfileView) (fault : SessionFault) where
  asked_ended : (d : ClientState) (ok : Bool) (ms : List Numbered) (t u : List Event) → Sends (SpellsCall p) ms t ok → after_asking d ok u (Err fault) → IsEnded fault (t ++ u)
  asked_ended d true ms t u sent h = absurd (let no : Err fault ≡ Ok d = h.1 in cc)
  asked_ended d false ms t u sent h = ended_as fault session.LinkFault (t ++ u) (same_fault fault _ h.1) (happened_first (IsFailure kinds.Links) t u (unsent (SpellsCall p) ms t sent))

  ask_ended : (c : ClientState) (t : List Event) → Asks p c t (Err fault) → IsEnded fault t
  ask_ended c t h = subst (IsEnded fault) (sym h.splits) (asked_ended (ticks c).client h.between (ticks c).asks h.first h.rest h.does h.goes)

  -- a packet came, and is refused; or what is asked then can't be sent
  bytes_ended : (c : ClientState) (bytes : List ℕ) (t u : List Event) → Happened IsFromLink t → HearsBytes p c bytes u (Err fault) → IsEnded fault (t ++ u)
  bytes_ended c bytes t u came (no_frame f refuses none is) =
      ended_as fault (session.Wire f) (t ++ u) (same_fault fault (session.Wire f) is) (ended_first (session.Wire f) t u (has_line (session.Wire f) t _ refl came))
  bytes_ended c bytes t u came (refused_frame f refuses none is) =
      ended_as fault (session.Client f) (t ++ u) (same_fault fault (session.Client f) is) (ended_first (session.Client f) t u (has_line (session.Client f) t _ refl came))
  bytes_ended c bytes t u came (heard f means taken h) = ended_last fault t u (ask_ended (hears c f) u h)

  -- what came is no packet
  cut_ended : (f : PacketCause) (line : List ℕ) (m : PacketView) (t u : List Event) → session_line (session.Packet f) ≡ Some line → IsUnbroken m → TakesPacket slots.Link t m
      → ◌≡◌ {A = Outcome} (Err fault) (Err (session.Packet f)) → IsEnded fault (t ++ u)
  cut_ended f line m t u told unbroken taken is =
      ended_as fault (session.Packet f) (t ++ u) (same_fault fault (session.Packet f) is) (ended_first (session.Packet f) t u (has_line (session.Packet f) t line told (packet_came t m taken unbroken)))

  packet_ended : (c : ClientState) (m : PacketView) (t u : List Event) → TakesPacket slots.Link t m → after_packet p c m u (Err fault) → IsEnded fault (t ++ u)
  packet_ended c (whole bytes) t u taken h = bytes_ended c bytes t u (packet_came t (whole bytes) taken tt) h
  packet_ended c packets.none t u taken h = cut_ended (Ended 0) _ packets.none t u refl tt taken h.1
  packet_ended c (packets.wrong cause) t u taken h = cut_ended cause _ (packets.wrong cause) t u refl tt taken h.1
  packet_ended c packets.broken t u taken h = ended_as fault session.LinkFault (t ++ u) (same_fault fault _ h.1) (happened_first (IsFailure kinds.Links) t u (broken_packet slots.Link t taken))

  next_ended : (c : ClientState) (t : List Event) → HearsNext p c t (Err fault) → IsEnded fault t
  next_ended c t h = subst (IsEnded fault) (sym h.splits) (packet_ended c h.between h.first h.rest h.does h.goes)

  turned_ended : (c : ClientState) (n : ℕ) (r : Outcome) (t u : List Event) → HearsNext p c t r → leave (Err fault) ≡ turn_of n r → IsEnded fault (t ++ u)
  turned_ended c n (Ok d) t u h is = absurd (let no : ◌≡◌ {A = Turn Heard Outcome} (leave (Err fault)) (again (d, n + 1)) = is in cc)
  turned_ended c n (Err f) t u h is =
      let same : fault ≡ f = (let e : ◌≡◌ {A = Turn Heard Outcome} (leave (Err fault)) (leave (Err f)) = is in cc) in
      ended_first fault t u (subst (λ (x : SessionFault). HearsNext p c t (Err x) → IsEnded fault t) same (next_ended c t) h)

  -- the last turn; a session that is too long had turns before it
  turn_ended : (asks more : Bool) (h : Heard) (t u : List Event) → (more ≡ false → Happened IsFromLink t) → hears_by p asks more h u (leave (Err fault)) → IsEnded fault (t ++ u)
  turn_ended false more (c, n) t u came h = absurd (let no : ◌≡◌ {A = Turn Heard Outcome} (leave (Err fault)) (leave (Ok c)) = h.1 in cc)
  turn_ended true false (c, n) t u came h =
      let same : fault ≡ session.TooManyFrames = (let e : ◌≡◌ {A = Turn Heard Outcome} (leave (Err fault)) (leave (Err session.TooManyFrames)) = h.1 in cc) in
      ended_as fault session.TooManyFrames (t ++ u) same (ended_first session.TooManyFrames t u (has_line session.TooManyFrames t _ refl (came refl)))
  turn_ended true true (c, n) t u came h = ended_last fault t u (subst (IsEnded fault) (sym h.splits) (turned_ended c n h.between h.first h.rest h.does h.goes.1))

-- ---- turns before the last

module _ (p : ProfileView) where
  packet_heard : (c d : ClientState) (m : PacketView) (t u : List Event) → TakesPacket slots.Link t m → after_packet p c m u (Ok d) → Happened IsFromLink (t ++ u)
  packet_heard c d (whole bytes) t u taken h = happened_first IsFromLink t u (packet_came t (whole bytes) taken tt)
  packet_heard c d packets.none t u taken h = absurd (let no : ◌≡◌ {A = Outcome} (Ok d) (Err (session.Packet (Ended 0))) = h.1 in cc)
  packet_heard c d (packets.wrong cause) t u taken h = absurd (let no : ◌≡◌ {A = Outcome} (Ok d) (Err (session.Packet cause)) = h.1 in cc)
  packet_heard c d packets.broken t u taken h = absurd (let no : ◌≡◌ {A = Outcome} (Ok d) (Err session.LinkFault) = h.1 in cc)

  turned_heard : (c : ClientState) (n : ℕ) (s : Heard) (r : Outcome) (t u : List Event) → HearsNext p c t r → again s ≡ turn_of n r → Happened IsFromLink (t ++ u)
  turned_heard c n s (Ok d) t u h is = happened_first IsFromLink t u (subst (Happened IsFromLink) (sym h.splits) (packet_heard c d h.between h.first h.rest h.does h.goes))
  turned_heard c n s (Err f) t u h is = absurd (let no : ◌≡◌ {A = Turn Heard Outcome} (again s) (leave (Err f)) = is in cc)

  turn_heard : (asks more : Bool) (h s : Heard) (t : List Event) → hears_by p asks more h t (again s) → Happened IsFromLink t
  turn_heard false more (c, n) s t h = absurd (let no : ◌≡◌ {A = Turn Heard Outcome} (again s) (leave (Ok c)) = h.1 in cc)
  turn_heard true false (c, n) s t h = absurd (let no : ◌≡◌ {A = Turn Heard Outcome} (again s) (leave (Err session.TooManyFrames)) = h.1 in cc)
  turn_heard true true (c, n) s t h = subst (Happened IsFromLink) (sym h.splits) (turned_heard c n s h.between h.first h.rest h.does h.goes.1)

  hears_heard : (h s : Heard) (t : List Event) → HearsOn p h t (again s) → Happened IsFromLink t
  hears_heard (c, n) s t h = turn_heard (is_one_asking c) (ltb n MAX_FRAMES) (c, n) s t h

  -- a session that is too long isn't at its start
  full_came : (c : ClientState) (t : List Event) (s : Heard) → Reaches (HearsOn p) (c, 0) t s → ltb s.1 MAX_FRAMES ≡ false → Happened IsFromLink t
  full_came c t s (here _ _ none is) full = absurd (true≢false (subst (λ (h : Heard). ltb h.1 MAX_FRAMES ≡ false) is full))
  full_came c t s (turn _ first rest between _ splits before this) full = subst (Happened IsFromLink) (sym splits) (happened_last IsFromLink first rest (hears_heard between s rest this))

module _ (p : ProfileView) (fault : SessionFault) where
  hears_ended : (c : ClientState) (h : Heard) (t u : List Event) → Reaches (HearsOn p) (c, 0) t h → HearsOn p h u (leave (Err fault)) → IsEnded fault (t ++ u)
  hears_ended c (d, n) t u before h = turn_ended p fault (is_one_asking d) (ltb n MAX_FRAMES) (d, n) t u (full_came p c t (d, n) before) h

  begin_ended : (c : ClientState) (r : Outcome) (t u : List Event) → Asks p c t r → after_begin p r u (Err fault) → IsEnded fault (t ++ u)
  begin_ended c (Ok d) t u asks h = ended_last fault t u (subst (IsEnded fault) (sym h.splits) (hears_ended d h.between h.first h.rest h.does h.goes))
  begin_ended c (Err f) t u asks h =
      let same : fault ≡ f = same_fault fault f h.1 in
      ended_first fault t u (subst (λ (x : SessionFault). Asks p c t (Err x) → IsEnded fault t) same (ask_ended p fault c t) asks)

  converse_ended : (c : ClientState) (t : List Event) → Converses p c t (Err fault) → IsEnded fault t
  converse_ended c t h = subst (IsEnded fault) (sym h.splits) (begin_ended (wakes c) h.between h.first h.rest h.does h.goes)

ends_cause : (o : Option (List ℕ)) (t u : List Event) (status : Status) → IsBlamed o t → ends_by o u status → Explains status (t ++ u)
ends_cause (Some line) t u status blamed h = cause_tell line PeerFault t u status blamed h
ends_cause None t u status blamed h = cause_tell link_fault_line LinkFault t u status blamed h

module _ (p : ProfileView) (state : List ℕ) where
  state_cause : (c : ClientState) (bytes : List ℕ) (ok : Bool) (t u : List Event) (status : Status) → Writes outs.State bytes t ok → after_state c ok u status → Explains status (t ++ u)
  state_cause c bytes true t u status w h = explains_last status t u (cause_print (done (client_line c)) tt u status h)
  state_cause c bytes false t u status w h = cause_tell write_fault_line WriteFault t u status (unwritten outs.State bytes t w) h

  create_cause : (c : ClientState) (bytes : List ℕ) (ok : Bool) (t u : List Event) (status : Status) → t ≡ created outs.State state ok ∷ [] → after_create c bytes ok u status → Explains status (t ++ u)
  create_cause c bytes true t u status is h = explains_last status t u (cause_then (Writes outs.State bytes) (after_state c) (state_cause c bytes) u status h)
  create_cause c bytes false t u status is h = cause_tell write_fault_line WriteFault t u status (subst (Happened (IsFailure kinds.Writes)) (sym is) (inl refl)) h

  leave_cause : (c : ClientState) → HasCause (Leaves p state c)
  leave_cause c t status (saves bytes framed h) = cause_then _ (after_create c bytes) (create_cause c bytes) t status h
  leave_cause c t status (no_memory h) = cause_tell memory_line Memory [] t status tt h

  session_cause : (c : ClientState) (r : Outcome) (t u : List Event) (status : Status) → Converses p c t r → after_session p state r u status → Explains status (t ++ u)
  session_cause c (Ok d) t u status over h = explains_last status t u (leave_cause d u status h)
  session_cause c (Err fault) t u status over h = ends_cause (session_line fault) t u status (converse_ended p fault c t over) h

  module _ (address : List ℕ) where
    connect_cause : (c : ClientState) (ok : Bool) (t u : List Event) (status : Status) → t ≡ connected address ok ∷ [] → after_connect p state c ok u status → Explains status (t ++ u)
    connect_cause c true t u status is h = explains_last status t u (cause_then (Converses p c) (after_session p state) (session_cause c) u status h)
    connect_cause c false t u status is h = cause_tell link_fault_line LinkFault t u status (subst (Happened (IsFailure kinds.Links)) (sym is) (inl refl)) h

    module _ (channels : List ℤ) where
      state_bytes_cause : (bytes : List ℕ) → HasCause (OfState p address state channels bytes)
      state_bytes_cause bytes t s (no_client line told h) = cause_print (refused line) tt t s h
      state_bytes_cause bytes t s (too_many c has none h) = cause_print (refused many_channels_line) tt t s h
      state_bytes_cause bytes t s (watches c d has is h) = cause_then _ (after_connect p state d) (connect_cause d) t s h

      read_cause : (o : Option (List ℕ)) (t u : List Event) (status : Status) → ReadsFile slots.State state MAX_STATE_BYTES t o → after_reading p address state channels o u status → Explains status (t ++ u)
      read_cause (Some bytes) t u status read h = explains_last status t u (state_bytes_cause bytes u status h)
      read_cause None t u status read h = cause_tell _ ReadFault t u status (unread_file slots.State state MAX_STATE_BYTES t read) h

pub client_has_cause : (schema address state : List ℕ) (channels : List ℤ) → HasCause (RunsIn to_link (recovers schema address state channels))
client_has_cause schema address state channels =
    let Rest = OfStateFile address state channels in
    cause_run (recovers schema address state channels)
    (cause_of_file slots.Schema refl (codes "schema") (OfProfile Rest) schema (cause_profile Rest (λ p. cause_then (ReadsFile slots.State state MAX_STATE_BYTES) (after_reading p address state channels) (read_cause p state address channels))))
