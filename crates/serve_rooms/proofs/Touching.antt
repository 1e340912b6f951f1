-- What `serve` and `keep` touch.
use Rattle.std.proofs.Common.{inl, inr, codes, ltb, ℕ, List, [], ◌∷◌, ◌++◌, map, Bool, true, false, Option, Some, None, Result, Ok, Err, refl, sym, subst}
use Rattle.tl_base.specs.declared.host.Slot.TheVariants as slots
use Rattle.tl_base.specs.declared.host.Out.TheVariants as outs
use Rattle.tl_schema.specs.Schemas.{Declared}
use Rattle.box_events.specs.declared.requests.Numbered.{Numbered}
use Rattle.box_server.specs.Servers.{ServerState, new_server, dated_at}
use Rattle.box_server.specs.declared.entry.Entry.{Entry}
use Rattle.wire_profile.specs.Indexes.{ProfileView}
use Rattle.outside.specs.Answer.{link_fault_line, read_fault_line, refused, write_fault_line}
use Rattle.outside.specs.declared.status.Status.{Status}
use Rattle.outside.specs.declared.status.Status.TheVariants as statuses
use Rattle.fault_lines.specs.Profiled.{form_line}
use Rattle.schema_files.specs.Lines.{schema_line}
use Rattle.schema_files.specs.declared.schema_text.TheConstants.{SCHEMA_BYTES}
use Rattle.outside.specs.Events.{Event, opened, took, ended, read_failed, created, put, write_failed, listened, connected, accepted, told}
use Rattle.outside.specs.Begun.{WritesOnly}
use Rattle.outside.specs.Laws.{Throughout, Keeps}
use Rattle.outside.specs.Packets.{PacketView, whole, TakesPacket}
use Rattle.outside.specs.Packets as packets
use Rattle.outside.specs.Pieces.{Tells}
use Rattle.outside.specs.Printing.{Prints, Unread}
use Rattle.outside.specs.Steps.{Step, StepOf, Calls}
use Rattle.outside.proofs.Causing.{keeps_call, keeps_end, keeps_file, keeps_loop, keeps_print, keeps_tell, keeps_then, keeps_write, throughout_first}
use Rattle.outside.proofs.TakenPackets.{keeps_packet}
use Rattle.update_sessions.specs.declared.fault.SessionFault.{SessionFault}
use Rattle.update_sessions.specs.declared.fault.SessionFault.TheVariants as session
use Rattle.update_sessions.specs.declared.fault.TheConstants.{MAX_FRAMES}
use Rattle.update_sessions.specs.Kept.{kept_for}
use Rattle.update_sessions.specs.Packed.{SpellsFrame}
use Rattle.update_sessions.specs.Serving.{after_request, sent_for}
use Rattle.session_commands.specs.Keep.{bad_entry_line}
use Rattle.session_commands.specs.Lines.{served_line}
use Rattle.session_commands.specs.SessionEnds.{session_line}
use Rattle.session_rooms.proofs.SentMessages.{keeps_send}
use Rattle.serve_rooms.specs.Acts.{Act, Loading, hosted, loaded, added, rebuilds, unaccepted, unread, events_in}
use Rattle.serve_rooms.specs.Answering.{goes_on, fails, unkept, if_added, Adds, after_sending, after_adding, AnswersBytes, no_call, answers, after_packet, AnswersNext, Session, over, lost, Served, answers_by, AnswersOn, AnswersAll}
use Rattle.serve_rooms.specs.Answering as answering
use Rattle.serve_rooms.specs.Doing.{Hosted, Last, BeginsKept, to_serve}
use Rattle.serve_rooms.specs.Serve.{EndsBy, OfText, no_schema, schema_of, after_reading, LoadsSchema, OfProfile, OfSchema, no_profile, profiled, after_loading, OfProfiled, after_opening, OpensAndServes, keeps, serves}
use Rattle.serve_rooms.specs.ServeLaws.{IsOfServe}
use Rattle.serve_rooms.specs.Sessions.{more, no_more, keep_fault_line, TellsKeepFault, after_telling, after_session, after_moment, after_accept, ServesNext, Serving, turn_of, serves_by, ServesOn, after_listen, ServesAll}
use Rattle.serve_rooms.specs.Telling.{Told, is_over, TellsLine, TellsFault, after_line, fault_told, TellsEnd}
use Rattle.serve_rooms.specs.Telling as telling
use Rattle.serve_rooms.specs.declared.loading.Loaded.{Loaded}
use Rattle.serve_rooms.specs.declared.loading.Loaded.TheVariants as schema
use Rattle.serve_rooms.specs.declared.status.KeptStatus.{KeptStatus}
use Rattle.serve_rooms.specs.declared.status.KeptStatus.TheVariants.{Run, KeepFault}
use Rattle.serve_rooms.specs.declared.telling.Tally.{Tally}

-- ---- a schema's file

module _ (P : Event → Type 0) (errors : (piece : List ℕ) → P (put outs.Errors piece)) (unsaid : P (write_failed outs.Errors)) (output : (piece : List ℕ) → P (put outs.Output piece)) (lose : P (write_failed outs.Output)) where
  keeps_by : (S : Step Status) → Keeps P S → Keeps P (EndsBy S)
  keeps_by S keep = keeps_then P S _ keep (λ status. keeps_end P (schema.Ended status))

  keeps_text : (text : List ℕ) → Keeps P (OfText text)
  keeps_text text t r (no_schema cause refuses h) = keeps_by (Prints (refused (schema_line (codes "schema") cause))) (keeps_print P errors unsaid output lose (refused (schema_line (codes "schema") cause))) t r h
  keeps_text text t r (schema_of S is none same) = subst (Throughout P) (sym none) tt

  keeps_reading : (text : Option (List ℕ)) → Keeps P (after_reading text)
  keeps_reading (Some text) = keeps_text text
  keeps_reading None = keeps_by Unread (keeps_tell P errors unsaid read_fault_line statuses.ReadFault)

  pub keeps_load : (name : List ℕ) → ((ok : Bool) → P (opened slots.Schema name ok)) → ((bytes : List ℕ) → P (took slots.Schema bytes)) → P (ended slots.Schema) → P (read_failed slots.Schema) → Keeps P (LoadsSchema name)
  keeps_load name opens each end fail = keeps_then P _ _ (keeps_file P slots.Schema name SCHEMA_BYTES opens each end fail) keeps_reading

-- ---- what is touched

module _ (schema_name address : List ℕ) where
  abbrev P : Event → Type 0
  P = IsOfServe schema_name address

  pub tells : {A : Type 0} (line : List ℕ) (status : A) → Keeps P (Tells line status)
  tells line status = keeps_tell P (λ _. tt) tt line status

  pub prints_refusal : (line : List ℕ) → Keeps P (Prints (refused line))
  prints_refusal line = keeps_print P (λ _. tt) tt (λ _. tt) tt (refused line)

  loads_schema : Keeps P (LoadsSchema schema_name)
  loads_schema = keeps_load P (λ _. tt) tt (λ _. tt) tt schema_name (λ ok. refl) (λ _. tt) tt tt

  -- ---- how a session's end is told

  keeps_line : (so_far : Bool) (line : List ℕ) → Keeps P (TellsLine so_far line)
  keeps_line true line = keeps_write P outs.Errors line (λ _. tt) tt
  keeps_line false line = keeps_end P false

  keeps_fault : (tally : Tally) (line : List ℕ) (status : Status) → Keeps P (TellsFault tally line status)
  keeps_fault tally line status = keeps_then P _ _ (keeps_line tally.whole line) (λ r. keeps_end P _)

  keeps_frames : (tally : Tally) (ok : Bool) → Keeps P (after_line tally ok)
  keeps_frames tally true = keeps_end P (telling.goes_on tally)
  keeps_frames tally false = keeps_then P _ _ (tells write_fault_line statuses.WriteFault) (λ status. keeps_end P (is_over status))

  keeps_told : (tally : Tally) (line : Option (List ℕ)) → Keeps P (fault_told tally line)
  keeps_told tally (Some line) = keeps_fault tally line statuses.PeerFault
  keeps_told tally None = keeps_fault tally link_fault_line statuses.LinkFault

  keeps_telling : (number : ℕ) (tally : Tally) (end : Result ℕ SessionFault) → Keeps P (TellsEnd number tally end)
  keeps_telling number tally (Ok frames) = keeps_then P _ _ (keeps_write P outs.Output (served_line number frames) (λ _. tt) tt) (keeps_frames tally)
  keeps_telling number tally (Err fault) = keeps_told tally (session_line fault)

  -- ---- over a keeper to which entries may be added

  module _ (Q : Act → Type 0) (host : (e : Event) → P e → Q (hosted e)) (adds : (e : Entry) (ok : Bool) → Q (added e ok)) where
    all_hosted : (t : List Event) → Throughout P t → Throughout Q (map (λ e. hosted e) t)
    all_hosted [] h = tt
    all_hosted (e ∷ t) h = (host e h.0, all_hosted t h.1)

    keeps_host : {A : Type 0} (S : Step A) → Keeps P S → Keeps Q (Hosted S)
    keeps_host S keep t a (events, is, h) = subst (Throughout Q) (sym is) (all_hosted events (keep events a h))

    pub keeps_last : (S : Step Status) → Keeps P S → Keeps Q (Last S)
    keeps_last S keep = keeps_then Q (Hosted S) _ (keeps_host S keep) (λ status. keeps_end Q (Run status))

    module _ (p : ProfileView) where
      keeps_if : (S : StepOf Act Bool) → Keeps Q S → (ok : Bool) → Keeps Q (if_added ok S)
      keeps_if S keep true = keep
      keeps_if S keep false = keeps_end Q false

      keeps_adds : (es : List Entry) → Keeps Q (Adds es)
      keeps_adds [] = keeps_end Q true
      keeps_adds (e ∷ es) = keeps_then Q (Calls (added e)) _ (keeps_call Q (added e) (adds e)) (keeps_if (Adds es) (keeps_adds es))

      keeps_sent : (s : ServerState) (ok : Bool) → Keeps Q (after_sending s ok)
      keeps_sent s true = keeps_end Q (goes_on s)
      keeps_sent s false = keeps_end Q (fails s session.LinkFault)

      keeps_added : (s : ServerState) (c : Numbered) (ok : Bool) → Keeps Q (after_adding p s c ok)
      keeps_added s c true = keeps_then Q _ _ (keeps_host _ (keeps_send (SpellsFrame p) P (λ _. tt) tt (sent_for s c.number c.request))) (keeps_sent (after_request s c.request))
      keeps_added s c false = keeps_end Q unkept

      keeps_bytes : (s : ServerState) (bytes : List ℕ) → Keeps Q (AnswersBytes p s bytes)
      keeps_bytes s bytes t r (no_call fault refuses none is) = subst (Throughout Q) (sym none) tt
      keeps_bytes s bytes t r (answers c means h) = keeps_then Q (Adds (kept_for s c.request)) (after_adding p s c) (keeps_adds (kept_for s c.request)) (keeps_added s c) t r h

      keeps_taken : (s : ServerState) (m : PacketView) → Keeps Q (after_packet p s m)
      keeps_taken s (whole bytes) = keeps_bytes s bytes
      keeps_taken s packets.none = keeps_end Q _
      keeps_taken s (packets.wrong cause) = keeps_end Q _
      keeps_taken s packets.broken = keeps_end Q _

      keeps_next : (s : ServerState) → Keeps Q (AnswersNext p s)
      keeps_next s = keeps_then Q _ _ (keeps_host (TakesPacket slots.Link) (keeps_packet slots.Link P (λ _. tt) tt tt)) (keeps_taken s)

      keeps_turn : (goes : Bool) (x : Served) → Keeps Q (answers_by p goes x)
      keeps_turn false (s, n) = keeps_end Q _
      keeps_turn true (s, n) = keeps_then Q _ _ (keeps_next s) (λ r. keeps_end Q (answering.turn_of n r))

      keeps_on : (x : Served) → Keeps Q (AnswersOn p x)
      keeps_on (s, n) = keeps_turn (ltb n MAX_FRAMES) (s, n)

      keeps_session : (s : ServerState) → Keeps Q (AnswersAll p s)
      keeps_session s = keeps_loop Q (AnswersOn p) keeps_on (s, 0)

      -- ---- sessions

      keeps_tally : (s : ServerState) (r : Told) → Keeps Q (after_telling s r)
      keeps_tally s (telling.goes_on tally) = keeps_end Q (more s tally)
      keeps_tally s (is_over status) = keeps_end Q (no_more (Run status))

      keeps_over : (number : ℕ) (tally : Tally) (r : Session) → Keeps Q (after_session number tally r)
      keeps_over number tally (over s end) = keeps_then Q _ _ (keeps_host _ (keeps_telling number tally end)) (keeps_tally s)
      keeps_over number tally lost = keeps_then Q TellsKeepFault _ (keeps_host _ (tells keep_fault_line KeepFault)) (λ status. keeps_end Q (no_more status))

      keeps_moment : (number : ℕ) (s : ServerState) (tally : Tally) (now : ℕ) → Keeps Q (after_moment p number s tally now)
      keeps_moment number s tally now = keeps_then Q _ _ (keeps_session (dated_at s now)) (keeps_over number tally)

      keeps_accept : (number : ℕ) (s : ServerState) (tally : Tally) (ok : Bool) → Keeps Q (after_accept p number s tally ok)
      keeps_accept number s tally true = keeps_then Q _ _ (keeps_host (Calls told) (keeps_call P told (λ _. tt))) (keeps_moment number s tally)
      keeps_accept number s tally false = keeps_then Q _ _ (keeps_host _ (tells link_fault_line statuses.LinkFault)) (λ status. keeps_end Q (no_more (Run status)))

      keeps_served : (number : ℕ) (s : ServerState) (tally : Tally) → Keeps Q (ServesNext p number s tally)
      keeps_served number s tally = keeps_then Q _ _ (keeps_host (Calls accepted) (keeps_call P accepted (λ _. tt))) (keeps_accept number s tally)

      keeps_serving : (goes : Bool) (x : Serving) → Keeps Q (serves_by p goes x)
      keeps_serving false x = keeps_end Q _
      keeps_serving true x = keeps_then Q _ _ (keeps_served x.number x.server x.tally) (λ r. keeps_end Q (turn_of x.number r))

      keeps_listen : (sessions : ℕ) (s : ServerState) (ok : Bool) → Keeps Q (after_listen p sessions s ok)
      keeps_listen sessions s true = keeps_loop Q (ServesOn p sessions) (λ x. keeps_serving (ltb x.number sessions) x) _
      keeps_listen sessions s false = keeps_last (Tells link_fault_line statuses.LinkFault) (tells link_fault_line statuses.LinkFault)

    pub keeps_all : (sessions : ℕ) (s : ServerState) (p : ProfileView) → Keeps Q (ServesAll address sessions s p)
    keeps_all sessions s p = keeps_then Q _ _ (keeps_host (Calls (listened address)) (keeps_call P (listened address) (λ ok. refl))) (keeps_listen p sessions s)

    pub keeps_opening : (sessions : ℕ) (p : ProfileView) (by : Loading) → Keeps Q (after_opening address sessions p by)
    keeps_opening sessions p (rebuilds s) = keeps_all sessions s p
    keeps_opening sessions p (unaccepted n) = keeps_last (Tells (bad_entry_line n) statuses.Refused) (tells (bad_entry_line n) statuses.Refused)
    keeps_opening sessions p unread = keeps_host (Tells keep_fault_line KeepFault) (tells keep_fault_line KeepFault)

    module _ (Rest : OfProfile) (rest : (p : ProfileView) → Keeps Q (Rest p)) where
      keeps_schema : (S : Declared) → Keeps Q (OfSchema Rest S)
      keeps_schema S t a (no_profile fault lacks h) = keeps_last (Prints (refused (form_line fault))) (prints_refusal (form_line fault)) t a h
      keeps_schema S t a (profiled p is h) = rest p t a h

      keeps_loaded : (r : Loaded) → Keeps Q (after_loading Rest r)
      keeps_loaded (schema.Schema S) = keeps_schema S
      keeps_loaded (schema.Ended status) = keeps_end Q (Run status)

      pub keeps_profiled : Keeps Q (OfProfiled Rest schema_name)
      keeps_profiled = keeps_then Q _ _ (keeps_host (LoadsSchema schema_name) loads_schema) keeps_loaded

-- the beginning of a step
pub keeps_begun_kept : (Q : Act → Type 0) {A : Type 0} (S : StepOf Act A) (t : List Act) → Keeps Q S → BeginsKept S t → Throughout Q t
keeps_begun_kept Q S t keep m = throughout_first Q t m.rest (keep (t ++ m.rest) m.answer m.whole)

-- what the host does is such, whatever the keeper does
abbrev pub IsTouched : List ℕ → List ℕ → Act → Type 0
IsTouched schema_name address (hosted e) = IsOfServe schema_name address e
IsTouched schema_name address (loaded by) = Unit {0}
IsTouched schema_name address (added e ok) = Unit {0}

module _ (schema_name address : List ℕ) where
  pub touched : (t : List Act) → Throughout (IsTouched schema_name address) t → Throughout (IsOfServe schema_name address) (events_in t)
  touched [] h = tt
  touched (hosted e ∷ t) h = (h.0, touched t h.1)
  touched (loaded by ∷ t) h = touched t h.1
  touched (added e ok ∷ t) h = touched t h.1

  pub keeps_serve : (sessions : ℕ) → Keeps (IsOfServe schema_name address) (serves schema_name address sessions)
  keeps_serve sessions t status h =
      let Q = IsTouched schema_name address in
      subst (Throughout (IsOfServe schema_name address)) (sym h.events)
      (touched h.acts
      (keeps_profiled schema_name address Q (λ e of. of) (λ e ok. tt) (ServesAll address sessions new_server) (keeps_all schema_name address Q (λ e of. of) (λ e ok. tt) sessions new_server) h.acts (Run status) h.works))

  pub keeps_keep : (sessions : ℕ) → Keeps (IsTouched schema_name address) (keeps schema_name address sessions)
  keeps_keep sessions =
      let Q = IsTouched schema_name address in
      keeps_profiled schema_name address Q (λ e of. of) (λ e ok. tt) (OpensAndServes address sessions)
      (λ p. keeps_then Q (Calls loaded) (after_opening address sessions p) (keeps_call Q loaded (λ by. tt)) (keeps_opening schema_name address Q (λ e of. of) (λ e ok. tt) sessions p))

-- nothing is written but to Output, to Errors and to the link
written_one : (schema_name address : List ℕ) (e : Event) → IsOfServe schema_name address e → WritesOnly to_serve e
written_one schema_name address (opened slot name ok) h = tt
written_one schema_name address (took slot bytes) h = tt
written_one schema_name address (ended slot) h = tt
written_one schema_name address (read_failed slot) h = tt
written_one schema_name address (created out name ok) h = absurd h
written_one schema_name address (put outs.Output bytes) h = inl refl
written_one schema_name address (put outs.Errors bytes) h = inr (inl refl)
written_one schema_name address (put outs.State bytes) h = absurd h
written_one schema_name address (put outs.Link bytes) h = inr (inr (inl refl))
written_one schema_name address (write_failed outs.Output) h = inl refl
written_one schema_name address (write_failed outs.Errors) h = inr (inl refl)
written_one schema_name address (write_failed outs.State) h = absurd h
written_one schema_name address (write_failed outs.Link) h = inr (inr (inl refl))
written_one schema_name address (listened at ok) h = tt
written_one schema_name address (connected to ok) h = tt
written_one schema_name address (accepted ok) h = tt
written_one schema_name address (told moment) h = tt

written : (schema_name address : List ℕ) (t : List Event) → Throughout (IsOfServe schema_name address) t → Throughout (WritesOnly to_serve) t
written schema_name address [] h = tt
written schema_name address (e ∷ t) h = (written_one schema_name address e h.0, written schema_name address t h.1)

-- the acts of work write to no others
abbrev pub MayServe : StepOf Act KeptStatus → Type 0
MayServe W = (t : List Act) (a : KeptStatus) → W t a → Throughout (WritesOnly to_serve) (events_in t)

module _ (address : List ℕ) (sessions : ℕ) where
  abbrev Q : List ℕ → Act → Type 0
  Q schema_name = IsTouched schema_name address

  pub may_serve_all : (s : ServerState) (p : ProfileView) → MayServe (ServesAll address sessions s p)
  may_serve_all s p t a h = written [] address (events_in t) (touched [] address t (keeps_all [] address (Q []) (λ e of. of) (λ e ok. tt) sessions s p t a h))

-- nor does the reading of a schema, whose refusal is told
pub may_load : (name : List ℕ) → Keeps (WritesOnly to_serve) (LoadsSchema name)
may_load name = keeps_load (WritesOnly to_serve) (λ _. inr (inl refl)) (inr (inl refl)) (λ _. inl refl) (inl refl) name (λ ok. tt) (λ _. tt) tt tt
