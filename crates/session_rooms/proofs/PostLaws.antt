-- Laws of `post`.
use Rattle.std.proofs.Common.{◌≡◌, inl, codes, ℕ, List, [], ◌∷◌, ◌++◌, Bool, true, false, Option, Some, None, refl, sym, subst}
use Rattle.tl_base.specs.Packets.{packet}
use Rattle.tl_base.specs.declared.counts.Kind.TheVariants as kinds
use Rattle.tl_base.specs.declared.host.Slot.TheVariants as slots
use Rattle.tl_base.specs.declared.host.Out.TheVariants as outs
use Rattle.wire_profile.specs.Indexes.{ProfileView}
use Rattle.outside.specs.Answer.{done, link_fault_line, refused}
use Rattle.outside.specs.declared.status.Status.{Status}
use Rattle.outside.specs.declared.status.Status.TheVariants.{LinkFault, PeerFault, ReadFault}
use Rattle.outside.specs.Events.{Event, connected}
use Rattle.outside.specs.Laws.{Throughout, Keeps, Happened, IsFailure, IsFromLink, Explains, HasCause}
use Rattle.outside.specs.Packets.{PacketView, whole, TakesPacket}
use Rattle.outside.specs.Packets as packets
use Rattle.outside.specs.Pieces.{ReadsFile, Tells, Writes}
use Rattle.outside.specs.Printing.{Prints}
use Rattle.outside.specs.Begun.{to_link}
use Rattle.outside.specs.Runs.{RunsIn}
use Rattle.outside.specs.Runs as runs
use Rattle.outside.proofs.Causing.{cause_print, cause_run, cause_tell, cause_then, explains_last, keeps_begun, keeps_call, keeps_file, keeps_print, keeps_tell, keeps_then, keeps_write, throughout_both, unread_file, unwritten}
use Rattle.outside.proofs.TakenPackets.{broken_packet, keeps_packet, packet_came}
use Rattle.codec_rooms.proofs.TypedLaws.{keeps_of_file, cause_of_file}
use Rattle.schema_files.specs.Lines.{json_line}
use Rattle.schema_files.specs.declared.json_input.TheConstants.{JSON_BYTES}
use Rattle.update_commands.specs.Profile.{OfProfile}
use Rattle.update_commands.proofs.ProfiledLaws.{keeps_profile, cause_profile}
use Rattle.session_commands.specs.Post.{Outcome, shows, peer}
use Rattle.session_rooms.specs.Post.{CallsOver, OfCall, no_call, long_call, calls_it, OfInputFile, OfText, no_json, json_of, after_connect, after_packet, after_reading, after_sending, posts, told_as}
use Rattle.session_rooms.specs.PostLaws.{IsOfPost}

-- ---- events

module _ (schema address input : List ℕ) where
  abbrev P : Event → Type 0
  P = IsOfPost schema address input

  prints : (line : List ℕ) → Keeps P (Prints (refused line))
  prints line = keeps_print P (λ _. tt) tt (λ _. tt) tt (refused line)

  tells : (line : List ℕ) (status : Status) → Keeps P (Tells line status)
  tells line status = keeps_tell P (λ _. tt) tt line status

  module _ (p : ProfileView) where
    module _ (n : ℕ) where
      keeps_told : (o : Outcome) → Keeps P (told_as o)
      keeps_told (shows line) = keeps_print P (λ _. tt) tt (λ _. tt) tt (done line)
      keeps_told (peer line) = tells line PeerFault

      keeps_after : (m : PacketView) → Keeps P (after_packet p n m)
      keeps_after (whole body) t s (o, of, h) = keeps_told o t s h
      keeps_after packets.none t s h = tells _ _ t s h
      keeps_after (packets.wrong cause) t s h = tells _ _ t s h
      keeps_after packets.broken t s h = tells _ _ t s h

      keeps_sent : (ok : Bool) → Keeps P (after_sending p n ok)
      keeps_sent true = keeps_then P _ _ (keeps_packet slots.Link P (λ _. tt) tt tt) keeps_after
      keeps_sent false = tells _ _

      keeps_connected : (b : List ℕ) (ok : Bool) → Keeps P (after_connect p n b ok)
      keeps_connected b true = keeps_then P _ _ (keeps_write P outs.Link (packet b) (λ _. tt) tt) keeps_sent
      keeps_connected b false = tells _ _

      keeps_over : (b : List ℕ) → Keeps P (CallsOver p address n b)
      keeps_over b = keeps_then P _ _ (keeps_call P (connected address) (λ ok. refl)) (keeps_connected b)

    keeps_it : (b : List ℕ) → Keeps P (OfCall p address b)
    keeps_it b t s (no_call fault r h) = prints _ t s h
    keeps_it b t s (long_call c means long h) = prints _ t s h
    keeps_it b t s (calls_it c means few h) = keeps_over c.number b t s h

    keeps_text : (text : List ℕ) → Keeps P (OfText p address text)
    keeps_text text t s (no_json cause r h) = prints (json_line cause) t s h
    keeps_text text t s (json_of x b is spells are h) = keeps_it b t s h

    keeps_read : (o : Option (List ℕ)) → Keeps P (after_reading p address o)
    keeps_read (Some text) = keeps_text text
    keeps_read None = tells _ _

    keeps_input : Keeps P (OfInputFile address input p)
    keeps_input = keeps_then P _ _ (keeps_file P slots.Input input JSON_BYTES (λ ok. refl) (λ _. tt) tt tt) keeps_read

  keeps_post : Keeps P (posts schema address input)
  keeps_post =
      let Rest = OfInputFile address input in
      keeps_of_file P (λ _. tt) tt (λ _. tt) tt slots.Schema (codes "schema") (OfProfile Rest) schema (λ ok. refl) (λ _. tt) tt tt (keeps_profile Rest P (λ _. tt) tt (λ _. tt) tt keeps_input)

-- no run does anything else, also one that runs out of memory
pub post_touches : (schema address input : List ℕ) (t : List Event) (status : Status) → RunsIn to_link (posts schema address input) t status → Throughout (IsOfPost schema address input) t
post_touches schema address input t s (runs.done h) = keeps_post schema address input t s h
post_touches schema address input t s (runs.out_of_memory h) =
    let P = IsOfPost schema address input in
    subst (Throughout P) (sym h.splits)
    (throughout_both P h.first h.rest (keeps_begun P (posts schema address input) h.first (keeps_post schema address input) h.does.0) (keeps_tell P (λ _. tt) tt _ _ h.rest s h.goes))

-- ---- causes

-- what the other end did comes after something from there
blamed : (line : List ℕ) (t u : List Event) (s : Status) → Happened IsFromLink t → Tells line PeerFault u s → Explains s (t ++ u)
blamed line t u s came h = cause_tell line PeerFault t u s came h

told_cause : (o : Outcome) (t u : List Event) (s : Status) → Happened IsFromLink t → told_as o u s → Explains s (t ++ u)
told_cause (shows line) t u s came h = explains_last s t u (cause_print (done line) tt u s h)
told_cause (peer line) t u s came h = blamed line t u s came h

lost : (t u : List Event) (s : Status) → Happened (IsFailure kinds.Links) t → Tells link_fault_line LinkFault u s → Explains s (t ++ u)
lost t u s failed h = cause_tell link_fault_line LinkFault t u s failed h

module _ (p : ProfileView) (address : List ℕ) where
  module _ (n : ℕ) where
    packet_cause : (m : PacketView) (t u : List Event) (s : Status) → TakesPacket slots.Link t m → after_packet p n m u s → Explains s (t ++ u)
    packet_cause (whole body) t u s taken (o, of, h) = told_cause o t u s (packet_came t (whole body) taken tt) h
    packet_cause packets.none t u s taken h = blamed _ t u s (packet_came t packets.none taken tt) h
    packet_cause (packets.wrong cause) t u s taken h = blamed _ t u s (packet_came t (packets.wrong cause) taken tt) h
    packet_cause packets.broken t u s taken h = lost t u s (broken_packet slots.Link t taken) h

    sent_cause : (b : List ℕ) (ok : Bool) (t u : List Event) (s : Status) → Writes outs.Link (packet b) t ok → after_sending p n ok u s → Explains s (t ++ u)
    sent_cause b true t u s w h = explains_last s t u (cause_then (TakesPacket slots.Link) (after_packet p n) packet_cause u s h)
    sent_cause b false t u s w h = lost t u s (unwritten outs.Link (packet b) t w) h

    connect_cause : (b : List ℕ) (ok : Bool) (t u : List Event) (s : Status) → t ≡ connected address ok ∷ [] → after_connect p n b ok u s → Explains s (t ++ u)
    connect_cause b true t u s is h = explains_last s t u (cause_then (Writes outs.Link (packet b)) (after_sending p n) (sent_cause b) u s h)
    connect_cause b false t u s is h = lost t u s (subst (Happened (IsFailure kinds.Links)) (sym is) (inl refl)) h

  call_cause : (b : List ℕ) → HasCause (OfCall p address b)
  call_cause b t s (no_call fault r h) = cause_print (refused _) tt t s h
  call_cause b t s (long_call c means long h) = cause_print (refused _) tt t s h
  call_cause b t s (calls_it c means few h) = cause_then _ (after_connect p c.number b) (connect_cause c.number b) t s h

  text_cause : (text : List ℕ) → HasCause (OfText p address text)
  text_cause text t s (no_json cause r h) = cause_print (refused (json_line cause)) tt t s h
  text_cause text t s (json_of x b is spells are h) = call_cause b t s h

  read_cause : (input : List ℕ) (o : Option (List ℕ)) (t u : List Event) (s : Status) → ReadsFile slots.Input input JSON_BYTES t o → after_reading p address o u s → Explains s (t ++ u)
  read_cause input (Some text) t u s read h = explains_last s t u (text_cause text u s h)
  read_cause input None t u s read h = cause_tell _ ReadFault t u s (unread_file slots.Input input JSON_BYTES t read) h

pub post_has_cause : (schema address input : List ℕ) → HasCause (RunsIn to_link (posts schema address input))
post_has_cause schema address input =
    let Rest = OfInputFile address input in
    cause_run (posts schema address input)
    (cause_of_file slots.Schema refl (codes "schema") (OfProfile Rest) schema (cause_profile Rest (λ p. cause_then (ReadsFile slots.Input input JSON_BYTES) (after_reading p address) (read_cause p address input))))
