-- `post` ends by no fault where files and a link are there, and there is room.
use Rattle.std.proofs.Common.{◌≡◌, ◌⊎◌, ℕ, ◌+◌, ◌<◌, ◌≤◌, List, [], ◌∷◌, length, length-append, take, Bool, true, false, Option, Some, None, codes, refl, sym, ap, ◌∙◌, subst, inl, inr, arith}
use Rattle.tl_numbers.specs.Bytes.{AreBytes}
use Rattle.tl_base.specs.Contents.{Files}
use Rattle.tl_base.specs.Kinds.{slot_kind}
use Rattle.tl_base.specs.Outside.{View, HasFile, HasRoom, IsFile, IsThere, left_of, written_of}
use Rattle.tl_base.specs.Packets.{packet}
use Rattle.tl_base.specs.declared.counts.Kind.{Kind}
use Rattle.tl_base.specs.declared.host.Out.TheVariants as outs
use Rattle.tl_base.specs.declared.host.Slot.{Slot}
use Rattle.tl_base.specs.declared.host.Slot.TheVariants as slots
use Rattle.tl_schema.specs.CheckedPrograms.{IsSchema}
use Rattle.tl_schema.specs.Schemas.{Declared}
use Rattle.tl_types.proofs.Numbers.{begins_word}
use Rattle.wire_profile.specs.Indexes.{ProfileView}
use Rattle.wire_profile.specs.Profiles.{IsProfile}
use Rattle.outside.specs.Answer.{Answer, done, refused}
use Rattle.outside.specs.Sound.{HasRoomFor}
use Rattle.outside.specs.declared.status.Status.{Status}
use Rattle.outside.specs.declared.status.Status.TheVariants.{Done, PeerFault, Refused}
use Rattle.outside.specs.Events.{Event, Outside, opened, took, ended, read_failed, created, put, write_failed, listened, connected, accepted, told}
use Rattle.outside.specs.Laws.{Happened, IsFailure, Throughout}
use Rattle.outside.specs.Packets.{PacketView, whole, TakesPacket}
use Rattle.outside.specs.Packets as packets
use Rattle.outside.specs.Pieces.{ReadsFile, Tells, Writes}
use Rattle.outside.specs.Printing.{Prints, after_output}
use Rattle.outside.specs.Steps.{Step, Then}
use Rattle.outside.proofs.Causing.{keeps_file, told_status}
use Rattle.outside.proofs.TakenPackets.{broken_packet, keeps_packet, whole_packet}
use Rattle.outside.specs.Fits.{Fits, Happens}
use Rattle.outside.specs.Reliable.{IsReliable}
use Rattle.outside.proofs.Fitting.{Keeps as KeepsOutside, files_are_read, files_can_be_read, fits_both, fits_keeps, reliable_on, writes_fail_full}
use Rattle.outside.proofs.Sparing.{IsReading}
use Rattle.schema_files.specs.Answering.{OfSchemaText}
use Rattle.schema_files.specs.Answering as answering
use Rattle.schema_files.specs.declared.json_input.TheConstants.{JSON_BYTES}
use Rattle.schema_files.specs.declared.schema_text.TheConstants.{SCHEMA_BYTES}
use Rattle.fault_lines.specs.Profiled as profiling
use Rattle.fault_lines.proofs.Profiled.{are_profiles}
use Rattle.codec_rooms.specs.Typed as typed
use Rattle.codec_rooms.proofs.TypedFiles.{text_stays}
use Rattle.update_commands.specs.Profile.{OfProfile, no_profile, profiled}
use Rattle.session_commands.specs.Linked.{next_link}
use Rattle.session_commands.specs.Post.{Outcome, OfLink, OfSent, PostAnswer, answer_of, no_packet, packet_of, peer, shows}
use Rattle.session_commands.specs.Post as answer
use Rattle.session_commands.proofs.EachPost.{BeginsPacket, BeginsNone, begins_so, each_body}
use Rattle.session_commands.proofs.OnePost.{one_post}
use Rattle.session_commands.proofs.OneReply.{body_bytes}
use Rattle.session_rooms.specs.Post.{CallsOver, OfCall, no_call, long_call, calls_it, OfInputFile, OfText, no_json, json_of, after_connect, after_packet, after_reading, after_sending, posts, told_as}
use Rattle.session_rooms.proofs.LeftPackets.{packet_left, rest_of}
use Rattle.session_rooms.proofs.PostFiles.{IsTold, OfInput, json_stays, last_push, linked, output_of, shown_of}
use Rattle.session_rooms.proofs.Spared.{OnlySlots, reading_spares, writes_spare}

-- ---- lines

done_told : IsTold Done
done_told = ((λ is. cc, λ is. cc, λ is. cc), λ is. cc)

refused_told : IsTold Refused
refused_told = ((λ is. cc, λ is. cc, λ is. cc), λ is. cc)

peer_told : IsTold PeerFault
peer_told = ((λ is. cc, λ is. cc, λ is. cc), λ is. cc)

tell_told : (line : List ℕ) (status r : Status) (t : List Event) → IsTold status → Tells line status t r → IsTold r
tell_told line status r t is h = subst IsTold (sym (told_status line status t r h)) is

-- nothing is written to Output where something is refused
after_refused : (line : List ℕ) (ok : Bool) (t u : List Event) (r : Status) → Writes outs.Output [] t ok → after_output (refused line) ok u r → IsTold r
after_refused line true t u r w h = tell_told line Refused r u refused_told h
after_refused line false t u r w h = absurd (omega (arith, w.4, ap length w.3, length-append w.0 w.1))

refusal_told : (line : List ℕ) (t : List Event) (r : Status) → Prints (refused line) t r → IsTold r
refusal_told line t r h = after_refused line h.between h.first h.rest r h.does h.goes

after_shown : (line : List ℕ) (ok : Bool) (t u : List Event) (r : Status) (s m : Outside) → Writes outs.Output line t ok → after_output (done line) ok u r → Fits t s m → IsReliable s → HasRoom outs.Output (length line) s.view → IsTold r
after_shown line true t u r s m w h f reliable room = tell_told [] Done r u done_told h
after_shown line false t u r s m w h f reliable room = absurd (omega (arith, room, writes_fail_full outs.Output line t s m w f reliable))

outcome_told : (o : Outcome) (t : List Event) (r : Status) (s n : Outside) → told_as o t r → Fits t s n → IsReliable s → HasRoom outs.Output (length (shown_of o)) s.view → IsTold r
outcome_told (shows line) t r s n h f reliable room =
    let parts = fits_both h.first h.rest s n (subst (λ (l : List Event). Fits l s n) h.splits f) in
    after_shown line h.between h.first h.rest r s parts.0 h.does h.goes parts.1 reliable room
outcome_told (peer line) t r s n h f reliable room = tell_told line PeerFault r t peer_told h

-- ---- a packet is taken

abbrev pub IsTaken : Event → Type 0
IsTaken (opened slot name ok) = ⊥
IsTaken (took slot bytes) = Unit {0}
IsTaken (ended slot) = Unit {0}
IsTaken (read_failed slot) = Unit {0}
IsTaken (created out name ok) = ⊥
IsTaken (put out bytes) = ⊥
IsTaken (write_failed out) = ⊥
IsTaken (listened address ok) = ⊥
IsTaken (connected address ok) = ⊥
IsTaken (accepted ok) = ⊥
IsTaken (told moment) = ⊥

pub taken_fails : (k : Kind) (e : Event) (s n : Outside) → Happens e s n → IsReliable s → IsTaken e → IsFailure k e → ⊥
taken_fails k (opened slot name ok) s n h r is fails = is
taken_fails k (took slot bytes) s n h r is fails = let no : None ≡ Some k = fails in cc
taken_fails k (ended slot) s n h r is fails = let no : None ≡ Some k = fails in cc
taken_fails k (read_failed slot) s n h r is fails = absurd (omega (arith, h.1.1, r))
taken_fails k (created out name ok) s n h r is fails = is
taken_fails k (put out bytes) s n h r is fails = is
taken_fails k (write_failed out) s n h r is fails = is
taken_fails k (listened address ok) s n h r is fails = is
taken_fails k (connected address ok) s n h r is fails = is
taken_fails k (accepted ok) s n h r is fails = is
taken_fails k (told moment) s n h r is fails = is

pub taken_never : (k : Kind) (t : List Event) (s n : Outside) → Fits t s n → IsReliable s → Throughout IsTaken t → Happened (IsFailure k) t → ⊥
taken_never k [] s n f r are fails = fails
taken_never k (e ∷ t) s n f r are (inl here) = taken_fails k e s f.0 f.1 r are.0 here
taken_never k (e ∷ t) s n f r are (inr later) = taken_never k t f.0 n f.2 (reliable_on s f.0 (fits_keeps (e ∷ []) s f.0 (f.0, f.1, refl)) r) are.1 later

module _ (p : ProfileView) (number : ℕ) where
  -- there is room for whatever is shown of what the link gives
  abbrev ShownFits : List ℕ → Outside → Type 0
  ShownFits given s = (o : Outcome) → OfLink p number given o → HasRoom outs.Output (length (shown_of o)) s.view

  packet_told : (v : PacketView) (t u : List Event) (r : Status) (s m n : Outside) → TakesPacket slots.Link t v → after_packet p number v u r → Fits t s m → Fits u m n → IsReliable s → OnlySlots s m
      → ShownFits (rest_of slots.Link s) s → IsTold r
  packet_told (whole body) t u r s m n takes (o, of, h) f g reliable same room =
      let fits = room o (packet_of body (rest_of slots.Link m) (whole_packet slots.Link t body takes).0 (packet_left slots.Link t (whole body) s m takes f) of) in
      outcome_told o u r m n h g (reliable_on s m (fits_keeps t s m f) reliable) (subst (λ (v : View). HasRoom outs.Output (length (shown_of o)) v) (sym same) fits)
  packet_told packets.none t u r s m n takes h f g reliable same room = tell_told _ PeerFault r u peer_told h
  packet_told (packets.wrong cause) t u r s m n takes h f g reliable same room = tell_told _ PeerFault r u peer_told h
  packet_told packets.broken t u r s m n takes h f g reliable same room =
      absurd (taken_never (slot_kind slots.Link) t s m f reliable (keeps_packet slots.Link IsTaken (λ _. tt) tt tt t packets.broken takes) (broken_packet slots.Link t takes))

  reply_told : (t : List Event) (r : Status) (s n : Outside) → after_sending p number true t r → Fits t s n → IsReliable s → ShownFits (rest_of slots.Link s) s → IsTold r
  reply_told t r s n h f reliable room =
      let parts = fits_both h.first h.rest s n (subst (λ (l : List Event). Fits l s n) h.splits f) in
      let same = reading_spares h.first s parts.0 parts.1 (keeps_packet slots.Link IsReading (λ _. tt) tt tt h.first h.between h.does) in
      packet_told h.between h.first h.rest r s parts.0 n h.does h.goes parts.1 parts.2 reliable same room

  -- ---- a link

  -- whatever bytes it gives have an outcome
  begun_outcome : IsProfile p → (given : List ℕ) → AreBytes given → BeginsPacket given ⊎ BeginsNone given → (o : Outcome) × OfLink p number given o
  begun_outcome good given bytes (inl first) =
      let told = each_body p good number first.body (body_bytes given first.body first.rest first.parts bytes) in
      (told.0, packet_of first.body first.rest first.fits first.parts told.1)
  begun_outcome good given bytes (inr cause) = (_, no_packet cause.fault cause.line cause.none cause.few cause.tells refl)

  pub some_outcome : IsProfile p → (given : List ℕ) → AreBytes given → (o : Outcome) × OfLink p number given o
  some_outcome good given bytes = begun_outcome good given bytes (begins_so given (begins_word given bytes))

  module _ (address b : List ℕ) where
    sent_told : (ok : Bool) (t u : List Event) (r : Status) (m k n : Outside) → Writes outs.Link (packet b) t ok → after_sending p number ok u r → Fits t m k → Fits u k n → IsReliable m → HasRoom outs.Link (length (packet b)) m.view
        → ShownFits (rest_of slots.Link m) m → IsTold r
    sent_told true t u r m k n w h f g reliable fits room =
        let kept = fits_keeps t m k f in
        let gave : rest_of slots.Link k ≡ rest_of slots.Link m = writes_spare outs.Link (left_of slots.Link) (λ bytes v. refl) (packet b) t true m k w f in
        let wrote : output_of k ≡ output_of m = writes_spare outs.Link (written_of outs.Output) (λ bytes v. refl) (packet b) t true m k w f in
        reply_told u r k n h g (reliable_on m k kept reliable) (λ o of. omega (arith, room o (subst (λ (z : List ℕ). OfLink p number z o) gave of), ap length wrote, kept.room))
    sent_told false t u r m k n w h f g reliable fits room = absurd (omega (arith, fits, writes_fail_full outs.Link (packet b) t m k w f reliable))

    -- a link is to come, with room for the address and for the call
    abbrev HasLink : Outside → Type 0
    HasLink s = (0 < length s.view.links) × (length address ≤ s.view.room) × (length (packet b) ≤ s.view.room)

    linked_told : (ok : Bool) (t u : List Event) (r : Status) (s m n : Outside) → t ≡ connected address ok ∷ [] → after_connect p number b ok u r → Fits t s m → Fits u m n → IsReliable s → HasLink s → ShownFits (next_link s.view) s → IsTold r
    linked_told true t u r s m n is h f g reliable has room =
        let c = subst (λ (l : List Event). Fits l s m) is f in
        let parts = fits_both h.first h.rest m n (subst (λ (l : List Event). Fits l m n) h.splits g) in
        let view : m.view ≡ linked address s.view = ap (λ (o : Outside). o.view) c.2 ∙ c.1.0.1 in
        let kept = fits_keeps t s m f in
        let none : written_of outs.Link m.view ≡ [] = ap (written_of outs.Link) view ∙ last_push s.view.written.unlinked [] s.view.written.links in
        let gave : rest_of slots.Link m ≡ next_link s.view = ap (left_of slots.Link) view in
        let wrote : output_of m ≡ output_of s = ap (written_of outs.Output) view in
        sent_told h.between h.first h.rest r m parts.0 n h.does h.goes parts.1 parts.2 (reliable_on s m kept reliable) (omega (arith, has.2, ap length none, kept.room))
        (λ o of. omega (arith, room o (subst (λ (z : List ℕ). OfLink p number z o) gave of), ap length wrote, kept.room))
    linked_told false t u r s m n is h f g reliable has room =
        let c = subst (λ (l : List Event). Fits l s m) is f in
        elim c.1.1.0 [ inl fails ↦ absurd (omega (arith, fails.1, reliable)) | inr none ↦ absurd (none (has.0, has.1)) ]

    link_of : (o : Outcome) (s : Outside) → HasRoomFor (answer_of address (packet b) o) s.view → HasLink s
    link_of (shows line) s room = (omega (arith, room.coming), room.address, room.links 0 [] (omega arith))
    link_of (peer line) s room = (omega (arith, room.coming), room.address, room.links 0 [] (omega arith))

    shown_fits : (o : Outcome) (s : Outside) → HasRoomFor (answer_of address (packet b) o) s.view → HasRoom outs.Output (length (shown_of o)) s.view
    shown_fits (shows line) s room = room.output
    shown_fits (peer line) s room = room.output

    over_told : IsProfile p → (t : List Event) (r : Status) (s n : Outside) → CallsOver p address number b t r → Fits t s n → IsReliable s → AreBytes (next_link s.view)
        → ((a : Answer) → OfSent p number address b (next_link s.view) a → HasRoomFor a s.view) → IsTold r
    over_told good t r s n h f reliable bytes room =
        let parts = fits_both h.first h.rest s n (subst (λ (l : List Event). Fits l s n) h.splits f) in
        let some = some_outcome good (next_link s.view) bytes in
        let fits : (o : Outcome) → OfLink p number (next_link s.view) o → HasRoomFor (answer_of address (packet b) o) s.view = λ o of. room (answer_of address (packet b) o) (o, of, refl) in
        linked_told h.between h.first h.rest r s parts.0 n h.does h.goes parts.1 parts.2 reliable (link_of some.0 s (fits some.0 some.1)) (λ o of. shown_fits o s (fits o of))

-- ---- what follows of files

module _ (schema address input : List ℕ) where
  -- no call was told to fail, the files are there, and the next link gives bytes
  record Ready (s : Outside) : Type 0 where
    reliable : IsReliable s
    schema_there : IsThere schema s.view
    input_there : IsThere input s.view
    bytes : AreBytes (next_link s.view)

  ready_later : (s m : Outside) → OnlySlots s m → KeepsOutside s m → Ready s → Ready m
  ready_later s m same kept ready = record {
    reliable = reliable_on s m kept ready.reliable;
    schema_there = subst (λ (fs : Files). IsFile fs schema) (sym kept.files) ready.schema_there;
    input_there = subst (λ (fs : Files). IsFile fs input) (sym kept.files) ready.input_there;
    bytes = subst AreBytes (sym (ap next_link same)) ready.bytes;
  }

  -- a step ends by no fault over an outside that is ready and has room for each answer of this kind
  abbrev Unfailing : (Files → List ℕ → Answer → Type 0) → Step Status → Type 0
  Unfailing Of W = (t : List Event) (r : Status) (s n : Outside) → W t r → Fits t s n → Ready s → ((a : Answer) → Of s.view.files (next_link s.view) a → HasRoomFor a s.view) → IsTold r

  module _ (p : ProfileView) (good : IsProfile p) where
    call_told : (b : List ℕ) → Unfailing (λ files given. answer.OfCall p address b given) (OfCall p address b)
    call_told b t r s n (no_call fault refuses h) f ready room = refusal_told _ t r h
    call_told b t r s n (long_call c means long h) f ready room = refusal_told _ t r h
    call_told b t r s n (calls_it c means few h) f ready room = over_told p c.number address b good t r s n h f ready.reliable ready.bytes (λ a of. room a (answer.sent c means few of))

    text_told : (text : List ℕ) → Unfailing (λ files given. answer.OfJson p address text given) (OfText p address text)
    text_told text t r s n (no_json cause refuses h) f ready room = refusal_told _ t r h
    text_told text t r s n (json_of x b is spells are h) f ready room = call_told b t r s n h f ready (λ a of. room a (answer.json_of x b is spells are of))

  room_later : (a : Answer) (s m : Outside) → OnlySlots s m → HasRoomFor a s.view → HasRoomFor a m.view
  room_later a s m same room = subst (λ (v : View). HasRoomFor a v) (sym same) (record { output = room.output; state = room.state; links = room.links; coming = room.coming; address = room.address })

  module _ (slot : Slot) (name : List ℕ) (limit : ℕ) (W : Option (List ℕ) → Step Status) (Of : List ℕ → Files → List ℕ → Answer → Type 0)
      (stays : (file : List ℕ) (files : Files) (given : List ℕ) (a : Answer) → Of (take (limit + 1) file) files given a → Of file files given a)
      (each : (text : List ℕ) → Unfailing (Of text) (W (Some text))) (there : (s : Outside) → Ready s → IsThere name s.view) where
    abbrev OfNamed : Files → List ℕ → Answer → Type 0
    OfNamed files given a = (file : List ℕ) × HasFile files name file × Of file files given a

    read_told : (text : Option (List ℕ)) (t u : List Event) (r : Status) (s m n : Outside) → ReadsFile slot name limit t text → W text u r → Fits t s m → Fits u m n → Ready s
        → ((a : Answer) → OfNamed s.view.files (next_link s.view) a → HasRoomFor a s.view) → IsTold r
    read_told (Some text) t u r s m n read h f g ready room =
        let file = files_are_read slot name limit t text s m read f in
        let same = reading_spares t s m f (keeps_file IsReading slot name limit (λ _. tt) (λ _. tt) tt tt t (Some text) read) in
        let named : (a : Answer) → Of text m.view.files (next_link m.view) a → OfNamed s.view.files (next_link s.view) a =
        λ a of. (file.0, file.1, stays file.0 s.view.files (next_link s.view) a (subst (λ (l : List ℕ). Of l s.view.files (next_link s.view) a) file.2 (subst (λ (v : View). Of text v.files (next_link v) a) same of))) in
        each text u r m n h g (ready_later s m same (fits_keeps t s m f) ready) (λ a of. room_later a s m same (room a (named a of)))
    read_told None t u r s m n read h f g ready room = absurd (files_can_be_read slot name limit t s m read f ready.reliable (there s ready))

    file_told : Unfailing OfNamed (Then (ReadsFile slot name limit) W)
    file_told t r s n h f ready room =
        let parts = fits_both h.first h.rest s n (subst (λ (l : List Event). Fits l s n) h.splits f) in
        read_told h.between h.first h.rest r s parts.0 n h.does h.goes parts.1 parts.2 ready room

  abbrev Of : Files → List ℕ → ProfileView → Answer → Type 0
  Of = OfInput schema address input

  input_told : (p : ProfileView) → IsProfile p → Unfailing (λ files given. Of files given p) (OfInputFile address input p)
  input_told p good =
      file_told slots.Input input JSON_BYTES (after_reading p address) (λ text files given. answer.OfJson p address text given) (λ file files given. json_stays p address file given) (text_told p good) (λ s ready. ready.input_there)

  profile_told : (S : Declared) → IsSchema S → Unfailing (λ files given. profiling.OfProfile (Of files given) S) (OfProfile (OfInputFile address input) S)
  profile_told S good t r s n (no_profile fault lacks h) f ready room = refusal_told _ t r h
  profile_told S good t r s n (profiled p is h) f ready room = input_told p (are_profiles S p good is).0 t r s n h f ready (λ a of. room a (profiling.profiled p is of))

  schema_told : (text : List ℕ) → Unfailing (λ files given. OfSchemaText (codes "schema") (profiling.OfProfile (Of files given)) text) (typed.OfText (codes "schema") (OfProfile (OfInputFile address input)) text)
  schema_told text t r s n (typed.no_schema cause refuses h) f ready room = refusal_told _ t r h
  schema_told text t r s n (typed.schema_of S is h) f ready room = profile_told S is.good t r s n h f ready (λ a of. room a (answering.schema_of S is of))

  post_told : Unfailing (λ files given. PostAnswer files given schema address input) (posts schema address input)
  post_told =
      file_told slots.Schema schema SCHEMA_BYTES (typed.after_schema (codes "schema") (OfProfile (OfInputFile address input)))
      (λ text files given. OfSchemaText (codes "schema") (profiling.OfProfile (Of files given)) text) (λ file files given. text_stays (codes "schema") (profiling.OfProfile (Of files given)) file) schema_told
      (λ s ready. ready.schema_there)

-- where the files are there, no call was told to fail, the next link gives bytes, and there is room for the answer, no fault ends it
pub post_unfailing : (schema address input : List ℕ) (t : List Event) (r : Status) (s n : Outside) (a : Answer) → posts schema address input t r → Fits t s n → IsReliable s → IsThere schema s.view → IsThere input s.view → AreBytes (next_link s.view)
    → PostAnswer s.view.files (next_link s.view) schema address input a → HasRoomFor a s.view → IsTold r
post_unfailing schema address input t r s n a h f reliable schema_there input_there bytes is room =
    let one : (b : Answer) → PostAnswer s.view.files (next_link s.view) schema address input b → a ≡ b = λ b of. one_post s.view.files (next_link s.view) bytes schema address input a b is of in
    post_told schema address input t r s n h f (record { reliable = reliable; schema_there = schema_there; input_there = input_there; bytes = bytes }) (λ b of. subst (λ (x : Answer). HasRoomFor x s.view) (one b of) room)
