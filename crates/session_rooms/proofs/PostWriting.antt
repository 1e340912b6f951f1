-- What `post` has written, whatever fault stops it.
use Rattle.std.proofs.Common.{◌≡◌, ◌⊎◌, ℕ, ◌+◌, List, [], ◌∷◌, ◌++◌, map, length, append-nil, take, Bool, true, false, Option, Some, None, codes, refl, sym, ap, ◌∙◌, subst, inl, inr, arith}
use Rattle.tl_numbers.specs.Bytes.{AreBytes}
use Rattle.tl_base.specs.Calls.{with_name}
use Rattle.tl_base.specs.Contents.{Files}
use Rattle.tl_base.specs.Outside.{View, HasFile, left_of, with_written, written_of}
use Rattle.tl_base.specs.Packets.{packet}
use Rattle.tl_base.specs.declared.host.Out.{Out}
use Rattle.tl_base.specs.declared.host.Out.TheVariants as outs
use Rattle.tl_base.specs.declared.host.Slot.{Slot}
use Rattle.tl_base.specs.declared.host.Slot.TheVariants as slots
use Rattle.tl_schema.specs.CheckedPrograms.{IsSchema}
use Rattle.tl_schema.specs.Schemas.{Declared}
use Rattle.wire_profile.specs.Indexes.{ProfileView}
use Rattle.wire_profile.specs.Profiles.{IsProfile}
use Rattle.outside.specs.Answer.{Answer, done, link_fault_line, refused, write_fault_line}
use Rattle.outside.specs.Kept.{AddsPrefix}
use Rattle.outside.specs.declared.status.Status.{Status}
use Rattle.outside.specs.declared.status.Status.TheVariants.{LinkFault, PeerFault, ReadFault, WriteFault}
use Rattle.outside.specs.Begun.{WritesOnly, to_link}
use Rattle.outside.specs.Events.{Event, Outside, opened, took, ended, read_failed, created, put, write_failed, listened, connected, accepted, told}
use Rattle.outside.specs.Laws.{Throughout}
use Rattle.outside.specs.Packets.{PacketView, whole, TakesPacket}
use Rattle.outside.specs.Packets as packets
use Rattle.outside.specs.Pieces.{InPieces, ReadsFile, Tells, Writes}
use Rattle.outside.specs.Printing.{Prints, after_output}
use Rattle.outside.specs.Runs as runs
use Rattle.outside.specs.Steps.{Step, Then}
use Rattle.outside.proofs.Causing.{keeps_file, told_status}
use Rattle.outside.proofs.TakenPackets.{keeps_packet, whole_packet}
use Rattle.outside.specs.Fits.{Fits, Happens}
use Rattle.outside.proofs.Fitting.{files_are_read, fits_both, writes_append}
use Rattle.outside.proofs.Sparing.{IsReading}
use Rattle.schema_files.specs.Answering.{OfSchemaText}
use Rattle.schema_files.specs.Answering as answering
use Rattle.schema_files.specs.declared.json_input.TheConstants.{JSON_BYTES}
use Rattle.schema_files.specs.declared.schema_text.TheConstants.{SCHEMA_BYTES}
use Rattle.tl_base.specs.declared.packet.PacketCause.TheVariants.{Ended}
use Rattle.fault_lines.specs.Packets.{packet_line}
use Rattle.fault_lines.specs.Profiled as profiling
use Rattle.fault_lines.proofs.Profiled.{are_profiles}
use Rattle.codec_rooms.specs.Typed as typed
use Rattle.codec_rooms.proofs.TypedFiles.{text_stays}
use Rattle.update_commands.specs.Profile.{OfProfile, no_profile, profiled}
use Rattle.session_commands.specs.Linked.{next_link}
use Rattle.session_commands.specs.Post.{Outcome, OfLink, OfSent, PostAnswer, answer_of, packet_of, peer, shows}
use Rattle.session_commands.specs.Post as answer
use Rattle.session_rooms.specs.Post.{CallsOver, OfCall, no_call, long_call, calls_it, OfInputFile, OfText, no_json, json_of, after_connect, after_packet, after_reading, after_sending, posts, told_as}
use Rattle.session_rooms.specs.PostWrites.{PostWrites, WritesNone, WritesSome}
use Rattle.session_rooms.proofs.LeftPackets.{packet_left, rest_of}
use Rattle.session_rooms.proofs.PostFiles.{OfInput, aside, json_stays, linked, output_of, sent_bytes, shown_of}
use Rattle.session_rooms.proofs.PostUnfailing.{some_outcome}
use Rattle.session_rooms.proofs.Spared.{OnlySlots, reading_spares, writes_spare}

-- ---- what was written where a write failed

-- that much was written
written_before : (out : Out) (before : List ℕ) (t : List Event) (s n : Outside) → InPieces (put out) before (write_failed out ∷ []) t → Fits t s n → (u : List Event) × (m : Outside) × Writes out before u true × Fits u s m × (n.view ≡ m.view)
written_before out before t s n q f =
    let parts = fits_both (map (put out) q.pieces) (write_failed out ∷ []) s n (subst (λ (l : List Event). Fits l s n) q.events f) in
    (map (put out) q.pieces, parts.0, record { pieces = q.pieces; events = sym (append-nil (map (put out) q.pieces)); join = q.join }, parts.1, ap (λ (o : Outside). o.view) parts.2.2 ∙ parts.2.1.0)

-- ---- what is told

-- nothing but slots and Errors has changed
abbrev OnlyTold : Outside → Outside → Type 0
OnlyTold s n = (output_of n ≡ output_of s) × (aside n.view ≡ aside s.view)

tell_only : (line : List ℕ) (status r : Status) (t : List Event) (s n : Outside) → Tells line status t r → Fits t s n → OnlyTold s n
tell_only line status r t s n h f =
    let parts = fits_both h.first h.rest s n (subst (λ (l : List Event). Fits l s n) h.splits f) in
    let stays : n ≡ parts.0 = subst (λ (l : List Event). Fits l parts.0 n) h.goes.0 parts.2 in (
      ap output_of stays ∙ writes_spare outs.Errors (written_of outs.Output) (λ bytes v. refl) line h.first h.between s parts.0 h.does parts.1,
      ap (λ (o : Outside). aside o.view) stays ∙ writes_spare outs.Errors aside (λ bytes v. refl) line h.first h.between s parts.0 h.does parts.1,
    )

told_none : (s n : Outside) → OnlyTold s n → WritesNone s n
told_none s n e = (e.0, ap (λ (v : View). v.written.links) e.1)

-- so much of this was written to Output
abbrev Shows : List ℕ → Outside → Outside → Type 0
Shows output s n = AddsPrefix (output_of s) (output_of n) output × (aside n.view ≡ aside s.view)

shows_none : (output : List ℕ) (s n : Outside) → OnlyTold s n → Shows output s n
shows_none output s n e = (([], output, refl, e.0 ∙ sym (append-nil (output_of s))), e.1)

after_shown : (a : Answer) (ok : Bool) (t u : List Event) (r : Status) (s m n : Outside) → Writes outs.Output a.output t ok → after_output a ok u r → Fits t s m → Fits u m n → Shows a.output s n
after_shown a true t u r s m n w h f g =
    let e = tell_only a.errors a.status r u m n h g in
    ((a.output, [], append-nil a.output, e.0 ∙ writes_append outs.Output a.output t s m w f), e.1 ∙ writes_spare outs.Output aside (λ bytes v. refl) a.output t true s m w f)
after_shown a false t u r s m n w h f g =
    let e = tell_only write_fault_line WriteFault r u m n h g in
    let b = written_before outs.Output w.0 t s m w.2 f in
    let wrote : output_of m ≡ output_of s ++ w.0 = ap (written_of outs.Output) b.4 ∙ writes_append outs.Output w.0 b.0 s b.1 b.2 b.3 in
    ((w.0, w.1, w.3, e.0 ∙ wrote), e.1 ∙ writes_spare outs.Output aside (λ bytes v. refl) a.output t false s m w f)

print_shows : (a : Answer) (t : List Event) (r : Status) (s n : Outside) → Prints a t r → Fits t s n → Shows a.output s n
print_shows a t r s n h f =
    let parts = fits_both h.first h.rest s n (subst (λ (l : List Event). Fits l s n) h.splits f) in
    after_shown a h.between h.first h.rest r s parts.0 n h.does h.goes parts.1 parts.2

outcome_shows : (o : Outcome) (t : List Event) (r : Status) (s n : Outside) → told_as o t r → Fits t s n → Shows (shown_of o) s n
outcome_shows (shows line) t r s n h f = print_shows (done line) t r s n h f
outcome_shows (peer line) t r s n h f = shows_none [] s n (tell_only line PeerFault r t s n h f)

-- a prefix of nothing is nothing
no_prefix : (x y : List ℕ) → x ++ y ≡ [] → x ≡ []
no_prefix [] y is = refl
no_prefix (b ∷ x) y is = absurd (omega (arith, ap length is))

shown_none : (s n : Outside) → Shows [] s n → WritesNone s n
shown_none s n (p, rest) = (p.3 ∙ ap (λ (z : List ℕ). output_of s ++ z) (no_prefix p.0 p.1 p.2) ∙ append-nil (output_of s), ap (λ (v : View). v.written.links) rest)

-- ---- what comes back

module _ (p : ProfileView) (good : IsProfile p) (number : ℕ) where
  -- some of what an outcome of these bytes shows was written
  abbrev Came : List ℕ → Outside → Outside → Type 0
  Came given s n = (o : Outcome) × OfLink p number given o × Shows (shown_of o) s n

  came_none : (given : List ℕ) (s n : Outside) → AreBytes given → OnlyTold s n → Came given s n
  came_none given s n bytes e = let some = some_outcome p number good given bytes in (some.0, some.1, shows_none (shown_of some.0) s n e)

  packet_came : (v : PacketView) (t u : List Event) (r : Status) (s m n : Outside) → TakesPacket slots.Link t v → after_packet p number v u r → Fits t s m → Fits u m n → AreBytes (rest_of slots.Link s) → Came (rest_of slots.Link s) m n
  packet_came (whole body) t u r s m n takes (o, of, h) f g bytes =
      (o, packet_of body (rest_of slots.Link m) (whole_packet slots.Link t body takes).0 (packet_left slots.Link t (whole body) s m takes f) of, outcome_shows o u r m n h g)
  packet_came packets.none t u r s m n takes h f g bytes = came_none (rest_of slots.Link s) m n bytes (tell_only (packet_line (Ended 0)) PeerFault r u m n h g)
  packet_came (packets.wrong cause) t u r s m n takes h f g bytes = came_none (rest_of slots.Link s) m n bytes (tell_only (packet_line cause) PeerFault r u m n h g)
  packet_came packets.broken t u r s m n takes h f g bytes = came_none (rest_of slots.Link s) m n bytes (tell_only link_fault_line LinkFault r u m n h g)

  shows_later : (output : List ℕ) (s m n : Outside) → output_of m ≡ output_of s → aside m.view ≡ aside s.view → Shows output m n → Shows output s n
  shows_later output s m n same rest e = ((e.0.0, e.0.1, e.0.2, e.0.3 ∙ ap (λ (z : List ℕ). z ++ e.0.0) same), e.1 ∙ rest)

  reply_came : (ok : Bool) (t : List Event) (r : Status) (s n : Outside) → after_sending p number ok t r → Fits t s n → AreBytes (rest_of slots.Link s) → Came (rest_of slots.Link s) s n
  reply_came true t r s n h f bytes =
      let parts = fits_both h.first h.rest s n (subst (λ (l : List Event). Fits l s n) h.splits f) in
      let same = reading_spares h.first s parts.0 parts.1 (keeps_packet slots.Link IsReading (λ _. tt) tt tt h.first h.between h.does) in
      let c = packet_came h.between h.first h.rest r s parts.0 n h.does h.goes parts.1 parts.2 bytes in
      (c.0, c.1, shows_later (shown_of c.0) s parts.0 n (ap (written_of outs.Output) same) (ap aside same) c.2)
  reply_came false t r s n h f bytes = came_none (rest_of slots.Link s) s n bytes (tell_only link_fault_line LinkFault r t s n h f)

  -- ---- a link

  module _ (address b : List ℕ) where
    -- so much of the call was sent
    abbrev Sent : Outside → Outside → Type 0
    Sent s n = (sent : List ℕ) × (unsent : List ℕ) × (sent ++ unsent ≡ packet b) × (n.view.written.links ≡ s.view.written.links ++ sent ∷ [])

    sends : (ok : Bool) (t : List Event) (s m n : Outside) → m.view ≡ linked address s.view → Writes outs.Link (packet b) t ok → Fits t m n → Sent s n
    sends true t s m n is w f = (packet b, [], append-nil (packet b), sent_bytes s.view.written.links (packet b) t m n (ap (λ (v : View). v.written.links) is) w f)
    sends false t s m n is w f =
        let x = written_before outs.Link w.0 t m n w.2 f in
        (w.0, w.1, w.3, ap (λ (v : View). v.written.links) x.4 ∙ sent_bytes s.view.written.links w.0 x.0 m x.1 (ap (λ (v : View). v.written.links) is) x.2 x.3)

    outcome_some : (o : Outcome) (s n : Outside) → AddsPrefix (output_of s) (output_of n) (shown_of o) → Sent s n → WritesSome (answer_of address (packet b) o) s n
    outcome_some (shows line) s n output (sent, unsent, join, links) = record { output = output; sent = sent; unsent = unsent; links = links; of = ap (λ (z : List ℕ). z ∷ []) (sym join) }
    outcome_some (peer line) s n output (sent, unsent, join, links) = record { output = output; sent = sent; unsent = unsent; links = links; of = ap (λ (z : List ℕ). z ∷ []) (sym join) }

    abbrev Part : Outside → Outside → Type 0
    Part s n = WritesNone s n ⊎ ((a : Answer) × OfSent p number address b (next_link s.view) a × WritesSome a s n)

    linked_part : (ok : Bool) (t u : List Event) (r : Status) (s m n : Outside) → t ≡ connected address ok ∷ [] → after_connect p number b ok u r → Fits t s m → Fits u m n → AreBytes (next_link s.view) → Part s n
    linked_part true t u r s m n is h f g bytes =
        let c = subst (λ (l : List Event). Fits l s m) is f in
        let parts = fits_both h.first h.rest m n (subst (λ (l : List Event). Fits l m n) h.splits g) in
        let k = parts.0 in
        let view : m.view ≡ linked address s.view = ap (λ (o : Outside). o.view) c.2 ∙ c.1.0.1 in
        let gave : rest_of slots.Link k ≡ next_link s.view = writes_spare outs.Link (left_of slots.Link) (λ bytes v. refl) (packet b) h.first h.between m k h.does parts.1 ∙ ap (left_of slots.Link) view in
        let wrote : output_of k ≡ output_of s = writes_spare outs.Link (written_of outs.Output) (λ bytes v. refl) (packet b) h.first h.between m k h.does parts.1 ∙ ap (written_of outs.Output) view in
        let sent = sends h.between h.first s m k view h.does parts.1 in
        let came = reply_came h.between h.rest r k n h.goes parts.2 (subst AreBytes (sym gave) bytes) in
        let shown = came.2.0 in
        inr (
          answer_of address (packet b) came.0,
          (came.0, subst (λ (z : List ℕ). OfLink p number z came.0) gave came.1, refl),
          outcome_some came.0 s n (shown.0, shown.1, shown.2, shown.3 ∙ ap (λ (z : List ℕ). z ++ shown.0) wrote) (sent.0, sent.1, sent.2, ap (λ (v : View). v.written.links) came.2.1 ∙ sent.3),
        )
    linked_part false t u r s m n is h f g bytes =
        let c = subst (λ (l : List Event). Fits l s m) is f in
        let view : m.view ≡ s.view = ap (λ (o : Outside). o.view) c.2 ∙ c.1.0 in
        let e = told_none m n (tell_only link_fault_line LinkFault r u m n h g) in
        inl (e.0 ∙ ap (written_of outs.Output) view, e.1 ∙ ap (λ (v : View). v.written.links) view)

    over_part : (t : List Event) (r : Status) (s n : Outside) → CallsOver p address number b t r → Fits t s n → AreBytes (next_link s.view) → Part s n
    over_part t r s n h f bytes =
        let parts = fits_both h.first h.rest s n (subst (λ (l : List Event). Fits l s n) h.splits f) in
        linked_part h.between h.first h.rest r s parts.0 n h.does h.goes parts.1 parts.2 bytes

-- ---- what follows of files

-- nothing was written, or some of what an answer of this kind does
abbrev Parts : (Files → List ℕ → Answer → Type 0) → Step Status → Type 0
Parts Of W = (t : List Event) (r : Status) (s n : Outside) → W t r → Fits t s n → AreBytes (next_link s.view) → WritesNone s n ⊎ ((a : Answer) × Of s.view.files (next_link s.view) a × WritesSome a s n)

abbrev PartOf : (Answer → Type 0) → Outside → Outside → Type 0
PartOf Is s n = WritesNone s n ⊎ ((a : Answer) × Is a × WritesSome a s n)

part_as : (Is J : Answer → Type 0) (s n : Outside) → ((a : Answer) → Is a → J a) → PartOf Is s n → PartOf J s n
part_as Is J s n into (inl none) = inl none
part_as Is J s n into (inr some) = inr (some.0, into some.0 some.1, some.2)

refusal_part : (Is : Answer → Type 0) (line : List ℕ) (t : List Event) (r : Status) (s n : Outside) → Prints (refused line) t r → Fits t s n → PartOf Is s n
refusal_part Is line t r s n h f = inl (shown_none s n (print_shows (refused line) t r s n h f))

part_later : (Is : Answer → Type 0) (s m n : Outside) → OnlySlots s m → PartOf Is m n → PartOf Is s n
part_later Is s m n same (inl none) = inl (none.0 ∙ ap (written_of outs.Output) same, none.1 ∙ ap (λ (v : View). v.written.links) same)
part_later Is s m n same (inr (a, is, e)) =
    inr (
      a,
      is,
      record {
        output = (e.output.0, e.output.1, e.output.2, e.output.3 ∙ ap (λ (v : View). written_of outs.Output v ++ e.output.0) same);
        sent = e.sent;
        unsent = e.unsent;
        links = e.links ∙ ap (λ (v : View). v.written.links ++ e.sent ∷ []) same;
        of = e.of;
      },
    )

module _ (p : ProfileView) (good : IsProfile p) (address : List ℕ) where
  call_part : (b : List ℕ) → Parts (λ files given. answer.OfCall p address b given) (OfCall p address b)
  call_part b t r s n (no_call fault refuses h) f bytes = refusal_part (answer.OfCall p address b (next_link s.view)) _ t r s n h f
  call_part b t r s n (long_call c means long h) f bytes = refusal_part (answer.OfCall p address b (next_link s.view)) _ t r s n h f
  call_part b t r s n (calls_it c means few h) f bytes =
      part_as (OfSent p c.number address b (next_link s.view)) (answer.OfCall p address b (next_link s.view)) s n (λ a of. answer.sent c means few of) (over_part p good c.number address b t r s n h f bytes)

  text_part : (text : List ℕ) → Parts (λ files given. answer.OfJson p address text given) (OfText p address text)
  text_part text t r s n (no_json cause refuses h) f bytes = refusal_part (answer.OfJson p address text (next_link s.view)) _ t r s n h f
  text_part text t r s n (json_of x b is spells are h) f bytes =
      part_as (answer.OfCall p address b (next_link s.view)) (answer.OfJson p address text (next_link s.view)) s n (λ a of. answer.json_of x b is spells are of) (call_part b t r s n h f bytes)

module _ (slot : Slot) (name : List ℕ) (limit : ℕ) (W : Option (List ℕ) → Step Status) (Of : List ℕ → Files → List ℕ → Answer → Type 0)
    (stays : (file : List ℕ) (files : Files) (given : List ℕ) (a : Answer) → Of (take (limit + 1) file) files given a → Of file files given a)
    (each : (text : List ℕ) → Parts (Of text) (W (Some text))) (none : (t : List Event) (r : Status) (s n : Outside) → W None t r → Fits t s n → WritesNone s n) where
  abbrev OfNamed : Files → List ℕ → Answer → Type 0
  OfNamed files given a = (file : List ℕ) × HasFile files name file × Of file files given a

  read_part : (text : Option (List ℕ)) (t u : List Event) (r : Status) (s m n : Outside) → ReadsFile slot name limit t text → W text u r → Fits t s m → Fits u m n → AreBytes (next_link s.view) → PartOf (OfNamed s.view.files (next_link s.view)) s n
  read_part (Some text) t u r s m n read h f g bytes =
      let file = files_are_read slot name limit t text s m read f in
      let same = reading_spares t s m f (keeps_file IsReading slot name limit (λ _. tt) (λ _. tt) tt tt t (Some text) read) in
      let named : (a : Answer) → Of text m.view.files (next_link m.view) a → OfNamed s.view.files (next_link s.view) a =
      λ a of. (file.0, file.1, stays file.0 s.view.files (next_link s.view) a (subst (λ (l : List ℕ). Of l s.view.files (next_link s.view) a) file.2 (subst (λ (v : View). Of text v.files (next_link v) a) same of))) in
      part_as (Of text m.view.files (next_link m.view)) (OfNamed s.view.files (next_link s.view)) s n named
      (part_later (Of text m.view.files (next_link m.view)) s m n same (each text u r m n h g (subst AreBytes (sym (ap next_link same)) bytes)))
  read_part None t u r s m n read h f g bytes =
      let same = reading_spares t s m f (keeps_file IsReading slot name limit (λ _. tt) (λ _. tt) tt tt t None read) in
      part_later (OfNamed s.view.files (next_link s.view)) s m n same (inl (none u r m n h g))

  file_part : Parts OfNamed (Then (ReadsFile slot name limit) W)
  file_part t r s n h f bytes =
      let parts = fits_both h.first h.rest s n (subst (λ (l : List Event). Fits l s n) h.splits f) in
      read_part h.between h.first h.rest r s parts.0 n h.does h.goes parts.1 parts.2 bytes

module _ (schema address input : List ℕ) where
  abbrev Of : Files → List ℕ → ProfileView → Answer → Type 0
  Of = OfInput schema address input

  input_part : (p : ProfileView) → IsProfile p → Parts (λ files given. Of files given p) (OfInputFile address input p)
  input_part p good =
      file_part slots.Input input JSON_BYTES (after_reading p address) (λ text files given. answer.OfJson p address text given) (λ file files given. json_stays p address file given) (text_part p good address)
      (λ t r s n h f. told_none s n (tell_only _ ReadFault r t s n h f))

  profile_part : (S : Declared) → IsSchema S → Parts (λ files given. profiling.OfProfile (Of files given) S) (OfProfile (OfInputFile address input) S)
  profile_part S good t r s n (no_profile fault lacks h) f bytes = refusal_part (profiling.OfProfile (Of s.view.files (next_link s.view)) S) _ t r s n h f
  profile_part S good t r s n (profiled p is h) f bytes =
      part_as (Of s.view.files (next_link s.view) p) (profiling.OfProfile (Of s.view.files (next_link s.view)) S) s n (λ a of. profiling.profiled p is of) (input_part p (are_profiles S p good is).0 t r s n h f bytes)

  schema_part : (text : List ℕ) → Parts (λ files given. OfSchemaText (codes "schema") (profiling.OfProfile (Of files given)) text) (typed.OfText (codes "schema") (OfProfile (OfInputFile address input)) text)
  schema_part text t r s n (typed.no_schema cause refuses h) f bytes = refusal_part (OfSchemaText (codes "schema") (profiling.OfProfile (Of s.view.files (next_link s.view))) text) _ t r s n h f
  schema_part text t r s n (typed.schema_of S is h) f bytes =
      part_as (profiling.OfProfile (Of s.view.files (next_link s.view)) S) (OfSchemaText (codes "schema") (profiling.OfProfile (Of s.view.files (next_link s.view))) text) s n
      (λ a of. answering.schema_of S is of) (profile_part S is.good t r s n h f bytes)

  post_part : Parts (λ files given. PostAnswer files given schema address input) (posts schema address input)
  post_part =
      file_part slots.Schema schema SCHEMA_BYTES (typed.after_schema (codes "schema") (OfProfile (OfInputFile address input)))
      (λ text files given. OfSchemaText (codes "schema") (profiling.OfProfile (Of files given)) text) (λ file files given. text_stays (codes "schema") (profiling.OfProfile (Of files given)) file) schema_part
      (λ t r s n h f. told_none s n (tell_only _ ReadFault r t s n h f))

-- ---- memory runs out

-- nothing is written to Output where only the link is written to
link_only : (e : Event) (s n : Outside) → Happens e s n → WritesOnly to_link e → output_of n ≡ output_of s
link_only (opened slot name true) s n h is = ap (written_of outs.Output) h.0.2
link_only (opened slot name false) s n h is = ap (written_of outs.Output) h.0
link_only (took slot bytes) s n h is = ap (written_of outs.Output) h.1
link_only (ended slot) s n h is = ap (written_of outs.Output) h.1
link_only (read_failed slot) s n h is = ap (written_of outs.Output) h.0
link_only (created out name false) s n h is = ap (written_of outs.Output) h.0
link_only (created out name true) s n h (inl is) = ap (written_of outs.Output) (h.0 ∙ ap (λ (o : Out). with_name o name (with_written o [] s.view)) is)
link_only (created out name true) s n h (inr is) = absurd is
link_only (put out bytes) s n h (inl is) = ap (written_of outs.Output) (h.0 ∙ ap (λ (o : Out). with_written o (written_of o s.view ++ bytes) s.view) is)
link_only (put out bytes) s n h (inr is) = absurd is
link_only (write_failed out) s n h is = ap (written_of outs.Output) h.0
link_only (listened address true) s n h is = ap (written_of outs.Output) h.0
link_only (listened address false) s n h is = ap (written_of outs.Output) h.0
link_only (connected address true) s n h is = ap (written_of outs.Output) h.0.1
link_only (connected address false) s n h is = ap (written_of outs.Output) h.0
link_only (accepted true) s n h is = ap (written_of outs.Output) h.0.1
link_only (accepted false) s n h is = ap (written_of outs.Output) h.0
link_only (told moment) s n h is = ap (written_of outs.Output) h.0.1

links_only : (t : List Event) (s n : Outside) → Fits t s n → Throughout (WritesOnly to_link) t → output_of n ≡ output_of s
links_only [] s n f are = ap output_of f
links_only (e ∷ t) s n f are = links_only t f.0 n f.2 are.1 ∙ link_only e s f.0 f.1 are.0

pub post_writes : PostWrites
post_writes schema address input t r s n (runs.done h) f bytes = elim (post_part schema address input t r s n h f bytes) [ inl none ↦ inl none | inr some ↦ inr (inl some) ]
post_writes schema address input t r s n (runs.out_of_memory h) f bytes =
    let parts = fits_both h.first h.rest s n (subst (λ (l : List Event). Fits l s n) h.splits f) in
    let e = tell_only _ h.between r h.rest parts.0 n h.goes parts.2 in
    inr (inr (told_status _ h.between h.rest r h.goes ∙ h.does.1, e.0 ∙ links_only h.first s parts.0 parts.1 h.does.0.only))
