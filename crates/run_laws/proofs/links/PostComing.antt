-- What `post` comes to over an outside, whatever stops it.
use Rattle.std.proofs.Common.{◌≡◌, ℕ, List, [], ◌∷◌, ◌++◌, length, Bool, true, false, refl, sym, ap, ◌∙◌, subst, inl, inr, arith, codes}
use Rattle.tl_base.specs.Outside.{View, left_of, written_of}
use Rattle.tl_base.specs.Packets.{packet}
use Rattle.tl_base.specs.declared.packet.PacketCause.{PacketCause}
use Rattle.tl_base.specs.declared.packet.PacketCause.TheVariants as faults
use Rattle.tl_base.specs.declared.host.Out.TheVariants as outs
use Rattle.tl_base.specs.declared.host.Slot.TheVariants as slots
use Rattle.wire_profile.specs.Indexes.{ProfileView}
use Rattle.wire_profile.specs.Profiles.{IsProfile}
use Rattle.outside.specs.Answer.{Answer, done, link_fault_line, write_fault_line}
use Rattle.outside.specs.Kept.{Leaves}
use Rattle.outside.specs.declared.status.Status.{Status}
use Rattle.outside.specs.declared.status.Status.TheVariants.{Done, LinkFault, PeerFault}
use Rattle.outside.specs.Events.{Event, Outside, connected}
use Rattle.outside.specs.Packets.{PacketView, whole, TakesPacket}
use Rattle.outside.specs.Packets as packets
use Rattle.outside.specs.Pieces.{Tells, Writes}
use Rattle.outside.proofs.Causing.{keeps_write}
use Rattle.outside.proofs.TakenPackets.{keeps_packet, whole_packet}
use Rattle.outside.specs.Fits.{Fits}
use Rattle.outside.proofs.Fitting.{fits_both, writes_append}
use Rattle.outside.proofs.Sparing.{IsReading}
use Rattle.fault_lines.specs.Packets.{packet_line}
use Rattle.fault_lines.specs.Messages.{wire_line}
use Rattle.schema_files.specs.Lines.{json_line}
use Rattle.schema_files.specs.declared.json_input.TheConstants.{JSON_BYTES}
use Rattle.update_sessions.specs.Heard.{NoFrame}
use Rattle.session_commands.specs.Lines.{long_call_line}
use Rattle.session_commands.specs.Linked.{next_link, over_link}
use Rattle.session_commands.specs.Post.{IsWordLong, Outcome, OfLink, OfSent, PostAnswer, answer_of, no_packet, packet_of, peer, shows}
use Rattle.session_commands.specs.Post as answer
use Rattle.session_rooms.specs.Post.{CallsOver, OfCall, no_call, long_call, calls_it, OfInputFile, OfText, no_json, json_of, after_connect, after_packet, after_reading, after_sending, posts, told_as}
use Rattle.session_rooms.proofs.LeftViews.{IsOverLink, beside, leaves_then, link_left}
use Rattle.session_rooms.proofs.LeftPackets.{packet_left, rest_of}
use Rattle.session_rooms.proofs.PostFiles.{json_stays, linked, output_of, shown_of}
use Rattle.session_rooms.proofs.Spared.{OnlySlots, reading_spares, writes_spare}
use Rattle.run_laws.proofs.links.Coming.{Came, gave, cut, unfinished, came_as, came_later, Comes, command_comes, file_comes, missing_comes, refusal_comes}
use Rattle.run_laws.proofs.links.ToldLines.{Alone, Causes, Printed, all_printed, part_printed, cause_last, errors_of, print_comes, tell_alone, tells_later, told_printed}

-- ---- what comes back

abbrev status_of : Outcome → Status
status_of (shows line) = Done
status_of (peer line) = PeerFault

abbrev line_of : Outcome → List ℕ
line_of (shows line) = []
line_of (peer line) = line

module _ (W : Type 0) where
  abbrev End : (Answer → Type 0) → Status → Outside → Outside → Type 0
  End Is r s n = Came Is W r s n

  outcome_printed : (o : Outcome) (t : List Event) (r : Status) (s n : Outside) → told_as o t r → Fits t s n → Causes W t → Printed W (status_of o) (shown_of o) (line_of o) r s n
  outcome_printed (shows line) t r s n h f c = print_comes W (done line) t r s n h f c
  outcome_printed (peer line) t r s n h f c = told_printed W PeerFault r line t s n h f c

  printed_later : (status : Status) (output line : List ℕ) (r : Status) (s m n : Outside) → OnlySlots s m → Printed W status output line r m n → Printed W status output line r s n
  printed_later status output line r s m n same (all_printed e wrote tells rest) =
      all_printed e (wrote ∙ ap (λ (v : View). written_of outs.Output v ++ output) same) (tells_later W line s m n (ap (written_of outs.Errors) same) tells) (rest ∙ ap beside same)
  printed_later status output line r s m n same (part_printed e p tells rest) =
      part_printed e (p.0, p.1, p.2, p.3 ∙ ap (λ (v : View). written_of outs.Output v ++ p.0) same) (tells_later W write_fault_line s m n (ap (written_of outs.Errors) same) tells) (rest ∙ ap beside same)

  alone_later : (line : List ℕ) (s m n : Outside) → OnlySlots s m → Alone W line m n → Alone W line s n
  alone_later line s m n same e = record {
    line_is = tells_later W line s m n (ap (written_of outs.Errors) same) e.line_is;
    output = e.output ∙ ap (written_of outs.Output) same;
    rest = e.rest ∙ ap beside same;
  }

  module _ (p : ProfileView) (number : ℕ) where
    -- what the link gave is told, or that it failed
    data Heard (given : List ℕ) (r : Status) (s n : Outside) : Type 0 where
      came : (o : Outcome) → OfLink p number given o → Printed W (status_of o) (shown_of o) (line_of o) r s n → Heard given r s n
      lost : r ≡ LinkFault → Alone W link_fault_line s n → Heard given r s n

    none_came : (given : List ℕ) (fault : PacketCause) (line : List ℕ) (t : List Event) (r : Status) (s n : Outside) → NoFrame given fault → IsWordLong fault → packet_line fault ≡ line → Tells line PeerFault t r → Fits t s n → Causes W t
        → Heard given r s n
    none_came given fault line t r s n frame long is h f c = came (peer line) (no_packet fault line frame long is refl) (told_printed W PeerFault r line t s n h f c)

    link_lost : (given : List ℕ) (t : List Event) (r : Status) (s n : Outside) → Tells link_fault_line LinkFault t r → Fits t s n → Causes W t → Heard given r s n
    link_lost given t r s n h f c = lost h.goes.1 (tell_alone W link_fault_line LinkFault r t s n h f c)

    packet_heard : (v : PacketView) (t u : List Event) (r : Status) (s m n : Outside) → TakesPacket slots.Link t v → after_packet p number v u r → Fits t s m → Fits u m n → Causes W u → Heard (rest_of slots.Link s) r m n
    packet_heard (whole body) t u r s m n takes (o, of, h) f g c =
        came o (packet_of body (rest_of slots.Link m) (whole_packet slots.Link t body takes).0 (packet_left slots.Link t (whole body) s m takes f) of) (outcome_printed o u r m n h g c)
    packet_heard packets.none t u r s m n takes h f g c =
        none_came (rest_of slots.Link s) (faults.Ended 0) (packet_line (faults.Ended 0)) u r m n (inl (packet_left slots.Link t packets.none s m takes f, refl)) tt refl h g c
    packet_heard (packets.wrong (faults.BadLength k)) t u r s m n takes h f g c =
        let left = packet_left slots.Link t (packets.wrong (faults.BadLength k)) s m takes f in
        none_came (rest_of slots.Link s) (faults.BadLength k) (packet_line (faults.BadLength k)) u r m n (inr (rest_of slots.Link m, left.2, left.1)) left.0 refl h g c
    packet_heard (packets.wrong (faults.Ended had)) t u r s m n takes h f g c =
        let left = packet_left slots.Link t (packets.wrong (faults.Ended had)) s m takes f in
        none_came (rest_of slots.Link s) (faults.Ended had) (packet_line (faults.Ended had)) u r m n (inr (sym left.1, omega (arith, left.0, left.1), left.2)) tt refl h g c
    packet_heard packets.broken t u r s m n takes h f g c = link_lost (rest_of slots.Link s) u r m n h g c

    heard_later : (given : List ℕ) (r : Status) (s m n : Outside) → OnlySlots s m → Heard given r m n → Heard given r s n
    heard_later given r s m n same (came o of printed) = came o of (printed_later (status_of o) (shown_of o) (line_of o) r s m n same printed)
    heard_later given r s m n same (lost e alone) = lost e (alone_later link_fault_line s m n same alone)

    reply_heard : (t : List Event) (r : Status) (s n : Outside) → after_sending p number true t r → Fits t s n → Causes W t → Heard (rest_of slots.Link s) r s n
    reply_heard t r s n h f c =
        let parts = fits_both h.first h.rest s n (subst (λ (l : List Event). Fits l s n) h.splits f) in
        let same = reading_spares h.first s parts.0 parts.1 (keeps_packet slots.Link IsReading (λ _. tt) tt tt h.first h.between h.does) in
        heard_later (rest_of slots.Link s) r s parts.0 n same (packet_heard h.between h.first h.rest r s parts.0 n h.does h.goes parts.1 parts.2 (cause_last W t h.first h.rest h.splits c))

    -- ---- a link

    module _ (address b : List ℕ) where
      abbrev Of : List ℕ → Answer → Type 0
      Of given = OfSent p number address b given

      -- a link was made, and the call was sent over it
      record Sent (s k : Outside) : Type 0 where
        output : output_of k ≡ output_of s
        errors : errors_of k ≡ errors_of s
        leaves : (status : Status) (wrote line : List ℕ) → Leaves (over_link address (packet b) status wrote line) s.view k.view

      outcome_came : (given : List ℕ) (o : Outcome) (r : Status) (s k n : Outside) → Sent s k → OfLink p number given o → Printed W (status_of o) (shown_of o) (line_of o) r k n → Came (Of given) W r s n
      outcome_came given (shows line) r s k n sent of (all_printed e wrote tells rest) =
          gave (answer_of address (packet b) (shows line)) (shows line, of, refl) e
          (record { output = wrote ∙ ap (λ (z : List ℕ). z ++ line) sent.output; leaves = leaves_then (over_link address (packet b) Done line []) s.view k.view n.view (sent.leaves Done line []) rest })
          (tells_later W [] s k n sent.errors tells)
      outcome_came given (peer line) r s k n sent of (all_printed e wrote tells rest) =
          gave (answer_of address (packet b) (peer line)) (peer line, of, refl) e
          (record { output = wrote ∙ ap (λ (z : List ℕ). z ++ []) sent.output; leaves = leaves_then (over_link address (packet b) PeerFault [] line) s.view k.view n.view (sent.leaves PeerFault [] line) rest })
          (tells_later W line s k n sent.errors tells)
      outcome_came given (shows line) r s k n sent of (part_printed e p tells rest) =
          unfinished (answer_of address (packet b) (shows line)) (shows line, of, refl) e (p.0, p.1, p.2, p.3 ∙ ap (λ (z : List ℕ). z ++ p.0) sent.output) (tells_later W write_fault_line s k n sent.errors tells)
      outcome_came given (peer line) r s k n sent of (part_printed e p tells rest) =
          unfinished (answer_of address (packet b) (peer line)) (peer line, of, refl) e (p.0, p.1, p.2, p.3 ∙ ap (λ (z : List ℕ). z ++ p.0) sent.output) (tells_later W write_fault_line s k n sent.errors tells)

      heard_came : (given : List ℕ) (r : Status) (s k n : Outside) → Sent s k → Heard given r k n → Came (Of given) W r s n
      heard_came given r s k n sent (came o of printed) = outcome_came given o r s k n sent of printed
      heard_came given r s k n sent (lost e alone) = cut e (alone.output ∙ sent.output) (tells_later W link_fault_line s k n sent.errors alone.line_is)

      sent_comes : (ok : Bool) (t u : List Event) (r : Status) (s m k n : Outside) → m.view ≡ linked address s.view → Writes outs.Link (packet b) t ok → after_sending p number ok u r → Fits t m k → Fits u k n → Causes W u → Came (Of (next_link s.view)) W r s n
      sent_comes true t u r s m k n view w h f g c =
          let given : rest_of slots.Link k ≡ next_link s.view = writes_spare outs.Link (left_of slots.Link) (λ bytes v. refl) (packet b) t true m k w f ∙ ap (left_of slots.Link) view in
          let sent : Sent s k = record {
            output = writes_spare outs.Link (written_of outs.Output) (λ bytes v. refl) (packet b) t true m k w f ∙ ap (written_of outs.Output) view;
            errors = writes_spare outs.Link (written_of outs.Errors) (λ bytes v. refl) (packet b) t true m k w f ∙ ap (written_of outs.Errors) view;
            leaves = link_left address (packet b) s m k t view (keeps_write IsOverLink outs.Link (packet b) (λ _. refl) tt t true w) f (writes_append outs.Link (packet b) t m k w f);
          } in
          subst (λ (z : List ℕ). Came (Of z) W r s n) given (heard_came (rest_of slots.Link k) r s k n sent (reply_heard u r k n h g c))
      sent_comes false t u r s m k n view w h f g c =
          let e = tell_alone W link_fault_line LinkFault r u k n h g c in
          cut h.goes.1 (e.output ∙ (writes_spare outs.Link (written_of outs.Output) (λ bytes v. refl) (packet b) t false m k w f ∙ ap (written_of outs.Output) view))
          (tells_later W link_fault_line s k n (writes_spare outs.Link (written_of outs.Errors) (λ bytes v. refl) (packet b) t false m k w f ∙ ap (written_of outs.Errors) view) e.line_is)

      linked_comes : (ok : Bool) (t u : List Event) (r : Status) (s m n : Outside) → t ≡ connected address ok ∷ [] → after_connect p number b ok u r → Fits t s m → Fits u m n → Causes W u → Came (Of (next_link s.view)) W r s n
      linked_comes true t u r s m n is h f g c =
          let o = subst (λ (l : List Event). Fits l s m) is f in
          let parts = fits_both h.first h.rest m n (subst (λ (l : List Event). Fits l m n) h.splits g) in
          sent_comes h.between h.first h.rest r s m parts.0 n (ap (λ (x : Outside). x.view) o.2 ∙ o.1.0.1) h.does h.goes parts.1 parts.2 (cause_last W u h.first h.rest h.splits c)
      linked_comes false t u r s m n is h f g c =
          let o = subst (λ (l : List Event). Fits l s m) is f in
          let view : m.view ≡ s.view = ap (λ (x : Outside). x.view) o.2 ∙ o.1.0 in
          let e = tell_alone W link_fault_line LinkFault r u m n h g c in
          cut h.goes.1 (e.output ∙ ap (written_of outs.Output) view) (tells_later W link_fault_line s m n (ap (written_of outs.Errors) view) e.line_is)

      over_comes : Comes W End (λ files given. Of given) (CallsOver p address number b)
      over_comes t r s n h f c =
          let parts = fits_both h.first h.rest s n (subst (λ (l : List Event). Fits l s n) h.splits f) in
          linked_comes h.between h.first h.rest r s parts.0 n h.does h.goes parts.1 parts.2 (cause_last W t h.first h.rest h.splits c)

  -- ---- the call and its text

  module _ (p : ProfileView) (address : List ℕ) where
    call_comes : (b : List ℕ) → Comes W End (λ files given. answer.OfCall p address b given) (OfCall p address b)
    call_comes b t r s n (no_call fault refuses h) f c = refusal_comes W (answer.OfCall p address b (next_link s.view)) (wire_line (codes "input") fault) t r s n (answer.no_call fault refuses refl) h f c
    call_comes b t r s n (long_call x means long h) f c = refusal_comes W (answer.OfCall p address b (next_link s.view)) (long_call_line (length b)) t r s n (answer.long_call x means long refl) h f c
    call_comes b t r s n (calls_it x means few h) f c =
        came_as W (OfSent p x.number address b (next_link s.view)) (answer.OfCall p address b (next_link s.view)) r s n (λ a of. answer.sent x means few of) (over_comes p x.number address b t r s n h f c)

    text_comes : (text : List ℕ) → Comes W End (λ files given. answer.OfJson p address text given) (OfText p address text)
    text_comes text t r s n (no_json cause refuses h) f c = refusal_comes W (answer.OfJson p address text (next_link s.view)) (json_line cause) t r s n (answer.no_json cause refuses refl) h f c
    text_comes text t r s n (json_of x b is spells are h) f c =
        came_as W (answer.OfCall p address b (next_link s.view)) (answer.OfJson p address text (next_link s.view)) r s n (λ a of. answer.json_of x b is spells are of) (call_comes b t r s n h f c)

  -- ---- files

  module _ (schema address input : List ℕ) where
    input_comes : (p : ProfileView) → IsProfile p → Comes W End (λ files given. answer.OfInput address input files given p) (OfInputFile address input p)
    input_comes p good =
        file_comes W End (came_as W) (came_later W) (refusal_comes W) (missing_comes W) slots.Input input JSON_BYTES (after_reading p address) (λ text files given. answer.OfJson p address text given)
        (λ file files given. json_stays p address file given) (text_comes p address) (λ t r h. h)

    pub post_comes : Comes W End (λ files given. PostAnswer files given schema address input) (posts schema address input)
    post_comes =
        command_comes W End (came_as W) (came_later W) (refusal_comes W) (missing_comes W) (OfInputFile address input) (λ files given. answer.OfInput address input files given) input_comes schema
