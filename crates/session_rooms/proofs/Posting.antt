-- What follows of an input of `post`, and that it can go on to its end.
use Rattle.std.proofs.Common.{◌≡◌, inl, inr, ℕ, ◌≤◌, List, [], ◌∷◌, ◌++◌, length, length-append, map, Bool, true, false, Option, Some, None, Result, Ok, Err, Vec, Global, refl, sym, ap, ◌∙◌, subst, arith, codes}
use Rattle.std.proofs.lemmas.List.{append-nil, append_assoc}
use Rattle.tl_numbers.specs.Bytes.{AreBytes}
use Rattle.tl_base.specs.declared.host.Out.{Out}
use Rattle.tl_base.specs.declared.host.Slot.TheVariants as slots
use Rattle.tl_base.specs.declared.packet.PacketCause.{PacketCause}
use Rattle.tl_schema.specs.Schemas.{Declared}
use Rattle.tl_schema.specs.Types.{Shape, call}
use Rattle.tl_types.specs.Seen.{view}
use Rattle.tl_types.specs.Spelling.{Spells}
use Rattle.tl_types.specs.declared.value.Value.{Value}
use Rattle.wire_profile.specs.Indexes.{ProfileView}
use Rattle.wire_profile.specs.Profiles.{IsProfile}
use Rattle.outside.specs.Answer.{Answer, done, link_fault_line, refused}
use Rattle.outside.specs.Jobs.{of_fault}
use Rattle.outside.specs.Loading.{PeerAs, Refuses}
use Rattle.outside.specs.declared.status.Status.{Status}
use Rattle.outside.specs.declared.status.Status.TheVariants.{LinkFault, PeerFault}
use Rattle.outside.specs.declared.stop.Stop.TheVariants as stop
use Rattle.outside.specs.declared.stop.LoadError.{LoadError}
use Rattle.outside.proofs.Loaded.{refuses_as}
use Rattle.fault_lines.specs.Packets.{packet_line}
use Rattle.fault_lines.specs.Messages.{wire_line}
use Rattle.outside.specs.Events.{Event, HostState, connected, opened, put}
use Rattle.outside.specs.Packets.{PacketView, whole, TakesPacket, packet_view}
use Rattle.outside.specs.declared.packets.Packet.{Packet}
use Rattle.outside.specs.declared.packets.Packet.TheVariants as packet_of
use Rattle.outside.specs.Packets as packets
use Rattle.outside.specs.Pieces.{InPieces, ReadsFile, Tells, Writes, joined}
use Rattle.outside.specs.Printing.{Prints, PrintsMade}
use Rattle.outside.specs.Begun.{Did, DidIn, to_link}
use Rattle.outside.specs.Steps.{Begins}
use Rattle.outside.proofs.Growing.{did_any, did_none, grew_more}
use Rattle.outside.proofs.Piecewise.{are_none, can_tell}
use Rattle.outside.proofs.Printed.{can_print}
use Rattle.outside.proofs.TakenPackets.{whole_packet}
use Rattle.schema_files.specs.Causes.{JsonCause, TooLong, NoJson, Unformed, Misfit}
use Rattle.schema_files.specs.JsonInput.{FormRefused, IsJsonOf, JsonRefused}
use Rattle.schema_files.specs.Lines.{json_line}
use Rattle.schema_files.specs.Parts.{ReadsJson, TellsForm, TellsJson}
use Rattle.schema_files.specs.declared.json_input.TheConstants.{JSON_BYTES}
use Rattle.codec_rooms.proofs.Typing.{begun_as, did_as, refusal_done}
use Rattle.session_commands.specs.Post.{Outcome, OfBody, shows, peer, OfJson}
use Rattle.session_commands.specs.Post as post
use Rattle.session_commands.specs.declared.sending.Sending.{Sending}
use Rattle.session_commands.specs.inner.Posting.{MaySendCall, Sends, TellsUnsent}
use Rattle.session_commands.proofs.EachPost.{each_body, each_json}
use Rattle.session_commands.proofs.InputParts.{spelled}
use Rattle.session_rooms.specs.Post.{CallsOver, OfCall, no_call, long_call, calls_it, OfInputFile, OfText, no_json, json_of, TellsBody, after_packet, after_reading, told_as}
use Rattle.session_rooms.specs.inner.Sent.{MakesCall, TellsNothing, no_json_told, no_call_told}
use Rattle.session_rooms.proofs.States.{file_bytes}

-- ---- the JSON of a call

module _ (S : Declared) (T : Shape) (text : List ℕ) where
  form_refused : (cause : JsonCause) → FormRefused S T text cause → JsonRefused S T text cause
  form_refused TooLong h = h
  form_refused NoJson h = h
  form_refused (Unformed path cause) h = h
  form_refused (Misfit path cause) h = absurd h

  pub form_unread : (u : LoadError) → Refuses (TellsForm S T text) u → Refuses (TellsJson S T text) u
  form_unread u h = refuses_as (TellsForm S T text) (TellsJson S T text) u (λ line (cause, r, is). (cause, form_refused cause r, is)) h

-- by another name of the schema and of the type
pub json_as : (p : ProfileView) (S : Declared) (T : Shape) (text : List ℕ) (r : Result Value LoadError) → S ≡ p.schema → T ≡ call → ReadsJson S T text r → ReadsJson p.schema call text r
json_as p S T text r same is h = subst (λ (x : Declared). ReadsJson x call text r) same (subst (λ (x : Shape). ReadsJson S x text r) is h)

module _ (p : ProfileView) (text : List ℕ) where
  pub no_json_made : (u : LoadError) → ReadsJson p.schema call text (Err u) → MakesCall p text (Err u)
  no_json_made u h = refuses_as (TellsJson p.schema call text) (TellsNothing p text) u (λ line told. no_json_told told) h

  module _ (good : IsProfile p) (x : Value) (is : IsJsonOf p.schema call text (view x)) where
    pub call_made : (r : Result Sending LoadError) → ((b : List ℕ) → Spells p.schema call (view x) b → Sends p b r) → MakesCall p text r
    call_made (Ok s) sends =
        let k = spelled p good [] [] text x is in
        let t = sends k.0 k.1 in
        (view x, is, subst (λ (b : List ℕ). Spells p.schema call (view x) b) (sym t.0) k.1, subst (λ (b : List ℕ). MaySendCall p b s.number) (sym t.0) t.1)
    call_made (Err u) sends =
        let k = spelled p good [] [] text x is in
        refuses_as (TellsUnsent p k.0) (TellsNothing p text) u (λ line told. no_call_told (view x, k.0, is, k.1, told)) (sends k.0 k.1)

-- ---- what can follow

module _ (p : ProfileView) (address : List ℕ) where
  -- no link may be made
  pub can_call : (n : ℕ) (b : List ℕ) → Begins (CallsOver p address n b) []
  can_call n b =
      let m = can_tell link_fault_line LinkFault in
      record { rest = connected address false ∷ m.rest; answer = m.answer; whole = record { first = connected address false ∷ []; rest = m.rest; between = false; splits = refl; does = refl; goes = m.whole } }

  of_call : (b : List ℕ) (a : Answer) → post.OfCall p address b [] a → Begins (OfCall p address b) []
  of_call b a (post.no_call fault r is) = begun_as (Prints (refused (wire_line (codes "input") fault))) (OfCall p address b) (λ t s h. no_call fault r h) (can_print (refused (wire_line (codes "input") fault)))
  of_call b a (post.long_call c means long is) = begun_as (Prints (refused _)) (OfCall p address b) (λ t s h. long_call c means long h) (can_print (refused _))
  of_call b a (post.sent c means few of) = begun_as (CallsOver p address c.number b) (OfCall p address b) (λ t s h. calls_it c means few h) (can_call c.number b)

  of_json : (text : List ℕ) (a : Answer) → OfJson p address text [] a → Begins (OfText p address text) []
  of_json text a (post.no_json cause r is) = begun_as (Prints (refused (json_line cause))) (OfText p address text) (λ t s h. no_json cause r h) (can_print (refused (json_line cause)))
  of_json text a (post.json_of x b is spells are of) = begun_as (OfCall p address b) (OfText p address text) (λ t s h. json_of x b is spells are h) (of_call b a of)

  pub can_text : IsProfile p → (text : List ℕ) → AreBytes text → Begins (OfText p address text) []
  can_text good text are = let told = each_json p good address [] are_none text are in of_json text told.0 told.1

  pub can_after_reading : IsProfile p → (input : List ℕ) (t : List Event) (o : Option (List ℕ)) → ReadsFile slots.Input input JSON_BYTES t o → Begins (after_reading p address o) []
  can_after_reading good input t (Some text) h = can_text good text (file_bytes slots.Input input JSON_BYTES t text h)
  can_after_reading good input t None h = can_tell _ _

  -- the file may be missing
  pub can_input : (input : List ℕ) → Begins (OfInputFile address input p) []
  can_input input =
      let m = can_tell _ _ in
      record {
        rest = opened slots.Input input false ∷ m.rest;
        answer = m.answer;
        whole = record {
          first = opened slots.Input input false ∷ [];
          rest = m.rest;
          between = None;
          splits = refl;
          does = record { first = opened slots.Input input false ∷ []; rest = []; between = false; splits = refl; does = refl; goes = (refl, refl) };
          goes = m.whole;
        };
      }

  -- ---- a text

  module _ (text : List ℕ) where
    refusal : (line : List ℕ) → TellsNothing p text line → (t : List Event) (s : Status) → Prints (refused line) t s → OfText p address text t s
    refusal line (no_json_told (cause, r, is)) t s h = no_json cause r (subst (λ (l : List ℕ). Prints (refused l) t s) is h)
    refusal line (no_call_told (x, b, is, spells, (are, inl (fault, r, tells)))) t s h = json_of x b is spells are (no_call fault r (subst (λ (l : List ℕ). Prints (refused l) t s) tells h))
    refusal line (no_call_told (x, b, is, spells, (are, inr (c, means, long, tells)))) t s h = json_of x b is spells are (long_call c means long (subst (λ (l : List ℕ). Prints (refused l) t s) tells h))

    pub text_refused : (u : LoadError) (q r : HostState) (answer : Option Status) → IsProfile p → AreBytes text → MakesCall p text (Err u) → PrintsMade (of_fault u) q r answer → DidIn to_link (OfText p address text) q r answer
    text_refused u q r answer good are told = refusal_done (OfText p address text) (TellsNothing p text) u q r answer (can_text good text are) refusal told

    pub text_called : (s : Sending) (q r : HostState) (answer : Option Status) → MakesCall p text (Ok s) → DidIn to_link (CallsOver p address s.number s.bytes) q r answer → DidIn to_link (OfText p address text) q r answer
    text_called s q r answer (x, is, spells, may) h =
        did_as (CallsOver p address s.number s.bytes) (OfText p address text) q r answer
        (λ t z w. json_of x s.bytes is spells may.are (calls_it may.call may.means may.fits.1 (subst (λ (n : ℕ). CallsOver p address n s.bytes t z) (sym may.number) w))) h

pub is_short : (p : ProfileView) (text : List ℕ) (s : Sending) → MakesCall p text (Ok s) → length s.bytes ≤ 1048576
is_short p text s (x, is, spells, may) = may.fits.1

-- ---- what comes back

can_told : (o : Outcome) → Begins (told_as o) []
can_told (shows line) = can_print (done line)
can_told (peer line) = can_tell line PeerFault

module _ (p : ProfileView) (n : ℕ) where
  module _ (good : IsProfile p) where
    pub can_body : (body : List ℕ) → AreBytes body → Begins (TellsBody p n body) []
    can_body body are = let told = each_body p good n body are in begun_as (told_as told.0) (TellsBody p n body) (λ t s h. (told.0, told.1, h)) (can_told told.0)

    pub can_reply : (t : List Event) (m : PacketView) → TakesPacket slots.Link t m → Begins (after_packet p n m) []
    can_reply t (whole body) h = can_body body (whole_packet slots.Link t body h).1
    can_reply t packets.none h = can_tell _ _
    can_reply t (packets.wrong cause) h = can_tell _ _
    can_reply t packets.broken h = can_tell _ _

  module _ (body : List ℕ) (q r : HostState) (status : Status) where
    by_outcome : (o : Outcome) → OfBody p n body o → Did (told_as o) q r (Some status) → DidIn to_link (TellsBody p n body) q r (Some status)
    by_outcome o of h = did_any _ q r status (did_as (told_as o) (TellsBody p n body) q r (Some status) (λ t s w. (o, of, w)) h)

    pub reply_shown : (line told : List ℕ) → told ≡ line → OfBody p n body (shows line) → Did (Prints (done told)) q r (Some status) → DidIn to_link (TellsBody p n body) q r (Some status)
    reply_shown line told is of h = by_outcome (shows line) of (subst (λ (l : List ℕ). Did (Prints (done l)) q r (Some status)) is h)

    pub reply_blamed : (line told : List ℕ) → told ≡ line → OfBody p n body (peer line) → Did (Tells told PeerFault) q r (Some status) → DidIn to_link (TellsBody p n body) q r (Some status)
    reply_blamed line told is of h = by_outcome (peer line) of (subst (λ (l : List ℕ). Did (Tells l PeerFault) q r (Some status)) is h)

-- the content of a packet that was taken
pub packet_are : (q r : HostState) (x : Packet) (content : Vec ℕ Global) → x ≡ packet_of.Whole content → Did (TakesPacket slots.Link) q r (Some (packet_view x)) → AreBytes content.items
packet_are q r x content is d = (whole_packet slots.Link d.trace content.items (subst (λ (v : PacketView). TakesPacket slots.Link d.trace v) (ap packet_view is) d.holds)).1

-- ---- no packet

tells_at : (line told : List ℕ) (q r : HostState) (status : Status) → line ≡ told → Did (Tells told PeerFault) q r (Some status) → DidIn to_link (Tells line PeerFault) q r (Some status)
tells_at line told q r status is h = did_any _ q r status (subst (λ (l : List ℕ). Did (Tells l PeerFault) q r (Some status)) (sym is) h)

pub packet_blamed : (cause : PacketCause) (line : Vec ℕ Global) (told : List ℕ) (q r : HostState) (status : Status) → PeerAs (packet_line cause) (stop.Peer line) → told ≡ line.items → Did (Tells told PeerFault) q r (Some status) → DidIn to_link (Tells (packet_line cause) PeerFault) q r (Some status)
packet_blamed cause line told q r status is same = tells_at (packet_line cause) told q r status (sym is ∙ sym same)

pub packet_untold : (cause : PacketCause) (q : HostState) → DidIn to_link (Tells (packet_line cause) PeerFault) q q None
packet_untold cause q = did_none _ q (can_tell (packet_line cause) PeerFault)

-- ---- a packet in two parts

joined_both : (xs ys : List (List ℕ)) → joined (xs ++ ys) ≡ joined xs ++ joined ys
joined_both [] ys = refl
joined_both (x ∷ xs) ys = ap (λ (l : List ℕ). x ++ l) (joined_both xs ys) ∙ sym (append_assoc x (joined xs) (joined ys))

map_both : (f : List ℕ → Event) (xs ys : List (List ℕ)) → map f (xs ++ ys) ≡ map f xs ++ map f ys
map_both f [] ys = refl
map_both f (x ∷ xs) ys = ap (λ (l : List Event). f x ∷ l) (map_both f xs ys)

module _ (out : Out) (a b : List ℕ) where
  both_pieces : (last t u : List Event) → InPieces (put out) a [] t → (c : List ℕ) → InPieces (put out) c last u → InPieces (put out) (a ++ c) last (t ++ u)
  both_pieces last t u p c q = record {
    pieces = p.pieces ++ q.pieces;
    events =
        (λ i. (p.events ∙ append-nil (map (put out) p.pieces)) i ++ q.events i) ∙ sym (append_assoc (map (put out) p.pieces) (map (put out) q.pieces) last)
        ∙ ap (λ (l : List Event). l ++ last) (sym (map_both (put out) p.pieces q.pieces));
    join = joined_both p.pieces q.pieces ∙ (λ i. p.join i ++ q.join i);
  }

  both_written : (t u : List Event) (ok : Bool) → InPieces (put out) a [] t → Writes out b u ok → Writes out (a ++ b) (t ++ u) ok
  both_written t u true p q = both_pieces [] t u p b q
  both_written t u false p (before, after, pieces, is, lt) = (a ++ before, after, both_pieces _ t u p before pieces, append_assoc a before after ∙ ap (λ (l : List ℕ). a ++ l) is, lt)

  -- all of the first was written, and then the second, or less of it
  pub written_both : (q r s : HostState) (ok : Bool) → Did (Writes out a) q r (Some true) → Did (Writes out b) r s (Some ok) → Did (Writes out (a ++ b)) q s (Some ok)
  written_both q r s ok g h = record { trace = g.trace ++ h.trace; grew = grew_more q r s g.trace h.trace g.grew h.grew; holds = both_written g.trace h.trace ok g.holds h.holds }

  cut_written : (t : List Event) → Writes out a t false → Writes out (a ++ b) t false
  cut_written t (before, after, pieces, is, lt) = (before, after ++ b, pieces, sym (append_assoc before after b) ∙ ap (λ (l : List ℕ). l ++ b) is, omega (arith, lt, length-append after b))

  -- or less of the first
  pub written_cut : (q r : HostState) → Did (Writes out a) q r (Some false) → Did (Writes out (a ++ b)) q r (Some false)
  written_cut q r g = record { trace = g.trace; grew = g.grew; holds = cut_written g.trace g.holds }
