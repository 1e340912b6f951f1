-- A client's session, by its parts.
use Rattle.std.proofs.Common.{◌≡◌, inl, inr, ℕ, ◌+◌, ◌<◌, ◌≤◌, ltb, List, [], ◌∷◌, Bool, true, false, Option, Some, None, Ok, Err, refl, sym, subst, arith}
use Rattle.std.proofs.lemmas.Bool.Decides.{nat_tests}
use Rattle.tl_numbers.specs.Bytes.{AreBytes}
use Rattle.tl_base.specs.declared.host.Slot.TheVariants.{Link}
use Rattle.tl_base.specs.declared.fault.Fault.{Fault}
use Rattle.tl_base.specs.declared.fault.Fault.TheVariants as either
use Rattle.tl_base.specs.declared.packet.PacketCause.TheVariants.{Ended}
use Rattle.box_events.specs.declared.replies.Frame.{Frame}
use Rattle.box_events.specs.declared.requests.Numbered.{Numbered}
use Rattle.box_client.specs.States.{ClientState}
use Rattle.box_client.specs.Asking.{ticks, wakes, is_one_asking}
use Rattle.box_world.specs.Streams.{begun}
use Rattle.box_client.specs.declared.fault.ClientFault.{ClientFault}
use Rattle.wire_profile.specs.Indexes.{ProfileView}
use Rattle.wire_profile.specs.Profiles.{IsProfile}
use Rattle.wire_values.specs.CarriedFrames.{IsFrame}
use Rattle.wire_values.specs.Frames.{frame_in, frame_tree}
use Rattle.box_wire.specs.Kinds.{frames}
use Rattle.box_wire.proofs.FrameLaws.{frame_formed, frame_laws}
use Rattle.outside.specs.Events.{Event, HostState, ended}
use Rattle.outside.specs.Packets.{PacketView, whole, TakesPacket}
use Rattle.outside.specs.Packets as packets
use Rattle.outside.specs.Begun.{Did, DidIn, to_link}
use Rattle.outside.specs.Steps.{Begins, Grows, Turn, again, leave, Reaches, Loops, Ends}
use Rattle.outside.proofs.Growing.{Leaves, can_end, can_then, can_loop, did_any, did_both, did_none, did_nothing, did_stop, did_then, grew_none, loop_left, loop_stopped, reached_turn}
use Rattle.outside.proofs.TakenPackets.{none_taken, whole_packet}
use Rattle.update_sessions.specs.declared.fault.SessionFault.{SessionFault}
use Rattle.update_sessions.specs.declared.fault.SessionFault.TheVariants.{Packet, Wire, Client, TooManyFrames, LinkFault}
use Rattle.update_sessions.specs.declared.fault.TheConstants.{MAX_FRAMES}
use Rattle.update_sessions.specs.Hearing.{cause_of, hears}
use Rattle.update_sessions.specs.Packed.{MeansFrame, Packed, SpellsCall}
use Rattle.update_sessions.specs.Turns.{HearsPacket}
use Rattle.session_commands.proofs.EachPost.{each_message}
use Rattle.codec_rooms.proofs.Typing.{begun_as, did_as}
use Rattle.session_rooms.specs.Sending.{Sends}
use Rattle.session_rooms.specs.Conversing.{Outcome, Asks, after_asking, HearsBytes, no_frame, refused, heard, after_packet, HearsNext, Heard, turn_of, hears_by, HearsOn, after_begin, Converses, outcome}
use Rattle.session_rooms.proofs.Conversed.{may_ask, may_hear}
use Rattle.session_rooms.proofs.SentMessages.{can_send}

pub is_less : (a b : ℕ) → a < b → ltb a b ≡ true
is_less a b lt = grind (arith, nat_tests)

pub not_less : (a b : ℕ) → b ≤ a → ltb a b ≡ false
not_less a b le = grind (arith, nat_tests)

module _ (p : ProfileView) where
  -- ---- what can follow

  can_after : (d : ClientState) (ok : Bool) → Begins (after_asking d ok) []
  can_after d true = can_end (Ok d)
  can_after d false = can_end (Err LinkFault)

  pub can_ask : (c : ClientState) → Begins (Asks p c) []
  can_ask c = can_then _ _ (can_send (SpellsCall p) (ticks c).asks) (can_after (ticks c).client)

  module _ (good : IsProfile p) (c : ClientState) (asking : is_one_asking c ≡ true) (bytes : List ℕ) where
    of_fate : (f : Frame) → MeansFrame p f bytes → (o : Option ClientFault) → cause_of c f ≡ o → Begins (HearsBytes p c bytes) []
    of_fate f means None clear = begun_as (Asks p (hears c f)) (HearsBytes p c bytes) (λ t r h. heard f means (record { asking = asking; clear = clear }) h) (can_ask (hears c f))
    of_fate f means (Some cause) is = record { rest = []; answer = Err (Client cause); whole = refused cause (record { frame = f; means = means; refuses = is }) refl refl }

    pub can_hear : AreBytes bytes → Begins (HearsBytes p c bytes) []
    can_hear are = elim (each_message p good frames (frame_formed p good) frame_tree frame_in IsFrame frame_laws bytes are) as (λ z. Begins (HearsBytes p c bytes) []) [
      | inl m ↦ of_fate m.0 (m.1, m.2) (cause_of c m.0) refl
      | inr r ↦ record { rest = []; answer = Err (Wire r.0); whole = no_frame r.0 r.1 refl refl }
    ]

  -- ---- one packet

  module _ (c d : ClientState) (bytes out : List ℕ) where
    -- it was not taken
    pub not_heard : (fault : Fault SessionFault) (q : HostState) → Begins (HearsBytes p c bytes) [] → HearsPacket p c bytes out d (Err fault) → DidIn to_link (HearsBytes p c bytes) q q (outcome d (Err fault))
    not_heard (either.Refused (Packet fault)) q can h = absurd h
    not_heard (either.Refused (Wire fault)) q can h = record { trace = []; grew = grew_none q; holds = no_frame fault h.0 refl refl }
    not_heard (either.Refused (Client fault)) q can h = record { trace = []; grew = grew_none q; holds = refused fault h.0 refl refl }
    not_heard (either.Refused TooManyFrames) q can h = absurd h
    not_heard (either.Refused LinkFault) q can h = absurd h
    not_heard either.Memory q can h = did_none (HearsBytes p c bytes) q can

    -- it was taken, and what is due was sent, or not
    module _ (turned : HearsPacket p c bytes out d (Ok tt)) (r s : HostState) where
      abbrev e : ClientState
      e = hears c turned.message

      by_asking : (x : Outcome) → DidIn to_link (Asks p e) r s (Some x) → DidIn to_link (HearsBytes p c bytes) r s (Some x)
      by_asking x h = did_as (Asks p e) (HearsBytes p c bytes) r s (Some x) (λ t y a. heard turned.message turned.means turned.taken a) h

      pub heard_and_asked : ((calls : List Numbered) → Packed (SpellsCall p) calls out → Did (Sends (SpellsCall p) calls) r s (Some true)) → DidIn to_link (HearsBytes p c bytes) r s (Some (Ok d))
      heard_and_asked sends =
          by_asking (Ok d) (subst (λ (x : ClientState). DidIn to_link (Asks p e) r s (Some (Ok x))) (sym turned.ends)
          (did_both _ (after_asking (ticks e).client) r s s true _ (did_any _ r s true (sends (ticks e).asks turned.sent)) (did_nothing s (Ok (ticks e).client))))

      pub heard_and_cut : ((calls : List Numbered) → Packed (SpellsCall p) calls out → Did (Sends (SpellsCall p) calls) r s (Some false)) → DidIn to_link (HearsBytes p c bytes) r s (Some (Err LinkFault))
      heard_and_cut sends = by_asking (Err LinkFault) (did_both _ (after_asking (ticks e).client) r s s false _ (did_any _ r s false (sends (ticks e).asks turned.sent)) (did_nothing s (Err LinkFault)))

  -- ---- turns

  abbrev Left : Bool → Bool → Heard → Type 0
  Left asks more h = (t : List Event) × (r : Outcome) × hears_by p asks more h t (leave r)

  -- a session can end, wherever it is: by the link's end
  leaves_by : (asks more : Bool) (h : Heard) → Left asks more h
  leaves_by false more (c, n) = ([], Ok c, (refl, refl))
  leaves_by true false (c, n) = ([], Err TooManyFrames, (refl, refl))
  leaves_by true true (c, n) = (
    ended Link ∷ [],
    Err (Packet (Ended 0)),
    record {
      first = ended Link ∷ [];
      rest = [];
      between = Err (Packet (Ended 0));
      splits = refl;
      does = record { first = ended Link ∷ []; rest = []; between = packets.none; splits = refl; does = none_taken Link; goes = (refl, refl) };
      goes = (refl, refl);
    },
  )

  leaves_at : (h : Heard) → Leaves (HearsOn p) h
  leaves_at (c, n) = let l = leaves_by (is_one_asking c) (ltb n MAX_FRAMES) (c, n) in record { trace = l.0; answer = l.1; does = l.2 }

  can_begin : (r : Outcome) → Begins (after_begin p r) []
  can_begin (Ok c) = can_loop (HearsOn p) (c, 0) (leaves_at (c, 0))
  can_begin (Err fault) = can_end (Err fault)

  module _ (c : ClientState) (n : ℕ) (q r : HostState) where
    by_tests : (asks more : Bool) (x : Option (Turn Heard Outcome)) → is_one_asking c ≡ asks → ltb n MAX_FRAMES ≡ more → DidIn to_link (hears_by p asks more (c, n)) q r x → DidIn to_link (HearsOn p (c, n)) q r x
    by_tests asks more x is also h = subst (λ (b : Bool). DidIn to_link (hears_by p b (ltb n MAX_FRAMES) (c, n)) q r x) (sym is) (subst (λ (b : Bool). DidIn to_link (hears_by p asks b (c, n)) q r x) (sym also) h)

    module _ (asks : is_one_asking c ≡ true) (few : n < MAX_FRAMES) where
      less : ltb n MAX_FRAMES ≡ true
      less = is_less n MAX_FRAMES few

      pub turn_made : (x : Outcome) → DidIn to_link (HearsNext p c) q r (Some x) → DidIn to_link (HearsOn p (c, n)) q r (Some (turn_of n x))
      turn_made x h = by_tests true true (Some (turn_of n x)) asks less (did_both (HearsNext p c) (λ (y : Outcome). Ends (turn_of n y)) q r r x _ h (did_nothing r (turn_of n x)))

      pub turn_stopped : DidIn to_link (HearsNext p c) q r None → DidIn to_link (HearsOn p (c, n)) q r None
      turn_stopped h = by_tests true true None asks less (did_stop (HearsNext p c) (λ (y : Outcome). Ends (turn_of n y)) q r (λ y. can_end (turn_of n y)) h)

  -- ---- all turns

  module _ (s : Heard) (c : ClientState) (n : ℕ) (a q r : HostState) (g : Grows a q (λ t. Reaches (HearsOn p) s t (c, n))) where
    pub one_more : (d : ClientState) → is_one_asking c ≡ true → n < MAX_FRAMES → DidIn to_link (HearsNext p c) q r (Some (Ok d)) → Grows a r (λ t. Reaches (HearsOn p) s t (d, n + 1))
    one_more d asks few h = reached_turn (HearsOn p) s (c, n) (d, n + 1) (again (d, n + 1)) a q r refl g (turn_made c n q r asks few (Ok d) h)

    by_fault : (fault : SessionFault) → is_one_asking c ≡ true → n < MAX_FRAMES → DidIn to_link (HearsNext p c) q r (Some (Err fault)) → DidIn to_link (Loops (HearsOn p) s) a r (Some (Err fault))
    by_fault fault asks few h = loop_left (HearsOn p) s (c, n) (leave (Err fault)) (Err fault) a q r refl g (turn_made c n q r asks few (Err fault) h)

    pub last_turn : (d : ClientState) (fault : Fault SessionFault) → is_one_asking c ≡ true → n < MAX_FRAMES → DidIn to_link (HearsNext p c) q r (outcome d (Err fault)) → DidIn to_link (Loops (HearsOn p) s) a r (outcome d (Err fault))
    last_turn d (either.Refused fault) asks few h = by_fault fault asks few h
    last_turn d either.Memory asks few h = loop_stopped (HearsOn p) s (c, n) a q r leaves_at (λ x m t h. may_hear p x t (again m) h) g (turn_stopped c n q r asks few h)

  module _ (s : Heard) (c : ClientState) (n : ℕ) (a q : HostState) (g : Grows a q (λ t. Reaches (HearsOn p) s t (c, n))) where
    ended_by : (more : Bool) → is_one_asking c ≡ false → ltb n MAX_FRAMES ≡ more → DidIn to_link (Loops (HearsOn p) s) a q (Some (Ok c))
    ended_by more calm is = loop_left (HearsOn p) s (c, n) (leave (Ok c)) (Ok c) a q q refl g (by_tests c n q q false more (Some (leave (Ok c))) calm is (did_nothing q (leave (Ok c))))

    pub asks_no_more : is_one_asking c ≡ false → DidIn to_link (Loops (HearsOn p) s) a q (Some (Ok c))
    asks_no_more calm = ended_by (ltb n MAX_FRAMES) calm refl

    pub asks_too_long : is_one_asking c ≡ true → MAX_FRAMES ≤ n → DidIn to_link (Loops (HearsOn p) s) a q (Some (Err TooManyFrames))
    asks_too_long asks many = loop_left (HearsOn p) s (c, n) (leave (Err TooManyFrames)) (Err TooManyFrames) a q q refl g (by_tests c n q q true false (Some (leave (Err TooManyFrames))) asks (not_less n MAX_FRAMES many) (did_nothing q (leave (Err TooManyFrames))))

  -- ---- what follows of a packet, and of a beginning

  module _ (good : IsProfile p) (c : ClientState) (asking : is_one_asking c ≡ true) where
    pub can_follow : (t : List Event) (m : PacketView) → TakesPacket Link t m → Begins (after_packet p c m) []
    can_follow t (whole bytes) h = can_hear good c asking bytes (whole_packet Link t bytes h).1
    can_follow t packets.none h = can_end _
    can_follow t (packets.wrong cause) h = can_end _
    can_follow t packets.broken h = can_end _

  module _ (c : ClientState) where
    pub can_converse : Begins (Converses p c) []
    can_converse = can_then _ _ (can_ask (wakes c)) can_begin

    -- what is asked first was sent, and then frames were heard
    pub begun_and_heard : (d : ClientState) (a q r : HostState) (x : Option Outcome) → d ≡ begun c → Did (Sends (SpellsCall p) (ticks (wakes c)).asks) a q (Some true) → DidIn to_link (Loops (HearsOn p) (d, 0)) q r x → DidIn to_link (Converses p c) a r x
    begun_and_heard d a q r x is h loops =
        did_then _ (after_begin p) a q r (Ok (begun c)) x (may_ask p (wakes c)) (did_both _ (after_asking (begun c)) a q q true _ (did_any _ a q true h) (did_nothing q (Ok (begun c)))) (subst (λ (y : ClientState). DidIn to_link (Loops (HearsOn p) (y, 0)) q r x) is loops)

    -- or that failed
    pub begun_and_cut : (a q : HostState) → Did (Sends (SpellsCall p) (ticks (wakes c)).asks) a q (Some false) → DidIn to_link (Converses p c) a q (Some (Err LinkFault))
    begun_and_cut a q h = did_both _ (after_begin p) a q q (Err LinkFault) _ (did_both _ (after_asking (begun c)) a q q false _ (did_any _ a q false h) (did_nothing q (Err LinkFault))) (did_nothing q (Err LinkFault))
