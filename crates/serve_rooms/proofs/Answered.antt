-- A server's session over the link in hand, by its parts.
use Rattle.std.proofs.Common.{◌≡◌, ◌≢◌, inl, inr, ℕ, ◌+◌, ◌<◌, ◌≤◌, ltb, List, [], ◌∷◌, ◌++◌, length, length-append, Bool, true, false, Option, Some, None, Ok, Err, Vec, Global, refl, sym, ap, ◌∙◌, subst, arith}
use Rattle.std.specs.Prelude.{⊤}
use Rattle.tl_numbers.specs.Bytes.{AreBytes}
use Rattle.tl_base.specs.declared.host.Slot.TheVariants.{Link}
use Rattle.box_events.specs.declared.replies.Frame.{Frame}
use Rattle.box_events.specs.declared.requests.Numbered.{Numbered}
use Rattle.box_server.specs.Servers.{ServerState}
use Rattle.box_server.specs.declared.entry.Entry.{Entry}
use Rattle.box_server.specs.Keeping.{KeeperState, Keeps, with_more}
use Rattle.wire_profile.specs.Indexes.{ProfileView}
use Rattle.wire_profile.specs.Profiles.{IsProfile}
use Rattle.wire_values.specs.Calls.{call_in, call_tree}
use Rattle.box_wire.specs.Kinds.{calls}
use Rattle.box_wire.proofs.CallLaws.{call_laws}
use Rattle.outside.specs.Events.{Event, HostState, ended}
use Rattle.outside.specs.Laws.{Happened, Throughout}
use Rattle.outside.specs.Packets.{PacketView, whole, none, wrong, broken, TakesPacket, packet_view}
use Rattle.outside.specs.declared.packets.Packet.{Packet as TakenPacket}
use Rattle.outside.specs.declared.packets.Packet.TheVariants as packet
use Rattle.outside.specs.Begun.{Did}
use Rattle.outside.specs.Steps.{StepOf, Then, again, leave}
use Rattle.outside.proofs.Growing.{grew_none}
use Rattle.outside.proofs.Causing.{happened_first, happened_last}
use Rattle.outside.proofs.TakenPackets.{none_taken, whole_packet}
use Rattle.update_sessions.specs.declared.fault.SessionFault.{SessionFault}
use Rattle.update_sessions.specs.declared.fault.SessionFault.TheVariants.{Packet, Wire, Client, TooManyFrames, LinkFault}
use Rattle.update_sessions.specs.declared.fault.TheConstants.{MAX_FRAMES}
use Rattle.update_sessions.specs.Kept.{kept_for}
use Rattle.update_sessions.specs.Packed.{MeansCall, Packed, SpellsFrame}
use Rattle.update_sessions.specs.Serving.{after_request, sent_for}
use Rattle.update_sessions.specs.declared.storing.StoreSession.TheVariants as store
use Rattle.update_sessions.specs.Turns.{AnswersPacket, LosesPost}
use Rattle.session_commands.proofs.EachPost.{each_message}
use Rattle.session_rooms.specs.Sending.{Sends}
use Rattle.session_rooms.proofs.SentMessages.{can_send}
use Rattle.serve_rooms.specs.Acts.{Act, hosted, added, IsKeeperFault, KeptState, beside}
use Rattle.serve_rooms.specs.Answering.{Answered, goes_on, has_ended, fails, unkept, Adds, if_added, after_sending, after_adding, AnswersBytes, no_call, answers, after_packet, AnswersNext, Session, over, lost, Served, turn_of, answers_by, AnswersOn, AnswersAll}
use Rattle.serve_rooms.specs.Doing.{Hosted, IsKept, BeginsKept, DidKept}
use Rattle.serve_rooms.specs.declared.answering.Outcome.{Outcome}
use Rattle.serve_rooms.specs.inner.Ends.{answered_as, outcome_at}
use Rattle.serve_rooms.proofs.Doing.{Leaves, begun_as, can_end, can_host, can_then, did_as, did_host, did_none, did_nothing, did_then}
use Rattle.serve_rooms.proofs.Keepers.{all_added, can_add, few_of, keeper_same, not_added, one_for}

module _ (p : ProfileView) where
  -- ---- a session can end wherever it is, by the link's end

  abbrev Left : Bool → Served → Type 0
  Left more x = (t : List Act) × (a : Session) × Throughout IsKept t × answers_by p more x t (leave a)

  leaves_by : (more : Bool) (x : Served) → Left more x
  leaves_by false (s, n) = ([], over s (Err TooManyFrames), tt, (refl, refl))
  leaves_by true (s, n) = (
    hosted (ended Link) ∷ [],
    over s (Ok n),
    (tt, tt),
    record {
      first = hosted (ended Link) ∷ [];
      rest = [];
      between = has_ended s;
      splits = refl;
      does = record { first = hosted (ended Link) ∷ []; rest = []; between = none; splits = refl; does = (ended Link ∷ [], refl, none_taken Link); goes = (refl, refl) };
      goes = (refl, refl);
    },
  )

  pub leaves_at : (x : Served) → Leaves (AnswersOn p) x
  leaves_at (s, n) = let l = leaves_by (ltb n MAX_FRAMES) (s, n) in record { trace = l.0; answer = l.1; kept = l.2; does = l.3 }

  -- ---- the keeper is lost only where it failed

  lost_after : (e : Entry) (es : List Entry) → ((t : List Act) → Adds es t false → Happened IsKeeperFault t) → (ok : Bool) (t u : List Act) → t ≡ added e ok ∷ [] → if_added ok (Adds es) u false → Happened IsKeeperFault (t ++ u)
  lost_after e es later true t u is h = happened_last IsKeeperFault t u (later u h)
  lost_after e es later false t u is h = happened_first IsKeeperFault t u (subst (Happened IsKeeperFault) (sym is) (inl tt))

  not_all_added : (es : List Entry) (t : List Act) → Adds es t false → Happened IsKeeperFault t
  not_all_added [] t h = absurd (let no : false ≡ true = h.1 in cc)
  not_all_added (e ∷ es) t h = subst (Happened IsKeeperFault) (sym h.splits) (lost_after e es (not_all_added es) h.between h.first h.rest h.does h.goes)

  unkept_sent : (s : ServerState) (ok : Bool) (t : List Act) → after_sending s ok t unkept → ⊥
  unkept_sent s true t h = let no : unkept ≡ goes_on s = h.1 in cc
  unkept_sent s false t h = let no : unkept ≡ fails s LinkFault = h.1 in cc

  unkept_added : (s : ServerState) (c : Numbered) (ok : Bool) (t u : List Act) → Adds (kept_for s c.request) t ok → after_adding p s c ok u unkept → Happened IsKeeperFault (t ++ u)
  unkept_added s c true t u adds h = absurd (unkept_sent (after_request s c.request) h.between h.rest h.goes)
  unkept_added s c false t u adds h = happened_first IsKeeperFault t u (not_all_added (kept_for s c.request) t adds)

  unkept_bytes : (s : ServerState) (bytes : List ℕ) (t : List Act) → AnswersBytes p s bytes t unkept → Happened IsKeeperFault t
  unkept_bytes s bytes t (no_call fault r empty is) = absurd (let no : unkept ≡ fails s (Wire fault) = is in cc)
  unkept_bytes s bytes t (answers c means h) = subst (Happened IsKeeperFault) (sym h.splits) (unkept_added s c h.between h.first h.rest h.does h.goes)

  unkept_packet : (s : ServerState) (m : PacketView) (t : List Act) → after_packet p s m t unkept → Happened IsKeeperFault t
  unkept_packet s (whole bytes) t h = unkept_bytes s bytes t h
  unkept_packet s none t h = absurd (let no : unkept ≡ has_ended s = h.1 in cc)
  unkept_packet s (wrong cause) t h = absurd (let no : unkept ≡ fails s _ = h.1 in cc)
  unkept_packet s broken t h = absurd (let no : unkept ≡ fails s LinkFault = h.1 in cc)

  unkept_next : (s : ServerState) (t : List Act) → AnswersNext p s t unkept → Happened IsKeeperFault t
  unkept_next s t h = subst (Happened IsKeeperFault) (sym h.splits) (happened_last IsKeeperFault h.first h.rest (unkept_packet s h.between h.rest h.goes))

  lost_turn : (n : ℕ) (s : ServerState) (r : Answered) (t : List Act) → AnswersNext p s t r → leave lost ≡ turn_of n r → Happened IsKeeperFault t
  lost_turn n s (goes_on u) t h is = absurd (let no : leave lost ≡ again (u, n + 1) = is in cc)
  lost_turn n s (has_ended u) t h is = absurd (let no : leave lost ≡ leave (over u (Ok n)) = is in cc)
  lost_turn n s (fails u fault) t h is = absurd (let no : leave lost ≡ leave (over u (Err fault)) = is in cc)
  lost_turn n s unkept t h is = unkept_next s t h

  lost_by : (more : Bool) (s : ServerState) (n : ℕ) (t : List Act) → answers_by p more (s, n) t (leave lost) → Happened IsKeeperFault t
  lost_by false s n t h = absurd (let no : leave lost ≡ leave (over s (Err TooManyFrames)) = h.1 in cc)
  lost_by true s n t h = subst (Happened IsKeeperFault) (sym h.splits) (happened_first IsKeeperFault h.first h.rest (lost_turn n s h.between h.first h.does h.goes.1))

  pub lost_at_fault : (s : ServerState) (t : List Act) → AnswersAll p s t lost → Happened IsKeeperFault t
  lost_at_fault s t h = subst (Happened IsKeeperFault) (sym h.splits) (happened_last IsKeeperFault h.first h.rest (lost_by (ltb h.between.1 MAX_FRAMES) h.between.0 h.between.1 h.rest h.goes))

  -- ---- what can follow

  can_sent : (s : ServerState) (ok : Bool) → BeginsKept (after_sending s ok) []
  can_sent s true = can_end (goes_on s)
  can_sent s false = can_end (fails s LinkFault)

  module _ (s : ServerState) where
    can_added : (c : Numbered) (ok : Bool) → BeginsKept (after_adding p s c ok) []
    can_added c true = can_then _ _ (can_host _ (can_send (SpellsFrame p) (sent_for s c.number c.request))) (can_sent (after_request s c.request))
    can_added c false = can_end unkept

    can_call : (bytes : List ℕ) (c : Numbered) → MeansCall p c bytes → BeginsKept (AnswersBytes p s bytes) []
    can_call bytes c means = begun_as (Then (Adds (kept_for s c.request)) (after_adding p s c)) (AnswersBytes p s bytes) (λ t r h. answers c means h) (can_then _ _ (can_add (kept_for s c.request)) (can_added c))

    module _ (good : IsProfile p) where
      pub can_answer : (bytes : List ℕ) → AreBytes bytes → BeginsKept (AnswersBytes p s bytes) []
      can_answer bytes are = elim (each_message p good calls tt call_tree call_in (λ _. ⊤) call_laws bytes are) as (λ z. BeginsKept (AnswersBytes p s bytes) []) [
        | inl m ↦ can_call bytes m.0 m.2
        | inr r ↦ record { rest = []; answer = fails s (Wire r.0); kept = tt; whole = no_call r.0 r.1 refl refl }
      ]

      can_packet : (t : List Event) (m : PacketView) → TakesPacket Link t m → BeginsKept (after_packet p s m) []
      can_packet t (whole bytes) h = can_answer bytes (whole_packet Link t bytes h).1
      can_packet t none h = can_end _
      can_packet t (wrong cause) h = can_end _
      can_packet t broken h = can_end _

      pub can_follow : (t : List Act) (m : PacketView) → Hosted (TakesPacket Link) t m → BeginsKept (after_packet p s m) []
      can_follow t m (events, is, h) = can_packet events m h

    -- a packet was taken, or none was
    pub packet_taken : (x : TakenPacket) (bytes : Vec ℕ Global) (content : List ℕ) (a b : KeptState) (r : Option Answered) → x ≡ packet.Whole bytes → content ≡ bytes.items → DidKept (AnswersBytes p s content) a b r → DidKept (after_packet p s (packet_view x)) a b r
    packet_taken x bytes content a b r is same h = subst (λ (m : PacketView). DidKept (after_packet p s m) a b r) (ap whole same ∙ sym (ap packet_view is)) h

    no_packet_so : (x : TakenPacket) (q : KeptState) → ((bytes : Vec ℕ Global) → x ≡ packet.Whole bytes → ⊥) → DidKept (after_packet p s (packet_view x)) q q (Some (answered_as s (outcome_at (packet_view x))))
    no_packet_so (packet.Whole bytes) q not = absurd (not bytes refl)
    no_packet_so packet.None q not = did_nothing q (has_ended s)
    no_packet_so (packet.Wrong cause) q not = did_nothing q (fails s _)
    no_packet_so packet.Broken q not = did_nothing q (fails s LinkFault)

    pub none_came : (x : TakenPacket) (q : KeptState) (o : Outcome) → ((bytes : Vec ℕ Global) → x ≡ packet.Whole bytes → ⊥) → o ≡ outcome_at (packet_view x) → DidKept (after_packet p s (packet_view x)) q q (Some (answered_as s o))
    none_came x q o not is = subst (λ (y : Outcome). DidKept (after_packet p s (packet_view x)) q q (Some (answered_as s y))) (sym is) (no_packet_so x q not)

  -- ---- one packet

  module _ (s : ServerState) (bytes out : List ℕ) (old new : KeeperState) where
    abbrev Fits : List Entry → Type 0
    Fits es = (c : Numbered) → MeansCall p c bytes → length (es ++ kept_for s c.request) ≤ old.room

    module _ (failed : Type 0) (k : Keeps old new failed Fits) where
      fits_one : (kept : List Entry) → length kept < old.room → Fits kept
      fits_one kept less = λ c means. omega (arith, less, few_of (kept_for s c.request) (one_for s c.request), length-append kept (kept_for s c.request))

      module _ (q : HostState) where
        -- it is no call
        pub not_answered : (t : ServerState) (fault : SessionFault) → AnswersPacket p s bytes out old.entries new.entries t (Err (store.Session fault)) → DidKept (AnswersBytes p s bytes) (beside q old) (beside q new) (Some (fails t fault))
        not_answered t (Packet fault) h = absurd h
        not_answered t (Wire fault) h = record { trace = []; grew = record { host = grew_none q; keeper = keeper_same old new failed Fits k h.2 }; holds = no_call fault h.0 refl (ap (λ (x : ServerState). fails x (Wire fault)) h.1) }
        not_answered t (Client fault) h = absurd h
        not_answered t TooManyFrames h = absurd h
        not_answered t LinkFault h = absurd h

        module _ (c : Numbered) (means : MeansCall p c bytes) where
          abbrev AnswersCall : StepOf Act Answered
          AnswersCall = Then (Adds (kept_for s c.request)) (after_adding p s c)

          by_call : (a b : KeptState) (x : Option Answered) → DidKept AnswersCall a b x → DidKept (AnswersBytes p s bytes) a b x
          by_call a b x h = did_as AnswersCall (AnswersBytes p s bytes) a b x (λ t r y. answers c means y) h

          module _ (is : new.entries ≡ with_more (kept_for s c.request) old.entries) where
            after_kept : (r : HostState) (x : Option Answered) → DidKept (after_adding p s c true) (beside q new) (beside r new) x → DidKept (AnswersBytes p s bytes) (beside q old) (beside r new) x
            after_kept r x h =
                by_call (beside q old) (beside r new) x
                (did_then (Adds (kept_for s c.request)) (after_adding p s c) (beside q old) (beside q new) (beside r new) true x (all_added old new failed Fits k q (kept_for s c.request) (one_for s c.request) is) h)

            sent_or_cut : (r : HostState) (ok : Bool) (x : Answered) → Did (Sends (SpellsFrame p) (sent_for s c.number c.request)) q r (Some ok) → DidKept (after_sending (after_request s c.request) ok) (beside r new) (beside r new) (Some x) → DidKept (AnswersBytes p s bytes) (beside q old) (beside r new) (Some x)
            sent_or_cut r ok x sends h = after_kept r (Some x) (did_then _ (after_sending (after_request s c.request)) (beside q new) (beside r new) (beside r new) ok (Some x) (did_host _ q r new (Some ok) sends) h)

            memory_then : DidKept (AnswersBytes p s bytes) (beside q old) (beside q new) None
            memory_then = after_kept q None (did_none (after_adding p s c true) (beside q new) (can_added s c true))

          call_lost : kept_for s c.request ≢ [] → new.entries ≡ old.entries → failed → DidKept (AnswersBytes p s bytes) (beside q old) (beside q new) (Some unkept)
          call_lost some is broke =
              by_call (beside q old) (beside q new) (Some unkept)
              (did_then (Adds (kept_for s c.request)) (after_adding p s c) (beside q old) (beside q new) (beside q new) false (Some unkept) (not_added old new failed Fits k q (kept_for s c.request) some (one_for s c.request) is broke fits_one) (did_nothing (beside q new) unkept))

        -- its post couldn't be kept
        pub post_lost : (t : ServerState) → failed → LosesPost p s bytes old.entries new.entries t → DidKept (AnswersBytes p s bytes) (beside q old) (beside q new) (Some unkept)
        post_lost t broke h = call_lost h.call h.means h.new h.kept broke

        -- memory ran out before anything was taken, or after that
        pub memory_lost : (t : ServerState) → BeginsKept (AnswersBytes p s bytes) [] → AnswersPacket p s bytes out old.entries new.entries t (Err store.Memory) → DidKept (AnswersBytes p s bytes) (beside q old) (beside q new) None
        memory_lost t can (inl h) = record { trace = []; grew = record { host = grew_none q; keeper = keeper_same old new failed Fits k h.1 }; holds = can }
        memory_lost t can (inr h) = memory_then h.call h.means h.kept

        -- all was taken, and what is due was sent, or not
        module _ (t : ServerState) (turned : AnswersPacket p s bytes out old.entries new.entries t (Ok tt)) (r : HostState) where
          abbrev c : Numbered
          c = turned.0.message

          pub answered_whole : ((frames : List Frame) → Packed (SpellsFrame p) frames out → Did (Sends (SpellsFrame p) frames) q r (Some true)) → DidKept (AnswersBytes p s bytes) (beside q old) (beside r new) (Some (goes_on t))
          answered_whole sends =
              subst (λ (x : ServerState). DidKept (AnswersBytes p s bytes) (beside q old) (beside r new) (Some (goes_on x))) (sym turned.0.ends)
              (sent_or_cut c turned.0.means turned.1 r true (goes_on (after_request s c.request)) (sends (sent_for s c.number c.request) turned.0.sent) (did_nothing (beside r new) (goes_on (after_request s c.request))))

          pub answered_cut : ((frames : List Frame) → Packed (SpellsFrame p) frames out → Did (Sends (SpellsFrame p) frames) q r (Some false)) → DidKept (AnswersBytes p s bytes) (beside q old) (beside r new) (Some (fails t LinkFault))
          answered_cut sends =
              subst (λ (x : ServerState). DidKept (AnswersBytes p s bytes) (beside q old) (beside r new) (Some (fails x LinkFault))) (sym turned.0.ends)
              (sent_or_cut c turned.0.means turned.1 r false (fails (after_request s c.request) LinkFault) (sends (sent_for s c.number c.request) turned.0.sent) (did_nothing (beside r new) (fails (after_request s c.request) LinkFault)))
