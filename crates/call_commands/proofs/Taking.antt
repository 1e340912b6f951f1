-- What a turn of `calls` does.
use Rattle.std.proofs.Common.{◌≡◌, ℕ, ◌+◌, ◌<◌, ◌≤◌, List, [], ◌∷◌, ◌++◌, Some, None, Result, Ok, Err, Vec, Global, refl, sym, subst, codes, decimal, arith}
use Rattle.std.specs.Prelude.{IfOk}
use Rattle.std.specs.declared.alloc.AllocError.{AllocError}
use Rattle.tl_base.specs.declared.host.Out.TheVariants.{Output}
use Rattle.tl_base.specs.declared.host.Slot.TheVariants.{Input}
use Rattle.tl_base.specs.declared.packet.PacketCause.{PacketCause}
use Rattle.tl_schema.specs.Schemas.{Declared}
use Rattle.tl_calls.specs.Calling.{CallsView, StandsFor}
use Rattle.tl_calls.specs.Events.{Log, Logged}
use Rattle.outside.specs.Answer.{refused}
use Rattle.outside.specs.Jobs.{Making, of_fault}
use Rattle.outside.specs.Loading.{Refuses, RefusesAs}
use Rattle.outside.specs.declared.status.Status.{Status}
use Rattle.outside.specs.declared.stop.LoadError.{LoadError}
use Rattle.outside.specs.declared.stop.LoadError.TheVariants as load_error
use Rattle.outside.specs.Events.{Event, HostState}
use Rattle.outside.specs.Packets.{PacketView, TakesPacket, packet_view, packet_words}
use Rattle.outside.specs.Packets as taken
use Rattle.outside.specs.Pieces.{Writes}
use Rattle.outside.specs.Printing.{Prints}
use Rattle.outside.specs.Begun.{Did, DidIn, to_output}
use Rattle.outside.specs.Steps.{Step, again, leave, Begins, Grows, Reaches, Then}
use Rattle.outside.specs.Steps as steps
use Rattle.outside.specs.declared.packets.Packet.{Packet}
use Rattle.outside.proofs.TakenPackets.{may_packet}
use Rattle.outside.proofs.Growing.{did_any, did_both, did_more, did_none, did_then, loop_left, loop_stopped, reached_none, reached_turn}
use Rattle.schema_files.specs.Lines.{input_line}
use Rattle.call_commands.specs.Answering.{SaysRefused, TellsPacket}
use Rattle.call_commands.specs.CallReports.{ContentRefused, Tells}
use Rattle.call_commands.specs.declared.limits.TheConstants.{MAX_PACKET_END}
use Rattle.codec_rooms.proofs.Typing.{did_as}
use Rattle.call_commands.specs.CallsWork.{SoFar, so_far, Last, TellsRefusal, after_line, end_of, OfPacket, too_long, no_packet, told, after_packet, TellsNext, TellsPackets}
use Rattle.call_commands.specs.inner.Turning.{EndsMade, GoesOn, IsNext, Turns, turn_of}
use Rattle.call_commands.specs.declared.turns.Turn.{Turn}
use Rattle.call_commands.specs.declared.turns.Turn.TheVariants as turn
use Rattle.call_commands.proofs.Going.{can_refuse, did_last, last_stopped, leaves, may_next}

module _ (schema : Declared) (new : CallsView) (past : Log) where
  -- ---- the run ends

  -- a refusal that is told, or out of memory
  pub refused_turn : (S : Step (steps.Turn SoFar Status)) (Says : List ℕ → Type 0) (u : LoadError) (p q : HostState) (r : Result Turn AllocError) → Begins S []
      → ((line : List ℕ) → Says line → (t : List Event) (x : steps.Turn SoFar Status) → Last (Prints (refused line)) t x → S t x) → Refuses Says u → EndsMade (of_fault u) p q r → Turns S schema new past p q r
  refused_turn S Says (load_error.Refused line) p q (Ok (turn.Next end)) can into says h = absurd h
  refused_turn S Says (load_error.Refused line) p q (Ok (turn.Last status)) can into says h =
      did_as (Last (Prints (refused line.items))) S p q (Some (leave status)) (into line.items says) (did_last (Prints (refused line.items)) p q status h)
  refused_turn S Says (load_error.Refused line) p q (Err e) can into says h = did_as (Last (Prints (refused line.items))) S p q None (into line.items says) (last_stopped (Prints (refused line.items)) p q h)
  refused_turn S Says load_error.ReadFault p q r can into says h = absurd says
  refused_turn S Says load_error.Memory p q (Ok (turn.Next end)) can into says h = absurd h
  refused_turn S Says load_error.Memory p q (Ok (turn.Last status)) can into says h = absurd (let no : Some status ≡ None = h.0 in cc)
  refused_turn S Says load_error.Memory p q (Err e) can into says h = subst (λ (s : HostState). Did S p s None) (sym h.1) (did_none S p can)

  as_line : (line said : List ℕ) → said ≡ line → (t : List Event) (x : steps.Turn SoFar Status) → Last (Prints (refused said)) t x → Last (Prints (refused line)) t x
  as_line line said is t x h = subst (λ (l : List ℕ). Last (Prints (refused l)) t x) is h

  -- likewise, with this line
  line_turn : (place : ℕ) (why : List ℕ) (u : LoadError) (p q : HostState) (r : Result Turn AllocError) → RefusesAs (input_line place why) u → EndsMade (of_fault u) p q r → Turns (Last (TellsRefusal place why)) schema new past p q r
  line_turn place why u p q r = refused_turn (Last (TellsRefusal place why)) (λ line. line ≡ input_line place why) u p q r (can_refuse place why) (λ line is t x h. as_line (input_line place why) line is t x h)

  -- ---- a packet was taken, or none

  module _ (at : ℕ) where
    then_turn : (p m q : HostState) (v : PacketView) (r : Result Turn AllocError) → Did (TakesPacket Input) p m (Some v) → Turns (after_packet schema (so_far past at) v) schema new past m q r → Turns (TellsNext schema (so_far past at)) schema new past p q r
    then_turn p m q v (Ok (turn.Next end)) h (e, stands, d) = (e, stands, did_both (TakesPacket Input) (after_packet schema (so_far past at)) p m q v (again (so_far (e ∷ past) end)) h d)
    then_turn p m q v (Ok (turn.Last status)) h d = did_both (TakesPacket Input) (after_packet schema (so_far past at)) p m q v (leave status) h d
    then_turn p m q v (Err e) h d = did_then (TakesPacket Input) (after_packet schema (so_far past at)) p m q v None (may_packet Input []) h d

    pub taken_turn : (p m q : HostState) (x : Packet) (v : PacketView) (r : Result Turn AllocError) → packet_view x ≡ v → Did (TakesPacket Input) p m (Some (packet_view x)) → Turns (after_packet schema (so_far past at) v) schema new past m q r
        → Turns (TellsNext schema (so_far past at)) schema new past p q r
    taken_turn p m q x v r is h = then_turn p m q v r (subst (λ (y : PacketView). Did (TakesPacket Input) p m (Some y)) is h)

    pub wrong_turn : (p q : HostState) (cause : PacketCause) (u : LoadError) (r : Result Turn AllocError) → RefusesAs (input_line at (packet_words cause)) u → EndsMade (of_fault u) p q r → Turns (after_packet schema (so_far past at) (taken.wrong cause)) schema new past p q r
    wrong_turn p q cause u r = line_turn at (packet_words cause) u p q r

    -- ---- a whole packet

    module _ (content : List ℕ) where
      pub far_turn : (p q : HostState) (u : LoadError) (r : Result Turn AllocError) → MAX_PACKET_END < end_of (so_far past at) content → Begins (OfPacket schema (so_far past at) content) [] → RefusesAs (input_line at (codes "TooLong")) u → EndsMade (of_fault u) p q r
          → Turns (OfPacket schema (so_far past at) content) schema new past p q r
      far_turn p q u r far can =
          refused_turn (OfPacket schema (so_far past at) content) (λ line. line ≡ input_line at (codes "TooLong")) u p q r can (λ line is t x h. too_long far (as_line (input_line at (codes "TooLong")) line is t x h))

      module _ (old : CallsView) (stands : StandsFor schema old past) (within : end_of (so_far past at) content ≤ MAX_PACKET_END) where
        pub content_turn : (p q : HostState) (u : LoadError) (r : Result Turn AllocError) → Begins (OfPacket schema (so_far past at) content) [] → TellsPacket schema old new at content (Err u) → EndsMade (of_fault u) p q r
            → Turns (OfPacket schema (so_far past at) content) schema new past p q r
        content_turn p q u r can =
            refused_turn (OfPacket schema (so_far past at) content) (λ line. (log : Log) → StandsFor schema old log → SaysRefused (ContentRefused schema log at content) line) u p q r can
            (λ line says t x h. (let why = says past stands in no_packet within why.0 why.1 why.2 (as_line (input_line why.0 why.1) line why.3 t x h)))

        abbrev Written : Logged → List ℕ → ℕ → Step (steps.Turn SoFar Status)
        Written e line end = Then (Writes Output line) (after_line (so_far (e ∷ past) end))

        written_turn : (p q : HostState) (e : Logged) (line : List ℕ) (x : Turn) → Tells schema past content e line → StandsFor schema new (e ∷ past) → Did (Written e line (end_of (so_far past at) content)) p q (Some (turn_of (e ∷ past) x))
            → Turns (OfPacket schema (so_far past at) content) schema new past p q (Ok x)
        written_turn p q e line (turn.Next k) tells after d =
            (e, after, did_as (Written e line (end_of (so_far past at) content)) (OfPacket schema (so_far past at) content) p q (Some (again (so_far (e ∷ past) k))) (λ t z h. told within e line tells h) d)
        written_turn p q e line (turn.Last status) tells after d =
            did_as (Written e line (end_of (so_far past at) content)) (OfPacket schema (so_far past at) content) p q (Some (leave status)) (λ t z h. told within e line tells h) d

        pub told_turn : (p q : HostState) (line : Vec ℕ Global) (piece : List ℕ) (end : ℕ) (x : Turn) → piece ≡ line.items → end ≡ end_of (so_far past at) content → TellsPacket schema old new at content (Ok line)
            → ((log : Log) → Did (Then (Writes Output piece) (after_line (so_far log end))) p q (Some (turn_of log x))) → Turns (OfPacket schema (so_far past at) content) schema new past p q (Ok x)
        told_turn p q line piece end x same place tells does =
            let one = tells past stands in
            written_turn p q one.0 line.items x one.1 one.2
            (subst (λ (k : ℕ). Did (Written one.0 line.items k) p q (Some (turn_of (one.0 ∷ past) x))) place
            (subst (λ (l : List ℕ). Did (Written one.0 l end) p q (Some (turn_of (one.0 ∷ past) x))) same (does (one.0 ∷ past))))

-- ---- how far a turn goes

pub line_goes : (at end : ℕ) (old new : CallsView) (x : Turn) → IsNext end x → at + 8 ≤ end → end ≤ MAX_PACKET_END → new.next ≤ old.next + 1 → GoesOn at old new x
line_goes at end old new (turn.Next k) is low high few = (omega (arith, is, low), omega (arith, is, high), few)
line_goes at end old new (turn.Last status) is low high few = tt

pub refused_goes : (at : ℕ) (old new : CallsView) (m : Making) (p q : HostState) (r : Result Turn AllocError) → EndsMade m p q r → IfOk r (GoesOn at old new)
refused_goes at old new m p q (Ok (turn.Next k)) h = absurd h
refused_goes at old new m p q (Ok (turn.Last status)) h = tt
refused_goes at old new m p q (Err e) h = tt

-- ---- turns

-- So many packets were told since the first was taken, and the calls stand for them.
pub record Reached (schema : Declared) (calls : CallsView) (at : ℕ) (p q : HostState) : Type 0 where
  pub past : Log
  pub stands : StandsFor schema calls past
  pub reached : Grows p q (λ t. Reaches (TellsNext schema) (so_far [] 0) t (so_far past at))

module _ (schema : Declared) where
  pub none_reached : (calls : CallsView) (p : HostState) → StandsFor schema calls [] → Reached schema calls 0 p p
  none_reached calls p stands = record { past = []; stands = stands; reached = reached_none (TellsNext schema) (so_far [] 0) p }

  module _ (old new : CallsView) (at : ℕ) (p m q : HostState) (so : Reached schema old at p m) where
    abbrev DoesNext : Result Turn AllocError → Type 0
    DoesNext r = (past : Log) → StandsFor schema old past → Turns (TellsNext schema (so_far past at)) schema new past m q r

    -- as the answer is known by an equation
    done_so : (x y : Turn) → x ≡ y → DoesNext (Ok x) → Turns (TellsNext schema (so_far so.past at)) schema new so.past m q (Ok y)
    done_so x y is does = subst (λ (z : Turn). Turns (TellsNext schema (so_far so.past at)) schema new so.past m q (Ok z)) is (does so.past so.stands)

    pub one_reached : (x : Turn) (end : ℕ) → x ≡ turn.Next end → DoesNext (Ok x) → Reached schema new end p q
    one_reached x end is does =
        let d = done_so x (turn.Next end) is does in
        let next = so_far (d.0 ∷ so.past) end in
        record { past = d.0 ∷ so.past; stands = d.1; reached = reached_turn (TellsNext schema) (so_far [] 0) (so_far so.past at) next (again next) p m q refl so.reached d.2 }

    pub run_left : (x : Turn) (status : Status) → x ≡ turn.Last status → DoesNext (Ok x) → DidIn to_output (TellsPackets schema) p q (Some status)
    run_left x status is does = loop_left (TellsNext schema) (so_far [] 0) (so_far so.past at) (leave status) status p m q refl so.reached (did_any _ m q _ (done_so x (turn.Last status) is does))

    pub run_stopped : (e : AllocError) → DoesNext (Err e) → DidIn to_output (TellsPackets schema) p q None
    run_stopped e does = loop_stopped (TellsNext schema) (so_far [] 0) (so_far so.past at) p m q (leaves schema) (λ x n t h. may_next schema x n t h) so.reached (did_more (TellsNext schema (so_far so.past at)) m q None (does so.past so.stands))
