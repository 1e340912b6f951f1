-- That `calls` can go on to its end from each of its parts.
use Rattle.std.proofs.Common.{◌≡◌, ℕ, List, [], ◌∷◌, length, Bool, true, false, Some, None, refl, sym, subst, inl, inr, codes}
use Rattle.std.proofs.lemmas.Bool.{cases_lt}
use Rattle.tl_numbers.specs.Bytes.{AreBytes}
use Rattle.tl_base.specs.Packets.{IsPacketLength}
use Rattle.tl_base.specs.declared.host.Out.TheVariants.{Output}
use Rattle.tl_base.specs.declared.host.Slot.TheVariants.{Input}
use Rattle.tl_schema.specs.CheckedPrograms.{IsSchema}
use Rattle.tl_schema.specs.Schemas.{Declared}
use Rattle.tl_types.specs.Values.{ValueView}
use Rattle.tl_calls.specs.Calling.{AreOpenIn, CallsView, StandsFor}
use Rattle.tl_calls.specs.Events.{IsOpen, Log}
use Rattle.tl_calls.specs.Results.{HasResult}
use Rattle.tl_calls.proofs.Answers.{has_result}
use Rattle.tl_calls.proofs.Stands.{open_found}
use Rattle.outside.specs.Answer.{refused}
use Rattle.outside.specs.declared.status.Status.{Status}
use Rattle.outside.specs.declared.status.Status.TheVariants.{Done}
use Rattle.outside.specs.Events.{Event, HostState, ended, opened}
use Rattle.outside.specs.Packets.{PacketView, TakesPacket}
use Rattle.outside.specs.Packets as taken
use Rattle.outside.specs.Pieces.{Writes}
use Rattle.outside.specs.Begun.{Did, WritesOnly, to_output}
use Rattle.outside.specs.Steps.{Step, again, leave, Begins, Ends, Then}
use Rattle.outside.specs.Laws.{Throughout}
use Rattle.outside.proofs.Causing.{keeps_write, throughout_both}
use Rattle.outside.proofs.Growing.{Leaves, can_end, can_then, did_nothing, did_both, did_stop, did_stop_by}
use Rattle.outside.proofs.Piecewise.{can_tell, can_write}
use Rattle.outside.proofs.Printed.{can_print}
use Rattle.outside.proofs.TakenPackets.{may_packet, none_taken, whole_packet}
use Rattle.schema_files.specs.Lines.{input_line}
use Rattle.call_commands.specs.declared.limits.TheConstants.{MAX_PACKET_END}
use Rattle.call_commands.proofs.EachFile.{empty_or_word}
use Rattle.call_commands.proofs.OnePacket.{comes}
use Rattle.call_commands.proofs.OnePacket as packets
use Rattle.codec_rooms.proofs.Typing.{begun_as}
use Rattle.call_commands.specs.CallsWork.{SoFar, so_far, ends_by, Last, TellsRefusal, after_line, end_of, OfPacket, too_long, no_packet, told, after_packet, TellsNext, OfInput}

-- ---- the run ends

pub did_last : (S : Step Status) (p q : HostState) (status : Status) → Did S p q (Some status) → Did (Last S) p q (Some (leave status))
did_last S p q status h = did_both S ends_by p q q status (leave status) h (did_nothing q (leave status))

pub last_stopped : (S : Step Status) (p q : HostState) → Did S p q None → Did (Last S) p q None
last_stopped S p q h = did_stop S ends_by p q (λ status. can_end (leave status)) h

pub can_last : (S : Step Status) → Begins S [] → Begins (Last S) []
can_last S m = can_then S ends_by m (λ status. can_end (leave status))

pub can_refuse : (place : ℕ) (why : List ℕ) → Begins (Last (TellsRefusal place why)) []
can_refuse place why = can_last (TellsRefusal place why) (can_print (refused (input_line place why)))

-- ---- a packet

can_line : (next : SoFar) (ok : Bool) → Begins (after_line next ok) []
can_line next true = can_end (again next)
can_line next false = can_last _ (can_tell _ _)

-- each open call is answered in its result
pub open_results : (schema : Declared) (calls : CallsView) (past : Log) → StandsFor schema calls past → AreOpenIn schema calls → (n : ℕ) (c : ValueView) → IsOpen past n c → HasResult schema c
open_results schema calls past stands are n c here = has_result schema calls n [] c (open_found schema calls past n c stands here) are

module _ (schema : Declared) (good : IsSchema schema) (s : SoFar) (results : (n : ℕ) (c : ValueView) → IsOpen s.past n c → HasResult schema c) where
  pub can_packet : (content : List ℕ) → AreBytes content → IsPacketLength (length content) → Begins (OfPacket schema s content) []
  can_packet content are fits = elim (cases_lt MAX_PACKET_END (end_of s content)) [
    | inl far ↦ begun_as (Last (TellsRefusal s.at (codes "TooLong"))) (OfPacket schema s content) (λ t x h. too_long far h) (can_refuse s.at (codes "TooLong"))
    | inr within ↦ elim (comes schema good s.past results content are s.at (empty_or_word content fits)) [
      | packets.told e line tells ↦
          let next = so_far (e ∷ s.past) (end_of s content) in
          begun_as (Then (Writes Output line) (after_line next)) (OfPacket schema s content) (λ t x h. told within e line tells h) (can_then _ _ (can_write Output line) (can_line next))
      | packets.not_told place why r ↦ begun_as (Last (TellsRefusal place why)) (OfPacket schema s content) (λ t x h. no_packet within place why r h) (can_refuse place why)
    ]
  ]

  can_after : (t : List Event) (v : PacketView) → TakesPacket Input t v → Begins (after_packet schema s v) []
  can_after t (taken.whole content) h = let w = whole_packet Input t content h in can_packet content w.1 w.0
  can_after t taken.none h = can_last (Ends Done) (can_end Done)
  can_after t (taken.wrong cause) h = can_refuse s.at _
  can_after t taken.broken h = can_last _ (can_tell _ _)

  -- memory ran out while a packet was taken
  pub take_stopped : (p q : HostState) → Did (TakesPacket Input) p q None → Did (TellsNext schema s) p q None
  take_stopped p q = did_stop_by (TakesPacket Input) (after_packet schema s) p q can_after

-- ---- packets

done_last : Last (Ends Done) [] (leave Done)
done_last = record { first = []; rest = []; between = Done; splits = refl; does = (refl, refl); goes = (refl, refl) }

-- the input may end before each packet
pub leaves : (schema : Declared) (s : SoFar) → Leaves (TellsNext schema) s
leaves schema s = record { trace = ended Input ∷ []; answer = Done; does = record { first = ended Input ∷ []; rest = []; between = taken.none; splits = refl; does = none_taken Input; goes = done_last } }

-- the file may be missing
pub can_input : (input : List ℕ) (schema : Declared) → Begins (OfInput input schema) []
can_input input schema =
    let m = can_tell _ _ in
    record { rest = opened Input input false ∷ m.rest; answer = m.answer; whole = record { first = opened Input input false ∷ []; rest = m.rest; between = false; splits = refl; does = refl; goes = m.whole } }

-- ---- what was written where memory runs out

not_last : (S : Step Status) (t : List Event) (n : SoFar) → Last S t (again n) → ⊥
not_last S t n h = absurd (let no : again n ≡ leave h.between = h.goes.1 in cc)

may_line : (next n : SoFar) (ok : Bool) (t : List Event) → after_line next ok t (again n) → Throughout (WritesOnly to_output) t
may_line next n true t h = subst (Throughout (WritesOnly to_output)) (sym h.0) tt
may_line next n false t h = absurd (not_last _ t n h)

module _ (schema : Declared) (s n : SoFar) where
  may_packet_told : (content : List ℕ) (t : List Event) → OfPacket schema s content t (again n) → Throughout (WritesOnly to_output) t
  may_packet_told content t (too_long far h) = absurd (not_last _ t n h)
  may_packet_told content t (no_packet within place why r h) = absurd (not_last _ t n h)
  may_packet_told content t (told within e line tells h) =
      subst (Throughout (WritesOnly to_output)) (sym h.splits)
      (throughout_both (WritesOnly to_output) h.first h.rest (keeps_write (WritesOnly to_output) Output line (λ _. inl refl) (inl refl) h.first h.between h.does) (may_line _ n h.between h.rest h.goes))

  may_after : (v : PacketView) (t : List Event) → after_packet schema s v t (again n) → Throughout (WritesOnly to_output) t
  may_after (taken.whole content) t h = may_packet_told content t h
  may_after taken.none t h = absurd (not_last _ t n h)
  may_after (taken.wrong cause) t h = absurd (not_last _ t n h)
  may_after taken.broken t h = absurd (not_last _ t n h)

  -- a turn that goes on writes to Output alone
  pub may_next : (t : List Event) → TellsNext schema s t (again n) → Throughout (WritesOnly to_output) t
  may_next t h =
      subst (Throughout (WritesOnly to_output)) (sym h.splits)
      (throughout_both (WritesOnly to_output) h.first h.rest (may_packet Input to_output h.first h.between h.does) (may_after h.between h.rest h.goes))
