-- Laws of packets that are taken.
use Rattle.std.proofs.Common.{◌≡◌, ◌⊎◌, ℕ, zero, suc, ◌+◌, ◌%◌, ◌<◌, List, [], ◌∷◌, ◌++◌, length, map, Option, Some, None, Vec, Global, true≢false, refl, sym, ap, ◌∙◌, subst, inl, inr, arith}
use Rattle.std.specs.Prelude.{◌↔◌, Bool, true, false, IsTrue}
use Rattle.std.proofs.lemmas.Bool.{cases_eq, cases_lt}
use Rattle.tl_numbers.specs.Bytes.{AreBytes}
use Rattle.tl_numbers.specs.Numbers.{word_number}
use Rattle.tl_base.specs.Kinds.{slot_kind}
use Rattle.tl_base.specs.Packets.{IsPacketLength}
use Rattle.tl_base.specs.declared.host.Out.{Out}
use Rattle.tl_base.specs.declared.host.Slot.{Slot}
use Rattle.tl_base.specs.declared.host.Slot.TheVariants.{Link}
use Rattle.tl_base.specs.declared.packet.TheConstants.{PACKET_BYTES}
use Rattle.outside.specs.Events.{Event, HostState, took, ended, read_failed}
use Rattle.outside.specs.Laws.{Happened, IsFailure, IsFromLink, Keeps}
use Rattle.tl_base.specs.declared.packet.PacketCause.TheVariants.{BadLength, Ended}
use Rattle.outside.specs.Packets.{PacketView, whole, none, wrong, AfterLength, bad, good, TakesPacket, after_head, content_of, cut_off, packet_view}
use Rattle.outside.specs.Packets as packets
use Rattle.outside.specs.Pieces.{TakenView, full, short, broken, Takes, joined, taken_view}
use Rattle.outside.specs.Begun.{Did, WritesOnly}
use Rattle.outside.specs.Steps.{Begins, Ends, Then}
use Rattle.outside.specs.declared.packets.Packet.{Packet}
use Rattle.outside.specs.declared.packets.Packet.TheVariants as packet
use Rattle.outside.specs.declared.pieces.Taken.{Taken}
use Rattle.outside.specs.declared.pieces.Taken.TheVariants as taken
use Rattle.outside.proofs.Causing.{broken_read, happened_first, happened_last, keeps_end, keeps_take, keeps_then}
use Rattle.outside.proofs.Begun.{may_take}
use Rattle.outside.proofs.Growing.{can_end, can_then, did_both_at, did_nothing, did_stop, did_then_at, grew_none}
use Rattle.outside.proofs.Piecewise.{are_none, can_take, no_pieces}

-- ---- what was taken

full_is : (t : Taken) (bytes : Vec ℕ Global) → t ≡ taken.Full bytes → taken_view t ≡ full bytes.items
full_is t bytes is = ap taken_view is

short_is : (t : Taken) (bytes : Vec ℕ Global) → t ≡ taken.Short bytes → taken_view t ≡ short bytes.items
short_is t bytes is = ap taken_view is

-- ---- each of its parts can go on to its end

length_decided : (n : ℕ) → IsPacketLength n ⊎ (IsPacketLength n → ⊥)
length_decided n = elim (cases_eq (n % 4) 0) [
  | inl four ↦ elim (cases_lt PACKET_BYTES n) [
    | inl much ↦ inr (λ fits. omega (arith, much, fits.1))
    | inr few ↦ inl (four, omega (arith, few))
  ]
  | inr other ↦ inr (λ fits. other fits.0)
]

-- as the test of a length says
pub length_fits : (is : Bool) (n : ℕ) → (IsTrue is ↔ IsPacketLength n) → is ≡ true → IsPacketLength n
length_fits is n both said = both.0 said

pub length_misfits : (is : Bool) (n : ℕ) → (IsTrue is ↔ IsPacketLength n) → is ≡ false → IsPacketLength n → ⊥
length_misfits is n both said fits = true≢false (sym (both.1 fits) ∙ said)

module _ (slot : Slot) where
  can_length : (n : ℕ) → Begins (AfterLength slot n) []
  can_length n = elim (length_decided n) [
    | inl fits ↦
        let m : Begins (Then (Takes slot n) (λ content. Ends (content_of content))) [] = can_then _ _ (can_take slot n) (λ content. can_end (content_of content)) in
        record { rest = m.rest; answer = m.answer; whole = good fits m.whole }
    | inr not ↦ record { rest = []; answer = wrong (BadLength n); whole = bad not (refl, refl) }
  ]

  pub can_head : (head : TakenView) → Begins (after_head slot head) []
  can_head (full head) = can_length (word_number head)
  can_head (short head) = can_end (cut_off (length head))
  can_head broken = can_end packets.broken

  -- the input may end at once
  pub none_taken : TakesPacket slot (ended slot ∷ []) none
  none_taken = record { first = ended slot ∷ []; rest = []; between = short []; splits = refl; does = (no_pieces (took slot) (ended slot ∷ []), omega arith, are_none); goes = (refl, refl) }

  -- ---- what follows of a length

  pub length_bad : (n : ℕ) (p : HostState) → (IsPacketLength n → ⊥) → Did (AfterLength slot n) p p (Some (wrong (BadLength n)))
  length_bad n p not = record { trace = []; grew = grew_none p; holds = bad not (refl, refl) }

  length_good : (n : ℕ) (p q : HostState) (answer : Option PacketView) → IsPacketLength n → Did (Then (Takes slot n) (λ content. Ends (content_of content))) p q answer → Did (AfterLength slot n) p q answer
  length_good n p q (Some a) fits h = record { trace = h.trace; grew = h.grew; holds = good fits h.holds }
  length_good n p q None fits h = record { trace = h.trace; grew = h.grew; holds = record { rest = h.holds.rest; answer = h.holds.answer; whole = good fits h.holds.whole; only = h.holds.only } }

  pub content_stopped : (n : ℕ) (p q : HostState) → IsPacketLength n → Did (Takes slot n) p q None → Did (AfterLength slot n) p q None
  content_stopped n p q fits h = length_good n p q None fits (did_stop _ _ p q (λ content. can_end (content_of content)) h)

  pub content_taken : (n : ℕ) (p q : HostState) (t : Taken) (v : TakenView) → taken_view t ≡ v → IsPacketLength n → Did (Takes slot n) p q (Some (taken_view t)) → Did (AfterLength slot n) p q (Some (content_of v))
  content_taken n p q t v is fits h = length_good n p q (Some (content_of v)) fits (did_both_at _ (λ content. Ends (content_of content)) p q q (taken_view t) v (content_of v) is h (did_nothing q (content_of v)))

  -- ---- and of its four bytes

  pub head_taken : (p q r : HostState) (t : Taken) (v : TakenView) (answer : Option PacketView) → taken_view t ≡ v → Did (Takes slot 4) p q (Some (taken_view t)) → Did (after_head slot v) q r answer → Did (TakesPacket slot) p r answer
  head_taken p q r t v answer is = did_then_at (Takes slot 4) (after_head slot) p q r (taken_view t) v answer is (may_take [] slot 4)

  pub head_whole : (p q r : HostState) (t : Taken) (head : Vec ℕ Global) (bytes : List ℕ) (n : ℕ) (answer : Option PacketView) → t ≡ taken.Full head → bytes ≡ head.items → n ≡ word_number bytes → Did (Takes slot 4) p q (Some (taken_view t)) → Did (AfterLength slot n) q r answer → Did (TakesPacket slot) p r answer
  head_whole p q r t head bytes n answer is same number h after =
      head_taken p q r t (full head.items) answer (full_is t head is) h (subst (λ (k : ℕ). Did (AfterLength slot k) q r answer) (number ∙ ap word_number same) after)

  pub head_cut : (p q : HostState) (t : Taken) (head : Vec ℕ Global) (v : PacketView) → t ≡ taken.Short head → v ≡ cut_off (length head.items) → Did (Takes slot 4) p q (Some (taken_view t)) → Did (TakesPacket slot) p q (Some v)
  head_cut p q t head v is same h =
      head_taken p q q t (short head.items) (Some v) (short_is t head is) h (subst (λ (x : PacketView). Did (after_head slot (short head.items)) q q (Some x)) (sym same) (did_nothing q (cut_off (length head.items))))

  -- ---- a whole packet

  abbrev IsWhole : List ℕ → Type 0
  IsWhole content = IsPacketLength (length content) × AreBytes content

  cut_whole : (n : ℕ) (content : List ℕ) → whole content ≡ cut_off n → ⊥
  cut_whole zero content is = absurd (let no : whole content ≡ none = is in cc)
  cut_whole (suc n) content is = absurd (let no : whole content ≡ wrong (Ended (suc n)) = is in cc)

  whole_content : (n : ℕ) (t : List Event) (v : TakenView) (content : List ℕ) → IsPacketLength n → Takes slot n t v → whole content ≡ content_of v → IsWhole content
  whole_content n t (full bytes) content fits h is =
      let same : bytes ≡ content = cc in
      (subst IsPacketLength (sym h.1 ∙ ap length same) fits, subst AreBytes same h.2)
  whole_content n t (short bytes) content fits h is = absurd (let no : whole content ≡ wrong (Ended (4 + length bytes)) = is in cc)
  whole_content n t broken content fits h is = absurd (let no : whole content ≡ packets.broken = is in cc)

  whole_length : (n : ℕ) (t : List Event) (content : List ℕ) → AfterLength slot n t (whole content) → IsWhole content
  whole_length n t content (bad not h) = absurd (let no : whole content ≡ wrong (BadLength n) = h.1 in cc)
  whole_length n t content (good fits h) = whole_content n h.first h.between content fits h.does h.goes.1

  whole_head : (head : TakenView) (t : List Event) (content : List ℕ) → after_head slot head t (whole content) → IsWhole content
  whole_head (full head) t content h = whole_length (word_number head) t content h
  whole_head (short head) t content h = absurd (cut_whole (length head) content h.1)
  whole_head broken t content h = absurd (let no : whole content ≡ packets.broken = h.1 in cc)

  -- its content has a packet's length, and is of bytes
  pub whole_packet : (t : List Event) (content : List ℕ) → TakesPacket slot t (whole content) → IsPacketLength (length content) × AreBytes content
  whole_packet t content h = whole_head h.between h.rest content h.goes

  pub packet_fits : (p q : HostState) (x : Packet) (content : Vec ℕ Global) → x ≡ packet.Whole content → Did (TakesPacket slot) p q (Some (packet_view x)) → IsPacketLength (length content.items)
  packet_fits p q x content is d = (whole_packet d.trace content.items (subst (λ (v : PacketView). TakesPacket slot d.trace v) (ap packet_view is) d.holds)).0

  -- ---- a failed read

  abbrev Failed : List Event → Type 0
  Failed = Happened (IsFailure (slot_kind slot))

  cut_broken : (n : ℕ) → packets.broken ≡ cut_off n → ⊥
  cut_broken zero is = absurd (let no : packets.broken ≡ none = is in cc)
  cut_broken (suc n) is = absurd (let no : packets.broken ≡ wrong (Ended (suc n)) = is in cc)

  broken_content : (n : ℕ) (t u : List Event) (v : TakenView) → Takes slot n t v → packets.broken ≡ content_of v → Failed (t ++ u)
  broken_content n t u (full bytes) h is = absurd (let no : packets.broken ≡ whole bytes = is in cc)
  broken_content n t u (short bytes) h is = absurd (let no : packets.broken ≡ wrong (Ended (4 + length bytes)) = is in cc)
  broken_content n t u broken h is = happened_first (IsFailure (slot_kind slot)) t u (broken_read slot n t broken h refl)

  broken_length : (n : ℕ) (t : List Event) → AfterLength slot n t packets.broken → Failed t
  broken_length n t (bad not h) = absurd (let no : packets.broken ≡ wrong (BadLength n) = h.1 in cc)
  broken_length n t (good fits h) = subst Failed (sym h.splits) (broken_content n h.first h.rest h.between h.does h.goes.1)

  broken_head : (head : TakenView) (t u : List Event) → Takes slot 4 t head → after_head slot head u packets.broken → Failed (t ++ u)
  broken_head (full head) t u h after = happened_last (IsFailure (slot_kind slot)) t u (broken_length (word_number head) u after)
  broken_head (short head) t u h after = absurd (cut_broken (length head) after.1)
  broken_head broken t u h after = happened_first (IsFailure (slot_kind slot)) t u (broken_read slot 4 t broken h refl)

  pub broken_packet : (t : List Event) → TakesPacket slot t packets.broken → Happened (IsFailure (slot_kind slot)) t
  broken_packet t h = subst Failed (sym h.splits) (broken_head h.between h.first h.rest h.does h.goes)

  -- ---- its events

  module _ (P : Event → Type 0) (each : (bytes : List ℕ) → P (took slot bytes)) (end : P (ended slot)) (fail : P (read_failed slot)) where
    keeps_length : (n : ℕ) → Keeps P (AfterLength slot n)
    keeps_length n t p (bad not h) = keeps_end P (wrong (BadLength n)) t p h
    keeps_length n t p (good fits h) = keeps_then P (Takes slot n) (λ content. Ends (content_of content)) (keeps_take P slot n each end fail) (λ content. keeps_end P (content_of content)) t p h

    keeps_head : (head : TakenView) → Keeps P (after_head slot head)
    keeps_head (full head) = keeps_length (word_number head)
    keeps_head (short head) = keeps_end P (cut_off (length head))
    keeps_head broken = keeps_end P packets.broken

    pub keeps_packet : Keeps P (TakesPacket slot)
    keeps_packet = keeps_then P (Takes slot 4) (after_head slot) (keeps_take P slot 4 each end fail) keeps_head

-- ---- what came over the link

some_piece : (pieces : List (List ℕ)) (last : List Event) → 0 < length (joined pieces) → Happened IsFromLink (map (took Link) pieces ++ last)
some_piece [] last some = absurd (omega (arith, some))
some_piece (piece ∷ pieces) last some = inl refl

head_came : (t : List Event) (head : TakenView) → Takes Link 4 t head → (head ≡ broken → ⊥) → Happened IsFromLink t
head_came t (full head) h not = subst (Happened IsFromLink) (sym h.0.events) (some_piece h.0.pieces [] (subst (λ (l : List ℕ). 0 < length l) (sym h.0.join) (omega (arith, h.1))))
head_came t (short head) h not = subst (Happened IsFromLink) (sym h.0.events) (happened_last IsFromLink (map (took Link) h.0.pieces) (ended Link ∷ []) (inl refl))
head_came t broken h not = absurd (not refl)

-- no read failed
abbrev pub IsUnbroken : PacketView → Type 0
IsUnbroken (whole content) = Unit {0}
IsUnbroken none = Unit {0}
IsUnbroken (wrong cause) = Unit {0}
IsUnbroken packets.broken = ⊥

after_broken : (head : TakenView) (u : List Event) (v : PacketView) → IsUnbroken v → after_head Link head u v → head ≡ broken → ⊥
after_broken head u v unbroken after is = subst IsUnbroken (subst (λ (x : TakenView). after_head Link x u v) is after).1 unbroken

-- a packet, a part of one, or the end
pub packet_came : (t : List Event) (v : PacketView) → TakesPacket Link t v → IsUnbroken v → Happened IsFromLink t
packet_came t v h unbroken = subst (Happened IsFromLink) (sym h.splits) (happened_first IsFromLink h.first h.rest (head_came h.first h.between h.does (after_broken h.between h.rest v unbroken h.goes)))

-- nothing is written where a packet is taken
pub may_packet : (slot : Slot) (outs : List Out) → Keeps (WritesOnly outs) (TakesPacket slot)
may_packet slot outs = keeps_packet slot (WritesOnly outs) (λ bytes. tt) tt tt
