-- What is left of a slot where a packet was taken from it.
use Rattle.std.proofs.Common.{◌≡◌, ℕ, ◌+◌, ◌<◌, ◌^◌, List, [], ◌∷◌, ◌++◌, length, length-append, append-nil, append_assoc, sym, ap, ◌∙◌, subst, inl, inr, arith}
use Rattle.tl_numbers.specs.Numbers.{word, word_number}
use Rattle.tl_numbers.proofs.Spelled.{words}
use Rattle.tl_base.specs.Outside.{left_of}
use Rattle.tl_base.specs.Packets.{IsPacketLength, IsCutShort, packet}
use Rattle.tl_base.specs.declared.host.Slot.{Slot}
use Rattle.tl_base.specs.declared.packet.PacketCause.TheVariants.{BadLength, Ended}
use Rattle.outside.specs.Events.{Event, Outside, ended}
use Rattle.outside.specs.Packets.{PacketView, whole, none, wrong, AfterLength, bad, good, TakesPacket, after_head, content_of, cut_off}
use Rattle.outside.specs.Packets as packets
use Rattle.outside.specs.Pieces.{TakenView, full, short, broken, Takes}
use Rattle.outside.specs.Fits.{Fits}
use Rattle.outside.proofs.Fitting.{fits_both, took_bytes}

module _ (slot : Slot) where
  abbrev pub rest_of : Outside → List ℕ
  rest_of s = left_of slot s.view

  full_left : (count : ℕ) (bytes : List ℕ) (t : List Event) (s n : Outside) → Takes slot count t (full bytes) → Fits t s n → rest_of s ≡ bytes ++ rest_of n
  full_left count bytes t s n h f =
      let r = took_bytes slot bytes [] t s n h.0 f in
      r.1 ∙ ap (λ (o : Outside). bytes ++ rest_of o) (sym r.3)

  short_left : (count : ℕ) (bytes : List ℕ) (t : List Event) (s n : Outside) → Takes slot count t (short bytes) → Fits t s n → rest_of s ≡ bytes
  short_left count bytes t s n h f =
      let r = took_bytes slot bytes (ended slot ∷ []) t s n h.0 f in
      r.1 ∙ (ap (λ (l : List ℕ). bytes ++ l) r.3.1.0 ∙ append-nil bytes)

  -- what was left where this was taken, and what is left then
  abbrev pub PacketLeft : PacketView → List ℕ → List ℕ → Type 0
  PacketLeft (whole content) left after = left ≡ packet content ++ after
  PacketLeft none left after = left ≡ []
  PacketLeft (wrong (BadLength n)) left after = (n < 2 ^ 32) × ¬ IsPacketLength n × (left ≡ word n ++ after)
  PacketLeft (wrong (Ended had)) left after = (0 < length left) × (had ≡ length left) × IsCutShort left
  PacketLeft packets.broken left after = Unit {0}

  cut_left : (head left after : List ℕ) → left ≡ head → length head < 4 → PacketLeft (cut_off (length head)) left after
  cut_left [] left after is few = is
  cut_left (b ∷ head) left after is few = (omega (arith, ap length is), sym (ap length is), inl (omega (arith, few, ap length is)))

  content_left : (n : ℕ) (v : TakenView) (t : List Event) (left : List ℕ) (m k : Outside) → IsPacketLength n → left ≡ word n ++ rest_of m → Takes slot n t v → Fits t m k → PacketLeft (content_of v) left (rest_of k)
  content_left n (full content) t left m k fits is h f =
      let long : length content ≡ n = h.1 in
      is ∙ ap (λ (z : List ℕ). word n ++ z) (full_left n content t m k h f) ∙ sym (append_assoc (word n) content (rest_of k)) ∙ ap (λ (j : ℕ). (word j ++ content) ++ rest_of k) (sym long)
  content_left n (short content) t left m k fits is h f =
      let split : left ≡ word n ++ content = is ∙ ap (λ (z : List ℕ). word n ++ z) (short_left n content t m k h f) in
      let long : length left ≡ 4 + length content = omega (arith, ap length split, length-append (word n) content, words.long n) in
      (omega (arith, long), sym long, inr (n, content, fits, split, h.1))
  content_left n broken t left m k fits is h f = tt

  length_left : (n : ℕ) (t : List Event) (v : PacketView) (left : List ℕ) (m k : Outside) → n < 2 ^ 32 → left ≡ word n ++ rest_of m → AfterLength slot n t v → Fits t m k → PacketLeft v left (rest_of k)
  length_left n t v left m k few is (bad not h) f =
      let stays : k ≡ m = subst (λ (l : List Event). Fits l m k) h.0 f in
      subst (λ (x : PacketView). PacketLeft x left (rest_of k)) (sym h.1) (few, not, is ∙ ap (λ (o : Outside). word n ++ rest_of o) (sym stays))
  length_left n t v left m k few is (good fits h) f =
      let parts = fits_both h.first h.rest m k (subst (λ (l : List Event). Fits l m k) h.splits f) in
      let stays : k ≡ parts.0 = subst (λ (l : List Event). Fits l parts.0 k) h.goes.0 parts.2 in
      subst (λ (x : PacketView). PacketLeft x left (rest_of k)) (sym h.goes.1) (subst (λ (o : Outside). PacketLeft (content_of h.between) left (rest_of o)) (sym stays) (content_left n h.between h.first left m parts.0 fits is h.does parts.1))

  head_left : (head : TakenView) (t u : List Event) (v : PacketView) (s m k : Outside) → Takes slot 4 t head → after_head slot head u v → Fits t s m → Fits u m k → PacketLeft v (rest_of s) (rest_of k)
  head_left (full head) t u v s m k h after f g =
      let is : word (word_number head) ≡ head = words.one_spelling head h.1 h.2 in
      length_left (word_number head) u v (rest_of s) m k (words.fits head h.1 h.2) (full_left 4 head t s m h f ∙ ap (λ (z : List ℕ). z ++ rest_of m) (sym is)) after g
  head_left (short head) t u v s m k h after f g = subst (λ (x : PacketView). PacketLeft x (rest_of s) (rest_of k)) (sym after.1) (cut_left head (rest_of s) (rest_of k) (short_left 4 head t s m h f) h.1)
  head_left broken t u v s m k h after f g = subst (λ (x : PacketView). PacketLeft x (rest_of s) (rest_of k)) (sym after.1) tt

  pub packet_left : (t : List Event) (v : PacketView) (s k : Outside) → TakesPacket slot t v → Fits t s k → PacketLeft v (rest_of s) (rest_of k)
  packet_left t v s k h f =
      let parts = fits_both h.first h.rest s k (subst (λ (l : List Event). Fits l s k) h.splits f) in
      head_left h.between h.first h.rest v s parts.0 k h.does h.goes parts.1 parts.2
