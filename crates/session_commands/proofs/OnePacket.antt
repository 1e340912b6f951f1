-- Bytes begin with one packet at most, or with none for one cause.
use Rattle.std.proofs.Common.{◌≡◌, ℕ, ◌<◌, ◌≤◌, ◌^◌, List, [], ◌∷◌, ◌++◌, append_assoc, length, length-append, get_or, drop, refl, sym, ap, ap₂, ◌∙◌, subst, arith, inl, inr}
use Rattle.tl_numbers.specs.Numbers.{word, word_number}
use Rattle.tl_base.specs.Packets.{IsPacketLength, packet, IsCutShort}
use Rattle.tl_base.specs.declared.packet.PacketCause.{PacketCause}
use Rattle.tl_base.specs.declared.packet.PacketCause.TheVariants as fault
use Rattle.tl_numbers.proofs.Spelled.{words}
use Rattle.update_sessions.specs.Heard.{NoFrame}
use Rattle.update_sessions.specs.Packed.{NoPacket}
use Rattle.session_commands.specs.Post.{IsWordLong}

same_split : (x y r s : List ℕ) → length x ≡ length y → x ++ r ≡ y ++ s → (x ≡ y) × (r ≡ s)
same_split [] [] r s len e = (refl, e)
same_split [] (b ∷ y) r s len e = absurd (omega (arith, len))
same_split (a ∷ x) [] r s len e = absurd (omega (arith, len))
same_split (a ∷ x) (b ∷ y) r s len e =
    let more = same_split x y r s (omega (arith, len)) (ap (λ (l : List ℕ). drop 1 l) e) in
    let first : a ≡ b = ap (λ (l : List ℕ). get_or l 0 0) e in
    (ap₂ (λ (z : ℕ) (l : List ℕ). z ∷ l) first more.0, more.1)

-- bytes begin with one number
same_word : (m n : ℕ) (r s : List ℕ) → m < 2 ^ 32 → n < 2 ^ 32 → word m ++ r ≡ word n ++ s → (m ≡ n) × (r ≡ s)
same_word m n r s few also e =
    let both = same_split (word m) (word n) r s (words.long m ∙ sym (words.long n)) e in
    (sym (words.one_number m few) ∙ ap word_number both.0 ∙ words.one_number n also, both.1)

is_few : (n : ℕ) → IsPacketLength n → n < 2 ^ 32
is_few n fits = omega (arith, fits.1)

begins_so : (body rest : List ℕ) → packet body ++ rest ≡ word (length body) ++ (body ++ rest)
begins_so body rest = append_assoc (word (length body)) body rest

pub same_packet : (a b r s : List ℕ) → IsPacketLength (length a) → IsPacketLength (length b) → packet a ++ r ≡ packet b ++ s → a ≡ b
same_packet a b r s fits also e =
    let both = same_word (length a) (length b) (a ++ r) (b ++ s) (is_few _ fits) (is_few _ also) (sym (begins_so a r) ∙ e ∙ begins_so b s) in
    (same_split a b r s both.0 both.1).0

word_is_long : (bytes r : List ℕ) (n : ℕ) → bytes ≡ word n ++ r → 4 ≤ length bytes
word_is_long bytes r n e = omega (arith, ap length e, length-append (word n) r, words.long n)

pub packet_is_long : (bytes body rest : List ℕ) → bytes ≡ packet body ++ rest → 4 ≤ length bytes
packet_is_long bytes body rest e = word_is_long bytes (body ++ rest) (length body) (e ∙ begins_so body rest)

-- bytes that begin with a packet don't begin with none
pub never_packet : (bytes body rest : List ℕ) (e : PacketCause) → NoFrame bytes e → IsWordLong e → IsPacketLength (length body) → bytes ≡ packet body ++ rest → ⊥
never_packet bytes body rest e (inl (none, at)) few fits is = omega (arith, ap length none, packet_is_long bytes body rest is)
never_packet bytes body rest (fault.BadLength n) (inr (r, begins, bad)) few fits is =
    let same = same_word n (length body) r (body ++ rest) few (is_few _ fits) (sym begins ∙ is ∙ begins_so body rest) in
    bad (subst IsPacketLength (sym same.0) fits)
never_packet bytes body rest (fault.Ended had) (inr (len, some, inl short)) few fits is = omega (arith, short, packet_is_long bytes body rest is)
never_packet bytes body rest (fault.Ended had) (inr (len, some, inr (n, r, good, begins, less))) few fits is =
    let same = same_word n (length body) r (body ++ rest) (is_few _ good) (is_few _ fits) (sym begins ∙ is ∙ begins_so body rest) in
    omega (arith, less, same.0, ap length same.1, length-append body rest)

-- a length that no packet has is not cut short
never_cut : (bytes r : List ℕ) (n : ℕ) → n < 2 ^ 32 → bytes ≡ word n ++ r → ¬ IsPacketLength n → IsCutShort bytes → ⊥
never_cut bytes r n few begins bad (inl short) = omega (arith, short, word_is_long bytes r n begins)
never_cut bytes r n few begins bad (inr (m, s, good, also, less)) =
    let same = same_word n m r s few (is_few _ good) (sym begins ∙ also) in
    bad (subst IsPacketLength (sym same.0) good)

never_none : (bytes : List ℕ) (e : PacketCause) → bytes ≡ [] → IsWordLong e → NoFrame bytes e → e ≡ fault.Ended 0
never_none bytes e none few (inl (also, at)) = at
never_none bytes (fault.BadLength n) none few (inr (r, begins, bad)) = absurd (omega (arith, ap length none, word_is_long bytes r n begins))
never_none bytes (fault.Ended had) none few (inr (len, some, cut)) = absurd (omega (arith, ap length none, len, some))

one_none : (bytes : List ℕ) (e f : PacketCause) → NoPacket bytes e → NoPacket bytes f → IsWordLong e → IsWordLong f → e ≡ f
one_none bytes (fault.BadLength m) (fault.BadLength n) (r, begins, bad) (s, starts, worse) few also = ap (λ (k : ℕ). fault.BadLength k) (same_word m n r s few also (sym begins ∙ starts)).0
one_none bytes (fault.BadLength m) (fault.Ended had) (r, begins, bad) (len, some, cut) few also = absurd (never_cut bytes r m few begins bad cut)
one_none bytes (fault.Ended had) (fault.BadLength n) (len, some, cut) (r, begins, bad) few also = absurd (never_cut bytes r n also begins bad cut)
one_none bytes (fault.Ended m) (fault.Ended n) (len, some, cut) (long, more, short) few also = ap (λ (k : ℕ). fault.Ended k) (sym len ∙ long)

pub one_packet_fault : (bytes : List ℕ) (e f : PacketCause) → NoFrame bytes e → NoFrame bytes f → IsWordLong e → IsWordLong f → e ≡ f
one_packet_fault bytes e f (inl (none, at)) h few also = at ∙ sym (never_none bytes f none also h)
one_packet_fault bytes e f (inr h) (inl (none, at)) few also = never_none bytes e none few (inr h) ∙ sym at
one_packet_fault bytes e f (inr h) (inr k) few also = one_none bytes e f h k few also
