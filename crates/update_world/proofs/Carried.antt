-- What packets carry: the sizes of what is spelled, and what is read of it.
use Rattle.std.proofs.Common.{◌≡◌, ◌⊎◌, inl, inr, ℕ, zero, suc, ◌+◌, take, get_or, ◌≤◌, List, [], ◌∷◌, ◌++◌, length, Some, Result, Ok, Err, refl, sym, ap, ◌∙◌, subst, arith}
use Rattle.std.specs.Prelude.{⊤, slice_get}
use Rattle.std.proofs.lemmas.List.{take_more}
use Rattle.std.proofs.lemmas.Option.{same_Some, slice_get-get_or, slice_get_within}
use Rattle.std.specs.List.{All}
use Rattle.std.proofs.lemmas.List.Elements.{All-cons, All-get_or, All-head, All-nil, All-tail}
use Rattle.box_events.specs.declared.limits.TheConstants.{MAX_FRAME_BYTES}
use Rattle.box_events.specs.declared.replies.Frame.{Frame}
use Rattle.box_events.specs.declared.requests.Numbered.{Numbered}
use Rattle.wire_profile.specs.declared.wire_fault.WireFault.{WireFault}
use Rattle.tl_base.specs.declared.fault.Fault.{Fault}
use Rattle.tl_base.specs.declared.fault.Fault.TheVariants as fault
use Rattle.wire_profile.specs.Indexes.{ProfileView}
use Rattle.wire_profile.specs.Profiles.{IsProfile}
use Rattle.wire_values.specs.Calls.{call_tree}
use Rattle.wire_values.specs.CarriedFrames.{IsFrame}
use Rattle.wire_values.specs.Frames.{frame_tree}
use Rattle.box_wire.specs.Answers.{GivesSpelling, Reads, Spelled}
use Rattle.box_wire.specs.Framing.{Framed, Means, WireRefused}
use Rattle.box_wire.specs.Kinds.{calls, frames}
use Rattle.box_wire.specs.declared.fault.SpellFault.{SpellFault}
use Rattle.box_wire.specs.declared.fault.SpellFault.TheVariants.{TooLong, Memory as SpellMemory}
use Rattle.box_world.specs.Sizes.{call_size, frame_size}
use Rattle.box_world.specs.Fitting.{IsHearable}
use Rattle.box_world.proofs.ReadFrames.{frames_taken}
use Rattle.update_world.specs.declared.sent.SentPacket.{SentPacket}
use Rattle.update_world.specs.declared.sent.End.{End}
use Rattle.update_world.specs.declared.sent.End.TheVariants.{Server}
use Rattle.update_world.specs.inner.Pools.{IsPacket}
use Rattle.update_world.specs.inner.Reading.{CarriesCall, CarriesFrame, HasCall, HasFrame}
use Rattle.update_world.specs.inner.Sending.{AreAsked}
use Rattle.update_world.proofs.WireLaws.{calls_long, calls_meant, calls_size, frames_long, frames_meant, frames_size}

-- ---- spelling

-- what is spelled and isn't too long is given, or there is no memory
given_by : (F : List ℕ → Type 0) (n : ℕ) → (◌≡◌ {A = Result (List ℕ) SpellFault} (Err (TooLong n)) (Err SpellMemory)) ⊎ ((b : List ℕ) × F b × GivesSpelling b (Err (TooLong n))) → ((b : List ℕ) → F b → length b ≤ MAX_FRAME_BYTES) → ⊥
given_by F n (inl q) short = cc
given_by F n (inr h) short = let low = short h.0 h.1 in let high = h.2.1 in omega (arith, low, high)

pub frame_not_long : (p : ProfileView) → IsProfile p → (f : Frame) (n : ℕ) → frame_size f ≤ MAX_FRAME_BYTES → Spelled (Framed p frames (frame_tree f)) (Err (TooLong n)) → ⊥
frame_not_long p is f n short s = given_by (Framed p frames (frame_tree f)) n s.given (λ b framed. subst (λ (k : ℕ). k ≤ MAX_FRAME_BYTES) (sym (frames_size p is f b framed)) short)

pub call_not_long : (p : ProfileView) → IsProfile p → (c : Numbered) (n : ℕ) → call_size c ≤ MAX_FRAME_BYTES → Spelled (Framed p calls (call_tree c)) (Err (TooLong n)) → ⊥
call_not_long p is c n short s = given_by (Framed p calls (call_tree c)) n s.given (λ b framed. subst (λ (k : ℕ). k ≤ MAX_FRAME_BYTES) (sym (calls_size p is c b framed)) short)

spelled_by : (F : List ℕ → Type 0) (bytes : List ℕ) → (◌≡◌ {A = Result (List ℕ) SpellFault} (Ok bytes) (Err SpellMemory)) ⊎ ((b : List ℕ) × F b × GivesSpelling b (Ok bytes)) → F bytes
spelled_by F bytes (inl q) = absurd cc
spelled_by F bytes (inr h) = subst F (sym h.2.0) h.1

pub is_spelled : (F : List ℕ → Type 0) (bytes : List ℕ) → Spelled F (Ok bytes) → F bytes
is_spelled F bytes s = spelled_by F bytes s.given

-- ---- the sizes of packets

pub frame_packet : (p : ProfileView) → IsProfile p → (f : Frame) (to : End) (b : List ℕ) → frame_size f ≤ MAX_FRAME_BYTES → Framed p frames (frame_tree f) b → IsPacket (record { bytes = b; to = to })
frame_packet p is f to b short framed =
    let size = frames_size p is f b framed in
    let low = frames_long f in
    (omega (arith, size, low), omega (arith, size, short))

pub one_packet : (p : ProfileView) → IsProfile p → (f : Frame) (to : End) (b : List ℕ) → frame_size f ≤ MAX_FRAME_BYTES → Framed p frames (frame_tree f) b → All IsPacket (record { bytes = b; to = to } ∷ [])
one_packet p is f to b short framed = All-cons IsPacket (record { bytes = b; to = to }) [] (frame_packet p is f to b short framed) (All-nil IsPacket)

pub all_packets : (p : ProfileView) → IsProfile p → (k : ℕ) (ns : List Numbered) (ss : List SentPacket) → AreAsked p k ns ss → All (λ n. call_size n ≤ MAX_FRAME_BYTES) ns → All IsPacket ss
all_packets p is k [] [] asked short = All-nil IsPacket
all_packets p is k [] (s ∷ ss) asked short = absurd asked
all_packets p is k (n ∷ ns) [] asked short = absurd asked
all_packets p is k (n ∷ ns) (s ∷ ss) asked short =
    let size = calls_size p is n s.bytes asked.1 in
    let low = calls_long n in
    let high = All-head (λ m. call_size m ≤ MAX_FRAME_BYTES) n ns short in
    All-cons IsPacket s ss (omega (arith, size, low), omega (arith, size, high)) (all_packets p is k ns ss asked.2 (All-tail (λ m. call_size m ≤ MAX_FRAME_BYTES) n ns short))

pub asked_push : (p : ProfileView) (k : ℕ) (ns : List Numbered) (ss : List SentPacket) (n : Numbered) (s : SentPacket) → AreAsked p k ns ss → AreAsked p k (n ∷ []) (s ∷ []) → AreAsked p k (ns ++ n ∷ []) (ss ++ s ∷ [])
asked_push p k [] [] n s a b = b
asked_push p k [] (x ∷ ss) n s a b = absurd a
asked_push p k (m ∷ ns) [] n s a b = absurd a
asked_push p k (m ∷ ns) (x ∷ ss) n s a b = (a.0, a.1, asked_push p k ns ss n s a.2 b)

pub asked_length : (p : ProfileView) (k : ℕ) (ns : List Numbered) (ss : List SentPacket) → AreAsked p k ns ss → length ns ≡ length ss
asked_length p k [] [] a = refl
asked_length p k [] (x ∷ ss) a = absurd a
asked_length p k (m ∷ ns) [] a = absurd a
asked_length p k (m ∷ ns) (x ∷ ss) a = ap (λ (n : ℕ). suc n) (asked_length p k ns ss a.2)

-- ---- reading

pub frame_means : (p : ProfileView) → IsProfile p → (b : List ℕ) (f : Frame) → CarriesFrame p b f → Means p frames (frame_tree f) b
frame_means p is b f c = frames_meant p is f b c.fits.is c.fits.clear c.spelled

pub call_means : (p : ProfileView) → IsProfile p → (b : List ℕ) (n : Numbered) → CarriesCall p b n → Means p calls (call_tree n) b
call_means p is b n c = calls_meant p is n b tt c.fits c.spelled

abbrev ReadsFrame : ProfileView → List ℕ → Result Frame (Fault WireFault) → Type 0
ReadsFrame p b result = Reads IsFrame (λ m. Means p frames (frame_tree m) b) (WireRefused p frames b) result

abbrev ReadsCall : ProfileView → List ℕ → Result Numbered (Fault WireFault) → Type 0
ReadsCall p b result = Reads (λ _. ⊤) (λ m. Means p calls (call_tree m) b) (WireRefused p calls b) result

-- what is read is what was sent
same_by : {M : Type 0} (m n : M) → (◌≡◌ {A = Result M (Fault WireFault)} (Ok m) (Ok n)) ⊎ (◌≡◌ {A = Result M (Fault WireFault)} (Ok m) (Err fault.Memory)) → m ≡ n
same_by m n (inl q) = cc
same_by m n (inr q) = absurd cc

pub frame_same : (p : ProfileView) → IsProfile p → (b : List ℕ) (f g : Frame) → ReadsFrame p b (Ok f) → CarriesFrame p b g → f ≡ g
frame_same p is b f g r c = same_by f g (r.meant g c.fits.is (frame_means p is b g c))

pub call_same : (p : ProfileView) → IsProfile p → (b : List ℕ) (f g : Numbered) → ReadsCall p b (Ok f) → CarriesCall p b g → f ≡ g
call_same p is b f g r c = same_by f g (r.meant g tt (call_means p is b g c))

pub frame_hearable : (p : ProfileView) → IsProfile p → (b : List ℕ) (f : Frame) → ReadsFrame p b (Ok f) → IsHearable f
frame_hearable p is b f r = frames_taken p is f b r.given.0 r.given.1

-- and only memory can be wanting
memory_by : {M : Type 0} (n : M) (e : Fault WireFault) → (◌≡◌ {A = Result M (Fault WireFault)} (Err e) (Ok n)) ⊎ (◌≡◌ {A = Result M (Fault WireFault)} (Err e) (Err fault.Memory)) → e ≡ fault.Memory
memory_by n e (inl q) = absurd cc
memory_by n e (inr q) = cc

pub frame_memory : (p : ProfileView) → IsProfile p → (b : List ℕ) (e : Fault WireFault) → HasFrame p b → ReadsFrame p b (Err e) → e ≡ fault.Memory
frame_memory p is b e has r = memory_by has.0 e (r.meant has.0 has.1.fits.is (frame_means p is b has.0 has.1))

pub call_memory : (p : ProfileView) → IsProfile p → (b : List ℕ) (e : Fault WireFault) → HasCall p b → ReadsCall p b (Err e) → e ≡ fault.Memory
call_memory p is b e has r = memory_by has.0 e (r.meant has.0 tt (call_means p is b has.0 has.1))

-- ---- requests, one by one

pub take_whole : {A : Type 0} (xs : List A) (n : ℕ) → length xs ≤ n → take n xs ≡ xs
take_whole [] zero le = refl
take_whole [] (suc n) le = refl
take_whole (x ∷ xs) zero le = absurd (omega (arith, le))
take_whole {A = A} (x ∷ xs) (suc n) le = ap (λ (l : List A). x ∷ l) (take_whole xs n (omega (arith, le)))

pub is_at : {A : Type 0} (xs : List A) (i : ℕ) (x : A) → slice_get xs i ≡ Some x → x ≡ get_or xs i x
is_at xs i x at = same_Some x (get_or xs i x) (sym at ∙ slice_get-get_or xs i x (slice_get_within xs i x at))

pub all_at : {A : Type 0} (P : A → Type 0) (xs : List A) (i : ℕ) (x : A) → All P xs → slice_get xs i ≡ Some x → P x
all_at P xs i x all at = subst P (sym (is_at xs i x at)) (All-get_or P xs i x (slice_get_within xs i x at) all)

pub asked_more : (p : ProfileView) (k : ℕ) (ns : List Numbered) (i : ℕ) (n : Numbered) (ss new : List SentPacket) (b : List ℕ) → AreAsked p k (take i ns) ss → slice_get ns i ≡ Some n → Framed p calls (call_tree n) b
    → new ≡ ss ++ record { bytes = b; to = Server k } ∷ [] → AreAsked p k (take (i + 1) ns) new
asked_more p k ns i n ss new b asked at framed is =
    let cut : take (i + 1) ns ≡ take i ns ++ n ∷ [] = take_more ns i n (slice_get_within ns i n at) ∙ ap (λ (m : Numbered). take i ns ++ m ∷ []) (sym (is_at ns i n at)) in
    subst (λ (ms : List Numbered). AreAsked p k ms new) (sym cut) (subst (AreAsked p k (take i ns ++ n ∷ [])) (sym is) (asked_push p k (take i ns) ss n (record { bytes = b; to = Server k }) asked (refl, framed, tt)))
