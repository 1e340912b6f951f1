-- Sessions of clients: how they begin, and what holds where the frames are an honest server's.
use Rattle.std.proofs.Common.{◌≡◌, Bool, ℕ, ◌+◌, ◌≤◌, List, [], ◌∷◌, ◌++◌, length, Option, Some, None, Result, Ok, Err, refl, sym, ap, ◌∙◌, subst, append-nil, length-append, arith}
use Rattle.std.specs.Prelude.{IsSome, IsTrue, IfSome}
use Rattle.std.specs.Io.KnownBytes.{Appends}
use Rattle.std.proofs.KnownBytes.{Appends-nil, Appends-trans}
use Rattle.tl_base.specs.Using.{SourceState, SinkState, Wrote}
use Rattle.tl_base.specs.Writing.{AppendsPrefix}
use Rattle.box_events.specs.declared.replies.Frame.{Frame}
use Rattle.box_events.specs.declared.replies.Frame.TheVariants.{Push, Reply}
use Rattle.box_events.specs.declared.replies.Reply.{Reply as SomeReply}
use Rattle.box_server.specs.Servers.{ServerState}
use Rattle.box_server.proofs.Carrying.{changed_overlays}
use Rattle.box_client.specs.States.{ClientState}
use Rattle.box_client.specs.Asking.{ticks, wakes}
use Rattle.box_client.specs.Replies.{Outcome, ignored, refuses, becomes, replied}
use Rattle.box_client.specs.declared.fault.ClientFault.{ClientFault}
use Rattle.box_world.specs.Agreeing.{Agrees}
use Rattle.box_world.specs.Streams.{Past, past_of, begun, heard_frame, told_reply, AgreesThrough}
use Rattle.box_world.specs.Recovering.{AnswersEach, most_frames}
use Rattle.box_world.proofs.Streams as streams
use Rattle.box_world.proofs.Histories as histories
use Rattle.wire_profile.specs.Indexes.{ProfileView}
use Rattle.update_sessions.specs.declared.fault.SessionFault.{SessionFault}
use Rattle.update_sessions.specs.declared.fault.SessionFault.TheVariants.{Packet, Wire, Client, TooManyFrames, LinkFault}
use Rattle.update_sessions.specs.Exchanges.{MaySend, after_all}
use Rattle.update_sessions.specs.Heard.{Hears, HearsOn, MayAsk, broke_off, asked}
use Rattle.update_sessions.specs.Hearing.{cause_in, cause_of, client_side, hears}
use Rattle.update_sessions.specs.Honest.{AnswersAll, HearsHonestly, IsNoClientFault, StaysHonest, StaysShort, told, told_all}
use Rattle.update_sessions.specs.Links.{OverLink, LinkNeverFails}
use Rattle.update_sessions.specs.Packed.{Packed, SpellsCall}
use Rattle.update_sessions.proofs.Exchanging.{broken_ends, exchanged_none}
use Rattle.update_sessions.proofs.LinkUses.{IsOne}
use Rattle.update_sessions.proofs.Packets.{partly_none, partly_of}

-- ---- honest streams

module _ (p : ProfileView) where
  -- the client after frames is that after the frames of a stream
  through_all : (past : Past) (c : ClientState) (fs last : List Frame) → AgreesThrough past c (told_all (fs ++ last)) → AgreesThrough past (after_all (client_side p) c fs) (told_all last)
  through_all past c [] last h = h
  through_all past c (Push q ∷ fs) last h = through_all past (heard_frame c (told (Push q))) fs last h.2
  through_all past c (Reply n r ∷ fs) last h = through_all past (heard_frame c (told (Reply n r))) fs last h.2

  agrees_first : (past : Past) (c : ClientState) (fs : List Frame) → AgreesThrough past c (told_all fs) → Agrees past.server past.boxes c
  agrees_first past c [] h = h
  agrees_first past c (f ∷ fs) h = h.0

  refusing : (o : Outcome) (cause : ClientFault) → cause_in o ≡ Some cause → o ≡ refuses cause
  refusing ignored cause e = absurd cc
  refusing (refuses other) cause e = let same : other ≡ cause = cc in ap refuses same
  refusing (becomes d) cause e = absurd cc

  never_refused : (past : Past) (c : ClientState) (f : Frame) (cause : ClientFault) → AgreesThrough past c (told_all (f ∷ [])) → cause_of c f ≡ Some cause → ⊥
  never_refused past c (Push q) cause h e = cc
  never_refused past c (Reply n r) cause h e = h.1 cause (refusing (replied c n r) cause e)

  -- what the frames came to, and that none of an honest server was refused
  record Through (past : Past) (c d : ClientState) (fs last : List Frame) (result : Result ℕ SessionFault) : Type 0 where
    ends : d ≡ after_all (client_side p) c fs
    clear : AgreesThrough past d (told_all last) → IsNoClientFault result

  on_through : (past : Past) (c d : ClientState) (bytes out : List ℕ) (result : Result ℕ SessionFault) (fs last : List Frame) → HearsOn p c bytes out d result fs last → Through past c d fs last result
  on_through past c d bytes out (Ok n) fs last h = record { ends = h.1.ends; clear = λ a. tt }
  on_through past c d bytes out (Err (Packet f)) fs last h = record { ends = h.1.exchanged.ends; clear = λ a. tt }
  on_through past c d bytes out (Err (Wire f)) fs last h = record { ends = h.1.exchanged.ends; clear = λ a. tt }
  on_through past c d bytes out (Err (Client f)) fs last h =
      record { ends = h.2.exchanged.ends; clear = λ a. never_refused past d h.1 f (subst (λ (l : List Frame). AgreesThrough past d (told_all l)) h.4 a) h.3.refuses }
  on_through past c d bytes out (Err TooManyFrames) fs last h = record { ends = h.1.ends; clear = λ a. tt }
  on_through past c d bytes out (Err LinkFault) fs last h = record { ends = broken_ends (client_side p) c d bytes out fs h.0; clear = λ a. tt }

  through_of : (past : Past) (c d : ClientState) (bytes out : List ℕ) (result : Result ℕ SessionFault) (fs last : List Frame) → Hears p c bytes out d result fs last → Through past (begun c) d fs last result
  through_of past c d bytes out result fs last (broke_off why wrote is none nothing) =
      record { ends = is ∙ ap (λ (l : List Frame). after_all (client_side p) (begun c) l) (sym none); clear = λ a. subst (λ (r : Result ℕ SessionFault). IsNoClientFault r) (sym why) tt }
  through_of past c d bytes out result fs last (asked first more packed parts h) = on_through past (begun c) d bytes more result fs last h

  stays_honest : (c d : ClientState) (bytes out : List ℕ) (result : Result ℕ SessionFault) (fs last : List Frame) → Hears p c bytes out d result fs last → StaysHonest c (fs ++ last) d result
  stays_honest c d bytes out result fs last hears h m le agrees honest =
      let past : Past = past_of h (length h) in
      let t : Through past (begun c) d fs last result = through_of past c d bytes out result fs last hears in
      let all : AgreesThrough past (begun c) (told_all (fs ++ last)) = streams.honest_streams_agree changed_overlays h c m (told_all (fs ++ last)) le agrees honest in
      let at_end : AgreesThrough past d (told_all last) = subst (λ (s : ClientState). AgreesThrough past s (told_all last)) (sym t.ends) (through_all past (begun c) fs last all) in
      (agrees_first past d last at_end, t.clear at_end)

  -- ---- servers that don't change

  -- replies as pairs
  record Pairs (s : ServerState) (c : ClientState) (fs : List Frame) : Type 0 where
    pairs : List (ℕ × SomeReply)
    many : length pairs ≡ length fs
    answers : AnswersEach s c pairs

  pairs_of : (s : ServerState) (c : ClientState) (fs : List Frame) → AnswersAll s c fs → Pairs s c fs
  pairs_of s c [] h = record { pairs = []; many = refl; answers = tt }
  pairs_of s c (Push q ∷ fs) h = absurd h
  pairs_of s c (Reply n r ∷ fs) h =
      let rest : Pairs s (heard_frame c (told_reply n r)) fs = pairs_of s (heard_frame c (told_reply n r)) fs h.1 in
      record { pairs = (n, r) ∷ rest.pairs; many = omega (arith, rest.many); answers = (h.0, rest.answers) }

  stays_short : (c : ClientState) (fs : List Frame) → StaysShort c fs
  stays_short c fs h m agrees calm answers =
      let r : Pairs (past_of h m).server (begun c) fs = pairs_of (past_of h m).server (begun c) fs answers in
      subst (λ (n : ℕ). n ≤ most_frames (past_of h m) c) r.many (histories.frames_are_bounded changed_overlays h m c r.pairs agrees calm r.answers)

  pub honestly : (c d : ClientState) (bytes out : List ℕ) (result : Result ℕ SessionFault) (fs last : List Frame) → Hears p c bytes out d result fs last → HearsHonestly p c bytes out d result
  honestly c d bytes out result fs last hears = record { frames = fs; last = last; hears = hears; honest = stays_honest c d bytes out result fs last hears; short = stays_short c fs }

  -- ---- how a session begins

  -- memory ran out before anything was written
  pub begins_kept : (c d : ClientState) (l0 w0 : Option (List ℕ)) → d ≡ begun c → OverLink l0 w0 w0 (λ bytes out. HearsHonestly p c bytes out d (Err LinkFault))
  begins_kept c d None w0 is = tt
  begins_kept c d (Some bytes) None is = tt
  begins_kept c d (Some bytes) (Some before) is = ([], Appends-nil (Some before), honestly c d bytes [] (Err LinkFault) [] [] (broke_off refl (partly_none (SpellsCall p) (ticks (wakes c)).asks) is refl refl))

  -- the link failed
  pub begins_cut : (c d : ClientState) (l0 w0 w1 : Option (List ℕ)) (first : List ℕ) → d ≡ begun c → Packed (SpellsCall p) (ticks (wakes c)).asks first → AppendsPrefix w0 w1 first
      → OverLink l0 w0 w1 (λ bytes out. HearsHonestly p c bytes out d (Err LinkFault))
  begins_cut c d None w0 w1 first is packed wrote = tt
  begins_cut c d (Some bytes) None w1 first is packed wrote = tt
  begins_cut c d (Some bytes) (Some before) w1 first is packed (prefix, rest, whole, wrote) =
      (prefix, wrote, honestly c d bytes prefix (Err LinkFault) [] [] (broke_off refl (partly_of (SpellsCall p) (ticks (wakes c)).asks first prefix rest packed whole) is refl refl))

  -- all was asked, and then frames were heard
  pub begins : (c d : ClientState) (l0 w0 l1 w1 w2 : Option (List ℕ)) (first : List ℕ) (result : Result ℕ SessionFault) → Packed (SpellsCall p) (ticks (wakes c)).asks first → l0 ≡ l1 → Appends w0 w1 first
      → OverLink l1 w1 w2 (λ bytes out. (frames : List Frame) × (last : List Frame) × HearsOn p (begun c) bytes out d result frames last) → OverLink l0 w0 w2 (λ bytes out. HearsHonestly p c bytes out d result)
  begins c d None w0 l1 w1 w2 first result packed l wrote h = tt
  begins c d (Some bytes) None l1 w1 w2 first result packed l wrote h = tt
  begins c d (Some bytes) (Some before) None w1 w2 first result packed l wrote h = absurd cc
  begins c d (Some bytes) (Some before) (Some same) None w2 first result packed l wrote h = absurd wrote
  begins c d (Some bytes) (Some before) (Some same) (Some now) w2 first result packed l wrote (more, then_wrote, (fs, last, h)) =
      let is : same ≡ bytes = cc in (
        first ++ more,
        Appends-trans (Some before) (Some now) w2 first more wrote then_wrote,
        honestly c d bytes (first ++ more) result fs last (asked first more packed refl (subst (λ (b : List ℕ). HearsOn p (begun c) b more d result fs last) is h)),
      )

  -- ---- over a sound link

  told_of : (before : List ℕ) (now : Option (List ℕ)) (out : List ℕ) → Appends (Some before) now out → (after : List ℕ) × (now ≡ Some after) × (after ≡ before ++ out)
  told_of before None out h = absurd h
  told_of before (Some after) out h = (after, refl, h)

  pub first_never : (a : SourceState) (x y : SinkState) (c : ClientState) (first : List ℕ) (F : Type 0) → IsOne a x → Packed (SpellsCall p) (ticks (wakes c)).asks first → Wrote x y (length first) F → LinkNeverFails a x (MayAsk p c) F
  first_never a x y c first F one packed wrote bytes before from to sound room failed =
      let never : IfSome (Some before) (λ before. IsTrue x.sound → length before + length first ≤ x.room → F → ⊥) = subst (λ (o : Option (List ℕ)). IfSome o (λ before. IsTrue x.sound → length before + length first ≤ x.room → F → ⊥)) to wrote.never in
      never (subst (λ (v : Bool). IsTrue v) one.sound sound)
      (room first (record { first = first; more = []; asked = packed; parts = sym (append-nil first); then_asked = ([], bytes, begun c, exchanged_none (client_side p) (begun c) bytes, omega arith) })) failed

  pub begins_never : (a b : SourceState) (x y : SinkState) (c : ClientState) (first : List ℕ) (P F : Type 0) → Packed (SpellsCall p) (ticks (wakes c)).asks first → a.left ≡ b.left → Appends x.written y.written first → IsOne a x → IsOne b y → Wrote x y (length first) P
      → LinkNeverFails b y (MaySend (client_side p) (begun c)) F → LinkNeverFails a x (MayAsk p c) F
  begins_never a b x y c first P F packed left wrote old new uses never bytes before from to sound room failed =
      let told = told_of before y.written first (subst (λ (o : Option (List ℕ)). Appends o y.written first) to wrote) in
      let stays : IsTrue b.sound = subst (λ (v : Bool). IsTrue v) (sym new.sound) (uses.stays (subst (λ (o : Option (List ℕ)). IsSome o) (sym to) refl) (subst (λ (v : Bool). IsTrue v) old.sound sound)) in
      never bytes told.0 (sym left ∙ from) told.1 stays
      (λ more may. omega (arith, room (first ++ more) (record { first = first; more = more; asked = packed; parts = refl; then_asked = may }), uses.room_kept, ap length told.2, length-append before first, length-append first more))
      failed
