-- Steps of a client's session.
use Rattle.std.proofs.Common.{◌≡◌, inr, ℕ, ◌<◌, ◌≤◌, List, [], ◌∷◌, ◌++◌, length, true, false, Option, Some, None, Ok, Err, refl, sym, ap, ◌∙◌, subst, arith}
use Rattle.std.specs.Prelude.{IfSome}
use Rattle.std.specs.Io.KnownBytes.{Appends}
use Rattle.tl_base.specs.Writing.{AppendsPrefix}
use Rattle.box_events.specs.declared.replies.Frame.{Frame}
use Rattle.box_events.specs.declared.replies.Frame.TheVariants.{Push, Reply}
use Rattle.box_events.specs.declared.replies.Reply.{Reply as SomeReply}
use Rattle.box_client.specs.States.{ClientState}
use Rattle.box_client.specs.Asking.{ticks, is_one_asking}
use Rattle.box_client.specs.Calls.{Answers}
use Rattle.box_client.specs.Laws.{next_after}
use Rattle.box_client.specs.Replies.{Outcome, ignored, refuses, becomes, replied}
use Rattle.box_client.specs.declared.fault.ClientFault.{ClientFault}
use Rattle.tl_base.specs.declared.fault.Fault.{Fault}
use Rattle.tl_base.specs.declared.fault.Fault.TheVariants as fault
use Rattle.box_client.proofs.GivenOnce.{pushed_next, replied_next}
use Rattle.box_world.specs.Worlds.{after_reply}
use Rattle.wire_profile.specs.Indexes.{ProfileView}
use Rattle.box_wire.specs.Framing.{WireRefused}
use Rattle.box_wire.specs.Kinds.{frames}
use Rattle.update_sessions.specs.declared.fault.SessionFault.{SessionFault}
use Rattle.update_sessions.specs.declared.fault.SessionFault.TheVariants.{Packet, Wire, Client, TooManyFrames, LinkFault}
use Rattle.update_sessions.specs.declared.fault.TheConstants.{MAX_FRAMES}
use Rattle.update_sessions.specs.Exchanges.{Exchanged}
use Rattle.update_sessions.specs.Faults.{fault_as, of_client}
use Rattle.update_sessions.specs.Heard.{HearsOn, RefusedFrame, StillAsks}
use Rattle.update_sessions.specs.Hearing.{IsTaken, cause_in, client_side, hears}
use Rattle.update_sessions.specs.Links.{OverLink}
use Rattle.update_sessions.specs.Packed.{MeansFrame, Packed, SpellsCall}
use Rattle.update_sessions.specs.Receiving.{Receives, ComesFirst}
use Rattle.update_sessions.specs.inner.Steps.{HearsFrame, BreaksOff, SoMany, HearsNone, HearsNext, Unmoved}
use Rattle.update_sessions.proofs.Exchanging.{cut_none, exchanged_still}
use Rattle.update_sessions.proofs.Stepping.{over_as, over_same, over_then, over_now, step_done, step_cut, step_kept}

-- ---- a frame

pub refused_reply : (c d : ClientState) (n : ℕ) (r : SomeReply) (e : Fault ClientFault) → Answers c (replied c n r) (Err e) d → HearsFrame c (Reply n r) (Err e) d
refused_reply c d n r (fault.Refused cause) h = (ap cause_in h.0, h.1)
refused_reply c d n r fault.Memory h = h.1

-- the next number stays
after_next : (c : ClientState) (o : Outcome) → next_after c o ≡ c.next → (after_reply c o).next ≡ c.next
after_next c ignored e = e
after_next c (refuses cause) e = e
after_next c (becomes d) e = e

pub hears_next : (c : ClientState) (f : Frame) → (hears c f).next ≡ c.next
hears_next c (Push p) = pushed_next c p
hears_next c (Reply n r) = after_next c (replied c n r) (replied_next c n r)

pub next_ok : (c d : ClientState) (f : Frame) → d ≡ hears c f → d.next ≡ c.next
next_ok c d f is = ap (λ (x : ClientState). x.next) is ∙ hears_next c f

module _ (p : ProfileView) where
  -- ---- one step

  none_by : (c : ClientState) (bytes : List ℕ) (after : Option (List ℕ)) (fault : SessionFault) → Receives (MeansFrame p) (WireRefused p frames) bytes after (Err fault) → HearsNone p c bytes [] c fault
  none_by c bytes after (Packet f) h = ((refl, refl), inr h)
  none_by c bytes after (Wire f) h = ((refl, refl), h)
  none_by c bytes after (Client f) h = absurd h
  none_by c bytes after TooManyFrames h = h
  none_by c bytes after LinkFault h = ([], (omega arith, cut_none (client_side p) c c bytes refl))

  if_none : (c : ClientState) (l0 l1 : Option (List ℕ)) (fault : SessionFault) → IfSome l0 (λ bytes. Receives (MeansFrame p) (WireRefused p frames) bytes l1 (Err fault)) → IfSome l0 (λ bytes. HearsNone p c bytes [] c fault)
  if_none c None l1 fault h = tt
  if_none c (Some bytes) l1 fault h = none_by c bytes l1 fault h

  -- no frame was received
  pub next_none : (c : ClientState) (l0 w0 l1 w1 : Option (List ℕ)) (fault : SessionFault) → IfSome l0 (λ bytes. Receives (MeansFrame p) (WireRefused p frames) bytes l1 (Err fault)) → w0 ≡ w1 → HearsNext p c l0 w0 l1 w1 c (Err fault)
  next_none c l0 w0 l1 w1 fault h w = over_same l0 w0 w1 (λ bytes out. HearsNone p c bytes out c fault) w (if_none c l0 l1 fault h)

  -- a frame was received, and is refused
  refused_one : (c d : ClientState) (f : Frame) (e : Fault ClientFault) (bytes rest : List ℕ) → ComesFirst (MeansFrame p) f bytes rest → HearsFrame c f (Err e) d → HearsNone p c bytes [] d (fault_as (of_client e))
  refused_one c d f (fault.Refused cause) bytes rest comes h = (f, (refl, h.1), record { rest = rest; comes = comes; refuses = h.0 })
  refused_one c d f fault.Memory bytes rest comes h = ([], (omega arith, cut_none (client_side p) c d bytes h))

  if_refused : (c d : ClientState) (f : Frame) (e : Fault ClientFault) (l0 l1 : Option (List ℕ)) → IfSome l0 (λ bytes. Receives (MeansFrame p) (WireRefused p frames) bytes l1 (Ok (Some f))) → HearsFrame c f (Err e) d
      → IfSome l0 (λ bytes. HearsNone p c bytes [] d (fault_as (of_client e)))
  if_refused c d f e None l1 r h = tt
  if_refused c d f e (Some bytes) l1 r h = refused_one c d f e bytes r.0 r.1 h

  pub next_refused : (c d : ClientState) (f : Frame) (e : Fault ClientFault) (l0 w0 l1 w1 : Option (List ℕ)) → IfSome l0 (λ bytes. Receives (MeansFrame p) (WireRefused p frames) bytes l1 (Ok (Some f))) → w0 ≡ w1 → HearsFrame c f (Err e) d
      → HearsNext p c l0 w0 l1 w1 d (Err (fault_as (of_client e)))
  next_refused c d f e l0 w0 l1 w1 r w h = over_same l0 w0 w1 (λ bytes out. HearsNone p c bytes out d (fault_as (of_client e))) w (if_refused c d f e l0 l1 r h)

  -- a frame was received and taken, and then
  module _ (c d e : ClientState) (f : Frame) (out : List ℕ) (asking : is_one_asking c ≡ true) (heard : HearsFrame c f (Ok tt) d) (asks : e ≡ (ticks d).client) where
    ends : e ≡ (ticks (hears c f)).client
    ends = asks ∙ ap (λ (x : ClientState). (ticks x).client) heard.1

    pub sent : Packed (SpellsCall p) (ticks d).asks out → Packed (SpellsCall p) (ticks (hears c f)).asks out
    sent packed = subst (λ (x : ClientState). Packed (SpellsCall p) (ticks x).asks out) heard.1 packed

    pub takes : IsTaken c f
    takes = record { asking = asking; clear = heard.0 }

    pub after : e ≡ (ticks (hears c f)).client
    after = ends

    -- memory ran out
    pub next_kept_off : (l0 w0 l1 w1 : Option (List ℕ)) → IfSome l0 (λ bytes. Receives (MeansFrame p) (WireRefused p frames) bytes l1 (Ok (Some f))) → w0 ≡ w1 → HearsNext p c l0 w0 l1 w1 e (Err LinkFault)
    next_kept_off l0 w0 l1 w1 r w = over_as l0 w0 w1 (λ bytes y. BreaksOff (client_side p) c bytes y e (f ∷ [])) (λ bytes y. (fs : List Frame) × BreaksOff (client_side p) c bytes y e fs) (λ bytes y h. (f ∷ [], h)) (step_kept (client_side p) (WireRefused p frames) c e f out takes l0 w0 l1 w1 r w ends)

    -- the link failed
    pub next_cut : (l0 w0 l1 w1 l2 w2 : Option (List ℕ)) → IfSome l0 (λ bytes. Receives (MeansFrame p) (WireRefused p frames) bytes l1 (Ok (Some f))) → w0 ≡ w1 → Packed (SpellsCall p) (ticks d).asks out → AppendsPrefix w1 w2 out
        → HearsNext p c l0 w0 l2 w2 e (Err LinkFault)
    next_cut l0 w0 l1 w1 l2 w2 r w packed wrote = over_as l0 w0 w2 (λ bytes y. BreaksOff (client_side p) c bytes y e (f ∷ [])) (λ bytes y. (fs : List Frame) × BreaksOff (client_side p) c bytes y e fs) (λ bytes y h. (f ∷ [], h)) (step_cut (client_side p) (WireRefused p frames) c e f out takes l0 w0 l1 w1 w2 r w (sent packed) ends wrote)

    -- all was written
    pub next_done : (l0 w0 l1 w1 l2 w2 : Option (List ℕ)) → IfSome l0 (λ bytes. Receives (MeansFrame p) (WireRefused p frames) bytes l1 (Ok (Some f))) → w0 ≡ w1 → Packed (SpellsCall p) (ticks d).asks out → l1 ≡ l2 → Appends w1 w2 out
        → HearsNext p c l0 w0 l2 w2 e (Ok tt)
    next_done l0 w0 l1 w1 l2 w2 r w packed l wrote = (f ∷ [], refl, step_done (client_side p) (WireRefused p frames) c e f out takes l0 w0 l1 w1 l2 w2 r w (sent packed) ends l wrote)

  -- ---- how a session ends

  still : (c u d : ClientState) (n : ℕ) (bytes mid x y : List ℕ) (fs : List Frame) → n < MAX_FRAMES → is_one_asking u ≡ true → Exchanged (client_side p) c bytes mid x u fs → length fs ≡ n → Unmoved u y d → StillAsks p c bytes mid (x ++ y) d fs
  still c u d n bytes mid x y fs lt asking ex len h =
      record {
        exchanged = exchanged_still (client_side p) c u d bytes mid x y fs ex h.0 h.1;
        asking = subst (λ (s : ClientState). is_one_asking s ≡ true) (sym h.1) asking;
        few = omega (arith, len, lt);
      }

  stopped : (c u d : ClientState) (n : ℕ) (bytes mid x y : List ℕ) (fs : List Frame) (fault : SessionFault) → n < MAX_FRAMES → is_one_asking u ≡ true → Exchanged (client_side p) c bytes mid x u fs → length fs ≡ n → HearsNone p u mid y d fault
      → (frames : List Frame) × (last : List Frame) × HearsOn p c bytes (x ++ y) d (Err fault) frames last
  stopped c u d n bytes mid x y fs (Packet f) lt asking ex len h = (fs, [], (mid, still c u d n bytes mid x y fs lt asking ex len h.0, h.1, refl))
  stopped c u d n bytes mid x y fs (Wire f) lt asking ex len h = (fs, [], (mid, still c u d n bytes mid x y fs lt asking ex len h.0, h.1, refl))
  stopped c u d n bytes mid x y fs (Client f) lt asking ex len h =
      (fs, h.0 ∷ [], (mid, h.0, still c u d n bytes mid x y fs lt asking ex len h.1, subst (λ (s : ClientState). RefusedFrame p s mid h.0 f) (sym h.1.1) h.2, refl))
  stopped c u d n bytes mid x y fs TooManyFrames lt asking ex len h = absurd h
  stopped c u d n bytes mid x y fs LinkFault lt asking ex len h =
      (fs ++ h.0, [], (record { first = fs; last = h.0; all = refl; few = omega (arith, len, lt); one = h.1.0; between = u; rest = mid; wrote = x; part = y; out_is = refl; exchanged = ex; cut = h.1.1 }, refl))

  pub hears_stopped : (c u d : ClientState) (n : ℕ) (l0 w0 l1 w1 l2 w2 : Option (List ℕ)) (fault : SessionFault) → n < MAX_FRAMES → is_one_asking u ≡ true → SoMany (client_side p) c n l0 w0 l1 w1 u → HearsNext p u l1 w1 l2 w2 d (Err fault)
      → OverLink l0 w0 w2 (λ bytes out. (frames : List Frame) × (last : List Frame) × HearsOn p c bytes out d (Err fault) frames last)
  hears_stopped c u d n l0 w0 l1 w1 l2 w2 fault lt asking so step =
      over_then (client_side p) c u so.0 l0 w0 l1 w1 w2 (λ bytes out. HearsNone p u bytes out d fault) (λ bytes out. (frames : List Frame) × (last : List Frame) × HearsOn p c bytes out d (Err fault) frames last) so.2 step
      (λ bytes mid x y ex h. stopped c u d n bytes mid x y so.0 fault lt asking ex so.1 h)

  pub hears_done : (c d : ClientState) (n : ℕ) (l0 w0 l1 w1 : Option (List ℕ)) → n ≤ MAX_FRAMES → is_one_asking d ≡ false → SoMany (client_side p) c n l0 w0 l1 w1 d
      → OverLink l0 w0 w1 (λ bytes out. (frames : List Frame) × (last : List Frame) × HearsOn p c bytes out d (Ok n) frames last)
  hears_done c d n l0 w0 l1 w1 le asks so =
      over_now (client_side p) c d so.0 l0 w0 l1 w1 (λ bytes out. (frames : List Frame) × (last : List Frame) × HearsOn p c bytes out d (Ok n) frames last) so.2 (λ bytes mid x ex. (so.0, [], (mid, ex, asks, sym so.1, le, refl)))

  pub hears_full : (c d : ClientState) (n : ℕ) (l0 w0 l1 w1 : Option (List ℕ)) → n ≡ MAX_FRAMES → is_one_asking d ≡ true → SoMany (client_side p) c n l0 w0 l1 w1 d
      → OverLink l0 w0 w1 (λ bytes out. (frames : List Frame) × (last : List Frame) × HearsOn p c bytes out d (Err TooManyFrames) frames last)
  hears_full c d n l0 w0 l1 w1 is asks so =
      over_now (client_side p) c d so.0 l0 w0 l1 w1 (λ bytes out. (frames : List Frame) × (last : List Frame) × HearsOn p c bytes out d (Err TooManyFrames) frames last) so.2
      (λ bytes mid x ex. (so.0, [], (mid, ex, asks, so.1 ∙ is, refl)))
