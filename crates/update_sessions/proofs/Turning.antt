-- What a client makes of one packet.
use Rattle.std.proofs.Common.{◌≡◌, ℕ, List, true, Ok, Err, refl, ap, ◌∙◌, subst}
use Rattle.box_events.specs.declared.replies.Frame.{Frame}
use Rattle.box_client.specs.States.{ClientState}
use Rattle.box_client.specs.Asking.{ticks, is_one_asking}
use Rattle.box_client.specs.declared.fault.ClientFault.{ClientFault}
use Rattle.wire_profile.specs.declared.wire_fault.WireFault.{WireFault}
use Rattle.wire_profile.specs.Indexes.{ProfileView}
use Rattle.box_wire.specs.Answers.{HasCause}
use Rattle.box_wire.specs.Framing.{WireRefused}
use Rattle.box_wire.specs.Kinds.{frames}
use Rattle.tl_base.specs.declared.fault.Fault.{Fault}
use Rattle.tl_base.specs.declared.fault.Fault.TheVariants as fault
use Rattle.update_sessions.specs.Faults.{of_client, of_wire}
use Rattle.update_sessions.specs.Packed.{MeansFrame, Packed, SpellsCall}
use Rattle.update_sessions.specs.Turns.{HearsPacket}
use Rattle.update_sessions.specs.inner.Steps.{HearsFrame}

module _ (p : ProfileView) (c : ClientState) (bytes out : List ℕ) where
  -- the bytes are no frame
  pub turn_unread : (e : Fault WireFault) → HasCause (WireRefused p frames bytes) e → HearsPacket p c bytes out c (Err (of_wire e))
  turn_unread (fault.Refused cause) r = (r, refl)
  turn_unread fault.Memory r = tt

  module _ (f : Frame) (means : MeansFrame p f bytes) where
    -- the frame is refused
    pub turn_refused : (d : ClientState) (e : Fault ClientFault) → HearsFrame c f (Err e) d → HearsPacket p c bytes out d (Err (of_client e))
    turn_refused d (fault.Refused cause) h = (record { frame = f; means = means; refuses = h.0 }, h.1)
    turn_refused d fault.Memory h = tt

    -- it is taken, and what is due then is asked
    pub turned : (d e : ClientState) → is_one_asking c ≡ true → HearsFrame c f (Ok tt) d → e ≡ (ticks d).client → Packed (SpellsCall p) (ticks d).asks out → HearsPacket p c bytes out e (Ok tt)
    turned d e asking heard asks packed = record {
      message = f;
      means = means;
      taken = record { asking = asking; clear = heard.0 };
      sent = subst (λ (x : ClientState). Packed (SpellsCall p) (ticks x).asks out) heard.1 packed;
      ends = asks ∙ ap (λ (x : ClientState). (ticks x).client) heard.1;
    }
