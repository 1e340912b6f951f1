-- How a message is received: a packet, and what its bytes mean.
use Rattle.std.proofs.Common.{◌≡◌, ℕ, List, ◌++◌, length, true, false, Option, Some, None, Result, Ok, Err, refl, sym, ◌∙◌, subst}
use Rattle.std.specs.Prelude.{IfSome}
use Rattle.tl_base.specs.Packets.{IsPacketLength, ReadsPacket, PacketInto, packet}
use Rattle.tl_base.specs.declared.packet.PacketFault.{PacketFault}
use Rattle.tl_base.specs.declared.packet.PacketFault.TheVariants as packets
use Rattle.tl_base.specs.declared.packet.PacketCause.TheVariants.{BadLength, Ended}
use Rattle.wire_profile.specs.declared.wire_fault.WireFault.{WireFault}
use Rattle.box_wire.specs.Answers.{HasCause}
use Rattle.tl_base.specs.declared.fault.Fault.{Fault}
use Rattle.tl_base.specs.declared.fault.Fault.TheVariants as fault
use Rattle.box_events.specs.declared.replies.Frame.{Frame}
use Rattle.wire_profile.specs.Indexes.{ProfileView}
use Rattle.wire_profile.specs.Profiles.{IsProfile}
use Rattle.box_world.specs.Fitting.{IsHearable}
use Rattle.box_world.proofs.ReadFrames.{frames_taken}
use Rattle.update_sessions.specs.declared.fault.SessionFault.{SessionFault}
use Rattle.update_sessions.specs.declared.fault.SessionFault.TheVariants.{LinkFault, Wire}
use Rattle.update_sessions.specs.declared.storing.StoreSession.{StoreSession}
use Rattle.update_sessions.specs.declared.storing.StoreSession.TheVariants.{Session}
use Rattle.update_sessions.specs.Faults.{fault_as, of_packet, of_wire}
use Rattle.update_sessions.specs.Packed.{MeansFrame}
use Rattle.update_sessions.specs.Receiving.{Receives}
use Rattle.update_sessions.specs.inner.StoreSteps.{of_session}

module _ {M : Type 0} (MeansIt : M → List ℕ → Type 0) (Refused : List ℕ → WireFault → Type 0) where
  -- no packet comes
  pub no_packet : (a b : Option (List ℕ)) (into : List ℕ) (fault : PacketFault) → IfSome a (λ bytes. ReadsPacket bytes b into (Err fault)) → PacketInto into (Err fault) → IfSome a (λ bytes. Receives {M = M} MeansIt Refused bytes b (Err (fault_as (of_packet fault))))
  no_packet None b into fault h g = tt
  no_packet (Some x) None into (packets.Refused (BadLength n)) h g = absurd h
  no_packet (Some x) (Some y) into (packets.Refused (BadLength n)) h g = (y, h, g.1)
  no_packet (Some x) b into (packets.Refused (Ended had)) h g = (h.0, g.1, h.1)
  no_packet (Some x) b into packets.ReadFault h g = tt
  no_packet (Some x) b into packets.Memory h g = tt

  -- the bytes have ended
  pub no_more : (a b : Option (List ℕ)) (into : List ℕ) → IfSome a (λ bytes. ReadsPacket bytes b into (Ok false)) → IfSome a (λ bytes. Receives {M = M} MeansIt Refused bytes b (Ok None))
  no_more None b into h = tt
  no_more (Some x) b into h = h.0

  -- a packet is refused, or memory runs out
  refused_by : (x y into : List ℕ) (e : Fault WireFault) → IsPacketLength (length into) → x ≡ packet into ++ y → HasCause (Refused into) e → Receives {M = M} MeansIt Refused x (Some y) (Err (fault_as (of_wire e)))
  refused_by x y into (fault.Refused cause) fits is r = record { body = into; rest = y; fits = fits; parts = is; refused = r }
  refused_by x y into fault.Memory fits is r = tt

  pub no_message : (a b : Option (List ℕ)) (into : List ℕ) (e : Fault WireFault) → IfSome a (λ bytes. ReadsPacket bytes b into (Ok true)) → IsPacketLength (length into) → HasCause (Refused into) e
      → IfSome a (λ bytes. Receives {M = M} MeansIt Refused bytes b (Err (fault_as (of_wire e))))
  no_message None b into e h fits r = tt
  no_message (Some x) None into e h fits r = absurd h
  no_message (Some x) (Some y) into e h fits r = refused_by x y into e fits h r

  pub message : (a b : Option (List ℕ)) (into : List ℕ) (m : M) → IfSome a (λ bytes. ReadsPacket bytes b into (Ok true)) → IsPacketLength (length into) → MeansIt m into → IfSome a (λ bytes. Receives MeansIt Refused bytes b (Ok (Some m)))
  message None b into m h fits means = tt
  message (Some x) None into m h fits means = absurd h
  message (Some x) (Some y) into m h fits means = (y, record { body = into; fits = fits; parts = h; means = means }, refl)

  pub refused_message : (a b : Option (List ℕ)) (into : List ℕ) (fault : WireFault) → IfSome a (λ bytes. ReadsPacket bytes b into (Ok true)) → IsPacketLength (length into) → Refused into fault → IfSome a (λ bytes. Receives {M = M} MeansIt Refused bytes b (Err (Wire fault)))
  refused_message None b into fault h fits r = tt
  refused_message (Some x) None into fault h fits r = absurd h
  refused_message (Some x) (Some y) into fault h fits r = record { body = into; rest = y; fits = fits; parts = h; refused = r }

  -- a packet was read; of its bytes this is said
  module _ (a b : Option (List ℕ)) (into slice : List ℕ) (read : IfSome a (λ bytes. ReadsPacket bytes b into (Ok true))) (fits : IsPacketLength (length into)) (same : slice ≡ into) where
    pub meant : (m : M) → MeansIt m slice → IfSome a (λ bytes. Receives MeansIt Refused bytes b (Ok (Some m)))
    meant m means = message a b into m read fits (subst (MeansIt m) same means)

    pub refused : (e : Fault WireFault) → HasCause (Refused slice) e → IfSome a (λ bytes. Receives {M = M} MeansIt Refused bytes b (Err (fault_as (of_wire e))))
    refused e told = no_message a b into e read fits (subst (λ (l : List ℕ). HasCause (Refused l) e) same told)

-- a link fault is one of the packet
packet_failed : (x : PacketFault) → of_packet x ≡ fault.Refused LinkFault → x ≡ packets.ReadFault
packet_failed (packets.Refused cause) e = absurd cc
packet_failed packets.ReadFault e = refl
packet_failed packets.Memory e = absurd cc

stores_link : (e : Fault SessionFault) → of_session e ≡ Session LinkFault → e ≡ fault.Refused LinkFault
stores_link (fault.Refused f) is = cc
stores_link fault.Memory is = absurd cc

pub packet_link_failed : {A : Type 0} (r : Result A PacketFault) (x : PacketFault) (y : Fault SessionFault) (z : StoreSession) → r ≡ Err x → y ≡ of_packet x → z ≡ of_session y → z ≡ Session LinkFault → r ≡ Err packets.ReadFault
packet_link_failed {A} r x y z is of so failed =
    let same : x ≡ packets.ReadFault = packet_failed x (sym of ∙ stores_link y (sym so ∙ failed)) in
    cc

-- a frame that was read is one that a client takes
pub hearable : (p : ProfileView) → IsProfile p → (f : Frame) (b : List ℕ) → MeansFrame p f b → IsHearable f
hearable p good f b m = frames_taken p good f b m.0 m.1
