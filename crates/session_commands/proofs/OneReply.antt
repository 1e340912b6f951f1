-- What comes of a call is one.
use Rattle.std.proofs.Common.{◌≡◌, ℕ, zero, suc, List, [], ◌∷◌, ◌++◌, append-nil, append_assoc, length, sym, ap, ◌∙◌, subst, codes, arith}
use Rattle.tl_numbers.specs.Bytes.{AreBytes}
use Rattle.tl_numbers.specs.Numbers.{word}
use Rattle.tl_base.specs.Packets.{packet}
use Rattle.tl_types.specs.Values.{ValueView}
use Rattle.tl_types.specs.declared.value.TheConstants.{MAX_LEVELS}
use Rattle.tl_types.proofs.Exactly.{exactly_one}
use Rattle.tl_types.proofs.Numbers.{bytes_after}
use Rattle.box_events.specs.declared.replies.Frame.{Frame}
use Rattle.wire_profile.specs.declared.wire_fault.WireFault.{WireFault}
use Rattle.wire_profile.specs.Indexes.{ProfileView, cell_shape}
use Rattle.wire_profile.specs.Profiles.{IsProfile}
use Rattle.wire_values.specs.CarriedFrames.{IsFrame}
use Rattle.wire_values.specs.Frames.{frame_in, frame_tree}
use Rattle.box_wire.specs.Kinds.{frames}
use Rattle.box_wire.specs.Framing.{SpellsWhole, WireRefused}
use Rattle.box_wire.proofs.Exactly as exactly
use Rattle.box_wire.proofs.FrameLaws.{frame_formed, frame_laws}
use Rattle.update_sessions.specs.Packed.{MeansFrame}
use Rattle.schema_files.specs.Lines.{line_text}
use Rattle.fault_lines.specs.Messages.{wire_line}
use Rattle.fault_lines.specs.Packets.{packet_line}
use Rattle.session_commands.specs.Post.{Outcome, shows, peer, IsReplyTo, OfBody, no_frame, another, reply, OfLink, no_packet, packet_of}
use Rattle.session_commands.proofs.OnePacket.{never_packet, one_packet_fault, same_packet}

pub bytes_first : (x y : List ℕ) → AreBytes (x ++ y) → AreBytes x
bytes_first [] y are k = omega arith
bytes_first (a ∷ x) y are zero = are 0
bytes_first (a ∷ x) y are (suc k) = bytes_first x y (λ j. are (suc j)) k

-- a packet of bytes has bytes
pub body_bytes : (bytes body rest : List ℕ) → bytes ≡ packet body ++ rest → AreBytes bytes → AreBytes body
body_bytes bytes body rest is are = bytes_first body rest (bytes_after bytes (word (length body)) (body ++ rest) (is ∙ append_assoc (word (length body)) body rest) are)

module _ (p : ProfileView) (good : IsProfile p) (n : ℕ) where
  module _ (body : List ℕ) (are : AreBytes body) where
    one_frame : (f g : Frame) → MeansFrame p f body → MeansFrame p g body → f ≡ g
    one_frame f g h k = exactly.one_message p good frames (frame_formed p good) body are frame_tree frame_in IsFrame frame_laws f g h.0 k.0 h.1 k.1

    never_frame : (f : Frame) (e : WireFault) → MeansFrame p f body → WireRefused p frames body e → ⊥
    never_frame f e h r = exactly.never_both p good frames (frame_formed p good) body are (frame_tree f) h.1 e r

    one_cause : (d e : WireFault) → WireRefused p frames body d → WireRefused p frames body e → d ≡ e
    one_cause d e r s = exactly.one_fault p good frames (frame_formed p good) body are d e r s

    one_value : (v w : ValueView) → SpellsWhole p frames v body → SpellsWhole p frames w body → v ≡ w
    one_value v w s r =
        ((exactly_one p.schema good.schema MAX_LEVELS (cell_shape p frames.cell) body (frame_formed p good) are).one_value v w body body ([], sym (append-nil body), s.0, s.1) ([], sym (append-nil body), r.0, r.1)).0

    pub one_body : (o q : Outcome) → OfBody p n body o → OfBody p n body q → o ≡ q
    one_body o q (no_frame d r is) (no_frame e s at) = is ∙ ap (λ (x : WireFault). peer (wire_line (codes "peer") x)) (one_cause d e r s) ∙ sym at
    one_body o q (no_frame d r is) (another g m not at) = absurd (never_frame g d m r)
    one_body o q (no_frame d r is) (reply g w m to s at) = absurd (never_frame g d m r)
    one_body o q (another f m not is) (no_frame e s at) = absurd (never_frame f e m s)
    one_body o q (another f m not is) (another g h never at) = is ∙ sym at
    one_body o q (another f m not is) (reply g w h to s at) = absurd (not (subst (IsReplyTo n) (one_frame g f h m) to))
    one_body o q (reply f v m to s is) (no_frame e r at) = absurd (never_frame f e m r)
    one_body o q (reply f v m to s is) (another g h not at) = absurd (not (subst (IsReplyTo n) (one_frame f g m h) to))
    one_body o q (reply f v m to s is) (reply g w h too r at) = is ∙ ap (λ (x : ValueView). shows (line_text p.schema.decls (cell_shape p frames.cell) x)) (one_value v w s r) ∙ sym at

  module _ (bytes : List ℕ) (are : AreBytes bytes) where
    pub one_link : (o q : Outcome) → OfLink p n bytes o → OfLink p n bytes q → o ≡ q
    one_link o q (no_packet d k r few tells is) (no_packet e l s less says at) = is ∙ ap peer (sym tells ∙ ap packet_line (one_packet_fault bytes d e r s few less) ∙ says) ∙ sym at
    one_link o q (no_packet d k r few tells is) (packet_of body rest fits parts h) = absurd (never_packet bytes body rest d r few fits parts)
    one_link o q (packet_of body rest fits parts h) (no_packet e l s less says at) = absurd (never_packet bytes body rest e s less fits parts)
    one_link o q (packet_of body rest fits parts h) (packet_of other more also split k) =
        let same : other ≡ body = same_packet other body more rest also fits (sym split ∙ parts) in
        one_body body (body_bytes bytes body rest parts are) o q h (subst (λ (x : List ℕ). OfBody p n x q) same k)
