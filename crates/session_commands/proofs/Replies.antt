-- The line of what comes back.
use Rattle.std.proofs.Common.{◌≡◌, ℕ, List, length, Bool, true, false, true≢false, Some, Result, Ok, Err, Vec, Global, codes, refl, sym, ap, ap₂, ◌∙◌, subst}
use Rattle.std.specs.Prelude.{◌<◌, ◌↔◌, IfOk, IsTrue, slice_get}
use Rattle.std.proofs.lemmas.Option.{slice_get_within}
use Rattle.std.specs.declared.alloc.AllocError.{AllocError}
use Rattle.tl_schema.specs.Schemas.{Declared, Declaration}
use Rattle.tl_types.specs.Values.{ValueView}
use Rattle.tl_base.specs.declared.fault.Fault.{Fault}
use Rattle.tl_base.specs.declared.fault.Fault.TheVariants as frame_fault
use Rattle.box_events.specs.declared.replies.Frame.{Frame}
use Rattle.wire_forms.specs.Forms.{constructs, forms}
use Rattle.wire_forms.specs.declared.numbers.TheConstants.{FRAME_TYPE, PUSH}
use Rattle.wire_profile.specs.declared.wire_fault.WireFault.{WireFault}
use Rattle.wire_profile.specs.Indexes.{ProfileView, cell_shape, number_at}
use Rattle.wire_profile.specs.Profiles.{IsProfile}
use Rattle.wire_profile.proofs.FormTable.{member_form}
use Rattle.wire_profile.proofs.ProfileFacts.{is_member}
use Rattle.box_wire.specs.Kinds.{frames}
use Rattle.box_wire.specs.Framing.{SpellsWhole, WireRefused}
use Rattle.box_wire.specs.FramesRead.{ReadsFrame}
use Rattle.update_sessions.specs.Packed.{MeansFrame}
use Rattle.outside.specs.Loading.{PeerAs, PeerBy}
use Rattle.outside.specs.declared.stop.Stop.{Stop}
use Rattle.outside.specs.declared.stop.Stop.TheVariants as stop
use Rattle.schema_files.specs.Lines.{line_text}
use Rattle.fault_lines.specs.Messages.{wire_line}
use Rattle.session_commands.specs.Lines.{wrong_reply_line}
use Rattle.session_commands.specs.Post.{shows, peer, IsReplyTo, OfBody, no_frame, another, reply}
use Rattle.session_commands.specs.inner.Posting.{GivesLine, TellsNoFrame}

-- ---- what the other end did wrong

peer_gives : (p : ProfileView) (n : ℕ) (body text : List ℕ) (s : Stop) → OfBody p n body (peer text) → PeerAs text s → GivesLine p n body (Err s)
peer_gives p n body text (stop.Peer line) is tells = subst (λ (t : List ℕ). OfBody p n body (peer t)) (sym tells) is
peer_gives p n body text stop.Memory is tells = tt
peer_gives p n body text (stop.Refused line) is tells = tells
peer_gives p n body text stop.ReadFault is tells = tells
peer_gives p n body text stop.WriteFault is tells = tells
peer_gives p n body text stop.LinkFault is tells = tells

pub wrong_gives : (p : ProfileView) (n : ℕ) (body : List ℕ) (f : Frame) (s : Stop) → MeansFrame p f body → (IsReplyTo n f → ⊥) → PeerAs wrong_reply_line s → GivesLine p n body (Err s)
wrong_gives p n body f s means not tells = peer_gives p n body wrong_reply_line s (another f means not refl) tells

fault_gives : (p : ProfileView) (n : ℕ) (body : List ℕ) (fault : WireFault) (s : Stop) → WireRefused p frames body fault → PeerAs (wire_line (codes "peer") fault) s → GivesLine p n body (Err s)
fault_gives p n body fault s refused tells = peer_gives p n body (wire_line (codes "peer") fault) s (no_frame fault refused refl) tells

pub none_gives : (p : ProfileView) (n : ℕ) (body : List ℕ) (fault : Fault WireFault) (s : Stop) → ReadsFrame p body (Err fault) → TellsNoFrame fault s → GivesLine p n body (Err s)
none_gives p n body (frame_fault.Refused cause) s reads tells = fault_gives p n body cause s reads.told tells
none_gives p n body frame_fault.Memory s reads is = subst (λ (t : Stop). GivesLine p n body (Err t)) (sym is) tt

pub peer_told : (text : List ℕ) (line : Result (Vec ℕ Global) AllocError) (s : Stop) → IfOk line (λ l. l.items ≡ text) → PeerBy line s → PeerAs text s
peer_told text (Ok line) s tells is = subst (PeerAs text) (sym is) tells
peer_told text (Err e) s tells is = subst (PeerAs text) (sym is) tt

pub not_reply : (b : Bool) (P : Type 0) → (IsTrue b ↔ P) → b ≡ false → P → ⊥
not_reply b P is none p = true≢false (sym (is.1 p) ∙ none)

pub is_reply : (b : Bool) (P : Type 0) → (IsTrue b ↔ P) → b ≡ true → P
is_reply b P is holds = is.0 holds

-- ---- the reply

pub reply_gives : (p : ProfileView) (n : ℕ) (body : List ℕ) (f : Frame) (v : ValueView) (line : Vec ℕ Global) → MeansFrame p f body → IsReplyTo n f
    → SpellsWhole p frames v body → line.items ≡ line_text p.schema.decls (cell_shape p frames.cell) v → GivesLine p n body (Ok line)
reply_gives p n body f v line means to spelled is = reply f v means to spelled (ap shows is)

-- ---- the type of frames

made : constructs FRAME_TYPE PUSH ≡ true
unfolding forms
made = refl

-- the declaration of a push
record PushAt (p : ProfileView) : Type 0 where
  d : Declaration
  there : slice_get p.schema.decls (number_at p.indexes PUSH) ≡ Some d
  head : d.head ≡ number_at p.heads FRAME_TYPE

push_at : (p : ProfileView) → IsProfile p → PushAt p
push_at p good = let f = member_form FRAME_TYPE PUSH made in let m = is_member p good FRAME_TYPE PUSH f.0 f.1 in record { d = m.0; there = m.1.there; head = m.1.head }

some_is : {A : Type 0} (x y : A) → Some x ≡ Some y → x ≡ y
some_is x y e = cc

pub push_there : (p : ProfileView) → IsProfile p → (d : Declaration) × (slice_get p.schema.decls (number_at p.indexes PUSH) ≡ Some d)
push_there p good = let h = push_at p good in (h.d, h.there)

pub push_within : (p : ProfileView) → IsProfile p → (S : Declared) (k : ℕ) → S ≡ p.schema → k ≡ number_at p.indexes PUSH → k < length S.decls
push_within p good S k same at =
    let h = push_there p good in
    slice_get_within S.decls k h.0 (ap₂ (λ (X : Declared) (i : ℕ). slice_get X.decls i) same at ∙ h.1)

pub head_is : (p : ProfileView) → IsProfile p → (S : Declared) (k : ℕ) (d : Declaration) → S ≡ p.schema → k ≡ number_at p.indexes PUSH → slice_get S.decls k ≡ Some d → d.head ≡ number_at p.heads FRAME_TYPE
head_is p good S k d same at there =
    let h = push_at p good in
    let here : slice_get p.schema.decls (number_at p.indexes PUSH) ≡ Some d = sym (ap₂ (λ (X : Declared) (i : ℕ). slice_get X.decls i) same at) ∙ there in
    ap (λ (x : Declaration). x.head) (some_is d h.d (sym here ∙ h.there)) ∙ h.head
