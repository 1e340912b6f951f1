-- What is spelled of messages that aren't too long.
use Rattle.std.proofs.Common.{◌≡◌, inl, inr, ℕ, ◌+◌, ◌≤◌, List, [], ◌∷◌, ◌++◌, length, take, slice_get, Some, Result, Ok, Err, sym, ap, ◌∙◌, subst, arith}
use Rattle.std.specs.Prelude.{OnOk, ⊤}
use Rattle.std.specs.List.{All}
use Rattle.std.proofs.lemmas.List.{take_more}
use Rattle.std.proofs.lemmas.Option.{slice_get_within, get_or_from_slice_get}
use Rattle.tl_base.specs.Packets.{packet}
use Rattle.box_events.specs.declared.limits.TheConstants.{MAX_ASKS, MAX_FRAME_BYTES}
use Rattle.box_events.specs.declared.replies.Frame.{Frame}
use Rattle.box_events.specs.declared.requests.Numbered.{Numbered}
use Rattle.box_client.specs.States.{ClientState}
use Rattle.box_client.specs.Asking.{ticks}
use Rattle.box_client.proofs.GivenOnce.{next_past}
use Rattle.wire_profile.specs.Indexes.{ProfileView}
use Rattle.wire_profile.specs.Profiles.{IsProfile}
use Rattle.wire_values.specs.Calls.{call_in, call_tree}
use Rattle.wire_values.specs.CarriedFrames.{IsFrame}
use Rattle.wire_values.specs.Frames.{frame_in, frame_tree}
use Rattle.box_wire.specs.Answers.{Spelled}
use Rattle.box_wire.specs.Kinds.{calls, frames}
use Rattle.box_wire.specs.declared.fault.SpellFault.TheVariants.{TooLong}
use Rattle.box_wire.proofs.CallLaws.{call_laws}
use Rattle.box_wire.proofs.FrameLaws.{frame_laws}
use Rattle.box_world.specs.Sizes.{call_size, frame_size}
use Rattle.box_world.proofs.MessageForms.{call_has, call_served, frame_has}
use Rattle.box_world.proofs.SpelledMessages.{of_their_size}
use Rattle.box_world.proofs.PushesBelow.{asks_below}
use Rattle.update_sessions.specs.Packed.{Packed, SpellsCall, SpellsFrame}
use Rattle.update_sessions.specs.inner.Steps.{Puts}
use Rattle.update_sessions.proofs.Packets.{packed_then, packed_one}

pub frame_sized : (p : ProfileView) → IsProfile p → (f : Frame) (b : List ℕ) → SpellsFrame p f b → length b ≡ frame_size f
frame_sized p good f b s = of_their_size frames frame_tree frame_in IsFrame frame_laws frame_has (λ m. tt) p good f b s

pub call_sized : (p : ProfileView) → IsProfile p → (c : Numbered) (b : List ℕ) → SpellsCall p c b → length b ≡ call_size c
call_sized p good c b s = of_their_size calls call_tree call_in (λ _. ⊤) call_laws call_has call_served p good c b s

-- what is given spells the message, and isn't too long
pub spelled_given : (Spells : List ℕ → Type 0) (bytes : List ℕ) → Spelled Spells (Ok bytes) → Spells bytes × (length bytes ≤ MAX_FRAME_BYTES)
spelled_given Spells bytes s =
    elim s.given as (λ v. Spells bytes × (length bytes ≤ MAX_FRAME_BYTES)) [
      | inl e ↦ absurd (let no : ⊥ = cc in no)
      | inr h ↦ (subst Spells (sym h.2.0) h.1, subst (λ (l : List ℕ). length l ≤ MAX_FRAME_BYTES) (sym h.2.0) h.2.1)
    ]

-- it isn't refused as too long
pub never_too_long : (Spells : List ℕ → Type 0) (size count : ℕ) → ((b : List ℕ) → Spells b → length b ≡ size) → size ≤ MAX_FRAME_BYTES → Spelled Spells (Err (TooLong count)) → ⊥
never_too_long Spells size count sized le s =
    elim s.given as (λ v. ⊥) [
      | inl e ↦ (let no : ⊥ = cc in no)
      | inr h ↦ (let no : ⊥ = omega (arith, sized h.0 h.1, h.2.1, le) in no)
    ]

pub puts_by : {E : Type 0} (Spells : List ℕ → Type 0) (b old new : List ℕ) (r : Result (Unit {0}) E) → Spells b → OnOk r (new ≡ old ++ packet b) → OnOk r (Puts Spells old new)
puts_by Spells b old new (Ok u) s h = (b, s, h)
puts_by Spells b old new (Err e) s h = tt

-- the bytes of what is given are put
pub puts_slice : {E : Type 0} (Spells : List ℕ → Type 0) (b slice old new : List ℕ) (r : Result (Unit {0}) E) → Spelled Spells (Ok b) → slice ≡ b → OnOk r (new ≡ old ++ packet slice) → OnOk r (Puts Spells old new)
puts_slice Spells b slice old new r s same h = puts_by Spells b old new r (spelled_given Spells b s).0 (subst (λ (l : List ℕ). OnOk r (new ≡ old ++ packet l)) same h)

-- ---- calls

-- each request of a tick is short
pub asks_short : (c : ClientState) → All (λ call. call_size call ≤ MAX_FRAME_BYTES) (ticks c).asks
asks_short c k d lt = let size = asks_below c k d lt in omega (arith, size)

pub asks_short_as : (c : ClientState) (asks : List Numbered) → asks ≡ (ticks c).asks → All (λ call. call_size call ≤ MAX_FRAME_BYTES) asks
asks_short_as c asks is = subst (λ (l : List Numbered). All (λ call. call_size call ≤ MAX_FRAME_BYTES) l) (sym is) (asks_short c)

-- a tick gives so many numbers at most
pub ticks_next : (c d : ClientState) (asks : List Numbered) → d ≡ (ticks c).client → asks ≡ (ticks c).asks → length asks ≤ MAX_ASKS → d.next ≤ c.next + MAX_ASKS
ticks_next c d asks is same most =
    let next : d.next ≡ c.next + length asks = ap (λ (x : ClientState). x.next) is ∙ next_past c ∙ ap (λ (l : List Numbered). c.next + length l) (sym same) in
    omega (arith, next, most)

-- one more packet
pub packed_more : {M : Type 0} (Spells : M → List ℕ → Type 0) (ms : List M) (i : ℕ) (m : M) (old new : List ℕ) → slice_get ms i ≡ Some m → Packed Spells (take i ms) old → Puts (Spells m) old new → Packed Spells (take (i + 1) ms) new
packed_more {M} Spells ms i m old new at packed (b, s, is) =
    let more : take (i + 1) ms ≡ take i ms ++ m ∷ [] = take_more ms i m (slice_get_within ms i m at) ∙ ap (λ (x : M). take i ms ++ x ∷ []) (get_or_from_slice_get ms i m m at) in
    subst (λ (l : List M). Packed Spells l new) (sym more) (subst (Packed Spells (take i ms ++ m ∷ [])) (sym is) (packed_then Spells (take i ms) (m ∷ []) old (packet b) packed (packed_one Spells m b s)))
