-- Messages that are sent: all, or less than all.
use Rattle.std.proofs.Common.{◌≡◌, inl, inr, ℕ, ◌<◌, List, [], ◌∷◌, ◌++◌, length, length-append, map, Bool, true, false, Option, refl, sym, ap, ◌∙◌, subst, arith}
use Rattle.std.proofs.lemmas.List.{append-nil}
use Rattle.tl_base.specs.Packets.{packet}
use Rattle.tl_base.specs.declared.counts.Kind.TheVariants.{Links}
use Rattle.tl_base.specs.declared.host.Out.TheVariants.{Link}
use Rattle.outside.specs.Events.{Event, HostState, put, write_failed}
use Rattle.outside.specs.Laws.{Keeps, Happened, IsFailure}
use Rattle.outside.specs.Pieces.{Writes}
use Rattle.outside.specs.Begun.{Did}
use Rattle.outside.specs.Steps.{Begins}
use Rattle.outside.proofs.Causing.{keeps_pieces, happened_last}
use Rattle.outside.proofs.Piecewise.{no_pieces}
use Rattle.codec_rooms.proofs.Typing.{did_as}
use Rattle.update_sessions.specs.Packed.{Packed}
use Rattle.update_sessions.proofs.Packets.{seam}
use Rattle.session_rooms.specs.Sending.{PartlySent, Sends}

module _ {M : Type 0} (Spells : M → List ℕ → Type 0) where
  -- nothing was put of messages that have packets
  none_begun : (ms : List M) (x : List ℕ) → Packed Spells ms x → 0 < length x → PartlySent Spells ms []
  none_begun [] x is lt = let none = ap length is in absurd (omega (arith, none, lt))
  none_begun (m ∷ ms) x p lt = inl refl

  -- a prefix of the first packet, which isn't all of it, or is followed by more
  one_begun : (m : M) (ms : List M) (y z rest b more : List ℕ) → Spells m b → Packed Spells ms more → y ++ z ≡ packet b → y ++ rest ≡ packet b ++ more → 0 < length rest → PartlySent Spells (m ∷ ms) y
  one_begun m ms y (c ∷ z) rest b more s p part all lt = inr (b, s, inl (c ∷ z, part, omega arith))
  one_begun m ms y [] rest b more s p part all lt =
      let here = ap length part in
      let both = ap length all in
      inr (b, s, inr ([], sym (append-nil y) ∙ part ∙ sym (append-nil (packet b)), none_begun ms more p (omega (arith, lt, here, both, length-append y [], length-append y rest, length-append (packet b) more))))

  pub partly_sent : (ms : List M) (x y rest : List ℕ) → Packed Spells ms x → y ++ rest ≡ x → 0 < length rest → PartlySent Spells ms y
  partly_sent [] x y rest is e lt = let none = ap length (e ∙ is) in absurd (omega (arith, none, lt, length-append y rest))
  partly_sent (m ∷ ms) x y rest (b, more, s, is, p) e lt =
      elim (seam y rest (packet b) more (e ∙ is)) [
        | inl h ↦ one_begun m ms y h.0 rest b more s p h.1 (e ∙ is) lt
        | inr h ↦ inr (b, s, inr (h.0, h.1, partly_sent ms more h.0 rest p h.2 lt))
      ]

  writes_sent : (ms : List M) (out : List ℕ) → Packed Spells ms out → (t : List Event) (ok : Bool) → Writes Link out t ok → Sends Spells ms t ok
  writes_sent ms out p t true h = (out, p, h)
  writes_sent ms out p t false (before, after, pieces, is, lt) = (before, partly_sent ms out before after p is lt, pieces)

  -- what is written is sent
  pub sent_by : (ms : List M) (out : List ℕ) (p q : HostState) (ok : Option Bool) → Packed Spells ms out → Did (Writes Link out) p q ok → Did (Sends Spells ms) p q ok
  sent_by ms out p q ok packed h = did_as (Writes Link out) (Sends Spells ms) p q ok (writes_sent ms out packed) h

  -- messages can be sent, or a write fails at once
  pub can_send : (ms : List M) → Begins (Sends Spells ms) []
  can_send [] = record { rest = []; answer = true; whole = ([], refl, no_pieces (put Link) []) }
  can_send (m ∷ ms) = record { rest = write_failed Link ∷ []; answer = false; whole = ([], inl refl, no_pieces (put Link) (write_failed Link ∷ [])) }

  -- ---- events

  pub keeps_send : (P : Event → Type 0) → ((piece : List ℕ) → P (put Link piece)) → P (write_failed Link) → (ms : List M) → Keeps P (Sends Spells ms)
  keeps_send P each fail ms t true h = keeps_pieces P (put Link) each h.0 [] t tt h.2
  keeps_send P each fail ms t false h = keeps_pieces P (put Link) each h.0 (write_failed Link ∷ []) t (fail, tt) h.2

  -- what wasn't sent whole failed
  pub unsent : (ms : List M) (t : List Event) → Sends Spells ms t false → Happened (IsFailure Links) t
  unsent ms t h = subst (Happened (IsFailure Links)) (sym h.2.events) (happened_last (IsFailure Links) (map (put Link) h.2.pieces) (write_failed Link ∷ []) (inl refl))
