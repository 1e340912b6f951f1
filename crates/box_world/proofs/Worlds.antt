-- Every step keeps what holds of worlds.
use Rattle.std.proofs.Common.{◌≡◌, inl, inr, ℕ, ℤ, List, [], ◌∷◌, ◌++◌, set, Some, None, refl, sym, ap, ◌∙◌, subst, arith}
use Rattle.std.specs.Prelude.{slice_get}
use Rattle.box_events.specs.Events.{EventView}
use Rattle.box_events.specs.Boxes.{AreCounted}
use Rattle.box_server.specs.Servers.{ServerState, channel_in}
use Rattle.box_client.specs.States.{ClientState}
use Rattle.box_world.specs.Worlds.{Packet, push, request, reply, World}
use Rattle.box_world.specs.WholeBoxes.{events_pushed, whole_box}
use Rattle.box_world.specs.Agreeing.{Boxes, Agrees}
use Rattle.box_world.specs.Awaiting.{Asked, Awaits, Below, Still}
use Rattle.box_world.specs.Growing.{Continues, IsKept, IsLedger}
use Rattle.box_world.specs.Reached.{PacketFits, boxes_of, IsGood}
use Rattle.box_world.proofs.Lists.{of_both, written}
use Rattle.box_world.proofs.Continuing.{ClientsWait, packet_more}
use Rattle.box_world.proofs.Answering.{append_append}

-- ---- who goes on

pub still_below : (c d : ClientState) → Still c d → Below c → Below d
still_below c d s b n le = s.asks n None (b n (omega (arith, le, s.next)))

pub still_awaits : (c d : ClientState) (n : ℕ) (a : Asked) → Still c d → Awaits n a c → Awaits n a d
still_awaits c d n a s w = record { given = omega (arith, w.given, s.next); asks = s.asks n (Some a) w.asks }

pub waits_same : (cs : List ClientState) → ClientsWait cs cs
waits_same cs k n a h = h

-- one client goes on, the others stay
pub waits_set : (cs : List ClientState) (k : ℕ) (c d : ClientState) → slice_get cs k ≡ Some c → ((n : ℕ) (a : Asked) → Awaits n a c → Awaits n a d) → ClientsWait cs (set cs k d)
waits_set cs k c d at still j n a h e is = elim (written cs k d j e is) [
  | inl old ↦ h e old.1
  | inr new ↦ subst (Awaits n a) (sym new.1) (still n a (h c (ap (slice_get cs) new.0 ∙ at)))
]

pub of_set : (P : ClientState → Type 0) (cs : List ClientState) (k : ℕ) (d : ClientState) → ((j : ℕ) (c : ClientState) → slice_get cs j ≡ Some c → P c) → P d → (j : ℕ) (e : ClientState) → slice_get (set cs k d) j ≡ Some e → P e
of_set P cs k d all new j e is = elim (written cs k d j e is) [
  | inl old ↦ all j e old.1
  | inr q ↦ subst P (sym q.1) new
]

-- ---- whole boxes as packets are sent

pub whole_append : (ms ns : List Packet) (id : ℤ) → whole_box (ms ++ ns) id ≡ whole_box ms id ++ whole_box ns id
whole_append [] ns id = refl
whole_append (push p ∷ ms) ns id = ap (λ (l : List EventView). events_pushed id p ++ l) (whole_append ms ns id) ∙ sym (append_append (events_pushed id p) (whole_box ms id) (whole_box ns id))
whole_append (request k n ∷ ms) ns id = whole_append ms ns id
whole_append (reply k n r s ∷ ms) ns id = whole_append ms ns id

pub append_none : {A : Type 0} (xs : List A) → xs ++ [] ≡ xs
append_none [] = refl
append_none {A} (x ∷ xs) = ap (λ (l : List A). x ∷ l) (append_none xs)

-- packets without events leave them
pub whole_same : (ms ns : List Packet) (id : ℤ) → whole_box ns id ≡ [] → whole_box (ms ++ ns) id ≡ whole_box ms id
whole_same ms ns id e = whole_append ms ns id ∙ ap (λ (l : List EventView). whole_box ms id ++ l) e ∙ append_none (whole_box ms id)

-- ---- a world that goes on

pub record Advances (w v : World) : Type 0 where
  pub more : List Packet
  pub pool : v.pool ≡ w.pool ++ more
  pub continues : Continues w.server v.server (boxes_of w) (boxes_of v)
  pub ledger : IsLedger v.server (boxes_of v)
  pub agrees : (k : ℕ) (c : ClientState) → slice_get v.clients k ≡ Some c → Agrees v.server (boxes_of v) c
  pub below : (k : ℕ) (c : ClientState) → slice_get v.clients k ≡ Some c → Below c
  pub waits : ClientsWait w.clients v.clients
  pub new : (i : ℕ) (p : Packet) → slice_get more i ≡ Some p → PacketFits v.server (boxes_of v) v.clients p

pub good_advances : (w v : World) → IsGood w → Advances w v → IsGood v
good_advances w v g a = record {
  ledger = a.ledger;
  agrees = a.agrees;
  below = a.below;
  pool = λ m p is. elim (of_both w.pool a.more m p (ap (λ (l : List Packet). slice_get l m) (sym a.pool) ∙ is)) [
    | inl old ↦ packet_more w.server v.server (boxes_of w) (boxes_of v) w.clients v.clients p a.continues a.waits (g.pool m p old)
    | inr q ↦ a.new q.0 p q.1
  ];
}

pub ledger_same : (s : ServerState) (x y : Boxes) → ((id : ℤ) → y id ≡ x id) → IsLedger s x → IsLedger s y
ledger_same s x y e h = record {
  common = h.common;
  secret = h.secret;
  messages = h.messages;
  channels = λ id. subst AreCounted (sym (e id)) (h.channels id);
  kept = λ id. subst (λ (l : List EventView). IsKept l (channel_in s.channels id)) (sym (e id)) (h.kept id);
  dates = h.dates;
  rise = h.rise;
}
