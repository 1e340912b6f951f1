-- Servers that continue, and what is kept of packets as they do.
use Rattle.std.proofs.Common.{◌≡◌, ℕ, ◌-◌, ◌≤◌, ℤ, List, [], ◌∷◌, ◌++◌, length, refl, sym, ap, ◌∙◌, subst, arith}
use Rattle.box_world.proofs.Alls.{all_append, all_weaker}
use Rattle.std.proofs.lemmas.List.{length-append}
use Rattle.box_events.specs.Events.{EventView}
use Rattle.box_events.specs.Boxes.{IsBoundary}
use Rattle.box_events.specs.SettingLists.{Dated}
use Rattle.box_events.specs.declared.requests.Request.{Request}
use Rattle.box_events.specs.declared.requests.Request.TheVariants.{State, Difference, Channel, Post}
use Rattle.box_events.specs.declared.updates.Push.{Push}
use Rattle.box_events.specs.declared.updates.Push.TheVariants.{TooLong, Container}
use Rattle.pts_machine.specs.Packs.{Pack, pack_of}
use Rattle.pts_machine.specs.Latest.{IsStretch}
use Rattle.pts_machine.proofs.Growing.{stretch_grows}
use Rattle.box_server.specs.Servers.{ServerState}
use Rattle.box_server.proofs.Growths.{lies_grow}
use Rattle.box_client.specs.States.{ClientState}
use Rattle.box_client.specs.Pushes.{settings_in}
use Rattle.box_world.specs.Worlds.{Packet, push, request, reply}
use Rattle.box_world.specs.Agreeing.{Boxes}
use Rattle.box_world.specs.Growing.{HasMore, HasLater, Continues}
use Rattle.box_world.specs.Pushing.{PackLies, PushLies}
use Rattle.box_world.specs.Requesting.{RequestFits}
use Rattle.box_world.specs.Awaiting.{Asked}
use Rattle.box_world.specs.Reached.{ClientAwaits, PacketFits}
use Rattle.box_world.proofs.Answering.{append_append}

-- ---- continuing

append_none : {A : Type 0} (xs : List A) → xs ++ [] ≡ xs
append_none [] = refl
append_none {A} (x ∷ xs) = ap (λ (l : List A). x ∷ l) (append_none xs)

pub more_none : (a b : List EventView) → b ≡ a → HasMore a b
more_none a b e = ([], e ∙ sym (append_none a))

pub more_then : (a b c : List EventView) → HasMore a b → HasMore b c → HasMore a c
more_then a b c m n = (m.0 ++ n.0, n.1 ∙ ap (λ (l : List EventView). l ++ n.0) m.1 ∙ append_append a m.0 n.0)

pub later_none : (date : ℕ) (a b : List Dated) → b ≡ a → HasLater date a b
later_none date a b e = ([], e ∙ sym (append_none a), λ i d lt. absurd (omega (arith, lt)))

pub later_then : (early late : ℕ) (a b c : List Dated) → early ≤ late → HasLater early a b → HasLater late b c → HasLater early a c
later_then early late a b c le m n = (
  m.0 ++ n.0,
  n.1 ∙ ap (λ (l : List Dated). l ++ n.0) m.1 ∙ append_append a m.0 n.0,
  all_append (λ e. early ≤ e.date) m.0 n.0 m.2 (all_weaker (λ e. late ≤ e.date) (λ e. early ≤ e.date) (λ e h. omega (arith, h, le)) n.0 n.2),
)

pub continues_then : (a b c : ServerState) (x y z : Boxes) → Continues a b x y → Continues b c y z → Continues a c x z
continues_then a b c x y z g h = record {
  common = more_then a.common b.common c.common g.common h.common;
  secret = more_then a.secret b.secret c.secret g.secret h.secret;
  channels = λ id. more_then (x id) (y id) (z id) (g.channels id) (h.channels id);
  settings = later_then a.date b.date a.settings b.settings c.settings g.date g.settings h.settings;
  date = omega (arith, g.date, h.date);
}

-- the same server, with equal boxes
pub continues_same : (s : ServerState) (x y : Boxes) → ((id : ℤ) → y id ≡ x id) → Continues s s x y
continues_same s x y e = record {
  common = more_none s.common s.common refl;
  secret = more_none s.secret s.secret refl;
  channels = λ id. more_none (x id) (y id) (e id);
  settings = later_none s.date s.settings s.settings refl;
  date = omega arith;
}

-- ---- pushes

longer : (date : ℕ) (a b : List Dated) → HasLater date a b → length a ≤ length b
longer date a b h = omega (arith, ap length h.1, length-append a h.0)

pack_more : (s t : ServerState) (start end : ℕ) (pack : Pack) → HasLater s.date s.settings t.settings → PackLies s start end pack → PackLies t start end pack
pack_more s t start end pack h p = record {
  order = p.order;
  within = omega (arith, p.within, longer s.date s.settings t.settings h);
  stretch = subst (λ (l : List Dated). IsStretch l start end pack) (sym h.1) (stretch_grows s.settings h.0 start end pack p.within p.stretch);
}

pub push_more : (s t : ServerState) (x y : Boxes) (p : Push) → Continues s t x y → PushLies s x p → PushLies t y p
push_more s t x y TooLong g h = tt
push_more s t x y (Container us date seq_start seq) g h = (
  lies_grow s t x y us g.common g.secret g.channels h.0,
  λ lt. pack_more s t (seq_start - 1) seq (pack_of date (settings_in us)) g.settings (h.1 lt),
)

-- ---- requests

boundary_more : (a b : List EventView) (p : ℕ) → HasMore a b → IsBoundary a p → IsBoundary b p
boundary_more a b p m h = record { prefix = h.prefix; rest = h.rest ++ m.0; whole = m.1 ∙ ap (λ (l : List EventView). l ++ m.0) h.whole ∙ append_append h.prefix h.rest m.0; stop = h.stop }

pub request_more : (s t : ServerState) (x y : Boxes) (r : Request) (seq : ℕ) → Continues s t x y → RequestFits s x r seq → RequestFits t y r seq
request_more s t x y State seq g h = absurd h
request_more s t x y (Difference pts qts date) seq g (p, q, ep, eq, f) = (
  p,
  q,
  ep,
  eq,
  record {
    common = boundary_more s.common t.common p g.common f.common;
    secret = boundary_more s.secret t.secret q g.secret f.secret;
    settings = omega (arith, f.settings, longer s.date s.settings t.settings g.settings);
  },
)
request_more s t x y (Channel id pts) seq g (p, ep, f) = (p, ep, boundary_more (x id) (y id) p (g.channels id) f)
request_more s t x y (Post random_id posts) seq g h = absurd h

-- ---- packets

-- clients go on so that they await what they awaited
abbrev pub ClientsWait : List ClientState → List ClientState → Type 0
ClientsWait cs ds = (k n : ℕ) (a : Asked) → ClientAwaits cs k n a → ClientAwaits ds k n a

pub packet_more : (s t : ServerState) (x y : Boxes) (cs ds : List ClientState) (p : Packet) → Continues s t x y → ClientsWait cs ds → PacketFits s x cs p → PacketFits t y ds p
packet_more s t x y cs ds (push p) g w h = push_more s t x y p g h
packet_more s t x y cs ds (request k n) g w h = record { seq = h.seq; fits = request_more s t x y n.request h.seq g h.fits; awaits = w k n.number (record { request = n.request; seq = h.seq }) h.awaits }
packet_more s t x y cs ds (reply k n v m) g w (r, e, h) = (
  r,
  e,
  record {
    whole = h.whole;
    ledger = h.ledger;
    continues = continues_then m s t h.whole x y h.continues g;
    seq = h.seq;
    fits = h.fits;
    awaits = w k n (record { request = r; seq = h.seq }) h.awaits;
  },
)
