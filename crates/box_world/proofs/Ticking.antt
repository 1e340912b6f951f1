-- What a client asks: each request says where who asks it stands, and its number is new.
use Rattle.std.proofs.Common.{◌≡◌, inl, inr, ℕ, zero, suc, ◌+◌, ◌≤◌, ◌<◌, pos, List, [], ◌∷◌, ◌++◌, Bool, true, false, Option, Some, None, refl, sym, ap, ◌∙◌, subst, arith}
use Rattle.std.specs.Prelude.{slice_get}
use Rattle.std.proofs.lemmas.Option.{none-some, same_Some}
use Rattle.box_events.specs.Events.{EventView}
use Rattle.box_events.specs.Boxes.{IsBoundary}
use Rattle.box_events.specs.declared.requests.Numbered.{Numbered}
use Rattle.box_events.specs.declared.requests.Request.TheVariants.{Channel}
use Rattle.pts_machine.specs.declared.mode.Mode.TheVariants.{Asking}
use Rattle.pts_machine.specs.States.{LaneState}
use Rattle.pts_machine.specs.Fitting.{Fits}
use Rattle.channel_box.specs.States.{ChannelState}
use Rattle.channel_box.specs.Steps.{channel_is_due, channel_asks, ask_of, Ticked, ticked}
use Rattle.box_server.specs.Servers.{ServerState}
use Rattle.box_client.specs.States.{ClientState}
use Rattle.box_client.specs.Asking as asking
use Rattle.box_client.specs.Asking.{group_is_due, group_asks, difference_of, group_ticked, channels_ticked, ticks}
use Rattle.box_world.specs.Agreeing.{Boxes, Each, ChannelAgrees, Agrees}
use Rattle.box_world.specs.Awaiting.{Asked, ChannelAsksBy, AskBy, Awaits, Below}
use Rattle.box_world.specs.Requesting.{RequestFits}
use Rattle.box_world.proofs.Lists.{of_both}
use Rattle.box_world.proofs.GoingOn.{agree_group_ticked}

asking_is : (m n : ℕ) → Asking m ≡ Asking n → m ≡ n
asking_is m n e = cc

append_append : {A : Type 0} (xs ys zs : List A) → (xs ++ ys) ++ zs ≡ xs ++ (ys ++ zs)
append_append [] ys zs = refl
append_append {A} (x ∷ xs) ys zs = ap (λ (l : List A). x ∷ l) (append_append xs ys zs)

-- a lane's position is a boundary of its box
pub stands_at : (box : List EventView) (t : LaneState EventView) → Fits box t → IsBoundary box t.at
stands_at box t f = record {
  prefix = f.events.prefix ++ t.events;
  rest = f.events.rest;
  whole = f.events.whole ∙ sym (append_append f.events.prefix t.events f.events.rest);
  stop = f.events.stop;
}

-- ---- channels that ask

asks_later : (n m : ℕ) (o : Option Asked) (d : ChannelState) → n < m → ChannelAsksBy n o (channel_asks d m)
asks_later n m o d lt e = let same : m ≡ n = asking_is m n e in absurd (omega arith)

asks_by : (n m : ℕ) (o : Option Asked) (d : ChannelState) (ds : List ChannelState) (b : Bool) → channel_is_due d ≡ b → n < m → ChannelAsksBy n o d
    → ((k : ℕ) → n < k → Each (ChannelAsksBy n o) (ticked k ds).channels) → Each (ChannelAsksBy n o) (ticked m (d ∷ ds)).channels
asks_by n m o d ds true e lt h rest = rw e (asks_later n m o d lt, rest (m + 1) (omega (arith, lt)))
asks_by n m o d ds false e lt h rest = rw e (h, rest m lt)

-- numbers from m on leave the asks of an earlier number
asks_ticked : (n : ℕ) (o : Option Asked) (ds : List ChannelState) (m : ℕ) → n < m → Each (ChannelAsksBy n o) ds → Each (ChannelAsksBy n o) (ticked m ds).channels
asks_ticked n o [] m lt h = tt
asks_ticked n o (d ∷ ds) m lt h = asks_by n m o d ds (channel_is_due d) refl lt h.0 (λ k below. asks_ticked n o ds k below h.1)

next_by : (m : ℕ) (d : ChannelState) (ds : List ChannelState) (b : Bool) → channel_is_due d ≡ b → ((k : ℕ) → k ≤ (ticked k ds).next) → m ≤ (ticked m (d ∷ ds)).next
next_by m d ds true e rest = rw e (omega (arith, rest (m + 1)))
next_by m d ds false e rest = rw e (rest m)

next_ticked : (ds : List ChannelState) (m : ℕ) → m ≤ (ticked m ds).next
next_ticked [] m = omega arith
next_ticked (d ∷ ds) m = next_by m d ds (channel_is_due d) refl (next_ticked ds)

abbrev NobodyFrom : ℕ → List ChannelState → Type 0
NobodyFrom n ds = (m : ℕ) → n ≤ m → Each (ChannelAsksBy m None) ds

asks_before : (n m : ℕ) (d : ChannelState) → n < m → ChannelAsksBy m None (channel_asks d n)
asks_before n m d lt e = let same : n ≡ m = asking_is n m e in absurd (omega arith)

-- nobody asks a number from the next one on
nobody_by : (n m : ℕ) (d : ChannelState) (ds : List ChannelState) (b : Bool) → channel_is_due d ≡ b → (ticked n (d ∷ ds)).next ≤ m → n ≤ m → ChannelAsksBy m None d
    → ((k : ℕ) → (ticked k ds).next ≤ m → k ≤ m → Each (ChannelAsksBy m None) (ticked k ds).channels) → Each (ChannelAsksBy m None) (ticked n (d ∷ ds)).channels
nobody_by n m d ds true e le up h rest =
    let last : (ticked (n + 1) ds).next ≤ m = rw e at le in
    rw e (asks_before n m d (omega (arith, last, next_ticked ds (n + 1))), rest (n + 1) last (omega (arith, last, next_ticked ds (n + 1))))
nobody_by n m d ds false e le up h rest = let last : (ticked n ds).next ≤ m = rw e at le in rw e (h, rest n last up)

nobody_ticked : (ds : List ChannelState) (n m : ℕ) → (ticked n ds).next ≤ m → n ≤ m → Each (ChannelAsksBy m None) ds → Each (ChannelAsksBy m None) (ticked n ds).channels
nobody_ticked [] n m le up h = tt
nobody_ticked (d ∷ ds) n m le up h = nobody_by n m d ds (channel_is_due d) refl le up h.0 (λ k last low. nobody_ticked ds k m last low h.1)

-- an ask of some channels
record IsAsk (s : ServerState) (boxes : Boxes) (n : ℕ) (t : Ticked) (q : Numbered) : Type 0 where
  pub low : n ≤ q.number
  pub high : q.number < t.next
  pub fits : RequestFits s boxes q.request 0
  pub channels : Each (ChannelAsksBy q.number (Some (record { request = q.request; seq = 0 }))) t.channels

each_free : (m : ℕ) (o : Option Asked) (ds : List ChannelState) → Each (ChannelAsksBy m None) ds → Each (ChannelAsksBy m o) ds
each_free m o [] h = tt
each_free m o (d ∷ ds) h = (λ e. absurd (h.0 e), each_free m o ds h.1)

first_ask : (s : ServerState) (boxes : Boxes) (n : ℕ) (d : ChannelState) (ds : List ChannelState) → ChannelAgrees (boxes d.id) d → Each (ChannelAsksBy n None) ds
    → IsAsk s boxes n (record { next = (ticked (n + 1) ds).next; channels = channel_asks d n ∷ (ticked (n + 1) ds).channels; asks = ask_of d n ∷ (ticked (n + 1) ds).asks }) (ask_of d n)
first_ask s boxes n d ds a none = record {
  low = omega arith;
  high = omega (arith, next_ticked ds (n + 1));
  fits = (d.lane.at, refl, stands_at (boxes d.id) d.lane a.lane);
  channels = (λ e. refl, asks_ticked n (Some (record { request = Channel d.id (pos d.lane.at); seq = 0 })) ds (n + 1) (omega arith) (each_free n (Some (record { request = Channel d.id (pos d.lane.at); seq = 0 })) ds none));
}

later_ask : (s : ServerState) (boxes : Boxes) (n : ℕ) (d : ChannelState) (ds : List ChannelState) (q : Numbered) → IsAsk s boxes (n + 1) (ticked (n + 1) ds) q
    → IsAsk s boxes n (record { next = (ticked (n + 1) ds).next; channels = channel_asks d n ∷ (ticked (n + 1) ds).channels; asks = ask_of d n ∷ (ticked (n + 1) ds).asks }) q
later_ask s boxes n d ds q h = record {
  low = omega (arith, h.low);
  high = h.high;
  fits = h.fits;
  channels = (λ e. (let same : n ≡ q.number = asking_is n q.number e in absurd (omega (arith, h.low))), h.channels);
}

same_ask : (s : ServerState) (boxes : Boxes) (n : ℕ) (t : Ticked) (p q : Numbered) → p ≡ q → IsAsk s boxes n t p → IsAsk s boxes n t q
same_ask s boxes n t p q e h = subst (IsAsk s boxes n t) e h

ask_when : (s : ServerState) (boxes : Boxes) (n : ℕ) (d : ChannelState) (ds : List ChannelState) (i : ℕ) (q : Numbered) → ChannelAgrees (boxes d.id) d → Each (ChannelAsksBy n None) ds
    → ((j : ℕ) → slice_get (ticked (n + 1) ds).asks j ≡ Some q → IsAsk s boxes (n + 1) (ticked (n + 1) ds) q)
    → slice_get (ask_of d n ∷ (ticked (n + 1) ds).asks) i ≡ Some q
    → IsAsk s boxes n (record { next = (ticked (n + 1) ds).next; channels = channel_asks d n ∷ (ticked (n + 1) ds).channels; asks = ask_of d n ∷ (ticked (n + 1) ds).asks }) q
ask_when s boxes n d ds zero q a none rest is = same_ask s boxes n _ (ask_of d n) q (same_Some (ask_of d n) q is) (first_ask s boxes n d ds a none)
ask_when s boxes n d ds (suc i) q a none rest is = later_ask s boxes n d ds q (rest i is)

ask_by : (s : ServerState) (boxes : Boxes) (n : ℕ) (d : ChannelState) (ds : List ChannelState) (b : Bool) → channel_is_due d ≡ b → ChannelAgrees (boxes d.id) d → NobodyFrom n (d ∷ ds)
    → ((k j : ℕ) (q : Numbered) → n ≤ k → slice_get (ticked k ds).asks j ≡ Some q → IsAsk s boxes k (ticked k ds) q)
    → (i : ℕ) (q : Numbered) → slice_get (ticked n (d ∷ ds)).asks i ≡ Some q → IsAsk s boxes n (ticked n (d ∷ ds)) q
ask_by s boxes n d ds true e a none rest i q is = rw e (ask_when s boxes n d ds i q a (none n (omega arith)).1 (λ j at. rest (n + 1) j q (omega arith) at) (rw e at is))
ask_by s boxes n d ds false e a none rest i q is =
    let h = rest n i q (omega arith) (rw e at is) in
    rw e (record { low = h.low; high = h.high; fits = h.fits; channels = (λ f. absurd ((none q.number h.low).0 f), h.channels) })

channel_ask : (s : ServerState) (boxes : Boxes) (ds : List ChannelState) (n i : ℕ) (q : Numbered) → Each (λ d. ChannelAgrees (boxes d.id) d) ds → NobodyFrom n ds → slice_get (ticked n ds).asks i ≡ Some q → IsAsk s boxes n (ticked n ds) q
channel_ask s boxes [] n i q a none is = absurd (none-some q is)
channel_ask s boxes (d ∷ ds) n i q a none is =
    ask_by s boxes n d ds (channel_is_due d) refl a.0 none (λ k j p low at. channel_ask s boxes ds k j p a.1 (λ m le. (none m (omega (arith, low, le))).1) at) i q is

-- ---- clients that ask

-- what a tick keeps
record Moves (c d : ClientState) : Type 0 where
  pub next : c.next ≤ d.next
  pub asks : (n : ℕ) (o : Option Asked) → n < c.next → AskBy n o c → AskBy n o d
  pub below : Below c → Below d

moves_group : (c : ClientState) → Moves c (group_asks c)
moves_group c = record {
  next = omega arith;
  asks = λ n o lt h. record { group = λ e. (let same : c.next ≡ n = asking_is c.next n e in absurd (omega (arith, lt))); channels = h.channels };
  below = λ b n le. record { group = λ e. (let same : c.next ≡ n = asking_is c.next n e in absurd (omega (arith, le))); channels = (b n (omega (arith, le))).channels };
}

moves_none : (c : ClientState) → Moves c c
moves_none c = record { next = omega arith; asks = λ n o lt h. h; below = λ b. b }

moves_group_by : (c : ClientState) (b : Bool) → group_is_due c ≡ b → Moves c (group_ticked c).client
moves_group_by c true e = rw e (moves_group c)
moves_group_by c false e = rw e (moves_none c)

moves_channels : (a : asking.Asked) → Moves a.client (channels_ticked a).client
moves_channels a = record {
  next = next_ticked a.client.channels a.client.next;
  asks = λ n o lt h. record { group = h.group; channels = asks_ticked n o a.client.channels a.client.next lt h.channels };
  below = λ b n le. (let low = b n (omega (arith, le, next_ticked a.client.channels a.client.next)) in
      record { group = low.group; channels = nobody_ticked a.client.channels a.client.next n le (omega (arith, le, next_ticked a.client.channels a.client.next)) low.channels });
}

moves_then : (a b c : ClientState) → Moves a b → Moves b c → Moves a c
moves_then a b c p q = record {
  next = omega (arith, p.next, q.next);
  asks = λ n o lt h. q.asks n o (omega (arith, lt, p.next)) (p.asks n o lt h);
  below = λ h. q.below (p.below h);
}

moves_ticks : (c : ClientState) → Moves c (ticks c).client
moves_ticks c = moves_then c (group_ticked c).client (ticks c).client (moves_group_by c (group_is_due c) refl) (moves_channels (group_ticked c))

pub awaits_ticks : (c : ClientState) (n : ℕ) (a : Asked) → Awaits n a c → Awaits n a (ticks c).client
awaits_ticks c n a w = let m = moves_ticks c in record { given = omega (arith, w.given, m.next); asks = m.asks n (Some a) w.given w.asks }

pub below_ticks : (c : ClientState) → Below c → Below (ticks c).client
below_ticks c b = (moves_ticks c).below b

-- ---- each request of a tick

pub record IsNew (s : ServerState) (boxes : Boxes) (c : ClientState) (q : Numbered) : Type 0 where
  pub seq : ℕ
  pub fits : RequestFits s boxes q.request seq
  pub awaits : Awaits q.number (record { request = q.request; seq = seq }) c

group_new : (s : ServerState) (boxes : Boxes) (c : ClientState) → Agrees s boxes c → Below c → IsNew s boxes (group_asks c) (difference_of c)
group_new s boxes c a b = record {
  seq = c.settings.at;
  fits = (c.common.at, c.secret.at, refl, refl, record { common = stands_at s.common c.common a.common; secret = stands_at s.secret c.secret a.secret; settings = a.settings.inside });
  awaits = record {
    given = omega arith;
    asks = record { group = λ e. (refl, refl); channels = each_free c.next (Some (record { request = (difference_of c).request; seq = c.settings.at })) c.channels (b c.next (omega arith)).channels };
  };
}

-- what the group asked is still awaited after the channels ask
group_still : (s : ServerState) (boxes : Boxes) (a : asking.Asked) (q : Numbered) → IsNew s boxes a.client q → IsNew s boxes (channels_ticked a).client q
group_still s boxes a q h =
    let m = moves_channels a in
    record { seq = h.seq; fits = h.fits; awaits = record { given = omega (arith, h.awaits.given, m.next); asks = m.asks q.number (Some (record { request = q.request; seq = h.seq })) h.awaits.given h.awaits.asks } }

only_one : (s : ServerState) (boxes : Boxes) (c : ClientState) (i : ℕ) (q : Numbered) → Agrees s boxes c → Below c → slice_get (difference_of c ∷ []) i ≡ Some q → IsNew s boxes (group_asks c) q
only_one s boxes c zero q a b is = subst (IsNew s boxes (group_asks c)) (same_Some (difference_of c) q is) (group_new s boxes c a b)
only_one s boxes c (suc i) q a b is = absurd (none-some q is)

group_asked : (s : ServerState) (boxes : Boxes) (c : ClientState) (b : Bool) → group_is_due c ≡ b → Agrees s boxes c → Below c → (i : ℕ) (q : Numbered) → slice_get (group_ticked c).asks i ≡ Some q → IsNew s boxes (group_ticked c).client q
group_asked s boxes c true e a b i q is = rw e (only_one s boxes c i q a b (rw e at is))
group_asked s boxes c false e a b i q is = absurd (none-some q (rw e at is))

channel_new : (s : ServerState) (boxes : Boxes) (a : asking.Asked) → Agrees s boxes a.client → Below a.client → (i : ℕ) (q : Numbered) → slice_get (ticked a.client.next a.client.channels).asks i ≡ Some q → IsNew s boxes (channels_ticked a).client q
channel_new s boxes a g b i q is =
    let h = channel_ask s boxes a.client.channels a.client.next i q g.channels (λ m le. (b m le).channels) is in
    record {
      seq = 0;
      fits = h.fits;
      awaits = record { given = h.high; asks = record { group = λ e. absurd ((b q.number h.low).group e); channels = h.channels } };
    }

pub tick_new : (s : ServerState) (boxes : Boxes) (c : ClientState) → Agrees s boxes c → Below c → (i : ℕ) (q : Numbered) → slice_get (ticks c).asks i ≡ Some q → IsNew s boxes (ticks c).client q
tick_new s boxes c a b i q is =
    let g : asking.Asked = group_ticked c in
    elim (of_both g.asks (ticked g.client.next g.client.channels).asks i q is) [
      | inl own ↦ group_still s boxes g q (group_asked s boxes c (group_is_due c) refl a b i q own)
      | inr at ↦ channel_new s boxes g (agree_group_ticked s boxes c (group_is_due c) refl a) ((moves_group_by c (group_is_due c) refl).below b) at.0 q at.1
    ]
