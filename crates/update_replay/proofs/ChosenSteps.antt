-- Steps that are chosen in what is shown of a world are chosen so in the world.
use Rattle.std.proofs.Common.{◌≡◌, ℕ, ◌%◌, ◌<◌, List, [], ◌∷◌, length, Bool, Option, Some, None, refl, sym, ap, ap₂, ◌∙◌, subst, arith}
use Rattle.std.specs.Prelude.{slice_get}
use Rattle.box_events.specs.declared.steps.Step.{Step}
use Rattle.box_server.specs.Servers.{ServerState}
use Rattle.box_world.specs.NumberWorlds.{numbers_of}
use Rattle.box_world.specs.Possible.{is_for}
use Rattle.box_world.specs.Worlds.{Packet, World}
use Rattle.update_replay.specs.Draws.{drawn, draw_of}
use Rattle.update_replay.specs.Made.{Chosen, drawn_hear, drawn_last, hears_drawn, hears_if, hears_last, last_where, or_date, served_last, serves_last}
use Rattle.update_world.specs.declared.sent.SentPacket.{SentPacket}
use Rattle.update_world.specs.Shown.{Shown, StandsFor}
use Rattle.update_replay.specs.Making.{Chooses}
use Rattle.update_replay.specs.Wanting.{goes_to, is_wanted}
use Rattle.update_replay.specs.declared.wanted.Receiver.TheVariants as wanted
use Rattle.update_replay.proofs.LastPackets.{as_many, message_of}

-- the clock is the server's
date_is : (shown : Shown) (w : World) → StandsFor shown w → shown.server.date ≡ w.server.date
date_is shown w st = sym (ap (λ (s : ServerState). s.date) st.server)

-- ---- a packet that is drawn

none_drawn : (pool : List Packet) (k x : ℕ) → length pool ≡ 0 → hears_drawn pool k x ≡ record { it = None; x = x }
none_drawn [] k x e = refl
none_drawn (p ∷ ps) k x e = absurd (omega (arith, e))

some_drawn : (pool : List Packet) (k x : ℕ) → 0 < length pool → hears_drawn pool k x ≡ record { it = hears_if (is_for k (slice_get pool (draw_of x % length pool))) k (draw_of x % length pool); x = drawn x }
some_drawn [] k x lt = absurd (omega (arith, lt))
some_drawn (p ∷ ps) k x lt = refl

module _ (shown : Shown) (w : World) (k x : ℕ) (st : StandsFor shown w) where
  pub no_packet_drawn : length shown.pool ≡ 0 → Chooses (hears_drawn w.pool k x) None x
  no_packet_drawn e =
      let is = none_drawn w.pool k x (sym (as_many shown w st) ∙ e) in
      (sym (ap (λ (c : Chosen (Option Step)). c.it) is), sym (ap (λ (c : Chosen (Option Step)). c.x) is))

  pub packet_drawn : (packets m y : ℕ) (s : SentPacket) (b : Bool) → packets ≡ length shown.pool → 0 < packets → m ≡ draw_of x % packets → y ≡ drawn x → slice_get shown.pool m ≡ Some s → goes_to (wanted.Client k) s.to ≡ b
      → Chooses (hears_drawn w.pool k x) (hears_if b k m) y
  packet_drawn packets m y s b many some at next there goes =
      let same : length w.pool ≡ packets = sym (as_many shown w st) ∙ sym many in
      let is = some_drawn w.pool k x (subst (λ (n : ℕ). 0 < n) (sym same) some) in
      let found = message_of shown w (wanted.Client k) m s st there in
      let index : draw_of x % length w.pool ≡ m = ap (λ (n : ℕ). draw_of x % n) same ∙ sym at in
      let way : is_for k (slice_get w.pool (draw_of x % length w.pool)) ≡ b = ap (λ (i : ℕ). is_for k (slice_get w.pool i)) index ∙ ap (λ (o : Option Packet). is_for k o) found.there ∙ sym found.goes ∙ goes in
      (sym (ap (λ (c : Chosen (Option Step)). c.it) is ∙ ap₂ (λ (c : Bool) (i : ℕ). hears_if c k i) way index), next ∙ sym (ap (λ (c : Chosen (Option Step)). c.x) is))

-- ---- with the clock in place of what can't be made

module _ (shown : Shown) (w : World) (x : ℕ) (st : StandsFor shown w) where
  pub hears_so : (k y z : ℕ) (o : Option Step) (s : Step) → k ≡ draw_of x % 2 → y ≡ drawn x → Chooses (hears_drawn w.pool k y) o z → s ≡ or_date shown.server.date o → Chooses (drawn_hear (numbers_of w) x) s z
  hears_so k y z o s client next chosen is =
      let here : Chooses (hears_drawn w.pool (draw_of x % 2) (drawn x)) o z = subst (λ (j : ℕ). Chooses (hears_drawn w.pool j (drawn x)) o z) client (subst (λ (v : ℕ). Chooses (hears_drawn w.pool k v) o z) next chosen) in
      (is ∙ ap₂ or_date (date_is shown w st) here.0, here.1)

  pub hears_last_so : (k y : ℕ) (m : Option ℕ) (s : Step) → k ≡ draw_of x % 2 → y ≡ drawn x → m ≡ last_where (is_wanted (wanted.Client k)) 0 w.pool → s ≡ or_date shown.server.date (hears_last k m) → Chooses (drawn_last (numbers_of w) x) s y
  hears_last_so k y m s client next last is =
      (is ∙ ap₂ or_date (date_is shown w st) (ap (hears_last k) last ∙ ap (λ (j : ℕ). hears_last j (last_where (λ p. is_for j (Some p)) 0 w.pool)) client), next)

  pub serves_so : (m : Option ℕ) (s : Step) → m ≡ last_where (is_wanted wanted.Server) 0 w.pool → s ≡ or_date shown.server.date (serves_last m) → s ≡ served_last (numbers_of w)
  serves_so m s last is = is ∙ ap₂ or_date (date_is shown w st) (ap serves_last last)

  pub dates_so : (s : Step) → s ≡ or_date shown.server.date None → s ≡ or_date w.server.date None
  dates_so s is = is ∙ ap (λ (d : ℕ). or_date d None) (date_is shown w st)
