-- What a client does by itself.
use Rattle.std.proofs.Common.{◌≡◌, ℕ, ◌+◌, ◌<◌, ◌≤◌, ℤ, List, [], ◌∷◌, ◌++◌, length, map, Bool, true, false, cond, ltb, Option, refl, sym, ◌∙◌, arith}
use Rattle.std.proofs.lemmas.Bool.Decides.{nat_tests}
use Rattle.std.proofs.lemmas.List.{length-append, length-map}
use Rattle.box_events.specs.declared.limits.TheConstants.{MAX_CHANNELS}
use Rattle.box_events.specs.Events.{EventView}
use Rattle.pts_machine.specs.declared.mode.Mode.{Mode}
use Rattle.pts_machine.specs.declared.mode.Mode.TheVariants.{Live, Asking}
use Rattle.pts_machine.specs.States.{LaneState}
use Rattle.pts_machine.specs.Steps.{forget, new_lane}
use Rattle.pts_machine.proofs.Fitting.{fits_asked, fits_forget, fits_new}
use Rattle.pts_machine.proofs.Agreements.{agree_asked, agree_forgotten}
use Rattle.channel_box.specs.States.{ChannelState}
use Rattle.channel_box.specs.Steps.{channel_is_due, channel_asks, ticked, flagged, forgot, forgotten, channel_of, is_watched, may_watch, watched_if}
use Rattle.box_server.specs.Servers.{ServerState}
use Rattle.box_server.specs.Runs.{limited}
use Rattle.box_client.specs.States.{ClientState}
use Rattle.box_client.specs.Asking as asking
use Rattle.box_client.specs.Asking.{group_is_due, group_asks, difference_of, group_ticked, channels_ticked, ticks, wakes, restarted}
use Rattle.box_world.specs.Worlds.{watches}
use Rattle.box_world.specs.Agreeing.{Boxes, Each, ChannelAgrees, Agrees}
use Rattle.box_world.specs.Awaiting.{Asked, ChannelAsksBy}
use Rattle.box_world.specs.Laws.{AgreeAsClientsGoOn, StillAsClientsGoOn}

-- ---- channels

abbrev Agreeing : Boxes → ChannelState → Type 0
Agreeing boxes d = ChannelAgrees (boxes d.id) d

pub each_by : {A B : Type 0} (P : A → Type 0) (Q : B → Type 0) (f : A → B) → ((x : A) → P x → Q (f x)) → (xs : List A) → Each P xs → Each Q (map f xs)
each_by P Q f g [] h = tt
each_by P Q f g (x ∷ xs) h = (g x h.0, each_by P Q f g xs h.1)

pub each_last : {A : Type 0} (P : A → Type 0) (xs : List A) (x : A) → Each P xs → P x → Each P (xs ++ x ∷ [])
each_last P [] x h g = (g, tt)
each_last P (y ∷ ys) x h g = (h.0, each_last P ys x h.1 g)

agreeing_asks : (boxes : Boxes) (d : ChannelState) (n : ℕ) → Agreeing boxes d → Agreeing boxes (channel_asks d n)
agreeing_asks boxes d n h = record {
  lane = fits_asked (boxes d.id) d.lane n h.lane;
  recent = record { prefix = h.recent.prefix; rest = h.recent.rest; whole = h.recent.whole; stop = h.recent.stop; content = h.recent.content };
}

agreeing_flagged : (boxes : Boxes) (d : ChannelState) → Agreeing boxes d → Agreeing boxes (flagged d)
agreeing_flagged boxes d h = record {
  lane = h.lane;
  recent = record { prefix = h.recent.prefix; rest = h.recent.rest; whole = h.recent.whole; stop = h.recent.stop; content = h.recent.content };
}

forget_restart : (t : LaneState EventView) → (forget t).restart ≡ t.restart
unfolding forget
forget_restart t = refl

agreeing_forgot : (boxes : Boxes) (d : ChannelState) → Agreeing boxes d → Agreeing boxes (forgot d)
agreeing_forgot boxes d h = record {
  lane = fits_forget (boxes d.id) d.lane h.lane;
  recent = record { prefix = h.recent.prefix; rest = h.recent.rest; whole = h.recent.whole; stop = h.recent.stop ∙ sym (forget_restart d.lane); content = h.recent.content };
}

ticked_by : (boxes : Boxes) (n : ℕ) (d : ChannelState) (ds : List ChannelState) (b : Bool) → channel_is_due d ≡ b → Agreeing boxes d
    → ((m : ℕ) → Each (Agreeing boxes) (ticked m ds).channels) → Each (Agreeing boxes) (ticked n (d ∷ ds)).channels
ticked_by boxes n d ds true e h rest = rw e (agreeing_asks boxes d n h, rest (n + 1))
ticked_by boxes n d ds false e h rest = rw e (h, rest n)

agreeing_ticked : (boxes : Boxes) (ds : List ChannelState) (n : ℕ) → Each (Agreeing boxes) ds → Each (Agreeing boxes) (ticked n ds).channels
agreeing_ticked boxes [] n h = tt
agreeing_ticked boxes (d ∷ ds) n h = ticked_by boxes n d ds (channel_is_due d) refl h.0 (λ m. agreeing_ticked boxes ds m h.1)

agreeing_new : (boxes : Boxes) (id : ℤ) → Agreeing boxes (channel_of id new_lane [])
unfolding limited
agreeing_new boxes id = record {
  lane = fits_new (boxes id);
  recent = record { prefix = []; rest = boxes id; whole = refl; stop = refl; content = refl };
}

agreeing_watched : (boxes : Boxes) (ds : List ChannelState) (id : ℤ) (b : Bool) → Each (Agreeing boxes) ds → Each (Agreeing boxes) (watched_if b ds (channel_of id new_lane []))
agreeing_watched boxes ds id true h = each_last (Agreeing boxes) ds (channel_of id new_lane []) h (agreeing_new boxes id)
agreeing_watched boxes ds id false h = h

-- ---- clients

pub agree_watches : (id : ℤ) → AgreeAsClientsGoOn (watches id)
agree_watches id s boxes c a = record {
  common = a.common;
  secret = a.secret;
  settings = a.settings;
  one_mode = a.one_mode;
  channels = agreeing_watched boxes c.channels id (may_watch c.channels id) a.channels;
}

pub agree_wakes : AgreeAsClientsGoOn wakes
agree_wakes s boxes c a = record {
  common = a.common;
  secret = a.secret;
  settings = a.settings;
  one_mode = a.one_mode;
  channels = each_by (Agreeing boxes) (Agreeing boxes) flagged (agreeing_flagged boxes) c.channels a.channels;
}

forget_mode : (t : LaneState EventView) → (forget t).mode ≡ Live
unfolding forget
forget_mode t = refl

pub agree_restarts : AgreeAsClientsGoOn restarted
agree_restarts s boxes c a = record {
  common = fits_forget s.common c.common a.common;
  secret = fits_forget s.secret c.secret a.secret;
  settings = agree_forgotten s.settings s.date c.settings a.settings;
  one_mode = (forget_mode c.secret ∙ sym (forget_mode c.common), sym (forget_mode c.common));
  channels = each_by (Agreeing boxes) (Agreeing boxes) flagged (agreeing_flagged boxes) (forgotten c.channels)
      (each_by (Agreeing boxes) (Agreeing boxes) forgot (agreeing_forgot boxes) c.channels a.channels);
}

agree_group_asks : (s : ServerState) (boxes : Boxes) (c : ClientState) → Agrees s boxes c → Agrees s boxes (group_asks c)
agree_group_asks s boxes c a = record {
  common = fits_asked s.common c.common c.next a.common;
  secret = fits_asked s.secret c.secret c.next a.secret;
  settings = agree_asked s.settings s.date c.settings c.next a.settings;
  one_mode = (refl, refl);
  channels = a.channels;
}

pub agree_group_ticked : (s : ServerState) (boxes : Boxes) (c : ClientState) (b : Bool) → group_is_due c ≡ b → Agrees s boxes c → Agrees s boxes (group_ticked c).client
agree_group_ticked s boxes c true e a = rw e (agree_group_asks s boxes c a)
agree_group_ticked s boxes c false e a = rw e a

agree_channels_ticked : (s : ServerState) (boxes : Boxes) (a : asking.Asked) → Agrees s boxes a.client → Agrees s boxes (channels_ticked a).client
agree_channels_ticked s boxes a h = record {
  common = h.common;
  secret = h.secret;
  settings = h.settings;
  one_mode = h.one_mode;
  channels = agreeing_ticked boxes a.client.channels a.client.next h.channels;
}

pub agree_ticks : AgreeAsClientsGoOn (λ c. (ticks c).client)
agree_ticks s boxes c a = agree_channels_ticked s boxes (group_ticked c) (agree_group_ticked s boxes c (group_is_due c) refl a)

-- ---- who asks stands still

live_asks : (n : ℕ) (m : Mode) → m ≡ Live → m ≡ Asking n → ⊥
live_asks n m e f = absurd cc

asking_is : (m n : ℕ) → Asking m ≡ Asking n → m ≡ n
asking_is m n e = cc

pub still_wakes : StillAsClientsGoOn wakes
still_wakes c = record {
  next = refl;
  few = λ h. omega (arith, h, length-map c.channels flagged);
  asks = λ n o h. record { group = h.group; channels = each_by (ChannelAsksBy n o) (ChannelAsksBy n o) flagged (λ d g. g) c.channels h.channels };
}

forgot_asks : (n : ℕ) (o : Option Asked) (d : ChannelState) → ChannelAsksBy n o d → ChannelAsksBy n o (forgot d)
forgot_asks n o d g e = absurd (live_asks n (forget d.lane).mode (forget_mode d.lane) e)

pub still_restarts : StillAsClientsGoOn restarted
still_restarts c = record {
  next = refl;
  few = λ h. omega (arith, h, length-map c.channels forgot, length-map (forgotten c.channels) flagged);
  asks = λ n o h. record {
    group = λ e. absurd (live_asks n (forget c.common).mode (forget_mode c.common) e);
    channels = each_by (ChannelAsksBy n o) (ChannelAsksBy n o) flagged (λ d g. g) (forgotten c.channels)
        (each_by (ChannelAsksBy n o) (ChannelAsksBy n o) forgot (forgot_asks n o) c.channels h.channels);
  };
}

new_asks : (n : ℕ) (o : Option Asked) (id : ℤ) → ChannelAsksBy n o (channel_of id new_lane [])
new_asks n o id e = absurd cc

asks_watched : (n : ℕ) (o : Option Asked) (ds : List ChannelState) (id : ℤ) (b : Bool) → Each (ChannelAsksBy n o) ds → Each (ChannelAsksBy n o) (watched_if b ds (channel_of id new_lane []))
asks_watched n o ds id true h = each_last (ChannelAsksBy n o) ds (channel_of id new_lane []) h (new_asks n o id)
asks_watched n o ds id false h = h

free_by : (b : Bool) (n : ℕ) → cond b false (ltb n MAX_CHANNELS) ≡ true → n < MAX_CHANNELS
free_by true n e = absurd (let w : false ≡ true = e in cc)
free_by false n e = grind (arith, nat_tests)

few_watched : (ds : List ChannelState) (id : ℤ) (b : Bool) → may_watch ds id ≡ b → length ds ≤ MAX_CHANNELS → length (watched_if b ds (channel_of id new_lane [])) ≤ MAX_CHANNELS
few_watched ds id true e h = omega (arith, free_by (is_watched ds id) (length ds) e, length-append ds (channel_of id new_lane [] ∷ []))
few_watched ds id false e h = h

pub still_watches : (id : ℤ) → StillAsClientsGoOn (watches id)
still_watches id c = record {
  next = refl;
  few = few_watched c.channels id (may_watch c.channels id) refl;
  asks = λ n o h. record { group = h.group; channels = asks_watched n o c.channels id (may_watch c.channels id) h.channels };
}
