-- Clients that agree with a server agree with it as it goes on.
use Rattle.std.proofs.Common.{◌≡◌, List, [], ◌∷◌, ◌++◌, refl, sym, ap, ◌∙◌, subst, arith}
use Rattle.box_events.specs.Events.{EventView}
use Rattle.box_events.specs.SettingLists.{Dated}
use Rattle.pts_machine.specs.States.{LaneState}
use Rattle.pts_machine.specs.Fitting.{Fits}
use Rattle.pts_machine.proofs.Fitting.{fits_grows, fits_new}
use Rattle.pts_machine.specs.Agreeing.{SettingsAgree}
use Rattle.pts_machine.proofs.Agreements.{agree_grows, agree_new}
use Rattle.channel_box.specs.States.{ChannelState}
use Rattle.box_world.specs.Agreeing.{Each, IsRecent, ChannelAgrees}
use Rattle.box_world.specs.Growing.{HasMore}
use Rattle.box_world.specs.Laws.{NewClientsAgree, AgreeAsServersGrow}

pub each_map : {A : Type 0} (P Q : A → Type 0) → ((x : A) → P x → Q x) → (xs : List A) → Each P xs → Each Q xs
each_map P Q f [] h = tt
each_map P Q f (x ∷ xs) h = (f x h.0, each_map P Q f xs h.1)

append_append : {A : Type 0} (xs ys zs : List A) → (xs ++ ys) ++ zs ≡ xs ++ (ys ++ zs)
append_append [] ys zs = refl
append_append (x ∷ xs) ys zs = ap (λ (l : List _). x ∷ l) (append_append xs ys zs)

pub fits_more : (prefix box : List EventView) (t : LaneState EventView) → HasMore prefix box → Fits prefix t → Fits box t
fits_more prefix box t m f = subst (λ (b : List EventView). Fits b t) (sym m.1) (fits_grows prefix m.0 t f)

recent_more : (prefix box : List EventView) (c : ChannelState) → HasMore prefix box → IsRecent prefix c → IsRecent box c
recent_more prefix box c m h = record {
  prefix = h.prefix;
  rest = h.rest ++ m.0;
  whole = m.1 ∙ ap (λ (l : List EventView). l ++ m.0) h.whole ∙ append_append h.prefix h.rest m.0;
  stop = h.stop;
  content = h.content;
}

channel_more : (prefix box : List EventView) (c : ChannelState) → HasMore prefix box → ChannelAgrees prefix c → ChannelAgrees box c
channel_more prefix box c m h = record { lane = fits_more prefix box c.lane m h.lane; recent = recent_more prefix box c m h.recent }

pub agree_as_servers_grow : AgreeAsServersGrow
agree_as_servers_grow s t before after c g a = record {
  common = fits_more s.common t.common c.common g.common a.common;
  secret = fits_more s.secret t.secret c.secret g.secret a.secret;
  settings = subst (λ (l : List Dated). SettingsAgree l t.date c.settings) (sym g.settings.1)
      (agree_grows s.settings g.settings.0 s.date t.date c.settings (λ k d lt. omega (arith, g.settings.2 k d lt, a.settings.past)) g.date a.settings);
  one_mode = a.one_mode;
  channels = each_map (λ d. ChannelAgrees (before d.id) d) (λ d. ChannelAgrees (after d.id) d) (λ d. channel_more (before d.id) (after d.id) d (g.channels d.id)) c.channels a.channels;
}

pub new_clients_agree : NewClientsAgree
new_clients_agree s boxes = record {
  common = fits_new s.common;
  secret = fits_new s.secret;
  settings = agree_new s.settings s.date;
  one_mode = (refl, refl);
  channels = tt;
}
