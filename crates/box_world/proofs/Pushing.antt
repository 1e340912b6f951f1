-- What pushes do to a client that agrees with its server.
use Rattle.std.proofs.Common.{◌≡◌, ℕ, ◌-◌, ◌<◌, ℤ, List, [], ◌∷◌, Bool, true, false, cond, Option, ltb, refl, sym, ap, ◌∙◌, subst, arith, length, ◌≤◌}
use Rattle.std.proofs.lemmas.Bool.Decides.{nat_tests}
use Rattle.box_events.specs.declared.limits.TheConstants.{MAX_CHANNELS}
use Rattle.box_events.specs.Events.{EventView, added, count_of}
use Rattle.box_events.specs.SettingLists.{NeverFallFrom}
use Rattle.box_events.specs.declared.updates.Update.{Update}
use Rattle.box_events.specs.declared.updates.Update.TheVariants.{Common, Secret, Channel, ChannelTooLong, Setting}
use Rattle.box_events.specs.declared.updates.Push.{Push}
use Rattle.box_events.specs.declared.updates.Push.TheVariants.{TooLong, Container}
use Rattle.pts_machine.specs.declared.mode.Mode.{Mode}
use Rattle.pts_machine.specs.declared.mode.Mode.TheVariants.{Asking}
use Rattle.pts_machine.specs.States.{is_live}
use Rattle.pts_machine.specs.Steps.{hear}
use Rattle.pts_machine.proofs.Fitting.{fits_hear}
use Rattle.pts_machine.proofs.Moves.{hear_mode, hear_at, hear_restart}
use Rattle.pts_machine.specs.Packs.{Pack, pack_of}
use Rattle.pts_machine.specs.SeqStates.{SettingsState, hear_pack}
use Rattle.pts_machine.proofs.StateSteps.{pack_mode, pack_stands}
use Rattle.pts_machine.proofs.Agreements.{agree_hear}
use Rattle.channel_box.specs.States.{ChannelState, has_id}
use Rattle.channel_box.specs.Steps.{at_first, heard_by, flagged}
use Rattle.channel_box.proofs.Ids.{eq_of}
use Rattle.box_server.specs.Servers.{ServerState}
use Rattle.box_server.specs.Growing.{LiesAt, AllLie}
use Rattle.box_client.specs.States.{ClientState}
use Rattle.box_client.specs.Pushes.{settings_heard, updated, all_updated, settings_in, pack_heard, pushed}
use Rattle.box_world.specs.Agreeing.{Boxes, Each, IsRecent, ChannelAgrees, Agrees}
use Rattle.box_world.specs.Awaiting.{Asked, GroupAsks, ChannelAsks, ChannelAsksBy, Still}
use Rattle.box_world.specs.Growing.{IsLedger}
use Rattle.box_world.specs.Pushing.{PackLies, PushLies}

-- ---- a client that goes on

pub record Goes (s : ServerState) (boxes : Boxes) (c d : ClientState) : Type 0 where
  pub agrees : Agrees s boxes d
  pub still : Still c d

pub goes_none : (s : ServerState) (boxes : Boxes) (c : ClientState) → Agrees s boxes c → Goes s boxes c c
goes_none s boxes c a = record { agrees = a; still = record { next = refl; few = λ h. h; asks = λ n o h. h } }

pub goes_then : (s : ServerState) (boxes : Boxes) (b c d : ClientState) → Goes s boxes b c → Goes s boxes c d → Goes s boxes b d
goes_then s boxes b c d g h = record { agrees = h.agrees; still = record { next = h.still.next ∙ g.still.next; few = λ f. h.still.few (g.still.few f); asks = λ n o w. h.still.asks n o (g.still.asks n o w) } }

-- ---- channels

first_by : (P : ChannelState → Type 0) (f : ChannelState → ChannelState) (d : ChannelState) (ds es : List ChannelState) (b : Bool)
    → (b ≡ true → P (f d)) → P d → Each P ds → Each P es → Each P (cond b (f d ∷ ds) (d ∷ es))
first_by P f d ds es true new old rest more = (new refl, rest)
first_by P f d ds es false new old rest more = (old, more)

pub each_at_first : (P : ChannelState → Type 0) (p : ChannelState → Bool) (f : ChannelState → ChannelState) → ((d : ChannelState) → p d ≡ true → P d → P (f d))
    → (ds : List ChannelState) → Each P ds → Each P (at_first p f ds)
each_at_first P p f g [] h = tt
each_at_first P p f g (d ∷ ds) h = first_by P f d ds (at_first p f ds) (p d) (λ e. g d e h.0) h.0 h.1 (each_at_first P p f g ds h.1)

length_by : (f : ChannelState → ChannelState) (d : ChannelState) (ds es : List ChannelState) (b : Bool) → length es ≡ length ds → length (cond b (f d ∷ ds) (d ∷ es)) ≡ length (d ∷ ds)
length_by f d ds es true e = refl
length_by f d ds es false e = omega (arith, e)

length_at_first : (p : ChannelState → Bool) (f : ChannelState → ChannelState) (ds : List ChannelState) → length (at_first p f ds) ≡ length ds
length_at_first p f [] = refl
length_at_first p f (d ∷ ds) = length_by f d ds (at_first p f ds) (p d) (length_at_first p f ds)

pub few_at_first : (p : ChannelState → Bool) (f : ChannelState → ChannelState) (ds : List ChannelState) → length ds ≤ MAX_CHANNELS → length (at_first p f ds) ≤ MAX_CHANNELS
few_at_first p f ds h = omega (arith, h, length_at_first p f ds)

pub recent_same : (box : List EventView) (c d : ChannelState) → d.lane.restart ≡ c.lane.restart → d.recent ≡ c.recent → IsRecent box c → IsRecent box d
recent_same box c d e f h = record { prefix = h.prefix; rest = h.rest; whole = h.whole; stop = h.stop ∙ sym e; content = f ∙ h.content }

pub not_live : (m : Mode) (n : ℕ) → m ≡ Asking n → is_live m ≡ false
not_live m n e = ap is_live e

hear_in : (s : ServerState) (boxes : Boxes) (id : ℤ) (event : EventView) (pts : ℕ) (d : ChannelState) → IsLedger s boxes → LiesAt (boxes id) pts event → has_id id d ≡ true
    → ChannelAgrees (boxes d.id) d → ChannelAgrees (boxes d.id) (heard_by d (hear d.lane (pts - count_of event) pts event))
hear_in s boxes id event pts d k lies e h =
    let here : LiesAt (boxes d.id) pts event = subst (λ (i : ℤ). LiesAt (boxes i) pts event) (sym (eq_of d.id id e)) lies in
    record {
      lane = fits_hear (boxes d.id) d.lane (pts - count_of event) pts event (k.channels d.id) h.lane here;
      recent = recent_same (boxes d.id) d (heard_by d (hear d.lane (pts - count_of event) pts event)) (hear_restart d.lane (pts - count_of event) pts event) refl h.recent;
    }

flag_in : (boxes : Boxes) (d : ChannelState) → ChannelAgrees (boxes d.id) d → ChannelAgrees (boxes d.id) (flagged d)
flag_in boxes d h = record { lane = h.lane; recent = recent_same (boxes d.id) d (flagged d) refl refl h.recent }

hear_asks : (n : ℕ) (o : Option Asked) (start end : ℕ) (event : EventView) (d : ChannelState) → ChannelAsksBy n o d → ChannelAsksBy n o (heard_by d (hear d.lane start end event))
hear_asks n o start end event d g e =
    let was : d.lane.mode ≡ Asking n = sym (hear_mode d.lane start end event) ∙ e in
    subst (λ (x : ℕ). ChannelAsks o d.id x) (sym (hear_at d.lane start end event (not_live d.lane.mode n was))) (g was)

-- ---- updates

goes_common : (s : ServerState) (boxes : Boxes) (c : ClientState) (event : EventView) (pts : ℕ) → IsLedger s boxes → LiesAt s.common pts event → Agrees s boxes c → Goes s boxes c (updated c (Common event pts))
goes_common s boxes c event pts k lies a =
    let start : ℕ = pts - count_of event in
    record {
      agrees = record {
        common = fits_hear s.common c.common start pts event k.common a.common lies;
        secret = a.secret;
        settings = a.settings;
        one_mode = (a.one_mode.0 ∙ sym (hear_mode c.common start pts event), a.one_mode.1 ∙ sym (hear_mode c.common start pts event));
        channels = a.channels;
      };
      still = record {
        next = refl;
        few = λ h. h;
        asks = λ n o h. record {
          group = λ e.
              let was : c.common.mode ≡ Asking n = sym (hear_mode c.common start pts event) ∙ e in
              subst (λ (x : ℕ). GroupAsks o x c.secret.at c.settings.date c.settings.at) (sym (hear_at c.common start pts event (not_live c.common.mode n was))) (h.group was);
          channels = h.channels;
        };
      };
    }

goes_secret : (s : ServerState) (boxes : Boxes) (c : ClientState) (body : List ℕ) (qts : ℕ) → IsLedger s boxes → LiesAt s.secret qts (added body) → Agrees s boxes c → Goes s boxes c (updated c (Secret body qts))
goes_secret s boxes c body qts k lies a =
    let start : ℕ = qts - 1 in
    record {
      agrees = record {
        common = a.common;
        secret = fits_hear s.secret c.secret start qts (added body) k.secret a.secret lies;
        settings = a.settings;
        one_mode = (hear_mode c.secret start qts (added body) ∙ a.one_mode.0, a.one_mode.1);
        channels = a.channels;
      };
      still = record {
        next = refl;
        few = λ h. h;
        asks = λ n o h. record {
          group = λ e. subst (λ (x : ℕ). GroupAsks o c.common.at x c.settings.date c.settings.at) (sym (hear_at c.secret start qts (added body) (not_live c.secret.mode n (a.one_mode.0 ∙ e)))) (h.group e);
          channels = h.channels;
        };
      };
    }

goes_channel : (s : ServerState) (boxes : Boxes) (c : ClientState) (id : ℤ) (event : EventView) (pts : ℕ) → IsLedger s boxes → LiesAt (boxes id) pts event → Agrees s boxes c
    → Goes s boxes c (updated c (Channel id event pts))
goes_channel s boxes c id event pts k lies a =
    let start : ℕ = pts - count_of event in
    record {
      agrees = record {
        common = a.common;
        secret = a.secret;
        settings = a.settings;
        one_mode = a.one_mode;
        channels = each_at_first (λ d. ChannelAgrees (boxes d.id) d) (has_id id) (λ d. heard_by d (hear d.lane start pts event)) (λ d e h. hear_in s boxes id event pts d k lies e h) c.channels a.channels;
      };
      still = record {
        next = refl;
        few = few_at_first (has_id id) (λ d. heard_by d (hear d.lane start pts event)) c.channels;
        asks = λ n o h. record {
          group = h.group;
          channels = each_at_first (ChannelAsksBy n o) (has_id id) (λ d. heard_by d (hear d.lane start pts event)) (λ d e g. hear_asks n o start pts event d g) c.channels h.channels;
        };
      };
    }

goes_flagged : (s : ServerState) (boxes : Boxes) (c : ClientState) (id : ℤ) → Agrees s boxes c → Goes s boxes c (updated c (ChannelTooLong id))
goes_flagged s boxes c id a = record {
  agrees = record {
    common = a.common;
    secret = a.secret;
    settings = a.settings;
    one_mode = a.one_mode;
    channels = each_at_first (λ d. ChannelAgrees (boxes d.id) d) (has_id id) flagged (λ d e h. flag_in boxes d h) c.channels a.channels;
  };
  still = record {
    next = refl;
    few = few_at_first (has_id id) flagged c.channels;
    asks = λ n o h. record { group = h.group; channels = each_at_first (ChannelAsksBy n o) (has_id id) flagged (λ d e g. g) c.channels h.channels };
  };
}

pub goes_updates : (s : ServerState) (boxes : Boxes) (c : ClientState) (us : List Update) → IsLedger s boxes → AllLie s boxes us → Agrees s boxes c → Goes s boxes c (all_updated c us)
goes_updates s boxes c [] k lie a = goes_none s boxes c a
goes_updates s boxes c (Common event pts ∷ us) k lie a =
    let one = goes_common s boxes c event pts k lie.0 a in
    let next : ClientState = updated c (Common event pts) in
    goes_then s boxes c next (all_updated next us) one (goes_updates s boxes next us k lie.1 one.agrees)
goes_updates s boxes c (Secret body qts ∷ us) k lie a =
    let one = goes_secret s boxes c body qts k lie.0 a in
    let next : ClientState = updated c (Secret body qts) in
    goes_then s boxes c next (all_updated next us) one (goes_updates s boxes next us k lie.1 one.agrees)
goes_updates s boxes c (Channel id event pts ∷ us) k lie a =
    let one = goes_channel s boxes c id event pts k lie.0 a in
    let next : ClientState = updated c (Channel id event pts) in
    goes_then s boxes c next (all_updated next us) one (goes_updates s boxes next us k lie.1 one.agrees)
goes_updates s boxes c (ChannelTooLong id ∷ us) k lie a =
    let one = goes_flagged s boxes c id a in
    let next : ClientState = updated c (ChannelTooLong id) in
    goes_then s boxes c next (all_updated next us) one (goes_updates s boxes next us k lie one.agrees)
goes_updates s boxes c (Setting x ∷ us) k lie a = goes_updates s boxes c us k lie a

-- ---- settings

later_rise : (s : ServerState) (boxes : Boxes) (n : ℕ) → IsLedger s boxes → NeverFallFrom n s.settings
later_rise s boxes n k i j d a b c = k.rise i j d (omega arith) b c

goes_pack : (s : ServerState) (boxes : Boxes) (c : ClientState) (start end : ℕ) (pack : Pack) → IsLedger s boxes → PackLies s start end pack → Agrees s boxes c
    → Goes s boxes c (settings_heard c (hear_pack c.settings start end pack))
goes_pack s boxes c start end pack k lies a = record {
  agrees = record {
    common = a.common;
    secret = a.secret;
    settings = agree_hear s.settings s.date c.settings start end pack (later_rise s boxes c.settings.at k) k.dates a.settings lies.order lies.within lies.stretch;
    one_mode = (a.one_mode.0, pack_mode c.settings start end pack ∙ a.one_mode.1);
    channels = a.channels;
  };
  still = record {
    next = refl;
    few = λ h. h;
    asks = λ n o h. record {
      group = λ e.
          let same = pack_stands c.settings start end pack (not_live c.settings.mode n (a.one_mode.1 ∙ e)) in
          subst (λ (b : SettingsState). GroupAsks o c.common.at c.secret.at b.date b.at) (sym same) (h.group e);
      channels = h.channels;
    };
  };
}

goes_pack_if : (s : ServerState) (boxes : Boxes) (c : ClientState) (b : Bool) (seq_start seq date : ℕ) (us : List Update) → IsLedger s boxes
    → (b ≡ true → PackLies s (seq_start - 1) seq (pack_of date (settings_in us))) → Agrees s boxes c → Goes s boxes c (pack_heard b c seq_start seq date (settings_in us))
goes_pack_if s boxes c true seq_start seq date us k lies a = goes_pack s boxes c (seq_start - 1) seq (pack_of date (settings_in us)) k (lies refl) a
goes_pack_if s boxes c false seq_start seq date us k lies a = goes_none s boxes c a

-- ---- pushes

above : (n : ℕ) → ltb 0 n ≡ true → 0 < n
above n e = grind (arith, nat_tests)

pub goes_pushed : (s : ServerState) (boxes : Boxes) (c : ClientState) (p : Push) → IsLedger s boxes → PushLies s boxes p → Agrees s boxes c → Goes s boxes c (pushed c p)
goes_pushed s boxes c TooLong k lies a = record {
  agrees = record { common = a.common; secret = a.secret; settings = a.settings; one_mode = a.one_mode; channels = a.channels };
  still = record { next = refl; few = λ h. h; asks = λ n o h. record { group = h.group; channels = h.channels } };
}
goes_pushed s boxes c (Container us date seq_start seq) k lies a =
    let one = goes_updates s boxes c us k lies.0 a in
    let next : ClientState = all_updated c us in
    goes_then s boxes c next (pack_heard (ltb 0 seq) next seq_start seq date (settings_in us)) one
    (goes_pack_if s boxes next (ltb 0 seq) seq_start seq date us k (λ e. lies.1 (above seq e)) one.agrees)
