-- The steps of the settings, from what the parts of the code give.
use Rattle.std.proofs.Common.{◌≡◌, ℕ, ◌+◌, ◌<◌, ◌≤◌, List, [], ◌∷◌, false, refl, ap, ◌∙◌}
use Rattle.std.specs.FinMap.{len, empty}
use Rattle.pts_machine.specs.Holding.{Items, from}
use Rattle.pts_machine.specs.declared.mode.Mode.{Mode}
use Rattle.pts_machine.specs.declared.mode.Mode.TheVariants.{Live}
use Rattle.pts_machine.specs.declared.seen.Seen.{Seen}
use Rattle.pts_machine.specs.declared.seen.Seen.TheVariants.{Applied}
use Rattle.pts_machine.specs.Chains.{chain, reach}
use Rattle.pts_machine.specs.States.{LaneState, is_live}
use Rattle.pts_machine.specs.Steps.{Heard, settle, hear, Hears}
use Rattle.pts_machine.proofs.Bounds.{sized_empty, after_empty}
use Rattle.pts_machine.proofs.Parts.{never_past}
use Rattle.pts_machine.proofs.Kept.{hear_is, hears, HoldsAhead, ahead_by, ahead_settle, after_of}
use Rattle.pts_machine.proofs.Moves.{hear_mode, hear_at, hear_events}
use Rattle.pts_machine.proofs.Ends.{reach_up}
use Rattle.box_events.specs.declared.settings.Setting.{Setting}
use Rattle.box_events.specs.SettingLists.{Values}
use Rattle.pts_machine.specs.Packs.{Pack, puts, puts_all, last_date, size}
use Rattle.pts_machine.specs.SeqStates.{SettingsState, lane_of, applied, hear_pack, overlaid, asked, asks_again, forgotten, loaded, new_settings, IsSoundState}

pub heard_pack : (b : SettingsState) (start end : ℕ) (p : Pack) (r : Seen) (u : LaneState Pack) → Hears (lane_of b) start end p r u → hear_pack b start end p ≡ record { state = applied b u; seen = r }
unfolding hear_pack
heard_pack b start end p r u h = ap (λ (x : Heard Pack). record { state = applied b x.state; seen = x.seen }) (hear_is (lane_of b) start end p r u h)

-- a pack in turn is laid over what is kept
pub next_overlaid : (b : SettingsState) (p : Pack) (end : ℕ) → b.mode ≡ Live → applied b (settle (record (lane_of b) { events = p ∷ []; at = end })) ≡ overlaid b p.settings end p.date
unfolding settle overlaid
next_overlaid b p end live =
    let to : ℕ = reach (len b.held) end b.held in
    let more : List Pack = chain (len b.held) end b.held in
    λ i. record { at = to; date = last_date p.date more; table = puts_all (puts b.table p.settings) more; held = from to b.held; mode = live i }

pub overlaid_is : (b : SettingsState) (xs : List Setting) (seq day at date : ℕ) (table : Values) (held : Items Pack)
    → table ≡ puts_all (puts b.table xs) (chain (len b.held) seq b.held) → date ≡ last_date day (chain (len b.held) seq b.held) → at ≡ reach (len b.held) seq b.held → held ≡ from at b.held
    → ◌≡◌ {A = SettingsState} (record { at = at; date = date; table = table; held = held; mode = Live }) (overlaid b xs seq day)
unfolding settle overlaid
overlaid_is b xs seq day at date table held t d a h =
    let h2 = h ∙ ap (λ (k : ℕ). from k b.held) a in
    λ i. record { at = a i; date = d i; table = t i; held = h2 i; mode = Live }

pub heard_next : (b : SettingsState) (start end : ℕ) (p : Pack) → IsSoundState b → b.mode ≡ Live → start ≡ b.at → hear_pack b start end p ≡ record { state = overlaid b p.settings end p.date; seen = Applied (overlaid b p.settings end p.date).at }
heard_next b start end p sound live is =
    let u : LaneState Pack = settle (record (lane_of b) { events = p ∷ []; at = end }) in
    heard_pack b start end p (Applied u.at) u (never_past (lane_of b) start sound.ahead (live, is), (live, is), refl, refl)
    ∙ ap (λ (v : SettingsState). record { state = v; seen = Applied v.at }) (next_overlaid b p end live)

-- ---- each step keeps what holds of all settings

sound_state : (b : SettingsState) (u : LaneState Pack) → HoldsAhead size u → IsSoundState (applied b u)
sound_state b u h = record { sized = h.sized; ahead = h.ahead }

pub sound_heard : (b : SettingsState) (start end : ℕ) (p : Pack) (r : Seen) (u : LaneState Pack) → IsSoundState b → start < end → end ≡ start + size p → end ≤ 1000000 → Hears (lane_of b) start end p r u → IsSoundState (applied b u)
sound_heard b start end p r u h lt is le s = sound_state b u (ahead_by size (lane_of b) start end p r u (record { sized = h.sized; ahead = h.ahead }) lt is le s)

pub sound_hear : (b : SettingsState) (start end : ℕ) (p : Pack) → IsSoundState b → start < end → end ≡ start + size p → end ≤ 1000000 → IsSoundState (hear_pack b start end p).state
unfolding hear_pack
sound_hear b start end p h lt is le = sound_heard b start end p _ _ h lt is le (hears (lane_of b) start end p)

pub sound_overlaid : (b : SettingsState) (xs : List Setting) (seq day : ℕ) → IsSoundState b → IsSoundState (overlaid b xs seq day)
unfolding overlaid
sound_overlaid b xs seq day h =
    let put : SettingsState = record b { at = seq; date = day; table = puts b.table xs; mode = Live } in
    sound_state put (settle (lane_of put)) (ahead_settle size (lane_of put) h.sized)

pub sound_asked : (b : SettingsState) (number : ℕ) → IsSoundState b → IsSoundState (asked b number)
sound_asked b number h = record { sized = h.sized; ahead = λ e. absurd cc }

pub sound_again : (b : SettingsState) → IsSoundState b → IsSoundState (asks_again b)
sound_again b h = record { sized = h.sized; ahead = λ e. absurd cc }

-- where nothing is held
pub sound_empty : (at date : ℕ) (table : Values) (held : Items Pack) (mode : Mode) → held ≡ empty → IsSoundState (record { at = at; date = date; table = table; held = held; mode = mode })
sound_empty at date table held mode e = record { sized = rw e (sized_empty size); ahead = λ live. rw e (after_empty at) }

pub sound_loaded : (seq date : ℕ) (table : Values) → IsSoundState (loaded seq date table)
sound_loaded seq date table = sound_empty seq date table empty Live refl

pub sound_new : IsSoundState new_settings
sound_new = sound_loaded 0 0 empty

pub sound_forgotten : (b : SettingsState) → IsSoundState b → IsSoundState (forgotten b)
sound_forgotten b h = sound_empty b.at b.date b.table empty Live refl

-- ---- how the steps move settings

pub pack_mode : (b : SettingsState) (start end : ℕ) (p : Pack) → (hear_pack b start end p).state.mode ≡ b.mode
unfolding hear_pack
pack_mode b start end p = hear_mode (lane_of b) start end p

pub pack_stands : (b : SettingsState) (start end : ℕ) (p : Pack) → is_live b.mode ≡ false → (hear_pack b start end p).state ≡ record b { held = (hear_pack b start end p).state.held }
unfolding hear_pack
pack_stands b start end p waits =
    let none = hear_events (lane_of b) start end p waits in
    let at = hear_at (lane_of b) start end p waits in
    let mode = hear_mode (lane_of b) start end p in
    λ i. record { at = at i; date = last_date b.date (none i); table = puts_all b.table (none i); held = (hear (lane_of b) start end p).state.held; mode = mode i }

pub overlay_reaches : (b : SettingsState) (xs : List Setting) (seq day : ℕ) → IsSoundState b → seq ≤ (overlaid b xs seq day).at
unfolding overlaid settle
overlay_reaches b xs seq day h = reach_up (len b.held) seq b.held (after_of size b.held h.sized)

pub overlay_live : (b : SettingsState) (xs : List Setting) (seq day : ℕ) → (overlaid b xs seq day).mode ≡ Live
unfolding overlaid settle
overlay_live b xs seq day = refl
