-- Each step keeps settings agreeing with a list of them.
use Rattle.std.proofs.Common.{◌≡◌, ℕ, zero, suc, ◌+◌, ◌<◌, ◌≤◌, List, [], ◌∷◌, ◌++◌, length, get_or, sym, ap, ◌∙◌, subst, inl, inr, arith}
use Rattle.std.specs.List.{All}
use Rattle.std.specs.Ordering.{nat_cmp}
use Rattle.std.specs.FinMap.{len, insert, empty, get-empty}
use Rattle.std.proofs.lemmas.Option.{none-some}
use Rattle.std.proofs.lemmas.List.{length-append}
use Rattle.pts_machine.specs.Holding.{Items, from}
use Rattle.pts_machine.proofs.Maps.{from_some, insert_some}
use Rattle.pts_machine.specs.declared.mode.Mode.TheVariants.{Live}
use Rattle.pts_machine.specs.declared.seen.Seen.{Seen}
use Rattle.pts_machine.specs.declared.seen.Seen.TheVariants.{Applied, Already, Held, Dropped}
use Rattle.pts_machine.specs.Chains.{chain, reach}
use Rattle.pts_machine.specs.States.{LaneState}
use Rattle.pts_machine.specs.Steps.{settle, Hears}
use Rattle.pts_machine.proofs.Ends.{none_at, some_at, look}
use Rattle.pts_machine.proofs.Kept.{hears}
use Rattle.box_events.specs.declared.settings.Setting.{Setting}
use Rattle.box_events.specs.SettingLists.{Values, Dated, IsLatest, AreSince, IsOverlay, NeverFallFrom}
use Rattle.pts_machine.specs.Packs.{Pack, puts, last_date}
use Rattle.pts_machine.specs.SeqStates.{SettingsState, lane_of, applied, hear_pack, overlaid, asked, asks_again, forgotten, loaded, new_settings}
use Rattle.pts_machine.specs.Latest.{IsStretch, AreStretches}
use Rattle.pts_machine.specs.Agreeing.{LieWithin, SettingsAgree}
use Rattle.pts_machine.proofs.Stays.{latest_hear, latest_over}
use Rattle.pts_machine.proofs.Growing.{latest_none, latest_longer}
use Rattle.pts_machine.proofs.Dates.{first_date, since_hear, since_over, since_grows, last_append}

-- ---- what is held lies within the list

within_from : (L : List Dated) (p : ℕ) (m : Items Pack) → LieWithin L m → LieWithin L (from p m)
within_from L p m within s x e = within s x (from_some p m s x e).1

within_empty : (L : List Dated) → LieWithin L empty
within_empty L s x e = absurd (none-some x (sym (get-empty nat_cmp s) ∙ e))

within_insert : (L : List Dated) (m : Items Pack) (s : ℕ) (v : ℕ × Pack) → LieWithin L m → s < v.0 → v.0 ≤ length L → LieWithin L (insert m s v)
within_insert L m s v within lt le q x e = elim (insert_some m s v q x e) [
  | inl h ↦
      let at : q ≡ s = h.0 in
      let end : v.0 ≡ x.0 = ap (λ (y : ℕ × Pack). y.0) h.1 in
      (omega arith, omega arith)
  | inr h ↦ within q x h
]

within_settle : (L : List Dated) (t : LaneState Pack) → LieWithin L t.held → LieWithin L (settle t).held
unfolding settle
within_settle L t within = within_from L (reach (len t.held) t.at t.held) t.held within

within_by : (L : List Dated) (t : LaneState Pack) (start end : ℕ) (pack : Pack) (r : Seen) (u : LaneState Pack) → LieWithin L t.held → start < end → end ≤ length L → Hears t start end pack r u → LieWithin L u.held
within_by L t start end pack Already u within lt le s = subst (λ (v : LaneState Pack). LieWithin L v.held) (sym s.1) within
within_by L t start end pack (Applied to) u within lt le s = subst (λ (v : LaneState Pack). LieWithin L v.held) (sym s.2) (within_settle L (record t { events = t.events ++ pack ∷ []; at = end }) within)
within_by L t start end pack Held u within lt le s = subst (λ (v : LaneState Pack). LieWithin L v.held) (sym s.3) (within_insert L t.held start (end, pack) within lt le)
within_by L t start end pack Dropped u within lt le s = subst (λ (v : LaneState Pack). LieWithin L v.held) (sym s.3) within

-- ---- and what is reached

inside_chain : (L : List Dated) (n p : ℕ) (m : Items Pack) → LieWithin L m → p ≤ length L → reach n p m ≤ length L
unfolding reach
inside_chain L zero p m within le = le
inside_chain L (suc n) p m within le = elim (look m p) [
  | none_at e ↦ rw e le
  | some_at x e ↦ rw e (inside_chain L n x.0 m within (within p x e).1)
]

inside_settle : (L : List Dated) (t : LaneState Pack) → LieWithin L t.held → t.at ≤ length L → (settle t).at ≤ length L
unfolding settle
inside_settle L t within le = inside_chain L (len t.held) t.at t.held within le

inside_by : (L : List Dated) (t : LaneState Pack) (start end : ℕ) (pack : Pack) (r : Seen) (u : LaneState Pack) → LieWithin L t.held → end ≤ length L → t.at ≤ length L → Hears t start end pack r u → u.at ≤ length L
inside_by L t start end pack Already u within le inside s = subst (λ (v : LaneState Pack). v.at ≤ length L) (sym s.1) inside
inside_by L t start end pack (Applied to) u within le inside s = subst (λ (v : LaneState Pack). v.at ≤ length L) (sym s.2) (inside_settle L (record t { events = t.events ++ pack ∷ []; at = end }) within le)
inside_by L t start end pack Held u within le inside s = subst (λ (v : LaneState Pack). v.at ≤ length L) (sym s.3) inside
inside_by L t start end pack Dropped u within le inside s = subst (λ (v : LaneState Pack). v.at ≤ length L) (sym s.3) inside

-- ---- no pack's date is past that of the server

some_setting : Dated
some_setting = record { setting = record { key = []; value = [] }; date = 0 }

past_stretch : (L : List Dated) (now s e : ℕ) (pack : Pack) → All (λ x. x.date ≤ now) L → s < e → e ≤ length L → IsStretch L s e pack → pack.date ≤ now
past_stretch L now s e pack all lt le is =
    let first : (get_or L s some_setting).date ≡ pack.date = first_date L s e pack some_setting lt le is in
    let past : (get_or L s some_setting).date ≤ now = all s some_setting (omega arith) in
    omega (arith, first, past)

past_chain : (L : List Dated) (now n p d : ℕ) (m : Items Pack) → All (λ x. x.date ≤ now) L → AreStretches L m → LieWithin L m → d ≤ now → last_date d (chain n p m) ≤ now
unfolding chain
past_chain L now zero p d m all are within le = le
past_chain L now (suc n) p d m all are within le = elim (look m p) [
  | none_at e ↦ rw e le
  | some_at x e ↦ let in_it = within p x e in rw e (past_chain L now n x.0 x.1.date m all are within (past_stretch L now p x.0 x.1 all in_it.0 in_it.1 (are p x e)))
]

past_settle : (L : List Dated) (now : ℕ) (b : SettingsState) (t : LaneState Pack) → All (λ x. x.date ≤ now) L → AreStretches L t.held → LieWithin L t.held → last_date b.date t.events ≤ now → (applied b (settle t)).date ≤ now
unfolding settle
past_settle L now b t all are within le =
    subst (λ (d : ℕ). d ≤ now) (sym (last_append t.events (chain (len t.held) t.at t.held) b.date)) (past_chain L now (len t.held) t.at (last_date b.date t.events) t.held all are within le)

past_by : (L : List Dated) (now : ℕ) (b : SettingsState) (start end : ℕ) (pack : Pack) (r : Seen) (u : LaneState Pack)
    → All (λ x. x.date ≤ now) L → AreStretches L b.held → LieWithin L b.held → start < end → end ≤ length L → IsStretch L start end pack → b.date ≤ now → Hears (lane_of b) start end pack r u → (applied b u).date ≤ now
past_by L now b start end pack Already u all are within lt le is past s = subst (λ (t : LaneState Pack). (applied b t).date ≤ now) (sym s.1) past
past_by L now b start end pack (Applied to) u all are within lt le is past s =
    subst (λ (t : LaneState Pack). (applied b t).date ≤ now) (sym s.2) (past_settle L now b (record (lane_of b) { events = pack ∷ []; at = end }) all are within (past_stretch L now start end pack all lt le is))
past_by L now b start end pack Held u all are within lt le is past s = subst (λ (t : LaneState Pack). (applied b t).date ≤ now) (sym s.3) past
past_by L now b start end pack Dropped u all are within lt le is past s = subst (λ (t : LaneState Pack). (applied b t).date ≤ now) (sym s.3) past

-- ---- the steps

pub agree_hear : (L : List Dated) (now : ℕ) (b : SettingsState) (start end : ℕ) (pack : Pack)
    → NeverFallFrom b.at L → All (λ e. e.date ≤ now) L → SettingsAgree L now b → start < end → end ≤ length L → IsStretch L start end pack → SettingsAgree L now (hear_pack b start end pack).state
unfolding hear_pack
agree_hear L now b start end pack rise all h lt le is =
    let s = hears (lane_of b) start end pack in
    record {
      latest = latest_hear L b start end pack h.latest is;
      within = within_by L (lane_of b) start end pack _ _ h.within lt le s;
      inside = inside_by L (lane_of b) start end pack _ _ h.within le h.inside s;
      since = since_hear L b start end pack rise h.latest.held h.within lt le is h.since;
      past = past_by L now b start end pack _ _ all h.latest.held h.within lt le is h.past s;
    }

pub agree_over : (L : List Dated) (now : ℕ) (b : SettingsState) (settings : List Setting) (seq date : ℕ)
    → NeverFallFrom seq L → All (λ e. e.date ≤ now) L → SettingsAgree L now b → b.at ≤ seq → seq ≤ length L → AreSince L seq date → date ≤ now → IsOverlay L seq b.date settings → SettingsAgree L now (overlaid b settings seq date)
unfolding overlaid
agree_over L now b settings seq date rise all h up le since past over =
    let put : SettingsState = record b { at = seq; date = date; table = puts b.table settings; mode = Live } in
    record {
      latest = latest_over L b settings seq date h.latest up h.since over;
      within = within_settle L (lane_of put) h.within;
      inside = inside_settle L (lane_of put) h.within le;
      since = since_over L b settings seq date rise h.latest.held h.within since;
      past = past_settle L now put (lane_of put) all h.latest.held h.within past;
    }

pub agree_asked : (L : List Dated) (now : ℕ) (b : SettingsState) (number : ℕ) → SettingsAgree L now b → SettingsAgree L now (asked b number)
agree_asked L now b number h = record { latest = record { table = h.latest.table; held = h.latest.held }; within = h.within; inside = h.inside; since = h.since; past = h.past }

pub agree_again : (L : List Dated) (now : ℕ) (b : SettingsState) → SettingsAgree L now b → SettingsAgree L now (asks_again b)
agree_again L now b h = record { latest = record { table = h.latest.table; held = h.latest.held }; within = h.within; inside = h.inside; since = h.since; past = h.past }

nothing_held : (L : List Dated) → AreStretches L empty
nothing_held L s x e = absurd (none-some x (sym (get-empty nat_cmp s) ∙ e))

pub agree_forgotten : (L : List Dated) (now : ℕ) (b : SettingsState) → SettingsAgree L now b → SettingsAgree L now (forgotten b)
agree_forgotten L now b h = record { latest = record { table = h.latest.table; held = nothing_held L }; within = within_empty L; inside = h.inside; since = h.since; past = h.past }

pub agree_loaded : (L : List Dated) (now seq date : ℕ) (table : Values) → IsLatest L seq table → seq ≤ length L → AreSince L seq date → date ≤ now → SettingsAgree L now (loaded seq date table)
agree_loaded L now seq date table latest inside since past = record { latest = record { table = latest; held = nothing_held L }; within = within_empty L; inside = inside; since = since; past = past }

pub agree_new : (L : List Dated) (now : ℕ) → SettingsAgree L now new_settings
agree_new L now = agree_loaded L now 0 0 empty (latest_none L) (omega arith) (λ k d lt. omega arith) (omega arith)

pub agree_grows : (L more : List Dated) (now later : ℕ) (b : SettingsState) → All (λ e. b.date ≤ e.date) more → now ≤ later → SettingsAgree L now b → SettingsAgree (L ++ more) later b
agree_grows L more now later b new le h =
    let longer : length (L ++ more) ≡ length L + length more = length-append L more in
    record {
      latest = latest_longer L more b h.within h.inside h.latest;
      within = λ s x e. let w = h.within s x e in (w.0, omega (arith, w.1, longer));
      inside = omega (arith, h.inside, longer);
      since = since_grows L more b new h.since;
      past = omega (arith, h.past, le);
    }
