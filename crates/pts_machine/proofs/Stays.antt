-- Each step of the settings keeps the table the latest.
use Rattle.std.proofs.Common.{◌≡◌, ℕ, zero, suc, ◌≤◌, List, [], ◌∷◌, ◌++◌, refl, sym, subst, inl, inr}
use Rattle.std.specs.FinMap.{len, insert}
use Rattle.pts_machine.specs.Holding.{Items, from}
use Rattle.pts_machine.specs.declared.mode.Mode.TheVariants.{Live}
use Rattle.pts_machine.specs.declared.seen.Seen.{Seen}
use Rattle.pts_machine.specs.declared.seen.Seen.TheVariants.{Applied, Already, Held, Dropped}
use Rattle.pts_machine.specs.Chains.{chain, reach}
use Rattle.pts_machine.specs.States.{LaneState}
use Rattle.pts_machine.specs.Steps.{settle, Hears}
use Rattle.pts_machine.proofs.Ends.{none_at, some_at, look}
use Rattle.pts_machine.proofs.Maps.{from_some, insert_some}
use Rattle.pts_machine.proofs.Kept.{hears}
use Rattle.box_events.specs.declared.settings.Setting.{Setting}
use Rattle.box_events.specs.SettingLists.{Values, Dated, IsLatest, IsOverlay, AreSince}
use Rattle.pts_machine.specs.Packs.{Pack, puts, puts_all}
use Rattle.pts_machine.specs.SeqStates.{SettingsState, lane_of, applied, hear_pack, overlaid}
use Rattle.pts_machine.specs.Latest.{IsStretch, AreStretches, IsLatestState}
use Rattle.pts_machine.proofs.LatestValues.{latest_puts, latest_overlay}

pub latest_chain : (L : List Dated) (n p : ℕ) (m : Items Pack) (t : Values) → AreStretches L m → IsLatest L p t → IsLatest L (reach n p m) (puts_all t (chain n p m))
unfolding chain reach
latest_chain L zero p m t are latest = latest
latest_chain L (suc n) p m t are latest = elim (look m p) [
  | none_at e ↦ rw e latest
  | some_at x e ↦ rw e (latest_chain L n x.0 m (puts t x.1.settings) are (latest_puts L p x.0 t x.1.settings latest (are p x e).order (are p x e).is))
]

puts_append : (ps qs : List Pack) (t : Values) → puts_all t (ps ++ qs) ≡ puts_all (puts_all t ps) qs
puts_append [] qs t = refl
puts_append (p ∷ ps) qs t = puts_append ps qs (puts t p.settings)

stretches_from : (L : List Dated) (p : ℕ) (m : Items Pack) → AreStretches L m → AreStretches L (from p m)
stretches_from L p m are s x e = are s x (from_some p m s x e).1

-- after the packs of a lane, and those that follow
pub latest_settle : (L : List Dated) (b : SettingsState) (t : LaneState Pack) → IsLatest L t.at (puts_all b.table t.events) → AreStretches L t.held → IsLatestState L (applied b (settle t))
unfolding settle
latest_settle L b t latest are = record {
  table = subst (IsLatest L (reach (len t.held) t.at t.held)) (sym (puts_append t.events (chain (len t.held) t.at t.held) b.table)) (latest_chain L (len t.held) t.at t.held (puts_all b.table t.events) are latest);
  held = stretches_from L _ t.held are;
}

stretches_insert : (L : List Dated) (m : Items Pack) (s : ℕ) (v : ℕ × Pack) → AreStretches L m → IsStretch L s v.0 v.1 → AreStretches L (insert m s v)
stretches_insert L m s v are is q x e = elim (insert_some m s v q x e) [
  | inl h ↦ subst (λ (k : ℕ). IsStretch L k x.0 x.1) (sym h.0) (subst (λ (y : ℕ × Pack). IsStretch L s y.0 y.1) h.1 is)
  | inr h ↦ are q x h
]

latest_by : (L : List Dated) (b : SettingsState) (start end : ℕ) (pack : Pack) (r : Seen) (u : LaneState Pack) → IsLatestState L b → IsStretch L start end pack → Hears (lane_of b) start end pack r u → IsLatestState L (applied b u)
latest_by L b start end pack Already u h is s = subst (λ (t : LaneState Pack). IsLatestState L (applied b t)) (sym s.1) (record { table = h.table; held = h.held })
latest_by L b start end pack (Applied to) u h is s =
    subst (λ (t : LaneState Pack). IsLatestState L (applied b t)) (sym s.2)
    (let here : IsStretch L b.at end pack = subst (λ (k : ℕ). IsStretch L k end pack) s.1.1 is in
    latest_settle L b (record (lane_of b) { events = pack ∷ []; at = end }) (latest_puts L b.at end b.table pack.settings h.table here.order here.is) h.held)
latest_by L b start end pack Held u h is s =
    subst (λ (t : LaneState Pack). IsLatestState L (applied b t)) (sym s.3) (record { table = h.table; held = stretches_insert L b.held start (end, pack) h.held is })
latest_by L b start end pack Dropped u h is s = subst (λ (t : LaneState Pack). IsLatestState L (applied b t)) (sym s.3) (record { table = h.table; held = h.held })

pub latest_hear : (L : List Dated) (b : SettingsState) (start end : ℕ) (pack : Pack) → IsLatestState L b → IsStretch L start end pack → IsLatestState L (hear_pack b start end pack).state
unfolding hear_pack
latest_hear L b start end pack h is = latest_by L b start end pack _ _ h is (hears (lane_of b) start end pack)

pub latest_over : (L : List Dated) (b : SettingsState) (settings : List Setting) (seq date : ℕ) → IsLatestState L b → b.at ≤ seq → AreSince L b.at b.date → IsOverlay L seq b.date settings → IsLatestState L (overlaid b settings seq date)
unfolding overlaid
latest_over L b settings seq date h le late over =
    let put : SettingsState = record b { at = seq; date = date; table = puts b.table settings; mode = Live } in
    latest_settle L put (lane_of put) (latest_overlay L b.at seq b.date b.table settings le h.table late over) h.held
