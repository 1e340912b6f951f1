-- The date that settings hold, beside the dates of a list.
use Rattle.std.proofs.Common.{◌≡◌, ℕ, zero, suc, ◌+◌, ◌<◌, ◌≤◌, List, [], ◌∷◌, ◌++◌, length, take, drop, get_or, refl, sym, ap, ◌∙◌, subst, arith}
use Rattle.std.specs.List.{All}
use Rattle.std.specs.FinMap.{len}
use Rattle.std.proofs.lemmas.List.{length-take, length-drop, get_or-take, get_or-drop}
use Rattle.pts_machine.specs.Holding.{Items}
use Rattle.pts_machine.specs.declared.mode.Mode.TheVariants.{Live}
use Rattle.pts_machine.specs.declared.seen.Seen.{Seen}
use Rattle.pts_machine.specs.declared.seen.Seen.TheVariants.{Applied, Already, Held, Dropped}
use Rattle.pts_machine.specs.Chains.{chain, reach}
use Rattle.pts_machine.specs.States.{LaneState}
use Rattle.pts_machine.specs.Steps.{settle, Hears}
use Rattle.pts_machine.proofs.Ends.{none_at, some_at, look}
use Rattle.pts_machine.proofs.Kept.{hears}
use Rattle.box_events.specs.declared.settings.Setting.{Setting}
use Rattle.pts_machine.specs.Packs.{Pack, puts, last_date}
use Rattle.pts_machine.specs.SeqStates.{SettingsState, lane_of, applied, hear_pack, overlaid}
use Rattle.box_events.specs.SettingLists.{Dated, AreSince, NeverFallFrom}
use Rattle.box_events.proofs.SettingDates.{since_append}
use Rattle.pts_machine.specs.Latest.{IsStretch, AreStretches, IsSince}
use Rattle.pts_machine.specs.Agreeing.{LieWithin}

-- the first setting of a stretch has its date
pub first_date : (L : List Dated) (s e : ℕ) (pack : Pack) (d : Dated) → s < e → e ≤ length L → IsStretch L s e pack → (get_or L s d).date ≡ pack.date
first_date L s e pack d lt le h =
    let some : 0 < length (drop s (take e L)) = omega (arith, length-drop s (take e L), length-take e L) in
    let there : get_or (drop s (take e L)) 0 d ≡ get_or L s d = get_or-drop s (take e L) 0 d ∙ ap (λ (n : ℕ). get_or (take e L) n d) (omega arith) ∙ get_or-take e L s d lt in
    ap (λ (x : Dated). x.date) (sym there) ∙ h.dated 0 d some

-- where dates never fall, what lies past a stretch is dated not before it
since_stretch : (L : List Dated) (s e : ℕ) (pack : Pack) → NeverFallFrom s L → s < e → e ≤ length L → IsStretch L s e pack → AreSince L e pack.date
since_stretch L s e pack rise lt le h k d less =
    let first : (get_or L s d).date ≡ pack.date = first_date L s e pack d lt le h in
    let past : (get_or L s d).date ≤ (get_or L (e + k) d).date = rise s (e + k) d (omega arith) (omega arith) (omega (arith, length-drop e L)) in
    let there : (get_or (drop e L) k d).date ≡ (get_or L (e + k) d).date = ap (λ (x : Dated). x.date) (get_or-drop e L k d) in
    omega (arith, first, past, there)

rest_rise : (L : List Dated) (p q : ℕ) → p ≤ q → NeverFallFrom p L → NeverFallFrom q L
rest_rise L p q le rise i j d a = rise i j d (omega arith)

since_chain : (L : List Dated) (n p d : ℕ) (m : Items Pack) → NeverFallFrom p L → AreStretches L m → LieWithin L m → AreSince L p d → AreSince L (reach n p m) (last_date d (chain n p m))
unfolding chain reach
since_chain L zero p d m rise are within since = since
since_chain L (suc n) p d m rise are within since = elim (look m p) [
  | none_at e ↦ rw e since
  | some_at x e ↦
      let in_it = within p x e in
      rw e (since_chain L n x.0 x.1.date m (rest_rise L p x.0 (omega (arith, in_it.0)) rise) are within (since_stretch L p x.0 x.1 rise in_it.0 in_it.1 (are p x e)))
]

pub last_append : (ps qs : List Pack) (d : ℕ) → last_date d (ps ++ qs) ≡ last_date (last_date d ps) qs
last_append [] qs d = refl
last_append (p ∷ ps) qs d = last_append ps qs p.date

pub since_settle : (L : List Dated) (b : SettingsState) (t : LaneState Pack) → NeverFallFrom t.at L → AreStretches L t.held → LieWithin L t.held → AreSince L t.at (last_date b.date t.events) → IsSince L (applied b (settle t))
unfolding settle
since_settle L b t rise are within since =
    subst (AreSince L (reach (len t.held) t.at t.held)) (sym (last_append t.events (chain (len t.held) t.at t.held) b.date)) (since_chain L (len t.held) t.at (last_date b.date t.events) t.held rise are within since)

since_by : (L : List Dated) (b : SettingsState) (start end : ℕ) (pack : Pack) (r : Seen) (u : LaneState Pack)
    → NeverFallFrom b.at L → AreStretches L b.held → LieWithin L b.held → start < end → end ≤ length L → IsStretch L start end pack → IsSince L b → Hears (lane_of b) start end pack r u → IsSince L (applied b u)
since_by L b start end pack Already u rise are within lt le is since s = subst (λ (t : LaneState Pack). IsSince L (applied b t)) (sym s.1) since
since_by L b start end pack (Applied to) u rise are within lt le is since s =
    let here : start ≡ b.at = s.1.1 in
    let past : AreSince L end pack.date = since_stretch L start end pack (rest_rise L b.at start (omega arith) rise) lt le is in
    subst (λ (t : LaneState Pack). IsSince L (applied b t)) (sym s.2) (since_settle L b (record (lane_of b) { events = pack ∷ []; at = end }) (rest_rise L b.at end (omega arith) rise) are within past)
since_by L b start end pack Held u rise are within lt le is since s = subst (λ (t : LaneState Pack). IsSince L (applied b t)) (sym s.3) since
since_by L b start end pack Dropped u rise are within lt le is since s = subst (λ (t : LaneState Pack). IsSince L (applied b t)) (sym s.3) since

pub since_hear : (L : List Dated) (b : SettingsState) (start end : ℕ) (pack : Pack)
    → NeverFallFrom b.at L → AreStretches L b.held → LieWithin L b.held → start < end → end ≤ length L → IsStretch L start end pack → IsSince L b → IsSince L (hear_pack b start end pack).state
unfolding hear_pack
since_hear L b start end pack rise are within lt le is since = since_by L b start end pack _ _ rise are within lt le is since (hears (lane_of b) start end pack)

pub since_over : (L : List Dated) (b : SettingsState) (settings : List Setting) (seq date : ℕ)
    → NeverFallFrom seq L → AreStretches L b.held → LieWithin L b.held → AreSince L seq date → IsSince L (overlaid b settings seq date)
unfolding overlaid
since_over L b settings seq date rise are within since =
    let put : SettingsState = record b { at = seq; date = date; table = puts b.table settings; mode = Live } in
    since_settle L put (lane_of put) rise are within since

pub since_grows : (L more : List Dated) (b : SettingsState) → All (λ e. b.date ≤ e.date) more → IsSince L b → IsSince (L ++ more) b
since_grows L more b new old = since_append L more b.at b.date old new
