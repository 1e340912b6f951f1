-- The latest settings are one table, and grow with their list.
use Rattle.std.proofs.Common.{◌≡◌, ℕ, ◌+◌, ◌-◌, ◌<◌, ◌≤◌, List, ◌++◌, min, length, take, drop, map as each, refl, sym, ap, ◌∙◌, subst, arith}
use Rattle.std.specs.List.{All}
use Rattle.std.specs.Cmp.Lexicographic.{nat_list_cmp_total}
use Rattle.std.specs.Ordering.{nat_cmp}
use Rattle.std.specs.Cmp.Lexicographic.{slice_cmp}
use Rattle.std.specs.FinMap.{empty, get-empty, same_map, slice_cmp-IsAntisymmetric, nat_cmp-IsAntisymmetric}
use Rattle.std.proofs.lemmas.Option.{none-some}
use Rattle.std.proofs.Math.Seq.{take-append-add, take-length, drop-append_seam}
use Rattle.std.proofs.lemmas.List.{take-append-le, length-take, length-drop, length-map}
use Rattle.box_events.specs.declared.settings.Setting.{Setting}
use Rattle.box_events.specs.SettingLists.{Values, Dated, last_of, value_of, IsLatest, IsOverlay, value_since}
use Rattle.pts_machine.specs.Packs.{Pack, size}
use Rattle.pts_machine.specs.SeqStates.{SettingsState, new_settings, IsSoundState}
use Rattle.pts_machine.specs.Latest.{latest, IsStretch, AreStretches, IsLatestState}
use Rattle.pts_machine.specs.Agreeing.{LieWithin}
use Rattle.pts_machine.proofs.LatestValues.{latest_puts}

pub latest_none : (L : List Dated) → IsLatest L 0 empty
latest_none L q = get-empty (slice_cmp nat_cmp) q

pub latest_is : (L : List Dated) (s : ℕ) → IsLatest L s (latest L s)
latest_is L s = latest_puts L 0 s empty (each (λ e. e.setting) (take s L)) (latest_none L) (omega arith) refl

pub latest_one : (L : List Dated) (s : ℕ) (table : Values) → IsLatest L s table → table ≡ latest L s
latest_one L s table h = same_map nat_list_cmp_total (slice_cmp-IsAntisymmetric nat_cmp-IsAntisymmetric) table (latest L s) (λ q. h q ∙ sym (latest_is L s q))

pub latest_new : (L : List Dated) → IsLatestState L new_settings
latest_new L = record { table = latest_none L; held = λ s x e. absurd (none-some x (sym (get-empty nat_cmp s) ∙ e)) }

-- a stretch that is as long as its numbers say lies within the list
pub ends_within : (L : List Dated) (s e : ℕ) (pack : Pack) → s < e → e ≡ s + size pack → IsStretch L s e pack → e ≤ length L
ends_within L s e pack lt is h =
    let sum : length pack.settings ≡ min e (length L) - s =
    ap (λ (xs : List Setting). length xs) h.is ∙ length-map (drop s (take e L)) (λ e. e.setting) ∙ length-drop s (take e L) ∙ ap (λ (n : ℕ). n - s) (length-take e L) in
    omega arith

pub within_of : (L : List Dated) (b : SettingsState) → IsSoundState b → AreStretches L b.held → LieWithin L b.held
within_of L b sound are s x e =
    let fits = sound.sized s x e in
    (fits.0, ends_within L s x.0 x.1 fits.0 fits.1 (are s x e))

pub stretch_grows : (L more : List Dated) (s e : ℕ) (pack : Pack) → e ≤ length L → IsStretch L s e pack → IsStretch (L ++ more) s e pack
stretch_grows L more s e pack le h =
    let same : take e L ≡ take e (L ++ more) = sym (take-append-le e L more le) in
    record {
      order = h.order;
      is = h.is ∙ ap (λ (xs : List Dated). each (λ d. d.setting) (drop s xs)) same;
      dated = subst (λ (xs : List Dated). All (λ x. x.date ≡ pack.date) (drop s xs)) same h.dated;
    }

pub latest_longer : (L more : List Dated) (b : SettingsState) → LieWithin L b.held → b.at ≤ length L → IsLatestState L b → IsLatestState (L ++ more) b
latest_longer L more b within le h = record {
  table = λ q. h.table q ∙ ap (λ (xs : List Dated). value_of (last_of xs q)) (sym (take-append-le b.at L more le));
  held = λ s x e. stretch_grows L more s x.0 x.1 (within s x e).1 (h.held s x e);
}

pub latest_grows : (L more : List Dated) (b : SettingsState) → IsSoundState b → b.at ≤ length L → IsLatestState L b → IsLatestState (L ++ more) b
latest_grows L more b sound le h = latest_longer L more b (within_of L b sound h.held) le h

-- ---- what is known of a list stays as it grows

pub overlay_grows : (L more : List Dated) (seq date : ℕ) (settings : List Setting) → seq ≤ length L → IsOverlay L seq date settings → IsOverlay (L ++ more) seq date settings
overlay_grows L more seq date settings le over q = over q ∙ ap (λ (xs : List Dated). value_since date (last_of xs q)) (sym (take-append-le seq L more le))

-- settings that are appended with one date are a stretch
pub stretch_appended : (L more : List Dated) (pack : Pack) → pack.settings ≡ each (λ e. e.setting) more → All (λ e. e.date ≡ pack.date) more → IsStretch (L ++ more) (length L) (length L + length more) pack
stretch_appended L more pack is dated =
    let whole : take (length L + length more) (L ++ more) ≡ L ++ more = take-append-add L more (length more) ∙ ap (λ (xs : List Dated). L ++ xs) (take-length more) in
    let rest : drop (length L) (take (length L + length more) (L ++ more)) ≡ more = ap (λ (xs : List Dated). drop (length L) xs) whole ∙ drop-append_seam L more in
    record {
      order = omega arith;
      is = is ∙ ap (λ (xs : List Dated). each (λ e. e.setting) xs) (sym rest);
      dated = subst (λ (xs : List Dated). All (λ e. e.date ≡ pack.date) xs) (sym rest) dated;
    }
