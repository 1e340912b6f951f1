-- The settings that a difference carries: one for each key at most, each of the server's.
use Rattle.std.specs.Prelude.{leb, if◌then◌else◌}
use Rattle.std.proofs.Common.{◌≡◌, ℕ, suc, ◌≤◌, List, [], ◌∷◌, length, map, Bool, true, false, arith}
use Rattle.std.specs.List.{All}
use Rattle.std.specs.FinMap.{entries, insert, empty, len-entries, values}
use Rattle.std.proofs.lemmas.List.{length-map}
use Rattle.std.proofs.lemmas.List.Elements.{All-nil, All-cons, All-head, All-tail}
use Rattle.box_events.specs.declared.settings.Setting.{Setting}
use Rattle.box_events.specs.SettingLists.{Dated}
use Rattle.box_server.specs.LastEntries.{ByKey, keys_in, with_entries, last_entries, settings_since, changed_since}
use Rattle.box_world.proofs.MapEntries.{all_insert, all_none}

-- ---- one for each key

kept_by : (b : Bool) (x : Setting) (xs : List Setting) (n : ℕ) → length xs ≤ n → length (if b then x ∷ xs else xs) ≤ suc n
kept_by true x xs n le = omega (arith, le)
kept_by false x xs n le = omega (arith, le)

few_since : (date : ℕ) (es : List Dated) → length (settings_since date es) ≤ length es
few_since date [] = omega arith
few_since date (e ∷ es) = kept_by (leb date e.date) e.setting (settings_since date es) (length es) (few_since date es)

pub few_changed : (L : List Dated) (date : ℕ) → length (changed_since L date) ≤ keys_in L
few_changed L date =
    let few = few_since date (values (last_entries L)) in
    let all : length (values (last_entries L)) ≡ length (entries (last_entries L)) = length-map (entries (last_entries L)) (λ p. p.1) in
    let many = len-entries (last_entries L) in
    omega (arith, few, all, many)

-- ---- what holds of each setting of the server

module _ (P : Setting → Type 0) where
  all_with : (es : List Dated) (m : ByKey) → All (λ e. P e.setting) es → All (λ x. P x.1.setting) (entries m) → All (λ x. P x.1.setting) (entries (with_entries m es))
  all_with [] m all h = h
  all_with (e ∷ es) m all h =
      all_with es (insert m e.setting.key e) (All-tail (λ (d : Dated). P d.setting) e es all)
      (all_insert (λ (x : List ℕ × Dated). P x.1.setting) (λ x y p q. q) m e.setting.key e (All-head (λ (d : Dated). P d.setting) e es all) h)

  since_by : (b : Bool) (x : Setting) (xs : List Setting) → P x → All P xs → All P (if b then x ∷ xs else xs)
  since_by true x xs is all = All-cons P x xs is all
  since_by false x xs is all = all

  all_since : (date : ℕ) (es : List (List ℕ × Dated)) → All (λ x. P x.1.setting) es → All P (settings_since date (map (λ p. p.1) es))
  all_since date [] h = All-nil P
  all_since date (x ∷ xs) h =
      since_by (leb date x.1.date) x.1.setting (settings_since date (map (λ p. p.1) xs)) (All-head (λ (y : List ℕ × Dated). P y.1.setting) x xs h)
      (all_since date xs (All-tail (λ (y : List ℕ × Dated). P y.1.setting) x xs h))

  pub all_changed : (L : List Dated) (date : ℕ) → All (λ e. P e.setting) L → All P (changed_since L date)
  all_changed L date all = all_since date (entries (last_entries L)) (all_with L empty all (all_none (λ (x : List ℕ × Dated). P x.1.setting) (λ x y p q. q)))
