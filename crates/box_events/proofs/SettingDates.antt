-- The dates of settings that are appended to a list.
use Rattle.std.proofs.Common.{◌≡◌, ℕ, zero, suc, ◌+◌, ◌≤◌, List, [], ◌∷◌, ◌++◌, length, drop, get_or, ap, inl, inr, arith}
use Rattle.std.specs.List.{All}
use Rattle.std.proofs.lemmas.List.Elements.{All-append, All-drop}
use Rattle.std.proofs.lemmas.Bool.{cases_lt}
use Rattle.std.proofs.lemmas.List.{get_or_append_left, get_or_push, length_push}
use Rattle.box_events.specs.SettingLists.{Dated, NeverFallFrom}

pub since_append : (L more : List Dated) (n d : ℕ) → All (λ e. d ≤ e.date) (drop n L) → All (λ e. d ≤ e.date) more → All (λ e. d ≤ e.date) (drop n (L ++ more))
since_append L more zero d old new = All-append (λ e. d ≤ e.date) L more old new
since_append [] more (suc n) d old new = All-drop (λ e. d ≤ e.date) (suc n) more new
since_append (x ∷ L) more (suc n) d old new = since_append L more n d old new

-- a setting that is appended with a date not below the others leaves dates that never fall
pub rise_pushed : (L : List Dated) (e : Dated) (seq : ℕ) → NeverFallFrom seq L → All (λ x. x.date ≤ e.date) L → NeverFallFrom seq (L ++ e ∷ [])
rise_pushed L e seq rise all i j d a b lt = elim (cases_lt j (length L)) [
  | inl less ↦
      let at_i = get_or_append_left L (e ∷ []) d i (omega arith) in
      let at_j = get_or_append_left L (e ∷ []) d j less in
      omega (arith, ap (λ (x : Dated). x.date) at_i, ap (λ (x : Dated). x.date) at_j, rise i j d a b less)
  | inr past ↦
      let longer : length (L ++ e ∷ []) ≡ length L + 1 = length_push L e in
      let at_j = get_or_push L e d j (omega arith) in
      elim (cases_lt i (length L)) [
        | inl less ↦ omega (arith, ap (λ (x : Dated). x.date) (get_or_append_left L (e ∷ []) d i less), ap (λ (x : Dated). x.date) at_j, all i d less)
        | inr ge ↦
            let same : i ≡ j = omega arith in
            omega (arith, ap (λ (n : ℕ). (get_or (L ++ e ∷ []) n d).date) same)
      ]
]
