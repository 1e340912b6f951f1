-- Settings that came together. This project's own.
use Rattle.std.specs.Prelude.{ℕ, List, [], ◌∷◌, length, refl}
use Rattle.std.specs.Coded.{Coded, code_by, coded×, coded_ℕ, coded_list}
use Rattle.std.specs.FinMap as map
use Rattle.box_events.specs.declared.settings.Setting.{Setting}
use Rattle.box_events.specs.SettingLists.{Values}

-- settings that came together, in order, and their date
pub record Pack : Type 0 where
  pub date : ℕ
  pub settings : List Setting

-- these settings, with this date
abbrev pub pack_of : ℕ → List Setting → Pack
pack_of date settings = record { date = date; settings = settings }

-- how many settings a pack has
abbrev pub size : Pack → ℕ
size p = length p.settings

-- the values after settings, each put in turn
abbrev pub puts : Values → List Setting → Values
puts m [] = m
puts m (x ∷ xs) = puts (map.insert m x.key x.value) xs

-- the values after packs, each applied in turn
abbrev pub puts_all : Values → List Pack → Values
puts_all m [] = m
puts_all m (p ∷ ps) = puts_all (puts m p.settings) ps

-- the date of the last pack, where there is one
abbrev pub last_date : ℕ → List Pack → ℕ
last_date d [] = d
last_date d (p ∷ ps) = last_date p.date ps

-- a setting and a pack as pairs of their parts
abbrev pub setting_code : Coded Setting
setting_code = code_by (List ℕ × List ℕ) (coded× (coded_list coded_ℕ) (coded_list coded_ℕ)) (λ s. (s.key, s.value)) (λ p. record { key = p.0; value = p.1 }) (λ _. refl)

abbrev pub pack_code : Coded Pack
pack_code = code_by (ℕ × List Setting) (coded× coded_ℕ (coded_list setting_code)) (λ p. (p.date, p.settings)) (λ p. record { date = p.0; settings = p.1 }) (λ _. refl)
