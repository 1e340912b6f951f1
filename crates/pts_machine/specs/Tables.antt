-- What callers see of a table. This project's own.
use Rattle.std.specs.Prelude.{ℕ, refl}
use Rattle.std.specs.Coded.{Coded, code_by, coded×, coded_ℕ, coded_list}
use Rattle.std.specs.FinMap as map
use Rattle.box_events.specs.SettingLists.{Values}

-- its values, and for how many more keys there is room
pub record TableView : Type 0 where
  pub values : Values
  pub spare : ℕ

-- values, and a table, as rows of their parts
abbrev pub values_code : Coded Values
values_code = map.code (coded_list coded_ℕ) (coded_list coded_ℕ)

abbrev pub table_code : Coded TableView
table_code = code_by (Values × ℕ) (coded× values_code coded_ℕ) (λ t. (t.values, t.spare)) (λ p. record { values = p.0; spare = p.1 }) (λ _. refl)
