-- How runs end, compared. This project's own.
use Rattle.std.specs.Prelude.{◌≡◌}
use Rattle.case_files.specs.declared.ending.Ending.{Ending}
use Rattle.case_files.specs.declared.traffic.Traffic.{Traffic}

-- the same addresses, the same bytes on as many links, and State created under the same names
abbrev pub IsTraffic : Traffic → Traffic → Type 0
IsTraffic s t = (s.addresses.items ≡ t.addresses.items) × (s.sent.items ≡ t.sent.items) × (s.starts.items ≡ t.starts.items) × (s.created.items ≡ t.created.items)

-- the same status, the same bytes on each out and on State, the same traffic, and the same entries kept
abbrev pub EndsAs : Ending → Ending → Type 0
EndsAs a b = (a.status ≡ b.status) × (a.output.items ≡ b.output.items) × (a.errors.items ≡ b.errors.items) × (a.state.items ≡ b.state.items) × IsTraffic a.traffic b.traffic × (a.kept.items ≡ b.kept.items)
