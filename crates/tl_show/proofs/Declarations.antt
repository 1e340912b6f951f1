-- Names of declarations, where they are there.
use Rattle.std.proofs.Common.{◌≡◌, ℕ, ◌≤◌, List, [], length, Some, ap}
use Rattle.std.specs.Prelude.{slice_get}
use Rattle.std.proofs.lemmas.Option.{slice_get_past}
use Rattle.tl_schema.specs.Schemas.{Declaration}
use Rattle.tl_schema.specs.Seen.{declaration}
use Rattle.tl_schema.specs.declared.schema.Entry.{Entry}
use Rattle.tl_types.specs.Parts.{name_in}

pub name_there : (ds : List Declaration) (i : ℕ) (e : Entry) → slice_get ds i ≡ Some (declaration e) → name_in (slice_get ds i) ≡ e.name
name_there ds i e there = ap name_in there

pub name_past : (ds : List Declaration) (i : ℕ) → length ds ≤ i → name_in (slice_get ds i) ≡ []
name_past ds i past = ap name_in (slice_get_past ds i past)
