-- A world's fields as what clauses see, and what holds of each world. This project's own.
use Rattle.std.specs.Prelude.{◌≡◌, ◌≤◌, length, None}
use Rattle.wire_profile.specs.Profiles.{IsProfile}
use Rattle.update_world.specs.declared.limits.TheConstants.{MAX_CLIENTS}
use Rattle.update_world.specs.declared.world.World.TheInside.{Inside}
use Rattle.update_world.specs.Shown.{Shown}
use Rattle.update_world.specs.inner.Making.{IsSteady, shown_by}

abbrev pub shown_of : Inside → Shown
shown_of a = record (shown_by a.profile a.parts) { spoiled = a.spoiled }

-- its schema has the protocol's forms, it has 1 to 16 clients, and it is steady unless it is spoiled
pub record IsWorld (a : Inside) : Type 0 where
  pub profile : IsProfile a.profile
  pub some : 1 ≤ length a.parts.clients.items
  pub few : length a.parts.clients.items ≤ MAX_CLIENTS
  pub steady : a.spoiled ≡ None → IsSteady (shown_by a.profile a.parts)
