-- A name in memory. This project's own.
use Rattle.std.specs.Prelude.{ℕ, List, Option, Some, None, if◌then◌else◌}
use Rattle.tl_base.specs.declared.mem_shown.MemName.{MemName}

-- the name, where it is given
abbrev pub name_of : MemName → Option (List ℕ)
name_of n = if n.given then Some n.bytes.items else None
