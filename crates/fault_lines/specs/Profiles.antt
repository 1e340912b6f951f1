-- The lines of schemas without the protocol's forms. Out of memory has none. This project's own.
use Rattle.std.specs.Prelude.{ℕ, List, ◌++◌, Option, Some, None, codes}
use Rattle.outside.specs.Answer.{unplaced_line}
use Rattle.wire_profile.specs.declared.fault.ProfileFault.{ProfileFault}
use Rattle.wire_profile.specs.declared.fault.ProfileFault.TheVariants as profile

-- a cause, and the name that it is about
abbrev pub named_line : List ℕ → List ℕ → List ℕ
named_line cause name = unplaced_line (codes "profile") ((cause ++ codes " ") ++ name)

abbrev pub profile_line : ProfileFault → Option (List ℕ)
profile_line (profile.Missing name) = Some (named_line (codes "Missing") name)
profile_line (profile.Differs name) = Some (named_line (codes "Differs") name)
profile_line profile.Memory = None
