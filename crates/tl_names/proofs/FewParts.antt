-- Each declaration of a program within the limits has few parts.
use Rattle.std.proofs.Common.{◌≡◌, ℕ, List, All, slice_get, Some, subst}
use Rattle.std.proofs.lemmas.List.Elements.{All-get_or}
use Rattle.std.proofs.lemmas.Option.{get_or_from_slice_get, slice_get_within}
use Rattle.tl_program.specs.Program.{DeclText}
use Rattle.tl_program.specs.Program.{HasFewParts}

pub few_parts_at : (ds : List DeclText) → All HasFewParts ds → (k : ℕ) (d : DeclText) → slice_get ds k ≡ Some d → HasFewParts d
few_parts_at ds all k d at = subst HasFewParts (get_or_from_slice_get ds k d d at) (All-get_or HasFewParts ds k d (slice_get_within ds k d at) all)
