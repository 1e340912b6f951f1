-- The parts of a program within the limits can be counted in 32 bits.
use Rattle.std.proofs.Common.{ℕ, List, All, subst, arith}
use Rattle.std.proofs.lemmas.List.Elements.{All-get_or}
use Rattle.std.proofs.lemmas.Option.{get_or_from_slice_get, slice_get_within}
use Rattle.tl_program.specs.Program.{DeclText, HasFewParts, IsWithinLimits}
use Rattle.tl_names.specs.Writing.{At}
use Rattle.tl_schema.specs.Meanings.{IsSmall}

parts_at : (ds : List DeclText) → All HasFewParts ds → (k : ℕ) (d : DeclText) → At ds k d → HasFewParts d
parts_at ds all k d at = subst HasFewParts (get_or_from_slice_get ds k d d at) (All-get_or HasFewParts ds k d (slice_get_within ds k d at) all)

pub small_within_limits : (ds : List DeclText) → IsWithinLimits ds → IsSmall ds
small_within_limits ds limits = record {
  few = omega (arith, limits.declarations);
  variables = λ k d at. omega (arith, parts_at ds limits.parts k d at);
  fields = λ k d at. omega (arith, parts_at ds limits.parts k d at);
}
