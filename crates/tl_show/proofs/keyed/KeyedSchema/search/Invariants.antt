use Rattle.std.proofs.Common.{◌≡◌, ℕ, ◌<◌, false}
use Rattle.std.specs.Prelude.{slice_get}
use Rattle.tl_show.specs.inner.Keyed.{is_named_at}
use Rattle.tl_show.proofs.keyed.KeyedSchema.search.Given as goal

abbrev pub invariant-loop-i : goal.invariant-loop-i
invariant-loop-i l = (k : ℕ) → k < l.i → is_named_at l.function l.name (slice_get l.self.decls k) ≡ false
