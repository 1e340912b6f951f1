use Rattle.std.proofs.Common.{◌≡◌}
use Rattle.tl_show.specs.inner.Direct.{lacks_any}
use Rattle.tl_show.proofs.direct.lacks_field.Given as goal

abbrev pub invariant-loop-field : goal.invariant-loop-field
invariant-loop-field l = lacks_any l.field-iterator.a.rest.now l.field-iterator.b.rest.now ≡ lacks_any l.fields l.values
