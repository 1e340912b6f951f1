use Rattle.std.proofs.Common.{◌≡◌, drop}
use Rattle.tl_types.specs.Seen.{views}
use Rattle.wire_profile.specs.inner.Walks.{left_among, found_among}
use Rattle.wire_profile.proofs.causes.+walk.Given as goal

abbrev pub invariant-walk_each-loop-value : goal.invariant-walk_each-loop-value
invariant-walk_each-loop-value l = record {
  rules : left_among l.left (views (drop l.value-index l.values)) ≡ left_among l.rules (views l.values);
  cause : found_among l.left (views (drop l.value-index l.values)) l.cause ≡ found_among l.rules (views l.values) l.initial.cause;
}
