use Rattle.std.proofs.Common.{◌≡◌, ◌++◌, drop, take}
use Rattle.tl_types.specs.Seen.{views}
use Rattle.wire_profile.specs.Causes.{broken}
use Rattle.wire_profile.specs.inner.Walks.{first_in, unbroken}
use Rattle.wire_profile.proofs.causes.before.Given as goal

abbrev pub invariant-loop-index : goal.invariant-loop-index
invariant-loop-index l = record {
  rules : unbroken (λ rule. broken rule l.form (views l.fields)) l.rules ≡ take l.index l.rules ++ unbroken (λ rule. broken rule l.form (views l.fields)) (drop l.index l.rules);
  cause : first_in (λ rule. broken rule l.form (views l.fields)) l.rules ≡ first_in (λ rule. broken rule l.form (views l.fields)) (drop l.index l.rules);
  kept : l.cause ≡ l.initial.cause;
}
