use Rattle.std.proofs.Common.{ℕ, ◌<◌}
use Rattle.tl_names.specs.Writing.{DeclarationHas}
use Rattle.tl_names.proofs.decl_tests.first_that.Given as goal

abbrev pub invariant-loop-at : goal.invariant-loop-at
invariant-loop-at g l = (k : ℕ) → k < l.at → DeclarationHas (g.T.DeclTest.holds l.test l.index) l.index k → ⊥
