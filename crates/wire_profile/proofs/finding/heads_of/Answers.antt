use Rattle.std.proofs.Common.{List, ℕ, map, ap, ◌∙◌, subst, add-one}
use Rattle.wire_profile.specs.Profiles.{AreHeads}
use Rattle.wire_profile.proofs.Found.{heads_more, take_whole}
use Rattle.wire_profile.proofs.finding.heads_of.Goals as goal

pub loop-name-preserved : goal.loop-name-preserved
loop-name-preserved c =
    rw (c.in_ok-push.ensures.items, add-one)
    (heads_more c.args.schema.now (λ s. s.now) c.loop-name.name-index _ c.type_names-name-items.result.now c.loop-name.heads.items _ c.loop-name-test.true c.loop-name.invariant c.in_ok-head_of.ensures)

pub returns : goal.returns
returns c =
    subst (λ (names : List (List ℕ)). AreHeads c.args.schema.now names c.loop-name.heads.items) (ap (map (λ s. s.now)) (take_whole _ _ c.loop-name-test.false) ∙ c.type_names-name-items.ensures) c.loop-name.invariant
