use Rattle.std.proofs.Common.{◌==◌, ◌+◌, ◌∙◌, ap, sym, length, length-drop, arith}
use Rattle.std.proofs.lemmas.List.Quantifiers.{position-Some}
use Rattle.tl_names.specs.Writing.{last_word}
use Rattle.tl_names.proofs.LastWords.{last_after, last_whole}
use Rattle.tl_names.proofs.writing.last_word.Goals as goal

pub after-rest-requires : goal.after-rest-requires
after-rest-requires c = (position-Some (λ b. b == 46) c.loop-at.rest.now c.in-Some.at 0 (sym c.in-Some.ensures)).0

pub loop-at-preserved : goal.loop-at-preserved
loop-at-preserved c =
    ap last_word c.after-rest.ensures ∙ last_after c.loop-at.rest.now c.in-Some.at (sym c.in-Some.ensures) ∙ c.loop-at.invariant

pub loop-at-smaller : goal.loop-at-smaller
loop-at-smaller c =
    let within = (position-Some (λ b. b == 46) c.loop-at.rest.now c.in-Some.at 0 (sym c.in-Some.ensures)).0 in
    omega (arith, within, ap length c.after-rest.ensures, length-drop (c.in-Some.at + 1) c.loop-at.rest.now)

pub returns : goal.returns
returns c = sym (last_whole c.loop-at.rest.now (sym c.in_default.ensures)) ∙ c.loop-at.invariant
