use Rattle.std.proofs.Common.{rules, sym, ◌∙◌, true, false}
use Rattle.std.proofs.lemmas.Slice.Zip.{Zip-more, either_empty_from_Zip}
use Rattle.tl_show.proofs.DirectFields.{lacks_more, lacks_none}
use Rattle.tl_show.proofs.direct.lacks_field.Goals as goal

pub loop-field-init : goal.loop-field-init
loop-field-init c = search rules

pub returns-then-lacks : goal.returns-then-lacks
returns-then-lacks c =
    let next = Zip-more c.loop-field.field-iterator c.next.new.self _ (c.in-Some.field, c.in-Some.value) c.in-Some.is c.next.ensures.steps in
    lacks_more _ _ _ _ c.in-Some.field.now c.in-Some.value.now true _ next.0 next.1 (sym c.if-lacks.true ∙ c.lacks.ensures) c.loop-field.invariant

pub loop-field-preserved : goal.loop-field-preserved
loop-field-preserved c =
    let next = Zip-more c.loop-field.field-iterator c.next.new.self _ (c.in-Some.field, c.in-Some.value) c.in-Some.is c.next.ensures.steps in
    lacks_more _ _ _ _ c.in-Some.field.now c.in-Some.value.now false _ next.0 next.1 (sym c.if-lacks.false ∙ c.lacks.ensures) c.loop-field.invariant

pub returns : goal.returns
returns c = lacks_none _ _ (either_empty_from_Zip c.loop-field.field-iterator c.next.new.self _ c.in-None.is c.next.ensures.steps) ∙ c.loop-field.invariant
