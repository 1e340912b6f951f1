use Rattle.std.proofs.Common.{sym, below_more, rules, true≢false, map, arith, length-append}
use Rattle.std.proofs.lemmas.Bool.{iff_false}
use Rattle.std.proofs.lemmas.List.{length-map}
use Rattle.std.proofs.lemmas.Option.{slice_get_within}
use Rattle.tl_program.specs.Program.{decl_text, field_text, FieldText}
use Rattle.tl_schema.specs.SameName.{part_names}
use Rattle.tl_schema.proofs.same_name.repeats_one_of_few.Goals as goal

pub loop-i-init : goal.loop-i-init
loop-i-init c = λ k below. absurd (omega (arith, below))

pub returns-then-is_repeat : goal.returns-then-is_repeat
returns-then-is_repeat c = (λ h. (c.loop-i.i, c.is_repeat.ensures.0 c.if-is_repeat.true), λ h. search rules)

pub loop-i-preserved : goal.loop-i-preserved
loop-i-preserved c = below_more _ _ c.loop-i.invariant (iff_false c.is_repeat.ensures c.if-is_repeat.false)

pub returns : goal.returns
returns c =
    let fields = c.args.decl.now.fields.items in
    let vars = c.args.decl.now.vars.items in (
      λ h. absurd (true≢false (sym h)),
      λ r. let within = slice_get_within (part_names (decl_text c.args.decl.now)) r.0 r.1.item r.1.here in
          absurd (c.loop-i.invariant r.0 (omega (arith, within, c.len.ensures, c.len-2.ensures, length-append vars (map (λ (f : FieldText). f.name) (map field_text fields)), length-map fields field_text, length-map (map field_text fields) (λ (f : FieldText). f.name))) r.1),
    )
