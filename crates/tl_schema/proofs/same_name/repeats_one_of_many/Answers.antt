use Rattle.std.proofs.Common.{◌∙◌, ◌||◌, take, [], ◌∷◌, ap, sym, bytes_eq, below_more, rules, true≢false, map, arith, length-append}
use Rattle.std.specs.List.{list_any}
use Rattle.std.proofs.lemmas.List.{length-map}
use Rattle.std.proofs.lemmas.List.Folds.{list_any-append}
use Rattle.std.proofs.lemmas.Option.{slice_get_within}
use Rattle.std.proofs.lemmas.Slice.Eq.{bytes_eq-Decides}
use Rattle.tl_program.specs.Program.{decl_text, field_text, FieldText}
use Rattle.tl_schema.specs.SameName.{part_names}
use Rattle.tl_schema.specs.inner.SameNameSteps.{is_noted}
use Rattle.tl_names.proofs.Maps.{take_push}
use Rattle.tl_schema.proofs.SameNames.{or_last}
use Rattle.tl_schema.proofs.Repeats.{repeat_found, repeat_not_found}
use Rattle.tl_schema.proofs.same_name.repeats_one_of_many.Goals as goal

pub loop-i-init : goal.loop-i-init
loop-i-init c = (λ name. ap (λ ns. is_noted ns name) c.new-names.ensures, λ k below. absurd (omega (arith, below)))

pub returns-then-is_old : goal.returns-then-is_old
returns-then-is_old c =
    let parts = part_names (decl_text c.args.decl.now) in
    let name = c.part_name.result.now in
    (λ h. (c.loop-i.i, repeat_found bytes_eq bytes_eq-Decides parts c.loop-i.i name c.part_name.ensures (sym (c.loop-i.invariant.0 name) ∙ sym c.in_ok-is_old.ensures.known ∙ c.if-is_old.true)), λ h. search rules)

pub loop-i-preserved : goal.loop-i-preserved
loop-i-preserved c =
    let parts = part_names (decl_text c.args.decl.now) in
    let name = c.part_name.result.now in (
      λ n. c.in_ok-is_old.ensures.added n ∙ ap (λ b. bytes_eq n name || b) (c.loop-i.invariant.0 n) ∙ or_last (bytes_eq n name) (list_any (bytes_eq n) (take c.loop-i.i parts)) ∙ sym (ap (list_any (bytes_eq n)) (take_push parts c.loop-i.i name c.part_name.ensures) ∙ list_any-append (bytes_eq n) (take c.loop-i.i parts) (name ∷ [])),
      below_more _ _ c.loop-i.invariant.1 (repeat_not_found bytes_eq bytes_eq-Decides parts c.loop-i.i name c.part_name.ensures (sym (c.loop-i.invariant.0 name) ∙ sym c.in_ok-is_old.ensures.known ∙ c.if-is_old.false)),
    )

pub returns : goal.returns
returns c =
    let fields = c.args.decl.now.fields.items in
    let vars = c.args.decl.now.vars.items in (
      λ h. absurd (true≢false (sym h)),
      λ r. let within = slice_get_within (part_names (decl_text c.args.decl.now)) r.0 r.1.item r.1.here in
          absurd (c.loop-i.invariant.1 r.0 (omega (arith, within, c.len.ensures, c.len-2.ensures, length-append vars (map (λ (f : FieldText). f.name) (map field_text fields)), length-map fields field_text, length-map (map field_text fields) (λ (f : FieldText). f.name))) r.1),
    )
