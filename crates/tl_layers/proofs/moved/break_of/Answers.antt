use Rattle.std.proofs.Common.{ap, sym, ◌∙◌, slice_get}
use Rattle.tl_schema.specs.Seen.{declaration}
use Rattle.tl_schema.specs.Schemas.{Declared}
use Rattle.tl_layers.proofs.FirstBreaks.{whole_break}
use Rattle.tl_layers.proofs.moved.break_of.Goals as goal

pub returns-in-None : goal.returns-in-None
returns-in-None c =
    let here = ap (λ (s : Declared). slice_get s.decls c.args.i) (sym c.old_schema.ensures) ∙ c.entry-old.ensures in
    let there = ap (λ (s : Declared). slice_get s.decls c.args.j) (sym c.new_schema.ensures) ∙ c.entry-new.ensures in
    whole_break c.args.pair.now c.args.i (declaration c.entry-old.result.now) (declaration c.entry-new.result.now) (record { here = here; j = c.args.j; counterpart = c.requires.counterpart; there = there })
    c.args.olds.now c.args.news.now c.requires.olds c.requires.news c.in-None.ensures c.field_break.result c.field_break.ensures
