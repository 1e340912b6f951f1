use Rattle.std.proofs.Common.{◌≡◌, map, take}
use Rattle.tl_program.specs.Program.{field_text}
use Rattle.tl_names.specs.NameIndexes.{index_among}
use Rattle.tl_names.specs.MeantDecls.{field_by}
use Rattle.tl_names.specs.MeantViews.{field_in, field_view, what_in}
use Rattle.tl_names.proofs.fields.meant_fields.Given as goal

abbrev pub invariant-loop-field : goal.invariant-loop-field
invariant-loop-field l =
    map field_view l.meant.items ≡ map (field_by (what_in l.index l.vars) (index_among l.vars) (field_in (map field_text l.fields))) (take l.field-index (map field_text l.fields))
