use Rattle.std.proofs.Common.{◌≡◌, ◌++◌, drop, map}
use Rattle.tl_program.specs.Program.{field_text}
use Rattle.tl_print.specs.Written.{written_fields}
use Rattle.tl_print.proofs.printing.put_fields.Given as goal

abbrev pub invariant-loop-field : goal.invariant-loop-field
invariant-loop-field l =
    l.out.items ++ written_fields (map field_text (drop l.field-index l.field-items)) ≡ l.fn.out.items ++ written_fields (map field_text l.field-items)
