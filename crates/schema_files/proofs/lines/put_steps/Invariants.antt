use Rattle.std.proofs.Common.{◌≡◌, ◌++◌, string_bytes, take}
use Rattle.schema_files.specs.Lines.{steps_text}
use Rattle.schema_files.proofs.lines.put_steps.Given as goal

abbrev pub invariant-loop-index : goal.invariant-loop-index
invariant-loop-index l = string_bytes l.text ≡ string_bytes l.fn.text ++ steps_text (take l.index-index l.steps)
