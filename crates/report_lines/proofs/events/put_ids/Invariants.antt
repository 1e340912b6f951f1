use Rattle.std.proofs.Common.{◌≡◌, ◌++◌, drop}
use Rattle.hex.specs.Hex.{encode_lower}
use Rattle.report_lines.specs.Closing.{ids_bytes}
use Rattle.report_lines.proofs.events.put_ids.Given as goal

abbrev pub invariant-loop-id : goal.invariant-loop-id
invariant-loop-id l = l.lines.items ++ encode_lower (ids_bytes (drop l.id-index l.ids)) ≡ l.fn.lines.items ++ encode_lower (ids_bytes l.ids)
