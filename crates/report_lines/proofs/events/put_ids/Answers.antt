use Rattle.std.proofs.Common.{◌≡◌, ℕ, ℤ, List, ◌++◌, pos, get_or, to_z, of_z, w32, rules, ap, ◌∙◌}
use Rattle.hex.specs.Hex.{encode_lower}
use Rattle.report_lines.specs.Closing.{id_bytes}
use Rattle.report_lines.proofs.Digits.{ids_put, ids_done}
use Rattle.report_lines.proofs.events.put_ids.Goals as goal

pub loop-id-preserved : goal.loop-id-preserved
loop-id-preserved c =
    let ids = c.args.ids.now in
    let same : to_z w32 (of_z w32 (get_or ids c.loop-id.id-index (pos 0))) ≡ get_or ids c.loop-id.id-index (pos 0) = (search rules) in
    ids_put ids c.loop-id.id-index (pos 0) _ _ _ c.loop-id-test.true c.loop-id.invariant (c.in_ok-put_hex.ensures ∙ ap (λ (bytes : List ℕ). c.loop-id.lines.items ++ encode_lower bytes) c.to_le_bytes.ensures ∙ ap (λ (z : ℤ). c.loop-id.lines.items ++ encode_lower (id_bytes z)) same)

pub returns : goal.returns
returns c = ids_done c.args.ids.now c.loop-id.id-index _ _ c.loop-id-test.false c.loop-id.invariant
