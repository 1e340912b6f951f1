use Rattle.std.proofs.Common.{ℕ, ap, ◌∙◌, arith, rules}
use Rattle.std.specs.Int.{w64, cast_signed, from_le_bytes}
use Rattle.std.proofs.lemmas.List.{take_all}
use Rattle.tl_types.specs.Values as value
use Rattle.tl_types.proofs.Views.{view-Long}
use Rattle.tl_decode.proofs.held_items.long_value.Goals as goal

pub returns : goal.returns
returns c =
    view-Long _ (cast_signed w64 c.from_le_bytes.result) (search rules)
    ∙ ap (λ (n : ℕ). value.long (cast_signed w64 n)) (c.from_le_bytes.ensures ∙ ap (from_le_bytes w64) (c.eight_bytes.ensures ∙ take_all 8 c.args.bytes.now (omega (arith, c.requires))))
