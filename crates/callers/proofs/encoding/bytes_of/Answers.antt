use Rattle.std.proofs.Common.{◌≤◌}
use Rattle.std.proofs.lemmas.Result.{IfOk-weaker}
use Rattle.tl_schema.specs.Seen.{shape}
use Rattle.tl_types.specs.Seen.{view}
use Rattle.tl_types.specs.Spelling.{Spells}
use Rattle.tl_types.specs.Values.{depth}
use Rattle.tl_types.specs.declared.value.TheConstants.{MAX_LEVELS}
use Rattle.callers.proofs.encoding.bytes_of.Goals as goal

pub returns : goal.returns
returns c =
    let S = c.args.schema.now in
    let T = shape c.args.of.now in
    let v = view c.args.value.now in
    IfOk-weaker c.spelling_as.result (λ bytes. Spells S T v bytes.items × (depth v ≤ MAX_LEVELS)) (λ bytes. Spells S T v bytes.items) (λ bytes is. is.0) (c.spelling_as.ensures.spells c.requires.formed)
