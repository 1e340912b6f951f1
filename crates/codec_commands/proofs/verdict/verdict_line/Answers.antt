use Rattle.std.proofs.Common.{◌≡◌, ap, subst}
use Rattle.std.specs.Prelude.{Err}
use Rattle.tl_schema.specs.Seen.{shape}
use Rattle.outside.specs.Answer.{done, refused}
use Rattle.outside.proofs.Loaded.{refuses_as}
use Rattle.tl_layers.specs.Reached.{Reached}
use Rattle.tl_layers.specs.Compared.{LayersView, IsCount, Compares}
use Rattle.tl_layers.specs.declared.fault.LayerFault.{LayerFault}
use Rattle.codec_commands.specs.Layers.{OfLayers, broken, whole, layers_line}
use Rattle.codec_commands.proofs.verdict.verdict_line.Goals as goal

pub returns-in_ok-line-in-Ok : goal.returns-in_ok-line-in-Ok
returns-in_ok-line-in-Ok c =
    whole c.count.result c.in-Ok.ensures.compares.1 (subst (λ (l : LayersView). IsCount (Reached l.old l.of) c.count.result) c.in-Ok.ensures.compares.0 c.count.ensures.count) (ap done c.in_ok-line-in-Ok.ensures)

pub returns-in-Err-Broken : goal.returns-in-Err-Broken
returns-in-Err-Broken c =
    let breaks = subst (λ (f : LayerFault). Compares (record { old = c.args.old.now; new = c.args.new.now; of = shape c.args.of.now }) (Err f)) c.in-Err-Broken.field-0-is c.in-Err-Broken.ensures.compares in
    refuses_as (λ told. told ≡ layers_line c.in-Err-Broken.decl c.in-Err-Broken.cause) (λ line. OfLayers c.args.old.now c.args.new.now (shape c.args.of.now) (refused line)) c.broken.result
    (λ line is. broken c.in-Err-Broken.decl c.in-Err-Broken.cause breaks (ap refused is)) c.broken.ensures
