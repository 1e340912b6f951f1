use Rattle.std.proofs.Common.{codes}
use Rattle.tl_schema.specs.Seen.{shape}
use Rattle.outside.specs.Jobs.{making}
use Rattle.outside.proofs.Printed.{made_printed}
use Rattle.codec_commands.specs.Layers.{OfLayers}
use Rattle.codec_commands.proofs.EachLayers.{each_told}
use Rattle.codec_rooms.specs.Layers.{compared}
use Rattle.codec_rooms.proofs.Layering.{can_compare, layers_made}
use Rattle.codec_rooms.proofs.Typing.{text_read, text_refused}
use Rattle.codec_rooms.proofs.layers.compare_text.Goals as goal

pub returns-in-Ok : goal.returns-in-Ok
returns-in-Ok g c =
    let old = c.args.old.now in
    let T = shape c.args.of.now in
    text_read (codes "new") (compared old T) c.args.text.now c.in-Ok.new _ _ _ c.in-Ok.ensures
    (made_printed (OfLayers old c.in-Ok.new T) (making c.verdict_line.result) _ _ _ (each_told old c.requires.good T c.requires.formed c.in-Ok.new c.in-Ok.ensures.good) (layers_made old c.in-Ok.new T c.verdict_line.result c.verdict_line.ensures) c.print_made.ensures)

pub returns-in-Err : goal.returns-in-Err
returns-in-Err g c =
    let old = c.args.old.now in
    let T = shape c.args.of.now in
    text_refused (codes "new") (compared old T) (can_compare old c.requires.good T c.requires.formed) c.args.text.now c.in-Err.fault _ _ _ c.in-Err.ensures c.print_made-in-Err.ensures
