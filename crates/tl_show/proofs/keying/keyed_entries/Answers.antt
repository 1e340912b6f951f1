use Rattle.std.proofs.Common.{take}
use Rattle.tl_names.proofs.Maps.{take_push}
use Rattle.tl_schema.specs.Seen.{declaration}
use Rattle.tl_show.proofs.KeyedParts.{keyed_push}
use Rattle.tl_show.proofs.keying.keyed_entries.Goals as goal

pub loop-i-preserved : goal.loop-i-preserved
loop-i-preserved c =
    let ds = c.args.schema.now.decls in
    let d = declaration c.entry.result.now in
    rw (c.in_ok-push.ensures.items, take_push ds c.loop-i.i d c.entry.ensures)
    (keyed_push (take c.loop-i.i ds) c.loop-i.entries.items d c.in_ok-keyed_entry.field-0 c.loop-i.invariant c.in_ok-keyed_entry.ensures)
