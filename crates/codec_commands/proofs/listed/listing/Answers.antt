use Rattle.std.proofs.Common.{rules}
use Rattle.tl_schema.specs.Seen.{declaration}
use Rattle.codec_commands.proofs.ListedLines.{unlisted, listed_function, listed_constructor}
use Rattle.codec_commands.proofs.listed.listing.Goals as goal
use Rattle.codec_commands.proofs.listed.listing.Goals.{then-is_listed+then-entry, then-is_listed+else-entry, else-is_listed}

pub loop-i-preserved : goal.loop-i-preserved
loop-i-preserved c =
    let e = declaration c.entry-entry.result.now in
    let so_far = c.loop-i.invariant in
    elim c.if-is_listed.branch [
      | then-is_listed+then-entry w ↦ (rw (c.in_ok-add_line.ensures, w.constructors-is, w.functions-is) (listed_function _ _ _ _ _ so_far e c.entry-entry.ensures (search rules) (search rules)))
      | then-is_listed+else-entry w ↦ (rw (c.in_ok-add_line.ensures, w.constructors-is, w.functions-is) (listed_constructor _ _ _ _ _ so_far e c.entry-entry.ensures (search rules) (search rules)))
      | else-is_listed w ↦ (rw (c.in_ok-add_line.ensures, w.constructors-is, w.functions-is) (unlisted _ _ _ _ _ so_far e c.entry-entry.ensures (search rules)))
    ]
