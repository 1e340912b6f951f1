use Rattle.codec_commands.proofs.ListedLines.{Listed}
use Rattle.codec_commands.proofs.listed.listing.Given as goal

abbrev pub invariant-loop-i : goal.invariant-loop-i
invariant-loop-i l = Listed l.schema.decls l.i l.text.items l.constructors l.functions
