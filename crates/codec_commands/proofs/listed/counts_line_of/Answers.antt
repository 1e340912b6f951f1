use Rattle.std.proofs.Common.{◌∙◌, codes, decimal}
use Rattle.codec_commands.proofs.ListedLines.{regrouped}
use Rattle.codec_commands.proofs.listed.counts_line_of.Goals as goal

pub returns : goal.returns
returns c = c.in_ok-line.ensures.ok ∙ regrouped (codes "constructors ") (decimal c.args.constructors) (codes " functions ") (decimal c.args.functions) (codes "\n")
