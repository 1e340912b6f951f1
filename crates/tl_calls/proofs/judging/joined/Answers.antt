use Rattle.std.proofs.Common.{ap, sym, ◌∙◌, ◌||◌}
use Rattle.std.proofs.lemmas.Bool.{or_left}
use Rattle.tl_calls.proofs.Judged.{joined_traits}
use Rattle.tl_calls.proofs.judging.joined.Goals as goal

pub returns-then-among : goal.returns-then-among
returns-then-among c = λ schema Ts T before at. joined_traits schema Ts T c.args.among c.args.last c.max.result c.args.among.holds_empty c.max.ensures (c.if-among.true ∙ sym (or_left c.args.among.holds_empty (c.args.last.empty || c.args.last.holds_empty) c.if-among.true)) before at

pub returns-else-among : goal.returns-else-among
returns-else-among c = λ schema Ts T before at. joined_traits schema Ts T c.args.among c.args.last c.max.result c.has_empty.result c.max.ensures (c.has_empty.ensures ∙ sym (ap (λ b. b || (c.args.last.empty || c.args.last.holds_empty)) c.if-among.false)) before at
