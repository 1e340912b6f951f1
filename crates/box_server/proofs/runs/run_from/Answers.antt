use Rattle.std.proofs.lemmas.Bool.Decides.{not_from_Decides}
use Rattle.box_server.proofs.RunSteps.{after_none, whole_run}
use Rattle.box_server.proofs.runs.run_from.Goals as goal

pub returns-then-not-at_boundary : goal.returns-then-not-at_boundary
returns-then-not-at_boundary c = after_none c.args.events.now c.args.from (not_from_Decides c.at_boundary.result c.at_boundary.ensures c.if-not-at_boundary.true)

pub returns : goal.returns
returns c = (c.in_ok-end.ensures, whole_run c.args.events.now c.args.from c.fill.new.parts c.in_ok-end.end c.end.result c.in_ok-end.ensures c.end.ensures.value)
