use Rattle.commands.specs.KeepWords.{keep_text}
use Rattle.commands.proofs.RunsWords.{stored_kept, stored_none}
use Rattle.commands.proofs.stored.run_stored.Goals as goal

pub returns-in-None : goal.returns-in-None
returns-in-None g c = stored_none _ _ _ _ c.tell-status.result c.in-None.ensures c.tell-status.ensures

pub returns-in-Some : goal.returns-in-Some
returns-in-Some g c = stored_kept _ _ _ c.run_kept.result.0 (keep_text c.in-Some.request) c.in-Some.ensures c.run_kept.ensures
