use Rattle.serve_rooms.proofs.ServeLaws as laws
use Rattle.serve_rooms.proofs.laws.keep_has_cause.Goals as goal

pub returns : goal.returns
returns c = laws.keep_has_cause
