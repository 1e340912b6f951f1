use Rattle.box_client.proofs.Restarts.{saved_are_loaded}
use Rattle.box_client.proofs.laws.what_is_saved_is_loaded.Goals as goal

pub returns : goal.returns
returns c = saved_are_loaded
