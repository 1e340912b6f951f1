use Rattle.std.proofs.Common.{refl}
use Rattle.box_client.proofs.GivenOnce.{asks_numbered, next_past, pushed_next, replied_next}
use Rattle.box_client.proofs.laws.numbers_are_given_once.Goals as goal

pub returns : goal.returns
returns c = record { asks = asks_numbered; next = next_past; push = pushed_next; reply = replied_next; wake = λ d. refl; restart = λ d. refl }
