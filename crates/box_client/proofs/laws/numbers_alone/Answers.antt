use Rattle.box_client.proofs.NumberSteps.{new_numbers, pushed_numbers, replied_numbers, ticks_numbers, wakes_numbers, restarted_numbers, watched_numbers}
use Rattle.box_client.proofs.laws.numbers_alone.Goals as goal

pub returns : goal.returns
returns c = record { new = new_numbers; push = pushed_numbers; reply = replied_numbers; tick = ticks_numbers; wake = wakes_numbers; restart = restarted_numbers; watch = watched_numbers }
