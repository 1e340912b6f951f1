-- How many bytes frames have at most, as sums of what they carry. This project's own.
use Rattle.std.specs.Prelude.{ℕ, ◌+◌, ◌*◌, ◌≤◌}
use Rattle.box_events.specs.declared.limits.TheConstants.{MAX_FRAME_BYTES, MAX_KEYS, MAX_KEY_BYTES, MAX_POSTS, MAX_POST_BYTES, MAX_VALUE_BYTES, RUN_BYTES, RUN_EVENTS}

-- a push: its own fields, the posts' bytes, and 28 more for each of them, as for a channel's message with its ends
abbrev pub most_of_push : ℕ
most_of_push = 32 + MAX_POST_BYTES + 28 * MAX_POSTS

-- what is carried of a box: the events' bytes, and 20 more for each of them
abbrev pub most_of_run : ℕ
most_of_run = RUN_BYTES + 20 * RUN_EVENTS

-- a setting for each key, with 18 bytes beside its key and its value
abbrev pub most_of_settings : ℕ
most_of_settings = (18 + MAX_KEY_BYTES + MAX_VALUE_BYTES) * MAX_KEYS

-- an answer: a difference's own fields, what is carried of the common and of the secret box, and the settings; no other answer has more
abbrev pub most_of_answer : ℕ
most_of_answer = 56 + 2 * most_of_run + most_of_settings

-- it has so many bytes at most, which are no more than a frame may have
pub record IsBelow (most size : ℕ) : Type 0 where
  pub sum : size ≤ most
  pub limit : size ≤ MAX_FRAME_BYTES
