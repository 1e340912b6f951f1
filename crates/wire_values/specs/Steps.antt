-- The value of a replay's step, and the step of a value. This project's own.
use Rattle.std.specs.Prelude.{ℕ, [], ◌∷◌, ◌==◌, if◌then◌else◌}
use Rattle.tl_types.specs.Values.{ValueView, long, list, node, ValueViews, no_values, values_of}
use Rattle.box_events.specs.declared.steps.Step.{Step}
use Rattle.box_events.specs.declared.steps.Step.TheVariants as step
use Rattle.wire_forms.specs.Parts.{at, parts_of, entry_of, long_of, word_of, number, each, row}
use Rattle.wire_forms.specs.declared.numbers.TheConstants.{STEP_POST, STEP_DATE, STEP_SERVE, STEP_HEAR, STEP_TICK, STEP_WAKE, STEP_WATCH, STEP_RESTART, STEP_TOO_LONG, STEP_CHANNEL_TOO_LONG}
use Rattle.wire_values.specs.Posts.{post_tree, post_in}

-- a step
abbrev pub step_tree : Step → ValueView
step_tree (step.Post random_id posts) = node STEP_POST (values_of (long random_id ∷ list (row post_tree posts) ∷ []))
step_tree (step.Date date) = node STEP_DATE (values_of (number date ∷ []))
step_tree (step.Serve packet) = node STEP_SERVE (values_of (number packet ∷ []))
step_tree (step.Hear client packet) = node STEP_HEAR (values_of (number client ∷ number packet ∷ []))
step_tree (step.Tick client) = node STEP_TICK (values_of (number client ∷ []))
step_tree (step.Wake client) = node STEP_WAKE (values_of (number client ∷ []))
step_tree (step.Watch client id) = node STEP_WATCH (values_of (number client ∷ long id ∷ []))
step_tree (step.Restart client) = node STEP_RESTART (values_of (number client ∷ []))
step_tree step.TooLong = node STEP_TOO_LONG no_values
step_tree (step.ChannelTooLong id) = node STEP_CHANNEL_TOO_LONG (values_of (long id ∷ []))

-- ---- back: the last form stands for whatever else there is

-- the step of a record of form k
abbrev pub step_at : ℕ → ValueViews → Step
step_at k ts =
    if k == STEP_POST then step.Post (long_of (at 0 ts)) (each post_in (parts_of (at 1 ts)))
    else if k == STEP_DATE then step.Date (word_of (at 0 ts))
    else if k == STEP_SERVE then step.Serve (word_of (at 0 ts))
    else if k == STEP_HEAR then step.Hear (word_of (at 0 ts)) (word_of (at 1 ts))
    else if k == STEP_TICK then step.Tick (word_of (at 0 ts))
    else if k == STEP_WAKE then step.Wake (word_of (at 0 ts))
    else if k == STEP_WATCH then step.Watch (word_of (at 0 ts)) (long_of (at 1 ts))
    else if k == STEP_RESTART then step.Restart (word_of (at 0 ts))
    else if k == STEP_TOO_LONG then step.TooLong
    else step.ChannelTooLong (long_of (at 0 ts))

-- the step of a value
abbrev pub step_in : ValueView → Step
step_in t = step_at (entry_of t) (parts_of t)
