-- Laws of messages and their values: the value of a value's message is the value, made normal; the message of a message's value is the
-- message; what is read of any value comes back; and a message's value is one of its type where the message's parts have a spelling.
-- This project's own.
use Rattle.std.specs.Prelude.{◌≡◌, IsTrue}
use Rattle.tl_types.specs.Values.{ValueView}
use Rattle.box_events.specs.declared.replies.Frame.{Frame}
use Rattle.box_events.specs.declared.steps.Step.{Step}
use Rattle.box_events.specs.declared.requests.Numbered.{Numbered}
use Rattle.box_events.specs.declared.saved.Saved.{Saved}
use Rattle.wire_forms.specs.declared.form.Cell.TheVariants.{One, Query}
use Rattle.wire_forms.specs.declared.numbers.TheConstants.{FRAME_TYPE, STEP_TYPE, CLIENT_TYPE}
use Rattle.wire_forms.specs.IsOf.{IsOf}
use Rattle.wire_values.specs.Frames.{frame_tree, frame_in}
use Rattle.wire_values.specs.Steps.{step_tree, step_in}
use Rattle.wire_values.specs.Calls.{call_tree, call_in, is_served}
use Rattle.wire_values.specs.SavedClients.{saved_tree, saved_in}
use Rattle.wire_values.specs.Normal.{normal_frame, normal_saved}
use Rattle.wire_values.specs.Kept.{AllKept}
use Rattle.wire_values.specs.CarriedFrames.{IsFrame, FitsFrame}
use Rattle.wire_values.specs.Carried.{FitsStep, FitsCall, IsSaved, FitsSaved}

-- ---- frames

-- a value of which all is kept has the value that its frame has, but for what is made normal
abbrev pub FramesAreSame : Type 0
FramesAreSame = (t : ValueView) → IsOf (One FRAME_TYPE) t → AllKept t → frame_tree (frame_in t) ≡ normal_frame t

-- the frame of a frame's value is the frame
abbrev pub FramesComeBack : Type 0
FramesComeBack = (m : Frame) → IsFrame m → frame_in (frame_tree m) ≡ m

-- the frame of any value comes back
abbrev pub FramesAreRead : Type 0
FramesAreRead = (t : ValueView) → IsFrame (frame_in t)

-- a frame with a spelling has a value that is a frame's
abbrev pub FramesFit : Type 0
FramesFit = (m : Frame) → FitsFrame m → IsOf (One FRAME_TYPE) (frame_tree m)

-- ---- steps: their values have nothing to make normal

-- a value has the value that its step has
abbrev pub StepsAreSame : Type 0
StepsAreSame = (t : ValueView) → IsOf (One STEP_TYPE) t → step_tree (step_in t) ≡ t

-- the step of a step's value is the step
abbrev pub StepsComeBack : Type 0
StepsComeBack = (m : Step) → step_in (step_tree m) ≡ m

-- a step with a spelling has a value that is a step's
abbrev pub StepsFit : Type 0
StepsFit = (m : Step) → FitsStep m → IsOf (One STEP_TYPE) (step_tree m)

-- ---- calls that carry a request

-- a value has the value that its call has
abbrev pub CallsAreSame : Type 0
CallsAreSame = (t : ValueView) → IsOf Query t → IsTrue (is_served t) → call_tree (call_in t) ≡ t

-- the call of a call's value is the call
abbrev pub CallsComeBack : Type 0
CallsComeBack = (m : Numbered) → call_in (call_tree m) ≡ m

-- a call's value carries a request
abbrev pub CallsAreServed : Type 0
CallsAreServed = (m : Numbered) → IsTrue (is_served (call_tree m))

-- a call with a spelling has a value that is a call's
abbrev pub CallsFit : Type 0
CallsFit = (m : Numbered) → FitsCall m → IsOf Query (call_tree m)

-- ---- saved clients

-- a value of which all is kept has the value that its saved client has, but for the version
abbrev pub SavedAreSame : Type 0
SavedAreSame = (t : ValueView) → IsOf (One CLIENT_TYPE) t → AllKept t → saved_tree (saved_in t) ≡ normal_saved t

-- the saved client of a saved client's value is it
abbrev pub SavedComeBack : Type 0
SavedComeBack = (m : Saved) → IsSaved m → saved_in (saved_tree m) ≡ m

-- the saved client of any value comes back
abbrev pub SavedAreRead : Type 0
SavedAreRead = (t : ValueView) → IsSaved (saved_in t)

-- a saved client with a spelling has a value that is one's
abbrev pub SavedFit : Type 0
SavedFit = (m : Saved) → FitsSaved m → IsOf (One CLIENT_TYPE) (saved_tree m)
