-- A frame and a call have 8 bytes at least.
use Rattle.std.specs.Prelude.{◌==◌}
use Rattle.std.proofs.Common.{◌≡◌, ℕ, ◌≤◌, List, Bool, true, false, refl, arith}
use Rattle.box_events.specs.declared.updates.Update.{Update}
use Rattle.box_events.specs.declared.updates.Push.TheVariants as push
use Rattle.box_events.specs.declared.replies.Reply.TheVariants as reply
use Rattle.box_events.specs.declared.replies.Frame.TheVariants as frame
use Rattle.wire_forms.specs.Forms.{forms}
use Rattle.box_world.specs.Sizes.{frame_size}
use Rattle.box_world.specs.SizeLaws.{CallsAreLong, FramesAreLong}

container_long : (us : List Update) (date start seq : ℕ) (b : Bool) → (start == seq) ≡ b → 8 ≤ frame_size (frame.Push (push.Container us date start seq))
unfolding forms
container_long us date start seq true is = rw is (omega arith)
container_long us date start seq false is = rw is (omega arith)

pub frames_are_long : FramesAreLong
unfolding forms
frames_are_long (frame.Push push.TooLong) = omega arith
frames_are_long (frame.Push (push.Container us date start seq)) = container_long us date start seq (start == seq) refl
frames_are_long (frame.Reply n (reply.State s)) = omega arith
frames_are_long (frame.Reply n (reply.Empty date seq)) = omega arith
frames_are_long (frame.Reply n (reply.Difference news secrets others xs state last)) = omega arith
frames_are_long (frame.Reply n (reply.Channel c)) = omega arith
frames_are_long (frame.Reply n (reply.Receipt r)) = omega arith
frames_are_long (frame.Reply n (reply.Error code message)) = omega arith

pub calls_are_long : CallsAreLong
unfolding forms
calls_are_long n = omega arith
