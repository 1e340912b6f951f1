-- The lines of a step are those of one spelling of what it sends.
use Rattle.std.proofs.Common.{◌≡◌, ℕ, List, [], ◌∷◌, refl, sym, ap, ◌∙◌}
use Rattle.tl_encode.proofs.OneSpelling.{one_spelling}
use Rattle.box_events.specs.declared.steps.Step.{Step}
use Rattle.box_events.specs.declared.replies.Frame.TheVariants as frame
use Rattle.wire_profile.specs.Indexes.{ProfileView, cell_shape}
use Rattle.wire_profile.specs.SpelledForms.{placed}
use Rattle.wire_values.specs.Calls.{call_tree}
use Rattle.wire_values.specs.Frames.{frame_tree}
use Rattle.box_wire.specs.Kinds.{calls, frames}
use Rattle.box_world.specs.NumberWorlds.{NumberWorld}
use Rattle.box_world.specs.Worlds.{Packet, push, request, reply}
use Rattle.update_replay.specs.StepLines.{AreSpelled, StepLines, new_packets, step_lines}
use Rattle.update_world.specs.Spelled.{IsSpelled}

packet_once : (p : ProfileView) (m : Packet) (x y : List ℕ) → IsSpelled p m x → IsSpelled p m y → x ≡ y
packet_once p (push q) x y s r = one_spelling p.schema (placed p (frame_tree (frame.Push q))) (cell_shape p frames.cell) x y s r
packet_once p (request k n) x y s r = one_spelling p.schema (placed p (call_tree n)) (cell_shape p calls.cell) x y s r
packet_once p (reply k n v m) x y s r = one_spelling p.schema (placed p (frame_tree (frame.Reply n v))) (cell_shape p frames.cell) x y s r

spelled_once : (p : ProfileView) (ms : List Packet) (a b : List (List ℕ)) → AreSpelled (IsSpelled p) ms a → AreSpelled (IsSpelled p) ms b → a ≡ b
spelled_once p [] [] [] s r = refl
spelled_once p [] [] (y ∷ b) s r = absurd r
spelled_once p [] (x ∷ a) b s r = absurd s
spelled_once p (m ∷ ms) [] b s r = absurd s
spelled_once p (m ∷ ms) (x ∷ a) [] s r = absurd r
spelled_once p (m ∷ ms) (x ∷ a) (y ∷ b) s r = λ i. packet_once p m x y s.0 r.0 i ∷ spelled_once p ms a b s.1 r.1 i

pub lines_once : (p : ProfileView) (k : ℕ) (w : NumberWorld) (s : Step) (a b : List ℕ) → StepLines (IsSpelled p) k w s a → StepLines (IsSpelled p) k w s b → a ≡ b
lines_once p k w s a b (sent, are, is) (others, also, at) = is ∙ ap (step_lines k w s) (spelled_once p (new_packets w s) sent others are also) ∙ sym at
