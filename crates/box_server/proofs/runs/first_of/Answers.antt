use Rattle.std.proofs.Common.{arith, ap, refl, ℕ, List, [], ◌+◌, map, drop, Bor}
use Rattle.std.proofs.Math.ListN.{drop_of_length-le}
use Rattle.box_server.proofs.RunSteps.{next_text, copied_one, copied_all, copied_large, copied_most}
use Rattle.box_server.proofs.runs.first_of.Goals as goal

abbrev texts : List (Bor (List ℕ)) → List (List ℕ)
texts bs = map (λ b. b.now) bs

pub returns-then-len-eq-RECENT_EVENTS : goal.returns-then-len-eq-RECENT_EVENTS
returns-then-len-eq-RECENT_EVENTS c = copied_most (texts c.args.messages.now) c.loop-message.copies.items c.loop-message.left (texts (drop c.loop-message.message-index c.args.messages.now)) (omega (arith, c.if-len-eq-RECENT_EVENTS.true, c.len.ensures, c.loop-message.copies.ok.0)) c.loop-message.invariant

pub returns-then-message-left : goal.returns-then-message-left
returns-then-message-left c =
    copied_large (texts c.args.messages.now) c.loop-message.copies.items c.loop-message.left (texts (drop c.loop-message.message-index c.args.messages.now)) _ (texts (drop (c.loop-message.message-index + 1) c.args.messages.now))
    (next_text c.args.messages.now c.loop-message.message-index (record { ref_ptr = (0, 0); now = [] }) c.loop-message-test.true) c.if-message-left.true c.loop-message.invariant

pub loop-message-preserved : goal.loop-message-preserved
loop-message-preserved c =
    copied_one (texts c.args.messages.now) c.loop-message.copies.items c.push.new.self.items c.loop-message.left _ _ (texts (drop c.loop-message.message-index c.args.messages.now)) (texts (drop (c.loop-message.message-index + 1) c.args.messages.now))
    (next_text c.args.messages.now c.loop-message.message-index (record { ref_ptr = (0, 0); now = [] }) c.loop-message-test.true) (λ full. c.if-len-eq-RECENT_EVENTS.false (omega (arith, full, c.len.ensures, c.loop-message.copies.ok.0)))
    c.if-message-left.false refl (rw c.in_ok-from_slice.ensures at c.in_ok-push.ensures.items) c.loop-message.invariant

pub returns : goal.returns
returns c =
    copied_all (texts c.args.messages.now) c.loop-message.copies.items c.loop-message.left (texts (drop c.loop-message.message-index c.args.messages.now))
    (ap texts (drop_of_length-le c.args.messages.now c.loop-message-test.false)) c.loop-message.invariant
