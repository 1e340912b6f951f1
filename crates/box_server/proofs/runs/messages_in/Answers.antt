use Rattle.std.proofs.Common.{arith, ap, sym, subst, ◌∙◌, ℕ, List, [], ◌∷◌, ◌++◌, ◌+◌, map, Vec, Bor, Global}
use Rattle.std.proofs.lemmas.List.{map_push}
use Rattle.box_server.proofs.RunSteps.{Listing, listing_none, listing_new, listing_other, listing_ends, listed}
use Rattle.box_server.proofs.runs.messages_in.Goals as goal
use Rattle.box_server.proofs.runs.messages_in.Goals.{then-is_message+in_ok-push, else-is_message}

pub loop-event-init : goal.loop-event-init
loop-event-init c = listing_none c.args.events.now c.first-at.result (map (λ b. b.now) c.new-messages.result.items) c.first-at.ensures (ap (λ (l : List (Bor (List ℕ))). map (λ b. b.now) l) c.new-messages.ensures.items)

pub overflow_add-at : goal.overflow_add-at
overflow_add-at c =
    let ends = listing_ends c.args.events.now c.loop-event.at (map (λ b. b.now) c.loop-event.messages.items) c.in-Some.event.now c.end-stop.ensures.counted c.in-Some.ensures c.loop-event.invariant in
    omega (arith, ends, c.end-stop.ensures.value, c.end-stop.ensures.most, c.count-at.ensures.value)

pub loop-event-smaller : goal.loop-event-smaller
loop-event-smaller c =
    let ends = listing_ends c.args.events.now c.loop-event.at (map (λ b. b.now) c.loop-event.messages.items) c.in-Some.event.now c.end-stop.ensures.counted c.in-Some.ensures c.loop-event.invariant in
    omega (arith, ends, c.end-stop.ensures.value, c.count-at.ensures.value, c.count-at.ensures.some)

pub loop-event-preserved : goal.loop-event-preserved
loop-event-preserved c = elim c.if-is_message.branch [
  | then-is_message+in_ok-push w ↦
      listing_new c.args.events.now c.loop-event.at (c.loop-event.at + c.count-at.result) (map (λ b. b.now) c.loop-event.messages.items) (map (λ b. b.now) c.if-is_message.messages.items) c.in-Some.event.now c.end-stop.ensures.counted c.in-Some.ensures
      (sym c.is_message.ensures ∙ w.if-is_message.true)
      (ap (λ (v : Vec (Bor (List ℕ)) Global). map (λ b. b.now) v.items) w.messages-is ∙ ap (λ (l : List (Bor (List ℕ))). map (λ b. b.now) l) w.in_ok-push.ensures.items ∙ map_push (λ (b : Bor (List ℕ)). b.now) c.loop-event.messages.items w.body.result
      ∙ ap (λ (x : List ℕ). map (λ b. b.now) c.loop-event.messages.items ++ x ∷ []) w.body.ensures)
      (omega (arith, c.count-at.ensures.value)) c.loop-event.invariant
  | else-is_message w ↦
      subst (λ (v : Vec (Bor (List ℕ)) Global). Listing c.args.events.now (c.loop-event.at + c.count-at.result) (map (λ b. b.now) v.items)) (sym w.messages-is)
      (listing_other c.args.events.now c.loop-event.at (c.loop-event.at + c.count-at.result) (map (λ b. b.now) c.loop-event.messages.items) c.in-Some.event.now c.end-stop.ensures.counted c.in-Some.ensures
      (sym c.is_message.ensures ∙ w.if-is_message.false) (omega (arith, c.count-at.ensures.value)) c.loop-event.invariant)
]

pub returns : goal.returns
returns c = listed c.args.events.now c.loop-event.at (map (λ b. b.now) c.loop-event.messages.items) c.in_default.ensures c.loop-event.invariant
