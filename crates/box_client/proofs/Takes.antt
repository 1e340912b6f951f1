-- Differences that fit are taken.
use Rattle.std.proofs.Common.{◌≡◌, ℕ, ◌≤◌, List, Bool, true, false, ◌&&◌, ltb, refl, ap, ap₂, ◌∙◌, arith}
use Rattle.std.specs.Prelude.{Result}
use Rattle.std.proofs.lemmas.Bool.Decides.{nat_tests}
use Rattle.box_events.specs.Events.{EventView}
use Rattle.box_events.specs.declared.difference_fault.WeaveFault.{WeaveFault}
use Rattle.box_client.specs.Replies.{group_taken, group_woven}
use Rattle.box_client.specs.Laws.{TakesWhatFits}

not_below : (a b : ℕ) → a ≤ b → ltb b a ≡ false
not_below a b le = grind (arith, nat_tests)

neither : (last b : Bool) → b ≡ false → (last && b) ≡ false
neither true b is = is
neither false b is = refl

pub takes_what_fits : TakesWhatFits
takes_what_fits c b xs ys common secret seq =
    ap₂ (λ (p q : Result (List EventView) WeaveFault). group_woven c b p q) common secret
    ∙ ap (λ (back : Bool). group_taken back c b xs ys) (neither b.last (ltb b.state.seq c.settings.at) (not_below c.settings.at b.state.seq seq))
