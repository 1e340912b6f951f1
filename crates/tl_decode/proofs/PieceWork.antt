-- How often a decoder asks for more.
use Rattle.std.specs.declared.alloc.Global.{Global}
use Rattle.std.specs.Prelude.{Vec}
use Rattle.std.proofs.Common.{◌≡◌, ℕ, ◌+◌, ◌-◌, ◌*◌, ◌^◌, ◌<◌, ◌≤◌, List, [], ◌++◌, length, None, Ok, ap, sym, ◌∙◌, subst, arith}
use Rattle.std.proofs.lemmas.List.{length-append}
use Rattle.tl_plan.specs.Plans.{PlanView}
use Rattle.tl_decode.specs.declared.stack.WantedItem.{WantedItem}
use Rattle.tl_decode.specs.declared.stack.Found.TheVariants as found
use Rattle.tl_decode.specs.declared.stack.Reading.{Reading}
use Rattle.tl_decode.specs.inner.Frames.{found_work, views}
use Rattle.tl_decode.specs.inner.Needs.{ItemLess, piece_work}

-- more is held
held_less : (work old new more : ℕ) → new ≡ old + more → new < 2 ^ 64 → (work * 2 ^ 64 + (2 ^ 64 - new) ≤ work * 2 ^ 64 + (2 ^ 64 - old)) × (0 < more → work * 2 ^ 64 + (2 ^ 64 - new) < work * 2 ^ 64 + (2 ^ 64 - old))
held_less work old new more is lt = (omega (arith, is, lt), λ some. omega (arith, is, lt, some))

-- an item was taken
item_less : (less work old : ℕ) → less < work → old < 2 ^ 64 → less * 2 ^ 64 + (2 ^ 64 - 0) < work * 2 ^ 64 + (2 ^ 64 - old)
item_less less work old le lt = omega (arith, le, lt)

pub none_less : (p : PlanView) (old : Reading) (held : Vec ℕ Global) (next : List ℕ) → held.items ≡ old.held.items ++ next → length held.items < 2 ^ 64 → ItemLess p (piece_work p old) next (record old { held = held }) (Ok None)
none_less p old held next is lt = held_less (found_work p (views p old.frames.items) (found.Wants old.wanted)) (length old.held.items) (length held.items) (length next) (ap length is ∙ length-append old.held.items next) lt

pub some_less : (p : PlanView) (old new : Reading) (W : WantedItem) → new.held.items ≡ [] → length old.held.items < 2 ^ 64 → found_work p (views p new.frames.items) (found.Wants W) < found_work p (views p old.frames.items) (found.Wants old.wanted)
    → piece_work p (record new { wanted = W }) < piece_work p old
some_less p old new W none lt less =
    let work = found_work p (views p new.frames.items) (found.Wants W) in
    let own = item_less work (found_work p (views p old.frames.items) (found.Wants old.wanted)) (length old.held.items) less lt in
    subst (λ (z : List ℕ). work * 2 ^ 64 + (2 ^ 64 - length z) < piece_work p old) (sym none) own

pub falls : (a b c : ℕ) → a < b → b ≤ c → a < c
falls a b c less weak = omega (arith, less, weak)
