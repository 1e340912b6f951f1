-- How many settings are held, by what is held.
use Rattle.std.proofs.Common.{◌≡◌, ℕ, ◌+◌, List, [], ◌∷◌, length, Option, Some, None, Bool, true, false, cond, refl, sym, ap, ◌∙◌, arith}
use Rattle.std.specs.List.{sum_by}
use Rattle.std.specs.Ordering.{nat_cmp, eq_by_cmp, is_eq}
use Rattle.std.specs.declared.cmp.Ordering.{Ordering}
use Rattle.std.specs.declared.cmp.Ordering.TheVariants.{Less, Equal, Greater}
use Rattle.std.specs.Cmp.{nat_cmp_total}
use Rattle.std.specs.FinMap.{find, put, get, empty, entries, insert, remove, get-insert, get-remove, get-entries, entries-insert, len-entries, len-empty, same_map, nat_cmp-IsAntisymmetric}
use Rattle.std.specs.FinMap.Entries.{by_order}
use Rattle.std.proofs.lemmas.Bool.Decides.{nat_tests}
use Rattle.std.proofs.lemmas.Option.{none-some}
use Rattle.std.proofs.lemmas.List.Sums.{sum_by-cons}
use Rattle.pts_machine.specs.Holding.{Items, GapView, Holds}
use Rattle.pts_machine.specs.declared.held.Held.{Held as HowHeld}
use Rattle.pts_machine.specs.declared.held.Held.TheVariants.{Kept, Already, Full}
use Rattle.pts_machine.proofs.Maps.{untaken}
use Rattle.pts_machine.specs.Outcomes.{kept_by}
use Rattle.pts_machine.specs.Packs.{Pack, size}
use Rattle.pts_machine.specs.Totals.{total}

sum_put : (k : ℕ) (v : ℕ × Pack) (es : List (ℕ × (ℕ × Pack))) → find nat_cmp k es ≡ None → sum_by (λ e. size e.1.1) (put nat_cmp k v es) ≡ sum_by (λ e. size e.1.1) es + size v.1
sum_put k v [] none = omega (arith, sum_by-cons (λ (e : ℕ × (ℕ × Pack)). size e.1.1) (k, v) [])
sum_put k v (e ∷ es) none =
    elim (nat_cmp k e.0) as (λ (o : Ordering). cond (is_eq o) (Some e.1) (find nat_cmp k es) ≡ None → sum_by (λ d. size d.1.1) (by_order o ((k, v) ∷ e ∷ es) ((e.0, v) ∷ es) (e ∷ put nat_cmp k v es)) ≡ sum_by (λ d. size d.1.1) (e ∷ es) + size v.1) [
      | Less ↦ λ h. omega (arith, sum_by-cons (λ (d : ℕ × (ℕ × Pack)). size d.1.1) (k, v) (e ∷ es))
      | Equal ↦ λ h. absurd (none-some e.1 (sym h))
      | Greater ↦ λ h.
          let more : sum_by (λ d. size d.1.1) (put nat_cmp k v es) ≡ sum_by (λ d. size d.1.1) es + size v.1 = sum_put k v es h in
          omega (arith, sum_by-cons (λ (d : ℕ × (ℕ × Pack)). size d.1.1) e (put nat_cmp k v es), sum_by-cons (λ (d : ℕ × (ℕ × Pack)). size d.1.1) e es)
    ] none

-- one pack more
pub total_insert : (m : Items Pack) (k : ℕ) (v : ℕ × Pack) → get m k ≡ None → total (insert m k v) ≡ total m + size v.1
unfolding total
total_insert m k v none = ap (sum_by (λ (e : ℕ × (ℕ × Pack)). size e.1.1)) (entries-insert nat_cmp_total m k v) ∙ sum_put k v (entries m) (sym (get-entries m k) ∙ none)

no_items : {A : Type 0} (xs : List A) → length xs ≡ 0 → xs ≡ []
no_items [] e = refl
no_items (x ∷ xs) e = absurd (omega arith)

pub total_empty : total empty ≡ 0
unfolding total
total_empty = ap (sum_by (λ (e : ℕ × (ℕ × Pack)). size e.1.1)) (no_items (entries (empty {R = nat_cmp})) (sym (len-entries empty) ∙ len-empty nat_cmp (ℕ × Pack)))

same_start : (q k : ℕ) → eq_by_cmp nat_cmp q k ≡ true → q ≡ k
same_start q k t = grind (arith, nat_tests)

back : {A : Type 0} (b : Bool) (x : A) (o : Option A) → (b ≡ true → o ≡ Some x) → cond b (Some x) (cond b None o) ≡ o
back true x o h = sym (h refl)
back false x o h = refl

put_back : (m : Items Pack) (k : ℕ) (x : ℕ × Pack) → get m k ≡ Some x → insert (remove m k) k x ≡ m
put_back m k x is = same_map nat_cmp_total nat_cmp-IsAntisymmetric _ _ (λ q.
    get-insert nat_cmp_total (remove m k) k x q ∙ ap (cond (eq_by_cmp nat_cmp q k) (Some x)) (get-remove nat_cmp_total m k q)
    ∙ back (eq_by_cmp nat_cmp q k) x (get m q) (λ t. ap (get m) (same_start q k t) ∙ is))

itself : (k : ℕ) → eq_by_cmp nat_cmp k k ≡ true
itself k = grind (arith, nat_tests)

gone : (m : Items Pack) (k : ℕ) → get (remove m k) k ≡ None
gone m k = get-remove nat_cmp_total m k k ∙ rw (itself k) refl

-- one pack less
pub total_taken : (m : Items Pack) (k : ℕ) (x : ℕ × Pack) → get m k ≡ Some x → total m ≡ total (remove m k) + size x.1
total_taken m k x is = ap total (sym (put_back m k x is)) ∙ total_insert (remove m k) k x (gone m k)

pub total_untaken : (m : Items Pack) (k : ℕ) → get m k ≡ None → total (remove m k) ≡ total m
total_untaken m k none = ap total (sym (untaken m k none))

-- what came of a pack tells how many more settings are held
pub held_total : (old new : GapView Pack) (start end : ℕ) (item : Pack) (r : HowHeld Pack) → Holds old new start end item r → total new.held ≡ total old.held + kept_by r (size item)
held_total old new start end item Kept h = ap total h.2 ∙ total_insert old.held start (end, item) h.0
held_total old new start end item (Already x) h = omega (arith, ap (λ (p : GapView _). total p.held) h.2)
held_total old new start end item (Full x) h = omega (arith, ap (λ (p : GapView _). total p.held) h.3)
