-- Packs that were applied in turn.
use Rattle.std.proofs.Common.{◌≡◌, ℕ, ◌+◌, ◌≤◌, List, [], ◌∷◌, Bool, true, false, cond, length, is_some, refl, ap, ◌∙◌, arith}
use Rattle.std.specs.Cmp.Lexicographic.{nat_list_cmp_total}
use Rattle.std.specs.FinMap.{get, len, insert, len-insert}
use Rattle.box_events.specs.declared.settings.Setting.{Setting}
use Rattle.pts_machine.specs.Takings.{InTurn}
use Rattle.pts_machine.specs.Takings.InTurn.{none, one_more}
use Rattle.pts_machine.specs.declared.store.Store.{Store}
use Rattle.box_events.specs.SettingLists.{Values}
use Rattle.pts_machine.specs.Packs.{Pack, puts, puts_all, last_date}
use Rattle.pts_machine.specs.Stores.{Applied}

cond_le : (b : Bool) (n : ℕ) → cond b n (n + 1) ≤ n + 1
cond_le true n = omega arith
cond_le false n = omega arith

one_put : (m : Values) (k v : List ℕ) → len (insert m k v) ≤ len m + 1
one_put m k v = omega (arith, len-insert nat_list_cmp_total m k v, cond_le (is_some (get m k)) (len m))

-- settings that are put are so many keys more at most
pub len_puts : (m : Values) (xs : List Setting) → len (puts m xs) ≤ len m + length xs
len_puts m [] = omega arith
len_puts m (x ∷ xs) = omega (arith, len_puts (insert m x.key x.value) xs, one_put m x.key x.value)

-- their settings are put, and the last of them gives the date
pub record AreApplied (s : Store) (packs : List Pack) (t : Store) : Type 0 where
  pub values : t.table.values ≡ puts_all s.table.values packs
  pub date : t.date ≡ last_date s.date packs
  pub less : t.waiting ≤ s.waiting
  pub few : len t.table.values + t.waiting ≤ len s.table.values + s.waiting
  pub room : s.table.spare + t.waiting ≤ t.table.spare + s.waiting

pub are_applied : (s t : Store) (packs : List Pack) → InTurn Applied s packs t → AreApplied s packs t
are_applied s t [] (none x) = record { values = refl; date = refl; less = omega arith; few = omega arith; room = omega arith }
are_applied s t (pack ∷ packs) (one_more x u z one more first rest) =
    let a = are_applied u z more rest in
    record {
      values = a.values ∙ ap (λ m. puts_all m more) first.0;
      date = a.date ∙ ap (λ d. last_date d more) first.1;
      less = omega (arith, a.less, first.2);
      few = omega (arith, a.few, ap len first.0, len_puts s.table.values pack.settings, first.2);
      room = omega (arith, a.room, first.2, first.3);
    }
