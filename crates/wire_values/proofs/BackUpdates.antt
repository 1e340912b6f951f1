-- The update of an update's value is the update.
use Rattle.std.proofs.Common.{◌≡◌, ℕ, List, [], ◌∷◌, Bool, true, false, refl, sym, ap, ◌∙◌, arith}
use Rattle.std.specs.Prelude.{ℤ, IsTrue, length, not, if◌then◌else◌}
use Rattle.std.specs.List.{All}
use Rattle.std.proofs.lemmas.Bool.Decides.{nat_tests}
use Rattle.tl_types.specs.Values.{ValueView, int, ValueViews, no_values, value}
use Rattle.box_events.specs.Events.{EventView, added, edited, deleted, read, is_new}
use Rattle.box_events.specs.Views.{HasCount}
use Rattle.box_events.specs.declared.settings.Setting as settings
use Rattle.box_events.specs.declared.updates.Placed as placed
use Rattle.box_events.specs.declared.updates.Update.{Update}
use Rattle.box_events.specs.declared.updates.Update.TheVariants.{Common, Secret, Channel, ChannelTooLong, Setting}
use Rattle.wire_forms.specs.Parts.{int_of, each, row}
use Rattle.wire_forms.proofs.Words.{clash, again}
use Rattle.wire_forms.proofs.Records.{list_back, each_back}
use Rattle.wire_values.specs.Updates.{has_ids, deletion, common_tree, update_tree, update_in, placed_tree, placed_in, setting_tree, setting_in}
use Rattle.wire_values.specs.Others.{is_setting, kept, joined, others_of, settings_of}
use Rattle.wire_values.specs.CarriedFrames.{IsUpdate, IsOther}
use Rattle.wire_values.proofs.KeptParts.{deletion_is}

counted : (ids : List ℤ) → HasCount (deleted ids) → IsTrue (has_ids (length ids))
counted ids c = let p = c.0 in let q = c.1 in grind (arith, nat_tests, p, q)

pub ids_back : (ids : List ℤ) → HasCount (deleted ids) → deletion (each int_of (row int ids)) ≡ deleted ids
ids_back ids c = ap deletion (each_back int_of int (λ z. refl) ids) ∙ deletion_is ids (counted ids c)

pub update_back : (u : Update) → IsUpdate u → update_in (update_tree u) ≡ u
update_back (Common (added body) pts) is = ap (Common (added body)) (again pts)
update_back (Common (edited body) pts) is = ap (Common (edited body)) (again pts)
update_back (Common (deleted ids) pts) is = ap (λ (n : ℕ). Common (deletion (each int_of (row int ids))) n) (again pts) ∙ ap (λ (e : EventView). Common e pts) (ids_back ids is)
update_back (Common (read z) pts) is = ap (Common (read z)) (again pts)
update_back (Secret body qts) is = ap (Secret body) (again qts)
update_back (Channel id (added body) pts) is = ap (Channel id (added body)) (again pts)
update_back (Channel id (edited body) pts) is = ap (Channel id (edited body)) (again pts)
update_back (Channel id (deleted ids) pts) is = ap (λ (n : ℕ). Channel id (deletion (each int_of (row int ids))) n) (again pts) ∙ ap (λ (e : EventView). Channel id e pts) (ids_back ids is)
update_back (Channel id (read z) pts) is = ap (Channel id (read z)) (again pts)
update_back (ChannelTooLong id) is = refl
update_back (Setting s) is = refl

pub updates_back : (us : List Update) → All IsUpdate us → each update_in (row update_tree us) ≡ us
updates_back us is = list_back IsUpdate update_in update_tree update_back us is

abbrev placed_with : EventView → ℕ → placed.Placed
placed_with e n = record { event = e; pts = n }

placed_by : (e : EventView) (pts : ℕ) → HasCount e → is_new e ≡ false → placed_in (common_tree e pts) ≡ placed_with e pts
placed_by (added body) pts c n = absurd (clash (sym n))
placed_by (edited body) pts c n = ap (placed_with (edited body)) (again pts)
placed_by (deleted ids) pts c n = ap (placed_with (deletion (each int_of (row int ids)))) (again pts) ∙ ap (λ (e : EventView). placed_with e pts) (ids_back ids c)
placed_by (read z) pts c n = ap (placed_with (read z)) (again pts)

placed_back : (p : placed.Placed) → IsOther p → placed_in (placed_tree p) ≡ p
placed_back p is = placed_by p.event p.pts is.0 is.1

pub placed_all_back : (ps : List placed.Placed) → All IsOther ps → each placed_in (row placed_tree ps) ≡ ps
placed_all_back ps is = list_back IsOther placed_in placed_tree placed_back ps is

pub settings_back : (ss : List settings.Setting) → each setting_in (row setting_tree ss) ≡ ss
settings_back ss = each_back setting_in setting_tree (λ s. refl) ss

-- ---- others and settings, one after the other

kept_join : (f : ValueView → Bool) (b : Bool) (t : ValueView) (ts us vs : ValueViews) → kept f (joined ts us) ≡ joined vs (kept f us) → (if b then value t (kept f (joined ts us)) else kept f (joined ts us)) ≡ joined (if b then value t vs else vs) (kept f us)
kept_join f true t ts us vs e = ap (value t) e
kept_join f false t ts us vs e = e

kept_joined : (f : ValueView → Bool) (ts us : ValueViews) → kept f (joined ts us) ≡ joined (kept f ts) (kept f us)
kept_joined f no_values us = refl
kept_joined f (value t ts) us = kept_join f (f t) t ts us (kept f ts) (kept_joined f ts us)

if_true : (b : Bool) (x y : ValueViews) → b ≡ true → (if b then x else y) ≡ x
if_true true x y e = refl
if_true false x y e = absurd (clash e)

if_false : (b : Bool) (x y : ValueViews) → b ≡ false → (if b then x else y) ≡ y
if_false true x y e = absurd (clash (sym e))
if_false false x y e = refl

kept_row : {A : Type 0} (f : ValueView → Bool) (g : A → ValueView) → ((x : A) → f (g x) ≡ true) → (xs : List A) → kept f (row g xs) ≡ row g xs
kept_row f g law [] = refl
kept_row f g law (x ∷ xs) = if_true (f (g x)) _ _ (law x) ∙ ap (value (g x)) (kept_row f g law xs)

dropped_row : {A : Type 0} (f : ValueView → Bool) (g : A → ValueView) → ((x : A) → f (g x) ≡ false) → (xs : List A) → kept f (row g xs) ≡ no_values
dropped_row f g law [] = refl
dropped_row f g law (x ∷ xs) = if_false (f (g x)) _ _ (law x) ∙ dropped_row f g law xs

no_setting : (e : EventView) (pts : ℕ) → is_setting (common_tree e pts) ≡ false
no_setting (added body) pts = refl
no_setting (edited body) pts = refl
no_setting (deleted ids) pts = refl
no_setting (read z) pts = refl

joined_none : (ts : ValueViews) → joined ts no_values ≡ ts
joined_none no_values = refl
joined_none (value t ts) = ap (value t) (joined_none ts)

pub others_apart : (ps : List placed.Placed) (ss : List settings.Setting) → others_of (joined (row placed_tree ps) (row setting_tree ss)) ≡ row placed_tree ps
others_apart ps ss =
    let f = λ (t : ValueView). not (is_setting t) in
    kept_joined f (row placed_tree ps) (row setting_tree ss)
    ∙ ap (λ (u : ValueViews). joined u (kept f (row setting_tree ss))) (kept_row f placed_tree (λ p. ap not (no_setting p.event p.pts)) ps)
    ∙ ap (joined (row placed_tree ps)) (dropped_row f setting_tree (λ s. refl) ss)
    ∙ joined_none (row placed_tree ps)

pub settings_apart : (ps : List placed.Placed) (ss : List settings.Setting) → settings_of (joined (row placed_tree ps) (row setting_tree ss)) ≡ row setting_tree ss
settings_apart ps ss =
    kept_joined is_setting (row placed_tree ps) (row setting_tree ss)
    ∙ ap (λ (u : ValueViews). joined u (kept is_setting (row setting_tree ss))) (dropped_row is_setting placed_tree (λ p. no_setting p.event p.pts) ps)
    ∙ kept_row is_setting setting_tree (λ s. refl) ss

pub others_alone : (ps : List placed.Placed) → joined (row placed_tree ps) no_values ≡ row placed_tree ps
others_alone ps = joined_none (row placed_tree ps)
