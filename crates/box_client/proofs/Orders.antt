-- Settings in byte order of keys.
use Rattle.std.proofs.Common.{◌≡◌, ℕ, ◌+◌, ◌-◌, ◌<◌, ◌≤◌, List, [], ◌∷◌, length, map, get_or, drop, Bool, true, false, cond, ◌&&◌, T, Option, Some, None, refl, sym, ap, ◌∙◌, subst, arith}
use Rattle.std.specs.Ordering.{nat_cmp, is_lt}
use Rattle.std.specs.declared.cmp.Ordering.{Ordering}
use Rattle.std.specs.declared.cmp.Ordering.TheVariants.{Less, Equal, Greater}
use Rattle.std.specs.Cmp.Lexicographic.{slice_cmp, nat_list_cmp_total}
use Rattle.std.specs.FinMap as map_of
use Rattle.std.specs.FinMap.{is_sorted, entries_sorted, entries-from_sorted, same_entries_map}
use Rattle.std.specs.FinMap.Entries.{below_all}
use Rattle.std.proofs.lemmas.List.{drop_more, length-drop}
use Rattle.box_events.specs.declared.settings.Setting.{Setting}
use Rattle.box_events.specs.SettingLists.{Values}
use Rattle.pts_machine.specs.Rows.{pairs, values_of, AreSorted}
use Rattle.box_client.specs.Saving.{unsorted_from, unsorted, setting_of, settings_saved}

abbrev order : List ℕ → List ℕ → Ordering
order = slice_cmp nat_cmp

both : (a b : Bool) → T a → T b → T (a && b)
both true b p q = q
both false b p q = absurd p

parts : (a b : Bool) → T (a && b) → T a × T b
parts true b h = (tt, h)
parts false b h = absurd h

less : (o : Ordering) → is_lt o ≡ true → o ≡ Less
less Less h = refl
less Equal h = absurd cc
less Greater h = absurd cc

yes_of : (b : Bool) → T b → b ≡ true
yes_of true h = refl
yes_of false h = absurd h

below_less : (j k : List ℕ) (es : List (List ℕ × List ℕ)) → order j k ≡ Less → T (below_all order k es) → T (below_all order j es)
below_less j k [] l h = tt
below_less j k (e ∷ es) l h =
    let two = parts (is_lt (order k e.0)) (below_all order k es) h in
    let next : order j e.0 ≡ Less = nat_list_cmp_total.trans j k e.0 l (less (order k e.0) (yes_of _ two.0)) in
    both (is_lt (order j e.0)) (below_all order j es) (rw next tt) (below_less j k es l two.1)

rises_over : (b : Bool) (i : ℕ) (o : Option ℕ) → cond b o (Some i) ≡ None → (b ≡ true) × (o ≡ None)
rises_over true i o e = (refl, e)
rises_over false i o e = absurd cc

-- where no key is unsorted, all rise
rising : (i : ℕ) (k : List ℕ) (xs : List Setting) → unsorted_from i k xs ≡ None → T (below_all order k (pairs xs)) × T (is_sorted order (pairs xs))
rising i k [] e = (tt, tt)
rising i k (x ∷ xs) e =
    let two = rises_over (is_lt (order k x.key)) i (unsorted_from (i + 1) x.key xs) e in
    let rest = rising (i + 1) x.key xs two.1 in
    let l : order k x.key ≡ Less = less (order k x.key) two.0 in
    (both (is_lt (order k x.key)) (below_all order k (pairs xs)) (rw l tt) (below_less k x.key (pairs xs) l rest.0), both (below_all order x.key (pairs xs)) (is_sorted order (pairs xs)) rest.0 rest.1)

pub sorted_of : (xs : List Setting) → unsorted xs ≡ None → AreSorted xs
sorted_of [] e = tt
sorted_of (x ∷ xs) e = let two = rising 1 x.key xs e in both (below_all order x.key (pairs xs)) (is_sorted order (pairs xs)) two.0 two.1

-- and where all rise, none is unsorted
none_over : (b : Bool) (i : ℕ) (o : Option ℕ) → b ≡ true → o ≡ None → cond b o (Some i) ≡ None
none_over true i o p q = q
none_over false i o p q = absurd cc

none_from : (i : ℕ) (k : List ℕ) (xs : List Setting) → T (below_all order k (pairs xs)) → T (is_sorted order (pairs xs)) → unsorted_from i k xs ≡ None
none_from i k [] b s = refl
none_from i k (x ∷ xs) b s =
    let two = parts (below_all order x.key (pairs xs)) (is_sorted order (pairs xs)) s in
    none_over (is_lt (order k x.key)) i (unsorted_from (i + 1) x.key xs) (yes_of _ (parts (is_lt (order k x.key)) (below_all order k (pairs xs)) b).0) (none_from (i + 1) x.key xs two.0 two.1)

pub none_unsorted : (xs : List Setting) → AreSorted xs → unsorted xs ≡ None
none_unsorted [] s = refl
none_unsorted (x ∷ xs) s = let two = parts (below_all order x.key (pairs xs)) (is_sorted order (pairs xs)) s in none_from 1 x.key xs two.0 two.1

-- a search along the list

-- the first that isn't above the one before, after the first of these, which stands before i
abbrev pub unsorted_at : ℕ → List Setting → Option ℕ
unsorted_at i [] = None
unsorted_at i (x ∷ xs) = unsorted_from i x.key xs

is_unsorted : (xs : List Setting) → unsorted_at 1 xs ≡ unsorted xs
is_unsorted [] = refl
is_unsorted (x ∷ xs) = refl

pub search_begins : (xs : List Setting) → unsorted_at 1 (drop (1 - 1) xs) ≡ unsorted xs
search_begins xs = is_unsorted xs

two_left : (xs : List Setting) (i : ℕ) (d e : Setting) → 1 ≤ i → i < length xs → drop (i - 1) xs ≡ get_or xs (i - 1) d ∷ get_or xs i e ∷ drop (i + 1) xs
two_left xs i d e one lt =
    let first : drop (i - 1) xs ≡ get_or xs (i - 1) d ∷ drop (i - 1 + 1) xs = drop_more xs (i - 1) d (omega (arith, one, lt)) in
    let at : i - 1 + 1 ≡ i = omega (arith, one) in
    first ∙ ap (λ (j : ℕ). get_or xs (i - 1) d ∷ drop j xs) at ∙ ap (λ (l : List Setting). get_or xs (i - 1) d ∷ l) (drop_more xs i e lt)

searched : (xs : List Setting) (i : ℕ) (x y : Setting) → 1 ≤ i → i < length xs → x ≡ get_or xs (i - 1) x → y ≡ get_or xs i y
    → unsorted_at i (drop (i - 1) xs) ≡ cond (is_lt (order x.key y.key)) (unsorted_from (i + 1) y.key (drop (i + 1) xs)) (Some i)
searched xs i x y one lt is at =
    ap (unsorted_at i) (two_left xs i x y one lt)
    ∙ sym (ap (λ (z : Setting). unsorted_from i z.key (get_or xs i y ∷ drop (i + 1) xs)) is)
    ∙ sym (ap (λ (z : Setting). unsorted_from i x.key (z ∷ drop (i + 1) xs)) at)

pub search_goes_on : (xs : List Setting) (i : ℕ) (x y : Setting) → 1 ≤ i → i < length xs → x ≡ get_or xs (i - 1) x → y ≡ get_or xs i y → is_lt (order x.key y.key) ≡ true
    → unsorted_at i (drop (i - 1) xs) ≡ unsorted xs → unsorted_at (i + 1) (drop (i + 1 - 1) xs) ≡ unsorted xs
search_goes_on xs i x y one lt is at rises so =
    let same : i + 1 - 1 ≡ i = omega arith in
    let here : unsorted_at (i + 1) (drop i xs) ≡ unsorted_from (i + 1) y.key (drop (i + 1) xs) = ap (unsorted_at (i + 1)) (drop_more xs i y lt) ∙ sym (ap (λ (z : Setting). unsorted_from (i + 1) z.key (drop (i + 1) xs)) at) in
    ap (λ (j : ℕ). unsorted_at (i + 1) (drop j xs)) same ∙ here
    ∙ sym (ap (λ (b : Bool). cond b (unsorted_from (i + 1) y.key (drop (i + 1) xs)) (Some i)) rises) ∙ sym (searched xs i x y one lt is at) ∙ so

pub search_finds : (xs : List Setting) (i : ℕ) (x y : Setting) → 1 ≤ i → i < length xs → x ≡ get_or xs (i - 1) x → y ≡ get_or xs i y → is_lt (order x.key y.key) ≡ false
    → unsorted_at i (drop (i - 1) xs) ≡ unsorted xs → Some i ≡ unsorted xs
search_finds xs i x y one lt is at falls so =
    sym (ap (λ (b : Bool). cond b (unsorted_from (i + 1) y.key (drop (i + 1) xs)) (Some i)) falls) ∙ sym (searched xs i x y one lt is at) ∙ so

none_left : (i : ℕ) (xs : List Setting) → length xs ≤ 1 → unsorted_at i xs ≡ None
none_left i [] le = refl
none_left i (x ∷ []) le = refl
none_left i (x ∷ y ∷ xs) le = absurd (omega (arith, le))

pub search_ends : (xs : List Setting) (i : ℕ) → 1 ≤ i → length xs ≤ i → unsorted_at i (drop (i - 1) xs) ≡ unsorted xs → None ≡ unsorted xs
search_ends xs i one le so = sym (none_left i (drop (i - 1) xs) (omega (arith, one, le, length-drop (i - 1) xs))) ∙ so

-- saved settings

pairs_of : (es : List (List ℕ × List ℕ)) → pairs (map setting_of es) ≡ es
pairs_of [] = refl
pairs_of (e ∷ es) = ap (λ (l : List (List ℕ × List ℕ)). e ∷ l) (pairs_of es)

saved_sorted : (table : Values) → AreSorted (settings_saved table)
saved_sorted table = subst (λ (l : List (List ℕ × List ℕ)). T (is_sorted order l)) (sym (pairs_of (map_of.entries table))) (entries_sorted table)

pub saved_in_order : (table : Values) → unsorted (settings_saved table) ≡ None
saved_in_order table = none_unsorted (settings_saved table) (saved_sorted table)

pub saved_again : (table : Values) → values_of (settings_saved table) ≡ table
saved_again table = same_entries_map (values_of (settings_saved table)) table (entries-from_sorted order (pairs (settings_saved table)) (saved_sorted table) ∙ pairs_of (map_of.entries table))
