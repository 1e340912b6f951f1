-- The table that stays the latest.
use Rattle.std.proofs.Common.{◌≡◌, ℕ, ◌+◌, ◌-◌, ◌≤◌, List, [], ◌∷◌, ◌++◌, Option, Some, None, Bool, true, false, cond, take, drop, leb, map as each, refl, sym, ap, ◌∙◌, subst, arith}
use Rattle.std.specs.List.{All}
use Rattle.std.specs.Cmp.Lexicographic.{nat_list_cmp_total}
use Rattle.std.proofs.lemmas.Bool.Decides.{nat_tests}
use Rattle.std.proofs.lemmas.List.{take-append-drop, take-take, drop-take}
use Rattle.std.proofs.lemmas.List.Elements.{All-head, All-tail, All-same, All-take}
use Rattle.std.specs.FinMap.{get, insert, get-insert}
use Rattle.box_events.specs.declared.settings.Setting.{Setting}
use Rattle.box_events.specs.SettingLists.{Values, same_key, Dated, or_else, last_of, last_set, value_of, value_since, IsLatest, IsOverlay, AreSince}
use Rattle.pts_machine.specs.Packs.{puts}
use Rattle.box_events.proofs.LastSettings.{last_append, last_each, value_else}

join : {A : Type 0} (o p : Option A) (b : Bool) (v : A) → or_else o (cond b (Some v) p) ≡ or_else (or_else o (cond b (Some v) None)) p
join None p true v = refl
join None p false v = refl
join (Some x) p b v = refl

-- what a table answers after settings
pub get_puts : (xs : List Setting) (m : Values) (q : List ℕ) → get (puts m xs) q ≡ or_else (last_set xs q) (get m q)
get_puts [] m q = refl
get_puts (x ∷ xs) m q =
    get_puts xs (insert m x.key x.value) q ∙ ap (or_else (last_set xs q)) (get-insert nat_list_cmp_total m x.key x.value q) ∙ join (last_set xs q) (get m q) (same_key q x.key) x.value

-- the first entries, and those up to a later place
prefixes : (L : List Dated) (s e : ℕ) → s ≤ e → take s L ++ drop s (take e L) ≡ take e L
prefixes L s e le = ap (λ (xs : List Dated). xs ++ drop s (take e L)) (sym (take-take s e L le)) ∙ take-append-drop s (take e L)

last_prefixes : (L : List Dated) (s e : ℕ) (q : List ℕ) → s ≤ e → last_of (take e L) q ≡ or_else (last_of (drop s (take e L)) q) (last_of (take s L) q)
last_prefixes L s e q le = ap (λ (xs : List Dated). last_of xs q) (sym (prefixes L s e le)) ∙ last_append (take s L) (drop s (take e L)) q

-- a stretch that is applied leaves the latest
pub latest_puts : (L : List Dated) (s e : ℕ) (m : Values) (xs : List Setting) → IsLatest L s m → s ≤ e → xs ≡ each (λ e. e.setting) (drop s (take e L)) → IsLatest L e (puts m xs)
latest_puts L s e m xs latest le is q =
    get_puts xs m q
    ∙ ap (λ (o : Option (List ℕ)). or_else o (get m q)) (ap (λ (ys : List Setting). last_set ys q) is ∙ last_each (drop s (take e L)) q)
    ∙ ap (or_else (value_of (last_of (drop s (take e L)) q))) (latest q)
    ∙ value_else (last_of (drop s (take e L)) q) (last_of (take s L) q)
    ∙ ap value_of (sym (last_prefixes L s e q le))

some_is : {A : Type 0} (x y : A) → Some x ≡ Some y → x ≡ y
some_is x y e = cc

both_same : {A : Type 0} (b : Bool) (v : A) → or_else (cond b (Some v) None) (Some v) ≡ Some v
both_same true v = refl
both_same false v = refl

is_le : (a b : ℕ) → a ≤ b → leb a b ≡ true
is_le a b le = grind (arith, nat_tests)

late_part : (L : List Dated) (at seq date : ℕ) → at ≤ seq → AreSince L at date → All (λ e. date ≤ e.date) (drop at (take seq L))
late_part L at seq date le late =
    let sum : at + (seq - at) ≡ seq = omega arith in
    subst (λ (n : ℕ). All (λ e. date ≤ e.date) (drop at (take n L))) sum
    (All-same (λ e. date ≤ e.date) (drop at (take (at + (seq - at)) L)) (take (seq - at) (drop at L)) (drop-take at (seq - at) L) (All-take (λ e. date ≤ e.date) (seq - at) (drop at L) late))

found : {A : Type 0} (P : A → Type 0) (o : Option A) (b : Bool) (x e : A) → or_else o (cond b (Some x) None) ≡ Some e → (o ≡ Some e → P e) → P x → P e
found P None true x e is more here = subst P (some_is x e is) here
found P None false x e is more here = absurd cc
found P (Some y) b x e is more here = more is

pub last_all : (P : Dated → Type 0) (xs : List Dated) (q : List ℕ) (e : Dated) → All P xs → last_of xs q ≡ Some e → P e
last_all P [] q e all is = absurd cc
last_all P (x ∷ xs) q e all is = found P (last_of xs q) (same_key q x.setting.key) x e is (last_all P xs q e (All-tail P x xs all)) (All-head P x xs all)

since : (d : ℕ) (r f : Option Dated) → ((e : Dated) → r ≡ Some e → d ≤ e.date) → or_else (value_since d (or_else r f)) (value_of f) ≡ value_of (or_else r f)
since d None None h = refl
since d None (Some e) h = both_same (leb d e.date) e.setting.value
since d (Some e) f h = let le : leb d e.date ≡ true = is_le d e.date (h e refl) in rw le refl

-- what is overlaid leaves the latest
pub latest_overlay : (L : List Dated) (at seq date : ℕ) (m : Values) (xs : List Setting) → at ≤ seq → IsLatest L at m → AreSince L at date → IsOverlay L seq date xs → IsLatest L seq (puts m xs)
latest_overlay L at seq date m xs le latest late over q =
    let parts = last_prefixes L at seq q le in
    get_puts xs m q
    ∙ ap (λ (o : Option (List ℕ)). or_else o (get m q)) (over q ∙ ap (value_since date) parts)
    ∙ ap (or_else (value_since date (or_else (last_of (drop at (take seq L)) q) (last_of (take at L) q)))) (latest q)
    ∙ since date (last_of (drop at (take seq L)) q) (last_of (take at L) q) (λ e is. last_all (λ x. date ≤ x.date) (drop at (take seq L)) q e (late_part L at seq date le late) is)
    ∙ ap value_of (sym parts)
