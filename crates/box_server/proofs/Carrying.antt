-- What is carried lies at its place, and brings any older settings to the latest.
use Rattle.std.proofs.Common.{◌≡◌, ℕ, zero, suc, ◌+◌, ◌-◌, ◌≤◌, List, [], ◌∷◌, ◌++◌, Bool, true, false, cond, ◌&&◌, T, Option, Some, None, eqb, leb, if◌then◌else◌, length, map as each, refl, sym, ap, ap₂, ◌∙◌, subst, arith, append_assoc, append-nil}
use Rattle.std.proofs.lemmas.Bool.Decides.{nat_tests}
use Rattle.std.proofs.Math.Seq.{take-length}
use Rattle.std.proofs.lemmas.List.{nil_from_length}
use Rattle.std.specs.Ordering.{is_eq, is_lt}
use Rattle.std.specs.declared.cmp.Ordering.{Ordering}
use Rattle.std.specs.declared.cmp.Ordering.TheVariants.{Less, Equal, Greater}
use Rattle.std.specs.Cmp.Lexicographic.{nat_list_cmp_total}
use Rattle.std.specs.FinMap.{entries, entries_sorted, entries-insert, insert, find, put, empty, get-entries, len-entries, len-empty, is_sorted, slice_cmp-IsAntisymmetric, nat_cmp-IsAntisymmetric}
use Rattle.std.specs.FinMap.Entries.{below_all, by_order}
use Rattle.box_events.specs.declared.limits.TheConstants.{RUN_EVENTS, RUN_BYTES}
use Rattle.box_events.specs.declared.settings.Setting.{Setting}
use Rattle.box_events.specs.Events.{EventView}
use Rattle.box_events.specs.Boxes.{ending, Between, AreCounted}
use Rattle.box_events.specs.SettingLists.{Dated, same_key, or_else, last_of, last_set, value_since, IsOverlay}
use Rattle.box_events.proofs.Boundaries.{ending-append}
use Rattle.box_events.proofs.LastSettings.{else_none}
use Rattle.box_events.proofs.Stretches.{counted_right}
use Rattle.box_server.specs.Servers.{ChannelBox}
use Rattle.box_server.specs.Entries.{bytes_of}
use Rattle.box_server.specs.LastEntries.{ByKey, with_entries, last_entries, settings_since, changed_since}
use Rattle.box_server.specs.Runs.{events_after, limited, run_of}
use Rattle.box_server.specs.Answers.{is_whole}
use Rattle.box_server.specs.Growing.{IsWhole}
use Rattle.box_server.proofs.AfterNumbers.{prefix_before, is_le}
use Rattle.box_server.proofs.LastLists.{order, get_last}
use Rattle.box_server.proofs.Replying.{nothing_counts}

-- ---- runs

prefix_if : (b : Bool) (e : EventView) (es xs : List EventView) → (rest : List EventView) × (es ≡ xs ++ rest) → (rest : List EventView) × (e ∷ es ≡ (if b then e ∷ xs else []) ++ rest)
prefix_if true e es xs r = (r.0, ap (λ (l : List EventView). e ∷ l) r.1)
prefix_if false e es xs r = (e ∷ es, refl)

limited_prefix : (n b : ℕ) (es : List EventView) → (rest : List EventView) × (es ≡ limited bytes_of n b es ++ rest)
unfolding limited
limited_prefix zero b es = (es, refl)
limited_prefix (suc n) b [] = ([], refl)
limited_prefix (suc n) b (e ∷ es) = prefix_if (leb (bytes_of e) b) e es (limited bytes_of n (b - bytes_of e) es) (limited_prefix n (b - bytes_of e) es)

pub run_prefix : (es : List EventView) → (rest : List EventView) × (es ≡ run_of es ++ rest)
run_prefix es = limited_prefix RUN_EVENTS RUN_BYTES es

pub run_lies : (box : List EventView) (p : ℕ) (es : List EventView) → events_after box p ≡ Some es → Between box p (p + ending (run_of es)) (run_of es)
run_lies box p es is =
    let a = prefix_before box p es is in
    let r = run_prefix es in
    record {
      prefix = a.prefix;
      rest = r.0;
      whole = a.whole ∙ ap (λ (l : List EventView). a.prefix ++ l) r.1;
      start = a.stop;
      stop = ending-append a.prefix (run_of es) ∙ ap (λ (n : ℕ). n + ending (run_of es)) a.stop;
    }

pub rest_lies : (box : List EventView) (p : ℕ) (es : List EventView) → events_after box p ≡ Some es → Between box p (ending box) es
rest_lies box p es is =
    let a = prefix_before box p es is in
    record { prefix = a.prefix; rest = []; whole = a.whole ∙ ap (λ (l : List EventView). a.prefix ++ l) (sym (append-nil es)); start = a.stop; stop = ap ending (sym a.whole) }

pub channel_run_lies : (whole : List EventView) (c : ChannelBox) (p : ℕ) (es : List EventView) → IsWhole whole c → c.first ≤ p → events_after c.events (p - c.first) ≡ Some es → Between whole p (p + ending (run_of es)) (run_of es)
channel_run_lies whole c p es w le is =
    let a = prefix_before c.events (p - c.first) es is in
    let r = run_prefix es in
    let prefix : List EventView = w.gone ++ a.prefix in
    let start : ending prefix ≡ p = omega (arith, ending-append w.gone a.prefix, w.first, a.stop, le) in
    record {
      prefix = prefix;
      rest = r.0;
      whole = w.events ∙ ap (λ (l : List EventView). w.gone ++ l) (a.whole ∙ ap (λ (l : List EventView). a.prefix ++ l) r.1) ∙ sym (append_assoc w.gone a.prefix (run_of es ++ r.0));
      start = start;
      stop = ending-append prefix (run_of es) ∙ ap (λ (n : ℕ). n + ending (run_of es)) start;
    }

same_sum : (a b : ℕ) → eqb a b ≡ true → a ≡ b
same_sum a b e = grind (arith, nat_tests)

pub whole_run_is : (es : List EventView) → AreCounted es → is_whole es ≡ true → run_of es ≡ es
whole_run_is es c whole =
    let r = run_prefix es in
    let sum : ending es ≡ ending (run_of es) + ending r.0 = ap ending r.1 ∙ ending-append (run_of es) r.0 in
    let none : r.0 ≡ [] = nothing_counts r.0 (counted_right (run_of es) r.0 (subst AreCounted r.1 c)) (omega (arith, sum, same_sum (ending (run_of es)) (ending es) whole)) in
    sym (append-nil (run_of es)) ∙ ap (λ (l : List EventView). run_of es ++ l) (sym none) ∙ sym r.1

-- where the first event is not too large it is carried
pub carries_first : (e : EventView) (es : List EventView) → bytes_of e ≤ RUN_BYTES → (more : List EventView) × (run_of (e ∷ es) ≡ e ∷ more)
unfolding limited
carries_first e es le =
    (limited bytes_of (RUN_EVENTS - 1) (RUN_BYTES - bytes_of e) es, ap (λ (b : Bool). if b then e ∷ limited bytes_of (RUN_EVENTS - 1) (RUN_BYTES - bytes_of e) es else []) (is_le (bytes_of e) RUN_BYTES le))

-- ---- settings

-- each entry stands under its own key
abbrev Own : List (List ℕ × Dated) → Type 0
Own [] = Unit {0}
Own (x ∷ xs) = (x.1.setting.key ≡ x.0) × Own xs

own_by : (o : Ordering) (k : List ℕ) (e : Dated) (x : List ℕ × Dated) (xs rest : List (List ℕ × Dated)) → order k x.0 ≡ o → e.setting.key ≡ k → Own (x ∷ xs) → Own rest → Own (by_order o ((k, e) ∷ x ∷ xs) ((x.0, e) ∷ xs) (x ∷ rest))
own_by Less k e x xs rest is own h r = (own, h)
own_by Equal k e x xs rest is own h r = (own ∙ slice_cmp-IsAntisymmetric nat_cmp-IsAntisymmetric k x.0 is, h.1)
own_by Greater k e x xs rest is own h r = (h.0, r)

own_put : (k : List ℕ) (e : Dated) (es : List (List ℕ × Dated)) → e.setting.key ≡ k → Own es → Own (put order k e es)
own_put k e [] own h = (own, tt)
own_put k e (x ∷ xs) own h = own_by (order k x.0) k e x xs (put order k e xs) refl own h (own_put k e xs own h.1)

own_with : (es : List Dated) (m : ByKey) → Own (entries m) → Own (entries (with_entries m es))
own_with [] m h = h
own_with (e ∷ es) m h = own_with es (insert m e.setting.key e) (subst Own (sym (entries-insert nat_list_cmp_total m e.setting.key e)) (own_put e.setting.key e (entries m) refl h))

abbrev no_entries : ByKey
no_entries = empty

own_none : Own (entries no_entries)
own_none = subst Own (sym (nil_from_length (entries no_entries) (sym (len-entries no_entries) ∙ len-empty order Dated))) tt

first_both : (a b : Bool) → T (a && b) → T a × T b
first_both true b h = (tt, h)
first_both false b h = absurd h

lt_is : (o : Ordering) → T (is_lt o) → o ≡ Less
lt_is Less h = refl
lt_is Equal h = absurd h
lt_is Greater h = absurd h

eq_is : (o : Ordering) → is_eq o ≡ true → o ≡ Equal
eq_is Less e = absurd cc
eq_is Equal e = refl
eq_is Greater e = absurd cc

-- a key that is one with a key below these is none of them
none_found : (q k : List ℕ) (es : List (List ℕ × Dated)) → same_key q k ≡ true → T (below_all order k es) → find order q es ≡ None
none_found q k [] same b = refl
none_found q k (x ∷ xs) same b =
    let two = first_both (is_lt (order k x.0)) (below_all order k xs) b in
    let apart : order q x.0 ≡ Less = nat_list_cmp_total.congr q k x.0 (eq_is (order q k) same) ∙ lt_is (order k x.0) two.0 in
    ap (λ (o : Ordering). cond (is_eq o) (Some x.1) (find order q xs)) apart ∙ none_found q k xs same two.1

last_by_key : (date : ℕ) (q k : List ℕ) (e : Dated) (rest : List Setting) (later : Option Dated) (new same : Bool) → leb date e.date ≡ new → same_key q k ≡ same → e.setting.key ≡ k → (same ≡ true → later ≡ None) → last_set rest q ≡ value_since date later
    → last_set (if new then e.setting ∷ rest else rest) q ≡ value_since date (cond same (Some e) later)
last_by_key date q k e rest later true true n s own none h =
    ap₂ (λ (o : Option (List ℕ)) (b : Bool). or_else o (cond b (Some e.setting.value) None)) (h ∙ ap (value_since date) (none refl)) (ap (same_key q) own ∙ s) ∙ ap (λ (b : Bool). cond b (Some e.setting.value) None) (sym n)
last_by_key date q k e rest later true false n s own none h =
    ap₂ (λ (o : Option (List ℕ)) (b : Bool). or_else o (cond b (Some e.setting.value) None)) h (ap (same_key q) own ∙ s) ∙ else_none (value_since date later)
last_by_key date q k e rest later false true n s own none h = h ∙ ap (value_since date) (none refl) ∙ ap (λ (b : Bool). cond b (Some e.setting.value) None) (sym n)
last_by_key date q k e rest later false false n s own none h = h

last_since : (date : ℕ) (q : List ℕ) (es : List (List ℕ × Dated)) → T (is_sorted order es) → Own es → last_set (settings_since date (each (λ p. p.1) es)) q ≡ value_since date (find order q es)
last_since date q [] s own = refl
last_since date q (x ∷ xs) s own =
    let two = first_both (below_all order x.0 xs) (is_sorted order xs) s in
    last_by_key date q x.0 x.1 (settings_since date (each (λ p. p.1) xs)) (find order q xs) (leb date x.1.date) (same_key q x.0) refl refl own.0 (λ same. none_found q x.0 xs same two.0) (last_since date q xs two.1 own.1)

pub changed_overlays : (L : List Dated) (date : ℕ) → IsOverlay L (length L) date (changed_since L date)
changed_overlays L date q =
    last_since date q (entries (last_entries L)) (entries_sorted (last_entries L)) (own_with L no_entries own_none)
    ∙ ap (value_since date) (sym (get-entries (last_entries L) q) ∙ get_last L q ∙ ap (λ (l : List Dated). last_of l q) (sym (take-length L)))
