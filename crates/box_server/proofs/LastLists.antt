-- The indexes of last settings, as the last entries of their list.
use Rattle.std.proofs.Common.{◌≡◌, ℕ, Bool, true, false, cond, ◌&&◌, T, List, [], ◌∷◌, ◌++◌, Option, Some, None, Vec, map as each, leb, if◌then◌else◌, refl, sym, ap, ◌∙◌, subst, append_assoc, append-nil}
use Rattle.std.specs.List.{AllByRecursion}
use Rattle.std.specs.List.Sorted.{IsStrictlySortedBy}
use Rattle.std.specs.Map.{keys_of, lookup}
use Rattle.std.specs.Ordering.{nat_cmp, is_eq, is_lt}
use Rattle.std.specs.declared.cmp.Ordering.{Ordering}
use Rattle.std.specs.declared.cmp.Ordering.TheVariants.{Less, Equal, Greater}
use Rattle.std.specs.Cmp.Lexicographic.{slice_cmp, nat_list_cmp_total}
use Rattle.std.specs.FinMap.{find, entries, entries_sorted, insert, get, get-insert, get-empty, get-entries, empty, is_sorted, slice_cmp-IsAntisymmetric, nat_cmp-IsAntisymmetric}
use Rattle.std.specs.FinMap.Entries.{below_all, same_entries}
use Rattle.box_events.specs.declared.settings.Setting.{Setting}
use Rattle.box_events.specs.SettingLists.{Dated, same_key, or_else, last_of}
use Rattle.box_events.proofs.LastSettings.{else_none}
use Rattle.box_server.specs.LastEntries.{ByKey, with_entries, last_entries, settings_since, changed_since}
use Rattle.box_server.specs.inner.LastIndexes.{Indexes, entry_at, index_in, found, since_at, ShowsLast}

abbrev pub order : List ℕ → List ℕ → Ordering
order = slice_cmp nat_cmp

-- ---- the last entries, key by key

join : {A : Type 0} (o p : Option A) (b : Bool) (v : A) → or_else o (cond b (Some v) p) ≡ or_else (or_else o (cond b (Some v) None)) p
join None p true v = refl
join None p false v = refl
join (Some x) p b v = refl

pub get_with : (es : List Dated) (m : ByKey) (q : List ℕ) → get (with_entries m es) q ≡ or_else (last_of es q) (get m q)
get_with [] m q = refl
get_with (e ∷ es) m q =
    get_with es (insert m e.setting.key e) q ∙ ap (or_else (last_of es q)) (get-insert nat_list_cmp_total m e.setting.key e q) ∙ join (last_of es q) (get m q) (same_key q e.setting.key) e

pub get_last : (L : List Dated) (q : List ℕ) → get (last_entries L) q ≡ last_of L q
get_last L q = get_with L empty q ∙ ap (or_else (last_of L q)) (get-empty order q) ∙ else_none (last_of L q)

-- ---- the entries of indexes

abbrev pub present_at : Option Dated → List ℕ → List (List ℕ × Dated) → List (List ℕ × Dated)
present_at None k rest = rest
present_at (Some e) k rest = (k, e) ∷ rest

abbrev pub present : {A : Type 0} → List Dated → Indexes A → List (List ℕ × Dated)
present L [] = []
present L (x ∷ xs) = present_at (entry_at L x.1) x.0.items (present L xs)

-- the key is below all of these
abbrev Below : {A : Type 0} → List ℕ → Indexes A → Type 0
Below k es = AllByRecursion (λ y. order k y.items ≡ Less) (keys_of es)

-- each key is below those after it
abbrev pub Rises : {A : Type 0} → Indexes A → Type 0
Rises [] = Unit {0}
Rises (x ∷ xs) = Below x.0.items xs × Rises xs

pub rises : {A : Type 0} (es : Indexes A) → IsStrictlySortedBy (λ (x y : Vec ℕ A). order x.items y.items) (keys_of es) → Rises es
unfolding IsStrictlySortedBy
rises [] s = tt
rises (x ∷ xs) s = (s.0, rises xs s.1)

both : (a b : Bool) → T a → T b → T (a && b)
both true b p q = q
both false b p q = absurd p

is_less : (k q : List ℕ) → order k q ≡ Less → T (is_lt (order k q))
is_less k q e = subst (λ (o : Ordering). T (is_lt o)) (sym e) tt

below_present_at : (o : Option Dated) (k key : List ℕ) (rest : List (List ℕ × Dated)) → order k key ≡ Less → T (below_all order k rest) → T (below_all order k (present_at o key rest))
below_present_at None k key rest l h = h
below_present_at (Some e) k key rest l h = both (is_lt (order k key)) (below_all order k rest) (is_less k key l) h

below_present : {A : Type 0} (L : List Dated) (k : List ℕ) (es : Indexes A) → Below k es → T (below_all order k (present L es))
below_present L k [] b = tt
below_present L k (x ∷ xs) b = below_present_at (entry_at L x.1) k x.0.items (present L xs) b.0 (below_present L k xs b.1)

sorted_present_at : (o : Option Dated) (k : List ℕ) (rest : List (List ℕ × Dated)) → T (below_all order k rest) → T (is_sorted order rest) → T (is_sorted order (present_at o k rest))
sorted_present_at None k rest b h = h
sorted_present_at (Some e) k rest b h = both (below_all order k rest) (is_sorted order rest) b h

sorted_present : {A : Type 0} (L : List Dated) (es : Indexes A) → Rises es → T (is_sorted order (present L es))
sorted_present L [] r = tt
sorted_present L (x ∷ xs) r = sorted_present_at (entry_at L x.1) x.0.items (present L xs) (below_present L x.0.items xs r.0) (sorted_present L xs r.1)

pub eq_of : (o : Ordering) → is_eq o ≡ true → o ≡ Equal
eq_of Less e = absurd cc
eq_of Equal e = refl
eq_of Greater e = absurd cc

-- a key that is one with a key below these is none of them
none_below : {A : Type 0} (q k : List ℕ) (es : Indexes A) → same_key q k ≡ true → Below k es → lookup (λ (y : Vec ℕ A). same_key q y.items) es ≡ None
none_below q k [] same b = refl
none_below {A} q k (x ∷ xs) same b =
    let apart : order q x.0.items ≡ Less = nat_list_cmp_total.congr q k x.0.items (eq_of (order q k) same) ∙ b.0 in
    ap (λ (o : Ordering). cond (is_eq o) (Some x.1) (lookup (λ (y : Vec ℕ A). same_key q y.items) xs)) apart ∙ none_below q k xs same b.1

-- what is found at a key
find_by : (L : List Dated) (q k : List ℕ) (i : Option ℕ) (rest : List (List ℕ × Dated)) (later : Option (Option ℕ)) (e : Option Dated) (t : Bool) → entry_at L i ≡ e → same_key q k ≡ t → (t ≡ true → later ≡ None) → find order q rest ≡ entry_at L (found later)
    → find order q (present_at e k rest) ≡ entry_at L (found (cond t (Some i) later))
find_by L q k i rest later (Some e) true is same none h = ap (λ (b : Bool). cond b (Some e) (find order q rest)) same ∙ sym is
find_by L q k i rest later (Some e) false is same none h = ap (λ (b : Bool). cond b (Some e) (find order q rest)) same ∙ h
find_by L q k i rest later None true is same none h = h ∙ ap (λ (o : Option (Option ℕ)). entry_at L (found o)) (none refl) ∙ sym is
find_by L q k i rest later None false is same none h = h

find_present : {A : Type 0} (L : List Dated) (q : List ℕ) (es : Indexes A) → Rises es → find order q (present L es) ≡ entry_at L (index_in es q)
find_present L q [] r = refl
find_present {A} L q (x ∷ xs) r =
    find_by L q x.0.items x.1 (present L xs) (lookup (λ (y : Vec ℕ A). same_key q y.items) xs) (entry_at L x.1) (same_key q x.0.items) refl refl (λ t. none_below q x.0.items xs t r.0) (find_present L q xs r.1)

present_is : {A : Type 0} (L : List Dated) (es : Indexes A) → Rises es → ShowsLast L es → present L es ≡ entries (last_entries L)
present_is L es r shows =
    same_entries order nat_list_cmp_total (slice_cmp-IsAntisymmetric nat_cmp-IsAntisymmetric) (present L es) (entries (last_entries L)) (sorted_present L es r) (entries_sorted (last_entries L))
    (λ q. find_present L q es r ∙ shows q ∙ sym (get_last L q) ∙ get-entries (last_entries L) q)

-- ---- the settings that are picked

abbrev pub picked_at : Option Setting → List Setting → List Setting
picked_at None rest = rest
picked_at (Some x) rest = x ∷ rest

abbrev pub picked : {A : Type 0} → ℕ → List Dated → Indexes A → List Setting
picked date L [] = []
picked date L (x ∷ xs) = picked_at (since_at date (entry_at L x.1)) (picked date L xs)

picked_if : (b : Bool) (x : Setting) (rest : List Setting) → picked_at (if b then Some x else None) rest ≡ (if b then x ∷ rest else rest)
picked_if true x rest = refl
picked_if false x rest = refl

picked_one : (date : ℕ) (o : Option Dated) (k : List ℕ) (rest : List (List ℕ × Dated)) (xs : List Setting) → xs ≡ settings_since date (each (λ p. p.1) rest)
    → picked_at (since_at date o) xs ≡ settings_since date (each (λ p. p.1) (present_at o k rest))
picked_one date None k rest xs h = h
picked_one date (Some e) k rest xs h = ap (picked_at (if leb date e.date then Some e.setting else None)) h ∙ picked_if (leb date e.date) e.setting (settings_since date (each (λ p. p.1) rest))

picked_present : {A : Type 0} (date : ℕ) (L : List Dated) (es : Indexes A) → picked date L es ≡ settings_since date (each (λ p. p.1) (present L es))
picked_present date L [] = refl
picked_present date L (x ∷ xs) = picked_one date (entry_at L x.1) x.0.items (present L xs) (picked date L xs) (picked_present date L xs)

pub picked_is : {A : Type 0} (date : ℕ) (L : List Dated) (es : Indexes A) → IsStrictlySortedBy (λ (x y : Vec ℕ A). order x.items y.items) (keys_of es) → ShowsLast L es → picked date L es ≡ changed_since L date
picked_is date L es sorted shows = picked_present date L es ∙ ap (λ (ps : List (List ℕ × Dated)). settings_since date (each (λ p. p.1) ps)) (present_is L es (rises es sorted) shows)

-- with those of the entries that follow the settings are all
abbrev pub Picking : {A : Type 0} → ℕ → List Dated → Indexes A → List Setting → Indexes A → Type 0
Picking date L all settings rest = settings ++ picked date L rest ≡ picked date L all

pub picking_one : {A : Type 0} (date : ℕ) (L : List Dated) (all rest more : Indexes A) (x : Vec ℕ A × Option ℕ) (old new : List Setting) (s : Setting) → rest ≡ x ∷ more → since_at date (entry_at L x.1) ≡ Some s → new ≡ old ++ s ∷ []
    → Picking date L all old rest → Picking date L all new more
picking_one {A} date L all rest more x old new s next is last h =
    ap (λ (l : List Setting). l ++ picked date L more) last ∙ append_assoc old (s ∷ []) (picked date L more)
    ∙ ap (λ (o : Option Setting). old ++ picked_at o (picked date L more)) (sym is)
    ∙ ap (λ (l : Indexes A). old ++ picked date L l) (sym next) ∙ h

pub picking_none : {A : Type 0} (date : ℕ) (L : List Dated) (all rest more : Indexes A) (x : Vec ℕ A × Option ℕ) (old : List Setting) → rest ≡ x ∷ more → since_at date (entry_at L x.1) ≡ None
    → Picking date L all old rest → Picking date L all old more
picking_none {A} date L all rest more x old next is h = ap (λ (o : Option Setting). old ++ picked_at o (picked date L more)) (sym is) ∙ ap (λ (l : Indexes A). old ++ picked date L l) (sym next) ∙ h

pub picking_start : {A : Type 0} (date : ℕ) (L : List Dated) (all : Indexes A) (settings : List Setting) → settings ≡ [] → Picking date L all settings all
picking_start date L all settings none = ap (λ (l : List Setting). l ++ picked date L all) none

pub picked_all : {A : Type 0} (date : ℕ) (L M : List Dated) (es all rest : Indexes A) (settings : List Setting) → rest ≡ [] → all ≡ es → M ≡ L → IsStrictlySortedBy (λ (x y : Vec ℕ A). order x.items y.items) (keys_of es) → ShowsLast M es
    → Picking date L all settings rest → settings ≡ changed_since L date
picked_all {A} date L M es all rest settings none same list sorted shows h =
    sym (append-nil settings) ∙ ap (λ (l : Indexes A). settings ++ picked date L l) (sym none) ∙ h ∙ ap (picked date L) same ∙ picked_is date L es sorted (subst (λ (l : List Dated). ShowsLast l es) list shows)
