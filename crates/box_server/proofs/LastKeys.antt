-- The places of keys, as calls change them.
use Rattle.std.proofs.Common.{◌≡◌, ℕ, zero, suc, ◌+◌, ◌≤◌, ◌<◌, List, [], ◌∷◌, ◌++◌, Bool, true, false, cond, Option, Some, None, Vec, is_some, length, take, IsSome, get_or, refl, sym, ap, ◌∙◌, subst, arith, append_assoc, append-nil}
use Rattle.std.specs.BTreeMap.{BTreeMap, UpdatesBy}
use Rattle.std.specs.Map.{KeepsOthers}
use Rattle.std.specs.FinMap.{slice_cmp-IsAntisymmetric, nat_cmp-IsAntisymmetric}
use Rattle.std.proofs.lemmas.Option.{slice_get-get_or}
use Rattle.std.proofs.lemmas.List.{get_or_append_left, get_or_push, length_push, take_more}
use Rattle.std.proofs.lemmas.List.Elements.{All-push, All-weaker, All-head, All-tail}
use Rattle.box_events.specs.declared.limits.TheConstants.{MAX_END}
use Rattle.box_events.specs.SettingLists.{Dated, same_key, or_else, last_of}
use Rattle.box_events.proofs.LastSettings.{last_append}
use Rattle.box_server.specs.inner.LastIndexes.{Indexes, entry_at, found, noted_in, index_in, ShowsLast, AreWithin, SameIndexes, HaveKeys}
use Rattle.box_server.proofs.LastLists.{order, eq_of}

pub same_is : (q k : List ℕ) → same_key q k ≡ true → q ≡ k
same_is q k e = slice_cmp-IsAntisymmetric nat_cmp-IsAntisymmetric q k (eq_of (order q k) e)

-- ---- what a call leaves at each key

placed_by : {A : Type 0} (key q : List ℕ) (old new : BTreeMap (Vec ℕ A) (Option ℕ)) (w : Option (Option ℕ)) (t : Bool) → same_key q key ≡ t → UpdatesBy (λ (x y : Vec ℕ A). order x.items y.items) (λ (y : Vec ℕ A). order key y.items) old new w
    → noted_in new.entries q ≡ cond t w (noted_in old.entries q)
unfolding KeepsOthers
placed_by {A} key q old new w true s u = ap (noted_in new.entries) (same_is q key s) ∙ u.1
placed_by {A} key q old new w false s u =
    u.3 (λ (y : Vec ℕ A). same_key q y.items) (λ x y h. ap (λ (l : List ℕ). same_key l y.items) (same_is q x.items h)) (λ k h. ap (same_key q) (sym (same_is key k.items h)) ∙ s)

pub placed : {A : Type 0} (key q : List ℕ) (old new : BTreeMap (Vec ℕ A) (Option ℕ)) (w : Option (Option ℕ)) → UpdatesBy (λ (x y : Vec ℕ A). order x.items y.items) (λ (y : Vec ℕ A). order key y.items) old new w
    → noted_in new.entries q ≡ cond (same_key q key) w (noted_in old.entries q)
placed key q old new w u = placed_by key q old new w (same_key q key) refl u

kept_by : {A : Type 0} (key q : List ℕ) (old new : Indexes A) (w : Option (Option ℕ)) (t : Bool) → same_key q key ≡ t → noted_in new q ≡ cond t w (noted_in old q) → found w ≡ None → index_in old key ≡ None → index_in new q ≡ index_in old q
kept_by key q old new w true s is none was = ap found is ∙ none ∙ sym was ∙ sym (ap (index_in old) (same_is q key s))
kept_by key q old new w false s is none was = ap found is

-- a place without an index comes or goes
pub kept : {A : Type 0} (key : List ℕ) (first old new : Indexes A) (w : Option (Option ℕ)) → ((q : List ℕ) → noted_in new q ≡ cond (same_key q key) w (noted_in old q)) → found w ≡ None → index_in old key ≡ None → SameIndexes first old → SameIndexes first new
kept key first old new w is none was same = λ q. kept_by key q old new w (same_key q key) refl (is q) none was ∙ same q

some_by : (t : Bool) (x : Option ℕ) (o : Option (Option ℕ)) → IsSome o → IsSome (cond t (Some x) o)
some_by true x o h = refl
some_by false x o h = h

pub keys_kept : {A : Type 0} (key : List ℕ) (old new : Indexes A) (x : Option ℕ) (ds : List Dated) → ((q : List ℕ) → noted_in new q ≡ cond (same_key q key) (Some x) (noted_in old q)) → HaveKeys old ds → HaveKeys new ds
keys_kept key old new x ds is h =
    All-weaker (λ (e : Dated). IsSome (noted_in old e.setting.key)) (λ (e : Dated). IsSome (noted_in new e.setting.key)) (λ e some. ap is_some (is e.setting.key) ∙ some_by (same_key e.setting.key key) x (noted_in old e.setting.key) some) ds h

pub keys_more : {A : Type 0} (es : Indexes A) (ds : List Dated) (i : ℕ) (d : Dated) → i < length ds → d ≡ get_or ds i d → IsSome (noted_in es d.setting.key) → HaveKeys es (take i ds) → HaveKeys es (take (i + 1) ds)
keys_more es ds i d less is some h =
    subst (HaveKeys es) (sym (take_more ds i d less ∙ ap (λ (x : Dated). take i ds ++ x ∷ []) (sym is))) (All-push (λ (e : Dated). IsSome (noted_in es e.setting.key)) (take i ds) d h some)

-- ---- settings that are noted one by one

pub record Noting {A : Type 0} (old more L : List Dated) (es : Indexes A) (rest : List Dated) : Type 0 where
  pub items : L ++ rest ≡ old ++ more
  pub shows : ShowsLast L es
  pub within : AreWithin L es
  pub places : HaveKeys es rest
  pub limit : length L + length rest ≤ MAX_END

else_cond : (e : Dated) (t : Bool) (o : Option Dated) → or_else (cond t (Some e) None) o ≡ cond t (Some e) o
else_cond e true o = refl
else_cond e false o = refl

pub last_push : (L : List Dated) (e : Dated) (q : List ℕ) → last_of (L ++ e ∷ []) q ≡ cond (same_key q e.setting.key) (Some e) (last_of L q)
last_push L e q = last_append L (e ∷ []) q ∙ else_cond e (same_key q e.setting.key) (last_of L q)

entry_kept : (L : List Dated) (e : Dated) (o : Option ℕ) → ((i : ℕ) → o ≡ Some i → i < length L) → entry_at (L ++ e ∷ []) o ≡ entry_at L o
entry_kept L e None h = refl
entry_kept L e (Some i) h =
    let less = h i refl in
    slice_get-get_or (L ++ e ∷ []) i e (omega (arith, less, length_push L e)) ∙ ap (λ (x : Dated). Some x) (get_or_append_left L (e ∷ []) e i less) ∙ sym (slice_get-get_or L i e less)

entry_last : (L : List Dated) (e : Dated) → entry_at (L ++ e ∷ []) (Some (length L)) ≡ Some e
entry_last L e = slice_get-get_or (L ++ e ∷ []) (length L) e (omega (arith, length_push L e)) ∙ ap (λ (x : Dated). Some x) (get_or_push L e e (length L) refl)

shows_by : (L : List Dated) (e : Dated) (o : Option (Option ℕ)) (q : List ℕ) (t : Bool) → entry_at L (found o) ≡ last_of L q → ((i : ℕ) → found o ≡ Some i → i < length L)
    → entry_at (L ++ e ∷ []) (found (cond t (Some (Some (length L))) o)) ≡ cond t (Some e) (last_of L q)
shows_by L e o q true shows within = entry_last L e
shows_by L e o q false shows within = entry_kept L e (found o) within ∙ shows

within_by : (L : List Dated) (e : Dated) (o : Option (Option ℕ)) (t : Bool) (i : ℕ) → ((j : ℕ) → found o ≡ Some j → j < length L) → found (cond t (Some (Some (length L))) o) ≡ Some i → i < length (L ++ e ∷ [])
within_by L e o true i within is = let same : length L ≡ i = cc in omega (arith, same, length_push L e)
within_by L e o false i within is = let less = within i is in omega (arith, less, length_push L e)

pub noting_one : {A : Type 0} (old more L : List Dated) (es new : Indexes A) (e : Dated) (rest all : List Dated) → all ≡ e ∷ rest → ((q : List ℕ) → noted_in new q ≡ cond (same_key q e.setting.key) (Some (Some (length L))) (noted_in es q))
    → Noting old more L es all → Noting old more (L ++ e ∷ []) new rest
noting_one {A} old more L es new e rest all next is n = record {
  items = append_assoc L (e ∷ []) rest ∙ ap (λ (l : List Dated). L ++ l) (sym next) ∙ n.items;
  shows = λ q. ap (λ (o : Option (Option ℕ)). entry_at (L ++ e ∷ []) (found o)) (is q) ∙ shows_by L e (noted_in es q) q (same_key q e.setting.key) (n.shows q) (n.within q) ∙ sym (last_push L e q);
  within = λ q i at. within_by L e (noted_in es q) (same_key q e.setting.key) i (n.within q) (sym (ap found (is q)) ∙ at);
  places = keys_kept e.setting.key es new (Some (length L)) rest is (All-tail (λ (d : Dated). IsSome (noted_in es d.setting.key)) e rest (subst (HaveKeys es) next n.places));
  limit = let fits = n.limit in omega (arith, fits, ap length next, length_push L e);
}

pub noting_has : {A : Type 0} (old more L : List Dated) (es : Indexes A) (e : Dated) (rest all : List Dated) → all ≡ e ∷ rest → Noting old more L es all → IsSome (noted_in es e.setting.key) × (length L + 1 ≤ MAX_END)
noting_has old more L es e rest all next n =
    (All-head (λ (d : Dated). IsSome (noted_in es d.setting.key)) e rest (subst (HaveKeys es) next n.places), let fits = n.limit in omega (arith, fits, ap length next))

pub noting_all : {A : Type 0} (old more L : List Dated) (es : Indexes A) (rest : List Dated) → rest ≡ [] → Noting old more L es rest → L ≡ old ++ more
noting_all old more L es rest none n = sym (append-nil L) ∙ ap (λ (l : List Dated). L ++ l) (sym none) ∙ n.items

pub not_found : (o : Option (Option ℕ)) → false ≡ is_some o → found o ≡ None
not_found None e = refl
not_found (Some x) e = absurd cc

pub take_whole : {A : Type 0} (xs : List A) (i : ℕ) → length xs ≤ i → take i xs ≡ xs
take_whole [] zero le = refl
take_whole [] (suc i) le = refl
take_whole (x ∷ xs) zero le = absurd (omega (arith, le))
take_whole {A} (x ∷ xs) (suc i) le = ap (λ (l : List A). x ∷ l) (take_whole xs i (omega (arith, le)))
