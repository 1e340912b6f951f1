-- How many keys there are with the settings of posts.
use Rattle.std.proofs.Common.{◌≡◌, zero, suc, ◌<◌, drop, get_or, if◌then◌else◌, ℕ, ◌+◌, ◌≤◌, List, [], ◌∷◌, ◌++◌, Bool, true, false, cond, ◌||◌, Option, Some, None, is_some, length, map as each, refl, sym, ap, ◌∙◌, subst, arith, append_assoc, append-nil, inl, inr, drop-cons}
use Rattle.std.specs.FinMap.{insert, len, len-insert, len-empty}
use Rattle.std.specs.Cmp.Lexicographic.{nat_list_cmp_total}
use Rattle.box_events.specs.declared.requests.Post.{Post}
use Rattle.box_events.specs.declared.requests.Post.TheVariants.{Message, Edit, Delete, Secret, ChannelMessage, ChannelEdit, ChannelDelete, Setting as SettingPost, Read, ChannelRead}
use Rattle.box_events.specs.SettingLists.{Dated, same_key, last_of}
use Rattle.box_server.specs.Entries.{entries_of}
use Rattle.box_server.specs.LastEntries.{ByKey, with_entries, last_entries, keys_in}
use Rattle.box_server.specs.Posting.{dated_with, settings_of}
use Rattle.box_server.specs.inner.LastIndexes.{Indexes, entry_at, index_in, noted_in, IsIndexed, NotesFresh, NotesPost}
use Rattle.box_server.proofs.LastLists.{order, get_last}
use Rattle.box_server.proofs.LastKeys.{last_push, same_is}

-- the settings that posts set, with a date
abbrev pub new_ones : ℕ → List Post → List Dated
new_ones date posts = each (dated_with date) (settings_of (entries_of posts))

with_push : (m : ByKey) (es : List Dated) (e : Dated) → with_entries m (es ++ e ∷ []) ≡ insert (with_entries m es) e.setting.key e
with_push m [] e = refl
with_push m (x ∷ es) e = with_push (insert m x.setting.key x) es e

keys_push : (L : List Dated) (e : Dated) → keys_in (L ++ e ∷ []) ≡ cond (is_some (last_of L e.setting.key)) (keys_in L) (keys_in L + 1)
keys_push L e =
    ap len (with_push _ L e) ∙ len-insert nat_list_cmp_total (last_entries L) e.setting.key e
    ∙ ap (λ (o : Option Dated). cond (is_some o) (keys_in L) (keys_in L + 1)) (get_last L e.setting.key)

-- a list of settings with as many keys as there are old and fresh ones, after which the other posts set theirs
pub record Counting {A : Type 0} (date : ℕ) (L : List Dated) (keys : ℕ) (fresh : Indexes A) (posts rest : List Post) : Type 0 where
  pub M : List Dated
  pub number : keys + length fresh ≡ keys_in M
  pub present : (q : List ℕ) → is_some (last_of M q) ≡ (is_some (last_of L q) || is_some (noted_in fresh q))
  pub all : M ++ new_ones date rest ≡ L ++ new_ones date posts

or_nothing : (a b : Bool) → b ≡ false → (a || b) ≡ a
or_nothing true b e = refl
or_nothing false b e = e

pub counting_none : {A : Type 0} (date : ℕ) (L : List Dated) (keys : ℕ) (fresh : Indexes A) (posts : List Post) → keys ≡ keys_in L → fresh ≡ [] → Counting date L keys fresh posts posts
counting_none {A} date L keys fresh posts number none = record {
  M = L;
  number = omega (arith, number, ap length none);
  present = λ q. sym (or_nothing (is_some (last_of L q)) (is_some (noted_in fresh q)) (ap (λ (es : Indexes A). is_some (noted_in es q)) none));
  all = refl;
}

-- a post that sets nothing
pub counting_other : {A : Type 0} (date : ℕ) (L : List Dated) (keys : ℕ) (fresh : Indexes A) (posts all rest : List Post) (p : Post) → all ≡ p ∷ rest → new_ones date (p ∷ rest) ≡ new_ones date rest → Counting date L keys fresh posts all → Counting date L keys fresh posts rest
counting_other date L keys fresh posts all rest p next none c = record {
  M = c.M;
  number = c.number;
  present = c.present;
  all = ap (λ (l : List Dated). c.M ++ l) (sym none ∙ ap (new_ones date) (sym next)) ∙ c.all;
}

some_cond : (t : Bool) (e : Dated) (o : Option Dated) → is_some (cond t (Some e) o) ≡ (t || is_some o)
some_cond true e o = refl
some_cond false e o = refl

or_true : (t a : Bool) → (t ≡ true → a ≡ true) → (t || a) ≡ a
or_true true a h = sym (h refl)
or_true false a h = refl

-- the key has a setting, or is fresh already
pub counting_old : {A : Type 0} (date : ℕ) (L : List Dated) (keys : ℕ) (fresh : Indexes A) (posts all rest : List Post) (key value : List ℕ) → all ≡ SettingPost key value ∷ rest → (is_some (last_of L key) || is_some (noted_in fresh key)) ≡ true
    → Counting date L keys fresh posts all → Counting date L keys fresh posts rest
counting_old date L keys fresh posts all rest key value next there c =
    let e : Dated = record { setting = record { key = key; value = value }; date = date } in
    let some : is_some (last_of c.M key) ≡ true = c.present key ∙ there in
    record {
      M = c.M ++ e ∷ [];
      number = c.number ∙ sym (keys_push c.M e ∙ ap (λ (t : Bool). cond t (keys_in c.M) (keys_in c.M + 1)) some);
      present = λ q.
          ap is_some (last_push c.M e q) ∙ some_cond (same_key q key) e (last_of c.M q)
          ∙ or_true (same_key q key) (is_some (last_of c.M q)) (λ s. ap (λ (l : List ℕ). is_some (last_of c.M l)) (same_is q key s) ∙ some)
          ∙ c.present q;
      all = append_assoc c.M (e ∷ []) (new_ones date rest) ∙ ap (λ (l : List Post). c.M ++ new_ones date l) (sym next) ∙ c.all;
    }

or_tail : (t a : Bool) (o : Option (Option ℕ)) (x : Option ℕ) → (t || (a || is_some o)) ≡ (a || is_some (cond t (Some x) o))
or_tail true true o x = refl
or_tail true false o x = refl
or_tail false a o x = refl

-- the key is fresh
pub counting_fresh : {A : Type 0} (date : ℕ) (L : List Dated) (keys : ℕ) (fresh new : Indexes A) (posts all rest : List Post) (key value : List ℕ) → all ≡ SettingPost key value ∷ rest → (is_some (last_of L key) || is_some (noted_in fresh key)) ≡ false
    → ((q : List ℕ) → noted_in new q ≡ cond (same_key q key) (Some None) (noted_in fresh q)) → length new ≡ length fresh + 1 → Counting date L keys fresh posts all → Counting date L keys new posts rest
counting_fresh date L keys fresh new posts all rest key value next there is longer c =
    let e : Dated = record { setting = record { key = key; value = value }; date = date } in
    let none : is_some (last_of c.M key) ≡ false = c.present key ∙ there in
    record {
      M = c.M ++ e ∷ [];
      number = omega (arith, longer, c.number, keys_push c.M e ∙ ap (λ (t : Bool). cond t (keys_in c.M) (keys_in c.M + 1)) none);
      present = λ q.
          ap is_some (last_push c.M e q) ∙ some_cond (same_key q key) e (last_of c.M q)
          ∙ ap (λ (b : Bool). same_key q key || b) (c.present q)
          ∙ or_tail (same_key q key) (is_some (last_of L q)) (noted_in fresh q) None
          ∙ ap (λ (o : Option (Option ℕ)). is_some (last_of L q) || is_some o) (sym (is q));
      all = append_assoc c.M (e ∷ []) (new_ones date rest) ∙ ap (λ (l : List Post). c.M ++ new_ones date l) (sym next) ∙ c.all;
    }

pub counted : {A : Type 0} (date : ℕ) (L : List Dated) (keys : ℕ) (fresh : Indexes A) (posts rest : List Post) → rest ≡ [] → Counting date L keys fresh posts rest → keys + length fresh ≡ keys_in (L ++ new_ones date posts)
counted date L keys fresh posts rest none c = c.number ∙ ap keys_in (sym (append-nil c.M) ∙ ap (λ (l : List Post). c.M ++ new_ones date l) (sym none) ∙ c.all)

other : {A : Type 0} (date : ℕ) (L : List Dated) (keys : ℕ) (old new : Indexes A) (posts all rest : List Post) (p : Post) → all ≡ p ∷ rest → new_ones date (p ∷ rest) ≡ new_ones date rest → new ≡ old → Counting date L keys old posts all → Counting date L keys new posts rest
other date L keys old new posts all rest p next none same c = subst (λ es. Counting date L keys es posts rest) (sym same) (counting_other date L keys old posts all rest p next none c)

fresh_or_old : {A : Type 0} (date : ℕ) (L : List Dated) (keys : ℕ) (old new : Indexes A) (posts all rest : List Post) (key value : List ℕ) → all ≡ SettingPost key value ∷ rest → NotesFresh L old new key → Counting date L keys old posts all → Counting date L keys new posts rest
fresh_or_old date L keys old new posts all rest key value next (inl x) c = subst (λ es. Counting date L keys es posts rest) (sym x.1) (counting_old date L keys old posts all rest key value next x.0 c)
fresh_or_old date L keys old new posts all rest key value next (inr x) c = counting_fresh date L keys old new posts all rest key value next x.0 x.1 x.2 c

pub counting_post : {A : Type 0} (date : ℕ) (L : List Dated) (keys : ℕ) (old new : Indexes A) (posts all rest : List Post) (p : Post) → all ≡ p ∷ rest → NotesPost L old new p → Counting date L keys old posts all → Counting date L keys new posts rest
counting_post date L keys old new posts all rest (Message body) next n c = other date L keys old new posts all rest (Message body) next refl n c
counting_post date L keys old new posts all rest (Edit body) next n c = other date L keys old new posts all rest (Edit body) next refl n c
counting_post date L keys old new posts all rest (Delete ids) next n c = other date L keys old new posts all rest (Delete ids) next refl n c
counting_post date L keys old new posts all rest (Secret body) next n c = other date L keys old new posts all rest (Secret body) next refl n c
counting_post date L keys old new posts all rest (ChannelMessage id body) next n c = other date L keys old new posts all rest (ChannelMessage id body) next refl n c
counting_post date L keys old new posts all rest (ChannelEdit id body) next n c = other date L keys old new posts all rest (ChannelEdit id body) next refl n c
counting_post date L keys old new posts all rest (ChannelDelete id ids) next n c = other date L keys old new posts all rest (ChannelDelete id ids) next refl n c
counting_post date L keys old new posts all rest (SettingPost key value) next n c = fresh_or_old date L keys old new posts all rest key value next n c
counting_post date L keys old new posts all rest (Read max_id) next n c = other date L keys old new posts all rest (Read max_id) next refl n c
counting_post date L keys old new posts all rest (ChannelRead id max_id) next n c = other date L keys old new posts all rest (ChannelRead id max_id) next refl n c

nowhere : (i : ℕ) → None ≡ Some i → ⊥
nowhere i e = cc

empty_indexed : {A : Type 0} (es : Indexes A) → es ≡ [] → IsIndexed [] es 0
empty_indexed es none = record {
  shows = λ q. ap (λ l. entry_at [] (index_in l q)) none;
  within = λ q i at. absurd (nowhere i (sym (ap (λ l. index_in l q) none) ∙ at));
  number = sym (len-empty order Dated);
  few = omega arith;
}

pub indexed_none : {A : Type 0} (L : List Dated) (es : Indexes A) → L ≡ [] → es ≡ [] → IsIndexed L es 0
indexed_none L es empty none = subst (λ (l : List Dated). IsIndexed l es 0) (sym empty) (empty_indexed es none)

or_second : (a : Bool) → (a || true) ≡ true
or_second true = refl
or_second false = refl

pub notes_has : {A : Type 0} (L : List Dated) (es : Indexes A) (k key : List ℕ) → k ≡ key → true ≡ is_some (last_of L k) → NotesFresh L es es key
notes_has L es k key is some = inl (ap (λ (b : Bool). b || is_some (noted_in es key)) (sym (ap (λ (l : List ℕ). is_some (last_of L l)) is) ∙ sym some), refl)

pub notes_index : {A : Type 0} (L : List Dated) (es : Indexes A) (k key : List ℕ) → k ≡ key → true ≡ is_some (noted_in es k) → NotesFresh L es es key
notes_index L es k key is some = inl (ap (λ (b : Bool). is_some (last_of L key) || b) (sym (ap (λ (l : List ℕ). is_some (noted_in es l)) is) ∙ sym some) ∙ or_second (is_some (last_of L key)), refl)

pub notes_new : {A : Type 0} (L : List Dated) (old new : Indexes A) (k j key : List ℕ) → k ≡ key → j ≡ key → false ≡ is_some (last_of L k) → false ≡ is_some (noted_in old j) → ((q : List ℕ) → noted_in new q ≡ cond (same_key q key) (Some None) (noted_in old q)) → length new ≡ length old + 1 → NotesFresh L old new key
notes_new L old new k j key is js none no_key at longer =
    inr ((λ i. (sym (ap (λ (l : List ℕ). is_some (last_of L l)) is) ∙ sym none) i || is_some (noted_in old key)) ∙ sym (ap (λ (l : List ℕ). is_some (noted_in old l)) js) ∙ sym no_key, at, longer)

pub longer_by : {A : Type 0} (old new : Indexes A) (key k : List ℕ) (was : Option (Option ℕ)) → key ≡ k → was ≡ noted_in old key → false ≡ is_some (noted_in old k) → length new ≡ length old + (if is_some was then 0 else 1) → length new ≡ length old + 1
longer_by old new key k was is at none more = more ∙ ap (λ (b : Bool). length old + (if b then 0 else 1)) (ap is_some at ∙ ap (λ (l : List ℕ). is_some (noted_in old l)) is ∙ sym none)

pub next_of : {A : Type 0} (xs : List A) (i : ℕ) (x : A) → i < length xs → x ≡ get_or xs i x → drop i xs ≡ x ∷ drop (i + 1) xs
next_of {A} xs i x less is =
    let next : suc i ≡ i + 1 = omega arith in
    drop-cons xs i x less ∙ (λ k. sym is k ∷ drop (next k) xs)

pub none_left : {A : Type 0} (xs : List A) (i : ℕ) → length xs ≤ i → drop i xs ≡ []
none_left [] zero le = refl
none_left [] (suc i) le = refl
none_left (x ∷ xs) zero le = absurd (omega (arith, le))
none_left (x ∷ xs) (suc i) le = none_left xs i (omega (arith, le))
