-- The causes that posts have by themselves.
use Rattle.std.proofs.Common.{◌≡◌, ℕ, suc, ◌+◌, ◌-◌, ◌^◌, ◌<◌, ◌≤◌, min, List, [], ◌∷◌, Bool, true, false, eqb, ltb, Option, Some, None, if◌then◌else◌, length, drop, refl, sym, ap, ◌∙◌, arith}
use Rattle.std.specs.List.{list_any, sum_by}
use Rattle.std.proofs.lemmas.Bool.Decides.{nat_tests}
use Rattle.std.proofs.lemmas.List.Sums.{sum_by-cons}
use Rattle.box_events.specs.declared.limits.TheConstants.{MAX_POSTS, MAX_POST_BYTES}
use Rattle.box_events.specs.declared.requests.Post.{Post}
use Rattle.box_server.specs.declared.fault.PostFault.{PostFault}
use Rattle.box_server.specs.declared.fault.PostFault.TheVariants.{NoPosts, TooManyPosts, NoIds, TooManyIds, BodyTooLong, KeyTooLong, ValueTooLong, PostTooLarge}
use Rattle.box_server.specs.Entries.{Entry, entry_of, entries_of, size_of}
use Rattle.box_server.specs.Refusing.{first_cause, bad_entries}
use Rattle.box_server.specs.inner.Checks.{is_bad}

pub entries_length : (posts : List Post) → length (entries_of posts) ≡ length posts
entries_length [] = refl
entries_length (p ∷ ps) = ap suc (entries_length ps)

skips : (c : Bool × PostFault) (cs : List (Bool × PostFault)) (o : Option PostFault) → false ≡ c.0 → first_cause cs ≡ o → first_cause (c ∷ cs) ≡ o
skips c cs o fails rest = ap (λ (b : Bool). if b then Some c.1 else first_cause cs) (sym fails) ∙ rest

stops : (c : Bool × PostFault) (cs : List (Bool × PostFault)) → true ≡ c.0 → first_cause (c ∷ cs) ≡ Some c.1
stops c cs holds = ap (λ (b : Bool). if b then Some c.1 else first_cause cs) (sym holds)

-- the causes from the second, the third on, and so forth
abbrev after_1 : List Entry → List (Bool × PostFault)
after_1 xs = drop 1 (bad_entries xs)

abbrev after_2 : List Entry → List (Bool × PostFault)
after_2 xs = drop 2 (bad_entries xs)

abbrev after_3 : List Entry → List (Bool × PostFault)
after_3 xs = drop 3 (bad_entries xs)

abbrev after_4 : List Entry → List (Bool × PostFault)
after_4 xs = drop 4 (bad_entries xs)

abbrev after_5 : List Entry → List (Bool × PostFault)
after_5 xs = drop 5 (bad_entries xs)

abbrev after_6 : List Entry → List (Bool × PostFault)
after_6 xs = drop 6 (bad_entries xs)

abbrev after_7 : List Entry → List (Bool × PostFault)
after_7 xs = drop 7 (bad_entries xs)

not_many : (n : ℕ) → n ≤ MAX_POSTS → false ≡ ltb MAX_POSTS n
not_many n le = grind (arith, nat_tests)

too_many_posts : (n : ℕ) → MAX_POSTS < n → true ≡ ltb MAX_POSTS n
too_many_posts n lt = grind (arith, nat_tests)

pub cause_1 : (posts : List Post) (o : Option PostFault) → false ≡ eqb (length posts) 0 → first_cause (after_1 (entries_of posts)) ≡ o → first_cause (bad_entries (entries_of posts)) ≡ o
cause_1 posts o lt rest = let xs = entries_of posts in skips (eqb (length xs) 0, NoPosts) (after_1 xs) o (lt ∙ ap (λ (n : ℕ). eqb n 0) (sym (entries_length posts))) rest

pub cause_2_is : (posts : List Post) → MAX_POSTS < length posts → first_cause (after_1 (entries_of posts)) ≡ Some TooManyPosts
cause_2_is posts lt = let xs = entries_of posts in stops (ltb MAX_POSTS (length xs), TooManyPosts) (after_2 xs) (too_many_posts (length xs) (omega (arith, lt, entries_length posts)))

pub cause_2 : (posts : List Post) (o : Option PostFault) → length posts ≤ MAX_POSTS → first_cause (after_2 (entries_of posts)) ≡ o → first_cause (after_1 (entries_of posts)) ≡ o
cause_2 posts o le rest = let xs = entries_of posts in skips (ltb MAX_POSTS (length xs), TooManyPosts) (after_2 xs) o (not_many (length xs) (omega (arith, le, entries_length posts))) rest

pub cause_3_is : (posts : List Post) → true ≡ list_any (is_bad NoIds) (entries_of posts) → first_cause (after_2 (entries_of posts)) ≡ Some NoIds
cause_3_is posts e = let xs = entries_of posts in stops (list_any (is_bad NoIds) xs, NoIds) (after_3 xs) e

pub cause_3 : (posts : List Post) (o : Option PostFault) → false ≡ list_any (is_bad NoIds) (entries_of posts) → first_cause (after_3 (entries_of posts)) ≡ o → first_cause (after_2 (entries_of posts)) ≡ o
cause_3 posts o e rest = let xs = entries_of posts in skips (list_any (is_bad NoIds) xs, NoIds) (after_3 xs) o e rest

pub cause_4_is : (posts : List Post) → true ≡ list_any (is_bad TooManyIds) (entries_of posts) → first_cause (after_3 (entries_of posts)) ≡ Some TooManyIds
cause_4_is posts e = let xs = entries_of posts in stops (list_any (is_bad TooManyIds) xs, TooManyIds) (after_4 xs) e

pub cause_4 : (posts : List Post) (o : Option PostFault) → false ≡ list_any (is_bad TooManyIds) (entries_of posts) → first_cause (after_4 (entries_of posts)) ≡ o → first_cause (after_3 (entries_of posts)) ≡ o
cause_4 posts o e rest = let xs = entries_of posts in skips (list_any (is_bad TooManyIds) xs, TooManyIds) (after_4 xs) o e rest

pub cause_5_is : (posts : List Post) → true ≡ list_any (is_bad BodyTooLong) (entries_of posts) → first_cause (after_4 (entries_of posts)) ≡ Some BodyTooLong
cause_5_is posts e = let xs = entries_of posts in stops (list_any (is_bad BodyTooLong) xs, BodyTooLong) (after_5 xs) e

pub cause_5 : (posts : List Post) (o : Option PostFault) → false ≡ list_any (is_bad BodyTooLong) (entries_of posts) → first_cause (after_5 (entries_of posts)) ≡ o → first_cause (after_4 (entries_of posts)) ≡ o
cause_5 posts o e rest = let xs = entries_of posts in skips (list_any (is_bad BodyTooLong) xs, BodyTooLong) (after_5 xs) o e rest

pub cause_6_is : (posts : List Post) → true ≡ list_any (is_bad KeyTooLong) (entries_of posts) → first_cause (after_5 (entries_of posts)) ≡ Some KeyTooLong
cause_6_is posts e = let xs = entries_of posts in stops (list_any (is_bad KeyTooLong) xs, KeyTooLong) (after_6 xs) e

pub cause_6 : (posts : List Post) (o : Option PostFault) → false ≡ list_any (is_bad KeyTooLong) (entries_of posts) → first_cause (after_6 (entries_of posts)) ≡ o → first_cause (after_5 (entries_of posts)) ≡ o
cause_6 posts o e rest = let xs = entries_of posts in skips (list_any (is_bad KeyTooLong) xs, KeyTooLong) (after_6 xs) o e rest

pub cause_7_is : (posts : List Post) → true ≡ list_any (is_bad ValueTooLong) (entries_of posts) → first_cause (after_6 (entries_of posts)) ≡ Some ValueTooLong
cause_7_is posts e = let xs = entries_of posts in stops (list_any (is_bad ValueTooLong) xs, ValueTooLong) (after_7 xs) e

pub cause_7 : (posts : List Post) (o : Option PostFault) → false ≡ list_any (is_bad ValueTooLong) (entries_of posts) → first_cause (after_7 (entries_of posts)) ≡ o → first_cause (after_6 (entries_of posts)) ≡ o
cause_7 posts o e rest = let xs = entries_of posts in skips (list_any (is_bad ValueTooLong) xs, ValueTooLong) (after_7 xs) o e rest

pub cause_8_is : (posts : List Post) → true ≡ ltb MAX_POST_BYTES (sum_by size_of (entries_of posts)) → first_cause (after_7 (entries_of posts)) ≡ Some PostTooLarge
cause_8_is posts e = let xs = entries_of posts in stops (ltb MAX_POST_BYTES (sum_by size_of xs), PostTooLarge) [] e

pub cause_8 : (posts : List Post) → false ≡ ltb MAX_POST_BYTES (sum_by size_of (entries_of posts)) → first_cause (after_7 (entries_of posts)) ≡ None
cause_8 posts e = let xs = entries_of posts in skips (ltb MAX_POST_BYTES (sum_by size_of xs), PostTooLarge) [] None e refl

-- ---- bytes

small : (a b m : ℕ) → min a (2 ^ 64 - 1) ≤ m → m ≤ 262144 → ltb m (a + b) ≡ ltb (m - min a (2 ^ 64 - 1)) b
small a b m le most = grind (arith, nat_tests)

pub less_left : (posts rest : List Post) (p : Post) (left bytes : ℕ) → posts ≡ p ∷ rest → bytes ≡ min (size_of (entry_of p)) (2 ^ 64 - 1) → bytes ≤ left → left ≤ 262144
    → ltb (left - bytes) (sum_by size_of (entries_of rest)) ≡ ltb left (sum_by size_of (entries_of posts))
less_left posts rest p left bytes next is le most =
    ap (λ (n : ℕ). ltb (left - n) (sum_by size_of (entries_of rest))) is
    ∙ sym (ap (λ (l : List Post). ltb left (sum_by size_of (entries_of l))) next ∙ ap (ltb left) (sum_by-cons size_of (entry_of p) (entries_of rest)) ∙ small (size_of (entry_of p)) (sum_by size_of (entries_of rest)) left (omega (arith, is, le)) most)
