-- Lists of entries, one more at their end, and their servers.
use Rattle.std.proofs.Common.{◌≡◌, ℕ, ℤ, ◌^◌, ◌<◌, ◌≤◌, List, [], ◌∷◌, ◌++◌, Bool, true, false, ◌&&◌, Option, Some, None, Err, leb, ltb, map as each, cond, max, refl, sym, ap, ◌∙◌, subst, append-nil, arith}
use Rattle.std.proofs.lemmas.Bool.Decides.{nat_tests}
use Rattle.std.specs.FinMap as map
use Rattle.box_events.specs.declared.positions.Receipt.{Receipt}
use Rattle.box_events.specs.declared.requests.Post.{Post}
use Rattle.box_server.specs.declared.fault.PostFault.{PostFault}
use Rattle.box_server.specs.Servers.{ServerState, new_server, dated_at}
use Rattle.box_server.specs.Posting.{posted, receipt_of, applied_all, cut}
use Rattle.box_server.specs.Entries.{entries_of}
use Rattle.std.proofs.lemmas.Cmp.{int_cmp_total, eq_by_cmp_equiv}
use Rattle.box_server.specs.Refusing.{post_cause}
use Rattle.box_server.specs.Receiving.{after_post, answer_by, post_answer, state_by}
use Rattle.box_server.specs.Sound.{IsSound}
use Rattle.box_server.proofs.NewServers.{sound_new}
use Rattle.box_server.proofs.Soundness.{post_sound, dated_sound}
use Rattle.box_server.specs.declared.entry.Entry.{Entry}
use Rattle.box_server.specs.Rebuilding.{is_new_by, is_new, is_accepted, with_entry, rebuilt_from, rebuilt, are_right_from, are_right, Rebuilds, kept_if, kept_of}

-- both of two tests
and_left : (a b : Bool) → (a && b) ≡ true → a ≡ true
and_left true b h = refl
and_left false b h = absurd cc

and_right : (a b : Bool) → (a && b) ≡ true → b ≡ true
and_right true b h = h
and_right false b h = absurd cc

and_both : (a b : Bool) → a ≡ true → b ≡ true → (a && b) ≡ true
and_both a b x y = ap (λ t. t && b) x ∙ y

-- ---- more entries

pub rebuilt_more : (s : ServerState) (xs ys : List Entry) → rebuilt_from s (xs ++ ys) ≡ rebuilt_from (rebuilt_from s xs) ys
rebuilt_more s [] ys = refl
rebuilt_more s (x ∷ xs) ys = rebuilt_more (with_entry s x) xs ys

pub right_more : (s : ServerState) (xs ys : List Entry) → are_right_from s xs ≡ true → are_right_from (rebuilt_from s xs) ys ≡ true → are_right_from s (xs ++ ys) ≡ true
right_more s [] ys a b = b
right_more s (x ∷ xs) ys a b = and_both (is_accepted s x) (are_right_from (with_entry s x) (xs ++ ys)) (and_left (is_accepted s x) (are_right_from (with_entry s x) xs) a) (right_more (with_entry s x) xs ys (and_right (is_accepted s x) (are_right_from (with_entry s x) xs) a) b)

pub wrong_more : (s : ServerState) (xs ys : List Entry) → are_right_from s xs ≡ true → are_right_from (rebuilt_from s xs) ys ≡ false → are_right_from s (xs ++ ys) ≡ false
wrong_more s [] ys a b = b
wrong_more s (x ∷ xs) ys a b = ap (λ (t : Bool). t && are_right_from (with_entry s x) (xs ++ ys)) (and_left (is_accepted s x) (are_right_from (with_entry s x) xs) a) ∙ wrong_more (with_entry s x) xs ys (and_right (is_accepted s x) (are_right_from (with_entry s x) xs) a) b

-- ---- a post

by_new : (s : ServerState) (id : ℤ) (ps : List Post) (o : Option Receipt) (c : Option PostFault) → is_new_by o c ≡ true → state_by s id ps o c ≡ posted s id ps
by_new s id ps (Some r) c h = absurd cc
by_new s id ps None (Some c) h = absurd cc
by_new s id ps None None h = refl

by_old : (s : ServerState) (id : ℤ) (ps : List Post) (o : Option Receipt) (c : Option PostFault) → is_new_by o c ≡ false → state_by s id ps o c ≡ s
by_old s id ps (Some r) c h = refl
by_old s id ps None (Some c) h = refl
by_old s id ps None None h = absurd cc

pub after_old : (s : ServerState) (id : ℤ) (ps : List Post) → is_new s id ps ≡ false → after_post s id ps ≡ s
after_old s id ps h = by_old s id ps (map.get s.receipts id) (post_cause s ps) h

pub after_new : (s : ServerState) (id : ℤ) (ps : List Post) → is_new s id ps ≡ true → after_post s id ps ≡ posted s id ps
after_new s id ps h = by_new s id ps (map.get s.receipts id) (post_cause s ps) h

refused_by : (s : ServerState) (id : ℤ) (ps : List Post) (o : Option Receipt) (c : Option PostFault) (f : PostFault) → Err f ≡ answer_by s id ps o c → (kept_if (is_new_by o c) s id ps ≡ []) × (state_by s id ps o c ≡ s)
refused_by s id ps (Some r) c f h = absurd cc
refused_by s id ps None (Some cause) f h = (refl, refl)
refused_by s id ps None None f h = absurd cc

pub refused_adds_nothing : (s : ServerState) (id : ℤ) (ps : List Post) (f : PostFault) → Err f ≡ post_answer s id ps → (kept_of s id ps ≡ []) × (after_post s id ps ≡ s)
refused_adds_nothing s id ps f h = refused_by s id ps (map.get s.receipts id) (post_cause s ps) f h

-- at its own date a server is itself
pub own_date : (s : ServerState) → s ≡ dated_at s s.date
own_date s = ap (λ (d : ℕ). record s { date = d }) (omega (arith))

-- the date of a server that entries rebuild isn't below theirs
pub not_below : (r s : ServerState) → s ≡ dated_at r s.date → r.date ≤ s.date
not_below r s h = let d : s.date ≡ max r.date s.date = ap (λ (t : ServerState). t.date) h in omega (arith, d)

accepts_own : (r s : ServerState) (id : ℤ) (ps : List Post) → s ≡ dated_at r s.date → s.date < 2 ^ 31 → is_new s id ps ≡ true → is_accepted r (record { date = s.date; random_id = id; posts = ps }) ≡ true
accepts_own r s id ps h small n =
    and_both (leb r.date s.date && ltb s.date (2 ^ 31)) (is_new (dated_at r s.date) id ps) (let le = not_below r s h in grind (arith, nat_tests, le, small)) (subst (λ (t : ServerState). is_new t id ps ≡ true) h n)

one_more_by : (es : List Entry) (s : ServerState) (id : ℤ) (ps : List Post) (b : Bool) → is_new s id ps ≡ b → s.date < 2 ^ 31 → Rebuilds es s → Rebuilds (es ++ kept_if b s id ps) (after_post s id ps)
one_more_by es s id ps true n small k =
    let e : Entry = record { date = s.date; random_id = id; posts = ps } in
    let t : ServerState = after_post s id ps in
    let same : rebuilt (es ++ e ∷ []) ≡ t = rebuilt_more new_server es (e ∷ []) ∙ ap (λ (u : ServerState). after_post u id ps) (sym k.server) in
    record {
      right = right_more new_server es (e ∷ []) k.right (and_both (is_accepted (rebuilt es) e) true (accepts_own (rebuilt es) s id ps k.server small n) refl);
      server = own_date t ∙ ap (λ (u : ServerState). dated_at u t.date) (sym same);
    }
one_more_by es s id ps false n small k =
    subst (λ (t : ServerState). Rebuilds (es ++ []) t) (sym (after_old s id ps n)) (subst (λ (xs : List Entry). Rebuilds xs s) (sym (append-nil es)) k)

pub one_more : (es : List Entry) (s : ServerState) (id : ℤ) (ps : List Post) → s.date < 2 ^ 31 → Rebuilds es s → Rebuilds (es ++ kept_of s id ps) (after_post s id ps)
one_more es s id ps small k = one_more_by es s id ps (is_new s id ps) refl small k

-- ---- dates

-- a later date is aside
pub date_aside : (es : List Entry) (s : ServerState) (date : ℕ) → Rebuilds es s → Rebuilds es (dated_at s date)
date_aside es s date k =
    let r : ServerState = rebuilt es in
    let d : s.date ≡ max r.date s.date = ap (λ (t : ServerState). t.date) k.server in
    record { right = k.right; server = ap (λ (t : ServerState). dated_at t date) k.server ∙ ap (λ (n : ℕ). record r { date = n }) (omega (arith, d)) }

-- from a date on that is past theirs, two servers of the same entries are one
pub one_server : (es : List Entry) (s t : ServerState) (now : ℕ) → Rebuilds es s → Rebuilds es t → s.date ≤ now → t.date ≤ now → dated_at s now ≡ dated_at t now
one_server es s t now a b le lf = as_rebuilt s a le ∙ sym (as_rebuilt t b lf)
  where
    as_rebuilt : (s : ServerState) → Rebuilds es s → s.date ≤ now → dated_at s now ≡ dated_at (rebuilt es) now
    as_rebuilt s k le =
        let d : s.date ≡ max (rebuilt es).date s.date = ap (λ (t : ServerState). t.date) k.server in
        ap (λ (t : ServerState). dated_at t now) k.server ∙ ap (λ (n : ℕ). record (rebuilt es) { date = n }) (omega (arith, d, le))

-- ---- soundness

sound_entry : (s : ServerState) (e : Entry) → IsSound s → is_accepted s e ≡ true → IsSound (with_entry s e)
sound_entry s e k h =
    let t = and_left (leb s.date e.date && ltb e.date (2 ^ 31)) (is_new (dated_at s e.date) e.random_id e.posts) h in
    let small : e.date < 2 ^ 31 = let b = and_right (leb s.date e.date) (ltb e.date (2 ^ 31)) t in grind (arith, nat_tests, b) in
    post_sound (dated_at s e.date) e.random_id e.posts (dated_sound s e.date k small)

sound_from : (s : ServerState) (es : List Entry) → IsSound s → are_right_from s es ≡ true → IsSound (rebuilt_from s es)
sound_from s [] k h = k
sound_from s (e ∷ es) k h = sound_from (with_entry s e) es (sound_entry s e k (and_left (is_accepted s e) (are_right_from (with_entry s e) es) h)) (and_right (is_accepted s e) (are_right_from (with_entry s e) es) h)

pub rebuilt_sound : (es : List Entry) → are_right es ≡ true → IsSound (rebuilt es)
rebuilt_sound es h = sound_from new_server es sound_new h

-- ---- known ids

pub known_after : (s : ServerState) (id : ℤ) (ps : List Post) → is_new s id ps ≡ true → (r : Receipt) × (map.get (after_post s id ps).receipts id ≡ Some r)
unfolding posted
known_after s id ps n =
    let t : ServerState = applied_all s (entries_of ps) in
    let u : ServerState = record t { channels = each cut t.channels } in
    (receipt_of u, ap (λ (z : ServerState). map.get z.receipts id) (after_new s id ps n) ∙ map.get-insert int_cmp_total t.receipts id (receipt_of u) id ∙ ap (λ (b : Bool). cond b (Some (receipt_of u)) (map.get t.receipts id)) ((eq_by_cmp_equiv int_cmp_total).refl id))
