-- A server that takes a draft.
use Rattle.std.proofs.Common.{◌≡◌, ℕ, ℤ, ◌+◌, ◌<◌, ◌≤◌, List, [], ◌∷◌, ◌++◌, Bool, true, false, cond, eqb, ltb, Option, Some, None, Result, Ok, Err, if◌then◌else◌, length, map as each, refl, sym, ap, ◌∙◌, subst, arith, append-nil, inl, inr, T, ◌&&◌}
use Rattle.std.specs.BTreeMap.{insert_entry}
use Rattle.std.specs.Map.{lookup, remove_entry, keys_of}
use Rattle.std.specs.List.{AllByRecursion}
use Rattle.std.specs.List.Sorted.{IsStrictlySortedBy}
use Rattle.std.specs.Ordering.{int_cmp, is_eq, is_lt, match_ordering}
use Rattle.std.specs.declared.cmp.Ordering.{Ordering}
use Rattle.std.specs.declared.cmp.Ordering.TheVariants.{Less, Equal, Greater}
use Rattle.std.specs.Cmp.{int_cmp_total, eq_by_cmp_equiv}
use Rattle.std.specs.FinMap as map
use Rattle.std.specs.FinMap.Entries.{by_order, below_all, find, put, is_sorted}
use Rattle.std.proofs.lemmas.Bool.Decides.{nat_tests}
use Rattle.std.proofs.lemmas.List.{length-append, length-map}
use Rattle.box_events.specs.declared.limits.TheConstants.{MAX_END, MAX_CHANNELS, MAX_KEYS}
use Rattle.box_events.specs.declared.positions.Receipt.{Receipt}
use Rattle.box_events.specs.declared.requests.Post.{Post}
use Rattle.box_events.specs.declared.settings.Setting.{Setting}
use Rattle.box_events.specs.declared.updates.Push.TheVariants.{Container}
use Rattle.box_events.specs.SettingLists.{Dated, or_else}
use Rattle.box_server.specs.declared.draft.Draft.{Draft}
use Rattle.box_server.specs.declared.fault.PostFault.{PostFault}
use Rattle.box_server.specs.declared.fault.PostFault.TheVariants.{TooManyChannels, TooManySettings, Memory}
use Rattle.box_server.specs.declared.posted.Posted.{Posted}
use Rattle.box_server.specs.Servers.{ChannelBox, ServerState, channel_end}
use Rattle.box_server.specs.Entries.{Entry, entries_of}
use Rattle.box_server.specs.LastEntries.{keys_in}
use Rattle.box_server.specs.Posting.{applied_all, cut, received, receipt_of, posted, push_of, settings_of, dated_with, first_number, last_number, updates_of}
use Rattle.box_server.specs.Refusing.{first_cause, bad_entries, too_many, box_full, post_cause}
use Rattle.box_server.specs.Receiving.{answer_by, state_by, Receives}
use Rattle.box_server.specs.inner.Drafted.{Fits, joined, joined_channels, AreAligned, IsBlank, Drafts}
use Rattle.box_server.specs.inner.Rooms.{numbers_of, blank_tail}
use Rattle.box_server.specs.inner.Taking.{CountsKeys, IsPlan, Takes, TakesUnkept, with_draft}
use Rattle.box_server.proofs.Soundness.{posted_sound}
use Rattle.box_events.specs.Boxes.{ending}
use Rattle.box_events.specs.BoxViews.{BoxView, end_of}
use Rattle.box_events.specs.Events.{EventView}
use Rattle.box_server.proofs.LastLists.{eq_of}
use Rattle.box_server.specs.Sound.{IsSound}
use Rattle.box_server.specs.declared.server.Server.TheInside.{Inside}
use Rattle.box_server.specs.inner.Insides.{channel_view, server_view}
use Rattle.box_server.proofs.Drafting.{common_end, secret_end, seq_end}
use Rattle.box_server.proofs.Growths.{settings_after}

-- ---- receipts by random ids

match_by : {A : Type 0} (o : Ordering) (x y z w : A) → z ≡ w → match_ordering o x y z ≡ by_order o x y w
match_by Less x y z w e = refl
match_by Equal x y z w e = refl
match_by Greater x y z w e = e

insert_put : (es : List (ℤ × Receipt)) (k : ℤ) (v : Receipt) → insert_entry int_cmp es k v ≡ put int_cmp k v es
insert_put [] k v = refl
insert_put (e ∷ es) k v = match_by (int_cmp k e.0) ((k, v) ∷ e ∷ es) ((e.0, v) ∷ es) (e ∷ insert_entry int_cmp es k v) (e ∷ put int_cmp k v es) (ap (λ (l : List (ℤ × Receipt)). e ∷ l) (insert_put es k v))

lookup_find : (es : List (ℤ × Receipt)) (k : ℤ) → lookup (λ q. is_eq (int_cmp k q)) es ≡ find int_cmp k es
lookup_find [] k = refl
lookup_find (e ∷ es) k = ap (cond (is_eq (int_cmp k e.0)) (Some e.1)) (lookup_find es k)

both : (a b : Bool) → T a → T b → T (a && b)
both true b p q = q
both false b p q = absurd p

below : (k : ℤ) (es : List (ℤ × Receipt)) → AllByRecursion (λ q. int_cmp k q ≡ Less) (keys_of es) → T (below_all int_cmp k es)
below k [] a = tt
below k (e ∷ es) a = both (is_lt (int_cmp k e.0)) (below_all int_cmp k es) (subst (λ (o : Ordering). T (is_lt o)) (sym a.0) tt) (below k es a.1)

pub sorted_entries : (es : List (ℤ × Receipt)) → IsStrictlySortedBy int_cmp (keys_of es) → T (is_sorted int_cmp es)
unfolding IsStrictlySortedBy
sorted_entries [] s = tt
sorted_entries (e ∷ es) s = both (below_all int_cmp e.0 es) (is_sorted int_cmp es) (below e.0 es s.0) (sorted_entries es s.1)

pub receipt_at : (es : List (ℤ × Receipt)) (k : ℤ) → IsStrictlySortedBy int_cmp (keys_of es) → map.get (map.from_sorted {R = int_cmp} es) k ≡ lookup (λ q. is_eq (int_cmp k q)) es
receipt_at es k s = map.get-from_sorted int_cmp es k (sorted_entries es s) ∙ sym (lookup_find es k)

pub receipt_put : (es new : List (ℤ × Receipt)) (k : ℤ) (v : Receipt) → IsStrictlySortedBy int_cmp (keys_of es) → IsStrictlySortedBy int_cmp (keys_of new) → new ≡ insert_entry int_cmp es k v → map.from_sorted {R = int_cmp} new ≡ map.insert (map.from_sorted es) k v
receipt_put es new k v s t is =
    map.same_entries_map (map.from_sorted new) (map.insert (map.from_sorted es) k v)
    (map.entries-from_sorted int_cmp new (sorted_entries new t) ∙ is ∙ insert_put es k v ∙ ap (put int_cmp k v) (sym (map.entries-from_sorted int_cmp es (sorted_entries es s))) ∙ sym (map.entries-insert int_cmp_total (map.from_sorted es) k v))

itself : (k : ℤ) → int_cmp k k ≡ Equal
itself k = eq_of (int_cmp k k) (let e = eq_by_cmp_equiv int_cmp_total in e.refl k)

lookup_less : (k : ℤ) (v : Receipt) (es : List (ℤ × Receipt)) → remove_entry (λ q. is_eq (int_cmp k q)) ((k, v) ∷ es) ≡ es
lookup_less k v es = ap (λ (o : Ordering). cond (is_eq o) es ((k, v) ∷ remove_entry (λ q. is_eq (int_cmp k q)) es)) (itself k)

removed_by : (e : ℤ × Receipt) (es : List (ℤ × Receipt)) (k : ℤ) (v : Receipt) (o : Ordering) → int_cmp k e.0 ≡ o → cond (is_eq o) (Some e.1) (lookup (λ q. is_eq (int_cmp k q)) es) ≡ None
    → (lookup (λ q. is_eq (int_cmp k q)) es ≡ None → remove_entry (λ q. is_eq (int_cmp k q)) (insert_entry int_cmp es k v) ≡ es)
    → remove_entry (λ q. is_eq (int_cmp k q)) (match_ordering o ((k, v) ∷ e ∷ es) ((e.0, v) ∷ es) (e ∷ insert_entry int_cmp es k v)) ≡ e ∷ es
removed_by e es k v Less is none rest = lookup_less k v (e ∷ es)
removed_by e es k v Equal is none rest = absurd cc
removed_by e es k v Greater is none rest = ap (λ (o : Ordering). cond (is_eq o) (insert_entry int_cmp es k v) (e ∷ remove_entry (λ q. is_eq (int_cmp k q)) (insert_entry int_cmp es k v))) is ∙ ap (λ (l : List (ℤ × Receipt)). e ∷ l) (rest none)

pub removed : (es : List (ℤ × Receipt)) (k : ℤ) (v : Receipt) → lookup (λ q. is_eq (int_cmp k q)) es ≡ None → remove_entry (λ q. is_eq (int_cmp k q)) (insert_entry int_cmp es k v) ≡ es
removed [] k v none = lookup_less k v []
removed (e ∷ es) k v none = removed_by e es k v (int_cmp k e.0) refl (ap (λ (o : Ordering). cond (is_eq o) (Some e.1) (lookup (λ q. is_eq (int_cmp k q)) es)) refl ∙ none) (removed es k v)

-- ---- the server with a draft

pub blank_aligned : (cs : List ChannelBox) → AreAligned cs (each blank_tail cs)
blank_aligned [] = tt
blank_aligned (c ∷ cs) = (refl, refl, blank_aligned cs)

pub blank_joined : (cs : List ChannelBox) → joined_channels cs (each blank_tail cs) ≡ cs
blank_joined [] = refl
blank_joined (c ∷ cs) = (λ i. record c { events = append-nil c.events i } ∷ blank_joined cs i)

pub blank_draft : (s : ServerState) (d : Draft) → d.date ≡ s.date → d.common.first ≡ ending s.common → d.common.events ≡ [] → d.secret.first ≡ ending s.secret → d.secret.events ≡ [] → d.channels.items ≡ each blank_tail s.channels → d.seq ≡ length s.settings → length s.settings ≤ MAX_END
    → d.settings.items ≡ [] → d.updates ≡ [] → IsBlank s d
blank_draft s d date common none secret none_secret channels seq limit settings updates = record {
  fits = record {
    date = date;
    common = common;
    secret = secret;
    channels = subst (AreAligned s.channels) (sym channels) (blank_aligned s.channels);
    seq = omega (arith, seq, ap length settings);
    limit = omega (arith, seq, limit);
  };
  joins = λ i. record s {
    common = (ap (λ (l : List EventView). s.common ++ l) none ∙ append-nil s.common) i;
    secret = (ap (λ (l : List EventView). s.secret ++ l) none_secret ∙ append-nil s.secret) i;
    channels = (ap (joined_channels s.channels) channels ∙ blank_joined s.channels) i;
    settings = (ap (λ (l : List Dated). s.settings ++ l) settings ∙ append-nil s.settings) i;
  };
  updates = updates;
}

-- ---- causes

pub cause_bad : (s : ServerState) (posts : List Post) (f : PostFault) → first_cause (bad_entries (entries_of posts)) ≡ Some f → post_cause s posts ≡ Some f
unfolding post_cause
cause_bad s posts f e = let xs = entries_of posts in ap (λ (o : Option PostFault). or_else o (or_else (first_cause (too_many (applied_all s xs))) (box_full s xs))) e

pub cause_many : (s : ServerState) (posts : List Post) (f : PostFault) → first_cause (bad_entries (entries_of posts)) ≡ None → first_cause (too_many (applied_all s (entries_of posts))) ≡ Some f → post_cause s posts ≡ Some f
unfolding post_cause
cause_many s posts f bad e =
    let xs = entries_of posts in
    ap (λ (o : Option PostFault). or_else o (or_else (first_cause (too_many (applied_all s xs))) (box_full s xs))) bad
    ∙ ap (λ (o : Option PostFault). or_else o (box_full s xs)) e

pub cause_full : (s : ServerState) (posts : List Post) (o : Option PostFault) → first_cause (bad_entries (entries_of posts)) ≡ None → first_cause (too_many (applied_all s (entries_of posts))) ≡ None → box_full s (entries_of posts) ≡ o → post_cause s posts ≡ o
unfolding post_cause
cause_full s posts o bad many full =
    let xs = entries_of posts in
    ap (λ (p : Option PostFault). or_else p (or_else (first_cause (too_many (applied_all s xs))) (box_full s xs))) bad
    ∙ ap (λ (p : Option PostFault). or_else p (box_full s xs)) many ∙ full

-- ---- answers

pub receives_known : (s : ServerState) (random_id : ℤ) (posts : List Post) (receipt : Receipt) → map.get s.receipts random_id ≡ Some receipt → Receives s random_id posts (Ok (record { receipt = receipt; push = None })) s
receives_known s random_id posts receipt known =
    inr (ap (λ (o : Option Receipt). answer_by s random_id posts o (post_cause s posts)) (sym known), ap (λ (o : Option Receipt). state_by s random_id posts o (post_cause s posts)) (sym known))

pub receives_refused : (s : ServerState) (random_id : ℤ) (posts : List Post) (f : PostFault) → map.get s.receipts random_id ≡ None → post_cause s posts ≡ Some f → Receives s random_id posts (Err f) s
receives_refused s random_id posts f fresh cause =
    inr ((λ i. answer_by s random_id posts (sym fresh i) (sym cause i)), (λ i. state_by s random_id posts (sym fresh i) (sym cause i)))

pub receives_nothing : (s t : ServerState) (random_id : ℤ) (posts : List Post) (f : PostFault) → f ≡ Memory → t ≡ s → Receives s random_id posts (Err f) t
receives_nothing s t random_id posts f memory same = inl (ap (λ (g : PostFault). Err g) memory, same)

pub posted_with : (s : ServerState) (random_id : ℤ) (posts : List Post) (d : Draft) → joined s d ≡ applied_all s (entries_of posts) → with_draft s random_id d ≡ posted s random_id posts
unfolding posted
posted_with s random_id posts d applies = ap (λ (t : ServerState). received (record t { channels = each cut t.channels }) random_id) applies

same_by : (n : ℕ) → eqb n (n + 0) ≡ true
same_by n = grind (arith, nat_tests)

more_by : (n m : ℕ) → eqb n (n + (m + 1)) ≡ false
more_by n m = grind (arith, nat_tests)

numbers_by : (n : ℕ) (xs : List Setting) → numbers_of n (n + length xs) ≡ (first_number n xs, last_number n xs)
numbers_by n [] = ap (λ (b : Bool). if b then (0, 0) else (n + 1, n + 0)) (same_by n)
numbers_by n (x ∷ xs) = let sum : n + length (x ∷ xs) ≡ n + (length xs + 1) = omega arith in ap (λ (b : Bool). if b then (0, 0) else (n + 1, n + length (x ∷ xs))) (ap (eqb n) sum ∙ more_by n (length xs))

pub numbers_are : (s : ServerState) (xs : List Entry) (t : ServerState) → t ≡ applied_all s xs → numbers_of (length s.settings) (length t.settings) ≡ (first_number (length s.settings) (settings_of xs), last_number (length s.settings) (settings_of xs))
numbers_are s xs t is =
    ap (numbers_of (length s.settings))
    (ap (λ (u : ServerState). length u.settings) is ∙ ap length (settings_after s xs) ∙ length-append s.settings (each (dated_with s.date) (settings_of xs)) ∙ ap (λ (n : ℕ). length s.settings + n) (length-map (settings_of xs) (dated_with s.date)))
    ∙ numbers_by (length s.settings) (settings_of xs)

pub receives_new : (s t : ServerState) (random_id : ℤ) (posts : List Post) (d : Draft) (p : Posted) → map.get s.receipts random_id ≡ None → post_cause s posts ≡ None → joined s d ≡ applied_all s (entries_of posts) → d.updates ≡ updates_of s (entries_of posts)
    → t ≡ with_draft s random_id d
    → p ≡ record { receipt = receipt_of (joined s d); push = Some (Container d.updates s.date (numbers_of (length s.settings) (length (joined s d).settings)).0 (numbers_of (length s.settings) (length (joined s d).settings)).1) }
    → Receives s random_id posts (Ok p) t
unfolding posted push_of
receives_new s t random_id posts d p fresh cause applies updates after answer =
    let n = numbers_are s (entries_of posts) (joined s d) applies in
    inr (
      ap (λ (q : Posted). Ok q) answer
          ∙ (λ i. Ok (record { receipt = receipt_of (applies i); push = Some (Container (updates i) s.date (n i).0 (n i).1) }))
          ∙ (λ i. answer_by s random_id posts (sym fresh i) (sym cause i)),
      after ∙ posted_with s random_id posts d applies ∙ (λ i. state_by s random_id posts (sym fresh i) (sym cause i)),
    )

not_many : (n : ℕ) → n ≤ MAX_KEYS → ltb MAX_KEYS n ≡ false
not_many n le = grind (arith, nat_tests)

too_many_of : (n : ℕ) → MAX_KEYS < n → ltb MAX_KEYS n ≡ true
too_many_of n lt = grind (arith, nat_tests)

pub no_more : (s t : ServerState) (keys : ℕ) (few : Bool) → few ≡ false → few ≡ ltb MAX_CHANNELS (length t.channels) → keys ≡ keys_in t.settings → keys ≤ MAX_KEYS → first_cause (too_many t) ≡ None
no_more s t keys few is channels number le =
    ap (λ (b : Bool). if b then Some TooManyChannels else first_cause ((ltb MAX_KEYS (keys_in t.settings), TooManySettings) ∷ [])) (sym channels ∙ is)
    ∙ ap (λ (b : Bool). if b then Some TooManySettings else None) (not_many (keys_in t.settings) (omega (arith, le, number)))

pub more_keys : (s t : ServerState) (keys : ℕ) (few : Bool) → few ≡ false → few ≡ ltb MAX_CHANNELS (length t.channels) → keys ≡ keys_in t.settings → MAX_KEYS < keys → first_cause (too_many t) ≡ Some TooManySettings
more_keys s t keys few is channels number lt =
    ap (λ (b : Bool). if b then Some TooManyChannels else first_cause ((ltb MAX_KEYS (keys_in t.settings), TooManySettings) ∷ [])) (sym channels ∙ is)
    ∙ ap (λ (b : Bool). if b then Some TooManySettings else None) (too_many_of (keys_in t.settings) (omega (arith, lt, number)))

-- ---- the fields of a server

pub taken_view : (i new : Inside) (d : Draft) (random_id : ℤ) (receipt : Receipt) → Fits (server_view i) d → new.date ≡ i.date → new.common.events ≡ i.common.events ++ d.common.events → new.secret.events ≡ i.secret.events ++ d.secret.events
    → each channel_view new.channels.items ≡ each cut (joined_channels (each channel_view i.channels.items) d.channels.items) → new.settings ≡ i.settings ++ d.settings.items
    → map.from_sorted {R = int_cmp} new.receipts.entries ≡ map.insert (map.from_sorted i.receipts.entries) random_id receipt → receipt ≡ receipt_of (joined (server_view i) d)
    → server_view new ≡ with_draft (server_view i) random_id d
taken_view i new d random_id receipt fits date common secret channels settings receipts is =
    λ j. record { date = date j; common = common j; secret = secret j; channels = channels j; settings = settings j; receipts = (receipts ∙ ap (map.insert (map.from_sorted i.receipts.entries) random_id) is) j }

pub receipt_is : (s : ServerState) (d : Draft) (pts qts date seq : ℕ) → Fits s d → pts ≡ channel_end d.common → qts ≡ channel_end d.secret → date ≡ d.date → seq ≡ d.seq → record { pts = pts; qts = qts; date = date; seq = seq } ≡ receipt_of (joined s d)
receipt_is s d pts qts date seq fits p q t n =
    λ j. record { pts = (p ∙ common_end s d fits) j; qts = (q ∙ secret_end s d fits) j; date = (t ∙ fits.date) j; seq = (n ∙ seq_end s d fits) j }

pub receipts_back : (es mid new : List (ℤ × Receipt)) (k a b : ℤ) (v : Receipt) → a ≡ k → b ≡ k → IsStrictlySortedBy int_cmp (keys_of es) → map.get (map.from_sorted {R = int_cmp} es) k ≡ None → mid ≡ insert_entry int_cmp es a v → new ≡ remove_entry (λ q. is_eq (int_cmp b q)) mid
    → map.from_sorted {R = int_cmp} new ≡ map.from_sorted es
receipts_back es mid new k a b v first second s fresh put taken =
    ap (λ (l : List (ℤ × Receipt)). map.from_sorted l)
    (taken ∙ (λ i. remove_entry (λ q. is_eq (int_cmp (second i) q)) ((put ∙ ap (λ (z : ℤ). insert_entry int_cmp es z v) first) i)) ∙ removed es k v (sym (receipt_at es k s) ∙ fresh))

pub receipts_more : (es new : List (ℤ × Receipt)) (k a : ℤ) (v : Receipt) → a ≡ k → IsStrictlySortedBy int_cmp (keys_of es) → IsStrictlySortedBy int_cmp (keys_of new) → new ≡ insert_entry int_cmp es a v → map.from_sorted {R = int_cmp} new ≡ map.insert (map.from_sorted es) k v
receipts_more es new k a v first s t put = receipt_put es new k v s t (put ∙ ap (λ (z : ℤ). insert_entry int_cmp es z v) first)

pub known_at : (i : Inside) (s : ServerState) (k a : ℤ) (o : Option Receipt) → server_view i ≡ s → a ≡ k → IsStrictlySortedBy int_cmp (keys_of i.receipts.entries) → o ≡ lookup (λ q. is_eq (int_cmp a q)) i.receipts.entries → map.get s.receipts k ≡ o
known_at i s k a o view same order is =
    ap (λ (t : ServerState). map.get t.receipts k) (sym view) ∙ receipt_at i.receipts.entries k order ∙ ap (λ (z : ℤ). lookup (λ q. is_eq (int_cmp z q)) i.receipts.entries) (sym same) ∙ sym is

pub keys_refused : (s : ServerState) (random_id : ℤ) (posts : List Post) (f : PostFault) → map.get s.receipts random_id ≡ None → first_cause (bad_entries (entries_of posts)) ≡ None → CountsKeys s posts (Err f) → Receives s random_id posts (Err f) s
keys_refused s random_id posts f fresh bad (inl memory) = receives_nothing s s random_id posts f memory refl
keys_refused s random_id posts f fresh bad (inr many) = receives_refused s random_id posts f fresh (cause_many s posts f bad many)

pub draft_refused : (s : ServerState) (random_id : ℤ) (posts : List Post) (f : PostFault) → map.get s.receipts random_id ≡ None → first_cause (bad_entries (entries_of posts)) ≡ None → first_cause (too_many (applied_all s (entries_of posts))) ≡ None → Drafts s posts (Err f) → Receives s random_id posts (Err f) s
draft_refused s random_id posts f fresh bad many (inl memory) = receives_nothing s s random_id posts f memory refl
draft_refused s random_id posts f fresh bad many (inr full) = receives_refused s random_id posts f fresh (cause_full s posts (Some f) bad many full)

pub draft_sound : (s : ServerState) (random_id : ℤ) (posts : List Post) (d : Draft) → IsSound s → first_cause (bad_entries (entries_of posts)) ≡ None → first_cause (too_many (applied_all s (entries_of posts))) ≡ None → Drafts s posts (Ok d) → IsSound (with_draft s random_id d)
draft_sound s random_id posts d sound bad many h = subst IsSound (sym (posted_with s random_id posts d h.1)) (posted_sound s random_id posts sound (cause_full s posts None bad many h.3))

few_by : (a b : Bool) → first_cause ((a, TooManyChannels) ∷ (b, TooManySettings) ∷ []) ≡ None → b ≡ false
few_by true b e = absurd cc
few_by false true e = absurd cc
few_by false false e = refl

few_at : (n : ℕ) → ltb MAX_KEYS n ≡ false → n ≤ MAX_KEYS
few_at n e = grind (arith, nat_tests)

few_of : (t : ServerState) (keys : ℕ) → first_cause (too_many t) ≡ None → keys ≡ keys_in t.settings → keys ≤ MAX_KEYS
few_of t keys none is = let le = few_at (keys_in t.settings) (few_by (ltb MAX_CHANNELS (length t.channels)) (ltb MAX_KEYS (keys_in t.settings)) none) in omega (arith, le, is)

-- ---- a draft of new posts, and what comes of it

pub plan_of : (s : ServerState) (random_id : ℤ) (posts : List Post) (keys : ℕ) (d : Draft) → IsSound s → map.get s.receipts random_id ≡ None → first_cause (bad_entries (entries_of posts)) ≡ None → CountsKeys s posts (Ok keys) → Drafts s posts (Ok d) → IsPlan s random_id posts keys d
plan_of s random_id posts keys d sound fresh bad counts h = record {
  ready = record {
    fits = h.0;
    count = counts.1 ∙ ap (λ (t : ServerState). keys_in t.settings) (sym h.1);
    few = few_of (applied_all s (entries_of posts)) keys counts.0 counts.1;
    fresh = fresh;
    sound = draft_sound s random_id posts d sound bad counts.0 h;
  };
  cause = cause_full s posts None bad counts.0 h.3;
  applies = h.1;
  updates = h.2;
}

pub taken_by : (s t : ServerState) (random_id : ℤ) (posts : List Post) (keys : ℕ) (d : Draft) (p : Posted) → IsPlan s random_id posts keys d → Takes s random_id d (Ok p) t → Receives s random_id posts (Ok p) t
taken_by s t random_id posts keys d p plan takes = receives_new s t random_id posts d p plan.ready.fresh plan.cause plan.applies plan.updates takes.0 takes.1

pub unkept_by : (s t : ServerState) (random_id : ℤ) (posts : List Post) (keys : ℕ) (d : Draft) (r : Result Posted PostFault) → IsPlan s random_id posts keys d → TakesUnkept s random_id d r t → Receives s random_id posts r t
unkept_by s t random_id posts keys d (Ok p) plan takes = taken_by s t random_id posts keys d p plan takes
unkept_by s t random_id posts keys d (Err f) plan takes = receives_nothing s t random_id posts f takes.0 takes.1

-- the same, of the ids that the code has
pub unkept_at : (s t : ServerState) (id k m : ℤ) (posts : List Post) (keys : ℕ) (d : Draft) (r : Result Posted PostFault) → k ≡ id → m ≡ id → IsPlan s k posts keys d → TakesUnkept s m d r t → Receives s id posts r t
unkept_at s t id k m posts keys d r one other plan takes =
    unkept_by s t id posts keys d r (subst (λ (z : ℤ). IsPlan s z posts keys d) one plan) (subst (λ (z : ℤ). TakesUnkept s z d r t) other takes)

pub box_end : (b : BoxView) → b.first ≡ 0 → end_of b ≡ ending b.events
box_end b first = ap (λ (n : ℕ). n + ending b.events) first ∙ omega arith
