-- A server that went through a history keeps within its limits.
use Rattle.std.proofs.Common.{◌≡◌, ℕ, zero, suc, ◌≤◌, ℤ, List, [], ◌∷◌, ◌++◌, length, Bool, true, false, ◌||◌, if◌then◌else◌, ltb, Option, Some, None, refl, arith}
use Rattle.std.specs.List.{list_any}
use Rattle.std.specs.Ordering.{int_eq}
use Rattle.std.specs.FinMap as map
use Rattle.std.proofs.lemmas.Bool.Decides.{nat_tests}
use Rattle.box_events.specs.declared.limits.TheConstants.{MAX_IDS, MAX_BODY_BYTES, RUN_BYTES}
use Rattle.box_events.specs.declared.positions.Receipt.{Receipt}
use Rattle.box_events.specs.declared.requests.Post.{Post}
use Rattle.box_events.specs.Events.{EventView, added, edited, deleted, read, count_of, body_of}
use Rattle.box_server.specs.declared.fault.PostFault.{PostFault}
use Rattle.box_server.specs.Servers.{ServerState, channel_in}
use Rattle.box_server.specs.Entries.{Entry, to_common, to_secret, to_channel, to_settings, entries_of, bytes_of, is_event}
use Rattle.box_server.specs.Posting.{applied, applied_all, posted}
use Rattle.box_server.specs.Refusing.{first_cause, bad_entries, too_many, box_full, post_cause}
use Rattle.box_server.specs.Growing.{channel_events}
use Rattle.box_events.specs.SettingLists.{or_else}
use Rattle.box_world.specs.Agreeing.{Each}
use Rattle.box_world.specs.Streams.{Doing, posts, dates, Past, posted_by, done, done_all, first_past, past_of}
use Rattle.box_world.specs.Recovering.{FramesAreBounded}
use Rattle.box_world.proofs.ChannelReplying.{end_is}
use Rattle.box_world.proofs.GoingOn.{each_last}
use Rattle.box_server.proofs.Soundness.{no_cause}
use Rattle.box_world.proofs.Posting.{none_either, none_else}
use Rattle.box_world.proofs.Ranges.{IsWithin, within_posted}
use Rattle.box_world.proofs.Recovering.{Known, AreSmall, frames_bounded}
use Rattle.box_world.proofs.Replying.{Carries}
use Rattle.box_world.proofs.Streams.{ordered}

-- ---- within the limit

within_by : (p : Past) (random_id : ℤ) (ps : List Post) (r : Option Receipt) (cause : Option PostFault) → post_cause p.server ps ≡ cause → IsWithin p.server → IsWithin (posted_by p random_id ps r cause).server
within_by p random_id ps (Some r) cause e h = h
within_by p random_id ps None (Some cause) e h = h
within_by p random_id ps None None e h = within_posted p.server random_id ps e h

within_done : (p : Past) (x : Doing) → IsWithin p.server → IsWithin (done p x).server
within_done p (posts random_id ps) h = within_by p random_id ps (map.get p.server.receipts random_id) (post_cause p.server ps) refl h
within_done p (dates date) h = record { common = h.common; secret = h.secret; settings = h.settings; channels = h.channels }

within_all : (p : Past) (h : List Doing) (m : ℕ) → IsWithin p.server → IsWithin (done_all p h m).server
within_all p h zero w = w
within_all p [] (suc m) w = w
within_all p (x ∷ h) (suc m) w = within_all (done p x) h m (within_done p x w)

within_first : IsWithin first_past.server
within_first = record { common = omega arith; secret = omega arith; settings = omega arith; channels = λ id. omega arith }

known : (h : List Doing) (m : ℕ) → Known (past_of h m).server (past_of h m).boxes
known h m =
    let p : Past = past_of h m in
    let k = ordered h m in
    let w = within_all first_past h m within_first in
    record { ledger = k; common = w.common; secret = w.secret; settings = w.settings; channels = λ id. omega (arith, w.channels id, end_is (p.boxes id) (channel_in p.server.channels id) (k.kept id)) }

-- ---- small events

abbrev Small : EventView → Type 0
Small e = bytes_of e ≤ RUN_BYTES

small_event : (e : EventView) → ltb MAX_IDS (count_of e) ≡ false → ltb MAX_BODY_BYTES (length (body_of e)) ≡ false → Small e
small_event (added body) few short = grind (arith, nat_tests)
small_event (edited body) few short = grind (arith, nat_tests)
small_event (deleted ids) few short = grind (arith, nat_tests)
small_event (read id) few short = omega arith

abbrev Few : List Entry → Type 0
Few xs = list_any (is_event (λ e. ltb MAX_IDS (count_of e))) xs ≡ false

abbrev Short : List Entry → Type 0
Short xs = list_any (is_event (λ e. ltb MAX_BODY_BYTES (length (body_of e)))) xs ≡ false

record Fit (xs : List Entry) : Type 0 where
  pub few : Few xs
  pub short : Short xs

fit_taken : (s : ServerState) (ps : List Post) → post_cause s ps ≡ None → Fit (entries_of ps)
unfolding post_cause
fit_taken s ps none =
    let xs : List Entry = entries_of ps in
    let bad : first_cause (bad_entries xs) ≡ None = (none_else (first_cause (bad_entries xs)) (or_else (first_cause (too_many (applied_all s xs))) (box_full s xs)) none).0 in
    let causes = no_cause (bad_entries xs) bad in
    record { few = causes.1.1.1.0; short = causes.1.1.1.1.0 }

record AreFit (e : EventView) (xs : List Entry) : Type 0 where
  pub small : Small e
  pub rest : Fit xs

event_fits : (e : EventView) (xs : List Entry) → (ltb MAX_IDS (count_of e) || list_any (is_event (λ f. ltb MAX_IDS (count_of f))) xs) ≡ false → (ltb MAX_BODY_BYTES (length (body_of e)) || list_any (is_event (λ f. ltb MAX_BODY_BYTES (length (body_of f)))) xs) ≡ false → AreFit e xs
event_fits e xs few short =
    let f = none_either (ltb MAX_IDS (count_of e)) (list_any (is_event (λ g. ltb MAX_IDS (count_of g))) xs) few in
    let b = none_either (ltb MAX_BODY_BYTES (length (body_of e))) (list_any (is_event (λ g. ltb MAX_BODY_BYTES (length (body_of g)))) xs) short in
    record { small = small_event e f.0 b.0; rest = record { few = f.1; short = b.1 } }

record Boxed (s : ServerState) : Type 0 where
  pub common : Each Small s.common
  pub secret : Each Small s.secret

boxed_all : (s : ServerState) (xs : List Entry) → Fit xs → Boxed s → Boxed (applied_all s xs)
boxed_all s [] f h = h
boxed_all s (to_common e ∷ xs) f h = let a = event_fits e xs f.few f.short in boxed_all (applied s (to_common e)) xs a.rest (record { common = each_last Small s.common e h.common a.small; secret = h.secret })
boxed_all s (to_secret body ∷ xs) f h = let a = event_fits (added body) xs f.few f.short in boxed_all (applied s (to_secret body)) xs a.rest (record { common = h.common; secret = each_last Small s.secret (added body) h.secret a.small })
boxed_all s (to_channel id e ∷ xs) f h = let a = event_fits e xs f.few f.short in boxed_all (applied s (to_channel id e)) xs a.rest (record { common = h.common; secret = h.secret })
boxed_all s (to_settings x ∷ xs) f h = boxed_all (applied s (to_settings x)) xs (record { few = f.few; short = f.short }) (record { common = h.common; secret = h.secret })

small_if : (b : Bool) (e : EventView) (es : List EventView) → Small e → Each Small es → Each Small (if b then e ∷ es else es)
small_if true e es s h = (s, h)
small_if false e es s h = h

small_channel : (id : ℤ) (xs : List Entry) → Fit xs → Each Small (channel_events id xs)
small_channel id [] f = tt
small_channel id (to_common e ∷ xs) f = small_channel id xs (event_fits e xs f.few f.short).rest
small_channel id (to_secret body ∷ xs) f = small_channel id xs (event_fits (added body) xs f.few f.short).rest
small_channel id (to_channel k e ∷ xs) f = let a = event_fits e xs f.few f.short in small_if (int_eq k id) e (channel_events id xs) a.small (small_channel id xs a.rest)
small_channel id (to_settings x ∷ xs) f = small_channel id xs (record { few = f.few; short = f.short })

each_both : (xs ys : List EventView) → Each Small xs → Each Small ys → Each Small (xs ++ ys)
each_both [] ys h g = g
each_both (x ∷ xs) ys h g = (h.0, each_both xs ys h.1 g)

boxed_posted : (s : ServerState) (random_id : ℤ) (ps : List Post) → post_cause s ps ≡ None → Boxed s → Boxed (posted s random_id ps)
unfolding posted
boxed_posted s random_id ps none h = let b = boxed_all s (entries_of ps) (fit_taken s ps none) h in record { common = b.common; secret = b.secret }

small_by : (p : Past) (random_id : ℤ) (ps : List Post) (r : Option Receipt) (cause : Option PostFault) → post_cause p.server ps ≡ cause → AreSmall p.server p.boxes → AreSmall (posted_by p random_id ps r cause).server (posted_by p random_id ps r cause).boxes
small_by p random_id ps (Some r) cause e h = h
small_by p random_id ps None (Some cause) e h = h
small_by p random_id ps None None e h =
    let b = boxed_posted p.server random_id ps e (record { common = h.common; secret = h.secret }) in
    record { common = b.common; secret = b.secret; channels = λ id. each_both (p.boxes id) (channel_events id (entries_of ps)) (h.channels id) (small_channel id (entries_of ps) (fit_taken p.server ps e)) }

small_done : (p : Past) (x : Doing) → AreSmall p.server p.boxes → AreSmall (done p x).server (done p x).boxes
small_done p (posts random_id ps) h = small_by p random_id ps (map.get p.server.receipts random_id) (post_cause p.server ps) refl h
small_done p (dates date) h = record { common = h.common; secret = h.secret; channels = h.channels }

small_all : (p : Past) (h : List Doing) (m : ℕ) → AreSmall p.server p.boxes → AreSmall (done_all p h m).server (done_all p h m).boxes
small_all p h zero w = w
small_all p [] (suc m) w = w
small_all p (x ∷ h) (suc m) w = small_all (done p x) h m (small_done p x w)

pub frames_are_bounded : Carries → FramesAreBounded
frames_are_bounded carries h m c fs a free each =
    frames_bounded carries (past_of h m) c fs (known h m) (small_all first_past h m (record { common = tt; secret = tt; channels = λ id. tt })) a free each
