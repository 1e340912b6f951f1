-- Packets have numbers that the calls of a client take.
use Rattle.std.proofs.Common.{◌≡◌, inl, inr, ℕ, zero, suc, ◌+◌, ◌-◌, ◌<◌, ◌≤◌, ◌^◌, ℤ, pos, List, [], ◌∷◌, ◌++◌, length, take, drop, map as each, Bool, true, false, ◌&&◌, if◌then◌else◌, eqb, leb, ltb, Option, Some, None, refl, sym, ap, ap₂, ◌∙◌, subst, arith}
use Rattle.std.specs.Prelude.{slice_get}
use Rattle.std.specs.Ordering.{int_eq}
use Rattle.std.specs.FinMap as map
use Rattle.std.proofs.lemmas.Bool.Decides.{nat_tests}
use Rattle.std.proofs.lemmas.List.{length-append, length-map, take-append-drop}
use Rattle.std.proofs.lemmas.Option.{none-some}
use Rattle.box_events.specs.declared.limits.TheConstants.{MAX_END, RUN_EVENTS, RUN_BYTES}
use Rattle.box_events.specs.declared.positions.Receipt.{Receipt}
use Rattle.box_events.specs.declared.requests.Post.{Post}
use Rattle.box_events.specs.declared.requests.Request.{Request}
use Rattle.box_events.specs.declared.requests.Request.TheVariants.{State, Difference, Channel, Post as PostRequest}
use Rattle.box_events.specs.declared.settings.Setting.{Setting}
use Rattle.box_events.specs.declared.steps.Step.{Step}
use Rattle.box_events.specs.declared.steps.Step.TheVariants as step
use Rattle.box_events.specs.Events.{EventView, added, count_of, is_new}
use Rattle.box_events.specs.Boxes.{ending, AreCounted, IsBoundary}
use Rattle.box_events.proofs.Boundaries.{ending-append}
use Rattle.box_events.specs.Weaving.{bodies, others_from}
use Rattle.box_events.specs.Refusal.{AreOthers}
use Rattle.box_events.specs.DifferenceLaws.{AreCountedOthers}
use Rattle.box_server.specs.declared.fault.PostFault.{PostFault}
use Rattle.box_server.specs.declared.fault.PostFault.TheVariants.{BoxFull}
use Rattle.box_server.specs.Servers.{ChannelBox, ServerState, channel_end, channel_in, lane_end}
use Rattle.box_server.specs.Entries.{Entry, to_common, to_secret, to_channel, to_settings, entries_of, lane_of, raise_of, bytes_of}
use Rattle.box_server.specs.Posting.{applied, applied_all, cut, excess, posted, push_of, updates_of, settings_of, first_number, last_number, dated_with}
use Rattle.box_server.specs.Refusing.{box_full, post_cause}
use Rattle.box_server.specs.Runs.{limited, run_of}
use Rattle.box_server.specs.Answers.{is_whole, is_far, carried, last_by, difference_by, difference_of, channel_part, channel_by, channel_difference, answer}
use Rattle.box_server.specs.LastEntries.{changed_since}
use Rattle.box_server.proofs.Growths.{same_id, with_more, channel_with, channel_cut, settings_posted}
use Rattle.box_client.specs.States.{ClientState}
use Rattle.box_client.specs.Pushes.{settings_in}
use Rattle.box_client.specs.Ranges.{AreUpdatesInRange, IsSeqInRange, IsPushInRange, IsReplyInRange}
use Rattle.box_client.specs.Asking.{ticks}
use Rattle.box_world.specs.Worlds.{Packet, push, request, reply, World, client_steps, post_by, served, channel_too_long, heard, asks, happens, run_from, start}
use Rattle.box_world.specs.Agreeing.{Boxes}
use Rattle.box_world.specs.Growing.{IsKept, IsLedger}
use Rattle.box_world.specs.Requesting.{GroupFits, RequestFits}
use Rattle.box_world.specs.Reached.{IsGood, boxes_of}
use Rattle.box_world.specs.Laws.{IsPacketInRange, PacketsAreInRange}
use Rattle.box_world.proofs.Answering.{RunAt, run_at, run_after, counted_left}
use Rattle.box_world.proofs.ChannelReplying.{counted_right, kept_boundary, from_first}
use Rattle.box_world.proofs.Lists.{of_both, of_map}
use Rattle.box_world.proofs.Posting.{none_if, room_taken, carried_settings}
use Rattle.box_world.proofs.Replying.{Carries}
use Rattle.box_world.proofs.Stepping.{advances, good_start, only}
use Rattle.box_world.proofs.Worlds.{good_advances}

-- ---- servers within the limit

pub record IsWithin (s : ServerState) : Type 0 where
  pub common : ending s.common ≤ MAX_END
  pub secret : ending s.secret ≤ MAX_END
  pub settings : length s.settings ≤ MAX_END
  pub channels : (id : ℤ) → channel_end (channel_in s.channels id) ≤ MAX_END

not_above : (n : ℕ) → ltb MAX_END n ≡ false → n ≤ MAX_END
not_above n e = grind (arith, nat_tests)

within_by : (s : ServerState) (id j : ℤ) (e : EventView) (b : Bool) → int_eq id j ≡ b → channel_end (channel_in s.channels id) + count_of e ≤ MAX_END → channel_end (channel_in s.channels j) ≤ MAX_END
    → channel_end (with_more (channel_in s.channels j) (if b then e ∷ [] else [])) ≤ MAX_END
within_by s id j e true is le h =
    let here : channel_end (channel_in s.channels j) + count_of e ≤ MAX_END = subst (λ (i : ℤ). channel_end (channel_in s.channels i) + count_of e ≤ MAX_END) (same_id id j is) le in
    omega (arith, here, ending-append (channel_in s.channels j).events (e ∷ []))
within_by s id j e false is le h = omega (arith, h, ending-append (channel_in s.channels j).events [])

within_applied : (s : ServerState) (x : Entry) → lane_end s (lane_of x) + raise_of x ≤ MAX_END → IsWithin s → IsWithin (applied s x)
within_applied s (to_common e) le h = record { common = omega (arith, le, ending-append s.common (e ∷ [])); secret = h.secret; settings = h.settings; channels = h.channels }
within_applied s (to_secret body) le h = record { common = h.common; secret = omega (arith, le, ending-append s.secret (added body ∷ [])); settings = h.settings; channels = h.channels }
within_applied s (to_channel id e) le h = record {
  common = h.common;
  secret = h.secret;
  settings = h.settings;
  channels = λ j. subst (λ (c : ChannelBox). channel_end c ≤ MAX_END) (sym (channel_with s.channels id j e)) (within_by s id j e (int_eq id j) refl le (h.channels j));
}
within_applied s (to_settings x) le h = record { common = h.common; secret = h.secret; settings = omega (arith, le, length-append s.settings (dated_with s.date x ∷ [])); channels = h.channels }

within_all : (s : ServerState) (xs : List Entry) → box_full s xs ≡ None → IsWithin s → IsWithin (applied_all s xs)
within_all s [] full h = h
within_all s (x ∷ xs) full h =
    let room = none_if (ltb MAX_END (lane_end s (lane_of x) + raise_of x)) (BoxFull (lane_of x) (lane_end s (lane_of x))) (box_full (applied s x) xs) full in
    within_all (applied s x) xs room.1 (within_applied s x (not_above (lane_end s (lane_of x) + raise_of x) room.0) h)

cut_end : (c : ChannelBox) → channel_end (cut c) ≡ channel_end c
cut_end c = omega (arith, ending-append (take (excess c) c.events) (drop (excess c) c.events), ap ending (take-append-drop (excess c) c.events))

pub within_posted : (s : ServerState) (random_id : ℤ) (ps : List Post) → post_cause s ps ≡ None → IsWithin s → IsWithin (posted s random_id ps)
unfolding posted
within_posted s random_id ps none h =
    let t : ServerState = applied_all s (entries_of ps) in
    let w = within_all s (entries_of ps) (room_taken s ps none) h in
    record {
      common = w.common;
      secret = w.secret;
      settings = w.settings;
      channels = λ id. omega (arith, w.channels id, ap channel_end (channel_cut t.channels id), cut_end (channel_in t.channels id));
    }

-- ---- pushes

updates_in_range : (s : ServerState) (xs : List Entry) → box_full s xs ≡ None → AreUpdatesInRange (updates_of s xs)
updates_in_range s [] full = tt
updates_in_range s (to_common e ∷ xs) full =
    let room = none_if _ _ (box_full (applied s (to_common e)) xs) full in
    ((omega arith, not_above (ending s.common + count_of e) room.0), updates_in_range (applied s (to_common e)) xs room.1)
updates_in_range s (to_secret body ∷ xs) full =
    let room = none_if _ _ (box_full (applied s (to_secret body)) xs) full in
    ((omega arith, not_above (ending s.secret + 1) room.0), updates_in_range (applied s (to_secret body)) xs room.1)
updates_in_range s (to_channel id e ∷ xs) full =
    let room = none_if _ _ (box_full (applied s (to_channel id e)) xs) full in
    ((omega arith, not_above (channel_end (channel_in s.channels id) + count_of e) room.0), updates_in_range (applied s (to_channel id e)) xs room.1)
updates_in_range s (to_settings x ∷ xs) full =
    let room = none_if _ _ (box_full (applied s (to_settings x)) xs) full in
    (tt, updates_in_range (applied s (to_settings x)) xs room.1)

seq_by : (seq count : ℕ) (xs : List Setting) → count ≡ length xs → seq + length xs ≤ MAX_END → 0 < last_number seq xs → IsSeqInRange (first_number seq xs) (last_number seq xs) count
seq_by seq count [] is le lt = absurd (omega (arith, lt))
seq_by seq count (x ∷ xs) is le lt = record { low = omega arith; order = omega arith; limit = omega (arith, le); number = omega (arith, is) }

push_in_range : (s : ServerState) (random_id : ℤ) (ps : List Post) → post_cause s ps ≡ None → IsWithin s → IsPushInRange (push_of s ps)
unfolding push_of
push_in_range s random_id ps none h =
    let xs : List Entry = entries_of ps in
    let more : List Setting = settings_of xs in
    let all : length s.settings + length more ≤ MAX_END =
    omega (arith, (within_posted s random_id ps none h).settings, ap length (settings_posted s random_id ps), length-append s.settings (each (dated_with s.date) more), length-map more (dated_with s.date)) in
    (updates_in_range s xs (room_taken s ps none), seq_by (length s.settings) (length (settings_in (updates_of s xs))) more (ap length (carried_settings s xs)) all)

-- ---- replies

few_by : {A : Type 0} (n : ℕ) (x : A) (xs : List A) (b : Bool) → length xs ≤ n → length (if b then x ∷ xs else []) ≤ suc n
few_by n x xs true le = omega (arith, le)
few_by n x xs false le = omega arith

limited_few : {A : Type 0} (size : A → ℕ) (n b : ℕ) (xs : List A) → length (limited size n b xs) ≤ n
unfolding limited
limited_few size zero b xs = omega arith
limited_few size (suc n) b [] = omega arith
limited_few size (suc n) b (x ∷ xs) = few_by n x (limited size n (b - size x) xs) (leb (size x) b) (limited_few size n (b - size x) xs)

body_by : (b : Bool) (x : List ℕ) (xs : List (List ℕ)) (n : ℕ) → length xs ≤ n → length (if b then x ∷ xs else xs) ≤ suc n
body_by true x xs n le = omega (arith, le)
body_by false x xs n le = omega (arith, le)

few_bodies : (es : List EventView) → length (bodies es) ≤ length es
few_bodies [] = omega arith
few_bodies (e ∷ es) = body_by (is_new e) _ (bodies es) (length es) (few_bodies es)

few_news : (es : List EventView) → length (bodies (run_of es)) < 2 ^ 31
few_news es = omega (arith, few_bodies (run_of es), limited_few bytes_of RUN_EVENTS RUN_BYTES es)

others_by : (b : Bool) (e : EventView) (p : ℕ) (os : List _) → is_new e ≡ b → AreOthers os → AreOthers (if b then os else record { event = e; pts = p } ∷ os)
others_by true e p os is h = h
others_by false e p os is h = (is, h)

are_others : (p : ℕ) (es : List EventView) → AreOthers (others_from p es)
are_others p [] = tt
are_others p (e ∷ es) = others_by (is_new e) e (p + count_of e) (others_from (p + count_of e) es) refl (are_others (p + count_of e) es)

counted_by : (b : Bool) (e : EventView) (p : ℕ) (os : List _) → 1 ≤ count_of e → AreCountedOthers os → AreCountedOthers (if b then os else record { event = e; pts = p } ∷ os)
counted_by true e p os le h = h
counted_by false e p os le h = (le, h)

are_counted : (p : ℕ) (es : List EventView) → AreCounted es → AreCountedOthers (others_from p es)
are_counted p [] c = tt
are_counted p (e ∷ es) c = counted_by (is_new e) e (p + count_of e) (others_from (p + count_of e) es) c.0 (are_counted (p + count_of e) es c.1)

-- the run of a box counts, and ends within it
run_counts : (box : List EventView) (p : ℕ) (es : List EventView) → AreCounted box → RunAt box p es → AreCounted (run_of es)
run_counts box p es c r = counted_left (run_of es) r.rest (subst AreCounted r.run (counted_right r.prefix es (subst AreCounted r.whole c)))

run_ends : (box : List EventView) (p : ℕ) (es : List EventView) → RunAt box p es → p + ending (run_of es) ≤ ending box
run_ends box p es r = omega (arith, r.stop, ap ending r.whole, ending-append r.prefix es, ap ending r.run, ending-append (run_of es) r.rest)

last_in_range : (m : ServerState) (p : ℕ) (es fs : List EventView) (ss : List Setting) (b : Bool) → IsWithin m → AreCounted (run_of es) → IsReplyInRange (last_by b m p (run_of es) (run_of fs) ss)
last_in_range m p es fs ss true h c = tt
last_in_range m p es fs ss false h c = (h.common, h.secret, few_news es, few_news fs, are_others p (run_of es), are_counted p (run_of es) c)

carried_in_range : (m : ServerState) (p q date : ℕ) (es fs : List EventView) (b : Bool) → IsWithin m → AreCounted m.common → RunAt m.common p es → RunAt m.secret q fs → IsReplyInRange (carried b m p q date (run_of es) (run_of fs))
carried_in_range m p q date es fs true h c x y =
    last_in_range m p es fs (changed_since m.settings date) (eqb (length (run_of es)) 0 && eqb (length (run_of fs)) 0 && eqb (length (changed_since m.settings date)) 0) h (run_counts m.common p es c x)
carried_in_range m p q date es fs false h c x y = (
  omega (arith, h.common, run_ends m.common p es x),
  omega (arith, h.secret, run_ends m.secret q fs y),
  few_news es,
  few_news fs,
  are_others p (run_of es),
  are_counted p (run_of es) (run_counts m.common p es c x),
)

group_in_range : (m : ServerState) (p q date seq : ℕ) → IsWithin m → AreCounted m.common → AreCounted m.secret → GroupFits m p q seq → IsReplyInRange (difference_of m (pos p) (pos q) date)
group_in_range m p q date seq h c d f =
    let es : List EventView = f.common.rest in
    let fs : List EventView = f.secret.rest in
    subst IsReplyInRange (sym (ap₂ (λ (o r : Option (List EventView)). difference_by m p q date o r) (run_after m.common p c f.common) (run_after m.secret q d f.secret)))
    (carried_in_range m p q date es fs (is_whole es && is_whole fs) h c (run_at m.common p f.common) (run_at m.secret q f.secret))

-- ---- a channel's replies

part_in_range : (b : ChannelBox) (p : ℕ) (es : List EventView) → AreCounted b.events → channel_end b ≤ MAX_END → b.first ≤ p → RunAt b.events (p - b.first) es → IsReplyInRange (channel_part p (Some es))
part_in_range b p [] c le up r = omega (arith, le, up, run_ends b.events (p - b.first) [] r)
part_in_range b p (e ∷ es) c le up r = (
  omega (arith, le, up, run_ends b.events (p - b.first) (e ∷ es) r),
  few_news (e ∷ es),
  are_others p (run_of (e ∷ es)),
  are_counted p (run_of (e ∷ es)) (run_counts b.events (p - b.first) (e ∷ es) c r),
)

far_in_range : (whole : List EventView) (b : ChannelBox) (p : ℕ) (past far : Bool) → is_far b p ≡ far → AreCounted whole → IsKept whole b → channel_end b ≤ MAX_END → IsBoundary whole p → IsReplyInRange (channel_by past far b p)
far_in_range whole b p true far e c k le h = tt
far_in_range whole b p false true e c k le h = le
far_in_range whole b p false false e c k le h =
    let up = from_first p b.first (ltb 1000 (channel_end b - p)) e in
    let counted = counted_right k.gone b.events (subst AreCounted k.parts c) in
    let here = kept_boundary whole b p c k h up in
    subst (λ (o : Option (List EventView)). IsReplyInRange (channel_part p o)) (sym (run_after b.events (p - b.first) counted here)) (part_in_range b p here.rest counted le up (run_at b.events (p - b.first) here))

reply_in_range : (m : ServerState) (whole : Boxes) (r : Request) (seq : ℕ) → IsWithin m → IsLedger m whole → RequestFits m whole r seq → IsReplyInRange (answer m r)
unfolding answer
reply_in_range m whole State seq h k f = absurd f
reply_in_range m whole (Difference pts qts date) seq h k (p, q, x, y, f) =
    subst (λ (z : ℤ). IsReplyInRange (difference_of m z qts date)) (sym x) (subst (λ (z : ℤ). IsReplyInRange (difference_of m (pos p) z date)) (sym y) (group_in_range m p q date seq h k.common k.secret f))
reply_in_range m whole (Channel id pts) seq h k (p, x, f) =
    subst (λ (z : ℤ). IsReplyInRange (channel_difference (channel_in m.channels id) z)) (sym x)
    (far_in_range (whole id) (channel_in m.channels id) p (ltb (channel_end (channel_in m.channels id)) p) (is_far (channel_in m.channels id) p) refl (k.channels id) (k.kept id) (h.channels id) f)
reply_in_range m whole (PostRequest random_id posts) seq h k f = absurd f

-- ---- steps

record IsRanged (w : World) : Type 0 where
  pub within : IsWithin w.server
  pub pool : (m : ℕ) (p : Packet) → slice_get w.pool m ≡ Some p → IsPacketInRange p

one_more : (w v : World) (m : Packet) → v.pool ≡ w.pool ++ m ∷ [] → IsWithin v.server → IsPacketInRange m → IsRanged w → IsRanged v
one_more w v m e h new r = record {
  within = h;
  pool = λ i p at. elim (of_both w.pool (m ∷ []) i p (ap (λ (l : List Packet). slice_get l i) (sym e) ∙ at)) [
    | inl old ↦ r.pool i p old
    | inr q ↦ only IsPacketInRange m p q.0 q.1 new
  ];
}

ranged_post : (w : World) (random_id : ℤ) (ps : List Post) (r : Option Receipt) (cause : Option PostFault) → post_cause w.server ps ≡ cause → IsRanged w → IsRanged (post_by w random_id ps r cause)
ranged_post w random_id ps (Some r) cause e h = h
ranged_post w random_id ps None (Some cause) e h = h
ranged_post w random_id ps None None e h =
    one_more w (post_by w random_id ps None None) (push (push_of w.server ps)) refl (within_posted w.server random_id ps e h.within) (push_in_range w.server random_id ps e h.within) h

ranged_served : (w : World) (m : ℕ) (o : Option Packet) → slice_get w.pool m ≡ o → IsGood w → IsRanged w → IsRanged (served w o)
ranged_served w m None is g h = h
ranged_served w m (Some (push p)) is g h = h
ranged_served w m (Some (reply k n r s)) is g h = h
ranged_served w m (Some (request k n)) is g h =
    let was = g.pool m (request k n) is in
    one_more w (served w (Some (request k n))) (reply k n.number (answer w.server n.request) w.server) refl h.within (reply_in_range w.server (boxes_of w) n.request was.seq h.within g.ledger was.fits) h

ranged_heard : (w : World) (k : ℕ) (o : Option ClientState) (p : Option Packet) → IsRanged w → IsRanged (heard w k o p)
ranged_heard w k None p h = h
ranged_heard w k (Some c) None h = h
ranged_heard w k (Some c) (Some p) h = record { within = h.within; pool = h.pool }

ranged_steps : (w : World) (k : ℕ) (f : ClientState → ClientState) (o : Option ClientState) → IsRanged w → IsRanged (client_steps w k f o)
ranged_steps w k f None h = h
ranged_steps w k f (Some c) h = record { within = h.within; pool = h.pool }

ranged_asks : (w : World) (k : ℕ) (o : Option ClientState) → IsRanged w → IsRanged (asks w k o)
ranged_asks w k None h = h
ranged_asks w k (Some c) h = record {
  within = h.within;
  pool = λ i p at. elim (of_both w.pool (each (request k) (ticks c).asks) i p at) [
    | inl old ↦ h.pool i p old
    | inr q ↦ (let found = of_map (request k) (ticks c).asks q.0 p q.1 in subst IsPacketInRange (sym found.2) tt)
  ];
}

ranged_happens : (w : World) (s : Step) → IsGood w → IsRanged w → IsRanged (happens w s)
ranged_happens w (step.Post random_id ps) g h = ranged_post w random_id ps (map.get w.server.receipts random_id) (post_cause w.server ps) refl h
ranged_happens w (step.Date date) g h = record { within = record { common = h.within.common; secret = h.within.secret; settings = h.within.settings; channels = h.within.channels }; pool = h.pool }
ranged_happens w (step.Serve m) g h = ranged_served w m (slice_get w.pool m) refl g h
ranged_happens w (step.Hear k m) g h = ranged_heard w k (slice_get w.clients k) (slice_get w.pool m) h
ranged_happens w (step.Tick k) g h = ranged_asks w k (slice_get w.clients k) h
ranged_happens w (step.Wake k) g h = ranged_steps w k _ (slice_get w.clients k) h
ranged_happens w (step.Watch k id) g h = ranged_steps w k _ (slice_get w.clients k) h
ranged_happens w (step.Restart k) g h = ranged_steps w k _ (slice_get w.clients k) h
ranged_happens w step.TooLong g h = one_more w (happens w step.TooLong) (push _) refl h.within tt h
ranged_happens w (step.ChannelTooLong id) g h = one_more w (happens w (step.ChannelTooLong id)) (push (channel_too_long w.server id)) refl h.within ((tt, tt), λ lt. absurd (omega (arith, lt))) h

ranged_from : (carries : Carries) (w : World) (ss : List Step) → IsGood w → IsRanged w → IsRanged (run_from w ss)
ranged_from carries w [] g h = h
ranged_from carries w (s ∷ ss) g h = ranged_from carries (happens w s) ss (good_advances w (happens w s) g (advances carries w s g)) (ranged_happens w s g h)

ranged_start : (n : ℕ) → IsRanged (start n)
ranged_start n = record {
  within = record { common = omega arith; secret = omega arith; settings = omega arith; channels = λ id. omega arith };
  pool = λ m p is. absurd (none-some p is);
}

pub packets_in_range : Carries → PacketsAreInRange
packets_in_range carries n ss = (ranged_from carries (start n) ss (good_start n) (ranged_start n)).pool
