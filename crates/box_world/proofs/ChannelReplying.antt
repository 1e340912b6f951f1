-- What an honest answer does to the channel that asked for it.
use Rattle.std.proofs.Common.{◌≡◌, ℕ, ◌+◌, ◌-◌, ◌≤◌, ◌⊎◌, inl, inr, ℤ, pos, List, [], ◌∷◌, ◌++◌, Bool, true, false, cond, ◌||◌, Option, Some, Result, Ok, ltb, refl, sym, ap, ◌∙◌, subst, arith}
use Rattle.std.proofs.lemmas.Bool.Decides.{nat_tests}
use Rattle.std.specs.List.{sum_by}
use Rattle.std.proofs.lemmas.List.Sums.{sum_by-cons}
use Rattle.box_events.specs.Events.{EventView, count_of}
use Rattle.box_events.specs.Boxes.{ending, IsBoundary, Between, AreCounted}
use Rattle.box_events.specs.declared.limits.TheConstants.{MAX_BEHIND, MAX_END, RUN_BYTES}
use Rattle.box_events.proofs.Boundaries.{ending-append}
use Rattle.box_events.proofs.Stretches.{stretch_counts, stretch_inside}
use Rattle.box_server.specs.Entries.{bytes_of}
use Rattle.box_server.proofs.Carrying.{carries_first}
use Rattle.box_events.specs.declared.replies.Reply.{Reply}
use Rattle.box_events.specs.declared.replies.Reply.TheVariants.{Channel}
use Rattle.box_events.specs.declared.replies.ChannelReply.{ChannelReply}
use Rattle.box_events.specs.declared.replies.ChannelReply.TheVariants.{Empty as EmptyPart, Part, TooLong}
use Rattle.pts_machine.specs.declared.mode.Mode.{Mode}
use Rattle.pts_machine.specs.declared.mode.Mode.TheVariants.{Live, Asking, Again}
use Rattle.pts_machine.specs.States.{LaneState, IsSound, StartAfter}
use Rattle.pts_machine.proofs.Kept.{sound_extend, sound_restart}
use Rattle.pts_machine.specs.Steps.{extend, settle, restart_at}
use Rattle.pts_machine.proofs.Fitting.{fits_after, fits_extend, fits_reaches, fits_restart}
use Rattle.pts_machine.proofs.Moves.{restart_up}
use Rattle.box_events.specs.Weaving.{bodies, others_from}
use Rattle.box_events.specs.Weaves.{woven_of}
use Rattle.box_events.specs.declared.difference_fault.WeaveFault.{WeaveFault}
use Rattle.channel_box.specs.States.{ChannelState, first}
use Rattle.channel_box.specs.Steps.{at_first, asks_number, is_asking, grown, Answered, stale, refused, taken, taken_by, answered_by, answered}
use Rattle.channel_box.specs.Steps as channels
use Rattle.box_server.specs.Servers.{ChannelBox, ServerState, channel_end, channel_in}
use Rattle.box_server.specs.Runs.{events_after, limited, run_of, recent_of}
use Rattle.box_server.specs.Answers.{is_whole, is_far, channel_part, channel_by, channel_difference}
use Rattle.box_client.specs.States.{ClientState}
use Rattle.box_client.specs.Replies.{becomes, by_channels, channel_replied}
use Rattle.box_world.specs.WholeBoxes.{kept_of}
use Rattle.box_world.specs.Agreeing.{Reaches, is_last_part, Boxes, Each, ChannelAgrees, Agrees}
use Rattle.box_world.specs.Awaiting.{Asked, ChannelAsksBy}
use Rattle.box_world.specs.Growing.{HasMore, Continues, IsKept, IsLedger}
use Rattle.box_world.proofs.Answering.{each_right, whole_run, RunAt, run_at, run_after, run_lies, append_append, run_woven, none_woven}
use Rattle.box_world.proofs.Pushing.{few_at_first, Goes, each_at_first, recent_same}
use Rattle.box_world.proofs.Replying.{Told, takes, extend_live, extend_again, asks_never}

-- ---- a lane's restart and mode after an answer

settle_restart : (t : LaneState EventView) → (settle t).restart ≡ t.restart
unfolding settle
settle_restart t = refl

extend_restart : (t : LaneState EventView) (xs : List EventView) (last : Bool) → (extend count_of t xs last).restart ≡ t.restart
unfolding extend settle
extend_restart t xs true = refl
extend_restart t xs false = refl

restart_restart : (t : LaneState EventView) (p : ℕ) → (restart_at count_of t p).restart ≡ p
unfolding restart_at extend settle
restart_restart t p = refl

restart_live : (t : LaneState EventView) (p : ℕ) → (restart_at count_of t p).mode ≡ Live
unfolding restart_at extend settle
restart_live t p = refl

extend_free : (t : LaneState EventView) (xs : List EventView) (last : Bool) → ((extend count_of t xs last).mode ≡ Live) ⊎ ((extend count_of t xs last).mode ≡ Again)
extend_free t xs true = inl (extend_live t xs)
extend_free t xs false = inr (extend_again t xs)

-- ---- the channel takes the answer

-- the channel that an answer makes agrees with its box, and asks no more
pub record Taken (prefix box : List EventView) (d : ChannelState) (r : ChannelReply) : Type 0 where
  pub channel : ChannelState
  pub is : channels.replied d r ≡ Ok channel
  pub id : channel.id ≡ d.id
  pub agrees : ChannelAgrees box channel
  pub free : (channel.lane.mode ≡ Live) ⊎ (channel.lane.mode ≡ Again)
  pub reaches : is_last_part r ≡ true → ending prefix ≤ channel.lane.at
  pub flag : channel.flag ≡ d.flag
  pub stops : is_last_part r ≡ true → channel.lane.mode ≡ Live
  -- a part that isn't the last brings an event where none is larger than a part may be, and the channel wasn't far behind
  pub goes_on : is_last_part r ≡ false → (channel.lane.mode ≡ Again) × (ending prefix - d.lane.at ≤ MAX_BEHIND) × (Each (λ e. bytes_of e ≤ RUN_BYTES) prefix → d.lane.at + 1 ≤ channel.lane.at)
  pub ahead : IsSound count_of d.lane → ending box ≤ MAX_END → channel.lane.mode ≡ Live → StartAfter channel.lane.at channel.lane.held

-- what a part that isn't the last says
abbrev Parts : List EventView → ChannelState → ℕ → Bool → Type 0
Parts prefix d to last = last ≡ false → (ending prefix - d.lane.at ≤ MAX_BEHIND) × (Each (λ e. bytes_of e ≤ RUN_BYTES) prefix → d.lane.at + 1 ≤ to)

pub sum_is : (xs : List EventView) → sum_by count_of xs ≡ ending xs
sum_is [] = refl
sum_is (x ∷ xs) = omega (arith, sum_is xs, sum_by-cons count_of x xs)

grows : (prefix box : List EventView) (d : ChannelState) (to : ℕ) (news : List (List ℕ)) (others : List _) (xs : List EventView) (last : Bool) (r : ChannelReply)
    → AreCounted box → ChannelAgrees box d → Between box d.lane.at to xs → channels.replied d r ≡ grown d last (woven_of d.lane.at to news others) → woven_of d.lane.at to news others ≡ Ok xs → (is_last_part r ≡ true → ending prefix ≤ to) → is_last_part r ≡ last → Parts prefix d to last → Taken prefix box d r
grows prefix box d to news others xs last r k h b e w up same more = record {
  channel = record d { lane = extend count_of d.lane xs last };
  is = e ∙ ap (grown d last) w;
  id = refl;
  agrees = record {
    lane = fits_extend box d.lane to xs last k h.lane b;
    recent = recent_same box d (record d { lane = extend count_of d.lane xs last }) (extend_restart d.lane xs last) refl h.recent;
  };
  free = extend_free d.lane xs last;
  reaches = λ final. omega (arith, up final, fits_reaches box d.lane to xs last k h.lane b);
  flag = refl;
  stops = λ final. ap (λ (x : Bool). (extend count_of d.lane xs x).mode) (sym same ∙ final) ∙ extend_live d.lane xs;
  goes_on = λ part.
      let go : last ≡ false = sym same ∙ part in
      let m = more go in
      (ap (λ (x : Bool). (extend count_of d.lane xs x).mode) go ∙ extend_again d.lane xs, m.0, λ small. omega (arith, m.1 small, fits_reaches box d.lane to xs last k h.lane b));
  ahead = λ sound le. (sound_extend count_of d.lane xs last sound (omega (arith, le, stretch_counts box d.lane.at to xs b, sum_is xs, stretch_inside box d.lane.at to xs b))).ahead;
}

begins_anew : (prefix box : List EventView) (d : ChannelState) (end : ℕ) (recent : List (List ℕ)) → AreCounted box → HasMore prefix box → end ≡ ending prefix → recent ≡ recent_of (kept_of prefix)
    → ChannelAgrees box d → Taken prefix box d (TooLong end recent true)
begins_anew prefix box d end recent k m e c h = record {
  channel = record d { lane = restart_at count_of d.lane end; recent = recent };
  is = refl;
  id = refl;
  agrees = record {
    lane = fits_restart box d.lane end k h.lane (record { prefix = prefix; rest = m.0; whole = m.1; stop = sym e });
    recent = record { prefix = prefix; rest = m.0; whole = m.1; stop = sym e ∙ sym (restart_restart d.lane end); content = c };
  };
  free = inl (restart_live d.lane end);
  reaches = λ final. omega (arith, e, restart_up count_of d.lane end (fits_after box d.lane k h.lane));
  flag = refl;
  stops = λ final. restart_live d.lane end;
  goes_on = λ part. absurd cc;
  ahead = λ sound le. (sound_restart count_of d.lane end sound (omega (arith, le, e, ap ending m.1, ending-append prefix m.0))).ahead;
}

-- ---- the answer of an earlier server

pub not_past : (a b : ℕ) → a ≤ b → ltb b a ≡ false
not_past a b le = grind (arith, nat_tests)

from_by : (a b : ℕ) (x t : Bool) → ltb a b ≡ x → (x || t) ≡ false → b ≤ a
from_by a b true t is e = absurd cc
from_by a b false t is e = grind (arith, nat_tests)

-- what isn't far begins no earlier than the kept events
pub from_first : (a b : ℕ) (t : Bool) → (ltb a b || t) ≡ false → b ≤ a
from_first a b t e = from_by a b (ltb a b) t refl e

pub counted_right : (xs ys : List EventView) → AreCounted (xs ++ ys) → AreCounted ys
counted_right [] ys c = c
counted_right (x ∷ xs) ys c = counted_right xs ys c.1

-- and isn't further behind than it may be
near_by : (n : ℕ) (x t : Bool) → ltb MAX_BEHIND n ≡ t → (x || t) ≡ false → n ≤ MAX_BEHIND
near_by n true t is e = absurd cc
near_by n false true is e = absurd cc
near_by n false false is e = grind (arith, nat_tests)

near_end : (a b n : ℕ) → (ltb a b || ltb MAX_BEHIND n) ≡ false → n ≤ MAX_BEHIND
near_end a b n e = near_by n (ltb a b) (ltb MAX_BEHIND n) refl e

pub end_is : (whole : List EventView) (b : ChannelBox) → IsKept whole b → channel_end b ≡ ending whole
end_is whole b k = ap (λ (n : ℕ). n + ending b.events) k.first ∙ sym (ending-append k.gone b.events) ∙ sym (ap ending k.parts)

-- a boundary of the whole box that isn't before the kept events is one of these
cut_prefix : (gone kept prefix rest : List EventView) → gone ++ kept ≡ prefix ++ rest → AreCounted (gone ++ kept) → ending gone ≤ ending prefix → (mid : List EventView) × (kept ≡ mid ++ rest) × (ending gone + ending mid ≡ ending prefix)
cut_prefix [] kept prefix rest e c le = (prefix, e, omega arith)
cut_prefix (g ∷ gone) kept [] rest e c le = absurd (omega (arith, le, c.0))
cut_prefix (g ∷ gone) kept (f ∷ prefix) rest e c le =
    let head : g ≡ f = cc in
    let tail : gone ++ kept ≡ prefix ++ rest = cc in
    let m = cut_prefix gone kept prefix rest tail c.1 (omega (arith, le, ap count_of head)) in
    (m.0, m.1, omega (arith, m.2, ap count_of head))

pub kept_boundary : (whole : List EventView) (b : ChannelBox) (p : ℕ) → AreCounted whole → IsKept whole b → IsBoundary whole p → b.first ≤ p → IsBoundary b.events (p - b.first)
kept_boundary whole b p c k h le =
    let m = cut_prefix k.gone b.events h.prefix h.rest (sym k.parts ∙ h.whole) (subst AreCounted k.parts c) (omega (arith, le, k.first, h.stop)) in
    record { prefix = m.0; rest = h.rest; whole = m.1; stop = omega (arith, m.2, k.first, h.stop) }

-- the run from p lies in the whole box, after the events that are gone
kept_lies : (whole box : List EventView) (b : ChannelBox) (p : ℕ) (es : List EventView) → HasMore whole box → IsKept whole b → b.first ≤ p → RunAt b.events (p - b.first) es → Between box p (p + ending (run_of es)) (run_of es)
kept_lies whole box b p es m k le r =
    run_lies whole box p es m (record {
      prefix = k.gone ++ r.prefix;
      whole = k.parts ∙ ap (λ (l : List EventView). k.gone ++ l) r.whole ∙ sym (append_append k.gone r.prefix es);
      stop = omega (arith, ending-append k.gone r.prefix, r.stop, k.first, le);
      rest = r.rest;
      run = r.run;
    })

-- ---- what comes of the answer

plus_none : (n : ℕ) → n + ending [] ≡ n
plus_none n = omega arith

nothing_lies : (whole box : List EventView) (b : ChannelBox) (d : ChannelState) → HasMore whole box → IsKept whole b → b.first ≤ d.lane.at → RunAt b.events (d.lane.at - b.first) [] → Between box d.lane.at (d.lane.at + ending []) []
unfolding limited
nothing_lies whole box b d m kept le run = kept_lies whole box b d.lane.at [] m kept le run

nothing_left : (whole : List EventView) (b : ChannelBox) (p : ℕ) → IsKept whole b → b.first ≤ p → RunAt b.events (p - b.first) [] → ending whole ≤ p
nothing_left whole b p k le r = omega (arith, end_is whole b k, ap ending r.whole, ending-append r.prefix [], r.stop, le)

kept_ends : (whole : List EventView) (b : ChannelBox) (p : ℕ) (es : List EventView) → IsKept whole b → b.first ≤ p → RunAt b.events (p - b.first) es → is_whole es ≡ true → ending whole ≤ p + ending (run_of es)
kept_ends whole b p es k le r final = omega (arith, end_is whole b k, whole_run b.events (p - b.first) es r final, le)

-- a run of an event that isn't too large has it
pub first_small : (e : EventView) (es : List EventView) → 1 ≤ count_of e → bytes_of e ≤ RUN_BYTES → 1 ≤ ending (run_of (e ∷ es))
first_small e es some small = let run = carries_first e es small in omega (arith, some, ap ending run.1)

run_goes_on : (whole : List EventView) (b : ChannelBox) (p : ℕ) (e : EventView) (es : List EventView) → IsKept whole b → RunAt b.events (p - b.first) (e ∷ es) → Each (λ x. bytes_of x ≤ RUN_BYTES) whole → AreCounted (e ∷ es) → p + 1 ≤ p + ending (run_of (e ∷ es))
run_goes_on whole b p e es k r small c =
    let all : whole ≡ (k.gone ++ r.prefix) ++ e ∷ es = k.parts ∙ ap (λ (l : List EventView). k.gone ++ l) r.whole ∙ sym (append_append k.gone r.prefix (e ∷ es)) in
    let here = each_right (λ x. bytes_of x ≤ RUN_BYTES) (k.gone ++ r.prefix) (e ∷ es) (subst (Each (λ x. bytes_of x ≤ RUN_BYTES)) all small) in
    omega (arith, first_small e es c.0 here.0)

part_taken : (whole box : List EventView) (b : ChannelBox) (d : ChannelState) (es : List EventView) → AreCounted box → HasMore whole box → IsKept whole b → b.first ≤ d.lane.at → ending whole - d.lane.at ≤ MAX_BEHIND → AreCounted es
    → RunAt b.events (d.lane.at - b.first) es → ChannelAgrees box d → (r : ChannelReply) × (channel_part d.lane.at (Some es) ≡ Channel r) × Taken whole box d r
part_taken whole box b d [] k m kept le near c run h = (
  EmptyPart d.lane.at true,
  refl,
  grows whole box d d.lane.at [] [] [] true (EmptyPart d.lane.at true) k h
      (subst (λ (q : ℕ). Between box d.lane.at q []) (plus_none d.lane.at) (nothing_lies whole box b d m kept le run)) refl (none_woven d.lane.at) (λ final. nothing_left whole b d.lane.at kept le run) refl (λ part. absurd cc),
)
part_taken whole box b d (e ∷ es) k m kept le near c run h =
    let xs : List EventView = run_of (e ∷ es) in
    let p : ℕ = d.lane.at in
    let r : ChannelReply = Part (p + ending xs) (bodies xs) (others_from p xs) (is_whole (e ∷ es)) in
    (r, refl, grows whole box d (p + ending xs) (bodies xs) (others_from p xs) xs (is_whole (e ∷ es)) r k h (kept_lies whole box b p (e ∷ es) m kept le run) refl (run_woven p xs) (kept_ends whole b p (e ∷ es) kept le run) refl (λ part. (near, λ small. run_goes_on whole b p e es kept run small c)))

-- the answer to a request from a boundary of the whole box
pub record TakenFrom (prefix box : List EventView) (d : ChannelState) (v : Reply) : Type 0 where
  pub reply : ChannelReply
  pub is : v ≡ Channel reply
  pub taken : Taken prefix box d reply

near_taken : (whole box : List EventView) (b : ChannelBox) (d : ChannelState) → AreCounted whole → AreCounted box → HasMore whole box → IsKept whole b → IsBoundary whole d.lane.at → b.first ≤ d.lane.at → ending whole - d.lane.at ≤ MAX_BEHIND → ChannelAgrees box d
    → TakenFrom whole box d (channel_part d.lane.at (events_after b.events (d.lane.at - b.first)))
near_taken whole box b d cw cb m kept h le near a =
    let here = kept_boundary whole b d.lane.at cw kept h le in
    let counted = counted_right kept.gone b.events (subst AreCounted kept.parts cw) in
    let t = part_taken whole box b d here.rest cb m kept le near (counted_right here.prefix here.rest (subst AreCounted here.whole counted)) (run_at b.events (d.lane.at - b.first) here) a in
    let after = run_after b.events (d.lane.at - b.first) counted here in
    record { reply = t.0; is = ap (channel_part d.lane.at) after ∙ t.1; taken = t.2 }

far_by : (whole box : List EventView) (b : ChannelBox) (d : ChannelState) (far : Bool) → is_far b d.lane.at ≡ far → AreCounted whole → AreCounted box → HasMore whole box → IsKept whole b → IsBoundary whole d.lane.at → ChannelAgrees box d
    → TakenFrom whole box d (channel_by false far b d.lane.at)
far_by whole box b d true e cw cb m kept h a = record {
  reply = TooLong (channel_end b) (recent_of b.events) true;
  is = refl;
  taken = begins_anew whole box d (channel_end b) (recent_of b.events) cb m (end_is whole b kept) (ap recent_of kept.kept) a;
}
far_by whole box b d false e cw cb m kept h a = near_taken whole box b d cw cb m kept h (from_first d.lane.at b.first (ltb MAX_BEHIND (channel_end b - d.lane.at)) e) (omega (arith, end_is whole b kept, near_end d.lane.at b.first (channel_end b - d.lane.at) e)) a

pub inside_of : (box : List EventView) (p : ℕ) → IsBoundary box p → p ≤ ending box
inside_of box p b = omega (arith, b.stop, ap ending b.whole, ending-append b.prefix b.rest)

pub channel_taken : (whole box : List EventView) (b : ChannelBox) (d : ChannelState) → AreCounted whole → AreCounted box → HasMore whole box → IsKept whole b → IsBoundary whole d.lane.at → ChannelAgrees box d
    → TakenFrom whole box d (channel_difference b (pos d.lane.at))
channel_taken whole box b d cw cb m kept h a =
    let t = far_by whole box b d (is_far b d.lane.at) refl cw cb m kept h a in
    let within : ltb (channel_end b) d.lane.at ≡ false = not_past d.lane.at (channel_end b) (omega (arith, inside_of whole d.lane.at h, end_is whole b kept)) in
    record { reply = t.reply; is = ap (λ (x : Bool). channel_by x (is_far b d.lane.at) b d.lane.at) within ∙ t.is; taken = t.taken }

-- ---- the client

first_by : (P : ChannelState → Type 0) (p : ChannelState → Bool) (c d : ChannelState) (cs : List ChannelState) (b : Bool) → p c ≡ b → cond b (Some c) (first p cs) ≡ Some d → P c → (first p cs ≡ Some d → P d × (p d ≡ true)) → P d × (p d ≡ true)
first_by P p c d cs true t e h rest = let same : c ≡ d = cc in (subst P same h, ap p (sym same) ∙ t)
first_by P p c d cs false t e h rest = rest e

pub first_has : (P : ChannelState → Type 0) (p : ChannelState → Bool) (cs : List ChannelState) (d : ChannelState) → Each P cs → first p cs ≡ Some d → P d × (p d ≡ true)
first_has P p [] d h e = absurd cc
first_has P p (c ∷ cs) d h e = first_by P p c d cs (p c) refl e h.0 (first_has P p cs d h.1)

pub is_asked : (n : ℕ) (m : Mode) → is_asking n m ≡ true → m ≡ Asking n
is_asked n Live e = absurd cc
is_asked n (Asking k) e = let same : k ≡ n = grind (arith, nat_tests) in ap Asking same
is_asked n Again e = absurd cc

free_asks : (n : ℕ) (o : Option Asked) (d : ChannelState) → (d.lane.mode ≡ Live) ⊎ (d.lane.mode ≡ Again) → ChannelAsksBy n o d
free_asks n o d f e = absurd (asks_never d.lane.mode n f e)

pub goes_taken : (s : ServerState) (boxes : Boxes) (c : ClientState) (n : ℕ) (d : ChannelState) (v : ChannelReply) (prefix : List EventView) (t : Taken prefix (boxes d.id) d v) → Agrees s boxes c
    → Goes s boxes c (record c { channels = at_first (asks_number n) (λ _. t.channel) c.channels })
goes_taken s boxes c n d v prefix t a = record {
  agrees = record {
    common = a.common;
    secret = a.secret;
    settings = a.settings;
    one_mode = a.one_mode;
    channels = each_at_first (λ x. ChannelAgrees (boxes x.id) x) (asks_number n) (λ _. t.channel)
        (λ x e h. subst (λ (i : ℤ). ChannelAgrees (boxes i) t.channel) (sym t.id) t.agrees) c.channels a.channels;
  };
  still = record {
    next = refl;
    few = few_at_first (asks_number n) (λ _. t.channel) c.channels;
    asks = λ k o h. record { group = h.group; channels = each_at_first (ChannelAsksBy k o) (asks_number n) (λ _. t.channel) (λ x e g. free_asks k o t.channel t.free) c.channels h.channels };
  };
}

pub answered_is : (c : ClientState) (n : ℕ) (d : ChannelState) (v : ChannelReply) (e : ChannelState) → first (asks_number n) c.channels ≡ Some d → channels.replied d v ≡ Ok e
    → by_channels c (answered c.channels n v) ≡ becomes (record c { channels = at_first (asks_number n) (λ _. e) c.channels })
answered_is c n d v e f is = ap (λ (o : Option ChannelState). by_channels c (answered_by c.channels n v o)) f ∙ ap (λ (o : Result ChannelState WeaveFault). by_channels c (taken_by c.channels n o)) is

-- the answer to a channel's own request, by an earlier server
pub told_channel : (m s : ServerState) (bm boxes : Boxes) (c : ClientState) (n : ℕ) (d : ChannelState) → IsLedger m bm → IsLedger s boxes → Continues m s bm boxes → Agrees s boxes c
    → first (asks_number n) c.channels ≡ Some d → IsBoundary (bm d.id) d.lane.at → Told s boxes c (Reaches m (channel_difference (channel_in m.channels d.id) (pos d.lane.at))) (channel_replied c n (channel_difference (channel_in m.channels d.id) (pos d.lane.at)))
told_channel m s bm boxes c n d km k g a f h =
    let agrees = (first_has (λ x. ChannelAgrees (boxes x.id) x) (asks_number n) c.channels d a.channels f).0 in
    let t = channel_taken (bm d.id) (boxes d.id) (channel_in m.channels d.id) d (km.channels d.id) (k.channels d.id) (g.channels d.id) (km.kept d.id) h agrees in
    takes (record c { channels = at_first (asks_number n) (λ _. t.taken.channel) c.channels })
    (ap (channel_replied c n) t.is ∙ answered_is c n d t.reply t.taken.channel f t.taken.is)
    (goes_taken s boxes c n d t.reply (bm d.id) t.taken a)
    (subst (λ (r : Reply). Reaches m r (record c { channels = at_first (asks_number n) (λ _. t.taken.channel) c.channels })) (sym t.is) (λ e. absurd cc))

-- ---- a channel catches up

channel_same : (a b : ChannelReply) → Channel a ≡ Channel b → a ≡ b
channel_same a b e = cc

-- the channel that asks a number takes its answer, and with a last part it stands at or past where the server's was
pub record ChannelTakes (m : ServerState) (c : ClientState) (n : ℕ) (d : ChannelState) (v : ChannelReply) : Type 0 where
  pub channel : ChannelState
  pub id : channel.id ≡ d.id
  pub is : channel_replied c n (Channel v) ≡ becomes (record c { channels = at_first (asks_number n) (λ _. channel) c.channels })
  pub reaches : is_last_part v ≡ true → channel_end (channel_in m.channels d.id) ≤ channel.lane.at

pub channel_takes : (m s : ServerState) (bm boxes : Boxes) (c : ClientState) (n : ℕ) (d : ChannelState) (v : ChannelReply) → IsLedger m bm → IsLedger s boxes → Continues m s bm boxes → Agrees s boxes c
    → first (asks_number n) c.channels ≡ Some d → IsBoundary (bm d.id) d.lane.at → Channel v ≡ channel_difference (channel_in m.channels d.id) (pos d.lane.at) → ChannelTakes m c n d v
channel_takes m s bm boxes c n d v km k g a f h is =
    let agrees = (first_has (λ x. ChannelAgrees (boxes x.id) x) (asks_number n) c.channels d a.channels f).0 in
    let t = channel_taken (bm d.id) (boxes d.id) (channel_in m.channels d.id) d (km.channels d.id) (k.channels d.id) (g.channels d.id) (km.kept d.id) h agrees in
    let same : v ≡ t.reply = channel_same v t.reply (is ∙ t.is) in
    record {
      channel = t.taken.channel;
      id = t.taken.id;
      is = ap (λ (r : ChannelReply). channel_replied c n (Channel r)) same ∙ answered_is c n d t.reply t.taken.channel f t.taken.is;
      reaches = λ final. omega (arith, end_is (bm d.id) (channel_in m.channels d.id) (km.kept d.id), t.taken.reaches (ap is_last_part (sym same) ∙ final));
    }
