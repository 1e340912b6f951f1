-- What a difference carries of a sound server's boxes.
use Rattle.std.specs.Prelude.{◌||◌, ltb, if◌then◌else◌}
use Rattle.std.proofs.Common.{◌≡◌, ℕ, ◌+◌, ◌-◌, ◌≤◌, ℤ, List, [], ◌∷◌, ◌++◌, Some, Bool, true, false, refl, subst, arith}
use Rattle.std.specs.List.{All}
use Rattle.std.specs.Ordering.{int_eq}
use Rattle.std.proofs.lemmas.Bool.Decides.{nat_tests}
use Rattle.std.proofs.lemmas.List.Elements.{All-nil, All-cons, All-head, All-tail}
use Rattle.box_events.specs.declared.limits.TheConstants.{MAX_END}
use Rattle.box_events.specs.declared.updates.Placed.{Placed}
use Rattle.box_events.specs.Events.{EventView, count_of, is_new}
use Rattle.box_events.specs.Views.{HasCount}
use Rattle.box_events.specs.Boxes.{ending}
use Rattle.box_events.proofs.Stretches.{stretch_inside}
use Rattle.box_events.specs.Weaving.{others_from, ends_at}
use Rattle.box_server.specs.Servers.{ChannelBox, channel_in, channel_end}
use Rattle.box_server.specs.Sound.{IsSoundChannel}
use Rattle.box_server.specs.Runs.{events_after, run_of}
use Rattle.box_server.proofs.Carrying.{run_lies}
use Rattle.box_world.proofs.ClearUpdates.{Ends}

-- ---- lists of events

-- events from p on that end at the limit at most
pub record Carries (p : ℕ) (es : List EventView) : Type 0 where
  pub counts : All HasCount es
  pub limit : p + ending es ≤ MAX_END

pub all_right : {A : Type 0} (P : A → Type 0) (xs ys : List A) → All P (xs ++ ys) → All P ys
all_right P [] ys all = all
all_right P (x ∷ xs) ys all = all_right P xs ys (All-tail P x (xs ++ ys) all)

pub all_left : {A : Type 0} (P : A → Type 0) (xs ys : List A) → All P (xs ++ ys) → All P xs
all_left P [] ys all = All-nil P
all_left P (x ∷ xs) ys all = All-cons P x xs (All-head P x (xs ++ ys) all) (all_left P xs ys (All-tail P x (xs ++ ys) all))

-- what a difference carries of a box
pub run_carries : (box : List EventView) (p : ℕ) (es : List EventView) → All HasCount box → ending box ≤ MAX_END → events_after box p ≡ Some es → Carries p (run_of es)
run_carries box p es all limit after =
    let b = run_lies box p es after in
    let inside = stretch_inside box p (p + ending (run_of es)) (run_of es) b in
    record {
      counts = all_left HasCount (run_of es) b.rest (all_right HasCount b.prefix (run_of es ++ b.rest) (subst (All HasCount) b.whole all));
      limit = omega (arith, inside, limit);
    }

-- ---- the other events

-- no message, and it ends in its box
pub record Lies (o : Placed) : Type 0 where
  pub ends : Ends o.event o.pts
  pub other : is_new o.event ≡ false

lies_by : (p : ℕ) (e : EventView) (es : List EventView) (b : Bool) → is_new e ≡ b → HasCount e → p + (count_of e + ending es) ≤ MAX_END → All Lies (others_from (p + count_of e) es)
    → All Lies (if b then others_from (p + count_of e) es else ends_at e (p + count_of e) ∷ others_from (p + count_of e) es)
lies_by p e es true is h le more = more
lies_by p e es false is h le more = All-cons Lies (ends_at e (p + count_of e)) (others_from (p + count_of e) es) (record { ends = record { count = h; least = omega arith; most = omega (arith, le) }; other = is }) more

pub others_lie : (p : ℕ) (es : List EventView) → All HasCount es → p + ending es ≤ MAX_END → All Lies (others_from p es)
others_lie p [] all le = All-nil Lies
others_lie p (e ∷ es) all le = lies_by p e es (is_new e) refl (All-head HasCount e es all) le (others_lie (p + count_of e) es (All-tail HasCount e es all) (omega (arith, le)))

-- ---- channels

pub record Kept (c : ChannelBox) : Type 0 where
  pub limit : channel_end c ≤ MAX_END
  pub counts : All HasCount c.events

kept_by : (c d : ChannelBox) (b : Bool) → Kept c → Kept d → Kept (if b then c else d)
kept_by c d true k l = k
kept_by c d false k l = l

pub kept_in : (cs : List ChannelBox) (id : ℤ) → All IsSoundChannel cs → All (λ c. All HasCount c.events) cs → Kept (channel_in cs id)
kept_in [] id sound counts = record { limit = omega arith; counts = All-nil HasCount }
kept_in (c ∷ cs) id sound counts =
    let first : IsSoundChannel c = All-head IsSoundChannel c cs sound in
    kept_by c (channel_in cs id) (int_eq c.id id) (record { limit = first.limit; counts = All-head (λ (d : ChannelBox). All HasCount d.events) c cs counts })
    (kept_in cs id (All-tail IsSoundChannel c cs sound) (All-tail (λ (d : ChannelBox). All HasCount d.events) c cs counts))

pub not_less : (a b : ℕ) → ltb a b ≡ false → b ≤ a
not_less a b e = grind (arith, nat_tests)

pub none_of_two : (a b : Bool) → (a || b) ≡ false → a ≡ false
none_of_two true b e = absurd cc
none_of_two false b e = refl

-- of a channel's box
pub channel_carries : (c : ChannelBox) (p : ℕ) (es : List EventView) → Kept c → c.first ≤ p → events_after c.events (p - c.first) ≡ Some es → Carries p (run_of es)
channel_carries c p es k from after =
    let b = run_lies c.events (p - c.first) es after in
    let inside = stretch_inside c.events (p - c.first) (p - c.first + ending (run_of es)) (run_of es) b in
    let limit = k.limit in
    record {
      counts = all_left HasCount (run_of es) b.rest (all_right HasCount b.prefix (run_of es ++ b.rest) (subst (All HasCount) b.whole k.counts));
      limit = omega (arith, inside, limit, from);
    }
