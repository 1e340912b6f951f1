-- What is answered, exit by exit.
use Rattle.std.proofs.Common.{◌≡◌, ◌≢◌, ℕ, ℤ, pos, ◌+◌, ◌-◌, ◌≤◌, List, [], ◌∷◌, Bool, true, false, ◌&&◌, ◌||◌, Option, Some, None, eqb, ltb, leb, nat_eq, if◌then◌else◌, length, refl, sym, ap, ap₂, ◌∙◌, subst, arith}
use Rattle.std.proofs.lemmas.Bool.Decides.{nat_tests}
use Rattle.box_events.specs.declared.limits.TheConstants.{MAX_BEHIND}
use Rattle.box_events.specs.declared.positions.State.{State}
use Rattle.box_events.specs.declared.replies.ChannelReply.TheVariants.{Empty as EmptyPart, Part, TooLong}
use Rattle.box_events.specs.declared.replies.Reply.{Reply}
use Rattle.box_events.specs.declared.replies.Reply.TheVariants.{State as StateReply, Empty, Difference, Channel}
use Rattle.box_events.specs.declared.requests.Request.{Request}
use Rattle.box_events.specs.declared.requests.Request.TheVariants.{State as StateRequest, Difference as DifferenceRequest, Channel as ChannelRequest}
use Rattle.box_events.specs.declared.settings.Setting.{Setting}
use Rattle.box_events.specs.declared.updates.Placed.{Placed}
use Rattle.box_events.specs.Events.{EventView, count_of}
use Rattle.box_events.specs.Boxes.{ending, AreCounted}
use Rattle.box_events.specs.BoxViews.{BoxView, end_of}
use Rattle.box_events.proofs.Stretches.{counted_right}
use Rattle.box_events.specs.PartsView.{PartsView}
use Rattle.box_events.specs.Weaving.{Woven, bodies, others_from}
use Rattle.box_server.specs.Servers.{ServerState, channel_in, state_of}
use Rattle.box_server.specs.LastEntries.{changed_since}
use Rattle.box_server.specs.Runs.{events_after, run_of, recent_of}
use Rattle.box_server.specs.Answers.{answer, no_position, is_whole, is_far, channel_by, channel_part, channel_difference, difference_of, difference_by, carried, last_by, reached}
use Rattle.box_server.specs.inner.Carrying.{after_of, Fills, boxed}
use Rattle.box_server.proofs.AfterNumbers.{prefix_before, none_some}
use Rattle.box_server.proofs.RunSteps.{after_ends}

-- ---- counted events

pub nothing_counts : (es : List EventView) → AreCounted es → ending es ≡ 0 → es ≡ []
nothing_counts [] c none = refl
nothing_counts (e ∷ es) c none = let some : 1 ≤ count_of e = c.0 in absurd (omega (arith, some, none))

counted_by : (b : BoxView) (p : ℕ) (es : List EventView) (t : Bool) → AreCounted b.events → (if t then events_after b.events (p - b.first) else None) ≡ Some es → AreCounted es
counted_by b p es false c is = absurd (none_some es is)
counted_by b p es true c is = let r = prefix_before b.events (p - b.first) es is in counted_right r.prefix es (subst AreCounted r.whole c)

pub after_counted : (b : BoxView) (p : ℕ) (es : List EventView) → AreCounted b.events → after_of b p ≡ Some es → AreCounted es
after_counted b p es c is = counted_by b p es (leb b.first p) c is

-- ---- channels

not_past : (end p : ℕ) → p ≤ end → ltb end p ≡ false
not_past end p le = grind (arith, nat_tests)

pub far_reply : (b : BoxView) (id z : ℤ) (p end : ℕ) (recent : List (List ℕ)) → z ≡ pos p → end ≡ end_of b → p ≤ end → is_far (boxed id b) p ≡ true → recent ≡ recent_of b.events
    → Channel (TooLong end recent true) ≡ channel_difference (boxed id b) z
far_reply b id z p end recent z_is stop le far last =
    ap₂ (λ (e : ℕ) (l : List (List ℕ)). Channel (TooLong e l true)) stop last
    ∙ ap₂ (λ (x y : Bool). channel_by x y (boxed id b) p) (sym (not_past (end_of b) p (omega (arith, stop, le)))) (sym far)
    ∙ ap (channel_difference (boxed id b)) (sym z_is)

first_false : (a b : Bool) → (a || b) ≡ false → a ≡ false
first_false true b e = absurd cc
first_false false b e = refl

reaches : (p first : ℕ) → ltb p first ≡ false → leb first p ≡ true
reaches p first e = grind (arith, nat_tests)

pub near : (b : BoxView) (id z : ℤ) (p : ℕ) → z ≡ pos p → p ≤ end_of b → is_far (boxed id b) p ≡ false → channel_difference (boxed id b) z ≡ channel_part p (after_of b p)
near b id z p z_is le close =
    ap (channel_difference (boxed id b)) z_is
    ∙ ap₂ (λ (x y : Bool). channel_by x y (boxed id b) p) (not_past (end_of b) p le) close
    ∙ ap (λ (t : Bool). channel_part p (if t then events_after b.events (p - b.first) else None)) (sym (reaches p b.first (first_false (ltb p b.first) (ltb MAX_BEHIND (end_of b - p)) close)))

pub near_refused : (b : BoxView) (id z : ℤ) (p : ℕ) (r : Reply) → z ≡ pos p → p ≤ end_of b → is_far (boxed id b) p ≡ false → after_of b p ≡ None → r ≡ no_position → r ≡ channel_difference (boxed id b) z
near_refused b id z p r z_is le close none refuses = refuses ∙ ap (channel_part p) (sym none) ∙ sym (near b id z p z_is le close)

pub near_empty : (b : BoxView) (id z : ℤ) (p : ℕ) (es : List EventView) → AreCounted b.events → z ≡ pos p → p ≡ end_of b → is_far (boxed id b) p ≡ false → after_of b p ≡ Some es → Channel (EmptyPart p true) ≡ channel_difference (boxed id b) z
near_empty b id z p es c z_is at close is =
    let none : es ≡ [] = nothing_counts es (after_counted b p es c is) (omega (arith, after_ends b p es is, at)) in
    ap (λ (l : List EventView). channel_part p (Some l)) (sym none) ∙ ap (channel_part p) (sym is) ∙ sym (near b id z p z_is (omega (arith, at)) close)

part_of : (p : ℕ) (es : List EventView) → es ≢ [] → channel_part p (Some es) ≡ Channel (Part (p + ending (run_of es)) (bodies (run_of es)) (others_from p (run_of es)) (is_whole es))
part_of p [] some = absurd (some refl)
part_of p (e ∷ es) some = refl

pub near_part : (b : BoxView) (id z : ℤ) (p end : ℕ) (parts : PartsView) (news : List (List ℕ)) (others : List Placed) (last : Bool) (f : Fills b p parts end) → z ≡ pos p → p ≤ end_of b → p ≢ end_of b → is_far (boxed id b) p ≡ false
    → Woven parts.from (parts.from + ending parts.events) news others parts.events → last ≡ is_whole f.events → Channel (Part end news others last) ≡ channel_difference (boxed id b) z
near_part b id z p end parts news others last f z_is le before close w whole =
    let some : f.events ≢ [] = λ none. before (let e = after_ends b p f.events f.after in omega (arith, e, ap ending none)) in
    let first : news ≡ bodies (run_of f.events) = sym w.messages ∙ ap bodies f.run in
    let second : others ≡ others_from p (run_of f.events) = sym w.rest ∙ ap₂ others_from f.begin f.run in
    let done : Channel (Part end news others last) ≡ Channel (Part (p + ending (run_of f.events)) (bodies (run_of f.events)) (others_from p (run_of f.events)) (is_whole f.events)) =
    λ i. Channel (Part (f.stop i) (first i) (second i) (whole i)) in
    done ∙ sym (part_of p f.events some) ∙ ap (channel_part p) (sym f.after) ∙ sym (near b id z p z_is le close)

-- ---- the common group

pub after_zero : (b : BoxView) (es : List EventView) (p : ℕ) → b.first ≡ 0 → b.events ≡ es → after_of b p ≡ events_after es p
after_zero b es p zero same =
    let test : leb b.first p ≡ true = grind (arith, nat_tests) in
    let none : p - b.first ≡ p = omega (arith, zero) in
    ap (λ (t : Bool). if t then events_after b.events (p - b.first) else None) test ∙ ap (events_after b.events) none ∙ ap (λ (l : List EventView). events_after l p) same

-- a server whose common and secret box these are
pub record HasBoxes (s : ServerState) (common secret : BoxView) : Type 0 where
  pub first : common.first ≡ 0
  pub events : common.events ≡ s.common
  pub secret_first : secret.first ≡ 0
  pub secrets : secret.events ≡ s.secret

differs : (s : ServerState) (a b : BoxView) (z w : ℤ) (p q date : ℕ) → HasBoxes s a b → z ≡ pos p → w ≡ pos q → difference_of s z w date ≡ difference_by s p q date (after_of a p) (after_of b q)
differs s a b z w p q date has z_is w_is =
    ap₂ (λ (x y : ℤ). difference_of s x y date) z_is w_is
    ∙ ap₂ (λ (x y : Option (List EventView)). difference_by s p q date x y) (sym (after_zero a s.common p has.first has.events)) (sym (after_zero b s.secret q has.secret_first has.secrets))

pub no_news : (s : ServerState) (a b : BoxView) (z w : ℤ) (p q date : ℕ) (r : Reply) → HasBoxes s a b → z ≡ pos p → w ≡ pos q → after_of a p ≡ None → r ≡ no_position → r ≡ difference_of s z w date
no_news s a b z w p q date r has z_is w_is none refuses = refuses ∙ ap (λ (x : Option (List EventView)). difference_by s p q date x (after_of b q)) (sym none) ∙ sym (differs s a b z w p q date has z_is w_is)

pub no_secrets : (s : ServerState) (a b : BoxView) (z w : ℤ) (p q date : ℕ) (es : List EventView) (r : Reply) → HasBoxes s a b → z ≡ pos p → w ≡ pos q → after_of a p ≡ Some es → after_of b q ≡ None → r ≡ no_position → r ≡ difference_of s z w date
no_secrets s a b z w p q date es r has z_is w_is some none refuses = refuses ∙ ap₂ (λ (x y : Option (List EventView)). difference_by s p q date x y) (sym some) (sym none) ∙ sym (differs s a b z w p q date has z_is w_is)

-- what is carried of both boxes
pub record Carried (s : ServerState) (a b : BoxView) (p q : ℕ) (news secrets : PartsView) (end secret_end : ℕ) : Type 0 where
  pub has : HasBoxes s a b
  pub news_are : Fills a p news end
  pub secrets_are : Fills b q secrets secret_end

carries : (s : ServerState) (a b : BoxView) (z w : ℤ) (p q date end secret_end : ℕ) (news secrets : PartsView) (k : Carried s a b p q news secrets end secret_end) (t : Bool) → z ≡ pos p → w ≡ pos q → t ≡ (is_whole k.news_are.events && is_whole k.secrets_are.events)
    → difference_of s z w date ≡ carried t s p q date (run_of k.news_are.events) (run_of k.secrets_are.events)
carries s a b z w p q date end secret_end news secrets k t z_is w_is test =
    differs s a b z w p q date k.has z_is w_is
    ∙ ap₂ (λ (x y : Option (List EventView)). difference_by s p q date x y) k.news_are.after k.secrets_are.after
    ∙ ap (λ (x : Bool). carried x s p q date (run_of k.news_are.events) (run_of k.secrets_are.events)) (sym test)

pub slice_reply : (s : ServerState) (a b : BoxView) (z w : ℤ) (p q date end secret_end : ℕ) (news secrets : PartsView) (k : Carried s a b p q news secrets end secret_end) (settings : List Setting) (at state : State) (r : Reply)
    → z ≡ pos p → w ≡ pos q → false ≡ (is_whole k.news_are.events && is_whole k.secrets_are.events) → settings ≡ [] → at ≡ state_of s → state ≡ record at { pts = end; qts = secret_end }
    → r ≡ Difference (bodies news.events) (bodies secrets.events) (others_from news.from news.events) settings state false → r ≡ difference_of s z w date
slice_reply s a b z w p q date end secret_end news secrets k settings at state r z_is w_is test none at_is state_is r_is =
    let es : List EventView = run_of k.news_are.events in
    let fs : List EventView = run_of k.secrets_are.events in
    let there : state ≡ reached s p q es fs = state_is ∙ (λ i. record { pts = k.news_are.stop i; qts = k.secrets_are.stop i; date = (at_is i).date; seq = (at_is i).seq }) in
    r_is ∙ (λ i. Difference (bodies (k.news_are.run i)) (bodies (k.secrets_are.run i)) (others_from (k.news_are.begin i) (k.news_are.run i)) (none i) (there i) false)
    ∙ sym (carries s a b z w p q date end secret_end news secrets k false z_is w_is test)

both_true : (a b : Bool) → true ≡ (a && b) → (a ≡ true) × (b ≡ true)
both_true true b e = (refl, sym e)
both_true false b e = absurd cc

same_of : (a b : ℕ) → eqb a b ≡ true → a ≡ b
same_of a b e = grind (arith, nat_tests)

has_end : (b : BoxView) (es : List EventView) → b.first ≡ 0 → b.events ≡ es → end_of b ≡ ending es
has_end b es zero same = omega (arith, zero, ap ending same)

zero_test : (n : ℕ) → nat_eq n 0 ≡ eqb n 0
zero_test n = grind (arith, nat_tests)

ands : (x y z t : Bool) → z ≡ t → ((x && y) && z) ≡ (x && y && t)
ands true y z t e = ap (λ (k : Bool). y && k) e
ands false y z t e = refl

whole_ends : (b : BoxView) (p end : ℕ) (parts : PartsView) (f : Fills b p parts end) → is_whole f.events ≡ true → end ≡ end_of b
whole_ends b p end parts f t =
    let same : ending (run_of f.events) ≡ ending f.events = same_of (ending (run_of f.events)) (ending f.events) t in
    omega (arith, f.stop, same, after_ends b p f.events f.after)

nothing_test : (p end : ℕ) (parts : PartsView) (es : List EventView) → parts.events ≡ es → AreCounted parts.events → end ≡ p + ending es → nat_eq end p ≡ eqb (length es) 0
nothing_test p end parts [] is c stop = grind (arith, nat_tests, stop)
nothing_test p end parts (e ∷ es) is c stop =
    let some : 1 ≤ count_of e = (subst AreCounted is c).0 in
    grind (arith, nat_tests, stop, some)

tests : (s : ServerState) (a b : BoxView) (p q end secret_end : ℕ) (news secrets : PartsView) (k : Carried s a b p q news secrets end secret_end) (settings changed : List Setting) → settings ≡ changed
    → ((nat_eq end p && nat_eq secret_end q) && nat_eq (length settings) 0) ≡ (eqb (length (run_of k.news_are.events)) 0 && eqb (length (run_of k.secrets_are.events)) 0 && eqb (length changed) 0)
tests s a b p q end secret_end news secrets k settings changed same =
    let x = nothing_test p end news (run_of k.news_are.events) k.news_are.run k.news_are.counted k.news_are.stop in
    let y = nothing_test q secret_end secrets (run_of k.secrets_are.events) k.secrets_are.run k.secrets_are.counted k.secrets_are.stop in
    ap₂ (λ (g h : Bool). (g && h) && nat_eq (length settings) 0) x y ∙ ands (eqb (length (run_of k.news_are.events)) 0) (eqb (length (run_of k.secrets_are.events)) 0) (nat_eq (length settings) 0) (eqb (length changed) 0) (ap (λ (l : List Setting). nat_eq (length l) 0) same ∙ zero_test (length changed))

pub empty_reply : (s : ServerState) (a b : BoxView) (z w : ℤ) (p q date end secret_end : ℕ) (news secrets : PartsView) (k : Carried s a b p q news secrets end secret_end) (settings : List Setting) (at state : State)
    → z ≡ pos p → w ≡ pos q → true ≡ (is_whole k.news_are.events && is_whole k.secrets_are.events) → settings ≡ changed_since s.settings date → at ≡ state_of s → state ≡ record at { pts = end; qts = secret_end }
    → true ≡ ((nat_eq state.pts p && nat_eq state.qts q) && nat_eq (length settings) 0) → Empty state.date state.seq ≡ difference_of s z w date
empty_reply s a b z w p q date end secret_end news secrets k settings at state z_is w_is test same at_is state_is nothing =
    let es : List EventView = run_of k.news_are.events in
    let fs : List EventView = run_of k.secrets_are.events in
    let none : true ≡ ((nat_eq end p && nat_eq secret_end q) && nat_eq (length settings) 0) = nothing ∙ ap (λ (t : State). (nat_eq t.pts p && nat_eq t.qts q) && nat_eq (length settings) 0) state_is in
    let there : state ≡ record (state_of s) { pts = end; qts = secret_end } = state_is ∙ ap (λ (t : State). record t { pts = end; qts = secret_end }) at_is in
    ap (λ (t : State). Empty t.date t.seq) there
    ∙ ap (λ (t : Bool). last_by t s p es fs (changed_since s.settings date)) (none ∙ tests s a b p q end secret_end news secrets k settings (changed_since s.settings date) same)
    ∙ sym (carries s a b z w p q date end secret_end news secrets k true z_is w_is test)

pub last_reply : (s : ServerState) (a b : BoxView) (z w : ℤ) (p q date end secret_end : ℕ) (news secrets : PartsView) (k : Carried s a b p q news secrets end secret_end) (settings : List Setting) (at state : State) (r : Reply)
    → z ≡ pos p → w ≡ pos q → true ≡ (is_whole k.news_are.events && is_whole k.secrets_are.events) → settings ≡ changed_since s.settings date → at ≡ state_of s → state ≡ record at { pts = end; qts = secret_end }
    → false ≡ ((nat_eq state.pts p && nat_eq state.qts q) && nat_eq (length settings) 0)
    → r ≡ Difference (bodies news.events) (bodies secrets.events) (others_from news.from news.events) settings state true → r ≡ difference_of s z w date
last_reply s a b z w p q date end secret_end news secrets k settings at state r z_is w_is test same at_is state_is something r_is =
    let es : List EventView = run_of k.news_are.events in
    let fs : List EventView = run_of k.secrets_are.events in
    let some : false ≡ ((nat_eq end p && nat_eq secret_end q) && nat_eq (length settings) 0) = something ∙ ap (λ (t : State). (nat_eq t.pts p && nat_eq t.qts q) && nat_eq (length settings) 0) state_is in
    let wholes = both_true (is_whole k.news_are.events) (is_whole k.secrets_are.events) test in
    let first : end ≡ ending s.common = whole_ends a p end news k.news_are wholes.0 ∙ has_end a s.common k.has.first k.has.events in
    let second : secret_end ≡ ending s.secret = whole_ends b q secret_end secrets k.secrets_are wholes.1 ∙ has_end b s.secret k.has.secret_first k.has.secrets in
    let there : state ≡ state_of s = state_is ∙ (λ i. record { pts = first i; qts = second i; date = (at_is i).date; seq = (at_is i).seq }) in
    r_is ∙ (λ i. Difference (bodies (k.news_are.run i)) (bodies (k.secrets_are.run i)) (others_from (k.news_are.begin i) (k.news_are.run i)) (same i) (there i) true)
    ∙ ap (λ (t : Bool). last_by t s p es fs (changed_since s.settings date)) (some ∙ tests s a b p q end secret_end news secrets k settings (changed_since s.settings date) same)
    ∙ sym (carries s a b z w p q date end secret_end news secrets k true z_is w_is test)

-- ---- requests

pub answers_state : (s : ServerState) (r : Request) (x : State) → r ≡ StateRequest → x ≡ state_of s → StateReply x ≡ answer s r
unfolding answer
answers_state s r x is same = ap StateReply same ∙ ap (answer s) (sym is)

pub answers_difference : (s : ServerState) (r : Request) (pts qts y z : ℤ) (date : ℕ) (x : Reply) → r ≡ DifferenceRequest pts qts date → y ≡ pts → z ≡ qts → x ≡ difference_of s y z date → x ≡ answer s r
unfolding answer
answers_difference s r pts qts y z date x is first second same = same ∙ ap₂ (λ (a b : ℤ). difference_of s a b date) first second ∙ ap (answer s) (sym is)

pub answers_channel : (s : ServerState) (r : Request) (id pts y z : ℤ) (x : Reply) → r ≡ ChannelRequest id pts → y ≡ id → z ≡ pts → x ≡ channel_difference (channel_in s.channels y) z → x ≡ answer s r
unfolding answer
answers_channel s r id pts y z x is first second same = same ∙ ap₂ (λ (a b : ℤ). channel_difference (channel_in s.channels a) b) first second ∙ ap (answer s) (sym is)
