-- What an honest answer does to a client that agrees with its server: it is never refused, and the client agrees with the server as before.
use Rattle.std.proofs.Common.{◌≡◌, ℕ, ◌+◌, ◌≤◌, ◌⊎◌, inl, inr, pos, List, [], ◌∷◌, length, Bool, true, false, ◌&&◌, Option, Ok, ltb, eqb, refl, sym, ap, ap₂, ◌∙◌, subst, arith}
use Rattle.std.specs.List.{All}
use Rattle.std.proofs.lemmas.Bool.Decides.{nat_tests}
use Rattle.std.proofs.Math.Seq.{drop-length}
use Rattle.std.proofs.lemmas.List.{length-append}
use Rattle.box_events.specs.Events.{EventView, is_new, count_of}
use Rattle.box_events.specs.Boxes.{ending, Between}
use Rattle.box_events.specs.SettingLists.{Dated, AreSince, IsOverlay, NeverFallFrom}
use Rattle.std.specs.FinMap.{len}
use Rattle.box_events.specs.declared.replies.Reply.{Reply}
use Rattle.box_events.specs.declared.settings.Setting.{Setting}
use Rattle.pts_machine.specs.declared.mode.Mode.{Mode}
use Rattle.pts_machine.specs.declared.mode.Mode.TheVariants.{Live, Asking, Again}
use Rattle.pts_machine.specs.States.{LaneState}
use Rattle.pts_machine.specs.Steps.{extend, settle}
use Rattle.pts_machine.proofs.Ends.{reach_up}
use Rattle.pts_machine.proofs.Fitting.{fits_extend, fits_reaches}
use Rattle.pts_machine.specs.Steps.{settle}
use Rattle.pts_machine.specs.Agreeing.{SettingsAgree}
use Rattle.pts_machine.specs.SeqStates.{SettingsState, overlaid}
use Rattle.pts_machine.proofs.StateSteps.{overlay_live}
use Rattle.pts_machine.proofs.Agreements.{agree_over, agree_again}
use Rattle.pts_machine.proofs.Growing.{overlay_grows}
use Rattle.box_events.proofs.SettingDates.{since_append}
use Rattle.box_events.specs.Weaving.{bodies, others_from}
use Rattle.box_events.specs.Weaves.{woven_of}
use Rattle.box_server.specs.Servers.{ServerState, state_of}
use Rattle.box_server.specs.LastEntries.{changed_since}
use Rattle.box_server.specs.Runs.{run_of}
use Rattle.box_server.specs.Answers.{is_whole, reached, last_by, slice, carried, difference_by, difference_of}
use Rattle.box_client.specs.declared.received.Received.{Received}
use Rattle.box_client.specs.States.{ClientState}
use Rattle.box_client.specs.Replies.{Outcome, ignored, becomes, nothing_new, group_done, group_taken, group_woven, brings, group_replied}
use Rattle.box_world.specs.Agreeing.{IsPast, Reaches, Boxes, Each, Agrees}
use Rattle.box_world.specs.Growing.{HasMore, HasLater, Continues, IsLedger}
use Rattle.box_world.specs.Requesting.{GroupFits}
use Rattle.box_world.proofs.Answering.{RunAt, run_at, run_after, run_lies, run_woven, none_woven, messages_woven, each_left, each_right, both_true, whole_run, empty_run}
use Rattle.box_world.proofs.Pushing.{Goes}

-- what a final answer carries brings an older table to the latest
abbrev pub Carries : Type 0
Carries = (L : List Dated) (date : ℕ) → IsOverlay L (length L) date (changed_since L date)

-- ---- modes

pub extend_live : (t : LaneState EventView) (xs : List EventView) → (extend count_of t xs true).mode ≡ Live
unfolding extend settle
extend_live t xs = refl

pub extend_again : (t : LaneState EventView) (xs : List EventView) → (extend count_of t xs false).mode ≡ Again
unfolding extend
extend_again t xs = refl

pub asks_never : (m : Mode) (n : ℕ) → (m ≡ Live) ⊎ (m ≡ Again) → m ≡ Asking n → ⊥
asks_never m n (inl e) f = absurd cc
asks_never m n (inr e) f = absurd cc

-- ---- the group

pub record OverlayFits (s : ServerState) (c : ClientState) (b : Received) : Type 0 where
  pub order : c.settings.at ≤ b.state.seq
  pub within : b.state.seq ≤ length s.settings
  pub since : AreSince s.settings b.state.seq b.state.date
  pub past : b.state.date ≤ s.date
  pub overlay : IsOverlay s.settings b.state.seq c.settings.date b.settings

later_rise : (s : ServerState) (boxes : Boxes) (n : ℕ) → IsLedger s boxes → NeverFallFrom n s.settings
later_rise s boxes n k i j d a b c = k.rise i j d (omega arith) b c

pub goes_done : (s : ServerState) (boxes : Boxes) (c : ClientState) (b : Received) (last : Bool) (tx ty : ℕ) (xs ys : List EventView) → IsLedger s boxes → Agrees s boxes c
    → Between s.common c.common.at tx xs → Between s.secret c.secret.at ty ys → (last ≡ true → OverlayFits s c b) → Goes s boxes c (group_done last c b xs ys)
goes_done s boxes c b true tx ty xs ys k a x y over =
    let o = over refl in
    record {
      agrees = record {
        common = fits_extend s.common c.common tx xs true k.common a.common x;
        secret = fits_extend s.secret c.secret ty ys true k.secret a.secret y;
        settings = agree_over s.settings s.date c.settings b.settings b.state.seq b.state.date (later_rise s boxes b.state.seq k) k.dates a.settings o.order o.within o.since o.past o.overlay;
        one_mode = (extend_live c.secret ys ∙ sym (extend_live c.common xs), overlay_live c.settings b.settings b.state.seq b.state.date ∙ sym (extend_live c.common xs));
        channels = a.channels;
      };
      still = record { next = refl; few = λ h. h; asks = λ n o h. record { group = λ e. absurd (asks_never (extend count_of c.common xs true).mode n (inl (extend_live c.common xs)) e); channels = h.channels } };
    }
goes_done s boxes c b false tx ty xs ys k a x y over = record {
  agrees = record {
    common = fits_extend s.common c.common tx xs false k.common a.common x;
    secret = fits_extend s.secret c.secret ty ys false k.secret a.secret y;
    settings = agree_again s.settings s.date c.settings a.settings;
    one_mode = (extend_again c.secret ys ∙ sym (extend_again c.common xs), sym (extend_again c.common xs));
    channels = a.channels;
  };
  still = record { next = refl; few = λ h. h; asks = λ n o h. record { group = λ e. absurd (asks_never (extend count_of c.common xs false).mode n (inr (extend_again c.common xs)) e); channels = h.channels } };
}

-- an answer that makes lists becomes a client
seq_kept : (last : Bool) (seq at : ℕ) → (last ≡ true → at ≤ seq) → (last && ltb seq at) ≡ false
seq_kept false seq at le = refl
seq_kept true seq at le = let up = le refl in grind (arith, nat_tests)

pub brings_lists : (c : ClientState) (b : Received) (xs ys : List EventView) → woven_of c.common.at b.state.pts b.news b.others ≡ Ok xs → woven_of c.secret.at b.state.qts b.secrets [] ≡ Ok ys
    → (b.last ≡ true → c.settings.at ≤ b.state.seq) → brings c b ≡ becomes (group_done b.last c b xs ys)
brings_lists c b xs ys x y le =
    ap₂ (group_woven c b) x y ∙ ap (λ (t : Bool). group_taken t c b xs ys) (seq_kept b.last b.state.seq c.settings.at le)

-- what comes of an answer: nobody asks its number, or it is taken
pub data Told (s : ServerState) (boxes : Boxes) (c : ClientState) (P : ClientState → Type 0) (o : Outcome) : Type 0 where
  stale : o ≡ ignored → Told s boxes c P o
  takes : (d : ClientState) → o ≡ becomes d → Goes s boxes c d → P d → Told s boxes c P o

pub told_as : (s : ServerState) (boxes : Boxes) (c : ClientState) (P Q : ClientState → Type 0) (o p : Outcome) → p ≡ o → ((d : ClientState) → P d → Q d) → Told s boxes c P o → Told s boxes c Q p
told_as s boxes c P Q o p e f (stale is) = stale (e ∙ is)
told_as s boxes c P Q o p e f (takes d is g h) = takes d (e ∙ is) g (f d h)

-- settings reach the seq of a last part
settings_reach : (L : List Dated) (now : ℕ) (b : SettingsState) (xs : List Setting) (seq date : ℕ) → SettingsAgree L now b → seq ≤ (overlaid b xs seq date).at
unfolding overlaid settle
settings_reach L now b xs seq date a = reach_up (len b.held) seq b.held (λ s x is. (a.within s x is).0)

pub done_past : (m s : ServerState) (boxes : Boxes) (c : ClientState) (b : Received) (tx ty : ℕ) (xs ys : List EventView) → IsLedger s boxes → Agrees s boxes c → Between s.common c.common.at tx xs → Between s.secret c.secret.at ty ys
    → ending m.common ≤ tx → ending m.secret ≤ ty → length m.settings ≤ b.state.seq → IsPast m (group_done true c b xs ys)
done_past m s boxes c b tx ty xs ys k a x y p q r = record {
  common = omega (arith, p, fits_reaches s.common c.common tx xs true k.common a.common x);
  secret = omega (arith, q, fits_reaches s.secret c.secret ty ys true k.secret a.secret y);
  settings = omega (arith, r, settings_reach s.settings s.date c.settings b.settings b.state.seq b.state.date a.settings);
}

-- ---- the group asks from boundaries

-- two runs of an earlier server, from where the client stands
pub record Runs (m s : ServerState) (c : ClientState) (es fs : List EventView) : Type 0 where
  pub common : RunAt m.common c.common.at es
  pub secret : RunAt m.secret c.secret.at fs
  pub more : HasMore m.common s.common
  pub secret_more : HasMore m.secret s.secret
  pub messages : Each (λ e. is_new e ≡ true) (run_of fs)
  pub order : c.settings.at ≤ length m.settings
  pub later : HasLater m.date m.settings s.settings
  pub date : m.date ≤ s.date

since_here : (m s : ServerState) → HasLater m.date m.settings s.settings → AreSince s.settings (length m.settings) m.date
since_here m s h = subst (λ (l : List Dated). AreSince l (length m.settings) m.date) (sym h.1)
    (since_append m.settings h.0 (length m.settings) m.date (subst (All (λ e. m.date ≤ e.date)) (sym (drop-length m.settings)) (λ i d lt. absurd (omega (arith, lt)))) h.2)

within_here : (m s : ServerState) → HasLater m.date m.settings s.settings → length m.settings ≤ length s.settings
within_here m s h = omega (arith, ap length h.1, length-append m.settings h.0)

overlay_here : (carries : Carries) (m s : ServerState) (date : ℕ) → HasLater m.date m.settings s.settings → IsOverlay s.settings (length m.settings) date (changed_since m.settings date)
overlay_here carries m s date h = subst (λ (l : List Dated). IsOverlay l (length m.settings) date (changed_since m.settings date)) (sym h.1)
    (overlay_grows m.settings h.0 (length m.settings) date (changed_since m.settings date) (omega arith) (carries m.settings date))

abbrev pub brought_slice : ServerState → ClientState → List EventView → List EventView → Received
brought_slice m c xs ys = record { news = bodies xs; secrets = bodies ys; others = others_from c.common.at xs; settings = []; state = reached m c.common.at c.secret.at xs ys; last = false }

abbrev pub brought_last : ServerState → ClientState → List EventView → List EventView → Received
brought_last m c xs ys = record { news = bodies xs; secrets = bodies ys; others = others_from c.common.at xs; settings = changed_since m.settings c.settings.date; state = state_of m; last = true }

pub slice_is : (m s : ServerState) (c : ClientState) (es fs : List EventView) → Runs m s c es fs → group_replied c (slice m c.common.at c.secret.at (run_of es) (run_of fs)) ≡ becomes (group_done false c (brought_slice m c (run_of es) (run_of fs)) (run_of es) (run_of fs))
slice_is m s c es fs r =
    brings_lists c (brought_slice m c (run_of es) (run_of fs)) (run_of es) (run_of fs) (run_woven c.common.at (run_of es)) (messages_woven c.secret.at (run_of fs) r.messages) (λ e. absurd cc)

told_slice : (m s : ServerState) (boxes : Boxes) (c : ClientState) (es fs : List EventView) → IsLedger s boxes → Agrees s boxes c → Runs m s c es fs
    → Told s boxes c (Reaches m (slice m c.common.at c.secret.at (run_of es) (run_of fs))) (group_replied c (slice m c.common.at c.secret.at (run_of es) (run_of fs)))
told_slice m s boxes c es fs k a r =
    let b : Received = brought_slice m c (run_of es) (run_of fs) in
    takes (group_done false c b (run_of es) (run_of fs))
    (slice_is m s c es fs r)
    (goes_done s boxes c b false (c.common.at + ending (run_of es)) (c.secret.at + ending (run_of fs)) (run_of es) (run_of fs) k a
    (run_lies m.common s.common c.common.at es r.more r.common) (run_lies m.secret s.secret c.secret.at fs r.secret_more r.secret) (λ e. absurd cc))
    (λ e. absurd cc)

pub last_is : (m s : ServerState) (c : ClientState) (es fs : List EventView) → is_whole es ≡ true → is_whole fs ≡ true → Runs m s c es fs → brings c (brought_last m c (run_of es) (run_of fs)) ≡ becomes (group_done true c (brought_last m c (run_of es) (run_of fs)) (run_of es) (run_of fs))
last_is m s c es fs we wf r =
    let pe : c.common.at + ending (run_of es) ≡ ending m.common = whole_run m.common c.common.at es r.common we in
    let pf : c.secret.at + ending (run_of fs) ≡ ending m.secret = whole_run m.secret c.secret.at fs r.secret wf in
    brings_lists c (brought_last m c (run_of es) (run_of fs)) (run_of es) (run_of fs)
    (ap (λ (q : ℕ). woven_of c.common.at q (bodies (run_of es)) (others_from c.common.at (run_of es))) (sym pe) ∙ run_woven c.common.at (run_of es))
    (ap (λ (q : ℕ). woven_of c.secret.at q (bodies (run_of fs)) []) (sym pf) ∙ messages_woven c.secret.at (run_of fs) r.messages) (λ e. r.order)

pub last_over : (carries : Carries) (m s : ServerState) (c : ClientState) (es fs : List EventView) → Runs m s c es fs → OverlayFits s c (brought_last m c (run_of es) (run_of fs))
last_over carries m s c es fs r = record { order = r.order; within = within_here m s r.later; since = since_here m s r.later; past = r.date; overlay = overlay_here carries m s c.settings.date r.later }

told_last : (carries : Carries) (m s : ServerState) (boxes : Boxes) (c : ClientState) (es fs : List EventView) → is_whole es ≡ true → is_whole fs ≡ true → IsLedger s boxes → Agrees s boxes c → Runs m s c es fs
    → Told s boxes c (IsPast m) (brings c (brought_last m c (run_of es) (run_of fs)))
told_last carries m s boxes c es fs we wf k a r =
    let b : Received = brought_last m c (run_of es) (run_of fs) in
    let pe : c.common.at + ending (run_of es) ≡ ending m.common = whole_run m.common c.common.at es r.common we in
    let pf : c.secret.at + ending (run_of fs) ≡ ending m.secret = whole_run m.secret c.secret.at fs r.secret wf in
    takes (group_done true c b (run_of es) (run_of fs))
    (last_is m s c es fs we wf r)
    (goes_done s boxes c b true (c.common.at + ending (run_of es)) (c.secret.at + ending (run_of fs)) (run_of es) (run_of fs) k a
    (run_lies m.common s.common c.common.at es r.more r.common) (run_lies m.secret s.secret c.secret.at fs r.secret_more r.secret)
    (λ e. last_over carries m s c es fs r))
    (done_past m s boxes c b (c.common.at + ending (run_of es)) (c.secret.at + ending (run_of fs)) (run_of es) (run_of fs) k a
    (run_lies m.common s.common c.common.at es r.more r.common) (run_lies m.secret s.secret c.secret.at fs r.secret_more r.secret) (omega (arith, pe)) (omega (arith, pf)) (omega arith))

pub none_lies : (m s : List EventView) (p : ℕ) (es : List EventView) → run_of es ≡ [] → HasMore m s → RunAt m p es → Between s p (p + ending []) []
none_lies m s p es ne more r = subst (λ (l : List EventView). Between s p (p + ending l) l) ne (run_lies m s p es more r)

pub none_is : (m s : ServerState) (c : ClientState) (es fs : List EventView) → Runs m s c es fs → brings c (nothing_new c m.date (length m.settings)) ≡ becomes (group_done true c (nothing_new c m.date (length m.settings)) [] [])
none_is m s c es fs r = brings_lists c (nothing_new c m.date (length m.settings)) [] [] (none_woven c.common.at) (none_woven c.secret.at) (λ e. r.order)

pub none_over : (carries : Carries) (m s : ServerState) (c : ClientState) (es fs : List EventView) → changed_since m.settings c.settings.date ≡ [] → Runs m s c es fs → OverlayFits s c (nothing_new c m.date (length m.settings))
none_over carries m s c es fs ns r = record {
  order = r.order;
  within = within_here m s r.later;
  since = since_here m s r.later;
  past = r.date;
  overlay = subst (λ (l : List Setting). IsOverlay s.settings (length m.settings) c.settings.date l) ns (overlay_here carries m s c.settings.date r.later);
}

-- nothing is new: the runs are empty, and no setting is carried
told_none : (carries : Carries) (m s : ServerState) (boxes : Boxes) (c : ClientState) (es fs : List EventView) → run_of es ≡ [] → run_of fs ≡ [] → changed_since m.settings c.settings.date ≡ []
    → is_whole es ≡ true → is_whole fs ≡ true → IsLedger s boxes → Agrees s boxes c → Runs m s c es fs → Told s boxes c (IsPast m) (brings c (nothing_new c m.date (length m.settings)))
told_none carries m s boxes c es fs ne nf ns we wf k a r =
    let b : Received = nothing_new c m.date (length m.settings) in
    let x = none_lies m.common s.common c.common.at es ne r.more r.common in
    let y = none_lies m.secret s.secret c.secret.at fs nf r.secret_more r.secret in
    takes (group_done true c b [] [])
    (none_is m s c es fs r)
    (goes_done s boxes c b true (c.common.at + ending []) (c.secret.at + ending []) [] [] k a x y (λ e. none_over carries m s c es fs ns r))
    (done_past m s boxes c b (c.common.at + ending []) (c.secret.at + ending []) [] [] k a x y
    (omega (arith, whole_run m.common c.common.at es r.common we, ap ending ne)) (omega (arith, whole_run m.secret c.secret.at fs r.secret wf, ap ending nf)) (omega arith))

pub no_settings : (xs : List Setting) → eqb (length xs) 0 ≡ true → xs ≡ []
no_settings [] e = refl
no_settings (x ∷ xs) e = absurd (let z : length (x ∷ xs) ≡ 0 = grind (arith, nat_tests) in omega (arith, z))

told_last_by : (carries : Carries) (m s : ServerState) (boxes : Boxes) (c : ClientState) (es fs : List EventView) (b : Bool)
    → (eqb (length (run_of es)) 0 && eqb (length (run_of fs)) 0 && eqb (length (changed_since m.settings c.settings.date)) 0) ≡ b → is_whole es ≡ true → is_whole fs ≡ true → IsLedger s boxes → Agrees s boxes c → Runs m s c es fs
    → Told s boxes c (IsPast m) (group_replied c (last_by b m c.common.at (run_of es) (run_of fs) (changed_since m.settings c.settings.date)))
told_last_by carries m s boxes c es fs true e we wf k a r =
    let two = both_true (eqb (length (run_of es)) 0 && eqb (length (run_of fs)) 0) (eqb (length (changed_since m.settings c.settings.date)) 0) e in
    let one = both_true (eqb (length (run_of es)) 0) (eqb (length (run_of fs)) 0) two.0 in
    told_none carries m s boxes c es fs (empty_run (run_of es) one.0) (empty_run (run_of fs) one.1) (no_settings (changed_since m.settings c.settings.date) two.1) we wf k a r
told_last_by carries m s boxes c es fs false e we wf k a r = told_last carries m s boxes c es fs we wf k a r

told_carried : (carries : Carries) (m s : ServerState) (boxes : Boxes) (c : ClientState) (es fs : List EventView) (b : Bool) → (is_whole es && is_whole fs) ≡ b → IsLedger s boxes → Agrees s boxes c → Runs m s c es fs
    → Told s boxes c (Reaches m (carried b m c.common.at c.secret.at c.settings.date (run_of es) (run_of fs))) (group_replied c (carried b m c.common.at c.secret.at c.settings.date (run_of es) (run_of fs)))
told_carried carries m s boxes c es fs true e k a r =
    let w = both_true (is_whole es) (is_whole fs) e in
    let v : Reply = carried true m c.common.at c.secret.at c.settings.date (run_of es) (run_of fs) in
    told_as s boxes c (IsPast m) (Reaches m v) (group_replied c v) (group_replied c v) refl (λ d h last. h)
    (told_last_by carries m s boxes c es fs (eqb (length (run_of es)) 0 && eqb (length (run_of fs)) 0 && eqb (length (changed_since m.settings c.settings.date)) 0) refl w.0 w.1 k a r)
told_carried carries m s boxes c es fs false e k a r = told_slice m s boxes c es fs k a r

pub runs_from : (m s : ServerState) (bm boxes : Boxes) (c : ClientState) → IsLedger m bm → Continues m s bm boxes → (f : GroupFits m c.common.at c.secret.at c.settings.at) → Runs m s c f.common.rest f.secret.rest
runs_from m s bm boxes c km g f =
    let fs : List EventView = f.secret.rest in
    let y = run_at m.secret c.secret.at f.secret in
    record {
      common = run_at m.common c.common.at f.common;
      secret = y;
      more = g.common;
      secret_more = g.secret;
      messages = each_left (λ e. is_new e ≡ true) (run_of fs) y.rest (subst (Each (λ e. is_new e ≡ true)) y.run (each_right (λ e. is_new e ≡ true) y.prefix fs (subst (Each (λ e. is_new e ≡ true)) y.whole km.messages)));
      order = f.settings;
      later = g.settings;
      date = g.date;
    }

-- the answer to the group's own request, by an earlier server
pub told_group : (carries : Carries) (m s : ServerState) (bm boxes : Boxes) (c : ClientState) → IsLedger m bm → IsLedger s boxes → Continues m s bm boxes → Agrees s boxes c
    → GroupFits m c.common.at c.secret.at c.settings.at → Told s boxes c (Reaches m (difference_of m (pos c.common.at) (pos c.secret.at) c.settings.date)) (group_replied c (difference_of m (pos c.common.at) (pos c.secret.at) c.settings.date))
told_group carries m s bm boxes c km k g a f =
    let es : List EventView = f.common.rest in
    let fs : List EventView = f.secret.rest in
    let runs : Runs m s c es fs = runs_from m s bm boxes c km g f in
    let v : Reply = carried (is_whole es && is_whole fs) m c.common.at c.secret.at c.settings.date (run_of es) (run_of fs) in
    let w : Reply = difference_of m (pos c.common.at) (pos c.secret.at) c.settings.date in
    let same : w ≡ v = ap₂ (λ (o p : Option (List EventView)). difference_by m c.common.at c.secret.at c.settings.date o p) (run_after m.common c.common.at km.common f.common) (run_after m.secret c.secret.at km.secret f.secret) in
    told_as s boxes c (Reaches m v) (Reaches m w) (group_replied c v) (group_replied c w) (ap (group_replied c) same) (λ d h. subst (λ (x : Reply). Reaches m x d) (sym same) h)
    (told_carried carries m s boxes c es fs (is_whole es && is_whole fs) refl k a runs)
