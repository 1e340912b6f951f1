-- Loops over channels.
use Rattle.std.proofs.Common.{◌≡◌, ℕ, zero, suc, ◌+◌, ◌≤◌, ◌<◌, ℤ, List, [], ◌∷◌, ◌++◌, length, map, take, drop, get_or, set, Bool, true, false, ◌||◌, cond, Some, is_some, refl, sym, ap, ap₂, ◌∙◌, subst, int_eq, arith, append_assoc, append-nil, take_all, drop_of_length-le}
use Rattle.std.proofs.lemmas.List.{length-append}
use native.Mathlib.Numerals.{add-one}
use Rattle.box_events.specs.declared.updates.Update.{Update}
use Rattle.box_events.specs.declared.requests.Numbered.{Numbered}
use Rattle.channel_box.specs.States.{ChannelState, ChannelView, states, first, has_id, spare_of}
use Rattle.channel_box.specs.Steps.{Ticked, ticked, and_asks, and_waits, channel_is_due, channel_asks, ask_of, is_watched}
use Rattle.channel_box.specs.Calls.{KeepsRoom, HasRoomFor, updates_for}
use Rattle.channel_box.specs.Looks.{any_asks, waits}
use Rattle.channel_box.proofs.Ids.{eq_of}
use Rattle.channel_box.proofs.Indexes.{room_kept, states_kept}

-- A list at an index.
pub record Cut (now : List ChannelView) (i : ℕ) (x y : ChannelView) : Type 0 where
  pub rest : List ChannelView
  pub here : drop i now ≡ x ∷ rest
  pub next : drop (suc i) now ≡ rest
  pub prefix : take (suc i) (set now i y) ≡ take i now ++ y ∷ []
  pub prefix_same : take (suc i) now ≡ take i now ++ x ∷ []
  pub back : drop (suc i) (set now i y) ≡ rest

pub cut : (now : List ChannelView) (i : ℕ) (x y : ChannelView) → i < length now → x ≡ get_or now i x → Cut now i x y
cut [] i x y lt is = absurd (omega (arith, lt))
cut (v ∷ vs) zero x y lt is = record {
  rest = vs;
  here = ap (λ (z : ChannelView). z ∷ vs) (sym is);
  next = refl;
  prefix = refl;
  prefix_same = ap (λ (z : ChannelView). z ∷ []) (sym is);
  back = refl;
}
cut (v ∷ vs) (suc i) x y lt is =
    let c = cut vs i x y (omega (arith, lt)) is in
    record {
      rest = c.rest;
      here = c.here;
      next = c.next;
      prefix = ap (λ (l : List ChannelView). v ∷ l) c.prefix;
      prefix_same = ap (λ (l : List ChannelView). v ∷ l) c.prefix_same;
      back = c.back;
    }

pub set_item : (now : List ChannelView) (i : ℕ) (d : ChannelView) → set now i (get_or now i d) ≡ now
set_item [] i d = refl
set_item (v ∷ vs) zero d = refl
set_item (v ∷ vs) (suc i) d = ap (λ (l : List ChannelView). v ∷ l) (set_item vs i d)

map_states : (xs ys : List ChannelView) → states (xs ++ ys) ≡ states xs ++ states ys
map_states [] ys = refl
map_states (x ∷ xs) ys = ap (λ (cs : List ChannelState). x.state ∷ cs) (map_states xs ys)

room_then : (a b c : List ChannelView) → KeepsRoom a b → KeepsRoom b c → KeepsRoom a c
room_then a b c p q = λ id. let s = p id in let t = q id in omega (arith, s, t)

pub same_room : (a : List ChannelView) → KeepsRoom a a
same_room a = λ id. omega arith

-- the first i channels took a step, and the others are to
pub record Mapping (f : ChannelState → ChannelState) (old : List ChannelView) (i : ℕ) (now : List ChannelView) : Type 0 where
  pub all : states (take i now) ++ map f (states (drop i now)) ≡ map f (states old)
  pub room : KeepsRoom old now

pub mapping_none : (f : ChannelState → ChannelState) (old : List ChannelView) → Mapping f old 0 old
mapping_none f old = record { all = refl; room = same_room old }

pub mapping_more : (f : ChannelState → ChannelState) (old now : List ChannelView) (i : ℕ) (x y : ChannelView) → ((c : ChannelState) → (f c).id ≡ c.id) → Mapping f old i now → i < length now → x ≡ get_or now i x → y.state ≡ f x.state → x.spare ≤ y.spare → Mapping f old (i + 1) (set now i y)
mapping_more f old now i x y keeps m lt is step le =
    let c = cut now i x y lt is in
    subst (λ (k : ℕ). Mapping f old k (set now i y)) (sym (add-one i))
    (record {
      all =
          ap₂ (λ (a b : List ChannelView). states a ++ map f (states b)) c.prefix c.back
          ∙ ap (λ (l : List ChannelState). l ++ map f (states c.rest)) (map_states (take i now) (y ∷ []))
          ∙ append_assoc (states (take i now)) (y.state ∷ []) (map f (states c.rest))
          ∙ ap (λ (z : ChannelState). states (take i now) ++ z ∷ map f (states c.rest)) step
          ∙ ap (λ (l : List ChannelView). states (take i now) ++ map f (states l)) (sym c.here)
          ∙ m.all;
      room = room_then old now (set now i y) m.room (room_kept now i x y is (ap (λ (z : ChannelState). z.id) step ∙ keeps x.state) le);
    })

pub mapping_done : (f : ChannelState → ChannelState) (old now : List ChannelView) (n : ℕ) → n ≡ length now → Mapping f old n now → states now ≡ map f (states old)
mapping_done f old now n end m =
    sym (append-nil (states now))
    ∙ ap₂ (λ (a b : List ChannelView). states a ++ map f (states b)) (sym (take_all n now (omega (arith, end)))) (sym (drop_of_length-le now {i = n} (omega (arith, end))))
    ∙ m.all

-- each has room for its updates
abbrev pub EachHasRoom : List Update → List ChannelView → Type 0
EachHasRoom us [] = Unit {0}
EachHasRoom us (v ∷ vs) = (updates_for v.state.id us ≤ v.spare) × EachHasRoom us vs

each_last : (us : List Update) (vs : List ChannelView) (v : ChannelView) → EachHasRoom us vs → updates_for v.state.id us ≤ v.spare → EachHasRoom us (vs ++ v ∷ [])
each_last us [] v e le = (le, tt)
each_last us (x ∷ vs) v e le = (e.0, each_last us vs v e.1 le)

abbrev is_either : ChannelView → List ChannelView → ℤ → Bool → Bool
is_either v vs id b = is_some (cond b (Some v.state) (first (has_id id) (states vs)))

room_over : (us : List Update) (v : ChannelView) (vs : List ChannelView) (id : ℤ) (b : Bool) → int_eq v.state.id id ≡ b → updates_for v.state.id us ≤ v.spare
    → (is_watched (states vs) id ≡ true → updates_for id us ≤ spare_of vs id) → is_either v vs id b ≡ true → updates_for id us ≤ cond b v.spare (spare_of vs id)
room_over us v vs id true same le rest sure = subst (λ (k : ℤ). updates_for k us ≤ v.spare) (eq_of v.state.id id same) le
room_over us v vs id false other le rest sure = rest sure

pub room_of_each : (us : List Update) (vs : List ChannelView) → EachHasRoom us vs → HasRoomFor vs us
room_of_each us [] e = λ id sure. absurd cc
room_of_each us (v ∷ vs) e = λ id sure. room_over us v vs id (int_eq v.state.id id) refl e.0 (room_of_each us vs e.1 id) sure

pub record Reserving (us : List Update) (old : List ChannelView) (i : ℕ) (now : List ChannelView) : Type 0 where
  pub states : states now ≡ states old
  pub room : KeepsRoom old now
  pub done : EachHasRoom us (take i now)

pub reserving_more : (us : List Update) (old now : List ChannelView) (i : ℕ) (x y : ChannelView) → Reserving us old i now → i < length now → x ≡ get_or now i x → y.state ≡ x.state → x.spare ≤ y.spare → updates_for x.state.id us ≤ y.spare → Reserving us old (i + 1) (set now i y)
reserving_more us old now i x y r lt is same le enough =
    let c = cut now i x y lt is in
    subst (λ (k : ℕ). Reserving us old k (set now i y)) (sym (add-one i))
    (record {
      states = states_kept now i x y is same ∙ r.states;
      room = room_then old now (set now i y) r.room (room_kept now i x y is (ap (λ (z : ChannelState). z.id) same) le);
      done = subst (EachHasRoom us) (sym c.prefix) (each_last us (take i now) y r.done (subst (λ (k : ℤ). updates_for k us ≤ y.spare) (ap (λ (z : ChannelState). z.id) (sym same)) enough));
    })

pub reserving_done : (us : List Update) (old now : List ChannelView) (n : ℕ) → n ≡ length now → Reserving us old n now → HasRoomFor now us
reserving_done us old now n end r = room_of_each us now (subst (EachHasRoom us) (take_all n now (omega (arith, end))) r.done)

pub reserving_ends : (us : List Update) (old now : List ChannelView) (i : ℕ) (x y : ChannelView) → Reserving us old i now → x ≡ get_or now i x → y.state ≡ x.state → x.spare ≤ y.spare → (states (set now i y) ≡ states old) × KeepsRoom old (set now i y)
reserving_ends us old now i x y r is same le =
    (states_kept now i x y is same ∙ r.states, room_then old now (set now i y) r.room (room_kept now i x y is (ap (λ (z : ChannelState). z.id) same) le))

-- the first i channels asked where they were due, and the others are to
pub record Ticking (n : ℕ) (old : List ChannelView) (before : List Numbered) (i m : ℕ) (now : List ChannelView) (asked : List Numbered) : Type 0 where
  pub numbers : (ticked m (states (drop i now))).next ≡ (ticked n (states old)).next
  pub channels : states (take i now) ++ (ticked m (states (drop i now))).channels ≡ (ticked n (states old)).channels
  pub asks : asked ++ (ticked m (states (drop i now))).asks ≡ before ++ (ticked n (states old)).asks
  pub room : KeepsRoom old now
  pub few : length asked ≤ length before + i
  pub bound : m ≤ n + i

pub ticking_none : (n : ℕ) (old : List ChannelView) (before : List Numbered) → Ticking n old before 0 n old before
ticking_none n old before = record { numbers = refl; channels = refl; asks = refl; room = same_room old; few = omega arith; bound = omega arith }

due_asks : (c : ChannelState) (m : ℕ) (cs : List ChannelState) → channel_is_due c ≡ true → ticked m (c ∷ cs) ≡ and_asks m c (ticked (m + 1) cs)
due_asks c m cs due = ap (λ (b : Bool). cond b (and_asks m c (ticked (m + 1) cs)) (and_waits c (ticked m cs))) due

not_due : (c : ChannelState) (m : ℕ) (cs : List ChannelState) → channel_is_due c ≡ false → ticked m (c ∷ cs) ≡ and_waits c (ticked m cs)
not_due c m cs due = ap (λ (b : Bool). cond b (and_asks m c (ticked (m + 1) cs)) (and_waits c (ticked m cs))) due

pub ticking_asks : (n : ℕ) (old : List ChannelView) (before : List Numbered) (i m : ℕ) (now : List ChannelView) (asked : List Numbered) (x y : ChannelView) (ask : Numbered) → Ticking n old before i m now asked → i < length now → x ≡ get_or now i x
    → channel_is_due x.state ≡ true → y.state ≡ channel_asks x.state m → ask ≡ ask_of x.state m → x.spare ≤ y.spare → Ticking n old before (i + 1) (m + 1) (set now i y) (asked ++ ask ∷ [])
ticking_asks n old before i m now asked x y ask t lt is due step put le =
    let c = cut now i x y lt is in
    let one : ticked m (states (drop i now)) ≡ and_asks m x.state (ticked (m + 1) (states c.rest)) = ap (λ (l : List ChannelView). ticked m (states l)) c.here ∙ due_asks x.state m (states c.rest) due in
    let back : ticked (m + 1) (states (drop (suc i) (set now i y))) ≡ ticked (m + 1) (states c.rest) = ap (λ (l : List ChannelView). ticked (m + 1) (states l)) c.back in
    subst (λ (k : ℕ). Ticking n old before k (m + 1) (set now i y) (asked ++ ask ∷ [])) (sym (add-one i))
    (record {
      numbers = ap (λ (u : Ticked). u.next) back ∙ ap (λ (u : Ticked). u.next) (sym one) ∙ t.numbers;
      channels =
          ap₂ (λ (a : List ChannelView) (u : Ticked). states a ++ u.channels) c.prefix back
          ∙ ap (λ (l : List ChannelState). l ++ (ticked (m + 1) (states c.rest)).channels) (map_states (take i now) (y ∷ []))
          ∙ append_assoc (states (take i now)) (y.state ∷ []) (ticked (m + 1) (states c.rest)).channels
          ∙ ap (λ (z : ChannelState). states (take i now) ++ z ∷ (ticked (m + 1) (states c.rest)).channels) step
          ∙ ap (λ (u : Ticked). states (take i now) ++ u.channels) (sym one)
          ∙ t.channels;
      asks =
          ap (λ (u : Ticked). (asked ++ ask ∷ []) ++ u.asks) back
          ∙ append_assoc asked (ask ∷ []) (ticked (m + 1) (states c.rest)).asks
          ∙ ap (λ (z : Numbered). asked ++ z ∷ (ticked (m + 1) (states c.rest)).asks) put
          ∙ ap (λ (u : Ticked). asked ++ u.asks) (sym one)
          ∙ t.asks;
      room = room_then old now (set now i y) t.room (room_kept now i x y is (ap (λ (z : ChannelState). z.id) step) le);
      few = omega (arith, t.few, length-append asked (ask ∷ []));
      bound = omega (arith, t.bound);
    })

pub ticking_waits : (n : ℕ) (old : List ChannelView) (before : List Numbered) (i m : ℕ) (now : List ChannelView) (asked : List Numbered) (x : ChannelView) → Ticking n old before i m now asked → i < length now → x ≡ get_or now i x
    → channel_is_due x.state ≡ false → Ticking n old before (i + 1) m now asked
ticking_waits n old before i m now asked x t lt is due =
    let c = cut now i x x lt is in
    let one : ticked m (states (drop i now)) ≡ and_waits x.state (ticked m (states c.rest)) = ap (λ (l : List ChannelView). ticked m (states l)) c.here ∙ not_due x.state m (states c.rest) due in
    let back : ticked m (states (drop (suc i) now)) ≡ ticked m (states c.rest) = ap (λ (l : List ChannelView). ticked m (states l)) c.next in
    subst (λ (k : ℕ). Ticking n old before k m now asked) (sym (add-one i))
    (record {
      numbers = ap (λ (u : Ticked). u.next) back ∙ ap (λ (u : Ticked). u.next) (sym one) ∙ t.numbers;
      channels =
          ap₂ (λ (a : List ChannelView) (u : Ticked). states a ++ u.channels) c.prefix_same back
          ∙ ap (λ (l : List ChannelState). l ++ (ticked m (states c.rest)).channels) (map_states (take i now) (x ∷ []))
          ∙ append_assoc (states (take i now)) (x.state ∷ []) (ticked m (states c.rest)).channels
          ∙ ap (λ (u : Ticked). states (take i now) ++ u.channels) (sym one)
          ∙ t.channels;
      asks = ap (λ (u : Ticked). asked ++ u.asks) back ∙ ap (λ (u : Ticked). asked ++ u.asks) (sym one) ∙ t.asks;
      room = t.room;
      few = omega (arith, t.few);
      bound = omega (arith, t.bound);
    })

pub ticking_by : (n : ℕ) (old : List ChannelView) (before : List Numbered) (i m m2 : ℕ) (now now2 : List ChannelView) (asked asked2 : List Numbered) → m2 ≡ m → now2 ≡ now → asked2 ≡ asked → Ticking n old before i m now asked → Ticking n old before i m2 now2 asked2
ticking_by n old before i m m2 now now2 asked asked2 a b d t =
    subst (λ (k : ℕ). Ticking n old before i k now2 asked2) (sym a) (subst (λ (l : List ChannelView). Ticking n old before i m l asked2) (sym b) (subst (λ (l : List Numbered). Ticking n old before i m now l) (sym d) t))

pub record Tickings (n : ℕ) (old : List ChannelView) (before : List Numbered) (m : ℕ) (now : List ChannelView) (asked : List Numbered) : Type 0 where
  pub numbers : m ≡ (ticked n (states old)).next
  pub channels : states now ≡ (ticked n (states old)).channels
  pub asks : asked ≡ before ++ (ticked n (states old)).asks

pub ticking_done : (n : ℕ) (old : List ChannelView) (before : List Numbered) (i m : ℕ) (now : List ChannelView) (asked : List Numbered) → i ≡ length now → Ticking n old before i m now asked → Tickings n old before m now asked
ticking_done n old before i m now asked end t =
    let none : ticked m [] ≡ ticked m (states (drop i now)) = ap (λ (l : List ChannelView). ticked m (states l)) (sym (drop_of_length-le now {i = i} (omega (arith, end)))) in
    record {
      numbers = ap (λ (u : Ticked). u.next) none ∙ t.numbers;
      channels = sym (append-nil (states now)) ∙ ap₂ (λ (a : List ChannelView) (u : Ticked). states a ++ u.channels) (sym (take_all i now (omega (arith, end)))) none ∙ t.channels;
      asks = sym (append-nil asked) ∙ ap (λ (u : Ticked). asked ++ u.asks) none ∙ t.asks;
    }

-- waiting

pub waiting_more : (all now : List ChannelView) (i : ℕ) (x : ChannelView) → i < length now → x ≡ get_or now i x → waits x.state ≡ false → any_asks (states (drop i now)) ≡ any_asks (states all) → any_asks (states (drop (i + 1) now)) ≡ any_asks (states all)
waiting_more all now i x lt is non so =
    let c = cut now i x x lt is in
    ap (λ (k : ℕ). any_asks (states (drop k now))) (add-one i) ∙ ap (λ (l : List ChannelView). any_asks (states l)) c.next ∙ ap (λ (b : Bool). b || any_asks (states c.rest)) (sym non) ∙ ap (λ (l : List ChannelView). any_asks (states l)) (sym c.here) ∙ so

pub waiting_one : (all now : List ChannelView) (i : ℕ) (x : ChannelView) → i < length now → x ≡ get_or now i x → waits x.state ≡ true → any_asks (states (drop i now)) ≡ any_asks (states all) → true ≡ any_asks (states all)
waiting_one all now i x lt is sure so =
    let c = cut now i x x lt is in
    ap (λ (b : Bool). b || any_asks (states c.rest)) (sym sure) ∙ ap (λ (l : List ChannelView). any_asks (states l)) (sym c.here) ∙ so
