-- A step of the channel at an index.
use Rattle.std.proofs.Common.{◌≡◌, ◌≢◌, ℕ, zero, suc, ◌+◌, ◌≤◌, ◌<◌, ℤ, List, [], ◌∷◌, length, take, get_or, set, Bool, true, false, cond, is_some, Option, Some, None, Result, Ok, Err, refl, sym, ap, ◌∙◌, subst, int_eq, arith}
use native.Mathlib.Numerals.{add-one}
use Rattle.box_events.specs.Events.{EventView, count_of}
use Rattle.box_events.specs.declared.replies.ChannelReply.{ChannelReply}
use Rattle.box_events.specs.declared.replies.ChannelReply.TheVariants.{Empty, Part, TooLong}
use Rattle.box_events.specs.Weaves.{woven_of}
use Rattle.pts_machine.specs.Steps.{extend, restart_at}
use Rattle.box_events.specs.declared.difference_fault.WeaveFault.{WeaveFault}
use Rattle.tl_base.specs.declared.fault.Fault.{Fault}
use Rattle.tl_base.specs.declared.fault.Fault.TheVariants.{Refused, Memory}
use Rattle.pts_machine.specs.States.{LaneState}
use Rattle.channel_box.specs.States.{ChannelState, ChannelView, states, has_id, first, spare_of}
use Rattle.channel_box.specs.Steps.{at_first, is_watched, asks_number, grown, replied, answered, answered_by, taken_by, taken}
use Rattle.channel_box.specs.Calls.{KeepsRoom, Comes, Replies}
use Rattle.channel_box.specs.Finding.{StandsAt, IsFirst}
use Rattle.channel_box.specs.Looks.{LaneIs}
use Rattle.channel_box.proofs.Ids.{eq_of, not_of, not_eq}

cond_none : {A : Type 0} (b : Bool) (x : A) (o : Option A) → cond b (Some x) o ≡ None → (b ≡ false) × (o ≡ None)
cond_none true x o e = absurd cc
cond_none false x o e = (refl, e)

-- looking for an index

next_none : (p : ChannelState → Bool) (vs : List ChannelView) (i : ℕ) (x : ChannelView) → i < length vs → x ≡ get_or vs i x → first p (states (take i vs)) ≡ None → p x.state ≡ false → first p (states (take (suc i) vs)) ≡ None
next_none p [] i x lt is none non = absurd (omega (arith, lt))
next_none p (v ∷ vs) zero x lt is none non = let n : p v.state ≡ false = ap (λ (y : ChannelView). p y.state) (sym is) ∙ non in rw n refl
next_none p (v ∷ vs) (suc i) x lt is none non =
    let n = cond_none (p v.state) v.state (first p (states (take i vs))) none in
    rw n.0 (next_none p vs i x (omega (arith, lt)) is n.1 non)

pub nobody_more : (p : ChannelState → Bool) (vs : List ChannelView) (i : ℕ) (x : ChannelView) → i < length vs → x ≡ get_or vs i x → first p (states (take i vs)) ≡ None → p x.state ≡ false → first p (states (take (i + 1) vs)) ≡ None
nobody_more p vs i x lt is none non = ap (λ (k : ℕ). first p (states (take k vs))) (add-one i) ∙ next_none p vs i x lt is none non

pub stands : (p : ChannelState → Bool) (vs : List ChannelView) (i : ℕ) (x : ChannelView) → i < length vs → x ≡ get_or vs i x → first p (states (take i vs)) ≡ None → p x.state ≡ true → StandsAt p vs i
stands p [] i x lt is none sure = absurd (omega (arith, lt))
stands p (v ∷ vs) zero x lt is none sure = ap (λ (y : ChannelView). p y.state) (sym is) ∙ sure
stands p (v ∷ vs) (suc i) x lt is none sure =
    let n = cond_none (p v.state) v.state (first p (states (take i vs))) none in
    (n.0, stands p vs i x (omega (arith, lt)) is n.1 sure)

pub none_of_all : (p : ChannelState → Bool) (vs : List ChannelView) (o : Option ℕ) → IsFirst p vs o → o ≡ None → first p (states vs) ≡ None
none_of_all p vs None f e = f
none_of_all p vs (Some i) f e = absurd cc

-- what stands at an index

pub within : (p : ChannelState → Bool) (vs : List ChannelView) (i : ℕ) → StandsAt p vs i → i < length vs
within p [] i at = absurd at
within p (v ∷ vs) zero at = omega arith
within p (v ∷ vs) (suc i) at = omega (arith, within p vs i at.1)

pub found : (p : ChannelState → Bool) (vs : List ChannelView) (i : ℕ) (x : ChannelView) → StandsAt p vs i → x ≡ get_or vs i x → first p (states vs) ≡ Some x.state
found p [] i x at is = absurd at
found p (v ∷ vs) zero x at is = rw at (ap (λ (y : ChannelView). Some y.state) (sym is))
found p (v ∷ vs) (suc i) x at is = rw at.0 (found p vs i x at.1 is)

pub watched_at : (vs : List ChannelView) (i : ℕ) (id : ℤ) → StandsAt (has_id id) vs i → is_watched (states vs) id ≡ true
watched_at [] i id at = absurd at
watched_at (v ∷ vs) zero id at = rw at refl
watched_at (v ∷ vs) (suc i) id at = rw at.0 (watched_at vs i id at.1)

pub stands_at : (q p : ChannelState → Bool) (us vs : List ChannelView) (i : ℕ) → q ≡ p → us ≡ vs → StandsAt q us i → StandsAt p vs i
stands_at q p us vs i same is at = subst (λ (l : List ChannelView). StandsAt p l i) is (subst (λ (r : ChannelState → Bool). StandsAt r us i) same at)

pub watched_where : (vs : List ChannelView) (id : ℤ) (o : Option ℕ) → IsFirst (has_id id) vs o → is_watched (states vs) id ≡ is_some o
watched_where vs id None none = ap is_some none
watched_where vs id (Some i) at = watched_at vs i id at

pub asked_where : (p : ChannelState → Bool) (vs : List ChannelView) (o : Option ℕ) → IsFirst p vs o → is_some o ≡ is_some (first p (states vs))
asked_where p vs None none = sym (ap is_some none)
asked_where p [] (Some i) at = absurd at
asked_where p (v ∷ vs) (Some zero) at = rw at refl
asked_where p (v ∷ vs) (Some (suc i)) at = rw at.0 (asked_where p vs (Some i) at.1)

pub unwatched : (cs : List ChannelState) (id : ℤ) → first (has_id id) cs ≡ None → is_watched cs id ≡ false
unwatched cs id none = ap is_some none

pub stepped : (p : ChannelState → Bool) (f : ChannelState → ChannelState) (vs : List ChannelView) (i : ℕ) (x y : ChannelView) → StandsAt p vs i → x ≡ get_or vs i x → y.state ≡ f x.state → states (set vs i y) ≡ at_first p f (states vs)
stepped p f [] i x y at is step = absurd at
stepped p f (v ∷ vs) zero x y at is step = rw at (ap (λ (c : ChannelState). c ∷ states vs) (step ∙ ap (λ (z : ChannelView). f z.state) is))
stepped p f (v ∷ vs) (suc i) x y at is step = rw at.0 (ap (λ (cs : List ChannelState). v.state ∷ cs) (stepped p f vs i x y at.1 is step))

pub unmoved : (p : ChannelState → Bool) (f : ChannelState → ChannelState) (cs : List ChannelState) → first p cs ≡ None → cs ≡ at_first p f cs
unmoved p f [] none = refl
unmoved p f (c ∷ cs) none = let n = cond_none (p c) c (first p cs) none in rw n.0 (ap (λ (ds : List ChannelState). c ∷ ds) (unmoved p f cs n.1))

-- room

cond_le : (b : Bool) (k m n r s : ℕ) → m ≤ n + k → r ≤ s + k → cond b m r ≤ cond b n s + k
cond_le true k m n r s p q = p
cond_le false k m n r s p q = q

room_by : (vs : List ChannelView) (i k : ℕ) (x y : ChannelView) → x ≡ get_or vs i x → y.state.id ≡ x.state.id → x.spare ≤ y.spare + k → (id : ℤ) → spare_of vs id ≤ spare_of (set vs i y) id + k
room_by [] i k x y is same le id = omega arith
room_by (v ∷ vs) zero k x y is same le id =
    let one : y.state.id ≡ v.state.id = same ∙ ap (λ (z : ChannelView). z.state.id) is in
    let more : v.spare ≤ y.spare + k = subst (λ (n : ℕ). n ≤ y.spare + k) (ap (λ (z : ChannelView). z.spare) is) le in
    subst (λ (j : ℤ). cond (int_eq v.state.id id) v.spare (spare_of vs id) ≤ cond (int_eq j id) y.spare (spare_of vs id) + k) (sym one)
    (cond_le (int_eq v.state.id id) k v.spare y.spare (spare_of vs id) (spare_of vs id) more (omega arith))
room_by (v ∷ vs) (suc i) k x y is same le id =
    cond_le (int_eq v.state.id id) k v.spare v.spare (spare_of vs id) (spare_of (set vs i y) id) (omega arith) (room_by vs i k x y is same le id)

pub room_kept : (vs : List ChannelView) (i : ℕ) (x y : ChannelView) → x ≡ get_or vs i x → y.state.id ≡ x.state.id → x.spare ≤ y.spare → KeepsRoom vs (set vs i y)
room_kept vs i x y is same le = λ id. let r = room_by vs i 0 x y is same (omega (arith, le)) id in omega (arith, r)

pub room_less : (vs : List ChannelView) (i : ℕ) (x y : ChannelView) (id : ℤ) → x ≡ get_or vs i x → y.state.id ≡ x.state.id → x.spare ≤ y.spare + 1 → spare_of vs id ≤ spare_of (set vs i y) id + 1
room_less vs i x y id is same le = room_by vs i 1 x y is same le id

pub room_of_others : (vs : List ChannelView) (i : ℕ) (x y : ChannelView) (id k : ℤ) → StandsAt (has_id id) vs i → x ≡ get_or vs i x → y.state.id ≡ x.state.id → int_eq k id ≡ false → spare_of vs k ≤ spare_of (set vs i y) k
room_of_others [] i x y id k at is same non = absurd at
room_of_others (v ∷ vs) zero x y id k at is same non =
    let here : v.state.id ≡ id = eq_of v.state.id id at in
    let one : y.state.id ≡ v.state.id = same ∙ ap (λ (z : ChannelView). z.state.id) is in
    let other : int_eq v.state.id k ≡ false = not_eq v.state.id k (λ e. not_of k id non (sym e ∙ here)) in
    let other' : int_eq y.state.id k ≡ false = ap (λ (j : ℤ). int_eq j k) one ∙ other in
    rw (other, other') (omega arith)
room_of_others (v ∷ vs) (suc i) x y id k at is same non =
    let rest = room_of_others vs i x y id k at.1 is same non in
    let r = cond_le (int_eq v.state.id k) 0 v.spare v.spare (spare_of vs k) (spare_of (set vs i y) k) (omega arith) (omega (arith, rest)) in omega (arith, r)

pub spare_at : (vs : List ChannelView) (i : ℕ) (x : ChannelView) (id : ℤ) → StandsAt (has_id id) vs i → x ≡ get_or vs i x → spare_of vs id ≡ x.spare
spare_at [] i x id at is = absurd at
spare_at (v ∷ vs) zero x id at is = rw at (ap (λ (z : ChannelView). z.spare) (sym is))
spare_at (v ∷ vs) (suc i) x id at is = rw at.0 (spare_at vs i x id at.1 is)

pub room_for_one : (vs : List ChannelView) (i : ℕ) (x : ChannelView) (id : ℤ) → StandsAt (has_id id) vs i → x ≡ get_or vs i x → (is_watched (states vs) id ≡ true → 0 < spare_of vs id) → 0 < x.spare
room_for_one vs i x id at is room = subst (λ (n : ℕ). 0 < n) (spare_at vs i x id at is) (room (watched_at vs i id at))

-- what is told

pub lane_found : (o : Option ChannelState) (c : ChannelState) (t : LaneState EventView) → o ≡ Some c → t ≡ c.lane → LaneIs o t
lane_found None c t is same = absurd cc
lane_found (Some d) c t is same = let one : d ≡ c = cc in same ∙ ap (λ (z : ChannelState). z.lane) (sym one)

-- answers

set_same : (vs : List ChannelView) (i : ℕ) (x y : ChannelView) → x ≡ get_or vs i x → y.state ≡ x.state → states (set vs i y) ≡ states vs
set_same [] i x y is same = refl
set_same (v ∷ vs) zero x y is same = ap (λ (c : ChannelState). c ∷ states vs) (same ∙ ap (λ (z : ChannelView). z.state) is)
set_same (v ∷ vs) (suc i) x y is same = ap (λ (cs : List ChannelState). v.state ∷ cs) (set_same vs i x y is same)

pub states_kept : (vs : List ChannelView) (i : ℕ) (x y : ChannelView) → x ≡ get_or vs i x → y.state ≡ x.state → states (set vs i y) ≡ states vs
states_kept = set_same

some_no : {A : Type 0} (o : Option A) (x : A) → o ≡ Some x → o ≢ None
some_no o x is none = cc

grown_id : (x : ChannelState) (last : Bool) (o : Result (List EventView) WeaveFault) (y : ChannelState) → grown x last o ≡ Ok y → y.id ≡ x.id
grown_id x last (Ok events) y is = let one : record x { lane = extend count_of x.lane events last } ≡ y = cc in ap (λ (z : ChannelState). z.id) (sym one)
grown_id x last (Err cause) y is = absurd cc

taken_id : (x : ChannelState) (r : ChannelReply) (y : ChannelState) → replied x r ≡ Ok y → y.id ≡ x.id
taken_id x (Empty pts last) y is = grown_id x last (woven_of x.lane.at pts [] []) y is
taken_id x (Part pts news others last) y is = grown_id x last (woven_of x.lane.at pts news others) y is
taken_id x (TooLong pts recent last) y is = let one : record x { lane = restart_at count_of x.lane pts; recent = recent } ≡ y = cc in ap (λ (z : ChannelState). z.id) (sym one)

pub replied_id : (x : ChannelState) (r : ChannelReply) (result : Result (Unit {0}) (Fault WeaveFault)) (y : ChannelState) → Comes x (replied x r) result y → y.id ≡ x.id
replied_id x r (Ok done) y comes = taken_id x r y comes
replied_id x r (Err (Refused cause)) y comes = ap (λ (z : ChannelState). z.id) comes.1
replied_id x r (Err Memory) y comes = ap (λ (z : ChannelState). z.id) comes

pub replies_err : (vs : List ChannelView) (n i : ℕ) (r : ChannelReply) (x y : ChannelView) (fault : Fault WeaveFault) → StandsAt (asks_number n) vs i → x ≡ get_or vs i x → Comes x.state (replied x.state r) (Err fault) y.state → Replies vs n r (Err fault) (set vs i y)
replies_err vs n i r x y (Refused cause) at is comes = (ap (answered_by (states vs) n r) (found (asks_number n) vs i x at is) ∙ ap (taken_by (states vs) n) comes.0, set_same vs i x y is comes.1)
replies_err vs n i r x y Memory at is comes = (some_no (first (asks_number n) (states vs)) x.state (found (asks_number n) vs i x at is), set_same vs i x y is comes)

pub replies_ok : (vs : List ChannelView) (n i : ℕ) (r : ChannelReply) (x y : ChannelView) → StandsAt (asks_number n) vs i → x ≡ get_or vs i x → replied x.state r ≡ Ok y.state → answered (states vs) n r ≡ taken (states (set vs i y))
replies_ok vs n i r x y at is step =
    ap (answered_by (states vs) n r) (found (asks_number n) vs i x at is) ∙ ap (taken_by (states vs) n) step
    ∙ ap taken (sym (stepped (asks_number n) (λ _. y.state) vs i x y at is refl))
