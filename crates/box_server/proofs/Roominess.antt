-- Channels with room for their tails, and with these.
use Rattle.std.proofs.Common.{◌≡◌, ◌≢◌, ℕ, zero, suc, ◌+◌, ◌-◌, ◌<◌, ◌≤◌, List, [], ◌∷◌, ◌++◌, length, take, drop, get_or, set, map as each, refl, sym, ap, ◌∙◌, arith, append-nil, inl, inr}
use Rattle.std.proofs.lemmas.Bool.{cases_lt}
use Rattle.std.proofs.lemmas.List.{get_or_append_left, get_or_push, get_or-set_same, get_or-set_other, get_or-drop, get_or-map, length_push, length-map, map-append, map-set, length-append, length-drop, map_more}
use Rattle.box_events.specs.BoxViews.{end_of}
use Rattle.box_server.specs.declared.channel.Channel.{Channel}
use Rattle.box_server.specs.Posting.{cut}
use Rattle.box_server.specs.Servers.{ChannelBox, channel_end, empty_channel}
use Rattle.box_server.specs.inner.Insides.{channel_view}
use Rattle.box_server.specs.inner.Drafted.{joined_channels, AreAligned}
use Rattle.box_server.specs.inner.Rooms.{HaveRoom, HaveEnds, emptied, grown}

-- ---- lists

get_or_default : {A : Type 0} (xs : List A) (i : ℕ) (d e : A) → i < length xs → get_or xs i d ≡ get_or xs i e
get_or_default [] i d e lt = absurd (omega (arith, lt))
get_or_default (x ∷ xs) zero d e lt = refl
get_or_default (x ∷ xs) (suc i) d e lt = get_or_default xs i d e (omega (arith, lt))

length_take : {A : Type 0} (i : ℕ) (xs : List A) → i ≤ length xs → length (take i xs) ≡ i
length_take zero xs le = refl
length_take (suc i) [] le = absurd (omega (arith, le))
length_take (suc i) (x ∷ xs) le = ap suc (length_take i xs (omega (arith, le)))

set_same : {A : Type 0} (xs : List A) (i : ℕ) (x : A) → i < length xs → x ≡ get_or xs i x → set xs i x ≡ xs
set_same [] i x lt is = absurd (omega (arith, lt))
set_same {A} (y ∷ xs) zero x lt is = ap (λ (z : A). z ∷ xs) is
set_same {A} (y ∷ xs) (suc i) x lt is = ap (λ (l : List A). y ∷ l) (set_same xs i x (omega (arith, lt)) is)

-- ---- room that is taken

apart : (k i : ℕ) → k < i → k ≢ i
apart k i lt e = absurd (omega (arith, lt, e))

pub room_next : (cs : List Channel) (ts : List ChannelBox) (i : ℕ) (c : Channel) (t : ChannelBox) → i < length cs → i < length ts → t ≡ get_or ts i t → length t.events ≤ c.events.spare → HaveRoom i cs ts → HaveRoom (i + 1) (set cs i c) ts
room_next cs ts i c t less there is fits h k d e lt = elim (cases_lt k i) [
  | inl below ↦
      let other = get_or-set_other cs i k c d (apart k i below) in
      let room = h k d e below in
      omega (arith, room, ap (λ (x : Channel). x.events.spare) other)
  | inr past ↦
      let same : k ≡ i = omega (arith, past, lt) in
      let at : get_or (set cs i c) k d ≡ c = ap (λ (n : ℕ). get_or (set cs i c) n d) same ∙ get_or-set_same cs i c d less in
      let own : get_or ts k e ≡ t = ap (λ (n : ℕ). get_or ts n e) same ∙ sym (is ∙ get_or_default ts i t e there) in
      omega (arith, fits, ap (λ (x : Channel). x.events.spare) at, ap (λ (x : ChannelBox). length x.events) own)
]

pub same_views : (cs first : List Channel) (i : ℕ) (c x : Channel) → i < length cs → x ≡ get_or cs i x → channel_view c ≡ channel_view x → each channel_view cs ≡ each channel_view first → each channel_view (set cs i c) ≡ each channel_view first
same_views cs first i c x less is same h =
    map-set channel_view cs i c ∙ set_same (each channel_view cs) i (channel_view c) (omega (arith, less, length-map cs channel_view)) (same ∙ ap channel_view is ∙ sym (get_or-map channel_view cs i x (channel_view c) less)) ∙ h

pub room_push : (cs : List Channel) (ts : List ChannelBox) (i : ℕ) (c : Channel) (t : ChannelBox) → i < length ts → length cs ≡ i → t ≡ get_or ts i t → length t.events ≤ c.events.spare → HaveRoom (length cs) cs ts → HaveRoom (length (cs ++ c ∷ [])) (cs ++ c ∷ []) ts
room_push cs ts i c t there number is fits h k d e lt = elim (cases_lt k (length cs)) [
  | inl below ↦
      let other = get_or_append_left cs (c ∷ []) d k below in
      let room = h k d e below in
      omega (arith, room, ap (λ (x : Channel). x.events.spare) other)
  | inr past ↦
      let same : length cs ≡ k = omega (arith, past, lt, length_push cs c) in
      let at = get_or_push cs c d k same in
      let own : get_or ts k e ≡ t = ap (λ (n : ℕ). get_or ts n e) (sym same ∙ number) ∙ sym (is ∙ get_or_default ts i t e there) in
      omega (arith, fits, ap (λ (x : Channel). x.events.spare) at, ap (λ (x : ChannelBox). length x.events) own)
]

-- ---- what comes is appended

pub grown_none : (cs : List ChannelBox) → grown cs [] ≡ cs
grown_none [] = refl
grown_none (c ∷ cs) = refl

pub grown_last : (cs ts : List ChannelBox) (t d : ChannelBox) → length ts < length cs → grown (set cs (length ts) (cut (record (get_or cs (length ts) d) { events = (get_or cs (length ts) d).events ++ t.events }))) ts ≡ grown cs (ts ++ t ∷ [])
grown_last [] ts t d lt = absurd (omega (arith, lt))
grown_last (c ∷ cs) [] t d lt = ap (λ (l : List ChannelBox). cut (record c { events = c.events ++ t.events }) ∷ l) (sym (grown_none cs))
grown_last (c ∷ cs) (u ∷ ts) t d lt = ap (λ (l : List ChannelBox). cut (record c { events = c.events ++ u.events }) ∷ l) (grown_last cs ts t d (omega (arith, lt)))

pub views_push : (cs new : List Channel) (ts : List ChannelBox) (i : ℕ) (c : Channel) (t : ChannelBox) → i < length ts → t ≡ get_or ts i t → new ≡ cs ++ c ∷ [] → channel_view c ≡ empty_channel t.id → each channel_view cs ≡ each emptied (take i ts) → each channel_view new ≡ each emptied (take (i + 1) ts)
views_push cs new ts i c t less is put empty h =
    ap (each channel_view) put ∙ map-append channel_view cs (c ∷ []) ∙ (λ j. h j ++ empty j ∷ []) ∙ ap (λ (x : ChannelBox). each emptied (take i ts) ++ emptied x ∷ []) is ∙ sym (map_more emptied ts i t less)

pub views_length : (cs ds : List Channel) → each channel_view cs ≡ each channel_view ds → length cs ≡ length ds
views_length cs ds h = sym (length-map cs channel_view) ∙ ap length h ∙ length-map ds channel_view

pub taken_length : (cs : List Channel) (ts : List ChannelBox) (i : ℕ) → i ≤ length ts → each channel_view cs ≡ each emptied (take i ts) → length cs ≡ i
taken_length cs ts i le h = sym (length-map cs channel_view) ∙ ap length h ∙ length-map (take i ts) emptied ∙ length_take i ts le

-- ---- one tail after the other, from the last

pub room_less : (cs : List Channel) (all ts : List ChannelBox) (c : Channel) (t : ChannelBox) → all ≡ ts ++ t ∷ [] → length all ≤ length cs → HaveRoom (length all) cs all → HaveRoom (length ts) (set cs (length ts) c) ts
room_less cs all ts c t is le h k d e lt =
    let longer : length all ≡ length ts + 1 = ap length is ∙ length_push ts t in
    let room = h k d e (omega (arith, longer, lt)) in
    let other = get_or-set_other cs (length ts) k c d (apart k (length ts) lt) in
    let own = ap (λ (l : List ChannelBox). get_or l k e) is ∙ get_or_append_left ts (t ∷ []) e k lt in
    omega (arith, room, ap (λ (x : Channel). x.events.spare) other, ap (λ (x : ChannelBox). length x.events) own)

pub ends_less : (cs : List Channel) (all ts : List ChannelBox) (c : Channel) (t : ChannelBox) → all ≡ ts ++ t ∷ [] → length all ≤ length cs → HaveEnds (length all) cs all → HaveEnds (length ts) (set cs (length ts) c) ts
ends_less cs all ts c t is le h k d e lt =
    let longer : length all ≡ length ts + 1 = ap length is ∙ length_push ts t in
    let other = get_or-set_other cs (length ts) k c d (apart k (length ts) lt) in
    let own = ap (λ (l : List ChannelBox). get_or l k e) is ∙ get_or_append_left ts (t ∷ []) e k lt in
    ap (λ (x : Channel). end_of x.events) other ∙ h k d e (omega (arith, longer, lt)) ∙ ap (λ (x : ChannelBox). x.first) own

pub last_meets : (cs : List Channel) (all ts : List ChannelBox) (c : Channel) (t : ChannelBox) (i : ℕ) → all ≡ ts ++ t ∷ [] → i ≡ length ts → c ≡ get_or cs i c → HaveRoom (length all) cs all → HaveEnds (length all) cs all → (length t.events ≤ c.events.spare) × (end_of c.events ≡ t.first)
last_meets cs all ts c t i is at own room ends =
    let longer : length all ≡ length ts + 1 = ap length is ∙ length_push ts t in
    let last : get_or all i t ≡ t = ap (λ (l : List ChannelBox). get_or l i t) is ∙ get_or_push ts t t i (sym at) in
    let fits = room i c t (omega (arith, longer, at)) in (
      omega (arith, fits, ap (λ (x : Channel). x.events.spare) own, ap (λ (x : ChannelBox). length x.events) last),
      ap (λ (x : Channel). end_of x.events) own ∙ ends i c t (omega (arith, longer, at)) ∙ ap (λ (x : ChannelBox). x.first) last,
    )

pub grown_one : (cs first : List Channel) (all ts whole : List ChannelBox) (c x : Channel) (t : ChannelBox) (i : ℕ) → all ≡ ts ++ t ∷ [] → i ≡ length ts → length all ≤ length cs → x ≡ get_or cs i x
    → channel_view c ≡ cut (record (channel_view x) { events = x.events.events ++ t.events }) → grown (each channel_view cs) all ≡ grown (each channel_view first) whole → grown (each channel_view (set cs i c)) ts ≡ grown (each channel_view first) whole
grown_one cs first all ts whole c x t i is at le own now h =
    let longer : length all ≡ length ts + 1 = ap length is ∙ length_push ts t in
    let view : get_or (each channel_view cs) (length ts) (channel_view x) ≡ channel_view x = get_or-map channel_view cs (length ts) x (channel_view x) (omega (arith, le, longer)) ∙ ap channel_view (ap (λ (n : ℕ). get_or cs n x) (sym at) ∙ sym own) in
    ap (λ (l : List ChannelBox). grown l ts) (ap (λ (n : ℕ). each channel_view (set cs n c)) at ∙ map-set channel_view cs (length ts) c)
    ∙ ap (λ (z : ChannelBox). grown (set (each channel_view cs) (length ts) z) ts) (now ∙ ap (λ (y : ChannelBox). cut (record y { events = y.events ++ t.events })) (sym view))
    ∙ grown_last (each channel_view cs) ts t (channel_view x) (omega (arith, le, longer, length-map cs channel_view))
    ∙ ap (grown (each channel_view cs)) (sym is) ∙ h

-- ---- channels that are opened first

grown_new : (ts : List ChannelBox) → AreAligned [] ts → grown (each emptied ts) ts ≡ each cut ts
grown_new [] a = refl
grown_new (t ∷ ts) a =
    let whole : record (emptied t) { events = [] ++ t.events } ≡ t = λ i. record { id = t.id; first = sym a.0 i; events = t.events } in
    λ i. cut (whole i) ∷ grown_new ts a.1 i

pub grown_joined : (cs ts : List ChannelBox) → AreAligned cs ts → grown (cs ++ each emptied (drop (length cs) ts)) ts ≡ each cut (joined_channels cs ts)
grown_joined [] ts a = grown_new ts a
grown_joined (c ∷ cs) [] a = absurd a
grown_joined (c ∷ cs) (t ∷ ts) a = ap (λ (l : List ChannelBox). cut (record c { events = c.events ++ t.events }) ∷ l) (grown_joined cs ts a.2)

pub aligned_length : (cs ts : List ChannelBox) → AreAligned cs ts → length cs ≤ length ts
aligned_length [] ts a = omega arith
aligned_length (c ∷ cs) [] a = absurd a
aligned_length (c ∷ cs) (t ∷ ts) a = let le = aligned_length cs ts a.2 in omega (arith, le)

new_ends : (ts : List ChannelBox) (k : ℕ) (d h : ChannelBox) → AreAligned [] ts → k < length ts → channel_end (get_or (each emptied ts) k d) ≡ (get_or ts k h).first
new_ends [] k d h a lt = absurd (omega (arith, lt))
new_ends (t ∷ ts) zero d h a lt = sym a.0
new_ends (t ∷ ts) (suc k) d h a lt = new_ends ts k d h a.1 (omega (arith, lt))

all_ends : (cs ts : List ChannelBox) (k : ℕ) (d h : ChannelBox) → AreAligned cs ts → k < length ts → channel_end (get_or (cs ++ each emptied (drop (length cs) ts)) k d) ≡ (get_or ts k h).first
all_ends [] ts k d h a lt = new_ends ts k d h a lt
all_ends (c ∷ cs) [] k d h a lt = absurd a
all_ends (c ∷ cs) (t ∷ ts) zero d h a lt = sym a.1
all_ends (c ∷ cs) (t ∷ ts) (suc k) d h a lt = all_ends cs ts k d h a.2 (omega (arith, lt))

-- the channels with those that are opened
pub all_views : (cs opened all : List Channel) (ts : List ChannelBox) → all ≡ cs ++ opened → each channel_view opened ≡ each emptied (drop (length cs) ts) → each channel_view all ≡ each channel_view cs ++ each emptied (drop (length (each channel_view cs)) ts)
all_views cs opened all ts is empty =
    ap (each channel_view) is ∙ map-append channel_view cs opened ∙ ap (λ (l : List ChannelBox). each channel_view cs ++ l) empty
    ∙ ap (λ (n : ℕ). each channel_view cs ++ each emptied (drop n ts)) (sym (length-map cs channel_view))

pub all_length : (cs opened all : List Channel) (ts : List ChannelBox) → all ≡ cs ++ opened → each channel_view opened ≡ each emptied (drop (length cs) ts) → length cs ≤ length ts → length all ≡ length ts
all_length cs opened all ts is empty le =
    let new : length opened ≡ length ts - length cs = sym (length-map opened channel_view) ∙ ap length empty ∙ length-map (drop (length cs) ts) emptied ∙ length-drop (length cs) ts in
    omega (arith, le, new, ap length is ∙ length-append cs opened)

pub all_end : (cs opened all : List Channel) (ts : List ChannelBox) → all ≡ cs ++ opened → each channel_view opened ≡ each emptied (drop (length cs) ts) → AreAligned (each channel_view cs) ts → HaveEnds (length ts) all ts
all_end cs opened all ts is empty a k d h lt =
    let le : length cs ≤ length ts = omega (arith, aligned_length (each channel_view cs) ts a, length-map cs channel_view) in
    sym (ap channel_end (get_or-map channel_view all k d (channel_view d) (omega (arith, lt, all_length cs opened all ts is empty le))))
    ∙ ap (λ (l : List ChannelBox). channel_end (get_or l k (channel_view d))) (all_views cs opened all ts is empty)
    ∙ all_ends (each channel_view cs) ts k (channel_view d) h a lt

get_or_past : {A : Type 0} (xs ys : List A) (k : ℕ) (d : A) → length xs ≤ k → get_or (xs ++ ys) k d ≡ get_or ys (k - length xs) d
get_or_past [] ys k d le = ap (λ (n : ℕ). get_or ys n d) (omega arith)
get_or_past (x ∷ xs) ys zero d le = absurd (omega (arith, le))
get_or_past (x ∷ xs) ys (suc k) d le = get_or_past xs ys k d (omega (arith, le)) ∙ ap (λ (n : ℕ). get_or ys n d) (omega arith)

pub all_room : (cs opened all : List Channel) (ts : List ChannelBox) → all ≡ cs ++ opened → length all ≡ length ts → HaveRoom (length cs) cs ts → HaveRoom (length opened) opened (drop (length cs) ts) → HaveRoom (length ts) all ts
all_room cs opened all ts is number old new k d h lt = elim (cases_lt k (length cs)) [
  | inl below ↦
      let room = old k d h below in
      let at : get_or all k d ≡ get_or cs k d = ap (λ (l : List Channel). get_or l k d) is ∙ get_or_append_left cs opened d k below in
      omega (arith, room, ap (λ (x : Channel). x.events.spare) at)
  | inr past ↦
      let sum = length-append cs opened in
      let room = new (k - length cs) d h (omega (arith, past, lt, number, ap length is, sum)) in
      let at : get_or all k d ≡ get_or opened (k - length cs) d = ap (λ (l : List Channel). get_or l k d) is ∙ get_or_past cs opened k d past in
      let own : get_or (drop (length cs) ts) (k - length cs) h ≡ get_or ts k h = get_or-drop (length cs) ts (k - length cs) h ∙ ap (λ (n : ℕ). get_or ts n h) (omega (arith, past)) in
      omega (arith, room, ap (λ (x : Channel). x.events.spare) at, ap (λ (x : ChannelBox). length x.events) own)
]

pub whole_list : {A : Type 0} (xs rest all : List A) → rest ≡ [] → xs ++ rest ≡ all → xs ≡ all
whole_list {A} xs rest all none is = sym (append-nil xs) ∙ ap (λ (l : List A). xs ++ l) (sym none) ∙ is
