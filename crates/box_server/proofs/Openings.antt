-- The channels that posts open.
use Rattle.std.proofs.Common.{◌≡◌, ℕ, ℤ, ◌<◌, ◌≤◌, List, [], ◌∷◌, ◌++◌, Bool, true, false, ltb, ◌||◌, Some, if◌then◌else◌, length, refl, sym, ap, ◌∙◌, arith}
use Rattle.std.specs.List.{list_any}
use Rattle.std.specs.Ordering.{int_eq}
use Rattle.std.proofs.lemmas.Bool.Decides.{nat_tests}
use Rattle.std.proofs.lemmas.List.{length-map}
use Rattle.box_events.specs.declared.limits.TheConstants.{MAX_CHANNELS}
use Rattle.box_events.specs.Events.{EventView}
use Rattle.box_server.specs.Servers.{ChannelBox, ServerState}
use Rattle.box_server.specs.Entries.{Entry, to_common, to_secret, to_channel, to_settings}
use Rattle.box_server.specs.Posting.{with_event, applied, applied_all}
use Rattle.box_server.specs.inner.Opening.{ids_in, channel_of, NotesId}
use Rattle.box_server.proofs.Tailing.{more}

any_first : (a b : Bool) → a ≡ true → (a || b) ≡ true
any_first a b e = ap (λ (x : Bool). x || b) e

any_rest : (a b : Bool) → a ≡ false → (a || b) ≡ b
any_rest a b e = ap (λ (x : Bool). x || b) e

cons_if : (b : Bool) (x : ℤ) (l m : List ℤ) → x ∷ (if b then l else m) ≡ (if b then x ∷ l else x ∷ m)
cons_if true x l m = refl
cons_if false x l m = refl

ids_by : (c : ChannelBox) (cs : List ChannelBox) (id : ℤ) (e : EventView) (t : Bool) → int_eq c.id id ≡ t → ids_in (with_event cs id e) ≡ (if list_any (λ i. int_eq i id) (ids_in cs) then ids_in cs else ids_in cs ++ id ∷ [])
    → ids_in (if t then more c e ∷ cs else c ∷ with_event cs id e) ≡ (if list_any (λ i. int_eq i id) (ids_in (c ∷ cs)) then ids_in (c ∷ cs) else ids_in (c ∷ cs) ++ id ∷ [])
ids_by c cs id e true is rest = ap (λ (b : Bool). if b then ids_in (c ∷ cs) else ids_in (c ∷ cs) ++ id ∷ []) (sym (any_first (int_eq c.id id) (list_any (λ i. int_eq i id) (ids_in cs)) is))
ids_by c cs id e false is rest =
    ap (λ (l : List ℤ). c.id ∷ l) rest ∙ cons_if (list_any (λ i. int_eq i id) (ids_in cs)) c.id (ids_in cs) (ids_in cs ++ id ∷ [])
    ∙ ap (λ (b : Bool). if b then ids_in (c ∷ cs) else ids_in (c ∷ cs) ++ id ∷ []) (sym (any_rest (int_eq c.id id) (list_any (λ i. int_eq i id) (ids_in cs)) is))

pub ids_with : (cs : List ChannelBox) (id : ℤ) (e : EventView) → ids_in (with_event cs id e) ≡ (if list_any (λ i. int_eq i id) (ids_in cs) then ids_in cs else ids_in cs ++ id ∷ [])
ids_with [] id e = refl
ids_with (c ∷ cs) id e = ids_by c cs id e (int_eq c.id id) refl (ids_with cs id e)

pub known_noted : (ids : List ℤ) (id : ℤ) (x : Entry) → Some id ≡ channel_of x → true ≡ list_any (λ i. int_eq i id) ids → NotesId ids ids x
known_noted ids id (to_common e) is there s has = absurd cc
known_noted ids id (to_secret body) is there s has = absurd cc
known_noted ids id (to_channel j e) is there s has =
    let same : id ≡ j = cc in
    ids_with s.channels j e ∙ ap (λ (l : List ℤ). if list_any (λ i. int_eq i j) l then l else l ++ j ∷ []) has
    ∙ ap (λ (z : ℤ). if list_any (λ i. int_eq i z) ids then ids else ids ++ z ∷ []) (sym same)
    ∙ ap (λ (b : Bool). if b then ids else ids ++ id ∷ []) (sym there)
known_noted ids id (to_settings x) is there s has = absurd cc

pub new_noted : (ids new : List ℤ) (id : ℤ) (x : Entry) → Some id ≡ channel_of x → false ≡ list_any (λ i. int_eq i id) ids → new ≡ ids ++ id ∷ [] → NotesId ids new x
new_noted ids new id (to_common e) is there put s has = absurd cc
new_noted ids new id (to_secret body) is there put s has = absurd cc
new_noted ids new id (to_channel j e) is there put s has =
    let same : id ≡ j = cc in
    ids_with s.channels j e ∙ ap (λ (l : List ℤ). if list_any (λ i. int_eq i j) l then l else l ++ j ∷ []) has
    ∙ ap (λ (z : ℤ). if list_any (λ i. int_eq i z) ids then ids else ids ++ z ∷ []) (sym same)
    ∙ ap (λ (b : Bool). if b then ids else ids ++ id ∷ []) (sym there) ∙ sym put
new_noted ids new id (to_settings x) is there put s has = absurd cc

-- ---- posts, one by one

pub record Opened (s : ServerState) (all : List Entry) (ids : List ℤ) (rest : List Entry) : Type 0 where
  pub now : ServerState
  pub has : ids_in now.channels ≡ ids
  pub few : length ids ≤ MAX_CHANNELS
  pub applies : applied_all now rest ≡ applied_all s all

pub opened_none : (s : ServerState) (all : List Entry) (ids : List ℤ) (cs : List ChannelBox) → ids ≡ ids_in cs → length cs ≤ MAX_CHANNELS → s.channels ≡ cs → Opened s all ids all
opened_none s all ids cs is few has = record { now = s; has = ap ids_in has ∙ sym is; few = omega (arith, few, ap length is, length-map cs (λ (c : ChannelBox). c.id)); applies = refl }

pub opened_one : (s : ServerState) (all xs rest : List Entry) (x : Entry) (old new : List ℤ) → xs ≡ x ∷ rest → NotesId old new x → length new ≤ MAX_CHANNELS → Opened s all old xs → Opened s all new rest
opened_one s all xs rest x old new next notes few o = record { now = applied o.now x; has = notes o.now o.has; few = few; applies = ap (applied_all o.now) (sym next) ∙ o.applies }

length_by : (c : ChannelBox) (cs : List ChannelBox) (id : ℤ) (e : EventView) (t : Bool) → length cs ≤ length (with_event cs id e) → length (c ∷ cs) ≤ length (if t then more c e ∷ cs else c ∷ with_event cs id e)
length_by c cs id e true le = omega arith
length_by c cs id e false le = omega (arith, le)

length_with : (cs : List ChannelBox) (id : ℤ) (e : EventView) → length cs ≤ length (with_event cs id e)
length_with [] id e = omega arith
length_with (c ∷ cs) id e = length_by c cs id e (int_eq c.id id) (length_with cs id e)

longer_all : (s : ServerState) (xs : List Entry) → length s.channels ≤ length (applied_all s xs).channels
longer_all s [] = omega arith
longer_all s (to_common e ∷ xs) = longer_all (applied s (to_common e)) xs
longer_all s (to_secret body ∷ xs) = longer_all (applied s (to_secret body)) xs
longer_all s (to_channel id e ∷ xs) = let le = longer_all (applied s (to_channel id e)) xs in let one = length_with s.channels id e in omega (arith, le, one)
longer_all s (to_settings x ∷ xs) = longer_all (applied s (to_settings x)) xs

past_limit : (n : ℕ) → MAX_CHANNELS < n → true ≡ ltb MAX_CHANNELS n
past_limit n lt = grind (arith, nat_tests)

within_limit : (n : ℕ) → n ≤ MAX_CHANNELS → false ≡ ltb MAX_CHANNELS n
within_limit n le = grind (arith, nat_tests)

pub opened_many : (s : ServerState) (all xs rest : List Entry) (x : Entry) (old new : List ℤ) → xs ≡ x ∷ rest → NotesId old new x → MAX_CHANNELS < length new → Opened s all old xs → true ≡ ltb MAX_CHANNELS (length (applied_all s all).channels)
opened_many s all xs rest x old new next notes many o =
    let t : ServerState = applied o.now x in
    let has : ids_in t.channels ≡ new = notes o.now o.has in
    let number : length t.channels ≡ length new = sym (length-map t.channels (λ (c : ChannelBox). c.id)) ∙ ap length has in
    let last : applied_all t rest ≡ applied_all s all = ap (applied_all o.now) (sym next) ∙ o.applies in
    let le = longer_all t rest in
    past_limit (length (applied_all s all).channels) (omega (arith, many, number, le, ap (λ (u : ServerState). length u.channels) last))

pub opened_few : (s : ServerState) (all rest : List Entry) (ids : List ℤ) → rest ≡ [] → Opened s all ids rest → false ≡ ltb MAX_CHANNELS (length (applied_all s all).channels)
opened_few s all rest ids none o =
    let last : o.now ≡ applied_all s all = ap (applied_all o.now) (sym none) ∙ o.applies in
    let number : length o.now.channels ≡ length ids = sym (length-map o.now.channels (λ (c : ChannelBox). c.id)) ∙ ap length o.has in
    let few = o.few in
    within_limit (length (applied_all s all).channels) (omega (arith, few, number, ap (λ (u : ServerState). length u.channels) last))
