-- What an entry adds to a draft.
use Rattle.std.proofs.Common.{◌≡◌, ℕ, ℤ, ◌+◌, ◌<◌, ◌≤◌, List, [], ◌∷◌, ◌++◌, Bool, true, false, ltb, Some, Ok, Err, if◌then◌else◌, length, refl, sym, ap, ◌∙◌, subst, arith, append_assoc, append-nil, inl, inr, ◌||◌, ◌⊎◌, eqb, drop, get_or}
use Rattle.std.specs.List.{list_any}
use Rattle.std.specs.Ordering.{int_eq}
use Rattle.std.proofs.lemmas.Bool.Decides.{nat_tests}
use Rattle.std.proofs.lemmas.List.{length_push, length-append}
use Rattle.box_events.specs.declared.limits.TheConstants.{MAX_END, MAX_IDS}
use Rattle.box_events.specs.declared.positions.LaneName.{LaneName}
use Rattle.box_events.specs.declared.positions.LaneName.TheVariants.{Common, Secret, Channel}
use Rattle.box_events.specs.declared.requests.Post.{Post}
use Rattle.box_events.specs.declared.settings.Setting.{Setting}
use Rattle.box_events.specs.declared.updates.Update.TheVariants.{Common as CommonUpdate, Secret as SecretUpdate, Channel as ChannelUpdate, Setting as SettingUpdate}
use Rattle.box_events.specs.Events.{EventView, added, count_of}
use Rattle.box_events.specs.Boxes.{ending}
use Rattle.box_events.specs.SettingLists.{Dated}
use Rattle.box_events.proofs.Boundaries.{ending-append}
use Rattle.box_server.specs.declared.draft.Draft.{Draft}
use Rattle.box_server.specs.declared.fault.PostFault.{PostFault}
use Rattle.box_server.specs.declared.fault.PostFault.TheVariants.{BoxFull, Memory}
use Rattle.box_server.specs.Servers.{ChannelBox, ServerState, channel_end, channel_in, lane_end}
use Rattle.box_server.specs.Entries.{Entry, to_common, to_secret, to_channel, to_settings, lane_of, raise_of, is_event, entry_of, entries_of}
use Rattle.box_server.specs.Posting.{with_event, applied, applied_all, update_of, updates_of, dated_with}
use Rattle.box_server.specs.Refusing.{box_full}
use Rattle.box_server.specs.inner.Drafts.{Refuses, AddsTo, AddsToChannel}
use Rattle.box_server.specs.inner.Drafted.{joined_channels, joined, AreAligned, Fits, AddsEntry, Adds, AddsEntries, HasIds}
use Rattle.box_server.proofs.Tailing.{more}
use Rattle.box_server.proofs.KeyCounts.{next_of, none_left}

-- ---- channels

joined_by : (c t : ChannelBox) (cs ts : List ChannelBox) (id : ℤ) (e : EventView) (b : Bool) → int_eq t.id id ≡ b → t.id ≡ c.id → joined_channels cs (with_event ts id e) ≡ with_event (joined_channels cs ts) id e
    → joined_channels (c ∷ cs) (with_event (t ∷ ts) id e) ≡ with_event (joined_channels (c ∷ cs) (t ∷ ts)) id e
joined_by c t cs ts id e true is same rest =
    ap (λ (x : Bool). joined_channels (c ∷ cs) (if x then more t e ∷ ts else t ∷ with_event ts id e)) is
    ∙ ap (λ (l : List EventView). record c { events = l } ∷ joined_channels cs ts) (sym (append_assoc c.events t.events (e ∷ [])))
    ∙ ap (λ (x : Bool). if x then record c { events = (c.events ++ t.events) ++ e ∷ [] } ∷ joined_channels cs ts else record c { events = c.events ++ t.events } ∷ with_event (joined_channels cs ts) id e) (sym (ap (λ (z : ℤ). int_eq z id) (sym same) ∙ is))
joined_by c t cs ts id e false is same rest =
    ap (λ (x : Bool). joined_channels (c ∷ cs) (if x then more t e ∷ ts else t ∷ with_event ts id e)) is
    ∙ ap (λ (l : List ChannelBox). record c { events = c.events ++ t.events } ∷ l) rest
    ∙ ap (λ (x : Bool). if x then record c { events = (c.events ++ t.events) ++ e ∷ [] } ∷ joined_channels cs ts else record c { events = c.events ++ t.events } ∷ with_event (joined_channels cs ts) id e) (sym (ap (λ (z : ℤ). int_eq z id) (sym same) ∙ is))

pub joined_with : (cs ts : List ChannelBox) (id : ℤ) (e : EventView) → AreAligned cs ts → joined_channels cs (with_event ts id e) ≡ with_event (joined_channels cs ts) id e
joined_with [] ts id e a = refl
joined_with (c ∷ cs) [] id e a = absurd a
joined_with (c ∷ cs) (t ∷ ts) id e a = joined_by c t cs ts id e (int_eq t.id id) refl a.0 (joined_with cs ts id e a.2)

new_with : (t : ChannelBox) (ts : List ChannelBox) (id : ℤ) (e : EventView) (b : Bool) → int_eq t.id id ≡ b → t.first ≡ 0 → AreAligned [] ts → AreAligned [] (with_event ts id e) → AreAligned [] (if b then more t e ∷ ts else t ∷ with_event ts id e)
new_with t ts id e true is first a rest = (first, a)
new_with t ts id e false is first a rest = (first, rest)

old_with : (c t : ChannelBox) (cs ts : List ChannelBox) (id : ℤ) (e : EventView) (b : Bool) → int_eq t.id id ≡ b → AreAligned (c ∷ cs) (t ∷ ts) → AreAligned cs (with_event ts id e) → AreAligned (c ∷ cs) (if b then more t e ∷ ts else t ∷ with_event ts id e)
old_with c t cs ts id e true is a rest = a
old_with c t cs ts id e false is a rest = (a.0, a.1, rest)

pub aligned_with : (cs ts : List ChannelBox) (id : ℤ) (e : EventView) → AreAligned cs ts → AreAligned cs (with_event ts id e)
aligned_with [] [] id e a = (refl, tt)
aligned_with [] (t ∷ ts) id e a = new_with t ts id e (int_eq t.id id) refl a.0 a.1 (aligned_with [] ts id e a.1)
aligned_with (c ∷ cs) [] id e a = absurd a
aligned_with (c ∷ cs) (t ∷ ts) id e a = old_with c t cs ts id e (int_eq t.id id) refl a (aligned_with cs ts id e a.2)

end_by : (c t : ChannelBox) (cs ts : List ChannelBox) (id : ℤ) (b : Bool) → int_eq t.id id ≡ b → t.id ≡ c.id → t.first ≡ channel_end c → channel_end (channel_in ts id) ≡ channel_end (channel_in (joined_channels cs ts) id)
    → channel_end (channel_in (t ∷ ts) id) ≡ channel_end (channel_in (joined_channels (c ∷ cs) (t ∷ ts)) id)
end_by c t cs ts id true is same first rest =
    let all = ending-append c.events t.events in
    let sum : channel_end t ≡ c.first + ending (c.events ++ t.events) = omega (arith, first, all) in
    ap (λ (x : Bool). channel_end (if x then t else channel_in ts id)) is ∙ sum
    ∙ ap (λ (x : Bool). channel_end (if x then record c { events = c.events ++ t.events } else channel_in (joined_channels cs ts) id)) (sym (ap (λ (z : ℤ). int_eq z id) (sym same) ∙ is))
end_by c t cs ts id false is same first rest =
    ap (λ (x : Bool). channel_end (if x then t else channel_in ts id)) is ∙ rest
    ∙ ap (λ (x : Bool). channel_end (if x then record c { events = c.events ++ t.events } else channel_in (joined_channels cs ts) id)) (sym (ap (λ (z : ℤ). int_eq z id) (sym same) ∙ is))

pub end_in : (cs ts : List ChannelBox) (id : ℤ) → AreAligned cs ts → channel_end (channel_in ts id) ≡ channel_end (channel_in (joined_channels cs ts) id)
end_in [] ts id a = refl
end_in (c ∷ cs) [] id a = absurd a
end_in (c ∷ cs) (t ∷ ts) id a = end_by c t cs ts id (int_eq t.id id) refl a.0 a.1 (end_in cs ts id a.2)

-- ---- where lanes end

pub common_end : (s : ServerState) (d : Draft) → Fits s d → channel_end d.common ≡ lane_end (joined s d) Common
common_end s d f = let sum = ending-append s.common d.common.events in omega (arith, f.common, sum)

pub secret_end : (s : ServerState) (d : Draft) → Fits s d → channel_end d.secret ≡ lane_end (joined s d) Secret
secret_end s d f = let sum = ending-append s.secret d.secret.events in omega (arith, f.secret, sum)

channel_ends : (s : ServerState) (d : Draft) (id : ℤ) → Fits s d → channel_end (channel_in d.channels.items id) ≡ lane_end (joined s d) (Channel id)
channel_ends s d id f = end_in s.channels d.channels.items id f.channels

-- ---- entries

refused : (lane : LaneName) (a b raise : ℕ) (f : PostFault) → a ≡ b → Refuses lane a raise f → Refuses lane b raise f
refused lane a b raise f is r = subst (λ (n : ℕ). Refuses lane n raise f) is r

pub refuses_common : (s : ServerState) (old new : Draft) (t : ChannelBox) (e : EventView) (f : PostFault) → AddsTo Common old.common t e (Err f) → Fits s old → Adds s old new (to_common e) (Err f)
refuses_common s old new t e f a fits = refused Common (channel_end old.common) (lane_end (joined s old) Common) (count_of e) f (common_end s old fits) a

pub refuses_secret : (s : ServerState) (old new : Draft) (t : ChannelBox) (body : List ℕ) (f : PostFault) → AddsTo Secret old.secret t (added body) (Err f) → Fits s old → Adds s old new (to_secret body) (Err f)
refuses_secret s old new t body f a fits = refused Secret (channel_end old.secret) (lane_end (joined s old) Secret) 1 f (secret_end s old fits) a

pub refuses_channel : (s : ServerState) (old new : Draft) (ts : List ChannelBox) (id : ℤ) (e : EventView) (f : PostFault) → AddsToChannel old.channels.items ts id e (Err f) → Fits s old → Adds s old new (to_channel id e) (Err f)
refuses_channel s old new ts id e f a fits = refused (Channel id) (channel_end (channel_in old.channels.items id)) (lane_end (joined s old) (Channel id)) (count_of e) f (channel_ends s old id fits) a

pub adds_common : (s : ServerState) (old new : Draft) (e : EventView) (end : ℕ) → new ≡ record old { common = new.common; updates = new.updates } → AddsTo Common old.common new.common e (Ok end) → new.updates ≡ old.updates ++ CommonUpdate e end ∷ [] → Fits s old → AddsEntry s old new (to_common e)
adds_common s old new e end same a us f =
    let t : ServerState = joined s old in
    let stops = common_end s old f in
    subst (λ (d : Draft). AddsEntry s old d (to_common e)) (sym same) (record {
      fits = record { date = f.date; common = ap (λ (c : ChannelBox). c.first) a.0 ∙ f.common; secret = f.secret; channels = f.channels; seq = f.seq; limit = f.limit };
      applies = λ i. record t { common = (ap (λ (c : ChannelBox). s.common ++ c.events) a.0 ∙ sym (append_assoc s.common old.common.events (e ∷ []))) i };
      updates = us ∙ ap (λ (n : ℕ). old.updates ++ CommonUpdate e n ∷ []) (a.1 ∙ ap (λ (n : ℕ). n + count_of e) stops);
      room = ap (λ (n : ℕ). ltb MAX_END (n + count_of e)) (sym stops) ∙ a.2;
    })

pub adds_secret : (s : ServerState) (old new : Draft) (body : List ℕ) (end : ℕ) → new ≡ record old { secret = new.secret; updates = new.updates } → AddsTo Secret old.secret new.secret (added body) (Ok end) → new.updates ≡ old.updates ++ SecretUpdate body end ∷ [] → Fits s old
    → AddsEntry s old new (to_secret body)
adds_secret s old new body end same a us f =
    let t : ServerState = joined s old in
    let stops = secret_end s old f in
    subst (λ (d : Draft). AddsEntry s old d (to_secret body)) (sym same) (record {
      fits = record { date = f.date; common = f.common; secret = ap (λ (c : ChannelBox). c.first) a.0 ∙ f.secret; channels = f.channels; seq = f.seq; limit = f.limit };
      applies = λ i. record t { secret = (ap (λ (c : ChannelBox). s.secret ++ c.events) a.0 ∙ sym (append_assoc s.secret old.secret.events (added body ∷ []))) i };
      updates = us ∙ ap (λ (n : ℕ). old.updates ++ SecretUpdate body n ∷ []) (a.1 ∙ ap (λ (n : ℕ). n + 1) stops);
      room = ap (λ (n : ℕ). ltb MAX_END (n + 1)) (sym stops) ∙ a.2;
    })

pub adds_channel : (s : ServerState) (old new : Draft) (id : ℤ) (e : EventView) (end : ℕ) → new ≡ record old { channels = new.channels; updates = new.updates } → AddsToChannel old.channels.items new.channels.items id e (Ok end)
    → new.updates ≡ old.updates ++ ChannelUpdate id e end ∷ [] → Fits s old → AddsEntry s old new (to_channel id e)
adds_channel s old new id e end same a us f =
    let t : ServerState = joined s old in
    let stops = channel_ends s old id f in
    subst (λ (d : Draft). AddsEntry s old d (to_channel id e)) (sym same) (record {
      fits = record { date = f.date; common = f.common; secret = f.secret; channels = subst (AreAligned s.channels) (sym a.0) (aligned_with s.channels old.channels.items id e f.channels); seq = f.seq; limit = f.limit };
      applies = λ i. record t { channels = (ap (joined_channels s.channels) a.0 ∙ joined_with s.channels old.channels.items id e f.channels) i };
      updates = us ∙ ap (λ (n : ℕ). old.updates ++ ChannelUpdate id e n ∷ []) (a.1 ∙ ap (λ (n : ℕ). n + count_of e) stops);
      room = ap (λ (n : ℕ). ltb MAX_END (n + count_of e)) (sym stops) ∙ a.2;
    })

pub seq_end : (s : ServerState) (d : Draft) → Fits s d → d.seq ≡ length (s.settings ++ d.settings.items)
seq_end s d f = let sum = length-append s.settings d.settings.items in omega (arith, f.seq, sum)

not_past : (a b : ℕ) → b < a → ltb a (b + 1) ≡ false
not_past a b lt = grind (arith, nat_tests)

pub adds_setting : (s : ServerState) (old new : Draft) (x : Setting) (date : ℕ) → new ≡ record old { seq = new.seq; settings = new.settings; updates = new.updates } → old.seq < MAX_END → date ≡ old.date → new.seq ≡ old.seq + 1 → new.settings.items ≡ old.settings.items ++ dated_with date x ∷ []
    → new.updates ≡ old.updates ++ SettingUpdate x ∷ [] → Fits s old → AddsEntry s old new (to_settings x)
adds_setting s old new x date same less dates next put us f =
    let t : ServerState = joined s old in
    subst (λ (d : Draft). AddsEntry s old d (to_settings x)) (sym same) (record {
      fits = record {
        date = f.date;
        common = f.common;
        secret = f.secret;
        channels = f.channels;
        seq = let longer = ap length put ∙ length_push old.settings.items (dated_with date x) in omega (arith, next, f.seq, longer);
        limit = omega (arith, next, less);
      };
      applies = λ i. record t { settings = (ap (λ (l : List Dated). s.settings ++ l) put ∙ ap (λ (n : ℕ). s.settings ++ (old.settings.items ++ dated_with n x ∷ [])) (dates ∙ f.date) ∙ sym (append_assoc s.settings old.settings.items (dated_with s.date x ∷ []))) i };
      updates = us;
      room = ap (λ (n : ℕ). ltb MAX_END (n + 1)) (sym (seq_end s old f)) ∙ not_past MAX_END old.seq less;
    })

-- ---- posts, one by one

or_parts : (a b : Bool) → (a || b) ≡ false → (a ≡ false) × (b ≡ false)
or_parts true b e = absurd cc
or_parts false b e = (refl, e)

-- what is left to add
pub record Adding (s : ServerState) (old d : Draft) (all rest : List Entry) : Type 0 where
  pub fits : Fits s d
  pub applies : applied_all (joined s d) rest ≡ applied_all (joined s old) all
  pub updates : d.updates ++ updates_of (joined s d) rest ≡ old.updates ++ updates_of (joined s old) all
  pub room : box_full (joined s d) rest ≡ box_full (joined s old) all

pub adding_none : (s : ServerState) (d : Draft) (xs : List Entry) → Fits s d → Adding s d d xs xs
adding_none s d xs f = record { fits = f; applies = refl; updates = refl; room = refl }

pub adding_one : (s : ServerState) (old d e : Draft) (all xs rest : List Entry) (x : Entry) → xs ≡ x ∷ rest → AddsEntry s d e x → Adding s old d all xs → Adding s old e all rest
adding_one s old d e all xs rest x next a k =
    let t : ServerState = joined s d in
    record {
      fits = a.fits;
      applies = ap (λ (u : ServerState). applied_all u rest) a.applies ∙ ap (applied_all t) (sym next) ∙ k.applies;
      updates = (λ i. a.updates i ++ updates_of (a.applies i) rest) ∙ append_assoc d.updates (update_of t x ∷ []) (updates_of (applied t x) rest) ∙ ap (λ (l : List Entry). d.updates ++ updates_of t l) (sym next) ∙ k.updates;
      room = ap (λ (u : ServerState). box_full u rest) a.applies
          ∙ ap (λ (b : Bool). if b then Some (BoxFull (lane_of x) (lane_end t (lane_of x))) else box_full (applied t x) rest) (sym a.room)
          ∙ ap (box_full t) (sym next) ∙ k.room;
    }

pub added_all : (s : ServerState) (old d : Draft) (all rest : List Entry) → rest ≡ [] → Adding s old d all rest → AddsEntries s old d all
added_all s old d all rest none k = record {
  fits = k.fits;
  applies = ap (applied_all (joined s d)) (sym none) ∙ k.applies;
  updates = sym (append-nil d.updates) ∙ ap (λ (l : List Entry). d.updates ++ updates_of (joined s d) l) (sym none) ∙ k.updates;
  room = sym k.room ∙ ap (box_full (joined s d)) none;
}

pub adding_refused : (s : ServerState) (old d : Draft) (all xs rest : List Entry) (x : Entry) (f : PostFault) → xs ≡ x ∷ rest → Refuses (lane_of x) (lane_end (joined s d) (lane_of x)) (raise_of x) f → Adding s old d all xs → (f ≡ Memory) ⊎ (box_full (joined s old) all ≡ Some f)
adding_refused s old d all xs rest x f next (inl memory) k = inl memory
adding_refused s old d all xs rest x f next (inr full) k =
    let t : ServerState = joined s d in
    inr (sym k.room ∙ ap (box_full t) next ∙ ap (λ (b : Bool). if b then Some (BoxFull (lane_of x) (lane_end t (lane_of x))) else box_full (applied t x) rest) full.1 ∙ ap (λ (g : PostFault). Some g) (sym full.0))

-- no delete of these has too few or too many ids
abbrev pub AllHaveIds : List Entry → Type 0
AllHaveIds xs = (list_any (is_event (λ e. eqb (count_of e) 0)) xs ≡ false) × (list_any (is_event (λ e. ltb MAX_IDS (count_of e))) xs ≡ false)

pub ids_next : (xs rest : List Entry) (x : Entry) → xs ≡ x ∷ rest → AllHaveIds xs → HasIds x × AllHaveIds rest
ids_next xs rest x next h =
    let k = subst AllHaveIds next h in
    let a = or_parts (is_event (λ e. eqb (count_of e) 0) x) (list_any (is_event (λ e. eqb (count_of e) 0)) rest) k.0 in
    let b = or_parts (is_event (λ e. ltb MAX_IDS (count_of e)) x) (list_any (is_event (λ e. ltb MAX_IDS (count_of e))) rest) k.1 in
    ((a.0, b.0), (a.1, b.1))

pub next_entry : (posts : List Post) (i : ℕ) (p : Post) → i < length posts → p ≡ get_or posts i p → entries_of (drop i posts) ≡ entry_of p ∷ entries_of (drop (i + 1) posts)
next_entry posts i p less is = ap entries_of (next_of posts i p less is)

pub no_entry : (posts : List Post) (i : ℕ) → length posts ≤ i → entries_of (drop i posts) ≡ []
no_entry posts i le = ap entries_of (none_left posts i le)
