-- Parts of a server keep their spelling as it goes on, and so do those of what it sends.
use Rattle.std.specs.Prelude.{if◌then◌else◌}
use Rattle.std.proofs.Common.{◌≡◌, ℤ, List, [], ◌∷◌, ◌++◌, map as each, cond, Option, Some, None, Bool, true, false, refl, sym, ◌∙◌, subst, arith}
use Rattle.std.specs.List.{All}
use Rattle.std.specs.Cmp.{int_cmp_total}
use Rattle.std.specs.Ordering.{int_eq, int_cmp}
use Rattle.std.specs.FinMap as map
use Rattle.std.proofs.lemmas.List.Elements.{All-nil, All-cons, All-head, All-tail, All-push, All-drop}
use Rattle.box_events.specs.declared.positions.Receipt.{Receipt}
use Rattle.box_events.specs.declared.requests.Post.{Post}
use Rattle.box_events.specs.declared.requests.Post.TheVariants as post
use Rattle.box_events.specs.SettingLists.{Dated}
use Rattle.box_events.specs.Events.{EventView, added}
use Rattle.box_server.specs.declared.fault.PostFault.{PostFault}
use Rattle.box_server.specs.Servers.{ChannelBox, ServerState, Receipts, new_server}
use Rattle.box_server.specs.Sound.{IsSound}
use Rattle.box_server.specs.Entries.{Entry, to_common, to_secret, to_channel, to_settings, entry_of, entries_of}
use Rattle.box_server.specs.Posting.{with_event, applied, applied_all, cut, excess, posted, receipt_of}
use Rattle.box_server.specs.Receiving.{state_by}
use Rattle.box_server.specs.Refusing.{post_cause}
use Rattle.box_server.proofs.Soundness.{posted_sound}
use Rattle.wire_forms.specs.IsOf.{IsLong, IsText}
use Rattle.wire_values.specs.Carried.{FitsPost}
use Rattle.wire_values.specs.CarriedFrames.{FitsEvent, FitsReceipt, FitsSetting}
use Rattle.box_world.specs.Spelled.{FitsBox, FitsServer}
use Rattle.box_world.specs.FrameLaws.{ServersKeepSpellings}

-- ---- entries

abbrev pub FitsEntry : Entry → Type 0
FitsEntry (to_common e) = FitsEvent e
FitsEntry (to_secret body) = IsText body
FitsEntry (to_channel id e) = IsLong id × FitsEvent e
FitsEntry (to_settings x) = FitsSetting x

entry_fits : (p : Post) → FitsPost p → FitsEntry (entry_of p)
entry_fits (post.Message body) f = f
entry_fits (post.Edit body) f = f
entry_fits (post.Delete ids) f = f
entry_fits (post.Secret body) f = f
entry_fits (post.ChannelMessage id body) f = f
entry_fits (post.ChannelEdit id body) f = f
entry_fits (post.ChannelDelete id ids) f = f
entry_fits (post.Setting key content) f = f
entry_fits (post.Read max_id) f = f
entry_fits (post.ChannelRead id max_id) f = f

pub entries_fit : (ps : List Post) → All FitsPost ps → All FitsEntry (entries_of ps)
entries_fit [] all = All-nil FitsEntry
entries_fit (p ∷ ps) all = All-cons FitsEntry (entry_of p) (entries_of ps) (entry_fits p (All-head FitsPost p ps all)) (entries_fit ps (All-tail FitsPost p ps all))

-- ---- boxes

box_by : (c : ChannelBox) (cs : List ChannelBox) (id : ℤ) (e : EventView) (b : Bool) → FitsEvent e → All FitsBox (c ∷ cs) → All FitsBox (with_event cs id e) → All FitsBox (if b then record c { events = c.events ++ e ∷ [] } ∷ cs else c ∷ with_event cs id e)
box_by c cs id e true f all more =
    let one : FitsBox c = All-head FitsBox c cs all in
    All-cons FitsBox (record c { events = c.events ++ e ∷ [] }) cs (record { id = one.id; events = All-push FitsEvent c.events e one.events f }) (All-tail FitsBox c cs all)
box_by c cs id e false f all more = All-cons FitsBox c (with_event cs id e) (All-head FitsBox c cs all) more

boxes_with : (cs : List ChannelBox) (id : ℤ) (e : EventView) → IsLong id → FitsEvent e → All FitsBox cs → All FitsBox (with_event cs id e)
boxes_with [] id e long f all = All-cons FitsBox (record { id = id; first = 0; events = e ∷ [] }) [] (record { id = long; events = All-cons FitsEvent e [] f (All-nil FitsEvent) }) all
boxes_with (c ∷ cs) id e long f all = box_by c cs id e (int_eq c.id id) f all (boxes_with cs id e long f (All-tail FitsBox c cs all))

boxes_cut : (cs : List ChannelBox) → All FitsBox cs → All FitsBox (each cut cs)
boxes_cut [] all = all
boxes_cut (c ∷ cs) all =
    let one : FitsBox c = All-head FitsBox c cs all in
    All-cons FitsBox (cut c) (each cut cs) (record { id = one.id; events = All-drop FitsEvent (excess c) c.events one.events }) (boxes_cut cs (All-tail FitsBox c cs all))

abbrev FitsDated : Dated → Type 0
FitsDated e = FitsSetting e.setting

applied_fits : (s : ServerState) (x : Entry) → FitsEntry x → FitsServer s → FitsServer (applied s x)
applied_fits s (to_common e) f h = record { common = All-push FitsEvent s.common e h.common f; secret = h.secret; channels = h.channels; settings = h.settings; receipts = h.receipts }
applied_fits s (to_secret body) f h = record { common = h.common; secret = All-push FitsEvent s.secret (added body) h.secret f; channels = h.channels; settings = h.settings; receipts = h.receipts }
applied_fits s (to_channel id e) f h = record { common = h.common; secret = h.secret; channels = boxes_with s.channels id e f.0 f.1 h.channels; settings = h.settings; receipts = h.receipts }
applied_fits s (to_settings x) f h =
    let new : Dated = record { setting = x; date = s.date } in
    record { common = h.common; secret = h.secret; channels = h.channels; settings = All-push FitsDated s.settings new h.settings f; receipts = h.receipts }

all_applied : (s : ServerState) (xs : List Entry) → All FitsEntry xs → FitsServer s → FitsServer (applied_all s xs)
all_applied s [] all h = h
all_applied s (x ∷ xs) all h = all_applied (applied s x) xs (All-tail FitsEntry x xs all) (applied_fits s x (All-head FitsEntry x xs all) h)

-- ---- receipts

abbrev FitsAll : Receipts → Type 0
FitsAll m = (random_id : ℤ) (r : Receipt) → map.get m random_id ≡ Some r → FitsReceipt r

some_of : (x y : Receipt) → Some x ≡ Some y → x ≡ y
some_of x y e = cc

found_by : (b : Bool) (new r : Receipt) (o : Option Receipt) → cond b (Some new) o ≡ Some r → FitsReceipt new → (o ≡ Some r → FitsReceipt r) → FitsReceipt r
found_by true new r o e f old = subst FitsReceipt (some_of new r e) f
found_by false new r o e f old = old e

insert_fits : (m : Receipts) (id : ℤ) (new : Receipt) → FitsReceipt new → FitsAll m → FitsAll (map.insert m id new)
insert_fits m id new f all q r is = found_by _ new r (map.get m q) (sym (map.get-insert int_cmp_total m id new q) ∙ is) f (all q r)

pub receipt_fits : (s : ServerState) → IsSound s → FitsReceipt (receipt_of s)
receipt_fits s h =
    let common = h.common.1 in
    let secret = h.secret.1 in
    let date = h.date in
    let seq = h.seq in
    (omega (arith, common), omega (arith, secret), omega (arith, date), omega (arith, seq))

pub posted_fits : (s : ServerState) (random_id : ℤ) (ps : List Post) → FitsServer s → IsSound s → All FitsPost ps → post_cause s ps ≡ None → FitsServer (posted s random_id ps)
unfolding posted
posted_fits s random_id ps h sound all none =
    let t : ServerState = applied_all s (entries_of ps) in
    let f : FitsServer t = all_applied s (entries_of ps) (entries_fit ps all) h in
    record {
      common = f.common;
      secret = f.secret;
      channels = boxes_cut t.channels f.channels;
      settings = f.settings;
      receipts = insert_fits t.receipts random_id (receipt_of (record t { channels = each cut t.channels })) (receipt_fits (posted s random_id ps) (posted_sound s random_id ps sound none)) f.receipts;
    }

after_by : (s : ServerState) (random_id : ℤ) (ps : List Post) (r : Option Receipt) (c : Option PostFault) → post_cause s ps ≡ c → FitsServer s → IsSound s → All FitsPost ps → FitsServer (state_by s random_id ps r c)
after_by s random_id ps (Some r) c is h sound all = h
after_by s random_id ps None (Some c) is h sound all = h
after_by s random_id ps None None is h sound all = posted_fits s random_id ps h sound all is

none_received : (random_id : ℤ) (r : Receipt) → map.get new_server.receipts random_id ≡ Some r → FitsReceipt r
none_received random_id r is = absurd (no_some r (sym (map.get-empty int_cmp random_id) ∙ is))
  where
    no_some : (x : Receipt) → None ≡ Some x → ⊥
    no_some x e = cc

pub servers_keep : ServersKeepSpellings
servers_keep = record {
  new = record { common = All-nil FitsEvent; secret = All-nil FitsEvent; channels = All-nil FitsBox; settings = All-nil FitsDated; receipts = none_received };
  date = λ s date h. record { common = h.common; secret = h.secret; channels = h.channels; settings = h.settings; receipts = h.receipts };
  post = λ s random_id ps h sound all. after_by s random_id ps (map.get s.receipts random_id) (post_cause s ps) refl h sound all;
}
