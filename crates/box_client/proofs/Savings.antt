-- The channels that are saved.
use Rattle.std.proofs.Common.{◌≡◌, ℕ, zero, suc, ◌+◌, ◌<◌, ◌≤◌, ℤ, List, [], ◌∷◌, ◌++◌, length, map, take, get_or, Bool, true, false, ◌||◌, cond, is_some, Option, Some, None, int_eq, refl, sym, ap, ◌∙◌, subst, arith}
use native.Mathlib.Numerals.{add-one}
use Rattle.std.proofs.lemmas.List.{map-append}
use Rattle.std.proofs.lemmas.Bool.Decides.{Decides-int_eq}
use Rattle.std.specs.FinMap as map_of
use Rattle.box_events.specs.Events.{EventView}
use Rattle.box_events.specs.declared.settings.Setting.{Setting}
use Rattle.box_events.specs.declared.saved.SavedLane.{SavedLane}
use Rattle.box_events.specs.declared.saved.SavedChannel.{SavedChannel}
use Rattle.pts_machine.specs.States.{LaneState}
use Rattle.box_events.specs.SettingLists.{Values}
use Rattle.pts_machine.specs.Rows.{pairs}
use Rattle.channel_box.specs.States.{ChannelState, ids_of, is_in, AreDistinct, has_id, first}
use Rattle.channel_box.specs.Steps.{is_watched}
use Rattle.channel_box.specs.Looks.{LaneIs, recent_of}
use Rattle.channel_box.proofs.Ids.{eq_of, not_eq, not_of}
use Rattle.box_client.specs.Saving.{IsSavedOf, lane_saved, channel_saved, setting_of, settings_saved}

neither : (a b : Bool) → (a || b) ≡ false → (a ≡ false) × (b ≡ false)
neither true b e = absurd cc
neither false b e = (refl, e)

not_at : (k : ℤ) (ks : List ℤ) (i : ℕ) (id : ℤ) → is_in k ks ≡ false → i < length ks → id ≡ get_or ks i id → int_eq id k ≡ false
not_at k [] i id out lt is = absurd (omega (arith, lt))
not_at k (j ∷ ks) zero id out lt is = ap (λ (z : ℤ). int_eq z k) is ∙ (neither (int_eq j k) (is_in k ks) out).0
not_at k (j ∷ ks) (suc i) id out lt is = not_at k ks i id (neither (int_eq j k) (is_in k ks) out).1 (omega (arith, lt)) is

-- the channel with the id at an index
pub record Here (cs : List ChannelState) (i : ℕ) (id : ℤ) : Type 0 where
  pub channel : ChannelState
  pub found : first (has_id id) cs ≡ Some channel
  pub same : channel.id ≡ id
  pub next : take (suc i) cs ≡ take i cs ++ channel ∷ []

cond_yes : (b : Bool) (c : ChannelState) (o : Option ChannelState) → b ≡ true → cond b (Some c) o ≡ Some c
cond_yes true c o e = refl
cond_yes false c o e = absurd cc

cond_no : (b : Bool) (c : ChannelState) (o : Option ChannelState) → b ≡ false → cond b (Some c) o ≡ o
cond_no true c o e = absurd cc
cond_no false c o e = refl

pub here : (cs : List ChannelState) (i : ℕ) (id : ℤ) → AreDistinct (ids_of cs) → i < length (ids_of cs) → id ≡ get_or (ids_of cs) i id → Here cs i id
here [] i id d lt is = absurd (omega (arith, lt))
here (c ∷ cs) zero id d lt is = record { channel = c; found = cond_yes (int_eq c.id id) c (first (has_id id) cs) ((Decides-int_eq c.id id).1 (sym is)); same = sym is; next = refl }
here (c ∷ cs) (suc i) id d lt is =
    let h = here cs i id d.1 (omega (arith, lt)) is in
    let other : int_eq c.id id ≡ false = not_eq c.id id (λ e. not_of id c.id (not_at c.id (ids_of cs) i id d.0 (omega (arith, lt)) is) (sym e)) in
    record { channel = h.channel; found = cond_no (int_eq c.id id) c (first (has_id id) cs) other ∙ h.found; same = h.same; next = ap (λ (l : List ChannelState). c ∷ l) h.next }

id_over : (b : Bool) (c d : ChannelState) (id : ℤ) (o : Option ChannelState) → int_eq c.id id ≡ b → cond b (Some c) o ≡ Some d → (o ≡ Some d → d.id ≡ id) → d.id ≡ id
id_over true c d id o is e below = let one : c ≡ d = cc in ap (λ (z : ChannelState). z.id) (sym one) ∙ eq_of c.id id is
id_over false c d id o is e below = below e

found_id : (cs : List ChannelState) (d : ChannelState) (id : ℤ) → first (has_id id) cs ≡ Some d → d.id ≡ id
found_id [] d id e = absurd cc
found_id (c ∷ cs) d id e = id_over (int_eq c.id id) c d id (first (has_id id) cs) refl e (found_id cs d id)

saved_is : (cs : List ChannelState) (id : ℤ) (o : Option ChannelState) (t : LaneState EventView) (lane : SavedLane) (recent bodies : List (List ℕ)) → first (has_id id) cs ≡ o → LaneIs o t → lane ≡ lane_saved t → bodies ≡ recent_of o → recent ≡ bodies → IsSavedOf o (record { id = id; lane = lane; recent = recent })
saved_is cs id None t lane recent bodies e l saved told copied = absurd l
saved_is cs id (Some c) t lane recent bodies e l saved told copied =
    let same = found_id cs c id e in let one = saved ∙ ap lane_saved l in let two = copied ∙ told in λ i. record { id = sym same i; lane = one i; recent = two i }

pub channel_is_saved : (cs : List ChannelState) (id : ℤ) (t : LaneState EventView) (lane : SavedLane) (recent bodies : List (List ℕ)) → LaneIs (first (has_id id) cs) t → lane ≡ lane_saved t → bodies ≡ recent_of (first (has_id id) cs) → recent ≡ bodies
    → IsSavedOf (first (has_id id) cs) (record { id = id; lane = lane; recent = recent })
channel_is_saved cs id t lane recent bodies l saved told copied = saved_is cs id (first (has_id id) cs) t lane recent bodies refl l saved told copied

saved_here : (o : Option ChannelState) (c : ChannelState) (x : SavedChannel) → o ≡ Some c → IsSavedOf o x → x ≡ channel_saved c
saved_here None c x e s = absurd s
saved_here (Some d) c x e s = let one : d ≡ c = cc in s ∙ ap channel_saved one

pub saved_more : (cs : List ChannelState) (i : ℕ) (id : ℤ) (x : SavedChannel) (before after : List SavedChannel) → AreDistinct (ids_of cs) → i < length (ids_of cs) → id ≡ get_or (ids_of cs) i id → IsSavedOf (first (has_id id) cs) x
    → before ≡ map channel_saved (take i cs) → after ≡ before ++ x ∷ [] → after ≡ map channel_saved (take (i + 1) cs)
saved_more cs i id x before after d lt is s so more =
    let h = here cs i id d lt is in
    more ∙ ap (λ (y : SavedChannel). before ++ y ∷ []) (saved_here (first (has_id id) cs) h.channel x h.found s) ∙ ap (λ (l : List SavedChannel). l ++ channel_saved h.channel ∷ []) so
    ∙ sym (map-append channel_saved (take i cs) (h.channel ∷ [])) ∙ ap (λ (l : List ChannelState). map channel_saved l) (sym h.next) ∙ ap (λ (k : ℕ). map channel_saved (take k cs)) (sym (add-one i))

pub is_here : (cs : List ChannelState) (i : ℕ) (id : ℤ) → AreDistinct (ids_of cs) → i < length (ids_of cs) → id ≡ get_or (ids_of cs) i id → is_watched cs id ≡ true
is_here cs i id d lt is = ap is_some (here cs i id d lt is).found

pub get_again : (ks : List ℤ) (i : ℕ) (d : ℤ) → i < length ks → get_or ks i d ≡ get_or ks i (get_or ks i d)
get_again [] i d lt = absurd (omega (arith, lt))
get_again (k ∷ ks) zero d lt = refl
get_again (k ∷ ks) (suc i) d lt = get_again ks i d (omega (arith, lt))

pub watched_here : (cs : List ChannelState) (ks : List ℤ) (i : ℕ) (d id : ℤ) → ks ≡ ids_of cs → AreDistinct ks → i < length ks → id ≡ get_or ks i d → is_watched cs id ≡ true
watched_here cs ks i d id is apart lt at =
    let here_at : id ≡ get_or ks i id = at ∙ get_again ks i d lt ∙ ap (λ (z : ℤ). get_or ks i z) (sym at) in
    is_here cs i id (subst AreDistinct is apart) (omega (arith, lt, ap length is)) (here_at ∙ ap (λ (l : List ℤ). get_or l i id) is)

pub saved_next : (cs : List ChannelState) (ks : List ℤ) (i : ℕ) (d id : ℤ) (x : SavedChannel) (before after : List SavedChannel) → ks ≡ ids_of cs → AreDistinct ks → i < length ks → id ≡ get_or ks i d → IsSavedOf (first (has_id id) cs) x
    → before ≡ map channel_saved (take i cs) → after ≡ before ++ x ∷ [] → after ≡ map channel_saved (take (i + 1) cs)
saved_next cs ks i d id x before after is apart lt at s so more =
    let here_at : id ≡ get_or ks i id = at ∙ get_again ks i d lt ∙ ap (λ (z : ℤ). get_or ks i z) (sym at) in
    saved_more cs i id x before after (subst AreDistinct is apart) (omega (arith, lt, ap length is)) (here_at ∙ ap (λ (l : List ℤ). get_or l i id) is) s so more

all_taken : (cs : List ChannelState) (n : ℕ) → length (ids_of cs) ≤ n → take n cs ≡ cs
all_taken [] zero le = refl
all_taken [] (suc n) le = refl
all_taken (c ∷ cs) zero le = absurd (omega (arith, le))
all_taken (c ∷ cs) (suc n) le = ap (λ (l : List ChannelState). c ∷ l) (all_taken cs n (omega (arith, le)))

pub all_saved : (cs : List ChannelState) (ks : List ℤ) (n : ℕ) (saved : List SavedChannel) → ks ≡ ids_of cs → length ks ≤ n → saved ≡ map channel_saved (take n cs) → saved ≡ map channel_saved cs
all_saved cs ks n saved is le so = so ∙ ap (λ (l : List ChannelState). map channel_saved l) (all_taken cs n (omega (arith, le, ap length is)))

-- settings

of_pairs : (xs : List Setting) → map setting_of (pairs xs) ≡ xs
of_pairs [] = refl
of_pairs (x ∷ xs) = ap (λ (l : List Setting). x ∷ l) (of_pairs xs)

pub settings_are : (table : Values) (xs : List Setting) → pairs xs ≡ map_of.entries table → xs ≡ settings_saved table
settings_are table xs is = sym (of_pairs xs) ∙ ap (λ (l : List (List ℕ × List ℕ)). map setting_of l) is
