-- A lane of messages stays one.
use Rattle.std.proofs.Common.{◌≡◌, ℕ, zero, suc, ◌+◌, List, [], ◌∷◌, ◌++◌, map, Bool, true, false, ◌&&◌, eqb, None, Ok, refl, sym, ap, ◌∙◌, subst, inl, inr}
use Rattle.std.specs.FinMap.{len, insert, empty, get-empty}
use Rattle.std.specs.Ordering.{nat_cmp}
use Rattle.std.specs.List.{sum_by}
use Rattle.std.proofs.lemmas.Option.{none-some}
use Rattle.pts_machine.specs.Holding.{Items, from}
use Rattle.pts_machine.proofs.Maps.{from_some, insert_some}
use Rattle.box_events.specs.Events.{EventView, added, count_of, is_new}
use Rattle.pts_machine.specs.declared.mode.Mode.TheVariants.{Live}
use Rattle.pts_machine.specs.declared.seen.Seen.{Seen}
use Rattle.pts_machine.specs.declared.seen.Seen.TheVariants.{Applied, Already, Held, Dropped}
use Rattle.pts_machine.specs.States.{LaneState}
use Rattle.pts_machine.specs.Chains.{chain}
use Rattle.pts_machine.specs.Steps.{settle, hear, extend, resumed, forget, asked, loaded, Hears}
use Rattle.pts_machine.proofs.Ends.{look, none_at, some_at}
use Rattle.pts_machine.proofs.Kept.{hears}
use Rattle.box_events.specs.Weaves.{woven_of, woven_when}
use Rattle.box_events.specs.Refusal.{covered}
use Rattle.box_client.specs.Messages.{are_messages, AreHeldMessages, HasMessages}

both : (a b : Bool) → a ≡ true → b ≡ true → (a && b) ≡ true
both true b p q = q
both false b p q = p

parts : (a b : Bool) → (a && b) ≡ true → (a ≡ true) × (b ≡ true)
parts true b h = (refl, h)
parts false b h = absurd cc

append_messages : (xs ys : List EventView) → are_messages xs ≡ true → are_messages ys ≡ true → are_messages (xs ++ ys) ≡ true
append_messages [] ys p q = q
append_messages (x ∷ xs) ys p q = let h = parts (is_new x) (are_messages xs) p in both (is_new x) (are_messages (xs ++ ys)) h.0 (append_messages xs ys h.1 q)

added_messages : (news : List (List ℕ)) → are_messages (map added news) ≡ true
added_messages [] = refl
added_messages (body ∷ news) = added_messages news

chain_messages : (n p : ℕ) (m : Items EventView) → AreHeldMessages m → are_messages (chain n p m) ≡ true
unfolding chain
chain_messages zero p m h = refl
chain_messages (suc n) p m h = elim (look m p) [
  | none_at e ↦ rw e refl
  | some_at x e ↦ rw e (both (is_new x.1) (are_messages (chain n x.0 m)) (h p x e) (chain_messages n x.0 m h))
]

held_from : (p : ℕ) (m : Items EventView) → AreHeldMessages m → AreHeldMessages (from p m)
held_from p m h start x e = h start x (from_some p m start x e).1

held_insert : (m : Items EventView) (k : ℕ) (v : ℕ × EventView) → AreHeldMessages m → is_new v.1 ≡ true → AreHeldMessages (insert m k v)
held_insert m k v h new start x e = elim (insert_some m k v start x e) [
  | inl s ↦ sym (ap (λ (y : ℕ × EventView). is_new y.1) s.1) ∙ new
  | inr s ↦ h start x s
]

held_empty : AreHeldMessages empty
held_empty start x e = absurd (none-some x (sym (get-empty nat_cmp start) ∙ e))

messages_settle : (t : LaneState EventView) → HasMessages t → HasMessages (settle t)
unfolding settle
messages_settle t h = record {
  events = append_messages t.events (chain (len t.held) t.at t.held) h.events (chain_messages (len t.held) t.at t.held h.held);
  held = held_from _ t.held h.held;
}

messages_by : (t : LaneState EventView) (start end : ℕ) (event : EventView) (r : Seen) (u : LaneState EventView) → is_new event ≡ true → HasMessages t → Hears t start end event r u → HasMessages u
messages_by t start end event Already u new h told = subst HasMessages (sym told.1) h
messages_by t start end event (Applied to) u new h told =
    subst HasMessages (sym told.2) (messages_settle (record t { events = t.events ++ event ∷ []; at = end }) (record { events = append_messages t.events (event ∷ []) h.events (both (is_new event) true new refl); held = h.held }))
messages_by t start end event Held u new h told = subst HasMessages (sym told.3) (record { events = h.events; held = held_insert t.held start (end, event) h.held new })
messages_by t start end event Dropped u new h told = subst HasMessages (sym told.3) h

-- a message comes
pub messages_hear : (t : LaneState EventView) (start end : ℕ) (body : List ℕ) → HasMessages t → HasMessages (hear t start end (added body)).state
messages_hear t start end body h = messages_by t start end (added body) _ _ refl h (hears t start end (added body))

messages_resumed : (t : LaneState EventView) (last : Bool) → HasMessages t → HasMessages (resumed t last)
messages_resumed t true h = messages_settle (record t { mode = Live }) (record { events = h.events; held = h.held })
messages_resumed t false h = record { events = h.events; held = h.held }

-- an answer comes
pub messages_extend : (t : LaneState EventView) (events : List EventView) (last : Bool) → HasMessages t → are_messages events ≡ true → HasMessages (extend count_of t events last)
unfolding extend
messages_extend t events last h new = messages_resumed (record t { events = t.events ++ events; at = t.at + sum_by count_of events; held = from (t.at + sum_by count_of events) t.held }) last (record {
  events = append_messages t.events events h.events new;
  held = held_from _ t.held h.held;
})

-- what is woven of messages alone
woven_by : (b : Bool) (from to : ℕ) (news : List (List ℕ)) (events : List EventView) → woven_when None b from to news [] ≡ Ok events → are_messages events ≡ true
woven_by true from to news events e = let one : map added news ≡ events = cc in ap are_messages (sym one) ∙ added_messages news
woven_by false from to news events e = absurd cc

pub messages_woven : (from to : ℕ) (news : List (List ℕ)) (events : List EventView) → woven_of from to news [] ≡ Ok events → are_messages events ≡ true
unfolding woven_of
messages_woven from to news events e = woven_by (eqb (from + covered news []) to) from to news events e

pub messages_forget : (t : LaneState EventView) → HasMessages t → HasMessages (forget t)
unfolding forget
messages_forget t h = record { events = h.events; held = held_empty }

pub messages_asked : (t : LaneState EventView) (n : ℕ) → HasMessages t → HasMessages (asked t n)
messages_asked t n h = record { events = h.events; held = h.held }

pub messages_loaded : (restart : ℕ) (events : List EventView) → are_messages events ≡ true → HasMessages (loaded count_of restart events)
messages_loaded restart events new = record { events = new; held = held_empty }
