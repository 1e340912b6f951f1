-- A keeper whose entries are read.
use Rattle.std.proofs.Common.{◌≡◌, ◌⊎◌, inl, inr, ℕ, List, [], ◌∷◌, true, false, Option, Some, None, Result, Ok, Err, IfSome, IsSome, IsTrue, refl, sym, subst}
use Rattle.std.specs.Prelude.{⊤, option_map}
use Rattle.box_server.specs.Servers.{new_server}
use Rattle.box_server.specs.declared.entry.Entry.{Entry}
use Rattle.box_server.specs.declared.store_fault.OpenFault.{OpenFault}
use Rattle.box_server.specs.declared.store_fault.OpenFault.TheVariants as opening
use Rattle.box_server.specs.declared.store_fault.Unopened.{Unopened}
use Rattle.box_server.specs.Answering.{Opens, opened_keeper, IsOpenFailed}
use Rattle.box_server.specs.Keeping.{KeeperState, Keeps}
use Rattle.box_server.specs.Storing.{StoredView}
use Rattle.outside.specs.Events.{HostState}
use Rattle.outside.specs.Pieces.{Tells}
use Rattle.outside.specs.Begun.{Did}
use Rattle.outside.specs.Steps.{StepOf, Calls}
use Rattle.outside.proofs.Growing.{grew_none}
use Rattle.session_commands.specs.Keep.{Starts, IsBadEntry, bad_entry_line}
use Rattle.wire_profile.specs.Indexes.{ProfileView}
use Rattle.outside.specs.declared.status.Status.{Status}
use Rattle.outside.specs.declared.status.Status.TheVariants.{Refused}
use Rattle.serve_rooms.specs.Acts.{Act, Loading, rebuilds, unaccepted, unread, loaded, Agrees, IsKeeperFault, IsSure, KeeperGrew, KeptState, beside}
use Rattle.serve_rooms.specs.Doing.{Last, BeginsKept, DidKept}
use Rattle.serve_rooms.specs.Serve.{OpensAndServes, after_opening}
use Rattle.serve_rooms.specs.Sessions.{ServesAll, keep_fault_line}
use Rattle.serve_rooms.specs.declared.status.KeptStatus.{KeptStatus}
use Rattle.serve_rooms.specs.declared.status.KeptStatus.TheVariants.{Run, KeepFault}
use Rattle.serve_rooms.specs.inner.Ends.{TellsUnopened}
use Rattle.serve_rooms.proofs.Connections.{can_serve_all}
use Rattle.serve_rooms.proofs.Doing.{did_host, did_then}
use Rattle.serve_rooms.proofs.LoadedSchemas.{last_done}

-- ---- what they say

pub starts_at : {K : Type 0} (entries : Option (List Entry)) (s : StoredView K) → IfSome entries (λ es. Opens {K = K} es (Ok s)) → Starts entries s.server
starts_at None s h = tt
starts_at (Some es) s h = h

pub bad_at : {K : Type 0} (entries : Option (List Entry)) (keeper : K) (n : ℕ) → IfSome entries (λ es. Opens {K = K} es (Err (record { keeper = keeper; fault = opening.BadEntry n }))) → IsBadEntry entries n
bad_at None keeper n h = tt
bad_at (Some es) keeper n h = h

fails_only : (Sound Failed : Type 0) (entries : Option (List Entry)) → IsSome entries → Sound → Failed → IfSome entries (λ es. Sound → ⊤ → Failed → ⊥) → ⊥
fails_only Sound Failed None is sound failed never = absurd (let none : false ≡ true = is in cc)
fails_only Sound Failed (Some es) is sound failed never = never sound tt failed

-- what a store's opening answers says of the keeper before and after
pub record Opened (K : Type 0) (state : K → KeeperState) (k : KeeperState) (r : Result (StoredView K) (Unopened K)) : Type 0 where
  pub opens : IfSome k.entries (λ es. Opens {K = K} es r)
  pub entries : (state (opened_keeper r)).entries ≡ k.entries
  pub used : Keeps k (state (opened_keeper r)) (IsOpenFailed r) (λ _. ⊤)

opened_as : (K : Type 0) (state : K → KeeperState) (k : KeeperState) (r x : Result (StoredView K) (Unopened K)) → r ≡ x → Opened K state k r → Opened K state k x
opened_as K state k r x is o = subst (λ (y : Result (StoredView K) (Unopened K)). Opened K state k y) is o

-- ---- what happens to the keeper

first_of : (P : Type 0) → P ⊎ ⊥ → P
first_of P (inl h) = h
first_of P (inr none) = absurd none

module _ (k l : KeeperState) (Failed : Type 0) (same : l.entries ≡ k.entries) (used : Keeps k l Failed (λ _. ⊤)) where
  -- a keeper that is sound doesn't fail
  pub unread_unsound : Failed → ¬ IsSure k
  unread_unsound failed sure = fails_only (IsTrue k.sound) Failed k.entries sure.0 sure.1 failed used.never

  stays_sure : IsSure k → IsSure l
  stays_sure sure = (subst IsSome (sym same) sure.0, used.stays sure.0 sure.1)

  keeper_loaded : (by : Loading) → (IsKeeperFault (loaded by) → Failed) → Agrees (IsSure k) k.room k.entries (loaded by) → KeeperGrew k (loaded by ∷ []) l
  keeper_loaded by fails agrees = record {
    entries = same;
    agrees = (agrees, tt);
    later = used.later;
    cause = λ h. used.cause (fails (first_of (IsKeeperFault (loaded by)) h));
    room_kept = used.room_kept;
    stays = stays_sure;
  }

  keeper_unasked : KeeperGrew k [] l
  keeper_unasked = record { entries = same; agrees = tt; later = used.later; cause = λ h. absurd h; room_kept = used.room_kept; stays = stays_sure }

  module _ (p : HostState) where
    pub did_load : (by : Loading) → (IsKeeperFault (loaded by) → Failed) → Agrees (IsSure k) k.room k.entries (loaded by) → DidKept (Calls loaded) (beside p k) (beside p l) (Some by)
    did_load by fails agrees = record { trace = loaded by ∷ []; grew = record { host = grew_none p; keeper = keeper_loaded by fails agrees }; holds = refl }

    -- memory ran out before they were read
    pub did_unasked : {A : Type 0} (S : StepOf Act A) → BeginsKept S [] → DidKept S (beside p k) (beside p l) None
    did_unasked S m = record { trace = []; grew = record { host = grew_none p; keeper = keeper_unasked }; holds = m }

-- ---- what follows of them

-- a line that is told, which is another
pub tells_as : {A : Type 0} (line other : List ℕ) (status : A) (p q : HostState) (answer : Option A) → line ≡ other → Did (Tells line status) p q answer → Did (Tells other status) p q answer
tells_as line other status p q answer is h = subst (λ (l : List ℕ). Did (Tells l status) p q answer) is h

module _ (address : List ℕ) (sessions : ℕ) (p : ProfileView) where
  pub can_open : BeginsKept (OpensAndServes address sessions p) []
  can_open =
      let m = can_serve_all address sessions new_server p in
      record { rest = loaded (rebuilds new_server) ∷ m.rest; answer = m.answer; kept = (tt, m.kept); whole = record { first = loaded (rebuilds new_server) ∷ []; rest = m.rest; between = rebuilds new_server; splits = refl; does = refl; goes = m.whole } }

  -- a keeper's entries were read, and the run goes on by what they say
  module _ (K : Type 0) (state : K → KeeperState) (k : KeeperState) (r : Result (StoredView K) (Unopened K)) (a : HostState) (opened : Opened K state k r) where
    pub opened_served : (store : StoredView K) (c : KeptState) (answer : Option KeptStatus) → r ≡ Ok store → DidKept (ServesAll address sessions store.server p) (beside a (state store.keeper)) c answer
        → DidKept (OpensAndServes address sessions p) (beside a k) c answer
    opened_served store c answer is g =
        let o = opened_as K state k r (Ok store) is opened in
        let l = state store.keeper in
        did_then (Calls loaded) (after_opening address sessions p) (beside a k) (beside a l) c (rebuilds store.server) answer (did_load k l ⊥ o.entries o.used a (rebuilds store.server) (λ never. never) (starts_at k.entries store o.opens)) g

    bad_told : (keeper : K) (n : ℕ) (b : HostState) (answer : Option Status) (end : Option KeptStatus) → r ≡ Err (record { keeper = keeper; fault = opening.BadEntry n }) → Did (Tells (bad_entry_line n) Refused) a b answer → end ≡ option_map (λ status. Run status) answer
        → DidKept (OpensAndServes address sessions p) (beside a k) (beside b (state keeper)) end
    bad_told keeper n b answer end is g same =
        let u : Unopened K = record { keeper = keeper; fault = opening.BadEntry n } in
        let o = opened_as K state k r (Err u) is opened in
        let l = state keeper in
        did_then (Calls loaded) (after_opening address sessions p) (beside a k) (beside a l) (beside b l) (unaccepted n) end (did_load k l (u.fault ≡ opening.Failed) o.entries o.used a (unaccepted n) (λ never. absurd never) (bad_at k.entries keeper n o.opens))
        (subst (λ (x : Option KeptStatus). DidKept (Last (Tells (bad_entry_line n) Refused)) (beside a l) (beside b l) x) (sym same) (last_done (Tells (bad_entry_line n) Refused) a b l answer g))

    unread_told : (keeper : K) (b : HostState) (end : Option KeptStatus) → r ≡ Err (record { keeper = keeper; fault = opening.Failed }) → Did (Tells keep_fault_line KeepFault) a b end → DidKept (OpensAndServes address sessions p) (beside a k) (beside b (state keeper)) end
    unread_told keeper b end is g =
        let u : Unopened K = record { keeper = keeper; fault = opening.Failed } in
        let o = opened_as K state k r (Err u) is opened in
        let l = state keeper in
        did_then (Calls loaded) (after_opening address sessions p) (beside a k) (beside a l) (beside b l) unread end (did_load k l (u.fault ≡ opening.Failed) o.entries o.used a unread (λ failed. refl) (unread_unsound k l (u.fault ≡ opening.Failed) o.entries o.used refl))
        (did_host (Tells keep_fault_line KeepFault) a b l end g)

    unopened : (keeper : K) → r ≡ Err (record { keeper = keeper; fault = opening.Memory }) → DidKept (OpensAndServes address sessions p) (beside a k) (beside a (state keeper)) None
    unopened keeper is =
        let u : Unopened K = record { keeper = keeper; fault = opening.Memory } in
        let o = opened_as K state k r (Err u) is opened in
        did_unasked k (state keeper) (u.fault ≡ opening.Failed) o.entries o.used a (OpensAndServes address sessions p) can_open

    -- why they weren't is told
    pub unopened_told : (keeper : K) (f : OpenFault) (b : HostState) (end : Option KeptStatus) → r ≡ Err (record { keeper = keeper; fault = f }) → TellsUnopened f a b end → DidKept (OpensAndServes address sessions p) (beside a k) (beside b (state keeper)) end
    unopened_told keeper (opening.BadEntry n) b end is t = bad_told keeper n b t.0 end is t.1 t.2
    unopened_told keeper opening.Failed b end is t = unread_told keeper b end is t
    unopened_told keeper opening.Memory b end is t =
        subst (λ (x : Option KeptStatus). DidKept (OpensAndServes address sessions p) (beside a k) (beside b (state keeper)) x) (sym t.0)
        (subst (λ (q : HostState). DidKept (OpensAndServes address sessions p) (beside a k) (beside q (state keeper)) None) (sym t.1) (unopened keeper is))
