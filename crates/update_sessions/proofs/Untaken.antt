-- How sessions of a store end where a packet isn't answered, or a step ends.
use Rattle.std.proofs.Common.{◌≡◌, inl, inr, ℕ, ◌<◌, ◌≤◌, List, ◌++◌, length, Bool, Option, Ok, Err, Some, sym, subst}
use Rattle.std.specs.Prelude.{IfSome}
use Rattle.box_events.specs.declared.requests.Numbered.{Numbered}
use Rattle.box_server.specs.Servers.{ServerState}
use Rattle.box_server.specs.declared.entry.Entry.{Entry}
use Rattle.box_server.specs.Keeping.{KeeperState, Keeps}
use Rattle.box_server.proofs.Added.{keeps_as}
use Rattle.wire_profile.specs.declared.wire_fault.WireFault.{WireFault}
use Rattle.wire_profile.specs.Indexes.{ProfileView}
use Rattle.box_wire.specs.Framing.{WireRefused}
use Rattle.box_wire.specs.Kinds.{calls}
use Rattle.tl_base.specs.declared.fault.Fault.{Fault}
use Rattle.tl_base.specs.declared.fault.Fault.TheVariants as either
use Rattle.update_sessions.specs.declared.fault.SessionFault.{SessionFault}
use Rattle.update_sessions.specs.declared.fault.SessionFault.TheVariants as fault
use Rattle.update_sessions.specs.declared.fault.TheConstants.{MAX_FRAMES}
use Rattle.update_sessions.specs.declared.storing.StoreSession.{StoreSession}
use Rattle.update_sessions.specs.declared.storing.StoreSession.TheVariants.{Session, Memory, Failed}
use Rattle.update_sessions.specs.Faults.{fault_as}
use Rattle.update_sessions.specs.Kept.{RoomFor, Stores, end_of, ended, kept_for}
use Rattle.update_sessions.specs.Packed.{MeansCall}
use Rattle.update_sessions.specs.Receiving.{Receives}
use Rattle.update_sessions.specs.Turns.{AnswersPacket}
use Rattle.update_sessions.specs.inner.StoreSteps.{StoreSoFar, StoresNext, of_session}
use Rattle.update_sessions.proofs.KeepsRoom.{room_for_one}
use Rattle.update_sessions.proofs.ServerSteps.{next_dropped, next_failed, next_none, next_short, stores_failed, stores_stopped}

-- a packet was read: there is room for what its call adds
pub answered_keeps : (p : ProfileView) (s : ServerState) (l0 w0 l1 : Option (List ℕ)) (into : List ℕ) → ((m : Numbered) → MeansCall p m into → IfSome l0 (λ bytes. Receives (MeansCall p) (WireRefused p calls) bytes l1 (Ok (Some m))))
    → (a b : KeeperState) (F G : Type 0) → (G → F) → Keeps a b F (λ es. (m : Numbered) → MeansCall p m into → length (es ++ kept_for s m.request) ≤ a.room) → Keeps a b G (RoomFor p 1 s l0 w0 a.room)
answered_keeps p s l0 w0 l1 into r a b F G f k =
    keeps_as a b F G (λ es. (m : Numbered) → MeansCall p m into → length (es ++ kept_for s m.request) ≤ a.room) (RoomFor p 1 s l0 w0 a.room) (λ es fits m means. room_for_one p s m l0 w0 l1 a.room es (r m means) fits) f k

-- no packet is read
pub unread_none : (p : ProfileView) (s : ServerState) (l0 w0 l1 w1 : Option (List ℕ)) (e0 e1 : Option (List Entry)) (e : Fault SessionFault) → IfSome l0 (λ bytes. Receives {M = Numbered} (MeansCall p) (WireRefused p calls) bytes l1 (Err (fault_as e))) → w0 ≡ w1 → e1 ≡ e0
    → StoresNext p s l0 w0 l1 w1 e0 e1 (end_of {T = Bool} s (Err (of_session e)))
unread_none p s l0 w0 l1 w1 e0 e1 (either.Refused f) h w same = next_none p s l0 w0 l1 w1 e0 e1 f h w same
unread_none p s l0 w0 l1 w1 e0 e1 either.Memory h w same = next_none p s l0 w0 l1 w1 e0 e1 fault.LinkFault h w same

-- the keeper has no part in that
pub unread_kept : (e : Fault SessionFault) (end : StoreSession) → end ≡ of_session e → end ≡ Failed → ⊥
unread_kept (either.Refused f) end of is = absurd cc
unread_kept either.Memory end of is = absurd cc

-- ---- a packet that was read isn't answered

module _ (p : ProfileView) (s : ServerState) (l0 w0 l1 : Option (List ℕ)) (into out : List ℕ) (r : (m : Numbered) → MeansCall p m into → IfSome l0 (λ bytes. Receives (MeansCall p) (WireRefused p calls) bytes l1 (Ok (Some m)))) where
  -- it ends the session so
  pub unanswered_none : (e0 e1 : Option (List Entry)) (w1 : Option (List ℕ)) (t : ServerState) (end : StoreSession)
      → ((x : WireFault) → WireRefused p calls into x → IfSome l0 (λ bytes. Receives {M = Numbered} (MeansCall p) (WireRefused p calls) bytes l1 (Err (fault.Wire x)))) → w0 ≡ w1
      → AnswersPacket p s into out e0 e1 t (Err end) → StoresNext p s l0 w0 l1 w1 e0 e1 (end_of {T = Bool} t (Err end))
  unanswered_none e0 e1 w1 t (Session (fault.Wire x)) unread w h = subst (λ (u : ServerState). StoresNext p s l0 w0 l1 w1 e0 e1 (ended u (Err (fault.Wire x)))) (sym h.1) (next_none p s l0 w0 l1 w1 e0 e1 (fault.Wire x) (unread x h.0) w h.2)
  unanswered_none e0 e1 w1 t (Session (fault.Packet x)) unread w h = absurd h
  unanswered_none e0 e1 w1 t (Session (fault.Client x)) unread w h = absurd h
  unanswered_none e0 e1 w1 t (Session fault.TooManyFrames) unread w h = absurd h
  unanswered_none e0 e1 w1 t (Session fault.LinkFault) unread w h = absurd h
  unanswered_none e0 e1 w1 t Memory unread w (inl h) = subst (λ (u : ServerState). StoresNext p s l0 w0 l1 w1 e0 e1 (ended u (Err fault.LinkFault))) (sym h.0) (next_short p s l0 w0 l1 w1 e0 e1 w h.1)
  unanswered_none e0 e1 w1 t Memory unread w (inr h) = next_dropped p s h.call l0 w0 l1 w1 (r h.call h.means) w e0 e1 t h.ends h.kept
  unanswered_none e0 e1 w1 t Failed unread w h = next_failed p s h.call l0 w0 l1 w1 (r h.call h.means) w e0 e1 t h.new h.ends h.kept

-- the link has no part in that
pub unanswered_never : (p : ProfileView) (s : ServerState) (into out : List ℕ) (e0 e1 : Option (List Entry)) (t : ServerState) (end : StoreSession) → AnswersPacket p s into out e0 e1 t (Err end) → end ≡ Session fault.LinkFault → ⊥
unanswered_never p s into out e0 e1 t end h is = subst (λ (f : StoreSession). AnswersPacket p s into out e0 e1 t (Err f)) is h

-- the last step of a session ends it
pub ends_stores : (p : ProfileView) (s u : ServerState) (n : ℕ) (l0 w0 l1 w1 : Option (List ℕ)) (e0 e1 e2 : Option (List Entry)) → StoreSoFar p s n l0 w0 l1 w1 e0 e1 u → n < MAX_FRAMES
    → (l2 w2 : Option (List ℕ)) (t : ServerState) (end : StoreSession) → StoresNext p u l1 w1 l2 w2 e1 e2 (end_of {T = Bool} t (Err end))
    → Stores p s l0 w0 w2 e0 e2 (end_of {T = ℕ} t (Err end))
ends_stores p s u n l0 w0 l1 w1 e0 e1 e2 so lt l2 w2 t (Session x) step = stores_stopped p s u n l0 w0 l1 w1 e0 e1 so lt l2 w2 e2 t x step
ends_stores p s u n l0 w0 l1 w1 e0 e1 e2 so lt l2 w2 t Memory step = stores_stopped p s u n l0 w0 l1 w1 e0 e1 so lt l2 w2 e2 t fault.LinkFault step
ends_stores p s u n l0 w0 l1 w1 e0 e1 e2 so lt l2 w2 t Failed step = stores_failed p s u n l0 w0 l1 w1 e0 e1 so lt l2 w2 e2 t step
