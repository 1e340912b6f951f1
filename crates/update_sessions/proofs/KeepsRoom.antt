-- Keepers through a session: what calls add fits where there is room for it.
use Rattle.std.proofs.Common.{◌≡◌, ℕ, ◌<◌, ◌≤◌, List, [], ◌∷◌, ◌++◌, length, Option, Some, None, Ok, refl, sym, ap, ◌∙◌, subst, append-nil, append_assoc, length-append, arith}
use Rattle.std.specs.Prelude.{IfSome, IsSome, IsTrue, ⊤}
use Rattle.box_events.specs.declared.requests.Numbered.{Numbered}
use Rattle.box_server.specs.Servers.{ServerState}
use Rattle.box_server.specs.declared.entry.Entry.{Entry}
use Rattle.box_server.specs.Keeping.{KeeperState, Keeps, with_more}
use Rattle.wire_profile.specs.Indexes.{ProfileView}
use Rattle.box_wire.specs.Framing.{WireRefused}
use Rattle.box_wire.specs.Kinds.{calls}
use Rattle.update_sessions.specs.Kept.{MayCome, RoomFor, kept_for, kept_in}
use Rattle.update_sessions.specs.Packed.{Came, MeansCall}
use Rattle.update_sessions.specs.Receiving.{Receives}
use Rattle.update_sessions.specs.inner.StoreSteps.{StoreSoFar}
use Rattle.update_sessions.specs.inner.Steps.{SoFar}
use Rattle.update_sessions.specs.Serving.{server_side}
use Rattle.update_sessions.proofs.Packets.{came_then}
use Rattle.update_sessions.proofs.ServerSteps.{kept_then}
use Rattle.update_sessions.proofs.Stepping.{same_some, no_some}

some_kept : (a b : Option (List Entry)) (more : List Entry) → b ≡ with_more more a → IsSome a → IsSome b
some_kept None b more is h = absurd cc
some_kept (Some es) b more is h = subst (λ (o : Option (List Entry)). IsSome o) (sym is) refl

-- nothing was asked of a keeper
pub keeps_still : (a : KeeperState) (F : Type 0) (P : List Entry → Type 0) → (F → ⊥) → Keeps a a F P
keeps_still a F P none = record { later = omega arith; cause = λ f. absurd (none f); room_kept = refl; stays = λ told sound. sound; never = never a.entries }
  where
    never : (o : Option (List Entry)) → IfSome o (λ es. IsTrue a.sound → P es → F → ⊥)
    never None = tt
    never (Some es) = λ sound room f. none f

-- likewise, of the values that the code has
pub keeps_same : {K : Type 0} (state : K → KeeperState) (k j : K) (P : List Entry → Type 0) → j ≡ k → Keeps (state k) (state j) ⊥ P
keeps_same {K} state k j P is = subst (λ (i : K). Keeps (state k) (state i) ⊥ P) (sym is) (keeps_still (state k) ⊥ P (λ f. f))

-- a call that failed nowhere needs no room
keeps_free : (a b : KeeperState) (F : Type 0) (P Q : List Entry → Type 0) → Keeps a b F P → Keeps a b ⊥ Q
keeps_free a b F P Q k = record { later = k.later; cause = λ f. absurd f; room_kept = k.room_kept; stays = k.stays; never = never a.entries }
  where
    never : (o : Option (List Entry)) → IfSome o (λ es. IsTrue a.sound → Q es → ⊥ → ⊥)
    never None = tt
    never (Some es) = λ sound room f. f

-- calls that fail nowhere, and one more
keeps_then : (a b c : KeeperState) (more : List Entry) (F : Type 0) (P Q : List Entry → Type 0) → b.entries ≡ with_more more a.entries → Keeps a b ⊥ (λ _. ⊤) → Keeps b c F Q → ((es : List Entry) → P es → Q (es ++ more)) → Keeps a c F P
keeps_then a b c more F P Q is first last f =
    record {
      later = omega (arith, first.later, last.later);
      cause = λ e. omega (arith, first.later, last.cause e);
      room_kept = last.room_kept ∙ first.room_kept;
      stays = λ told sound. last.stays (some_kept a.entries b.entries more is told) (first.stays told sound);
      never = never a.entries b.entries is (λ told. first.stays told) last.never;
    }
  where
    never : (x y : Option (List Entry)) → y ≡ with_more more x → (IsSome x → IsTrue a.sound → IsTrue b.sound) → IfSome y (λ es. IsTrue b.sound → Q es → F → ⊥) → IfSome x (λ es. IsTrue a.sound → P es → F → ⊥)
    never None y is stays n = tt
    never (Some es) y is stays n = λ sound room failed. (subst (λ (o : Option (List Entry)). IfSome o (λ fs. IsTrue b.sound → Q fs → F → ⊥)) is n) (stays refl sound) (f es room) failed

pub keeps_more : (a b c : KeeperState) (more : List Entry) (F : Type 0) (P : List Entry → Type 0) → b.entries ≡ with_more more a.entries → Keeps a b ⊥ (λ _. ⊤) → Keeps b c F P → Keeps a c ⊥ (λ _. ⊤)
keeps_more a b c more F P is first last = keeps_then a b c more ⊥ (λ _. ⊤) (λ _. ⊤) is first (keeps_free b c F P (λ _. ⊤) last) (λ es v. v)

module _ (p : ProfileView) where
  -- a call came: there is room for what it adds
  pub room_for_one : (s : ServerState) (call : Numbered) (l0 w0 l1 : Option (List ℕ)) (room : ℕ) (es : List Entry) → IfSome l0 (λ bytes. Receives (MeansCall p) (WireRefused p calls) bytes l1 (Ok (Some call))) → RoomFor p 1 s l0 w0 room es
      → length (es ++ kept_for s call.request) ≤ room
  room_for_one s call l0 w0 l1 room es r fits =
      let h = fits (call ∷ []) (comes l0 w0 r) (omega arith) in
      subst (λ (l : List Entry). length (es ++ l) ≤ room) (append-nil (kept_for s call.request)) h
    where
      comes : (l w : Option (List ℕ)) → IfSome l (λ bytes. Receives (MeansCall p) (WireRefused p calls) bytes l1 (Ok (Some call))) → MayCome p l w (call ∷ [])
      comes None w h = tt
      comes (Some bytes) None h = tt
      comes (Some bytes) (Some before) h = (h.0, (h.1.body, h.0, h.1.fits, h.1.parts, h.1.means, refl))

  -- after so many calls there is room for one more
  pub room_for_next : (most : ℕ) (s u : ServerState) (n : ℕ) (l0 w0 l1 w1 : Option (List ℕ)) (e0 e1 : Option (List Entry)) (room : ℕ) (es : List Entry) (so : StoreSoFar p s n l0 w0 l1 w1 e0 e1 u) → n < most → RoomFor p most s l0 w0 room es
      → RoomFor p 1 u l1 w1 room (es ++ kept_in s so.calls)
  room_for_next most s u n l0 w0 l1 w1 e0 e1 room es so lt fits ds may few =
      let h = fits (so.calls ++ ds) (comes l0 w0 l1 w1 so.link may) (omega (arith, length-append so.calls ds, so.count, lt, few)) in
      let is : kept_in s (so.calls ++ ds) ≡ kept_in s so.calls ++ kept_in u ds = kept_then p s so.calls ds ∙ ap (λ (v : ServerState). kept_in s so.calls ++ kept_in v ds) (sym so.server) in
      subst (λ (l : List Entry). length l ≤ room) (ap (λ (l : List Entry). es ++ l) is ∙ sym (append_assoc es (kept_in s so.calls) (kept_in u ds))) h
    where
      comes : (l0 w0 l1 w1 : Option (List ℕ)) → SoFar (server_side p) s so.calls l0 w0 l1 w1 u → MayCome p l1 w1 ds → MayCome p l0 w0 (so.calls ++ ds)
      comes None w0 l1 w1 f m = tt
      comes (Some bytes) None l1 w1 f m = tt
      comes (Some bytes) (Some before) None w1 f m = absurd (no_some f.0 f.3)
      comes (Some bytes) (Some before) (Some mid) None f m = absurd f.2
      comes (Some bytes) (Some before) (Some mid) (Some now) f m = (m.0, came_then (MeansCall p) bytes so.calls ds f.0 m.0 f.4.came (subst (λ (l : List ℕ). Came (MeansCall p) l ds m.0) (same_some mid f.0 f.3) m.1))

  pub keeps_next : (most : ℕ) (s u : ServerState) (n : ℕ) (l0 w0 l1 w1 : Option (List ℕ)) (a b c : KeeperState) (F : Type 0) (so : StoreSoFar p s n l0 w0 l1 w1 a.entries b.entries u) → n < most → Keeps a b ⊥ (λ _. ⊤) → Keeps b c F (RoomFor p 1 u l1 w1 b.room)
      → Keeps a c F (RoomFor p most s l0 w0 a.room)
  keeps_next most s u n l0 w0 l1 w1 a b c F so lt first last =
      keeps_then a b c (kept_in s so.calls) F (RoomFor p most s l0 w0 a.room) (RoomFor p 1 u l1 w1 b.room) so.appended first last
      (λ es fits. room_for_next most s u n l0 w0 l1 w1 a.entries b.entries b.room es so lt (subst (λ (k : ℕ). RoomFor p most s l0 w0 k es) (sym first.room_kept) fits))
