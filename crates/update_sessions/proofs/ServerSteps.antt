-- Steps of a session of a store.
use Rattle.std.proofs.Common.{◌≡◌, ◌≢◌, ℕ, ◌+◌, ◌<◌, List, [], ◌∷◌, ◌++◌, length, true, false, Option, Some, None, Result, Ok, Err, refl, sym, ap, ◌∙◌, subst, append-nil, append_assoc, length-append, arith}
use Rattle.std.specs.Prelude.{IfSome}
use Rattle.std.specs.Io.KnownBytes.{Appends}
use Rattle.tl_base.specs.Using.{SinkState, SourceState}
use Rattle.tl_base.specs.Writing.{AppendsPrefix}
use Rattle.box_events.specs.declared.requests.Numbered.{Numbered}
use Rattle.box_server.specs.Servers.{ServerState, dated_at}
use Rattle.box_server.specs.declared.entry.Entry.{Entry}
use Rattle.box_server.specs.Keeping.{with_more}
use Rattle.wire_profile.specs.Indexes.{ProfileView}
use Rattle.box_wire.specs.Framing.{WireRefused}
use Rattle.box_wire.specs.Kinds.{calls}
use Rattle.update_sessions.specs.declared.fault.SessionFault.{SessionFault}
use Rattle.update_sessions.specs.declared.fault.SessionFault.TheVariants.{Packet, Wire, Client, TooManyFrames, LinkFault}
use Rattle.update_sessions.specs.declared.fault.TheConstants.{MAX_FRAMES}
use Rattle.update_sessions.specs.declared.storing.StoreSession.{StoreSession}
use Rattle.update_sessions.specs.declared.storing.StoreSession.TheVariants.{Session}
use Rattle.update_sessions.specs.Exchanges.{Exchanged, MaySend, after_all}
use Rattle.update_sessions.specs.Kept.{EndsSession, StoreEnd, Stores, end_of, ended, keeper_failed, kept_for, kept_in}
use Rattle.update_sessions.specs.Links.{LinkNeverFails, OverLink}
use Rattle.update_sessions.specs.Packed.{MeansCall, SpellsFrame, Packed}
use Rattle.update_sessions.specs.Receiving.{Receives}
use Rattle.update_sessions.specs.Served.{Serves}
use Rattle.update_sessions.specs.Serving.{after_request, sent_for, server_side}
use Rattle.update_sessions.specs.inner.Steps.{BreaksOff, SoFar, Unmoved}
use Rattle.update_sessions.specs.inner.StoreSteps.{ServesNone, KeeperFails, StoresNext, StoreSoFar}
use Rattle.update_sessions.proofs.Entries.{more_none, more_more}
use Rattle.update_sessions.proofs.Exchanging.{after_then, cut_none, exchanged_still}
use Rattle.update_sessions.proofs.Stepping.{over_as, over_same, over_then, over_now, so_far_none, so_far_then, step_done, step_cut, step_kept}

-- ---- entries

-- nothing was appended
pub kept_still : (s : ServerState) (a b : Option (List Entry)) → b ≡ a → b ≡ with_more (kept_in s []) a
kept_still s a b same = same ∙ more_none a

-- what one call adds
kept_call : (s : ServerState) (c : Numbered) (a b : Option (List Entry)) → b ≡ with_more (kept_for s c.request) a → b ≡ with_more (kept_in s (c ∷ [])) a
kept_call s c a b is = is ∙ ap (λ (l : List Entry). with_more l a) (sym (append-nil (kept_for s c.request)))

module _ (p : ProfileView) where
  pub kept_then : (s : ServerState) (cs ds : List Numbered) → kept_in s (cs ++ ds) ≡ kept_in s cs ++ kept_in (after_all (server_side p) s cs) ds
  kept_then s [] ds = refl
  kept_then s (c ∷ cs) ds =
      let t : ServerState = after_request s c.request in
      ap (λ (l : List Entry). kept_for s c.request ++ l) (kept_then t cs ds) ∙ sym (append_assoc (kept_for s c.request) (kept_in t cs) (kept_in (after_all (server_side p) t cs) ds))

  appended_then : (s u : ServerState) (cs ds : List Numbered) (a b c : Option (List Entry)) → u ≡ after_all (server_side p) s cs → b ≡ with_more (kept_in s cs) a → c ≡ with_more (kept_in u ds) b → c ≡ with_more (kept_in s (cs ++ ds)) a
  appended_then s u cs ds a b c is first more =
      more
      ∙ ap (λ (v : ServerState). with_more (kept_in v ds) b) is
      ∙ ap (λ (o : Option (List Entry)). with_more (kept_in (after_all (server_side p) s cs) ds) o) first
      ∙ more_more a (kept_in s cs) (kept_in (after_all (server_side p) s cs) ds)
      ∙ ap (λ (l : List Entry). with_more l a) (sym (kept_then s cs ds))

  -- ---- one step

  none_by : (s : ServerState) (bytes : List ℕ) (after : Option (List ℕ)) (fault : SessionFault) → Receives (MeansCall p) (WireRefused p calls) bytes after (Err fault) → ServesNone p s bytes [] s fault []
  none_by s bytes after (Packet f) h = ((refl, refl), h, refl)
  none_by s bytes after (Wire f) h = ((refl, refl), h, refl)
  none_by s bytes after (Client f) h = h
  none_by s bytes after TooManyFrames h = h
  none_by s bytes after LinkFault h = (omega arith, cut_none (server_side p) s s bytes refl)

  if_none : (s : ServerState) (l0 l1 : Option (List ℕ)) (fault : SessionFault) → IfSome l0 (λ bytes. Receives (MeansCall p) (WireRefused p calls) bytes l1 (Err fault)) → IfSome l0 (λ bytes. ServesNone p s bytes [] s fault [])
  if_none s None l1 fault h = tt
  if_none s (Some bytes) l1 fault h = none_by s bytes l1 fault h

  if_ended : (s : ServerState) (l0 l1 : Option (List ℕ)) → IfSome l0 (λ bytes. Receives (MeansCall p) (WireRefused p calls) bytes l1 (Ok None)) → IfSome l0 (λ bytes. Unmoved s [] s × (bytes ≡ []))
  if_ended s None l1 h = tt
  if_ended s (Some bytes) l1 h = ((refl, refl), h)

  -- no call was received
  pub next_none : (s : ServerState) (l0 w0 l1 w1 : Option (List ℕ)) (e0 e1 : Option (List Entry)) (fault : SessionFault) → IfSome l0 (λ bytes. Receives (MeansCall p) (WireRefused p calls) bytes l1 (Err fault)) → w0 ≡ w1 → e1 ≡ e0
      → StoresNext p s l0 w0 l1 w1 e0 e1 (ended s (Err fault))
  next_none s l0 w0 l1 w1 e0 e1 fault h w same =
      record { calls = []; link = over_same l0 w0 w1 (λ bytes out. ServesNone p s bytes out s fault []) w (if_none s l0 l1 fault h); appended = kept_still s e0 e1 same }

  pub next_ended : (s : ServerState) (l0 w0 l1 w1 : Option (List ℕ)) (e0 e1 : Option (List Entry)) → IfSome l0 (λ bytes. Receives (MeansCall p) (WireRefused p calls) bytes l1 (Ok None)) → w0 ≡ w1 → e1 ≡ e0
      → StoresNext p s l0 w0 l1 w1 e0 e1 (ended s (Ok false))
  next_ended s l0 w0 l1 w1 e0 e1 h w same =
      record { calls = []; link = (refl, over_same l0 w0 w1 (λ bytes out. Unmoved s out s × (bytes ≡ [])) w (if_ended s l0 l1 h)); appended = kept_still s e0 e1 same }

  -- there was no memory to take a call
  pub next_short : (s : ServerState) (l0 w0 l1 w1 : Option (List ℕ)) (e0 e1 : Option (List Entry)) → w0 ≡ w1 → e1 ≡ e0 → StoresNext p s l0 w0 l1 w1 e0 e1 (ended s (Err LinkFault))
  next_short s l0 w0 l1 w1 e0 e1 w same =
      record {
        calls = [];
        link = over_same l0 w0 w1 (λ bytes out. BreaksOff (server_side p) s bytes out s []) w (if_cut l0);
        appended = kept_still s e0 e1 same;
      }
    where
      if_cut : (l : Option (List ℕ)) → IfSome l (λ bytes. BreaksOff (server_side p) s bytes [] s [])
      if_cut None = tt
      if_cut (Some bytes) = (omega arith, cut_none (server_side p) s s bytes refl)

  -- a call was received, and then
  module _ (s : ServerState) (call : Numbered) (l0 w0 l1 w1 : Option (List ℕ)) (r : IfSome l0 (λ bytes. Receives (MeansCall p) (WireRefused p calls) bytes l1 (Ok (Some call)))) (w : w0 ≡ w1) (e0 e1 : Option (List Entry)) where
    -- the keeper failed
    pub next_failed : (t : ServerState) → kept_for s call.request ≢ [] → t ≡ s → e1 ≡ e0 → StoresNext p s l0 w0 l1 w1 e0 e1 (keeper_failed t)
    next_failed t new is same = record { calls = []; link = (refl, is, over_same l0 w0 w1 (λ bytes out. KeeperFails p s bytes out) w (if_failed l0 r)); appended = kept_still s e0 e1 same }
      where
        if_failed : (l : Option (List ℕ)) → IfSome l (λ bytes. Receives (MeansCall p) (WireRefused p calls) bytes l1 (Ok (Some call))) → IfSome l (λ bytes. KeeperFails p s bytes [])
        if_failed None h = tt
        if_failed (Some bytes) h = record { last = call; rest = h.0; comes = h.1; new = new; wrote = refl }

    -- it was taken, and then
    module _ (t : ServerState) (is : t ≡ after_request s call.request) (more : e1 ≡ with_more (kept_for s call.request) e0) where
      -- there was no memory for its answer
      pub next_dropped : StoresNext p s l0 w0 l1 w1 e0 e1 (ended t (Err LinkFault))
      next_dropped = record { calls = call ∷ []; link = step_kept (server_side p) (WireRefused p calls) s t call [] tt l0 w0 l1 w1 r w is; appended = kept_call s call e0 e1 more }

      module _ (out : List ℕ) (l2 w2 : Option (List ℕ)) (packed : Packed (SpellsFrame p) (sent_for s call.number call.request) out) where
        -- the link failed
        pub next_cut : AppendsPrefix w1 w2 out → StoresNext p s l0 w0 l2 w2 e0 e1 (ended t (Err LinkFault))
        next_cut wrote = record { calls = call ∷ []; link = step_cut (server_side p) (WireRefused p calls) s t call out tt l0 w0 l1 w1 w2 r w packed is wrote; appended = kept_call s call e0 e1 more }

        -- all was written
        pub next_done : l1 ≡ l2 → Appends w1 w2 out → StoresNext p s l0 w0 l2 w2 e0 e1 (ended t (Ok true))
        next_done l wrote =
            record {
              calls = call ∷ [];
              link = (refl, is, step_done (server_side p) (WireRefused p calls) s t call out tt l0 w0 l1 w1 l2 w2 r w packed is l wrote);
              appended = kept_call s call e0 e1 more;
            }

  -- ---- many steps

  pub so_far_first : (s t : ServerState) (l w : Option (List ℕ)) (e0 e1 : Option (List Entry)) → t ≡ s → e1 ≡ e0 → StoreSoFar p s 0 l w l w e0 e1 t
  so_far_first s t l w e0 e1 is same =
      record { calls = []; count = refl; server = is; link = subst (λ (u : ServerState). SoFar (server_side p) s [] l w l w u) (sym is) (so_far_none (server_side p) s l w); appended = kept_still s e0 e1 same }

  module _ (s u : ServerState) (n : ℕ) (l0 w0 l1 w1 : Option (List ℕ)) (e0 e1 : Option (List Entry)) (so : StoreSoFar p s n l0 w0 l1 w1 e0 e1 u) where
    -- a call was answered
    pub so_far_next : (t : ServerState) (l2 w2 : Option (List ℕ)) (e2 : Option (List Entry)) → StoresNext p u l1 w1 l2 w2 e1 e2 (ended t (Ok true)) → StoreSoFar p s (n + 1) l0 w0 l2 w2 e0 e2 t
    so_far_next t l2 w2 e2 step =
        record {
          calls = so.calls ++ step.calls;
          count = omega (arith, length-append so.calls step.calls, so.count, step.link.0);
          server = step.link.1 ∙ ap (λ (v : ServerState). after_all (server_side p) v step.calls) so.server ∙ sym (after_then (server_side p) s so.calls step.calls);
          link = so_far_then (server_side p) s u t so.calls step.calls l0 w0 l1 w1 l2 w2 so.link step.link.2;
          appended = appended_then s u so.calls step.calls e0 e1 e2 so.server so.appended step.appended;
        }

    -- ---- how a session ends

    none_more : (ds : List Numbered) → ds ≡ [] → so.calls ++ ds ≡ so.calls
    none_more ds is = ap (λ (l : List Numbered). so.calls ++ l) is ∙ append-nil so.calls

    module _ (lt : n < MAX_FRAMES) (bytes mid x y : List ℕ) (ex : Exchanged (server_side p) s bytes mid x u so.calls) where
      few : length so.calls < MAX_FRAMES
      few = omega (arith, so.count, lt)

      stopped : (t : ServerState) (fault : SessionFault) (ds : List Numbered) → ServesNone p u mid y t fault ds → Serves p s bytes (x ++ y) t (Err fault) (so.calls ++ ds)
      stopped t (Packet f) ds h =
          subst (λ (cs : List Numbered). Serves p s bytes (x ++ y) t (Err (Packet f)) cs) (sym (none_more ds h.2)) (mid, exchanged_still (server_side p) s u t bytes mid x y so.calls ex h.0.0 h.0.1, few, h.1)
      stopped t (Wire f) ds h =
          subst (λ (cs : List Numbered). Serves p s bytes (x ++ y) t (Err (Wire f)) cs) (sym (none_more ds h.2)) (mid, exchanged_still (server_side p) s u t bytes mid x y so.calls ex h.0.0 h.0.1, few, h.1)
      stopped t (Client f) ds h = absurd h
      stopped t TooManyFrames ds h = absurd h
      stopped t LinkFault ds h = record { first = so.calls; last = ds; all = refl; few = few; one = h.0; between = u; rest = mid; wrote = x; part = y; out_is = refl; exchanged = ex; cut = h.1 }

      done : (t : ServerState) (ds : List Numbered) → ds ≡ [] → Unmoved u y t × (mid ≡ []) → Serves p s bytes (x ++ y) t (Ok n) (so.calls ++ ds)
      done t ds none h =
          subst (λ (cs : List Numbered). Serves p s bytes (x ++ y) t (Ok n) cs) (sym (none_more ds none))
          (subst (λ (l : List ℕ). Exchanged (server_side p) s bytes l (x ++ y) t so.calls) h.1 (exchanged_still (server_side p) s u t bytes mid x y so.calls ex h.0.0 h.0.1), sym so.count, lt)

      broke : (t : ServerState) (ds : List Numbered) → ds ≡ [] → t ≡ u → KeeperFails p u mid y → EndsSession p s bytes (x ++ y) (so.calls ++ ds) (keeper_failed t)
      broke t ds none is h =
          subst (λ (cs : List Numbered). EndsSession p s bytes (x ++ y) cs (keeper_failed t)) (sym (none_more ds none))
          (record { between = u; left = mid; exchanged = exchanged_still (server_side p) s u u bytes mid x y so.calls ex h.wrote refl; few = few; last = h.last; rest = h.rest; comes = h.comes; new = h.new }, is)

    module _ (lt : n < MAX_FRAMES) (l2 w2 : Option (List ℕ)) (e2 : Option (List Entry)) where
      pub stores_stopped : (t : ServerState) (fault : SessionFault) → StoresNext p u l1 w1 l2 w2 e1 e2 (ended t (Err fault)) → Stores p s l0 w0 w2 e0 e2 (ended t (Err fault))
      stores_stopped t fault step =
          record {
            calls = so.calls ++ step.calls;
            link = over_then (server_side p) s u so.calls l0 w0 l1 w1 w2 (λ bytes out. ServesNone p u bytes out t fault step.calls) (λ bytes out. Serves p s bytes out t (Err fault) (so.calls ++ step.calls)) so.link step.link
                (λ bytes mid x y ex h. stopped lt bytes mid x y ex t fault step.calls h);
            appended = appended_then s u so.calls step.calls e0 e1 e2 so.server so.appended step.appended;
          }

      pub stores_ended : (t : ServerState) → StoresNext p u l1 w1 l2 w2 e1 e2 (ended t (Ok false)) → Stores p s l0 w0 w2 e0 e2 (ended t (Ok n))
      stores_ended t step =
          record {
            calls = so.calls ++ step.calls;
            link = over_then (server_side p) s u so.calls l0 w0 l1 w1 w2 (λ bytes out. Unmoved u out t × (bytes ≡ [])) (λ bytes out. Serves p s bytes out t (Ok n) (so.calls ++ step.calls)) so.link step.link.1
                (λ bytes mid x y ex h. done lt bytes mid x y ex t step.calls step.link.0 h);
            appended = appended_then s u so.calls step.calls e0 e1 e2 so.server so.appended step.appended;
          }

      pub stores_failed : (t : ServerState) → StoresNext p u l1 w1 l2 w2 e1 e2 (keeper_failed t) → Stores p s l0 w0 w2 e0 e2 (keeper_failed t)
      stores_failed t step =
          record {
            calls = so.calls ++ step.calls;
            link = over_then (server_side p) s u so.calls l0 w0 l1 w1 w2 (λ bytes out. KeeperFails p u bytes out) (λ bytes out. EndsSession p s bytes out (so.calls ++ step.calls) (keeper_failed t)) so.link step.link.2
                (λ bytes mid x y ex h. broke lt bytes mid x y ex t step.calls step.link.0 step.link.1 h);
            appended = appended_then s u so.calls step.calls e0 e1 e2 so.server so.appended step.appended;
          }

    pub stores_full : n ≡ MAX_FRAMES → Stores p s l0 w0 w1 e0 e1 (ended u (Err TooManyFrames))
    stores_full is =
        record {
          calls = so.calls;
          link = over_now (server_side p) s u so.calls l0 w0 l1 w1 (λ bytes out. Serves p s bytes out u (Err TooManyFrames) so.calls) so.link (λ bytes mid x ex. (mid, ex, so.count ∙ is));
          appended = so.appended;
        }

-- a session of a store ended by this
pub ended_by : (G : StoreEnd ℕ → Type 0) (t : ServerState) (r : Result ℕ StoreSession) (y z : StoreSession) → r ≡ Err y → y ≡ z → G (end_of t r) → G (end_of t (Err z))
ended_by G t r y z is same h = subst (λ (x : StoreSession). G (end_of {T = ℕ} t (Err x))) same (subst (λ (x : Result ℕ StoreSession). G (end_of t x)) is h)

pub link_failed : (r : Result ℕ StoreSession) (y : StoreSession) (f : SessionFault) → r ≡ Err y → y ≡ Session f → f ≡ LinkFault → r ≡ Err (Session LinkFault)
link_failed r y f is same e = is ∙ ap (λ (z : StoreSession). Err z) (same ∙ ap (λ (g : SessionFault). Session g) e)

module _ (p : ProfileView) where
  -- what a session of a store does is one of its server
  pub served_of : (s u t v : ServerState) (now : ℕ) (l0 w0 w1 : Option (List ℕ)) (e0 e1 : Option (List Entry)) (r : Result ℕ SessionFault) → u ≡ s → v ≡ t → Stores p (dated_at u now) l0 w0 w1 e0 e1 (ended t r)
      → OverLink l0 w0 w1 (λ bytes out. (cs : List Numbered) × Serves p (dated_at s now) bytes out v r cs)
  served_of s u t v now l0 w0 w1 e0 e1 r first last h =
      over_as l0 w0 w1 (λ bytes out. Serves p (dated_at u now) bytes out t r h.calls) (λ bytes out. (cs : List Numbered) × Serves p (dated_at s now) bytes out v r cs)
      (λ bytes out is. (h.calls, subst (λ (x : ServerState). Serves p (dated_at x now) bytes out v r h.calls) first (subst (λ (x : ServerState). Serves p (dated_at u now) bytes out x r h.calls) (sym last) is))) h.link

  pub never_of : (s u : ServerState) (now : ℕ) (a : SourceState) (x : SinkState) (F : Type 0) → u ≡ s → LinkNeverFails a x (MaySend (server_side p) (dated_at u now)) F → LinkNeverFails a x (MaySend (server_side p) (dated_at s now)) F
  never_of s u now a x F is h = subst (λ (v : ServerState). LinkNeverFails a x (MaySend (server_side p) (dated_at v now)) F) is h
