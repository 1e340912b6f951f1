-- What `client` comes to over an outside, whatever stops it, and what it leaves of State.
use Rattle.std.proofs.Common.{◌≡◌, ℕ, ℤ, List, [], ◌∷◌, ◌++◌, append-nil, Bool, true, false, Option, Some, None, Ok, Err, refl, sym, ap, ◌∙◌, subst, inl, inr}
use Rattle.tl_base.specs.Calls.{link_taken, with_name}
use Rattle.tl_base.specs.Outside.{View, left_of, written_of, with_written}
use Rattle.tl_base.specs.declared.host.Out.TheVariants as outs
use Rattle.tl_base.specs.declared.host.Slot.TheVariants as slots
use Rattle.box_client.specs.Saving.{saved_of}
use Rattle.box_client.specs.States.{ClientState}
use Rattle.wire_profile.specs.Indexes.{ProfileView}
use Rattle.wire_values.specs.SavedClients.{saved_tree}
use Rattle.box_wire.specs.Framing.{Framed}
use Rattle.box_wire.specs.Kinds.{saved_clients}
use Rattle.outside.specs.Answer.{Answer, done, link_fault_line, memory_line, read_fault_line, refused, write_fault_line}
use Rattle.outside.specs.Kept.{AddsPrefix, Leaves}
use Rattle.outside.specs.Telling.{Tells as TellsOn}
use Rattle.outside.specs.declared.status.Status.{Status}
use Rattle.outside.specs.declared.status.Status.TheVariants as status
use Rattle.outside.specs.Events.{Event, Outside, created, connected}
use Rattle.outside.specs.Pieces.{Writes}
use Rattle.outside.specs.Printing.{Prints, Unread}
use Rattle.outside.proofs.Causing.{keeps_write}
use Rattle.outside.specs.Fits.{Fits}
use Rattle.outside.proofs.Fitting.{fits_both, writes_append}
use Rattle.update_sessions.specs.declared.fault.SessionFault.{SessionFault}
use Rattle.session_commands.specs.Client.{ClientAnswer, client_line, many_channels_line}
use Rattle.session_commands.specs.Client as old
use Rattle.session_commands.specs.Linked.{BeginsState, LeavesState, next_link, over_link, saves_after}
use Rattle.session_commands.specs.SessionEnds.{session_line}
use Rattle.session_commands.specs.declared.state.TheConstants.{MAX_STATE_BYTES}
use Rattle.session_rooms.specs.Client as rooms
use Rattle.session_rooms.specs.Client.{no_memory, saves, after_state, after_create, ends_by, after_session, after_connect, Recovers, OfState, no_client, too_many, watches, after_reading, OfStateFile, recovers}
use Rattle.session_rooms.specs.Conversing.{Outcome, Converses}
use Rattle.session_rooms.proofs.Conversed.{keeps_converse}
use Rattle.session_rooms.proofs.ConversedBytes.{IsSession, converses_over_bytes}
use Rattle.session_rooms.proofs.LeftViews.{beside, leaves_then, IsOverLink, link_left, link_spares, IsToState, saves_line, state_left, saved_left}
use Rattle.session_rooms.proofs.PostFiles.{output_of}
use Rattle.session_rooms.proofs.Spared.{OnlySlots, writes_spare}
use Rattle.run_laws.proofs.links.Coming.{Came, gave, cut, out_of_memory, unfinished, came_as, came_later, Comes, command_comes, file_comes, missing_comes, refusal_comes}
use Rattle.run_laws.proofs.links.StateFiles.{state_stays}
use Rattle.run_laws.proofs.links.ToldLines.{Causes, Printed, all_printed, part_printed, cause_last, errors_of, print_comes, put_part, tell_alone, tells_later}

-- ---- State

-- State and its name are as before
abbrev SameState : View → View → Type 0
SameState v w = (w.written.state ≡ v.written.state) × (w.state_name ≡ v.state_name)

same_beside : (v w : View) → beside w ≡ beside v → SameState v w
same_beside v w same = (ap (λ (u : View). u.written.state) same, ap (λ (u : View). u.state_name) same)

state_as : (Is J : Answer → Type 0) (v w : View) → ((a : Answer) → Is a → J a) → LeavesState Is v w → LeavesState J v w
state_as Is J v w into (inl same) = inl same
state_as Is J v w into (inr (a, is, begun)) = inr (a, into a is, begun)

state_later : (Is : Answer → Type 0) (v u w : View) → SameState v u → LeavesState Is u w → LeavesState Is v w
state_later Is v u w before (inl same) = inl (same.0 ∙ before.0, same.1 ∙ before.1)
state_later Is v u w before (inr begun) = inr begun

printed_beside : (W : Type 0) (status : Status) (output line : List ℕ) (r : Status) (s n : Outside) → Printed W status output line r s n → beside n.view ≡ beside s.view
printed_beside W status output line r s n (all_printed e wrote tells rest) = rest
printed_beside W status output line r s n (part_printed e wrote tells rest) = rest

module _ (W : Type 0) where
  -- what a run comes to, and what it leaves of State
  abbrev pub End : (Answer → Type 0) → Status → Outside → Outside → Type 0
  End Is r s n = Came Is W r s n × LeavesState Is s.view n.view

  end_as : (Is J : Answer → Type 0) (r : Status) (s n : Outside) → ((a : Answer) → Is a → J a) → End Is r s n → End J r s n
  end_as Is J r s n into e = (came_as W Is J r s n into e.0, state_as Is J s.view n.view into e.1)

  end_later : (Is : Answer → Type 0) (r : Status) (s m n : Outside) → OnlySlots s m → End Is r m n → End Is r s n
  end_later Is r s m n same e =
      (came_later W Is r s m n same e.0, state_later Is s.view m.view n.view (ap (λ (v : View). v.written.state) same, ap (λ (v : View). v.state_name) same) e.1)

  end_refusal : (Is : Answer → Type 0) (line : List ℕ) (t : List Event) (r : Status) (s n : Outside) → Is (refused line) → Prints (refused line) t r → Fits t s n → Causes W t → End Is r s n
  end_refusal Is line t r s n is h f c =
      (refusal_comes W Is line t r s n is h f c, inl (same_beside s.view n.view (printed_beside W status.Refused [] line r s n (print_comes W (refused line) t r s n h f c))))

  end_missing : (Is : Answer → Type 0) (t : List Event) (r : Status) (s n : Outside) → Unread t r → Fits t s n → Causes W t → End Is r s n
  end_missing Is t r s n h f c =
      let e = tell_alone W read_fault_line status.ReadFault r t s n h f c in
      (missing_comes W Is t r s n h f c, inl (same_beside s.view n.view e.rest))

  module _ (p : ProfileView) (address name : List ℕ) where
    -- ---- what is left of a client

    -- the client was saved, and is told; or a write failed after State was created; or it could not be created; or there was no memory for what is saved
    data Left (c : ClientState) (r : Status) (a b : Outside) : Type 0 where
      saved_all : (bytes : List ℕ) → Framed p saved_clients (saved_tree (saved_of c)) bytes → r ≡ status.Done → output_of b ≡ output_of a ++ client_line c → TellsOn W [] a.view b.view → Leaves (saves_line name bytes (client_line c)) a.view b.view
          → Left c r a b
      saved_part : (bytes : List ℕ) → Framed p saved_clients (saved_tree (saved_of c)) bytes → r ≡ status.WriteFault → AddsPrefix (output_of a) (output_of b) (client_line c) → TellsOn W write_fault_line a.view b.view
          → BeginsState (Some (name, bytes)) b.view → Left c r a b
      saved_none : (bytes : List ℕ) → Framed p saved_clients (saved_tree (saved_of c)) bytes → r ≡ status.WriteFault → output_of b ≡ output_of a → TellsOn W write_fault_line a.view b.view → SameState a.view b.view → Left c r a b
      unsaved : r ≡ status.Memory → output_of b ≡ output_of a → TellsOn W memory_line a.view b.view → SameState a.view b.view → Left c r a b

    -- all of State was written
    line_printed : (c : ClientState) (bytes : List ℕ) (r : Status) (a k b : Outside) → Framed p saved_clients (saved_tree (saved_of c)) bytes → Leaves (saves_line name bytes (client_line c)) a.view k.view → output_of k ≡ output_of a → errors_of k ≡ errors_of a
        → Printed W status.Done (client_line c) [] r k b → Left c r a b
    line_printed c bytes r a k b framed leaves same errors (all_printed e wrote tells rest) =
        saved_all bytes framed e (wrote ∙ ap (λ (z : List ℕ). z ++ client_line c) same) (tells_later W [] a k b errors tells) (leaves_then (saves_line name bytes (client_line c)) a.view k.view b.view leaves rest)
    line_printed c bytes r a k b framed leaves same errors (part_printed e prefix tells rest) =
        let whole = leaves_then (saves_line name bytes (client_line c)) a.view k.view b.view leaves rest in
        saved_part bytes framed e (prefix.0, prefix.1, prefix.2, prefix.3 ∙ ap (λ (z : List ℕ). z ++ prefix.0) same) (tells_later W write_fault_line a k b errors tells) (whole.state_name, [], append-nil b.view.written.state ∙ whole.state)

    state_written : (c : ClientState) (bytes : List ℕ) (ok : Bool) (t u : List Event) (r : Status) (a m k b : Outside) → m.view ≡ with_name outs.State name (with_written outs.State [] a.view) → Framed p saved_clients (saved_tree (saved_of c)) bytes
        → Writes outs.State bytes t ok → after_state c ok u r → Fits t m k → Fits u k b → Causes W u → Left c r a b
    state_written c bytes true t u r a m k b made framed w h f g causes =
        let leaves = state_left name bytes a m k t made (keeps_write IsToState outs.State bytes (λ _. refl) tt t true w) f (writes_append outs.State bytes t m k w f) (client_line c) in
        let same : output_of k ≡ output_of a = writes_spare outs.State (written_of outs.Output) (λ bytes v. refl) bytes t true m k w f ∙ ap (written_of outs.Output) made in
        let errors : errors_of k ≡ errors_of a = writes_spare outs.State (written_of outs.Errors) (λ bytes v. refl) bytes t true m k w f ∙ ap (written_of outs.Errors) made in
        line_printed c bytes r a k b framed leaves same errors (print_comes W (done (client_line c)) u r k b h g causes)
    state_written c bytes false t u r a m k b made framed w h f g causes =
        let e = tell_alone W write_fault_line status.WriteFault r u k b h g causes in
        let same : output_of k ≡ output_of a = writes_spare outs.State (written_of outs.Output) (λ bytes v. refl) bytes t false m k w f ∙ ap (written_of outs.Output) made in
        let errors : errors_of k ≡ errors_of a = writes_spare outs.State (written_of outs.Errors) (λ bytes v. refl) bytes t false m k w f ∙ ap (written_of outs.Errors) made in
        let begun : k.view.written.state ≡ w.0 = put_part outs.State w.0 t m k w.2 f ∙ ap (λ (v : View). v.written.state ++ w.0) made in
        let named : k.view.state_name ≡ Some name = writes_spare outs.State (λ (v : View). v.state_name) (λ bytes v. refl) bytes t false m k w f ∙ ap (λ (v : View). v.state_name) made in
        let kept = same_beside k.view b.view e.rest in
        saved_part bytes framed h.goes.1 ([], client_line c, refl, e.output ∙ (same ∙ sym (append-nil (output_of a)))) (tells_later W write_fault_line a k b errors e.line_is)
        (kept.1 ∙ named, w.1, ap (λ (z : List ℕ). z ++ w.1) (kept.0 ∙ begun) ∙ w.3)

    state_created : (c : ClientState) (bytes : List ℕ) (ok : Bool) (t u : List Event) (r : Status) (a m b : Outside) → Framed p saved_clients (saved_tree (saved_of c)) bytes → t ≡ created outs.State name ok ∷ [] → after_create c bytes ok u r → Fits t a m → Fits u m b
        → Causes W u → Left c r a b
    state_created c bytes true t u r a m b framed event h f g causes =
        let o = subst (λ (l : List Event). Fits l a m) event f in
        let made : m.view ≡ with_name outs.State name (with_written outs.State [] a.view) = ap (λ (x : Outside). x.view) o.2 ∙ o.1.0 in
        let parts = fits_both h.first h.rest m b (subst (λ (l : List Event). Fits l m b) h.splits g) in
        state_written c bytes h.between h.first h.rest r a m parts.0 b made framed h.does h.goes parts.1 parts.2 (cause_last W u h.first h.rest h.splits causes)
    state_created c bytes false t u r a m b framed event h f g causes =
        let o = subst (λ (l : List Event). Fits l a m) event f in
        let same : m.view ≡ a.view = ap (λ (x : Outside). x.view) o.2 ∙ o.1.0 in
        let e = tell_alone W write_fault_line status.WriteFault r u m b h g causes in
        let kept = same_beside m.view b.view e.rest in
        saved_none bytes framed h.goes.1 (e.output ∙ ap (written_of outs.Output) same) (tells_later W write_fault_line a m b (ap (written_of outs.Errors) same) e.line_is)
        (kept.0 ∙ ap (λ (v : View). v.written.state) same, kept.1 ∙ ap (λ (v : View). v.state_name) same)

    client_left : (c : ClientState) (t : List Event) (r : Status) (a b : Outside) → rooms.Leaves p name c t r → Fits t a b → Causes W t → Left c r a b
    client_left c t r a b (no_memory h) f causes =
        let e = tell_alone W memory_line status.Memory r t a b h f causes in
        unsaved h.goes.1 e.output e.line_is (same_beside a.view b.view e.rest)
    client_left c t r a b (saves bytes framed h) f causes =
        let parts = fits_both h.first h.rest a b (subst (λ (l : List Event). Fits l a b) h.splits f) in
        state_created c bytes h.between h.first h.rest r a parts.0 b framed h.does h.goes parts.1 parts.2 (cause_last W t h.first h.rest h.splits causes)

    -- ---- the session

    -- a link was made, and this was sent over it
    record Sent (sent : List ℕ) (a k : Outside) : Type 0 where
      output : output_of k ≡ output_of a
      errors : errors_of k ≡ errors_of a
      leaves : (s : Status) (output line : List ℕ) → Leaves (over_link address sent s output line) a.view k.view
      state : SameState a.view k.view

    module _ (c : ClientState) (given sent : List ℕ) where
      abbrev Of : Answer → Type 0
      Of = old.OfSession p address name c given

      left_ends : (d : ClientState) (r : Status) (a k b : Outside) → IsSession p c given sent (Ok d) → Sent sent a k → Left d r k b → End Of r a b
      left_ends d r a k b session link (saved_all bytes framed e wrote tells leaves) =
          let line = client_line d in
          let is : Of (saves_after address sent name bytes line) = old.recovered session.0 sent bytes d session.1 framed refl in (
            gave (saves_after address sent name bytes line) is e
                (record { output = wrote ∙ ap (λ (z : List ℕ). z ++ line) link.output; leaves = saved_left address sent name bytes line a.view k.view b.view status.Done line [] (link.leaves status.Done line []) leaves })
                (tells_later W [] a k b link.errors tells),
            inr (saves_after address sent name bytes line, is, (leaves.state_name, [], append-nil b.view.written.state ∙ leaves.state)),
          )
      left_ends d r a k b session link (saved_part bytes framed e prefix tells begun) =
          let line = client_line d in
          let is : Of (saves_after address sent name bytes line) = old.recovered session.0 sent bytes d session.1 framed refl in (
            unfinished (saves_after address sent name bytes line) is e (prefix.0, prefix.1, prefix.2, prefix.3 ∙ ap (λ (z : List ℕ). z ++ prefix.0) link.output) (tells_later W write_fault_line a k b link.errors tells),
            inr (saves_after address sent name bytes line, is, begun),
          )
      left_ends d r a k b session link (saved_none bytes framed e output tells state) =
          let line = client_line d in
          let is : Of (saves_after address sent name bytes line) = old.recovered session.0 sent bytes d session.1 framed refl in (
            unfinished (saves_after address sent name bytes line) is e ([], line, refl, output ∙ (link.output ∙ sym (append-nil (output_of a)))) (tells_later W write_fault_line a k b link.errors tells),
            inl (state.0 ∙ link.state.0, state.1 ∙ link.state.1),
          )
      left_ends d r a k b session link (unsaved e output tells state) =
          (out_of_memory e (output ∙ link.output) (tells_later W memory_line a k b link.errors tells), inl (state.0 ∙ link.state.0, state.1 ∙ link.state.1))

      fault_ends : (fault : SessionFault) (o : Option (List ℕ)) (t : List Event) (r : Status) (a k b : Outside) → session_line fault ≡ o → IsSession p c given sent (Err fault) → Sent sent a k → ends_by o t r → Fits t k b → Causes W t → End Of r a b
      fault_ends fault (Some line) t r a k b is (d, hears, short) link h f causes =
          let e = tell_alone W line status.PeerFault r t k b h f causes in
          let kept = same_beside k.view b.view e.rest in (
            gave (over_link address sent status.PeerFault [] line) (old.failed fault sent line d hears short is refl) h.goes.1
                (record {
                  output = e.output ∙ (link.output ∙ sym (append-nil (output_of a)));
                  leaves = leaves_then (over_link address sent status.PeerFault [] line) a.view k.view b.view (link.leaves status.PeerFault [] line) e.rest;
                })
                (tells_later W line a k b link.errors e.line_is),
            inl (kept.0 ∙ link.state.0, kept.1 ∙ link.state.1),
          )
      fault_ends fault None t r a k b is session link h f causes =
          let e = tell_alone W link_fault_line status.LinkFault r t k b h f causes in
          let kept = same_beside k.view b.view e.rest in
          (cut h.goes.1 (e.output ∙ link.output) (tells_later W link_fault_line a k b link.errors e.line_is), inl (kept.0 ∙ link.state.0, kept.1 ∙ link.state.1))

      session_ends : (o : Outcome) (t : List Event) (r : Status) (a k b : Outside) → IsSession p c given sent o → Sent sent a k → after_session p name o t r → Fits t k b → Causes W t → End Of r a b
      session_ends (Ok d) t r a k b session link h f causes = left_ends d r a k b session link (client_left d t r k b h f causes)
      session_ends (Err fault) t r a k b session link h f causes = fault_ends fault (session_line fault) t r a k b refl session link h f causes

    linked_ends : (c : ClientState) (o : Outcome) (t u : List Event) (r : Status) (a m k b : Outside) → m.view ≡ record (link_taken a.view) { address = Some address } → Converses p c t o → after_session p name o u r → Fits t m k → Fits u k b → Causes W u
        → End (old.OfSession p address name c (next_link a.view)) r a b
    linked_ends c o t u r a m k b taken converses h f g causes =
        let session = converses_over_bytes p c t o m k converses f in
        let over = keeps_converse IsOverLink (λ _. refl) tt (λ _. tt) tt tt p c t o converses in
        let spared = link_spares m k t over f in
        let link : Sent session.0 a k = record {
          output = ap (λ (v : View). v.written.output) spared ∙ ap (written_of outs.Output) taken;
          errors = ap (λ (v : View). v.written.errors) spared ∙ ap (written_of outs.Errors) taken;
          leaves = link_left address session.0 a m k t taken over f session.1;
          state = (ap (λ (v : View). v.written.state) spared ∙ ap (λ (v : View). v.written.state) taken, ap (λ (v : View). v.state_name) spared ∙ ap (λ (v : View). v.state_name) taken);
        } in
        let heard : IsSession p c (next_link a.view) session.0 o = subst (λ (l : List ℕ). IsSession p c l session.0 o) (ap (left_of slots.Link) taken) session.2 in
        session_ends c (next_link a.view) session.0 o u r a k b heard link h g causes

    connected_ends : (c : ClientState) (ok : Bool) (t u : List Event) (r : Status) (a m b : Outside) → t ≡ connected address ok ∷ [] → after_connect p name c ok u r → Fits t a m → Fits u m b → Causes W u → End (old.OfSession p address name c (next_link a.view)) r a b
    connected_ends c true t u r a m b is h f g causes =
        let o = subst (λ (l : List Event). Fits l a m) is f in
        let taken : m.view ≡ record (link_taken a.view) { address = Some address } = ap (λ (x : Outside). x.view) o.2 ∙ o.1.0.1 in
        let parts = fits_both h.first h.rest m b (subst (λ (l : List Event). Fits l m b) h.splits g) in
        linked_ends c h.between h.first h.rest r a m parts.0 b taken h.does h.goes parts.1 parts.2 (cause_last W u h.first h.rest h.splits causes)
    connected_ends c false t u r a m b is h f g causes =
        let o = subst (λ (l : List Event). Fits l a m) is f in
        let same : m.view ≡ a.view = ap (λ (x : Outside). x.view) o.2 ∙ o.1.0 in
        let e = tell_alone W link_fault_line status.LinkFault r u m b h g causes in
        let kept = same_beside m.view b.view e.rest in (
          cut h.goes.1 (e.output ∙ ap (written_of outs.Output) same) (tells_later W link_fault_line a m b (ap (written_of outs.Errors) same) e.line_is),
          inl (kept.0 ∙ ap (λ (v : View). v.written.state) same, kept.1 ∙ ap (λ (v : View). v.state_name) same),
        )

    recover_ends : (c : ClientState) → Comes W End (λ files given. old.OfSession p address name c given) (Recovers p address name c)
    recover_ends c t r a b h f causes =
        let parts = fits_both h.first h.rest a b (subst (λ (l : List Event). Fits l a b) h.splits f) in
        connected_ends c h.between h.first h.rest r a parts.0 b h.does h.goes parts.1 parts.2 (cause_last W t h.first h.rest h.splits causes)

    -- ---- the state

    module _ (channels : List ℤ) where
      state_ends : (bytes : List ℕ) → Comes W End (λ files given. old.OfState p address name channels bytes given) (OfState p address name channels bytes)
      state_ends bytes t r a b (no_client line tells h) f causes = end_refusal (old.OfState p address name channels bytes (next_link a.view)) line t r a b (old.no_client line tells refl) h f causes
      state_ends bytes t r a b (too_many c has few h) f causes = end_refusal (old.OfState p address name channels bytes (next_link a.view)) many_channels_line t r a b (old.too_many c has few refl) h f causes
      state_ends bytes t r a b (watches c d has is h) f causes =
          end_as (old.OfSession p address name d (next_link a.view)) (old.OfState p address name channels bytes (next_link a.view)) r a b (λ x of. old.watches c d has is of) (recover_ends d t r a b h f causes)

      state_file_ends : Comes W End (λ files given. old.OfStateFile address name channels files given p) (OfStateFile address name channels p)
      state_file_ends =
          file_comes W End end_as end_later end_refusal end_missing slots.State name MAX_STATE_BYTES (after_reading p address name channels) (λ text files given. old.OfState p address name channels text given)
          (λ file files given. state_stays p address name channels file given) state_ends (λ t r h. h)

  pub client_comes : (schema address name : List ℕ) (channels : List ℤ) → Comes W End (λ files given. ClientAnswer files given schema address name channels) (recovers schema address name channels)
  client_comes schema address name channels =
      command_comes W End end_as end_later end_refusal end_missing (OfStateFile address name channels) (λ files given. old.OfStateFile address name channels files given) (λ p good. state_file_ends p address name channels) schema
