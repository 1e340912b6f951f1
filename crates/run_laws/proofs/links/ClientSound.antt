-- `client` ends by no fault where files and a link are there, and there is room.
use Rattle.std.proofs.Common.{◌≡◌, ◌⊎◌, ℕ, ◌+◌, ◌≤◌, ℤ, List, [], ◌∷◌, length, take, drop, Bool, true, false, Option, Some, None, codes, Result, Ok, Err, refl, sym, ap, ◌∙◌, subst, inl, inr, arith}
use Rattle.std.specs.List.{All}
use Rattle.std.specs.Prelude.{IfSome}
use Rattle.std.proofs.lemmas.List.{take-append-drop}
use Rattle.tl_numbers.specs.Bytes.{AreBytes}
use Rattle.tl_base.specs.Calls.{link_taken, with_name}
use Rattle.tl_base.specs.Contents.{Files, HoldBytes}
use Rattle.tl_base.specs.Outside.{View, HasRoom, ShowsBytes, left_of, written_of, with_written}
use Rattle.tl_base.specs.declared.host.Out.TheVariants as outs
use Rattle.tl_base.specs.declared.host.Slot.TheVariants as slots
use Rattle.schema_files.specs.Loaded.{IsSchemaText}
use Rattle.schema_files.specs.declared.schema_text.TheConstants.{SCHEMA_BYTES}
use Rattle.box_client.specs.Saving.{saved_of}
use Rattle.box_client.specs.States.{ClientState}
use Rattle.wire_profile.specs.Indexes.{ProfileView}
use Rattle.wire_profile.specs.Profiles.{IsProfile}
use Rattle.wire_values.specs.SavedClients.{saved_tree}
use Rattle.box_wire.specs.Framing.{Framed}
use Rattle.box_wire.specs.Kinds.{saved_clients}
use Rattle.outside.specs.Answer.{Answer, done, memory_line}
use Rattle.outside.specs.Sound.{HasRoomFor}
use Rattle.outside.specs.declared.status.Status.{Status}
use Rattle.outside.specs.declared.status.Status.TheVariants as status
use Rattle.outside.proofs.SameFiles.{file_bytes, same_file}
use Rattle.outside.specs.Begun.{to_link}
use Rattle.outside.specs.Events.{Event, Outside, created, connected}
use Rattle.outside.specs.Pieces.{ReadsFile, Writes}
use Rattle.outside.specs.Printing.{Prints, after_output}
use Rattle.outside.specs.Runs as runs
use Rattle.outside.proofs.Causing.{keeps_file, told_status}
use Rattle.outside.specs.Fits.{Fits}
use Rattle.outside.specs.Reliable.{IsReliable}
use Rattle.outside.proofs.Fitting.{files_are_read, files_can_be_read, fits_both, fits_keeps, reliable_on, writes_fail_full}
use Rattle.outside.proofs.Sparing.{IsReading}
use Rattle.fault_lines.proofs.Profiled.{are_profiles, profile_tells}
use Rattle.codec_rooms.specs.Typed as typed
use Rattle.update_commands.specs.Profile.{OfProfile, no_profile, profiled}
use Rattle.update_sessions.specs.Honest.{HearsHonestly}
use Rattle.update_sessions.specs.declared.fault.SessionFault.{SessionFault}
use Rattle.update_sessions.specs.declared.fault.SessionFault.TheVariants as session
use Rattle.session_commands.specs.Client.{ClientAnswer, HasClient, OfSession, OfStateFile as StateFileAnswer, client_job, client_line, failed, recovered, watch_all}
use Rattle.session_commands.specs.Client as old
use Rattle.session_commands.specs.Linked.{next_link, saves_after}
use Rattle.session_commands.specs.SessionEnds.{IsShort, session_line}
use Rattle.session_commands.specs.declared.state.TheConstants.{MAX_STATE_BYTES}
use Rattle.session_commands.proofs.OneReply.{bytes_first}
use Rattle.session_commands.proofs.OneSession.{IsWhole, one_session}
use Rattle.session_commands.proofs.OneState.{never_client, one_client}
use Rattle.session_commands.proofs.OneTotal.{given_bytes}
use Rattle.session_commands.proofs.SessionAnswers.{one_of_session, whole_told}
use Rattle.session_rooms.specs.Client as rooms
use Rattle.session_rooms.specs.Client.{no_memory, saves, after_state, after_create, ends_by, after_session, after_connect, Recovers, OfState, no_client, too_many, watches, after_reading, OfStateFile, recovers}
use Rattle.session_rooms.specs.Conversing.{Outcome, Converses}
use Rattle.session_rooms.proofs.Conversed.{keeps_converse}
use Rattle.session_rooms.proofs.ConversedBytes.{IsSession, converses_over_bytes, given_by, sent_by}
use Rattle.session_rooms.proofs.LeftViews.{IsOverLink, link_spares}
use Rattle.session_rooms.proofs.PostFiles.{last_push, output_of}
use Rattle.session_rooms.proofs.Spared.{OnlySlots, reading_spares, writes_spare}
use Rattle.run_laws.specs.Ended.{RunIsSound}
use Rattle.run_laws.proofs.links.Ending.{IsSafe, done_safe, memory_safe, peer_safe, refusal_safe, safe_as}
use Rattle.run_laws.proofs.links.Reaching.{schema_stays}
use Rattle.run_laws.proofs.links.SentLess.{Session, session_of}
use Rattle.run_laws.proofs.links.StateFiles.{state_taken}
use Rattle.run_laws.proofs.links.Unbroken.{IsLost, converse_never}

some_none : {A : Type 0} (x : A) → None ≡ Some x → ⊥
some_none x e = cc

some_is : {A : Type 0} (x y : A) → Some x ≡ Some y → x ≡ y
some_is x y e = cc

ok_err : (n : ℕ) (fault : SessionFault) → ◌≡◌ {A = Result ℕ SessionFault} (Ok n) (Err fault) → ⊥
ok_err n fault e = cc

err_is : (f g : SessionFault) → ◌≡◌ {A = Result ℕ SessionFault} (Err f) (Err g) → f ≡ g
err_is f g e = cc

-- a fault by which the link was lost, or one that ends a session over its bytes
lost_or : (fault : SessionFault) → IsShort fault → IsLost fault ⊎ IsWhole (Err fault)
lost_or (session.Packet f) short = inr short
lost_or (session.Wire f) short = inr tt
lost_or (session.Client f) short = inr tt
lost_or session.TooManyFrames short = inr tt
lost_or session.LinkFault short = inl tt

-- slots were read until then
room_later : (a : Answer) (s m : Outside) → OnlySlots s m → HasRoomFor a s.view → HasRoomFor a m.view
room_later a s m same room = subst (λ (v : View). HasRoomFor a v) (sym same) (record { output = room.output; state = room.state; links = room.links; coming = room.coming; address = room.address })

module _ (p : ProfileView) (good : IsProfile p) (address name : List ℕ) where
  -- ---- what is left of a client

  -- there is room for a client's line, and for what is saved
  line_safe : (c : ClientState) (ok : Bool) (t u : List Event) (r : Status) (s m : Outside) → Writes outs.Output (client_line c) t ok → after_output (done (client_line c)) ok u r → Fits t s m → IsReliable s → HasRoom outs.Output (length (client_line c)) s.view → IsSafe r
  line_safe c true t u r s m w h f reliable room = safe_as r status.Done (told_status [] status.Done u r h) done_safe
  line_safe c false t u r s m w h f reliable room = absurd (omega (arith, room, writes_fail_full outs.Output (client_line c) t s m w f reliable))

  print_safe : (c : ClientState) (t : List Event) (r : Status) (s n : Outside) → Prints (done (client_line c)) t r → Fits t s n → IsReliable s → HasRoom outs.Output (length (client_line c)) s.view → IsSafe r
  print_safe c t r s n h f reliable room =
      let parts = fits_both h.first h.rest s n (subst (λ (l : List Event). Fits l s n) h.splits f) in
      line_safe c h.between h.first h.rest r s parts.0 h.does h.goes parts.1 reliable room

  written_safe : (c : ClientState) (bytes : List ℕ) (ok : Bool) (t u : List Event) (r : Status) (m k n : Outside) → Writes outs.State bytes t ok → after_state c ok u r → Fits t m k → Fits u k n → IsReliable m → m.view.written.state ≡ []
      → length bytes ≤ m.view.room → HasRoom outs.Output (length (client_line c)) m.view → IsSafe r
  written_safe c bytes true t u r m k n w h f g reliable none fits room =
      let kept = fits_keeps t m k f in
      let same : output_of k ≡ output_of m = writes_spare outs.State (written_of outs.Output) (λ bytes v. refl) bytes t true m k w f in
      print_safe c u r k n h g (reliable_on m k kept reliable) (omega (arith, room, ap length same, kept.room))
  written_safe c bytes false t u r m k n w h f g reliable none fits room = absurd (omega (arith, fits, ap length none, writes_fail_full outs.State bytes t m k w f reliable))

  created_safe : (c : ClientState) (bytes : List ℕ) (ok : Bool) (t u : List Event) (r : Status) (k m n : Outside) → t ≡ created outs.State name ok ∷ [] → after_create c bytes ok u r → Fits t k m → Fits u m n → IsReliable k → length name ≤ k.view.room
      → (length bytes ≤ k.view.room) × HasRoom outs.Output (length (client_line c)) k.view → IsSafe r
  created_safe c bytes true t u r k m n event h f g reliable named room =
      let o = subst (λ (l : List Event). Fits l k m) event f in
      let made : m.view ≡ with_name outs.State name (with_written outs.State [] k.view) = ap (λ (x : Outside). x.view) o.2 ∙ o.1.0 in
      let parts = fits_both h.first h.rest m n (subst (λ (l : List Event). Fits l m n) h.splits g) in
      let kept = fits_keeps t k m f in
      let same : output_of m ≡ output_of k = ap (written_of outs.Output) made in
      written_safe c bytes h.between h.first h.rest r m parts.0 n h.does h.goes parts.1 parts.2 (reliable_on k m kept reliable) (ap (λ (v : View). v.written.state) made) (omega (arith, room.0, kept.room)) (omega (arith, room.1, ap length same, kept.room))
  created_safe c bytes false t u r k m n event h f g reliable named room =
      let o = subst (λ (l : List Event). Fits l k m) event f in
      elim o.1.1.0 [ inl fails ↦ absurd (omega (arith, fails.1, reliable)) | inr none ↦ absurd (none named) ]

  left_safe : (c : ClientState) (t : List Event) (r : Status) (k n : Outside) → rooms.Leaves p name c t r → Fits t k n → IsReliable k → length name ≤ k.view.room
      → ((bytes : List ℕ) → Framed p saved_clients (saved_tree (saved_of c)) bytes → (length bytes ≤ k.view.room) × HasRoom outs.Output (length (client_line c)) k.view) → IsSafe r
  left_safe c t r k n (no_memory h) f reliable named place = safe_as r status.Memory (told_status memory_line status.Memory t r h) memory_safe
  left_safe c t r k n (saves bytes framed h) f reliable named place =
      let parts = fits_both h.first h.rest k n (subst (λ (l : List Event). Fits l k n) h.splits f) in
      created_safe c bytes h.between h.first h.rest r k parts.0 n h.does h.goes parts.1 parts.2 reliable named (place bytes framed)

  -- ---- the session

  module _ (c : ClientState) (given : List ℕ) (are : AreBytes given) (a : Answer) (of : OfSession p address name c given a) where
    abbrev Of : Answer → Type 0
    Of = OfSession p address name c given

    asks_link : (x : Answer) → Of x → (x.taken ≡ 1) × (x.address ≡ Some address)
    asks_link x (failed fault sent line d h short tells is) = (ap (λ (y : Answer). y.taken) is, ap (λ (y : Answer). y.address) is)
    asks_link x (recovered n sent bytes d h framed is) = (ap (λ (y : Answer). y.taken) is, ap (λ (y : Answer). y.address) is)

    -- the answer saves, where a session ended well
    named_so : (d : ClientState) (frames : ℕ) (sent : List ℕ) (v : View) → HearsHonestly p c given sent d (Ok frames) → (x : Answer) → Of x → HasRoomFor x v → length name ≤ v.room
    named_so d frames sent v h x (failed fault other line e k short tells is) room =
        let one = one_session p good c given sent d (Ok frames) h.frames h.last other e (Err fault) k.frames k.last are tt (whole_told fault line short tells) h.hears k.hears in
        absurd (ok_err frames fault one.result)
    named_so d frames sent v h x (recovered n other bytes e k framed is) room =
        let state : IfSome {T = List ℕ × List ℕ} (Some (name, bytes)) (λ s. (length s.0 ≤ v.room) × (length s.1 ≤ v.room)) = subst (λ (o : Option (List ℕ × List ℕ)). IfSome o (λ s. (length s.0 ≤ v.room) × (length s.1 ≤ v.room))) (ap (λ (y : Answer). y.state) is) room.state in
        state.0

    -- what it saves is what is saved
    place_so : (d : ClientState) (frames : ℕ) (sent : List ℕ) (v : View) → HearsHonestly p c given sent d (Ok frames) → HasRoomFor a v → (bytes : List ℕ) → Framed p saved_clients (saved_tree (saved_of d)) bytes
        → (length bytes ≤ v.room) × HasRoom outs.Output (length (client_line d)) v
    place_so d frames sent v h room bytes framed =
        let x = saves_after address sent name bytes (client_line d) in
        let same : x ≡ a = one_of_session p good address name c given a x are of (recovered frames sent bytes d h framed refl) in
        let fits : HasRoomFor x v = subst (λ (y : Answer). HasRoomFor y v) (sym same) room in
        (fits.state.1, fits.output)

    -- a session that ended by a fault over its bytes has a line
    no_line : (d : ClientState) (fault : SessionFault) (sent : List ℕ) → HearsHonestly p c given sent d (Err fault) → IsWhole (Err fault) → session_line fault ≡ None → (x : Answer) → Of x → ⊥
    no_line d fault sent h whole none x (failed other wrote line e k short tells is) =
        let one = one_session p good c given sent d (Err fault) h.frames h.last wrote e (Err other) k.frames k.last are whole (whole_told other line short tells) h.hears k.hears in
        some_none line (sym none ∙ ap session_line (err_is fault other one.result) ∙ tells)
    no_line d fault sent h whole none x (recovered n wrote bytes e k framed is) =
        let one = one_session p good c given wrote e (Ok n) k.frames k.last sent d (Err fault) h.frames h.last are tt whole k.hears h.hears in
        ok_err n fault one.result

    -- the answer's session sends what a link has room for
    whole_session : (x : Answer) → Of x → (v : View) → HasRoomFor x v → (out : List ℕ) × Session p good c given out × (length out ≤ v.room)
    whole_session x (failed fault sent line d h short tells is) v room =
        let sends : All (λ b. length b ≤ v.room) (sent ∷ []) = subst (λ (ls : List (List ℕ)). All (λ b. length b ≤ v.room) ls) (ap (λ (y : Answer). y.links) is) room.links in
        (sent, session_of p good c given sent d (Err fault) h.frames h.last are (whole_told fault line short tells) h.hears, sends 0 sent (omega arith))
    whole_session x (recovered n sent bytes d h framed is) v room =
        let sends : All (λ b. length b ≤ v.room) (sent ∷ []) = subst (λ (ls : List (List ℕ)). All (λ b. length b ≤ v.room) ls) (ap (λ (y : Answer). y.links) is) room.links in
        (sent, session_of p good c given sent d (Ok n) h.frames h.last are tt h.hears, sends 0 sent (omega arith))

    fault_safe : (fault : SessionFault) (o : Option (List ℕ)) (u t : List Event) (r : Status) (m k : Outside) → session_line fault ≡ o → Converses p c u (Err fault) → Fits u m k → given_by m ≡ given → sent_by m ≡ [] → IsReliable m
        → (v : View) → m.view.room ≡ v.room → HasRoomFor a v → ends_by o t r → IsSafe r
    fault_safe fault (Some line) u t r m k is converses f begins fresh reliable v same room h = safe_as r status.PeerFault (told_status line status.PeerFault t r h) peer_safe
    fault_safe fault None u t r m k is converses f begins fresh reliable v same room h =
        let heard = converses_over_bytes p c u (Err fault) m k converses f in
        let session : IsSession p c given heard.0 (Err fault) = subst (λ (l : List ℕ). IsSession p c l heard.0 (Err fault)) begins heard.2 in
        let whole = whole_session a of v room in
        elim (lost_or fault session.2) [
          | inl lost ↦ absurd (converse_never p good c given whole.0 are whole.1 m begins fresh reliable (omega (arith, whole.2, same)) fault u k lost converses f)
          | inr ended ↦ absurd (no_line session.0 fault heard.0 session.1 ended is a of)
        ]

    session_safe : (o : Outcome) (u t : List Event) (r : Status) (s m k n : Outside) → m.view ≡ record (link_taken s.view) { address = Some address } → Converses p c u o → after_session p name o t r → Fits u m k → Fits t k n → next_link s.view ≡ given → IsReliable m
        → HasRoomFor a s.view → IsSafe r
    session_safe (Err fault) u t r s m k n view converses h f g begins reliable room =
        let gave : given_by m ≡ given = ap (left_of slots.Link) view ∙ begins in
        let fresh : sent_by m ≡ [] = ap (written_of outs.Link) view ∙ last_push s.view.written.unlinked [] s.view.written.links in
        fault_safe fault (session_line fault) u t r m k refl converses f gave fresh reliable s.view (ap (λ (v : View). v.room) view) room h
    session_safe (Ok d) u t r s m k n view converses h f g begins reliable room =
        let heard = converses_over_bytes p c u (Ok d) m k converses f in
        let gave : given_by m ≡ given = ap (left_of slots.Link) view ∙ begins in
        let session : IsSession p c given heard.0 (Ok d) = subst (λ (l : List ℕ). IsSession p c l heard.0 (Ok d)) gave heard.2 in
        let spared = link_spares m k u (keeps_converse IsOverLink (λ _. refl) tt (λ _. tt) tt tt p c u (Ok d) converses) f in
        let kept = fits_keeps u m k f in
        let same : k.view.room ≡ s.view.room = kept.room ∙ ap (λ (v : View). v.room) view in
        let output : output_of k ≡ output_of s = ap (λ (v : View). v.written.output) spared ∙ ap (written_of outs.Output) view in
        let named = named_so d session.0 heard.0 s.view session.1 a of room in
        left_safe d t r k n h g (reliable_on m k kept reliable) (omega (arith, named, same))
        (λ bytes framed. let place = place_so d session.0 heard.0 s.view session.1 room bytes framed in (omega (arith, place.0, same), omega (arith, place.1, same, ap length output)))

    linked_safe : (ok : Bool) (t u : List Event) (r : Status) (s m n : Outside) → t ≡ connected address ok ∷ [] → after_connect p name c ok u r → Fits t s m → Fits u m n → next_link s.view ≡ given → IsReliable s → HasRoomFor a s.view → IsSafe r
    linked_safe true t u r s m n is h f g begins reliable room =
        let o = subst (λ (l : List Event). Fits l s m) is f in
        let view : m.view ≡ record (link_taken s.view) { address = Some address } = ap (λ (x : Outside). x.view) o.2 ∙ o.1.0.1 in
        let parts = fits_both h.first h.rest m n (subst (λ (l : List Event). Fits l m n) h.splits g) in
        session_safe h.between h.first h.rest r s m parts.0 n view h.does h.goes parts.1 parts.2 begins (reliable_on s m (fits_keeps t s m f) reliable) room
    linked_safe false t u r s m n is h f g begins reliable room =
        let o = subst (λ (l : List Event). Fits l s m) is f in
        let call = asks_link a of in
        let named : IfSome (Some address) (λ l. length l ≤ s.view.room) = subst (λ (x : Option (List ℕ)). IfSome x (λ l. length l ≤ s.view.room)) call.1 room.address in
        elim o.1.1.0 [ inl fails ↦ absurd (omega (arith, fails.1, reliable)) | inr none ↦ absurd (none (omega (arith, call.0, room.coming), named)) ]

    recover_safe : (t : List Event) (r : Status) (s n : Outside) → Recovers p address name c t r → Fits t s n → next_link s.view ≡ given → IsReliable s → HasRoomFor a s.view → IsSafe r
    recover_safe t r s n h f begins reliable room =
        let parts = fits_both h.first h.rest s n (subst (λ (l : List Event). Fits l s n) h.splits f) in
        linked_safe h.between h.first h.rest r s parts.0 n h.does h.goes parts.1 parts.2 begins reliable room

  -- ---- the state

  module _ (channels : List ℤ) (given : List ℕ) (all : AreBytes given) (a : Answer) where
    -- the client that was found is the answer's
    client_tells : (c d : ClientState) (bytes : List ℕ) → AreBytes bytes → HasClient p bytes c → watch_all channels c ≡ Some d → old.OfState p address name channels bytes given a → OfSession p address name d given a
    client_tells c d bytes are has watched (old.no_client line tells is) = absurd (never_client p good bytes are c line has tells)
    client_tells c d bytes are has watched (old.too_many b also none is) = absurd (some_none d (sym none ∙ ap (watch_all channels) (one_client p good bytes are b c also has) ∙ watched))
    client_tells c d bytes are has watched (old.watches b e also is h) =
        subst (λ (x : ClientState). OfSession p address name x given a) (some_is e d (sym is ∙ ap (watch_all channels) (one_client p good bytes are b c also has) ∙ watched)) h

    state_safe : (bytes : List ℕ) (t : List Event) (r : Status) (s n : Outside) → AreBytes bytes → OfState p address name channels bytes t r → Fits t s n → next_link s.view ≡ given → IsReliable s → old.OfState p address name channels bytes given a
        → HasRoomFor a s.view → IsSafe r
    state_safe bytes t r s n are (no_client line tells h) f begins reliable of room = refusal_safe _ t r h
    state_safe bytes t r s n are (too_many c has none h) f begins reliable of room = refusal_safe _ t r h
    state_safe bytes t r s n are (watches c d has is h) f begins reliable of room = recover_safe d given all a (client_tells c d bytes are has is of) t r s n h f begins reliable room

    reading_safe : (o : Option (List ℕ)) (t u : List Event) (r : Status) (s m n : Outside) → ReadsFile slots.State name MAX_STATE_BYTES t o → after_reading p address name channels o u r → Fits t s m → Fits u m n → HoldBytes s.view.files → next_link s.view ≡ given
        → IsReliable s → StateFileAnswer address name channels s.view.files given p a → HasRoomFor a s.view → IsSafe r
    reading_safe (Some text) t u r s m n read h f g hold begins reliable (more, also, of) room =
        let file = files_are_read slots.State name MAX_STATE_BYTES t text s m read f in
        let same = reading_spares t s m f (keeps_file IsReading slots.State name MAX_STATE_BYTES (λ _. tt) (λ _. tt) tt tt t (Some text) read) in
        let taken = state_taken p address name channels file.0 given a (subst (λ (l : List ℕ). old.OfState p address name channels l given a) (same_file s.view.files name more file.0 also file.1) of) in
        let bytes = subst AreBytes (sym file.2) (bytes_first (take (MAX_STATE_BYTES + 1) file.0) (drop (MAX_STATE_BYTES + 1) file.0) (subst AreBytes (sym (take-append-drop (MAX_STATE_BYTES + 1) file.0)) (file_bytes s.view.files name file.0 hold file.1))) in
        state_safe text u r m n bytes h g (ap next_link same ∙ begins) (reliable_on s m (fits_keeps t s m f) reliable) (subst (λ (l : List ℕ). old.OfState p address name channels l given a) (sym file.2) taken) (room_later a s m same room)
    reading_safe None t u r s m n read h f g hold begins reliable (more, also, of) room = absurd (files_can_be_read slots.State name MAX_STATE_BYTES t s m read f reliable (more, also))

    state_file_safe : (t : List Event) (r : Status) (s n : Outside) → OfStateFile address name channels p t r → Fits t s n → HoldBytes s.view.files → next_link s.view ≡ given → IsReliable s → StateFileAnswer address name channels s.view.files given p a
        → HasRoomFor a s.view → IsSafe r
    state_file_safe t r s n h f hold begins reliable of room =
        let parts = fits_both h.first h.rest s n (subst (λ (l : List Event). Fits l s n) h.splits f) in
        reading_safe h.between h.first h.rest r s parts.0 n h.does h.goes parts.1 parts.2 hold begins reliable of room

-- ---- the command

module _ (schema address name : List ℕ) (channels : List ℤ) where
  module _ (s : Outside) (hold : HoldBytes s.view.files) (all : AreBytes (next_link s.view)) (reliable : IsReliable s) (a : Answer) (of : ClientAnswer s.view.files (next_link s.view) schema address name channels a) (room : HasRoomFor a s.view) where
    text_safe : (text : List ℕ) (t u : List Event) (r : Status) (m n : Outside) → ReadsFile slots.Schema schema SCHEMA_BYTES t (Some text) → typed.OfText (codes "schema") (OfProfile (OfStateFile address name channels)) text u r → Fits t s m → Fits u m n → IsSafe r
    text_safe text t u r m n read (typed.no_schema cause refuses h) f g = refusal_safe _ u r h
    text_safe text t u r m n read (typed.schema_of S is (no_profile fault lacks h)) f g = refusal_safe _ u r h
    text_safe text t u r m n read (typed.schema_of S is (profiled p answers h)) f g =
        let file = files_are_read slots.Schema schema SCHEMA_BYTES t text s m read f in
        let same = reading_spares t s m f (keeps_file IsReading slots.Schema schema SCHEMA_BYTES (λ _. tt) (λ _. tt) tt tt t (Some text) read) in
        let kept = fits_keeps t s m f in
        let tells = profile_tells (StateFileAnswer address name channels s.view.files (next_link s.view)) s.view.files schema file.0 S p a file.1 (schema_stays file.0 S (subst (λ (z : List ℕ). IsSchemaText z S) file.2 is)) answers of in
        state_file_safe p (are_profiles S p is.good answers).0 address name channels (next_link s.view) all a u r m n h g (subst HoldBytes (sym kept.files) hold) (ap next_link same) (reliable_on s m kept reliable)
        (subst (λ (fs : Files). StateFileAnswer address name channels fs (next_link s.view) p a) (sym kept.files) tells) (room_later a s m same room)

    schema_safe : (o : Option (List ℕ)) (t u : List Event) (r : Status) (m n : Outside) → ReadsFile slots.Schema schema SCHEMA_BYTES t o → typed.after_schema (codes "schema") (OfProfile (OfStateFile address name channels)) o u r → Fits t s m → Fits u m n → IsSafe r
    schema_safe (Some text) t u r m n read h f g = text_safe text t u r m n read h f g
    schema_safe None t u r m n read h f g = absurd (files_can_be_read slots.Schema schema SCHEMA_BYTES t s m read f reliable (of.0, of.1))

  pub sound : RunIsSound ShowsBytes (client_job schema address name channels) to_link (recovers schema address name channels)
  sound t r s n shown (runs.done h) f reliable (a, of, room) fault =
      let parts = fits_both h.first h.rest s n (subst (λ (l : List Event). Fits l s n) h.splits f) in
      schema_safe s shown.files (given_bytes s.view.links shown.links 0) reliable a of room h.between h.first h.rest r parts.0 n h.does h.goes parts.1 parts.2 fault
  sound t r s n shown (runs.out_of_memory h) f reliable fit fault = safe_as r status.Memory (told_status _ h.between h.rest r h.goes ∙ h.does.1) memory_safe fault
