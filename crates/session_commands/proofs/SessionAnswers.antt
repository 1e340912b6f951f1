-- What is answered to a client by its session is one.
use Rattle.std.proofs.Common.{◌≡◌, ℕ, List, [], Some, None, Result, Ok, Err, sym, ap, ◌∙◌, subst}
use Rattle.tl_numbers.specs.Bytes.{AreBytes}
use Rattle.tl_encode.proofs.OneSpelling.{one_spelling}
use Rattle.box_client.specs.Saving.{saved_of}
use Rattle.box_client.specs.States.{ClientState}
use Rattle.wire_profile.specs.Indexes.{ProfileView, cell_shape}
use Rattle.wire_profile.specs.Profiles.{IsProfile}
use Rattle.wire_profile.specs.SpelledForms.{placed}
use Rattle.wire_values.specs.SavedClients.{saved_tree}
use Rattle.box_wire.specs.Kinds.{saved_clients}
use Rattle.box_wire.specs.Framing.{Framed}
use Rattle.update_sessions.specs.declared.fault.SessionFault.{SessionFault}
use Rattle.update_sessions.specs.declared.fault.SessionFault.TheVariants as session
use Rattle.outside.specs.Answer.{Answer}
use Rattle.outside.specs.declared.status.Status.TheVariants as status
use Rattle.session_commands.specs.Client.{OfSession, failed, recovered, client_line}
use Rattle.session_commands.specs.Linked.{over_link, saves_after}
use Rattle.session_commands.specs.SessionEnds.{IsShort, session_line}
use Rattle.session_commands.proofs.OneSession.{IsWhole, one_session}

some_is : {A : Type 0} (x y : A) → Some x ≡ Some y → x ≡ y
some_is x y e = cc

none_some : {A : Type 0} (x : A) → None ≡ Some x → ⊥
none_some x e = cc

never_err : (n : ℕ) (fault : SessionFault) → ◌≡◌ {A = Result ℕ SessionFault} (Ok n) (Err fault) → ⊥
never_err n fault e = cc

err_is : (f g : SessionFault) → ◌≡◌ {A = Result ℕ SessionFault} (Err f) (Err g) → f ≡ g
err_is f g e = cc

-- a fault that has a line broke nothing off
pub whole_told : (fault : SessionFault) (line : List ℕ) → IsShort fault → session_line fault ≡ Some line → IsWhole (Err fault)
whole_told (session.Packet f) line short tells = short
whole_told (session.Wire f) line short tells = tt
whole_told (session.Client f) line short tells = tt
whole_told session.TooManyFrames line short tells = tt
whole_told session.LinkFault line short tells = none_some line tells

-- ---- answers

module _ (p : ProfileView) (good : IsProfile p) (address name : List ℕ) (c : ClientState) where
  one_saving : (d : ClientState) (x y : List ℕ) → Framed p saved_clients (saved_tree (saved_of d)) x → Framed p saved_clients (saved_tree (saved_of d)) y → x ≡ y
  one_saving d x y s r = one_spelling p.schema (placed p (saved_tree (saved_of d))) (cell_shape p saved_clients.cell) x y s r

  -- what is saved by two sessions is one
  same_saves : (d e : ClientState) (sent other saved bytes : List ℕ) → other ≡ sent → e ≡ d → Framed p saved_clients (saved_tree (saved_of d)) saved → Framed p saved_clients (saved_tree (saved_of e)) bytes
      → saves_after address other name bytes (client_line e) ≡ saves_after address sent name saved (client_line d)
  same_saves d e sent other saved bytes wrote client framed also =
      let same = one_saving d bytes saved (subst (λ (x : ClientState). Framed p saved_clients (saved_tree (saved_of x)) bytes) client also) framed in
      ap (λ (x : List ℕ). saves_after address x name bytes (client_line e)) wrote ∙ ap (λ (x : List ℕ). saves_after address sent name x (client_line e)) same
      ∙ ap (λ (x : ClientState). saves_after address sent name saved (client_line x)) client

  failed_line : (f g : SessionFault) (k l : List ℕ) → f ≡ g → session_line f ≡ Some k → session_line g ≡ Some l → l ≡ k
  failed_line f g k l same tells says = some_is l k (sym says ∙ ap session_line (sym same) ∙ tells)

  pub one_of_session : (given : List ℕ) (a b : Answer) → AreBytes given → OfSession p address name c given a → OfSession p address name c given b → b ≡ a
  one_of_session given a b are (failed f sent line d h short tells is) (failed g other told e k brief says at) =
      let one = one_session p good c given sent d (Err f) h.frames h.last other e (Err g) k.frames k.last are (whole_told f line short tells) (whole_told g told brief says) h.hears k.hears in
      at ∙ ap (λ (x : List ℕ). over_link address x status.PeerFault [] told) one.wrote ∙ ap (λ (x : List ℕ). over_link address sent status.PeerFault [] x) (failed_line f g line told (err_is f g one.result) tells says) ∙ sym is
  one_of_session given a b are (failed f sent line d h short tells is) (recovered n other bytes e k framed at) =
      let one = one_session p good c given other e (Ok n) k.frames k.last sent d (Err f) h.frames h.last are tt (whole_told f line short tells) k.hears h.hears in
      absurd (never_err n f one.result)
  one_of_session given a b are (recovered m sent saved d h framed is) (failed g other told e k brief says at) =
      let one = one_session p good c given sent d (Ok m) h.frames h.last other e (Err g) k.frames k.last are tt (whole_told g told brief says) h.hears k.hears in
      absurd (never_err m g one.result)
  one_of_session given a b are (recovered m sent saved d h framed is) (recovered n other bytes e k also at) =
      let one = one_session p good c given sent d (Ok m) h.frames h.last other e (Ok n) k.frames k.last are tt tt h.hears k.hears in
      at ∙ same_saves d e sent other saved bytes one.wrote one.client framed also ∙ sym is
