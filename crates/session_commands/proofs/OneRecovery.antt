-- What `client` answers is one.
use Rattle.std.proofs.Common.{◌≡◌, ℕ, ℤ, List, Some, None, sym, ap, ◌∙◌, subst}
use Rattle.tl_numbers.specs.Bytes.{AreBytes}
use Rattle.tl_base.specs.Contents.{Files, HoldBytes}
use Rattle.box_client.specs.States.{ClientState}
use Rattle.wire_profile.specs.Indexes.{ProfileView}
use Rattle.wire_profile.specs.Profiles.{IsProfile}
use Rattle.outside.specs.Answer.{Answer, refused}
use Rattle.outside.proofs.SameFiles.{file_bytes, same_file}
use Rattle.fault_lines.proofs.Profiled.{one_profiled}
use Rattle.session_commands.specs.Client.{OfSession, OfState, no_client, too_many, watches, OfStateFile, ClientHasOneAnswer, watch_all}
use Rattle.session_commands.proofs.OneState.{never_client, one_client, one_state_line}
use Rattle.session_commands.proofs.SessionAnswers.{one_of_session}

none_some : {A : Type 0} (x : A) → None ≡ Some x → ⊥
none_some x e = cc

some_is : {A : Type 0} (x y : A) → Some x ≡ Some y → x ≡ y
some_is x y e = cc

module _ (p : ProfileView) (good : IsProfile p) (address name : List ℕ) (channels : List ℤ) (bytes given : List ℕ) (are : AreBytes bytes) (all : AreBytes given) where
  one_of_state : (a b : Answer) → OfState p address name channels bytes given a → OfState p address name channels bytes given b → a ≡ b
  one_of_state a b (no_client k tells is) (no_client l says at) = is ∙ ap refused (one_state_line p good bytes are k l tells says) ∙ sym at
  one_of_state a b (no_client k tells is) (too_many d j none at) = absurd (never_client p good bytes are d k j tells)
  one_of_state a b (no_client k tells is) (watches d e j at h) = absurd (never_client p good bytes are d k j tells)
  one_of_state a b (too_many c i none is) (no_client l says at) = absurd (never_client p good bytes are c l i says)
  one_of_state a b (too_many c i none is) (too_many d j also at) = is ∙ sym at
  one_of_state a b (too_many c i none is) (watches d e j at h) = absurd (none_some e (sym none ∙ ap (watch_all channels) (one_client p good bytes are c d i j) ∙ at))
  one_of_state a b (watches c d i is h) (no_client l says at) = absurd (never_client p good bytes are c l i says)
  one_of_state a b (watches c d i is h) (too_many e j none at) = absurd (none_some d (sym none ∙ ap (watch_all channels) (one_client p good bytes are e c j i) ∙ is))
  one_of_state a b (watches c d i is h) (watches e f j at k) =
      let same : f ≡ d = some_is f d (sym at ∙ ap (watch_all channels) (one_client p good bytes are e c j i) ∙ is) in
      sym (one_of_session p good address name d given a b all h (subst (λ (x : ClientState). OfSession p address name x given b) same k))

one_file : (files : Files) → HoldBytes files → (address name : List ℕ) (channels : List ℤ) (given : List ℕ) (p : ProfileView) → AreBytes given → IsProfile p → (a b : Answer) → OfStateFile address name channels files given p a
    → OfStateFile address name channels files given p b → a ≡ b
one_file files hold address name channels given p all good a b (bytes, has, h) (more, also, k) =
    one_of_state p good address name channels bytes given (file_bytes files name bytes hold has) all a b h
    (subst (λ (x : List ℕ). OfState p address name channels x given b) (same_file files name more bytes also has) k)

pub one_recovery : ClientHasOneAnswer
one_recovery files hold given all schema address name channels =
    one_profiled (OfStateFile address name channels files given) (λ p good. one_file files hold address name channels given p all good) files schema
