-- What `serve` answers is one.
use Rattle.std.proofs.Common.{◌≡◌, ℕ, List, sym, ap, ◌∙◌}
use Rattle.tl_numbers.specs.Bytes.{ListsOfBytes}
use Rattle.tl_base.specs.Contents.{Files}
use Rattle.box_server.specs.Servers.{ServerState, new_server}
use Rattle.wire_profile.specs.Indexes.{ProfileView}
use Rattle.wire_profile.specs.Profiles.{IsProfile}
use Rattle.outside.specs.Answer.{Answer}
use Rattle.fault_lines.proofs.Profiled.{one_profiled}
use Rattle.session_commands.specs.Serve.{IsWhole, OfSessions, ServeAnswer, total_answer}
use Rattle.session_commands.proofs.OneTotal.{one_total}

module _ (given : List (List ℕ)) (all : ListsOfBytes given) (moments address : List ℕ) (n : ℕ) where
  pub one_of_sessions : (p : ProfileView) → IsProfile p → (s : ServerState) (a c : Answer) → OfSessions s address IsWhole n given moments p a → OfSessions s address IsWhole n given moments p c → a ≡ c
  one_of_sessions p good s a c (r, h, is) (q, k, at) = is ∙ ap (total_answer address n) (one_total p good s given all moments n r q h k) ∙ sym at

pub one_serve : (files : Files) (given : List (List ℕ)) → ListsOfBytes given → (moments : List ℕ) (schema address : List ℕ) (n : ℕ) (a c : Answer) → ServeAnswer files given moments schema address n a → ServeAnswer files given moments schema address n c → a ≡ c
one_serve files given all moments schema address n = one_profiled (OfSessions new_server address IsWhole n given moments) (λ p good. one_of_sessions given all moments address n p good new_server) files schema
