-- What sessions come to is one, and what their answer has room for is room for each of them.
use Rattle.std.proofs.Common.{◌≡◌, ℕ, zero, suc, ◌+◌, ◌≤◌, List, [], ◌∷◌, length, get_or, sym, ap, ◌∙◌, subst, arith}
use Rattle.tl_numbers.specs.Bytes.{AreBytes, ListsOfBytes}
use Rattle.box_server.specs.Servers.{ServerState}
use Rattle.box_server.specs.declared.entry.Entry.{Entry}
use Rattle.wire_profile.specs.Indexes.{ProfileView}
use Rattle.wire_profile.specs.Profiles.{IsProfile}
use Rattle.session_commands.specs.Serve.{SessionEnd, Session, IsWhole, IsAny, end_output, Total, Sessions, with_session}
use Rattle.session_commands.proofs.OneServed.{one_session}

-- ---- bytes

none_bytes : AreBytes []
none_bytes k = omega arith

pub given_bytes : (ls : List (List ℕ)) → ListsOfBytes ls → (k : ℕ) → AreBytes (get_or ls k [])
given_bytes [] all zero = none_bytes
given_bytes [] all (suc k) = none_bytes
given_bytes (x ∷ xs) all zero = all.0
given_bytes (x ∷ xs) all (suc k) = given_bytes xs all.1 k

-- ---- the status of sessions whose links don't fail

module _ (p : ProfileView) (s : ServerState) (given : List (List ℕ)) (moments : List ℕ) where
  pub any_of : (k : ℕ) (r : Total) → Sessions IsWhole p s given moments k r → Sessions IsAny p s given moments k r
  any_of zero r is = is
  any_of (suc k) r (q, e, out, t, more, h, whole, session, is) = (q, e, out, t, more, any_of k q h, tt, session, is)

  -- ---- one of some sessions

  -- the session with the number k, after those before it, and the room that is left for it
  pub record IsAmong (k before room : ℕ) : Type 0 where
    pub total : Total
    pub ended : SessionEnd
    pub sent : List ℕ
    pub server : ServerState
    pub more : List Entry
    pub sessions : Sessions IsWhole p s given moments k total
    pub whole : IsWhole ended
    pub session : Session p total.server (get_or moments k 0) (get_or given k []) sent server more ended
    pub link : length sent ≤ room
    pub output : before + length total.output + length (end_output k ended) ≤ room

-- ---- there is one

module _ (p : ProfileView) (good : IsProfile p) (s : ServerState) (given : List (List ℕ)) (all : ListsOfBytes given) (moments : List ℕ) where
  same_with : (k : ℕ) (d e : SessionEnd) (o out : List ℕ) (u t : ServerState) (x y : List Entry) (q r : Total) → q ≡ r → o ≡ out → u ≡ t → x ≡ y → d ≡ e → with_session k d o u x q ≡ with_session k e out t y r
  same_with k d e o out u t x y q r totals sent servers entries ends =
      ap (λ (z : Total). with_session k d o u x z) totals ∙ ap (λ (z : List ℕ). with_session k d z u x r) sent ∙ ap (λ (z : ServerState). with_session k d out z x r) servers ∙ ap (λ (z : List Entry). with_session k d out t z r) entries
      ∙ ap (λ (z : SessionEnd). with_session k z out t y r) ends

  pub one_total : (k : ℕ) (r q : Total) → Sessions IsWhole p s given moments k r → Sessions IsWhole p s given moments k q → r ≡ q
  one_total zero r q is at = is ∙ sym at
  one_total (suc k) r q (x, e, out, t, more, h, whole, session, is) (y, d, o, u, extra, g, also, other, at) =
      let totals : x ≡ y = one_total k x y h g in
      let here = subst (λ (z : Total). Session p z.server (get_or moments k 0) (get_or given k []) o u extra d) (sym totals) other in
      let one = one_session p good x.server (get_or moments k 0) (get_or given k []) (given_bytes given all k) out o t u more extra e d session here whole also in
      is ∙ same_with k e d out o t u more extra x y totals one.sent one.server one.entries one.end_is ∙ sym at
