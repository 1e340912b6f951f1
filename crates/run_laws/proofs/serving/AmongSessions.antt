-- What the job of a run of sessions has room for.
use Rattle.std.proofs.Common.{◌≡◌, ℕ, zero, suc, ◌+◌, ◌<◌, ◌≤◌, List, [], ◌∷◌, ◌++◌, length, length-append, take, Bool, true, false, ◌&&◌, Option, Some, None, IsSome, refl, sym, ap, ◌∙◌, subst, arith, inl, inr}
use Rattle.std.specs.List.{All}
use Rattle.std.proofs.Math.Nat.{eq-or-lt_of_le}
use Rattle.std.proofs.lemmas.List.{get_or_append_left, get_or_at}
use Rattle.tl_base.specs.Outside.{View}
use Rattle.box_server.specs.Servers.{ServerState, new_server}
use Rattle.box_server.specs.declared.entry.Entry.{Entry}
use Rattle.box_server.specs.Rebuilding.{IsBad, are_right, are_right_from, is_accepted, with_entry}
use Rattle.wire_profile.specs.Indexes.{ProfileView}
use Rattle.outside.specs.Jobs.{Job}
use Rattle.outside.specs.Sound.{Fits}
use Rattle.outside.specs.declared.status.Status.{Status}
use Rattle.outside.specs.declared.status.Status.TheVariants as status
use Rattle.session_commands.specs.Keep.{OfToldEntries, Starts}
use Rattle.session_commands.specs.Serve.{SessionEnd, served, peer_fault, link_fault, IsAny, IsWhole, OfSessions, Sessions, SessionsAnswer, Total, end_output, end_status, first_fault}
use Rattle.session_commands.proofs.OneTotal.{IsAmong}

-- ---- the job, from where the profile is known

abbrev pub sessions_job : ProfileView → ℕ → SessionsAnswer → Job
sessions_job p n Of = record {
  answers = λ v a. Of IsWhole n v.links v.moments p a;
  broken = λ v a. Of IsAny n v.links v.moments p a;
  partial = λ v a. (k : ℕ) × (k ≤ n) × Of IsAny k v.links v.moments p a;
  in_pieces = Unit {0};
  reads_on = ⊥;
  tells = Unit {0};
  linked = Unit {0};
  keeps = λ v w. Unit {0};
}

-- ---- the status of sessions whose links don't fail

-- the status of sessions: a link's fault only where their count rose
abbrev pub IsSessionStatus : Type 0 → Status → Type 0
IsSessionStatus link_rose status.Done = Unit {0}
IsSessionStatus link_rose status.PeerFault = Unit {0}
IsSessionStatus link_rose status.LinkFault = link_rose
IsSessionStatus link_rose s = ⊥

first_so : (a : Status) (e : SessionEnd) → IsWhole e → IsSessionStatus ⊥ a → IsSessionStatus ⊥ (first_fault a (end_status e))
first_so status.Done (served n) whole h = tt
first_so status.Done (peer_fault line) whole h = tt
first_so status.Done link_fault whole h = whole
first_so status.PeerFault e whole h = tt
first_so status.LinkFault e whole h = h
first_so status.Refused e whole h = h
first_so status.Usage e whole h = h
first_so status.ReadFault e whole h = h
first_so status.WriteFault e whole h = h
first_so status.Memory e whole h = h

module _ (p : ProfileView) (s : ServerState) (given : List (List ℕ)) (moments : List ℕ) where
  pub whole_status : (k : ℕ) (r : Total) → Sessions IsWhole p s given moments k r → IsSessionStatus ⊥ r.status
  whole_status zero r is = subst (λ (x : Total). IsSessionStatus ⊥ x.status) (sym is) tt
  whole_status (suc k) r (q, e, out, t, more, h, whole, session, is) = subst (λ (x : Total). IsSessionStatus ⊥ x.status) (sym is) (first_so q.status e whole (whole_status k q h))

  -- ---- one of some sessions

  last_of : (P : List ℕ → Type 0) (ls : List (List ℕ)) (x : List ℕ) → All P (ls ++ x ∷ []) → P x
  last_of P ls x all = subst P (get_or_at ls x [] [] (length ls) refl) (all (length ls) [] (omega (arith, length-append ls (x ∷ []))))

  first_of : (P : List ℕ → Type 0) (ls : List (List ℕ)) (x : List ℕ) → All P (ls ++ x ∷ []) → All P ls
  first_of P ls x all = λ k d lt. subst P (get_or_append_left ls (x ∷ []) d k lt) (all k d (omega (arith, lt, length-append ls (x ∷ []))))

  pub is_among : (n : ℕ) (r : Total) (before room : ℕ) → Sessions IsWhole p s given moments n r → All (λ b. length b ≤ room) r.sent → before + length r.output ≤ room → (k : ℕ) → k < n → IsAmong p s given moments k before room
  is_among zero r before room h sent output k less = absurd (omega (arith, less))
  is_among (suc n) r before room (q, e, out, t, more, h, whole, session, is) sent output k less =
      let links : All (λ b. length b ≤ room) (q.sent ++ out ∷ []) = subst (λ (x : Total). All (λ b. length b ≤ room) x.sent) is sent in
      let written = ap (λ (x : Total). length x.output) is in
      elim (eq-or-lt_of_le {n = k} {m = n} (omega (arith, less))) as (λ z. IsAmong p s given moments k before room) [
        | inl same ↦ subst (λ (z : ℕ). IsAmong p s given moments z before room) (sym same) (record {
          total = q;
          ended = e;
          sent = out;
          server = t;
          more = more;
          sessions = h;
          whole = whole;
          session = session;
          link = last_of (λ b. length b ≤ room) q.sent out links;
          output = omega (arith, output, written, length-append q.output (end_output n e));
        })
        | inr earlier ↦ is_among n q before room h (first_of (λ b. length b ≤ room) q.sent out links) (omega (arith, output, written, length-append q.output (end_output n e))) k earlier
      ]

-- ---- over a keeper

and_left : (a b : Bool) → (a && b) ≡ true → a ≡ true
and_left true b h = refl
and_left false b h = absurd cc

and_right : (a b : Bool) → (a && b) ≡ true → b ≡ true
and_right true b h = h
and_right false b h = absurd cc

-- the first of right entries are right
right_take : (s : ServerState) (es : List Entry) (n : ℕ) → are_right_from s es ≡ true → are_right_from s (take n es) ≡ true
right_take s es zero h = refl
right_take s [] (suc n) h = refl
right_take s (e ∷ es) (suc n) h =
    let first = and_left (is_accepted s e) (are_right_from (with_entry s e) es) h in
    let rest = right_take (with_entry s e) es n (and_right (is_accepted s e) (are_right_from (with_entry s e) es) h) in
    ap (λ (b : Bool). b && are_right_from (with_entry s e) (take n es)) first ∙ rest

never_bad : (es : List Entry) (k : ℕ) → are_right es ≡ true → IsBad es k → ⊥
never_bad es k right bad = no (sym (right_take new_server es (k + 1) right) ∙ bad.with_it)
  where
    no : true ≡ false → ⊥
    no e = cc

pub opened_fits : (p : ProfileView) (n : ℕ) (o : Option (List Entry)) (address : List ℕ) (s : ServerState) → Starts o s → (v : View) → Fits (sessions_job p n (OfToldEntries o address)) v → Fits (sessions_job p n (OfSessions s address)) v
opened_fits p n None address s starts v (a, (some, h), room) = absurd (none some)
  where
    none : IsSome {T = List Entry} None → ⊥
    none e = cc
opened_fits p n (Some es) address s (right, is) v (a, (some, inl (t, (also, at), h)), room) = (a, subst (λ (z : ServerState). OfSessions z address IsWhole n v.links v.moments p a) (at ∙ sym is) h, room)
opened_fits p n (Some es) address s (right, is) v (a, (some, inr (k, bad, h)), room) = absurd (never_bad es k right bad)
