-- Runs of `keep` are one of `serve`.
use Rattle.std.proofs.Common.{◌≡◌, ◌⊎◌, ℕ, zero, suc, ◌+◌, ◌<◌, ◌≤◌, List, [], ◌∷◌, ◌++◌, append-nil, append_assoc, length, length-append, get_or, max, refl, sym, ap, ◌∙◌, subst, arith, inl, inr}
use Rattle.std.proofs.lemmas.List.{get_or_append_left, get_or-append-add}
use Rattle.box_server.specs.Servers.{ServerState, dated_at, new_server}
use Rattle.box_server.specs.declared.entry.Entry.{Entry}
use Rattle.box_server.specs.Rebuilding.{Rebuilds, rebuilt}
use Rattle.box_server.proofs.Rebuilt.{one_server}
use Rattle.wire_profile.specs.Indexes.{ProfileView}
use Rattle.update_sessions.specs.Kept.{kept_in}
use Rattle.update_sessions.specs.Served.{Serves}
use Rattle.update_sessions.proofs.KeptCalls.{sessions_keep_dates}
use Rattle.session_commands.specs.Serve.{IsWhole, Session, SessionEnd, Sessions, Total, no_sessions, with_session}
use Rattle.session_commands.specs.KeptRuns.{KeptRun, NeverFall, Runs, RunsAreOne, all_given, all_moments, all_sent}

-- ---- a session

dated_date : (s : ServerState) (now : ℕ) → s.date ≤ now → (dated_at s now).date ≡ now
dated_date s now le = omega (arith, le)

-- servers that are one at a moment serve alike then
session_as : (p : ProfileView) (s u : ServerState) (now : ℕ) (bytes out : List ℕ) (t : ServerState) (more : List Entry) (e : SessionEnd) → dated_at s now ≡ dated_at u now → Session p s now bytes out t more e → Session p u now bytes out t more e
session_as p s u now bytes out t more e same h = record {
  answer = h.answer;
  calls = h.calls;
  serves = subst (λ (z : ServerState). Serves p z bytes out t h.answer h.calls) same h.serves;
  entries = h.entries ∙ ap (λ (z : ServerState). kept_in z h.calls) same;
  word = h.word;
  ended = h.ended;
}

session_date : (p : ProfileView) (s : ServerState) (now : ℕ) (bytes out : List ℕ) (t : ServerState) (more : List Entry) (e : SessionEnd) → s.date ≤ now → Session p s now bytes out t more e → t.date ≡ now
session_date p s now bytes out t more e le h = sessions_keep_dates p (dated_at s now) bytes out t h.answer h.calls h.serves ∙ dated_date s now le

rebuilds_itself : (es : List Entry) (s : ServerState) → Rebuilds es s → Rebuilds es (rebuilt es)
rebuilds_itself es s k = record { right = k.right; server = (let d : (rebuilt es).date ≡ max (rebuilt es).date (rebuilt es).date = omega arith in ap (λ (n : ℕ). record (rebuilt es) { date = n }) d) }

rebuilt_below : (es : List Entry) (s : ServerState) → Rebuilds es s → (rebuilt es).date ≤ s.date
rebuilt_below es s k = let d : s.date ≡ max (rebuilt es).date s.date = ap (λ (t : ServerState). t.date) k.server in omega (arith, d)

module _ (p : ProfileView) (G : List (List ℕ)) (A : List ℕ) (rise : NeverFall A) where
  -- no moment to come is below the server's date
  abbrev Before : ServerState → ℕ → Type 0
  Before s n = (i : ℕ) → n ≤ i → i < length A → s.date ≤ get_or A i 0

  -- after so many sessions of the one run
  record So (n : ℕ) (es : List Entry) (sent : List (List ℕ)) : Type 0 where
    total : Total
    sessions : Sessions IsWhole p new_server G A n total
    is_sent : total.sent ≡ sent
    rebuilds : Rebuilds es total.server
    before : Before total.server n

  -- ---- one run

  module _ (n : ℕ) (es : List Entry) (sent : List (List ℕ)) (first : So n es sent) (g : List (List ℕ)) (m : List ℕ) (links : (j : ℕ) → j < length g → get_or G (n + j) [] ≡ get_or g j []) (moments : (j : ℕ) → j < length g → get_or A (n + j) 0 ≡ get_or m j 0)
      (few : n + length g ≤ length A) where
    record Step (k : ℕ) (R : Total) : Type 0 where
      total : Total
      sessions : Sessions IsWhole p new_server G A (n + k) total
      is_sent : total.sent ≡ sent ++ R.sent
      alike : (total.server ≡ R.server) ⊎ ((total.server ≡ first.total.server) × (R.server ≡ rebuilt es) × (R.entries ≡ []))
      before : Before total.server (n + k)

    -- at the next moment the two servers are one
    one_then : (k : ℕ) → k < length g → (q : Total) (s : Step k q) → dated_at q.server (get_or A (n + k) 0) ≡ dated_at s.total.server (get_or A (n + k) 0)
    one_then k lt q s =
        let now : ℕ = get_or A (n + k) 0 in
        let past : first.total.server.date ≤ now = first.before (n + k) (omega arith) (omega (arith, lt, few)) in
        elim s.alike as (λ z. dated_at q.server now ≡ dated_at s.total.server now) [
          | inl same ↦ ap (λ (z : ServerState). dated_at z now) (sym same)
          | inr begun ↦
              ap (λ (z : ServerState). dated_at z now) begun.1
              ∙ one_server es (rebuilt es) first.total.server now (rebuilds_itself es first.total.server first.rebuilds) first.rebuilds (omega (arith, rebuilt_below es first.total.server first.rebuilds, past)) past
              ∙ ap (λ (z : ServerState). dated_at z now) (sym begun.0)
        ]

    step : (k : ℕ) → k ≤ length g → (R : Total) → Sessions IsWhole p (rebuilt es) g m k R → Step k R
    step zero le R is = record {
      total = first.total;
      sessions = (let same : n ≡ n + 0 = omega arith in subst (λ (i : ℕ). Sessions IsWhole p new_server G A i first.total) same first.sessions);
      is_sent = first.is_sent ∙ sym (append-nil sent) ∙ ap (λ (x : Total). sent ++ x.sent) (sym is);
      alike = inr (refl, ap (λ (x : Total). x.server) is, ap (λ (x : Total). x.entries) is);
      before = λ i low lt. first.before i (omega (arith, low)) lt;
    }
    step (suc k) le R (q, e, out, t, more, h, whole, session, is) =
        let lt : k < length g = omega (arith, le) in
        let s = step k (omega (arith, le)) q h in
        let over = subst (λ (l : List ℕ). Session p q.server (get_or m k 0) l out t more e) (sym (links k lt)) session in
        let at = subst (λ (i : ℕ). Session p q.server i (get_or G (n + k) []) out t more e) (sym (moments k lt)) over in
        let here = session_as p q.server s.total.server (get_or A (n + k) 0) (get_or G (n + k) []) out t more e (one_then k lt q s) at in
        let past : s.total.server.date ≤ get_or A (n + k) 0 = s.before (n + k) (omega arith) (omega (arith, lt, few)) in
        let date : t.date ≡ get_or A (n + k) 0 = session_date p s.total.server (get_or A (n + k) 0) (get_or G (n + k) []) out t more e past here in
        let next : suc (n + k) ≡ n + suc k = omega arith in
        record {
          total = with_session (n + k) e out t more s.total;
          sessions = subst (λ (i : ℕ). Sessions IsWhole p new_server G A i (with_session (n + k) e out t more s.total)) next (s.total, e, out, t, more, s.sessions, whole, here, refl);
          is_sent = ap (λ (x : List (List ℕ)). x ++ out ∷ []) s.is_sent ∙ append_assoc sent q.sent (out ∷ []) ∙ ap (λ (x : Total). sent ++ x.sent) (sym is);
          alike = inl (ap (λ (x : Total). x.server) (sym is));
          before = λ i low below. omega (arith, date, rise (n + k) i (omega (arith, low)) below);
        }

    ran : (R : Total) → Sessions IsWhole p (rebuilt es) g m (length g) R → Rebuilds (es ++ R.entries) R.server → So (n + length g) (es ++ R.entries) (sent ++ R.sent)
    ran R h kept =
        let s = step (length g) (omega arith) R h in
        record {
          total = s.total;
          sessions = s.sessions;
          is_sent = s.is_sent;
          rebuilds = elim s.alike as (λ z. Rebuilds (es ++ R.entries) s.total.server) [
            | inl same ↦ subst (Rebuilds (es ++ R.entries)) (sym same) kept
            | inr begun ↦ subst (λ (l : List Entry). Rebuilds l s.total.server) (sym (ap (λ (l : List Entry). es ++ l) begun.2 ∙ append-nil es)) (subst (Rebuilds es) (sym begun.0) first.rebuilds)
          ];
          before = s.before;
        }

  -- ---- all of them

  all : (rs : List KeptRun) (n : ℕ) (es : List Entry) (sent : List (List ℕ)) → So n es sent → ((j : ℕ) → get_or G (n + j) [] ≡ get_or (all_given rs) j []) → ((j : ℕ) → get_or A (n + j) 0 ≡ get_or (all_moments rs) j 0) → n + length (all_moments rs) ≡ length A
      → (fs : List Entry) → Runs p es rs fs → So (n + length (all_given rs)) fs (sent ++ all_sent rs)
  all [] n es sent so links moments few fs is =
      let same : n ≡ n + 0 = omega arith in
      subst (λ (i : ℕ). So i fs (sent ++ [])) same (subst (λ (x : List (List ℕ)). So n fs x) (sym (append-nil sent)) (subst (λ (l : List Entry). So n l sent) is so))
  all (r ∷ rs) n es sent so links moments few fs (len, sessions, kept, rest) =
      let size = length-append r.moments (all_moments rs) in
      let so_far = ran n es sent so r.given r.moments (λ j lt. links j ∙ get_or_append_left r.given (all_given rs) [] j lt) (λ j lt. moments j ∙ get_or_append_left r.moments (all_moments rs) 0 j (omega (arith, lt, len))) (omega (arith, few, size, len)) r.total sessions kept in
      let later_links : (j : ℕ) → get_or G ((n + length r.given) + j) [] ≡ get_or (all_given rs) j [] = λ j.
      (let at : (n + length r.given) + j ≡ n + (length r.given + j) = omega arith in ap (λ (i : ℕ). get_or G i []) at ∙ links (length r.given + j) ∙ get_or-append-add r.given (all_given rs) j []) in
      let later_moments : (j : ℕ) → get_or A ((n + length r.given) + j) 0 ≡ get_or (all_moments rs) j 0 = λ j.
      (let at : (n + length r.given) + j ≡ n + (length r.moments + j) = omega (arith, len) in ap (λ (i : ℕ). get_or A i 0) at ∙ moments (length r.moments + j) ∙ get_or-append-add r.moments (all_moments rs) j 0) in
      let end = all rs (n + length r.given) (es ++ r.total.entries) (sent ++ r.total.sent) so_far later_links later_moments (omega (arith, few, size, len)) fs rest in
      let count : (n + length r.given) + length (all_given rs) ≡ n + length (r.given ++ all_given rs) = omega (arith, length-append r.given (all_given rs)) in
      subst (λ (i : ℕ). So i fs (sent ++ (r.total.sent ++ all_sent rs))) count (subst (λ (x : List (List ℕ)). So ((n + length r.given) + length (all_given rs)) fs x) (append_assoc sent r.total.sent (all_sent rs)) end)

pub runs_are_one : RunsAreOne
runs_are_one p rs fs rise runs =
    let first : So p (all_given rs) (all_moments rs) rise 0 [] [] = record { total = no_sessions new_server; sessions = refl; is_sent = refl; rebuilds = record { right = refl; server = refl }; before = λ i low lt. omega arith } in
    let from_none : (j : ℕ) → 0 + j ≡ j = λ j. omega arith in
    let count : 0 + length (all_moments rs) ≡ length (all_moments rs) = omega arith in
    let links : (j : ℕ) → get_or (all_given rs) (0 + j) [] ≡ get_or (all_given rs) j [] = λ j. ap (λ (i : ℕ). get_or (all_given rs) i []) (from_none j) in
    let moments : (j : ℕ) → get_or (all_moments rs) (0 + j) 0 ≡ get_or (all_moments rs) j 0 = λ j. ap (λ (i : ℕ). get_or (all_moments rs) i 0) (from_none j) in
    let h = all p (all_given rs) (all_moments rs) rise rs 0 [] [] first links moments count fs runs in
    let n : 0 + length (all_given rs) ≡ length (all_given rs) = omega arith in
    (h.total, subst (λ (i : ℕ). Sessions IsWhole p new_server (all_given rs) (all_moments rs) i h.total) n h.sessions, h.is_sent, h.rebuilds)
