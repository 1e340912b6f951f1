-- What sessions answer, give and keep, as the job of a run of `keep`.
use Rattle.std.proofs.Common.{◌≡◌, inl, inr, ℕ, ◌<◌, ◌≤◌, ◌^◌, List, ◌++◌, length, Option, Some, refl, arith, sym, ap, subst}
use Rattle.std.specs.Prelude.{IfSome}
use Rattle.std.specs.List.{All, AllByRecursion}
use Rattle.tl_base.specs.Outside.{View}
use Rattle.box_server.specs.Servers.{ServerState}
use Rattle.box_server.specs.declared.entry.Entry.{Entry}
use Rattle.box_server.specs.Keeping.{with_more}
use Rattle.box_server.specs.Storing.{Tells}
use Rattle.wire_profile.specs.Indexes.{ProfileView}
use Rattle.outside.specs.Jobs.{MayAnswer, WritesSomeOf}
use Rattle.outside.specs.Kept.{AddsPrefix}
use Rattle.outside.specs.Sound.{Fits}
use Rattle.fault_lines.specs.Profiled.{HasProfile}
use Rattle.fault_lines.proofs.Profiled.{profile_tells}
use Rattle.outside.specs.Events.{Outside}
use Rattle.session_commands.specs.Keep.{KeepsSessions, OfEntries, OfToldEntries, SessionsBy, Starts, told_job}
use Rattle.session_commands.specs.Serve.{IsAny, IsWhole, OfSessions, SessionEnd, Sessions, Total, total_answer}
use Rattle.run_laws.proofs.serving.AmongSessions.{opened_fits, sessions_job}
use Rattle.session_commands.proofs.OneTotal.{any_of}
use Rattle.run_laws.proofs.keeping.Entries.{sessions_tell}
use Rattle.run_laws.proofs.serving.Loads.{Untouched}
use Rattle.run_laws.proofs.keeping.Openings.{file_answers, job}

pub any_by : (L : Type 0) (p : ProfileView) (s : ServerState) (given : List (List ℕ)) (moments : List ℕ) (k : ℕ) (r : Total) → SessionsBy L p s given moments k r → Sessions IsAny p s given moments k r
any_by L p s given moments k r (inl whole) = any_of p s given moments k r whole
any_by L p s given moments k r (inr (failed, any)) = any

-- sessions over the outside as it was before the schema was read
module _ (p : ProfileView) (a m : Outside) (same : Untouched a m) where
  sessions_before : (Is : SessionEnd → Type 0) (s : ServerState) (k : ℕ) (r : Total) → Sessions Is p s m.view.links m.view.moments k r → Sessions Is p s a.view.links a.view.moments k r
  sessions_before Is s k r h =
      subst (λ (l : List (List ℕ)). Sessions Is p s l a.view.moments k r) (ap (λ (v : View). v.links) same.rest) (subst (λ (l : List ℕ). Sessions Is p s m.view.links l k r) (ap (λ (v : View). v.moments) same.rest) h)

  pub by_before : (L N : Type 0) → (L → N) → (s : ServerState) (k : ℕ) (r : Total) → SessionsBy L p s m.view.links m.view.moments k r → SessionsBy N p s a.view.links a.view.moments k r
  by_before L N into s k r (inl whole) = inl (sessions_before IsWhole s k r whole)
  by_before L N into s k r (inr (failed, any)) = inr (into failed, sessions_before IsAny s k r any)

  pub any_before : (s : ServerState) (k : ℕ) (r : Total) → Sessions IsAny p s m.view.links m.view.moments k r → Sessions IsAny p s a.view.links a.view.moments k r
  any_before = sessions_before IsAny

-- there is the same room for the sessions after the schema was read
pub fits_later : (p : ProfileView) (n : ℕ) (s : ServerState) (address : List ℕ) (a m : Outside) → Untouched a m → m.view.room ≡ a.view.room → Fits (sessions_job p n (OfSessions s address)) a.view → Fits (sessions_job p n (OfSessions s address)) m.view
fits_later p n s address a m same size (x, (r, sessions, is), room) =
    let links : m.view.links ≡ a.view.links = ap (λ (v : View). v.links) same.rest in
    let moments : m.view.moments ≡ a.view.moments = ap (λ (v : View). v.moments) same.rest in
    let there : Sessions IsWhole p s m.view.links m.view.moments n r = subst (λ (l : List (List ℕ)). Sessions IsWhole p s l m.view.moments n r) (sym links) (subst (λ (l : List ℕ). Sessions IsWhole p s a.view.links l n r) (sym moments) sessions) in
    let output = room.output in
    let coming = room.coming in (
      x,
      (r, there, is),
      record {
        output = omega (arith, output, ap length same.output, size);
        state = subst (λ (k : ℕ). IfSome x.state (λ s. (length s.0 ≤ k) × (length s.1 ≤ k))) (sym size) room.state;
        links = subst (λ (k : ℕ). All (λ bytes. length bytes ≤ k) x.links) (sym size) room.links;
        coming = omega (arith, coming, ap length links);
        address = subst (λ (k : ℕ). IfSome x.address (λ name. length name ≤ k)) (sym size) room.address;
      },
    )

module _ (entries : Option (List Entry)) (schema address : List ℕ) (n : ℕ) (v : View) (h : HasProfile v.files schema) (s : ServerState) (starts : Starts entries s) where
  -- all were served
  pub may_answer : (L : Type 0) (r : Total) → SessionsBy L h.p s v.links v.moments n r → MayAnswer (job entries schema address n) L v (total_answer address n r)
  may_answer L r (inl whole) = inl (file_answers entries schema address n v h (OfEntries entries address IsWhole n v.links v.moments) (total_answer address n r) (inl (s, starts, (r, whole, refl))))
  may_answer L r (inr (failed, any)) = inr (failed, (h, inl (s, starts, (r, any, refl))))

  -- the first were
  pub part_given : (L : Type 0) (w : View) (k : ℕ) → k ≤ n → (r : Total) → Sessions IsAny h.p s v.links v.moments k r → AddsPrefix v.written.output w.written.output r.output → AddsPrefix v.written.errors w.written.errors r.errors
      → WritesSomeOf (job entries schema address n) L v w
  part_given L w k few r any output errors = (total_answer address k r, inr (h, k, few, inl (s, starts, (r, any, refl))), output, inr (tt, errors))

  -- their entries were kept
  pub keeps_some : (L : Type 0) (now_entries : Option (List Entry)) (w : View) (k : ℕ) (r : Total) → AllByRecursion (λ m. m < 2 ^ 31) v.moments → SessionsBy L h.p s v.links v.moments k r → w.written.links ≡ v.written.links ++ r.sent → (0 < k → w.address ≡ Some address)
      → now_entries ≡ with_more r.entries entries → KeepsSessions L h.p address s k entries now_entries v w
  keeps_some L now_entries w k r low by links at is =
      (r, by, links, at, is, subst (λ (o : Option (List Entry)). Tells o r.server) (sym is) (sessions_tell h.p v.links v.moments low IsAny entries s k r starts (any_by L h.p s v.links v.moments k r by)))

  -- where there is room for its answer, there is for that of the sessions
  pub sessions_fit : Fits (told_job entries schema address n) v → Fits (sessions_job h.p n (OfSessions s address)) v
  sessions_fit (x, of, room) =
      let tells : OfToldEntries entries address IsWhole n v.links v.moments h.p x = profile_tells (OfToldEntries entries address IsWhole n v.links v.moments) v.files schema h.text h.is.schema h.p x h.there h.is.read h.is.is of in
      opened_fits h.p n entries address s starts v (x, tells, room)
