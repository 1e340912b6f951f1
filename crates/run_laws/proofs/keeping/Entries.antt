-- The entries of a keeper after a run, the server that they rebuild, and when a call to the keeper fails.
use Rattle.std.proofs.Common.{◌≡◌, ◌⊎◌, inl, inr, ℕ, zero, suc, ◌+◌, ◌<◌, ◌≤◌, ◌^◌, max, List, [], ◌∷◌, ◌++◌, append-nil, append_assoc, length, length-append, get_or, take, Bool, true, false, ◌&&◌, Option, Some, None, Result, Ok, Err, IsSome, IsTrue, refl, sym, ap, ◌∙◌, subst, arith}
use Rattle.std.specs.Prelude.{IfSome}
use Rattle.std.specs.List.{AllByRecursion}
use Rattle.box_events.specs.declared.requests.Numbered.{Numbered}
use Rattle.box_server.specs.Servers.{ServerState, dated_at, new_server}
use Rattle.box_server.specs.declared.entry.Entry.{Entry}
use Rattle.box_server.specs.Keeping.{KeeperState, Keeps, with_more}
use Rattle.box_server.specs.Rebuilding.{Rebuilds, are_right, are_right_from, is_accepted, rebuilt, with_entry}
use Rattle.box_server.specs.Storing.{Tells}
use Rattle.box_server.proofs.Rebuilt.{rebuilt_sound}
use Rattle.wire_profile.specs.Indexes.{ProfileView}
use Rattle.outside.specs.Laws.{Happened}
use Rattle.update_sessions.specs.declared.fault.SessionFault.{SessionFault}
use Rattle.update_sessions.specs.declared.fault.SessionFault.TheVariants as fault
use Rattle.update_sessions.specs.Exchanges.{after_all}
use Rattle.update_sessions.specs.Kept.{kept_in}
use Rattle.update_sessions.specs.Served.{Serves}
use Rattle.update_sessions.specs.Serving.{server_side}
use Rattle.update_sessions.proofs.Entries.{more_more, more_none}
use Rattle.update_sessions.proofs.Exchanging.{broken_ends}
use Rattle.update_sessions.proofs.KeptCalls.{calls_are_kept, sessions_keep_dates}
use Rattle.session_commands.specs.Keep.{IsBadEntry, Starts}
use Rattle.session_commands.specs.Serve.{Session, SessionEnd, Sessions, Total}
use Rattle.serve_rooms.specs.Acts.{Act, hosted, loaded, added, rebuilds, unaccepted, unread, entries_after_all, AgreesAll, IsKeeperFault, IsSure, KeeperGrew}
use Rattle.serve_rooms.specs.ServedBytes.{added_in}

-- ---- what was added

entries_added : (t : List Act) (es : Option (List Entry)) → entries_after_all t es ≡ with_more (added_in t) es
entries_added [] es = more_none es
entries_added (hosted e ∷ t) es = entries_added t es
entries_added (loaded by ∷ t) es = entries_added t es
entries_added (added e true ∷ t) es = entries_added t (with_more (e ∷ []) es) ∙ more_more es (e ∷ []) (added_in t)
entries_added (added e false ∷ t) es = entries_added t es

-- the entries after acts are those before, and those that were added
pub grown_entries : (old new : KeeperState) (t : List Act) → KeeperGrew old t new → new.entries ≡ with_more (added_in t) old.entries
grown_entries old new t g = g.entries ∙ entries_added t old.entries

-- ---- calls that failed

-- a sound keeper is full where a call to it failed
pub full_where : (Sound : Type 0) (room : ℕ) (es : List Entry) (t : List Act) → AgreesAll Sound room (Some es) t → Sound → Happened IsKeeperFault t → room ≤ length (es ++ added_in t)
full_where Sound room es [] agrees sound failed = absurd failed
full_where Sound room es (hosted e ∷ t) agrees sound (inl never) = absurd never
full_where Sound room es (hosted e ∷ t) agrees sound (inr later) = full_where Sound room es t agrees.1 sound later
full_where Sound room es (loaded (rebuilds s) ∷ t) agrees sound (inl never) = absurd never
full_where Sound room es (loaded (rebuilds s) ∷ t) agrees sound (inr later) = full_where Sound room es t agrees.1 sound later
full_where Sound room es (loaded (unaccepted n) ∷ t) agrees sound (inl never) = absurd never
full_where Sound room es (loaded (unaccepted n) ∷ t) agrees sound (inr later) = full_where Sound room es t agrees.1 sound later
full_where Sound room es (loaded unread ∷ t) agrees sound failed = absurd (agrees.0 sound)
full_where Sound room es (added e true ∷ t) agrees sound (inl never) = absurd never
full_where Sound room es (added e true ∷ t) agrees sound (inr later) =
    subst (λ (l : List Entry). room ≤ length l) (append_assoc es (e ∷ []) (added_in t)) (full_where Sound room (es ++ e ∷ []) t agrees.1 sound later)
full_where Sound room es (added e false ∷ t) agrees sound (inl failed) = let most = agrees.0 sound in omega (arith, most, length-append es (added_in t))
full_where Sound room es (added e false ∷ t) agrees sound (inr later) = full_where Sound room es t agrees.1 sound later

-- what a run says of its keeper, by what it says of one that is sure and has room
pub used_by : (old new : KeeperState) (t : List Act) (Failed : Type 0) (P : List Entry → Type 0) → KeeperGrew old t new → (Failed → Happened IsKeeperFault t)
    → ((es : List Entry) → old.entries ≡ Some es → IsSure old → P es → Failed → ⊥) → Keeps old new Failed P
used_by old new t Failed P g cause never = record {
  later = g.later;
  cause = λ failed. g.cause (cause failed);
  room_kept = g.room_kept;
  stays = λ some sound. (g.stays (some, sound)).1;
  never = never_by old.entries refl;
}
  where
    sure : (es : List Entry) → old.entries ≡ Some es → IsSome old.entries
    sure es is = subst IsSome (sym is) refl

    never_by : (o : Option (List Entry)) → old.entries ≡ o → IfSome o (λ es. IsTrue old.sound → P es → Failed → ⊥)
    never_by None is = tt
    never_by (Some es) is = λ sound room failed. never es is (sure es is, sound) room failed

-- ---- the server that they rebuild

-- the server after a session is that after its calls
pub served_by : (p : ProfileView) (s : ServerState) (bytes out : List ℕ) (t : ServerState) (r : Result ℕ SessionFault) (cs : List Numbered) → Serves p s bytes out t r cs → t ≡ after_all (server_side p) s cs
served_by p s bytes out t (Ok n) cs h = h.0.ends
served_by p s bytes out t (Err (fault.Packet f)) cs h = h.1.ends
served_by p s bytes out t (Err (fault.Wire f)) cs h = h.1.ends
served_by p s bytes out t (Err (fault.Client f)) cs h = absurd h
served_by p s bytes out t (Err fault.TooManyFrames) cs h = h.1.ends
served_by p s bytes out t (Err fault.LinkFault) cs h = broken_ends (server_side p) s t bytes out cs h

-- moments have 31 bits
abbrev AreLow : List ℕ → Type 0
AreLow moments = AllByRecursion (λ m. m < 2 ^ 31) moments

low_at : (moments : List ℕ) (k : ℕ) → AreLow moments → get_or moments k 0 < 2 ^ 31
low_at [] zero low = omega arith
low_at [] (suc k) low = omega arith
low_at (m ∷ moments) zero low = low.0
low_at (m ∷ moments) (suc k) low = low_at moments k low.1

-- these entries rebuild the server, whose date is low
record Stands (es : List Entry) (s : ServerState) : Type 0 where
  rebuilds : Rebuilds es s
  date : s.date < 2 ^ 31

stands_first : (es : List Entry) (s : ServerState) → Starts (Some es) s → Stands es s
stands_first es s (right, is) =
    let d : (rebuilt es).date ≡ max (rebuilt es).date (rebuilt es).date = omega arith in
    let itself : Rebuilds es (rebuilt es) = record { right = right; server = ap (λ (n : ℕ). record (rebuilt es) { date = n }) d } in
    subst (Stands es) (sym is) (record { rebuilds = itself; date = (rebuilt_sound es right).date })

stands_then : (p : ProfileView) (es : List Entry) (s t : ServerState) (now : ℕ) (bytes out : List ℕ) (more : List Entry) (e : SessionEnd) → now < 2 ^ 31 → Stands es s → Session p s now bytes out t more e → Stands (es ++ more) t
stands_then p es s t now bytes out more e low so h =
    let after = calls_are_kept p es s now h.calls so.date low so.rebuilds in
    let server : t ≡ after_all (server_side p) (dated_at s now) h.calls = served_by p (dated_at s now) bytes out t h.answer h.calls h.serves in
    let same : t.date ≡ max s.date now = sessions_keep_dates p (dated_at s now) bytes out t h.answer h.calls h.serves in
    let small = so.date in
    record {
      rebuilds = subst (λ (l : List Entry). Rebuilds (es ++ l) t) (sym h.entries) (subst (Rebuilds (es ++ kept_in (dated_at s now) h.calls)) (sym server) after);
      date = omega (arith, same, small, low);
    }

module _ (p : ProfileView) (given : List (List ℕ)) (moments : List ℕ) (low : AreLow moments) where
  stands_after : (Is : SessionEnd → Type 0) (es : List Entry) (s : ServerState) (n : ℕ) (r : Total) → Stands es s → Sessions Is p s given moments n r → Stands (es ++ r.entries) r.server
  stands_after Is es s zero r so is = subst (λ (x : Total). Stands (es ++ x.entries) x.server) (sym is) (subst (λ (l : List Entry). Stands l s) (sym (append-nil es)) so)
  stands_after Is es s (suc n) r so (q, e, out, t, more, before, whole, session, is) =
      let first = stands_after Is es s n q so before in
      let last = stands_then p (es ++ q.entries) q.server t (get_or moments n 0) (get_or given n []) out more e (low_at moments n low) first session in
      subst (λ (x : Total). Stands (es ++ x.entries) x.server) (sym is) (subst (λ (l : List Entry). Stands l t) (append_assoc es q.entries more) last)

  -- all entries rebuild the server after the sessions
  pub sessions_tell : (Is : SessionEnd → Type 0) (o : Option (List Entry)) (s : ServerState) (n : ℕ) (r : Total) → Starts o s → Sessions Is p s given moments n r → Tells (with_more r.entries o) r.server
  sessions_tell Is None s n r starts h = tt
  sessions_tell Is (Some es) s n r starts h = (stands_after Is es s n r (stands_first es s starts) h).rebuilds

-- ---- entries are right, or there is a first that isn't

record BadFrom (s : ServerState) (es : List Entry) : Type 0 where
  n : ℕ
  there : n < length es
  before : are_right_from s (take n es) ≡ true
  with_it : are_right_from s (take (n + 1) es) ≡ false

bad_here : (s : ServerState) (e : Entry) (es : List Entry) → is_accepted s e ≡ false → BadFrom s (e ∷ es)
bad_here s e es is = record { n = 0; there = omega arith; before = refl; with_it = ap (λ (b : Bool). b && true) is }

bad_later : (s : ServerState) (e : Entry) (es : List Entry) → is_accepted s e ≡ true → BadFrom (with_entry s e) es → BadFrom s (e ∷ es)
bad_later s e es is bad =
    let one : suc bad.n + 1 ≡ suc (bad.n + 1) = omega arith in
    let less = bad.there in
    record {
      n = suc bad.n;
      there = omega (arith, less);
      before = ap (λ (b : Bool). b && are_right_from (with_entry s e) (take bad.n es)) is ∙ bad.before;
      with_it = ap (λ (k : ℕ). are_right_from s (take k (e ∷ es))) one ∙ (ap (λ (b : Bool). b && are_right_from (with_entry s e) (take (bad.n + 1) es)) is ∙ bad.with_it);
    }

bad_first : (s : ServerState) (e : Entry) (es : List Entry) → (are_right_from (with_entry s e) es ≡ false → BadFrom (with_entry s e) es) → (b : Bool) → is_accepted s e ≡ b → are_right_from s (e ∷ es) ≡ false → BadFrom s (e ∷ es)
bad_first s e es later true is h = bad_later s e es is (later (sym (ap (λ (b : Bool). b && are_right_from (with_entry s e) es) is) ∙ h))
bad_first s e es later false is h = bad_here s e es is

bad_from : (s : ServerState) (es : List Entry) → are_right_from s es ≡ false → BadFrom s es
bad_from s [] h = absurd (let no : true ≡ false = h in cc)
bad_from s (e ∷ es) h = bad_first s e es (λ rest. bad_from (with_entry s e) es rest) (is_accepted s e) refl h

starts_by : (es : List Entry) (b : Bool) → are_right es ≡ b → ((s : ServerState) × Starts (Some es) s) ⊎ ((k : ℕ) × IsBadEntry (Some es) k)
starts_by es true is = inl (rebuilt es, (is, refl))
starts_by es false is = let bad = bad_from new_server es is in inr (bad.n, record { there = bad.there; before = bad.before; with_it = bad.with_it })

pub starts_or_bad : (o : Option (List Entry)) → ((s : ServerState) × Starts o s) ⊎ ((k : ℕ) × IsBadEntry o k)
starts_or_bad None = inl (new_server, tt)
starts_or_bad (Some es) = starts_by es (are_right es) refl
