-- Sessions over a reliable outside that has room for their answer stop at no fault.
use Rattle.std.proofs.Common.{◌≡◌, inl, inr, ℕ, zero, suc, ◌+◌, ◌≤◌, List, [], length, length-append, Option, sym, ap, ◌∙◌, subst, arith}
use Rattle.std.specs.Prelude.{IfSome, get_or}
use Rattle.std.specs.List.{All}
use Rattle.std.proofs.Math.Nat.{eq-or-lt_of_le}
use Rattle.tl_numbers.specs.Bytes.{ListsOfBytes}
use Rattle.tl_base.specs.Outside.{View}
use Rattle.box_server.specs.Servers.{ServerState}
use Rattle.wire_profile.specs.Indexes.{ProfileView}
use Rattle.wire_profile.specs.Profiles.{IsProfile}
use Rattle.outside.specs.Answer.{Answer}
use Rattle.outside.specs.Sound.{IsFault}
use Rattle.outside.specs.Sound as sound
use Rattle.outside.specs.declared.status.Status.{Status}
use Rattle.outside.specs.Events.{Outside}
use Rattle.outside.specs.Reliable.{IsReliable}
use Rattle.session_commands.specs.Serve.{IsWhole, OfSessions, Session, Sessions, Total, end_output}
use Rattle.run_laws.proofs.serving.AmongSessions.{IsSessionStatus, is_among, sessions_job, whole_status}
use Rattle.session_commands.proofs.OneTotal.{given_bytes, one_total}
use Rattle.serve_rooms.specs.Acts.{Act}
use Rattle.serve_rooms.specs.declared.status.KeptStatus.TheVariants.{Run, KeepFault}
use Rattle.run_laws.proofs.serving.AllCame.{AllCame, not_yet, unlistened, served_so, LoopCame, served_all, unlinked, unwritten, unkept, begun, listening}
use Rattle.run_laws.proofs.serving.Lines.{LineEnd}
use Rattle.run_laws.proofs.serving.SoFar.{Broke, WholeOr}

pub same_run : (x y : Status) → Run x ≡ Run y → x ≡ y
same_run x y is = cc

no_fault : (x : Status) → IsSessionStatus ⊥ x → IsFault x → ⊥
no_fault x h f = elim f [
  | inl is ↦ subst (IsSessionStatus ⊥) is h
  | inr other ↦ elim other [ inl is ↦ subst (IsSessionStatus ⊥) is h | inr is ↦ subst (IsSessionStatus ⊥) is h ]
]

module _ (p : ProfileView) (good : IsProfile p) (s : ServerState) (given : List (List ℕ)) (bytes : ListsOfBytes given) (moments : List ℕ) where
  -- fewer sessions tell no more
  pub fewer_tell : (n : ℕ) (r : Total) → Sessions IsWhole p s given moments n r → (k : ℕ) (q : Total) → Sessions IsWhole p s given moments k q → k ≤ n → length q.output ≤ length r.output
  fewer_tell zero r h zero q g few = let same : q ≡ r = g ∙ sym h in omega (arith, ap (λ (x : Total). length x.output) same)
  fewer_tell zero r h (suc k) q g few = absurd (omega (arith, few))
  fewer_tell (suc n) r h k q g few =
      elim (eq-or-lt_of_le {n = k} {m = suc n} few) as (λ z. length q.output ≤ length r.output) [
        | inl same ↦
            (let one = one_total p good s given bytes moments (suc n) q r (subst (λ (i : ℕ). Sessions IsWhole p s given moments i q) same g) h in
            omega (arith, ap (λ (x : Total). length x.output) one))
        | inr less ↦
            (let earlier = fewer_tell n h.0 h.5 k q g (omega (arith, less)) in
            omega (arith, earlier, ap (λ (x : Total). length x.output) h.8, length-append h.0.output (end_output n h.1)))
      ]

module _ (p : ProfileView) (good : IsProfile p) (address : List ℕ) (n : ℕ) (s : ServerState) (a : Outside) (bytes : ListsOfBytes a.view.links) (reliable : IsReliable a) (fits : sound.Fits (sessions_job p n (OfSessions s address)) a.view) where
  abbrev v : View
  v = a.view

  abbrev total : Total
  total = fits.1.0

  whole_total : Sessions IsWhole p s v.links v.moments n total
  whole_total = fits.1.1

  sends : All (λ b. length b ≤ v.room) total.sent
  sends = subst (λ (l : List (List ℕ)). All (λ b. length b ≤ v.room) l) (ap (λ (x : Answer). x.links) fits.1.2) fits.2.links

  prints : length v.written.output + length total.output ≤ v.room
  prints = omega (arith, fits.2.output, ap (λ (x : Answer). length x.output) fits.1.2)

  comes : n ≤ length v.links
  comes = omega (arith, fits.2.coming, ap (λ (x : Answer). x.taken) fits.1.2)

  address_fits : length address ≤ v.room
  address_fits = subst (λ (o : Option (List ℕ)). IfSome o (λ name. length name ≤ v.room)) (ap (λ (x : Answer). x.address) fits.1.2) fits.2.address

  broke_never : (t : List Act) → Broke p s n (IsReliable a) (listening address v) t → ⊥
  broke_never t h =
      let among = is_among p s v.links v.moments n total (length v.written.output) v.room whole_total sends prints h.number h.less in
      let same : h.total ≡ among.total = one_total p good s v.links bytes v.moments h.number h.total among.total h.sessions among.sessions in
      let other : Session p h.total.server (get_or v.moments h.number 0) (get_or v.links h.number []) among.sent among.server among.more among.ended =
      subst (λ (x : Total). Session p x.server (get_or v.moments h.number 0) (get_or v.links h.number []) among.sent among.server among.more among.ended) (sym same) among.session in
      let short = h.short reliable good (given_bytes v.links bytes h.number) among.sent among.server among.more among.ended other among.whole in
      absurd (omega (arith, short, among.link))

  whole_of : (k : ℕ) (q : Total) (t : List Act) → WholeOr p s n (IsReliable a) (listening address v) k q t → Sessions IsWhole p s v.links v.moments k q
  whole_of k q t (inl whole) = whole
  whole_of k q t (inr broke) = absurd (broke_never t broke)

  line_status : {A : Type 0} (W : Type 0) (line : List ℕ) (x r : A) (m b : Outside) → LineEnd W line x [] r m b → r ≡ x
  line_status W line x r m b h = elim h.line_is [ inl ((none, is), tells) ↦ is | inr (some, prefix) ↦ absurd (omega (arith, some)) ]

  loop_sound : (t : List Act) (status : Status) (b : Outside) → LoopCame p s n (IsReliable a) (listening address v) t [] (Run status) b → IsFault status → ⊥
  loop_sound t status b (served_all server tally none is so) fault =
      let same : status ≡ so.total.status = same_run status tally.status is ∙ so.status in
      no_fault so.total.status (whole_status p s v.links v.moments n so.total (whole_of n so.total t so.whole)) (subst IsFault same fault)
  loop_sound t status b (unlinked m stop failed few line) fault = absurd (omega (arith, few reliable, comes))
  loop_sound t status b (unwritten m stop failed few line) fault =
      absurd (omega (arith, few reliable, prints, fewer_tell p good s v.links bytes v.moments n total whole_total stop.number stop.total (whole_of stop.number stop.total t stop.whole) stop.few))
  loop_sound t status b (unkept m lost line) fault = absurd (let no : Run status ≡ KeepFault = line_status _ _ KeepFault (Run status) m b line in cc)
  loop_sound t status b (begun some given) fault = absurd (omega (arith, some))

  pub sessions_sound : (t : List Act) (status : Status) (b : Outside) → AllCame p address n s t [] (Run status) a b → IsFault status → ⊥
  sessions_sound t status b (not_yet some quiet) fault = absurd (omega (arith, some))
  sessions_sound t status b (unlistened m view none failed full line) fault =
      absurd (omega (arith, full reliable, address_fits))
  sessions_sound t status b (served_so loop) fault = loop_sound t status b loop fault
