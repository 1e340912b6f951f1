-- A run of `keep`, or its first part: its schema, its keeper's entries, and then sessions.
use Rattle.std.proofs.Common.{◌≡◌, inl, inr, ℕ, ◌<◌, List, [], ◌∷◌, ◌++◌, append-nil, length, map, Option, refl, sym, ap, ◌∙◌, subst, arith}
use Rattle.tl_base.specs.Outside.{View, IsThere}
use Rattle.box_server.specs.Servers.{ServerState}
use Rattle.box_server.specs.declared.entry.Entry.{Entry}
use Rattle.wire_profile.specs.Indexes.{ProfileView}
use Rattle.outside.specs.Answer.{Answer, read_fault_line, refused}
use Rattle.outside.specs.Jobs.{Job, WritesSomeOf}
use Rattle.outside.specs.declared.status.Status.{Status}
use Rattle.outside.specs.declared.status.Status.TheVariants as statuses
use Rattle.fault_lines.specs.Profiled.{HasProfile, OfProfileFile}
use Rattle.fault_lines.specs.Profiled as profiles
use Rattle.outside.specs.Events.{Event, Outside}
use Rattle.outside.specs.Laws.{Happened}
use Rattle.outside.specs.Pieces.{Tells}
use Rattle.outside.proofs.Causing.{happened_last, told_status}
use Rattle.outside.specs.Fits.{Fits}
use Rattle.outside.specs.Reliable.{IsReliable}
use Rattle.schema_files.specs.Answering as answering
use Rattle.session_commands.specs.Keep.{IsBadEntry, OfEntries, Starts, bad_entry_line, keep_job}
use Rattle.session_commands.specs.Serve.{IsWhole, no_sessions, total_answer}
use Rattle.serve_rooms.specs.Acts.{Act, Agrees, AgreesAll, IsKeeperFault, Loading, hosted, loaded, rebuilds, unaccepted, unread, entries_after, events_in}
use Rattle.serve_rooms.specs.Doing.{Hosted, Last}
use Rattle.serve_rooms.specs.Serve.{OpensAndServes, after_opening, keeps}
use Rattle.serve_rooms.specs.ServedBytes.{added_in}
use Rattle.serve_rooms.specs.Sessions.{ServesAll, keep_fault_line}
use Rattle.serve_rooms.specs.declared.status.KeptStatus.{KeptStatus}
use Rattle.serve_rooms.specs.declared.status.KeptStatus.TheVariants.{KeepFault, Run}
use Rattle.serve_rooms.proofs.Acting.{events_hosted, events_more}
use Rattle.serve_rooms.proofs.AnsweredBytes.{added_more, fits_none, nothing_added}
use Rattle.run_laws.specs.Ended.{ErrorsFailed, ReadFailed}
use Rattle.run_laws.proofs.serving.Beginnings.{Seam, within, past, seam, hosted_both, nothing_after, some_more, tails}
use Rattle.run_laws.proofs.keeping.Entries.{starts_or_bad}
use Rattle.run_laws.proofs.serving.Loads as loads
use Rattle.run_laws.proofs.serving.Loads.{Came, LineSaid, Untouched, any_profile, came, none_added, said_after, tells_said}

-- what acts say of entries, after what a host did
pub agrees_later : (Sound : Type 0) (room : ℕ) (o : Option (List Entry)) (events : List Event) (t : List Act) → AgreesAll Sound room o (map (λ e. hosted e) events ++ t) → AgreesAll Sound room o t
agrees_later Sound room o [] t h = h
agrees_later Sound room o (e ∷ events) t h = agrees_later Sound room o events t h.1

-- what the first acts say
pub agrees_first : (Sound : Type 0) (room : ℕ) (o : Option (List Entry)) (t u : List Act) → AgreesAll Sound room o (t ++ u) → AgreesAll Sound room o t
agrees_first Sound room o [] u h = tt
agrees_first Sound room o (x ∷ t) u h = (h.0, agrees_first Sound room (entries_after x o) t u h.1)

unopened : (t more : List Act) (by : Loading) → t ++ more ≡ loaded by ∷ [] → 0 < length more → t ≡ []
unopened [] more by e some = refl
unopened (x ∷ t) more by e some = absurd (omega (arith, some, ap length (nothing_after t more (tails x (loaded by) (t ++ more) [] e))))

module _ (entries : Option (List Entry)) (schema address : List ℕ) (n : ℕ) where
  abbrev pub job : Job
  job = keep_job entries schema address n

  -- ---- answers of the job

  module _ (v : View) (h : HasProfile v.files schema) where
    pub file_answers : (Of : ProfileView → Answer → Type 0) (a : Answer) → Of h.p a → OfProfileFile Of v.files schema a
    file_answers Of a of = (h.text, h.there, answering.schema_of h.is.schema h.is.read (profiles.profiled h.p h.is.is of))

    -- an entry isn't accepted
    pub bad_answers : (k : ℕ) → IsBadEntry entries k → job.answers v (refused (bad_entry_line k))
    bad_answers k bad = file_answers (OfEntries entries address IsWhole n v.links v.moments) (refused (bad_entry_line k)) (inr (k, bad, refl))

    -- something is given before the first session
    pub gives_some : (x : Answer) × job.partial v x
    gives_some = elim (starts_or_bad entries) [
      | inl (s, starts) ↦ (total_answer address 0 (no_sessions s), (h, 0, omega arith, inl (s, starts, (no_sessions s, refl, refl))))
      | inr (k, bad) ↦ (refused (bad_entry_line k), (h, 0, omega arith, inr (k, bad, refl)))
    ]

    pub some_given : (L : Type 0) (w : View) → w.written.output ≡ v.written.output → w.written.errors ≡ v.written.errors → WritesSomeOf job L v w
    some_given L w output errors = let x = gives_some in (x.0, inr x.1, ([], x.0.output, refl, output ∙ sym (append-nil v.written.output)), inl errors)

  -- ---- the run

  -- what a run came to, or its first part
  pub data KeepCame (Sound : Type 0) (t u : List Act) (r : KeptStatus) (a b : Outside) : Type 0 where
    silent : 0 < length u → Untouched a b → KeepCame Sound t u r a b
    no_schema : ReadFailed (events_in t) → (IsReliable a → IsThere schema a.view → ⊥) → r ≡ Run statuses.ReadFault → added_in t ≡ [] → LineSaid read_fault_line (ErrorsFailed (events_in t)) (u ≡ []) a b → KeepCame Sound t u r a b
    refusal : (line : List ℕ) → job.answers a.view (refused line) → r ≡ Run statuses.Refused → added_in t ≡ [] → LineSaid line (ErrorsFailed (events_in t)) (u ≡ []) a b → KeepCame Sound t u r a b
    no_entries : HasProfile a.view.files schema → Happened IsKeeperFault t → ¬ Sound → r ≡ KeepFault → LineSaid keep_fault_line (ErrorsFailed (events_in t)) (u ≡ []) a b → KeepCame Sound t u r a b
    serving : (h : HasProfile a.view.files schema) (s : ServerState) → Starts entries s → (first : List Event) (rest : List Act) (m : Outside) → t ≡ map (λ e. hosted e) first ++ loaded (rebuilds s) ∷ rest
        → Untouched a m → Fits first a m → Fits (events_in rest) m b → ServesAll address n s h.p (rest ++ u) r → KeepCame Sound t u r a b

  module _ (Sound : Type 0) (room : ℕ) (t u : List Act) (r : KeptStatus) (a b : Outside) where
    -- the profile is known
    module _ (h : HasProfile a.view.files schema) (first : List Event) (m : Outside) (same : Untouched a m) (f : Fits first a m) where
      -- the entries were read
      module _ (by : Loading) (rest : List Act) (is : t ≡ map (λ e. hosted e) first ++ loaded by ∷ rest) (g : Fits (events_in rest) m b) where
        events_are : events_in t ≡ first ++ events_in rest
        events_are = ap events_in is ∙ events_more (map (λ e. hosted e) first) (loaded by ∷ rest) ∙ ap (λ (l : List Event). l ++ events_in rest) (events_hosted first)

        added_are : added_in t ≡ added_in rest
        added_are = ap added_in is ∙ added_more (map (λ e. hosted e) first) (loaded by ∷ rest) ∙ ap (λ (l : List Entry). l ++ added_in rest) (nothing_added (map (λ e. hosted e) first) first refl)

        wrote : ErrorsFailed (events_in rest) → ErrorsFailed (events_in t)
        wrote x = subst ErrorsFailed (sym events_are) (happened_last _ first (events_in rest) x)

        said : (line : List ℕ) → LineSaid line (ErrorsFailed (events_in rest)) (events_in u ≡ []) m b → LineSaid line (ErrorsFailed (events_in t)) (u ≡ []) a b
        said line s = said_after line (ErrorsFailed (events_in rest)) (ErrorsFailed (events_in t)) (events_in u ≡ []) (u ≡ []) wrote (λ none. ap events_in none) a m b same s

        -- an entry isn't accepted
        bad_came : (k : ℕ) → IsBadEntry entries k → Last (Tells (bad_entry_line k) statuses.Refused) (rest ++ u) r → KeepCame Sound t u r a b
        bad_came k bad x =
            let all : rest ++ u ≡ x.first = x.splits ∙ ap (λ (l : List Act). x.first ++ l) x.goes.0 ∙ append-nil x.first in
            let line : Hosted (Tells (bad_entry_line k) statuses.Refused) (rest ++ u) x.between = subst (λ (l : List Act). Hosted (Tells (bad_entry_line k) statuses.Refused) l x.between) (sym all) x.does in
            let both = hosted_both (Tells (bad_entry_line k) statuses.Refused) rest u x.between line in
            refusal (bad_entry_line k) (bad_answers a.view h k bad) (x.goes.1 ∙ ap (λ (s : Status). Run s) (told_status (bad_entry_line k) statuses.Refused line.0 x.between line.2)) (added_are ∙ none_added rest u line.0 line.1)
            (said (bad_entry_line k) (tells_said (bad_entry_line k) statuses.Refused x.between (events_in rest) (events_in u) m b both g))

        -- they can't be read
        unread_came : by ≡ unread → ¬ Sound → Hosted (Tells keep_fault_line KeepFault) (rest ++ u) r → KeepCame Sound t u r a b
        unread_came fails unsound line =
            let both = hosted_both (Tells keep_fault_line KeepFault) rest u r line in
            let fault : Happened IsKeeperFault (loaded by ∷ rest) = inl (subst (λ (x : Loading). IsKeeperFault (loaded x)) (sym fails) tt) in
            no_entries h (subst (Happened IsKeeperFault) (sym is) (happened_last IsKeeperFault (map (λ e. hosted e) first) (loaded by ∷ rest) fault)) unsound (told_status keep_fault_line KeepFault line.0 r line.2)
            (said keep_fault_line (tells_said keep_fault_line KeepFault r (events_in rest) (events_in u) m b both g))

      loaded_came : (by : Loading) (rest : List Act) → t ≡ map (λ e. hosted e) first ++ loaded by ∷ rest → Fits (events_in rest) m b → Agrees Sound room entries (loaded by) → after_opening address n h.p by (rest ++ u) r → KeepCame Sound t u r a b
      loaded_came (rebuilds s) rest is g agrees x = serving h s agrees first rest m is same f g x
      loaded_came (unaccepted k) rest is g agrees x = bad_came (unaccepted k) rest is g k agrees x
      loaded_came unread rest is g agrees x = unread_came unread rest is g refl agrees x

      opening_by : (rest : List Act) → t ≡ map (λ e. hosted e) first ++ rest → Fits (events_in rest) m b → AgreesAll Sound room entries t → (by : Loading) (one later : List Act) → one ≡ loaded by ∷ [] → after_opening address n h.p by later r → Seam rest u one later → KeepCame Sound t u r a b
      opening_by rest is g agrees by one later call x (within more at into some) =
          let none : rest ≡ [] = unopened rest more by (sym at ∙ call) some in
          silent (some_more u more later into some) (subst (λ (o : Outside). Untouched a o) (sym (fits_none rest m b (ap events_in none) g)) same)
      opening_by rest is g agrees by one later call x (past more at into) =
          let all : rest ≡ loaded by ∷ more = at ∙ ap (λ (l : List Act). l ++ more) call in
          let whole : t ≡ map (λ e. hosted e) first ++ loaded by ∷ more = is ∙ ap (λ (l : List Act). map (λ e. hosted e) first ++ l) all in
          let says = agrees_later Sound room entries first (loaded by ∷ more) (subst (AgreesAll Sound room entries) whole agrees) in
          loaded_came by more whole (subst (λ (l : List Act). Fits (events_in l) m b) all g) says.0 (subst (λ (l : List Act). after_opening address n h.p by l r) into x)

    keep_by : AgreesAll Sound room entries t → Came (OpensAndServes address n) schema t u r a b → KeepCame Sound t u r a b
    keep_by agrees (loads.silent go same) = silent go same
    keep_by agrees (loads.unread failed lacks is added s) = no_schema failed lacks is added s
    keep_by agrees (loads.refusal line answers is added s) = refusal line (any_profile (OfEntries entries address IsWhole n a.view.links a.view.moments) a.view.files schema (refused line) answers) is added s
    keep_by agrees (loads.profile h first rest m is same f g x) = opening_by h first m same f rest is g agrees x.between x.first x.rest x.does x.goes (seam rest u x.first x.rest x.splits)

    pub keep_came : keeps schema address n (t ++ u) r → Fits (events_in t) a b → AgreesAll Sound room entries t → KeepCame Sound t u r a b
    keep_came x f agrees = keep_by agrees (came (OpensAndServes address n) schema t u r a b x f)
