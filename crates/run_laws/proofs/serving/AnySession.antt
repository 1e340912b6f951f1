-- What sessions come to from any server on: the next one, and all.
use Rattle.std.proofs.Common.{◌≡◌, ◌≢◌, inl, inr, ℕ, List, [], ◌++◌, append-nil, Bool, true, false, true≢false, Result, refl, sym, ap, ◌∙◌, subst, arith}
use Rattle.std.specs.Prelude.{get_or}
use Rattle.box_server.specs.Servers.{ServerState}
use Rattle.box_server.specs.declared.entry.Entry.{Entry}
use Rattle.wire_profile.specs.Indexes.{ProfileView}
use Rattle.outside.specs.Answer.{link_fault_line, write_fault_line}
use Rattle.outside.specs.declared.status.Status.{Status}
use Rattle.outside.specs.declared.status.Status.TheVariants as statuses
use Rattle.outside.specs.Events.{Outside}
use Rattle.outside.specs.Reliable.{IsReliable}
use Rattle.update_sessions.specs.declared.fault.SessionFault.{SessionFault}
use Rattle.session_commands.specs.Linked.{next_link}
use Rattle.session_commands.specs.Serve.{end_errors, end_output, end_of}
use Rattle.session_commands.specs.Serve as commands
use Rattle.session_commands.specs.inner.Serving.{GoesOn}
use Rattle.session_rooms.proofs.LeftViews.{leaves_then}
use Rattle.serve_rooms.specs.Acts.{Act, events_in}
use Rattle.serve_rooms.specs.ServedBytes.{added_in}
use Rattle.serve_rooms.specs.Sessions.{more, no_more, keep_fault_line, ServesAll, ServesNext}
use Rattle.serve_rooms.specs.declared.status.KeptStatus.{KeptStatus}
use Rattle.serve_rooms.specs.declared.status.KeptStatus.TheVariants.{Run, KeepFault}
use Rattle.serve_rooms.specs.declared.telling.Tally.{Tally}
use Rattle.serve_rooms.proofs.AnsweredBytes.{added_more}
use Rattle.run_laws.specs.Ended.{ErrorsFailed}
use Rattle.run_laws.specs.Sessions.{AllAnswer, NextAnswers, ServedAll, ServedNext, session_answer}
use Rattle.run_laws.proofs.serving.AllCame.{AllCame, not_yet, unlistened, served_so, LoopCame, served_all, unlinked, unwritten, unkept, begun, all_came, end_adds, listening}
use Rattle.run_laws.proofs.serving.Connected.{Connected, NextCame, unheard, nobody, heard, broken_off, next_came}
use Rattle.run_laws.proofs.serving.Lines.{LineEnd, errors_of}
use Rattle.run_laws.proofs.serving.ServeEnds.{lines_tell}
use Rattle.run_laws.proofs.serving.ToldLines.{Says, told_all, told_some, unwritten_by, next_told}
use Rattle.run_laws.proofs.serving.Unfailing.{same_run}

-- ---- lines

whole_before : (before after : Bool) (old new line : List ℕ) → GoesOn before after old new line → after ≡ true → before ≡ true
whole_before true after old new line h is = refl
whole_before false true old new line h is = absurd h
whole_before false false old new line h is = absurd (true≢false (sym is))

whole_lines : (before after : Bool) (old new line : List ℕ) → GoesOn before after old new line → after ≡ true → new ≡ old ++ line
whole_lines true true old new line h is = h
whole_lines true false old new line h is = absurd (true≢false (sym is))
whole_lines false true old new line h is = absurd h
whole_lines false false old new line h is = absurd (true≢false (sym is))

-- ---- the next session

more_server : (a b : ServerState) (c d : Tally) → more a c ≡ more b d → a ≡ b
more_server a b c d is = cc

more_tally : (a b : ServerState) (c d : Tally) → more a c ≡ more b d → c ≡ d
more_tally a b c d is = cc

module _ (p : ProfileView) (number : ℕ) (s t : ServerState) (tally later : Tally) (acts : List Act) (x y : Outside) where
  abbrev Served : Type 0
  Served = ServedNext p number s t tally later acts x y

  others_end : (line : List ℕ) (status : KeptStatus) (m : Outside) → LineEnd (ErrorsFailed (events_in acts)) line (no_more status) [] (more t later) m y → Served
  others_end line status m h = elim h.line_is as (λ z. Served) [
    | inl ((none, is), tells) ↦ absurd (let no : more t later ≡ no_more status = is in cc)
    | inr (some, prefix) ↦ absurd (omega (arith, some))
  ]

  -- it is over, and this is told of it
  module _ (first rest : List Act) (d : ServerState) (end : Result ℕ SessionFault) (j : Outside) (parts : acts ≡ first ++ rest) (c : Connected p s first d end x j) (none : added_in rest ≡ []) where
    entries : added_in acts ≡ added_in first
    entries = ap added_in parts ∙ added_more first rest ∙ ap (λ (l : List Entry). added_in first ++ l) none ∙ append-nil (added_in first)

    said : (now : Tally) → more t later ≡ more d now → Says number (end_of end) tally now (ErrorsFailed (events_in rest)) j y → Served
    said now is told =
        let server : d ≡ t = sym (more_server t d later now is) in
        let says : Says number (end_of end) tally later (ErrorsFailed (events_in rest)) j y = subst (λ (z : Tally). Says number (end_of end) tally z (ErrorsFailed (events_in rest)) j y) (sym (more_tally t d later now is)) told in
        record {
          sent = c.sent;
          ends = end_of end;
          session = subst (λ (z : ServerState). commands.Session p s (get_or x.view.moments 0 0) (next_link x.view) c.sent z (added_in acts) (end_of end)) server
              (subst (λ (l : List Entry). commands.Session p s (get_or x.view.moments 0 0) (next_link x.view) c.sent d l (end_of end)) (sym entries) c.session);
          status = says.status;
          output = says.output ∙ ap (λ (l : List ℕ). l ++ end_output number (end_of end)) c.silent.output;
          whole = whole_before tally.whole later.whole (errors_of j) (errors_of y) (end_errors (end_of end)) says.lines;
          errors = λ stands. whole_lines tally.whole later.whole (errors_of j) (errors_of y) (end_errors (end_of end)) says.lines stands ∙ ap (λ (l : List ℕ). l ++ end_errors (end_of end)) c.silent.errors;
          leaves = leaves_then (session_answer number (end_of end) c.sent) x.view j.view y.view (c.leaves number) says.rest;
        }

  by_next : NextCame p number s tally acts [] (more t later) x y → Served
  by_next (unheard some same) = absurd (omega (arith, some))
  by_next (nobody k view none failed empty line) = others_end link_fault_line (Run statuses.LinkFault) k line
  by_next (broken_off first rest j parts lost none line) = others_end keep_fault_line KeepFault j line
  by_next (heard first rest d end j parts c fits tells goes) =
      elim (next_told number tally d end rest [] (more t later) j y tells goes) as (λ z. Served) [
        | told_all now none is says ↦ said first rest d end j parts c (end_adds number tally d end rest [] (more t later) goes) now is says
        | told_some some output errors ↦ absurd (omega (arith, some))
        | unwritten_by i is h ↦ elim h.line_is as (λ z. Served) [
          | inl ((none, ends), tells_it) ↦ absurd (let no : more t later ≡ no_more (Run statuses.WriteFault) = ends in cc)
          | inr (some, prefix) ↦ absurd (omega (arith, some))
        ]
      ]

pub next_answers : NextAnswers
next_answers p number s t tally later acts x y h f =
    by_next p number s t tally later acts x y (next_came p number s tally acts [] (more t later) x y (subst (λ (l : List Act). ServesNext p number s tally l (more t later)) (sym (append-nil acts)) h) f)

-- ---- all sessions

module _ (p : ProfileView) (address : List ℕ) (n : ℕ) (s : ServerState) (acts : List Act) (status : Status) (x y : Outside) (written : status ≢ statuses.WriteFault) (linked : status ≢ statuses.LinkFault) where
  abbrev All : Type 0
  All = ServedAll p address n s acts status x y

  -- it ended by no such line
  no_line : (line : List ℕ) (fault : KeptStatus) (m : Outside) → LineEnd (ErrorsFailed (events_in acts)) line fault [] (Run status) m y → (Run status ≡ fault → ⊥) → All
  no_line line fault m h never = elim h.line_is as (λ z. All) [
    | inl ((none, is), tells) ↦ absurd (never is)
    | inr (some, prefix) ↦ absurd (omega (arith, some))
  ]

  unlinked_never : (m : Outside) → LineEnd (ErrorsFailed (events_in acts)) link_fault_line (Run statuses.LinkFault) [] (Run status) m y → All
  unlinked_never m line = no_line link_fault_line (Run statuses.LinkFault) m line (λ is. linked (same_run status statuses.LinkFault is))

  by_loop : LoopCame p s n (IsReliable x) (listening address x.view) acts [] (Run status) y → All
  by_loop (served_all server tally none is so) = record {
    total = so.total;
    sessions = so.sessions;
    entries = so.entries;
    status_is = same_run status tally.status is ∙ so.status;
    output = so.output;
    errors = lines_tell (ErrorsFailed (events_in acts)) tally.whole so.total.errors x.view.written.errors x.view y.view refl so.torn so.lines;
    leaves = record { files = so.leaves.files; moments = so.leaves.moments; coming = so.leaves.coming; state_name = so.leaves.state_name; state = so.leaves.state; links = so.leaves.links; address = so.leaves.address };
  }
  by_loop (unlinked m stop failed few line) = unlinked_never m line
  by_loop (unwritten m stop failed few line) = no_line write_fault_line (Run statuses.WriteFault) m line (λ is. written (same_run status statuses.WriteFault is))
  by_loop (unkept m lost line) = no_line keep_fault_line KeepFault m line (λ is. (let no : Run status ≡ KeepFault = is in cc))
  by_loop (begun some given) = absurd (omega (arith, some))

  by_all : AllCame p address n s acts [] (Run status) x y → All
  by_all (not_yet some quiet) = absurd (omega (arith, some))
  by_all (unlistened m view none failed full line) = unlinked_never m line
  by_all (served_so loop) = by_loop loop

pub all_answer : AllAnswer
all_answer p address n s acts status x y h f written linked =
    by_all p address n s acts status x y written linked (all_came p address n s acts [] (Run status) x y (subst (λ (l : List Act). ServesAll address n s p l (Run status)) (sym (append-nil acts)) h) f)
