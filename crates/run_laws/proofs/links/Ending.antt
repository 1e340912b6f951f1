-- How a run ends, by what it comes to.
use Rattle.std.proofs.Common.{◌≡◌, ℕ, List, [], ◌++◌, length, length-append, Bool, true, false, Option, append-nil, refl, sym, ap, ◌∙◌, subst, inl, inr, arith}
use Rattle.tl_base.specs.Calls.{with_name}
use Rattle.tl_base.specs.Outside.{View, with_written, written_of}
use Rattle.tl_base.specs.declared.host.Out.{Out}
use Rattle.tl_base.specs.declared.host.Out.TheVariants as outs
use Rattle.outside.specs.Answer.{Answer, link_fault_line, memory_line, refused, write_fault_line}
use Rattle.outside.specs.Jobs.{Job, MayGive}
use Rattle.outside.specs.Kept.{AddsPrefix}
use Rattle.outside.specs.Sound.{IsFault}
use Rattle.outside.specs.Telling.{Tells as TellsOn}
use Rattle.outside.specs.declared.status.Status.{Status}
use Rattle.outside.specs.declared.status.Status.TheVariants as status
use Rattle.outside.specs.Begun.{BeginsIn, WritesOnly, to_link}
use Rattle.outside.specs.Events.{Event, Outside, opened, took, ended, read_failed, created, put, write_failed, listened, connected, accepted, told}
use Rattle.outside.specs.Laws.{Explains, Throughout}
use Rattle.outside.proofs.Causing.{told_status}
use Rattle.outside.specs.Pieces.{Tells, Writes}
use Rattle.outside.specs.Printing.{Prints, after_output}
use Rattle.outside.specs.Steps.{Step, Then}
use Rattle.outside.specs.Fits.{Fits, Happens}
use Rattle.outside.proofs.Fitting.{fits_both}
use Rattle.session_commands.specs.Linked.{cut_off, linking_job}
use Rattle.session_rooms.proofs.LeftViews.{all_leave}
use Rattle.session_rooms.proofs.PostFiles.{output_of}
use Rattle.run_laws.specs.Ended as forms
use Rattle.run_laws.specs.Ended.{Ended, ErrorsFailed, LinkFailed, StopsIn}
use Rattle.run_laws.proofs.links.Coming.{Came, gave, unread, cut, out_of_memory, unfinished}
use Rattle.run_laws.proofs.links.ToldLines.{cause_last, tell_alone, tells_later}

-- between what was written to Output and what was told
abbrev between : View → View → View
between v w = record v { written = record v.written { output = w.written.output } }

-- Answers: what is answered over a view
module _ (Answers : View → Answer → Type 0) (Kept : View → View → Type 0) where
  abbrev pub job : Job
  job = linking_job Answers Kept

  -- a run's end as the job's
  abbrev pub EndsSo : List Event → Status → Outside → Outside → Type 0
  EndsSo t r s n = Ended job t r s.view n.view

  module _ (t : List Event) (r : Status) (s n : Outside) where
    stops : (line : List ℕ) (a : Answer) → MayGive job (LinkFailed t) s.view a → AddsPrefix (output_of s) (output_of n) a.output → TellsOn (ErrorsFailed t) line s.view n.view → StopsIn job t line s.view n.view
    stops line a may p tells = record { stopped = between s.view n.view; given = (a, may, p, inl refl); told = (refl, tells) }

    nothing_more : (text : List ℕ) → output_of n ≡ output_of s → AddsPrefix (output_of s) (output_of n) text
    nothing_more text output = ([], text, refl, output ∙ sym (append-nil (output_of s)))

    pub ends_so : Explains r t → Came (Answers s.view) (ErrorsFailed t) r s n → EndsSo t r s n
    ends_so cause (gave a is e gives tells) = forms.answered a (inl is) e gives.output gives.leaves tells
    ends_so cause (unread e output tells) = forms.read_failed (subst (λ (x : Status). Explains x t) e cause) e output tells
    ends_so cause (cut e output tells) =
        let failed : LinkFailed t = subst (λ (x : Status). Explains x t) e cause in
        forms.link_failed failed e (stops link_fault_line cut_off (inl (inr (failed, refl))) (nothing_more [] output) tells)
    ends_so cause (unfinished a is e p tells) = forms.write_failed (subst (λ (x : Status). Explains x t) e cause) e (stops write_fault_line a (inl (inl is)) p tells)
    ends_so cause (out_of_memory e output tells) = forms.out_of_memory e output tells

-- ---- memory runs out

-- Output, Errors and State
abbrev apart : View → List ℕ × List ℕ × List ℕ × Option (List ℕ)
apart v = (v.written.output, v.written.errors, v.written.state, v.state_name)

link_only : (e : Event) (s n : Outside) → Happens e s n → WritesOnly to_link e → apart n.view ≡ apart s.view
link_only (opened slot name true) s n h is = ap apart h.0.2
link_only (opened slot name false) s n h is = ap apart h.0
link_only (took slot bytes) s n h is = ap apart h.1
link_only (ended slot) s n h is = ap apart h.1
link_only (read_failed slot) s n h is = ap apart h.0
link_only (created out name false) s n h is = ap apart h.0
link_only (created out name true) s n h (inl is) = ap apart (h.0 ∙ ap (λ (o : Out). with_name o name (with_written o [] s.view)) is)
link_only (created out name true) s n h (inr is) = absurd is
link_only (put out bytes) s n h (inl is) = ap apart (h.0 ∙ ap (λ (o : Out). with_written o (written_of o s.view ++ bytes) s.view) is)
link_only (put out bytes) s n h (inr is) = absurd is
link_only (write_failed out) s n h is = ap apart h.0
link_only (listened address true) s n h is = ap apart h.0
link_only (listened address false) s n h is = ap apart h.0
link_only (connected address true) s n h is = ap apart h.0.1
link_only (connected address false) s n h is = ap apart h.0
link_only (accepted true) s n h is = ap apart h.0.1
link_only (accepted false) s n h is = ap apart h.0
link_only (told moment) s n h is = ap apart h.0.1

pub links_only : (t : List Event) (s n : Outside) → Throughout (WritesOnly to_link) t → Fits t s n → apart n.view ≡ apart s.view
links_only = all_leave apart (WritesOnly to_link) link_only

pub memory_ends : (asked : Job) (work : Step Status) (t : List Event) (r : Status) (s n : Outside) → Then (λ u x. BeginsIn to_link work u × (x ≡ status.Memory)) (Tells memory_line) t r → Fits t s n
    → Ended asked t r s.view n.view
memory_ends asked work t r s n h f =
    let parts = fits_both h.first h.rest s n (subst (λ (l : List Event). Fits l s n) h.splits f) in
    let kept = links_only h.first s parts.0 h.does.0.only parts.1 in
    let e = tell_alone (ErrorsFailed t) memory_line h.between r h.rest parts.0 n h.goes parts.2 (cause_last (ErrorsFailed t) t h.first h.rest h.splits (λ x. x)) in
    forms.out_of_memory (h.goes.goes.1 ∙ h.does.1) (e.output ∙ ap (λ k. k.0) kept) (tells_later (ErrorsFailed t) memory_line s parts.0 n (ap (λ k. k.1) kept) e.line_is)

-- ---- statuses that are no fault's

abbrev pub IsSafe : Status → Type 0
IsSafe r = IsFault r → ⊥

pub done_safe : IsSafe status.Done
done_safe (inl e) = cc
done_safe (inr (inl e)) = cc
done_safe (inr (inr e)) = cc

pub refused_safe : IsSafe status.Refused
refused_safe (inl e) = cc
refused_safe (inr (inl e)) = cc
refused_safe (inr (inr e)) = cc

pub peer_safe : IsSafe status.PeerFault
peer_safe (inl e) = cc
peer_safe (inr (inl e)) = cc
peer_safe (inr (inr e)) = cc

pub memory_safe : IsSafe status.Memory
memory_safe (inl e) = cc
memory_safe (inr (inl e)) = cc
memory_safe (inr (inr e)) = cc

pub safe_as : (r q : Status) → r ≡ q → IsSafe q → IsSafe r
safe_as r q e safe = subst IsSafe (sym e) safe

-- nothing is written to Output where something is refused
after_refused : (line : List ℕ) (ok : Bool) (t u : List Event) (r : Status) → Writes outs.Output [] t ok → after_output (refused line) ok u r → IsSafe r
after_refused line true t u r w h = safe_as r status.Refused (told_status line status.Refused u r h) refused_safe
after_refused line false t u r w h = absurd (omega (arith, w.4, ap length w.3, length-append w.0 w.1))

pub refusal_safe : (line : List ℕ) (t : List Event) (r : Status) → Prints (refused line) t r → IsSafe r
refusal_safe line t r h = after_refused line h.between h.first h.rest r h.does h.goes
