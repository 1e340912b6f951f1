-- A journal's replay, whose lines are written as its steps are made.
use Rattle.std.proofs.Common.{◌≡◌, ℕ, ◌<◌, ◌-◌, List, [], ◌∷◌, ◌++◌, length, append-nil, Bool, true, false, Option, Some, None, Ok, Err, refl, sym, ap, ◌∙◌, subst, arith, inl, inr, length-append}
use Rattle.tl_numbers.specs.Bytes.{AreBytes}
use Rattle.tl_base.specs.declared.host.Slot.{Slot}
use Rattle.tl_base.specs.declared.host.Slot.TheVariants.{Input}
use Rattle.tl_base.specs.declared.host.Out.TheVariants.{Output}
use Rattle.tl_schema.specs.CheckedPrograms.{IsSchema}
use Rattle.tl_schema.specs.Schemas.{Declared}
use Rattle.wire_profile.specs.Indexes.{ProfileView}
use Rattle.wire_profile.specs.Profiles.{IsProfile}
use Rattle.box_events.specs.declared.steps.Step.{Step}
use Rattle.update_world.specs.Shown.{Shown}
use Rattle.outside.specs.Answer.{Answer, done, refused_after, read_fault_line, write_fault_line}
use Rattle.outside.specs.declared.status.Status.{Status}
use Rattle.outside.specs.declared.status.Status.TheVariants.{ReadFault, WriteFault}
use Rattle.outside.specs.Events.{Event, HostState, opened, put}
use Rattle.outside.specs.Pieces.{ReadsFile, Takes, Tells, TakenView, Writes, after_open, full, short, broken, text_of}
use Rattle.outside.specs.Printing.{Answers, Prints}
use Rattle.outside.specs.Begun.{Did, DidIn, to_output}
use Rattle.outside.specs.Steps.{Begins}
use Rattle.outside.proofs.Growing.{did_none}
use Rattle.outside.proofs.Piecewise.{can_tell, started}
use Rattle.outside.proofs.Printed.{answers_by, can_answer}
use Rattle.update_replay.specs.Endings.{whole}
use Rattle.update_replay.specs.Handing.{HandsOut, HasMade, IsGoing}
use Rattle.update_replay.specs.Replays.{Replayed, Stopped, goes_on, nothing, seen_of}
use Rattle.update_replay.specs.declared.fault.ReplayFault.{ReplayFault}
use Rattle.update_replay.specs.declared.limits.TheConstants.{MAX_JOURNAL_BYTES, MAX_STEPS}
use Rattle.update_replay.specs.declared.machine.Replay.{Replay}
use Rattle.update_replay.proofs.Handed.{few_made}
use Rattle.update_replay.proofs.ReplayPrefixes.{stopped_first}
use Rattle.update_replay.proofs.Windows.{seen_bytes}
use Rattle.update_commands.specs.Replay.{OfJournal}
use Rattle.update_commands.specs.Replaying.{stop_line}
use Rattle.update_commands.proofs.OneReplay.{answered, each_journal, some_is}
use Rattle.update_commands.proofs.Reports.{fault_told}
use Rattle.update_commands.specs.Profile.{OfProfile}
use Rattle.update_commands.specs.ReplayWork.{after_journal, replays_by}
use Rattle.update_commands.specs.inner.Stops.{TellsStop}
use Rattle.update_commands.proofs.Parts.{HasPut, fault_printed, part_printed, put_more, refusal_printed, rest_printed}
use Rattle.update_commands.proofs.Profiling.{can_profile}

none_line : (line : List ℕ) → None ≡ Some line → ⊥
none_line line e = cc

-- ---- what is read are bytes

taken_are : (slot : Slot) (count : ℕ) (t : List Event) (taken : TakenView) (text : List ℕ) → Takes slot count t taken → Some text ≡ text_of taken → AreBytes text
taken_are slot count t (full bytes) text h is = subst AreBytes (sym (some_is text bytes is)) h.2
taken_are slot count t (short bytes) text h is = subst AreBytes (sym (some_is text bytes is)) h.2
taken_are slot count t broken text h is = absurd (none_line text (sym is))

opened_are : (slot : Slot) (limit : ℕ) (ok : Bool) (t : List Event) (text : List ℕ) → after_open slot limit ok t (Some text) → AreBytes text
opened_are slot limit true t text h = taken_are slot _ h.first h.between text h.does h.goes.1
opened_are slot limit false t text h = absurd (none_line text (sym h.1))

pub read_are : (slot : Slot) (name : List ℕ) (limit : ℕ) (t : List Event) (text : List ℕ) → ReadsFile slot name limit t (Some text) → AreBytes text
read_are slot name limit t text h = opened_are slot limit h.between h.rest text h.goes

pub did_read_are : (slot : Slot) (name : List ℕ) (limit : ℕ) (p q : HostState) (o : Option (List ℕ)) (text : List ℕ) → o ≡ Some text → Did (ReadsFile slot name limit) p q (Some o) → AreBytes text
did_read_are slot name limit p q o text is h = read_are slot name limit h.trace text (subst (λ (x : Option (List ℕ)). ReadsFile slot name limit h.trace x) is h.holds)

-- ---- that it can go on to its end

module _ (p : ProfileView) (good : IsProfile p) (n : ℕ) where
  pub each_answer : (text : List ℕ) → AreBytes text → (a : Answer) × OfJournal p n text a
  each_answer text are =
      let all = each_journal p n text good (seen_bytes text are) in
      let told = answered p n text all.0 all.1 all.2 all.3 in
      (told.0, told.1)

  pub can_go_on : (journal : List ℕ) (t : List Event) (text : Option (List ℕ)) → ReadsFile Input journal MAX_JOURNAL_BYTES t text → Begins (after_journal n p text) []
  can_go_on journal t (Some text) h = let a = each_answer text (read_are Input journal MAX_JOURNAL_BYTES t text h) in can_answer (OfJournal p n text) a.0 a.1
  can_go_on journal t None h = can_tell _ _

-- the journal may be missing
pub can_replay_by : (journal : List ℕ) (n : ℕ) (p : ProfileView) → Begins (replays_by journal n p) []
can_replay_by journal n p =
    let m = can_tell read_fault_line ReadFault in
    record {
      rest = opened Input journal false ∷ m.rest;
      answer = m.answer;
      whole = record {
        first = opened Input journal false ∷ [];
        rest = m.rest;
        between = None;
        splits = refl;
        does = record { first = opened Input journal false ∷ []; rest = []; between = false; splits = refl; does = refl; goes = (refl, refl) };
        goes = m.whole;
      };
    }

pub can_replay : (journal : List ℕ) (n : ℕ) (schema : Declared) → IsSchema schema → Begins (OfProfile (replays_by journal n) schema) []
can_replay journal n schema good = can_profile (replays_by journal n) schema good (λ p is. can_replay_by journal n p)

-- ---- between two steps

-- some steps were made, and their lines written
pub record Writing (p : ProfileView) (n : ℕ) (journal : List ℕ) (u : Shown) (r : Replay) (x y : HostState) : Type 0 where
  pub steps : List Step
  pub output : List ℕ
  pub made : HasMade p n journal steps output u r
  pub wrote : HasPut output x y

module _ (p : ProfileView) (n : ℕ) (journal : List ℕ) where
  pub writes_none : (u : Shown) (r : Replay) (x : HostState) → HasMade p n journal [] [] u r → Writing p n journal u r x x
  writes_none u r x h = record { steps = []; output = []; made = h; wrote = started (put Output) x }

  module _ (u : Shown) (r : Replay) (x y : HostState) (w : Writing p n journal u r x y) where
    pub goes : IsGoing u r
    goes = (p, n, journal, w.steps, w.output, w.made)

    pub writes_more : (v : Shown) (new : Replay) (z : HostState) (lines : List ℕ) → HandsOut p n journal w.steps r.rest.now w.output v new (Ok true) → lines ≡ new.lines.items → Did (Writes Output lines) y z (Some true) → Writing p n journal v new x z
    writes_more v new z lines (s, made, comes) is h = record {
      steps = w.steps ++ s ∷ [];
      output = w.output ++ new.lines.items;
      made = made;
      wrote = subst (λ (l : List ℕ). HasPut (w.output ++ l) x z) is (put_more x y w.output w.wrote z lines h);
    }

    pub fewer : (v : Shown) (new : Replay) → HandsOut p n journal w.steps r.rest.now w.output v new (Ok true) → MAX_STEPS - new.steps < MAX_STEPS - r.steps
    fewer v new (s, made, comes) =
        let most = few_made p n (seen_of journal) (w.steps ++ s ∷ []) new.at new.rest.now (w.output ++ new.lines.items) made.began in
        omega (arith, most, made.number, (w.made).number, length-append w.steps (s ∷ []))

    pub ends : (v : Shown) (new : Replay) (z : HostState) (lines : List ℕ) (status : Status) → HandsOut p n journal w.steps r.rest.now w.output v new (Ok false) → lines ≡ new.lines.items → Did (Prints (done lines)) y z (Some status) → DidIn to_output (Answers (OfJournal p n journal)) x z (Some status)
    ends v new z lines status (made, replayed, comes) is h =
        answers_by (OfJournal p n journal) (done (w.output ++ lines)) x z (Some status) (record { steps = w.steps; output = w.output ++ lines; ending = whole (length w.steps); replayed = subst (λ (l : List ℕ). Replayed p n journal w.steps (w.output ++ l) (whole (length w.steps))) (sym is) replayed; answered = refl })
        (rest_printed x y w.output w.wrote z lines status h)

-- ---- what stops it

module _ (p : ProfileView) (good : IsProfile p) (n : ℕ) (journal : List ℕ) (are : AreBytes (seen_of journal)) where
  -- the journal's answer begins with what was handed out
  begins_answer : (ss : List Step) (output : List ℕ) (u : Shown) (r : Replay) → HasMade p n journal ss output u r → (a : Answer) × OfJournal p n journal a × (more : List ℕ) × (output ++ more ≡ a.output)
  begins_answer ss output u r h =
      let all = each_journal p n journal good are in
      let told = answered p n journal all.0 all.1 all.2 all.3 in
      let stopped : Stopped p n (seen_of journal) (goes_on journal) output = record { steps = ss; at = r.at; left = r.rest.now; lines = output; next = []; prefix = []; rest = []; began = h.began; comes = nothing; split = refl; written = sym (append-nil output) } in
      let first = stopped_first p good n (seen_of journal) are (goes_on journal) all.0 all.1 all.2 all.3 output stopped in
      (told.0, told.1, first.0, first.1 ∙ sym told.2)

  module _ (u : Shown) (r : Replay) (x y : HostState) (w : Writing p n journal u r x y) where
    -- a write of a step's lines failed
    pub write_failed : (v : Shown) (new : Replay) (z t : HostState) (lines : List ℕ) (status : Status) → HandsOut p n journal w.steps r.rest.now w.output v new (Ok true) → lines ≡ new.lines.items → Did (Writes Output lines) y z (Some false) → Did (Tells write_fault_line WriteFault) z t (Some status) → DidIn to_output (Answers (OfJournal p n journal)) x t (Some status)
    write_failed v new z t lines status (s, made, comes) is h told =
        let a = begins_answer (w.steps ++ s ∷ []) (w.output ++ new.lines.items) v new made in
        answers_by (OfJournal p n journal) a.0 x t (Some status) a.1 (fault_printed x y w.output w.wrote a.0 z t lines a.2 status (ap (λ (l : List ℕ). (w.output ++ l) ++ a.2) is ∙ a.3) h told)

    -- the refusal's answer
    refusal_answer : (v : Shown) (new : Replay) (f : ReplayFault) (line : List ℕ) → HandsOut p n journal w.steps r.rest.now w.output v new (Err f) → stop_line f ≡ Some line → OfJournal p n journal (refused_after w.output line)
    refusal_answer v new f line (none_put, inl is) tells = absurd (none_line line (sym (ap stop_line is) ∙ tells))
    refusal_answer v new f line (none_put, inr (ending, replayed, is, stands)) tells = record { steps = w.steps; output = w.output; ending = ending; replayed = replayed; answered = fault_told w.output ending f line (sym is) tells }

    -- it stopped, which was told, or for which there was no memory
    pub stops : (v : Shown) (new : Replay) (z : HostState) (f : ReplayFault) (answer : Option Status) → HandsOut p n journal w.steps r.rest.now w.output v new (Err f) → TellsStop f y z answer → DidIn to_output (Answers (OfJournal p n journal)) x z answer
    stops v new z f (Some status) handed (line, tells, h) = answers_by (OfJournal p n journal) (refused_after w.output line) x z (Some status) (refusal_answer v new f line handed tells) (refusal_printed x y w.output w.wrote z line status h)
    stops v new z f None handed same =
        let a = begins_answer w.steps w.output u r w.made in
        subst (λ (s : HostState). DidIn to_output (Answers (OfJournal p n journal)) x s None) (sym same) (answers_by (OfJournal p n journal) a.0 x y None a.1 (part_printed x y w.output w.wrote a.0 a.2 a.3))

  -- there was no memory to begin
  pub not_begun : (x : HostState) → DidIn to_output (Answers (OfJournal p n journal)) x x None
  not_begun x =
      let all = each_journal p n journal good are in
      let told = answered p n journal all.0 all.1 all.2 all.3 in
      did_none _ x (can_answer (OfJournal p n journal) told.0 told.1)
