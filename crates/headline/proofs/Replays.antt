-- What a replay of a journal's bytes reports.
use Rattle.std.proofs.Common.{◌≡◌, ℕ, ◌≤◌, List, [], ◌∷◌, ◌++◌, append-nil, append_assoc, length, length-append, take, drop, take-append-drop, length-drop, Bool, true, false, cond, ◌&&◌, Some, refl, sym, ap, ◌∙◌, subst, arith, codes}
use Rattle.std.proofs.lemmas.Bool.Decides.{nat_tests}
use Rattle.tl_base.specs.Contents.{Files}
use Rattle.tl_base.specs.Outside.{HasFile}
use Rattle.tl_schema.specs.Schemas.{Declared}
use Rattle.box_events.specs.declared.steps.Step.{Step}
use Rattle.wire_profile.specs.Indexes.{ProfileView}
use Rattle.box_world.specs.NumberWorlds.{n_run}
use Rattle.box_world.specs.Possible.{AllPossible}
use Rattle.box_world.specs.Worlds.{start}
use Rattle.box_world.proofs.OneMore.{clients_stay, possible_go_on}
use Rattle.wire_profile.specs.declared.wire_fault.WireFault.{WireFault}
use Rattle.update_replay.specs.Closings.{closing_lines}
use Rattle.update_replay.specs.StepLines.{StepLines}
use Rattle.update_replay.proofs.OwnLines.{closings_are_own}
use Rattle.update_world.specs.Spelled.{IsSpelled, packet_size}
use Rattle.update_replay.specs.Endings.{Ending, is_cut_short, no_step, not_made, of_refusal, too_long, whole}
use Rattle.update_replay.specs.Replays.{Began, BeginsStep, Replayed, StepFollows, at_its_end, goes_on, no_step_follows, none, not_possible, one_more, one_too_many, seen_of}
use Rattle.update_replay.specs.declared.limits.TheConstants.{MAX_JOURNAL_BYTES, MAX_STEPS}
use Rattle.outside.specs.Answer.{Answer, done}
use Rattle.outside.specs.declared.status.Status.TheVariants.{Refused}
use Rattle.outside.proofs.SameFiles.{same_file}
use Rattle.schema_files.specs.Answering.{OfSchemaText, no_schema as no_schema_text, schema_of}
use Rattle.schema_files.specs.Loaded.{IsSchemaText}
use Rattle.fault_lines.specs.Profiled.{IsProfileText, OfProfile, no_profile as no_profile_of, profiled}
use Rattle.update_commands.specs.Replay.{OfJournalFile, ReplayAnswer, ending_answer}
use Rattle.headline.specs.Replay.{Refuses, no_journal, no_profile, no_schema}
use Rattle.headline.specs.Reports.{AreBytesOf, AreLinesOf, Reports}
use Rattle.headline.proofs.Finished.{finished_channels_reach, finished_reach}
use Rattle.headline.proofs.Forward.{runs_are_whole}
use Rattle.headline.proofs.Held.{runs_have_boxes}

-- ---- one more step

bytes_more : (p : ProfileView) (ss : List Step) (s : Step) (bytes left x rest : List ℕ) → AreBytesOf p ss bytes → BeginsStep p left s x rest → AreBytesOf p (ss ++ s ∷ []) (bytes ++ x)
bytes_more p [] s bytes left x rest are b = (x, [], ap (λ (l : List ℕ). l ++ x) are ∙ sym (append-nil x), b.means, refl)
bytes_more p (t ∷ ss) s bytes left x rest (y, more, is, means, are) b = (y, more ++ x, ap (λ (l : List ℕ). l ++ x) is ∙ append_assoc y more x, means, bytes_more p ss s more left x rest are b)

lines_more : (p : ProfileView) (n : ℕ) (before ss : List Step) (s : Step) (lines more : List ℕ) → AreLinesOf p n before ss lines → StepLines (IsSpelled p) (length (before ++ ss)) (n_run n (before ++ ss)) s more
    → AreLinesOf p n before (ss ++ s ∷ []) (lines ++ more)
lines_more p n before [] s lines more are told =
    (more, [], ap (λ (l : List ℕ). l ++ more) are ∙ sym (append-nil more), subst (λ (l : List Step). StepLines (IsSpelled p) (length l) (n_run n l) s more) (append-nil before) told, refl)
lines_more p n before (t ∷ ss) s lines more (first, rest, is, tells, are) told = (
  first,
  rest ++ more,
  ap (λ (l : List ℕ). l ++ more) is ∙ append_assoc first rest more,
  tells,
  lines_more p n (before ++ t ∷ []) ss s rest more are (subst (λ (l : List Step). StepLines (IsSpelled p) (length l) (n_run n l) s more) (sym (append_assoc before (t ∷ []) ss)) told),
)

-- what the steps are with which bytes begin
record Begun (p : ProfileView) (n : ℕ) (seen : List ℕ) (ss : List Step) (left lines : List ℕ) : Type 0 where
  pub taken : List ℕ
  pub parts : seen ≡ taken ++ left
  pub bytes : AreBytesOf p ss taken
  pub possible : AllPossible packet_size (start n) ss
  pub told : AreLinesOf p n [] ss lines
  pub few : length ss ≤ MAX_STEPS

begun_more : (p : ProfileView) (n : ℕ) (seen : List ℕ) (ss : List Step) (left lines : List ℕ) (s : Step) (x rest more : List ℕ) → Begun p n seen ss left lines → StepFollows p n ss left s x rest more → Begun p n seen (ss ++ s ∷ []) rest (lines ++ more)
begun_more p n seen ss left lines s x rest more b f = record {
  taken = b.taken ++ x;
  parts = b.parts ∙ ap (λ (l : List ℕ). b.taken ++ l) f.begins.parts ∙ sym (append_assoc b.taken x rest);
  bytes = bytes_more p ss s b.taken left x rest b.bytes f.begins;
  possible = possible_go_on packet_size n ss s b.possible f.possible;
  told = lines_more p n [] ss s lines more b.told f.told;
  few = (let low = f.few in omega (arith, low, length-append ss (s ∷ [])));
}

begun : (p : ProfileView) (n : ℕ) (seen : List ℕ) (ss : List Step) (at : ℕ) (left lines : List ℕ) → Began p n seen ss at left lines → Begun p n seen ss left lines
begun p n seen _ _ _ _ none = record { taken = []; parts = refl; bytes = refl; possible = tt; told = refl; few = omega arith }
begun p n seen _ _ _ _ (one_more ss at left lines s x rest more b f) = begun_more p n seen ss left lines s x rest more (begun p n seen ss at left lines b) f

-- ---- the end

no_items : (xs : List ℕ) → length xs ≡ 0 → xs ≡ []
no_items [] e = refl
no_items (x ∷ xs) e = absurd (omega (arith, e))

seen_all : (journal : List ℕ) → goes_on journal ≡ false → (seen_of journal ≡ journal) × (length journal ≤ MAX_JOURNAL_BYTES)
unfolding seen_of goes_on
seen_all journal e =
    let le : length journal ≤ MAX_JOURNAL_BYTES = grind (arith, nat_tests) in
    let rest : length (drop MAX_JOURNAL_BYTES journal) ≡ 0 = omega (arith, le, length-drop MAX_JOURNAL_BYTES journal) in
    (sym (append-nil (take MAX_JOURNAL_BYTES journal)) ∙ ap (λ (l : List ℕ). take MAX_JOURNAL_BYTES journal ++ l) (sym (no_items (drop MAX_JOURNAL_BYTES journal) rest)) ∙ take-append-drop MAX_JOURNAL_BYTES journal, le)

reports_of : (p : ProfileView) (n : ℕ) (journal text lines : List ℕ) (ss : List Step) → Begun p n (seen_of journal) ss [] lines → goes_on journal ≡ false → text ≡ lines ++ closing_lines (n_run n ss) → Reports p n journal text
reports_of p n journal text lines ss b ends is =
    let all = seen_all journal ends in
    let whole_is : b.taken ≡ journal = sym (append-nil b.taken) ∙ sym b.parts ∙ all.0 in
    record {
      steps = ss;
      lines = lines;
      bytes = subst (AreBytesOf p ss) whole_is b.bytes;
      limits = (all.1, b.few);
      possible = b.possible;
      told = b.told;
      is = is ∙ ap (λ (l : List ℕ). lines ++ l) (closings_are_own n ss);
      clients = clients_stay n ss;
      boxes = runs_have_boxes n ss;
      whole = runs_are_whole n ss;
      finished = finished_reach n ss;
      channels_finished = finished_channels_reach n ss;
    }

-- ---- an answer

-- what is answered over the outside
pub data Answered (schema journal : List ℕ) (n : ℕ) (a : Answer) : Type 0 where
  reported : (p : ProfileView) (text : List ℕ) → IsProfileText schema p → Reports p n journal text → a ≡ done text → Answered schema journal n a
  refused_so : Refuses schema journal n a → a.status ≡ Refused → Answered schema journal n a

some_is : (a b : Answer) → Some a ≡ Some b → b ≡ a
some_is a b e = let same : a ≡ b = cc in sym same

of_ending : (schema journal : List ℕ) (n : ℕ) (a : Answer) (p : ProfileView) (ss : List Step) (output : List ℕ) (ending : Ending) → IsProfileText schema p → Replayed p n journal ss output ending → ending_answer output ending ≡ Some a
    → ((k : ℕ) → ending ≡ whole k → Reports p n journal output) → Answered schema journal n a
of_ending schema journal n a p ss output (whole k) text r e reports = reported p output text (reports k refl) (some_is (done output) a e)
of_ending schema journal n a p ss output (no_step at fault) text r e reports = refused_so (no_journal p ss output (no_step at fault) text r tt e) (ap (λ (x : Answer). x.status) (some_is _ a e))
of_ending schema journal n a p ss output (not_made at cause) text r e reports = refused_so (no_journal p ss output (not_made at cause) text r tt e) (ap (λ (x : Answer). x.status) (some_is _ a e))
of_ending schema journal n a p ss output (too_long at) text r e reports = refused_so (no_journal p ss output (too_long at) text r tt e) (ap (λ (x : Answer). x.status) (some_is _ a e))

refusal_by : (b : Bool) (at k : ℕ) (fault : WireFault) → cond b (too_long at) (no_step at fault) ≡ whole k → ⊥
refusal_by true at k fault e = absurd cc
refusal_by false at k fault e = absurd cc

refusal_is : (more : Bool) (at k : ℕ) (fault : WireFault) → of_refusal more at fault ≡ whole k → ⊥
refusal_is more at k fault e = refusal_by (more && is_cut_short fault) at k fault e

whole_is : (p : ProfileView) (n : ℕ) (journal output : List ℕ) (ss : List Step) (ending : Ending) → Replayed p n journal ss output ending → (k : ℕ) → ending ≡ whole k → Reports p n journal output
whole_is p n journal output ss ending (no_step_follows at left fault b f is) k e = absurd (refusal_is (goes_on journal) at k fault (sym is ∙ e))
whole_is p n journal output ss ending (one_too_many at left s x rest b f many is) k e = absurd (let w : too_long at ≡ whole k = sym is ∙ e in cc)
whole_is p n journal output ss ending (not_possible at left s x rest cause b f few why is) k e = absurd (let w : not_made at cause ≡ whole k = sym is ∙ e in cc)
whole_is p n journal output ss ending (at_its_end at lines b ends is told) k e = reports_of p n journal output lines ss (begun p n (seen_of journal) ss at [] lines b) ends is

of_journal : (files : Files) (journal_name schema journal : List ℕ) (n : ℕ) (a : Answer) (p : ProfileView) → IsProfileText schema p → HasFile files journal_name journal → OfJournalFile files journal_name n p a → Answered schema journal n a
of_journal files journal_name schema journal n a p text holds (bytes, there, o) =
    let same : bytes ≡ journal = same_file files journal_name bytes journal there holds in
    let r : Replayed p n journal o.steps o.output o.ending = subst (λ (b : List ℕ). Replayed p n b o.steps o.output o.ending) same o.replayed in
    of_ending schema journal n a p o.steps o.output o.ending text r o.answered (whole_is p n journal o.output o.steps o.ending r)

of_profile : (files : Files) (journal_name schema journal : List ℕ) (n : ℕ) (a : Answer) (S : Declared) → IsSchemaText schema S → HasFile files journal_name journal → OfProfile (OfJournalFile files journal_name n) S a → Answered schema journal n a
of_profile files journal_name schema journal n a S read holds (no_profile_of fault answers is) = refused_so (no_profile S fault read answers is) (ap (λ (x : Answer). x.status) is)
of_profile files journal_name schema journal n a S read holds (profiled p answers told) = of_journal files journal_name schema journal n a p (record { schema = S; read = read; is = answers }) holds told

of_text : (files : Files) (journal_name schema journal : List ℕ) (n : ℕ) (a : Answer) → HasFile files journal_name journal → OfSchemaText (codes "schema") (OfProfile (OfJournalFile files journal_name n)) schema a → Answered schema journal n a
of_text files journal_name schema journal n a holds (no_schema_text cause refuses is) = refused_so (no_schema cause refuses is) (ap (λ (x : Answer). x.status) is)
of_text files journal_name schema journal n a holds (schema_of S read told) = of_profile files journal_name schema journal n a S read holds told

-- what `replay` answers over files that hold these texts
pub answered_so : (files : Files) (schema_name journal_name schema journal : List ℕ) (n : ℕ) (a : Answer) → HasFile files schema_name schema → HasFile files journal_name journal → ReplayAnswer files schema_name journal_name n a → Answered schema journal n a
answered_so files schema_name journal_name schema journal n a has holds (text, there, told) =
    let same : text ≡ schema = same_file files schema_name text schema there has in
    of_text files journal_name schema journal n a holds (subst (λ (t : List ℕ). OfSchemaText (codes "schema") (OfProfile (OfJournalFile files journal_name n)) t a) same told)
