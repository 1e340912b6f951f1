-- What a replay wrote before it stopped is a prefix of what the replay of the journal writes.
use Rattle.std.proofs.Common.{◌≡◌, ℕ, List, [], ◌++◌, append_assoc, append-nil, length, Bool, false, sym, ap, ◌∙◌}
use Rattle.tl_numbers.specs.Bytes.{AreBytes}
use Rattle.box_events.specs.declared.steps.Step.{Step}
use Rattle.wire_profile.specs.Indexes.{ProfileView}
use Rattle.wire_profile.specs.Profiles.{IsProfile}
use Rattle.box_world.specs.NumberWorlds.{n_run}
use Rattle.update_replay.specs.Closings.{closing_lines}
use Rattle.update_replay.specs.Endings.{Ending}
use Rattle.update_replay.specs.Replays.{Began, one_more, Next, nothing, a_step, the_end, Stopped, Replays}
use Rattle.update_replay.proofs.JournalSteps.{none_begins}
use Rattle.update_replay.proofs.OneReplay.{left_bytes, runs_once, front_of, no_longer, stuck_once, Stop, by_bytes, by_count, by_cause, by_end, made_of, stuck, not_ended}

-- a prefix of what comes next goes on with the rest of it
joined : (lines front rest next more output : List ℕ) → front ++ rest ≡ next → (lines ++ next) ++ more ≡ output → (lines ++ front) ++ (rest ++ more) ≡ output
joined lines front rest next more output split whole = sym (append_assoc (lines ++ front) rest more) ∙ (ap (λ (z : List ℕ). z ++ more) (append_assoc lines front rest ∙ ap (λ (z : List ℕ). lines ++ z) split) ∙ whole)

module _ (p : ProfileView) (good : IsProfile p) (n : ℕ) (seen : List ℕ) (are : AreBytes seen) (more : Bool) (os : List Step) (output : List ℕ) (ending : Ending) (replays : Replays p n seen more os output ending) where
  lines_first : (ss : List Step) (at : ℕ) (left lines : List ℕ) → Stop p n more ss at left lines output ending → (rest : List ℕ) × (lines ++ rest ≡ output)
  lines_first ss at left lines (by_bytes fault h told is) = ([], append-nil lines ∙ sym told)
  lines_first ss at left lines (by_count s x rest b many told is) = ([], append-nil lines ∙ sym told)
  lines_first ss at left lines (by_cause s x rest cause b few refused told is) = ([], append-nil lines ∙ sym told)
  lines_first ss at left lines (by_end none stays told is) = (closing_lines (n_run n ss), sym told)

  -- a run that comes to the journal's end is followed by the closing lines alone
  closes : (ss : List Step) (at : ℕ) (left lines : List ℕ) → left ≡ [] → more ≡ false → Stop p n more ss at left lines output ending → output ≡ lines ++ closing_lines (n_run n ss)
  closes ss at left lines none stays (by_bytes fault h told is) = absurd (not_ended p more left fault none stays h)
  closes ss at left lines none stays (by_count s x rest b many told is) = absurd (none_begins p left s x rest none b)
  closes ss at left lines none stays (by_cause s x rest cause b few refused told is) = absurd (none_begins p left s x rest none b)
  closes ss at left lines none stays (by_end gone kept told is) = told

  began_first : (ss : List Step) (at : ℕ) (left lines : List ℕ) → Began p n seen ss at left lines → (rest : List ℕ) × (lines ++ rest ≡ output)
  began_first ss at left lines began =
      let m = made_of p n seen more os output ending replays in
      let bytes = left_bytes p good n seen are os m.at m.left m.lines m.began in
      let less = no_longer p good n seen are os ss m.at at m.left left m.lines lines m.began began (stuck p good n seen are more os m.at m.left m.lines output ending bytes m.stop) in
      let f = front_of p good n seen are os m.at m.left m.lines m.began (length ss) less in
      let same = runs_once p good n seen are f.steps ss f.at at f.left left f.lines lines f.began began f.long in
      let all = lines_first os m.at m.left m.lines m.stop in
      (f.behind ++ all.0, sym (append_assoc lines f.behind all.0) ∙ (ap (λ (z : List ℕ). (z ++ f.behind) ++ all.0) (sym same.3) ∙ (ap (λ (z : List ℕ). z ++ all.0) f.split ∙ all.1)))

  ended_first : (ss : List Step) (at : ℕ) (left lines : List ℕ) → Began p n seen ss at left lines → left ≡ [] → more ≡ false → lines ++ closing_lines (n_run n ss) ≡ output
  ended_first ss at left lines began none stays =
      let m = made_of p n seen more os output ending replays in
      let bytes = left_bytes p good n seen are os m.at m.left m.lines m.began in
      let same = stuck_once p good n seen are ss os at m.at left m.left lines m.lines began m.began (λ g. none_begins p left g.step g.x g.rest none (g.follows).begins) (stuck p good n seen are more os m.at m.left m.lines output ending bytes m.stop) in
      (λ i. same.3 i ++ closing_lines (n_run n (same.0 i))) ∙ sym (closes os m.at m.left m.lines (sym same.2 ∙ none) stays m.stop)

  -- and so they are with what comes next
  pub next_first : (ss : List Step) (at : ℕ) (left lines next : List ℕ) → Began p n seen ss at left lines → Next p n more ss left next → (rest : List ℕ) × ((lines ++ next) ++ rest ≡ output)
  next_first ss at left lines next began nothing =
      let f = began_first ss at left lines began in
      (f.0, ap (λ (z : List ℕ). z ++ f.0) (append-nil lines) ∙ f.1)
  next_first ss at left lines next began (a_step s x rest told follows) = began_first _ _ rest _ (one_more ss at left lines s x rest told began follows)
  next_first ss at left lines next began (the_end none stays) = ([], append-nil _ ∙ ended_first ss at left lines began none stays)

  pub stopped_first : (part : List ℕ) → Stopped p n seen more part → (rest : List ℕ) × (part ++ rest ≡ output)
  stopped_first part s =
      let f = next_first s.steps s.at s.left s.lines s.next s.began s.comes in
      (s.rest ++ f.0, ap (λ (z : List ℕ). z ++ (s.rest ++ f.0)) s.written ∙ joined s.lines s.prefix s.rest s.next f.0 output s.split f.1)
