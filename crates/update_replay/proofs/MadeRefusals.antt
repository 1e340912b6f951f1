-- Which step of a made run isn't possible.
use Rattle.std.proofs.Common.{◌≡◌, ℕ, zero, suc, ◌+◌, ◌*◌, ◌≤◌, List, [], ◌∷◌, ◌++◌, Option, Some, None, refl, sym, ap, ap₂, ◌∙◌, subst, arith}
use Rattle.std.specs.Prelude.{Result, Ok, Err}
use Rattle.std.proofs.lemmas.Option.{none-some, same_Some}
use Rattle.box_events.specs.declared.steps.Step.{Step}
use Rattle.box_server.proofs.Carrying.{changed_overlays}
use Rattle.box_world.specs.NumberWorlds.{NumberWorld, n_happens, n_run, numbers_of}
use Rattle.box_world.specs.declared.fault.StepFault.{StepFault}
use Rattle.box_world.specs.declared.fault.StepFault.TheVariants.{NoClient, NoPacket, PoolFull, WrongEnd}
use Rattle.box_world.specs.Possible.{refusal}
use Rattle.box_world.specs.Worlds.{World, happens, run, run_from, start}
use Rattle.box_world.proofs.NumberWorlds.{numbers_follow}
use Rattle.box_world.proofs.OneMore.{clients_stay, runs_go_on}
use Rattle.box_world.specs.Sizes.{step_size}
use Rattle.update_replay.specs.Laws.{IsPoolFull}
use Rattle.update_replay.specs.Made.{made_from, made_step, made_steps}
use Rattle.update_replay.specs.Summaries.{summary}
use Rattle.update_replay.proofs.DrawLaws.{made_steps_are_refused_by_bytes}
use Rattle.update_replay.proofs.NextNumbers.{steps_are_of_runs}
use Rattle.update_world.specs.Spelled.{packet_size}
use Rattle.update_replay.specs.MadeLaws.{EachIsMade, IsAnswer, MadeOffsetsAreLow, OneIsMade}
use Rattle.update_replay.specs.MadeRuns.{MakesRun, Refusal, first_refused, made_refusal, refused_or}
use Rattle.update_replay.specs.declared.made_fault.MadeFault.{MadeFault}
use Rattle.update_replay.specs.declared.made_fault.MadeFault.TheVariants.{PoolFull, Memory}
use Rattle.update_replay.proofs.MadeSizes.{made_short, sizes}

-- ---- after possible steps

or_none : (cause : Option StepFault) (at : ℕ) (later : Option Refusal) → refused_or cause at later ≡ None → (cause ≡ None) × (later ≡ None)
or_none None at later e = (refl, e)
or_none (Some cause) at later e = absurd (none-some (record { at = at; cause = cause }) (sym e))

grouped : (a b c : ℕ) → a + b + c ≡ a + (b + c)
grouped a b c = omega arith

pub past_possible : (w : World) (at : ℕ) (xs ys : List Step) → first_refused w at xs ≡ None → first_refused w at (xs ++ ys) ≡ first_refused (run_from w xs) (at + sizes xs) ys
past_possible w at [] ys e = let same : at ≡ at + 0 = omega arith in ap (λ (n : ℕ). first_refused w n ys) same
past_possible w at (x ∷ xs) ys e =
    let next = at + step_size x in
    let parts = or_none (refusal packet_size w x) at (first_refused (happens w x) next xs) e in
    ap (λ (c : Option StepFault). refused_or c at (first_refused (happens w x) next (xs ++ ys))) parts.0
    ∙ past_possible (happens w x) next xs ys parts.1
    ∙ ap (λ (n : ℕ). first_refused (run_from (happens w x) xs) n ys) (grouped at (step_size x) (sizes xs))

-- ---- no made step is refused but for the pool's bytes

abbrev Full : ℕ → Refusal → Type 0
Full most r = IsPoolFull r.cause × (r.at ≤ most)

by_first : (P : Refusal → Type 0) (cause : Option StepFault) (at : ℕ) (later : Option Refusal) (r : Refusal) → ((c : StepFault) → cause ≡ Some c → P (record { at = at; cause = c })) → (later ≡ Some r → P r) → refused_or cause at later ≡ Some r → P r
by_first P None at later r here there e = there e
by_first P (Some c) at later r here there e = subst P (same_Some (record { at = at; cause = c }) r e) (here c refl)

further : (at a count m : ℕ) (r : Refusal) → a ≤ 48 → m ≡ suc count → Full (at + a + 48 * count) r → Full (at + 48 * m) r
further at a count m r few e f = (f.0, omega (arith, few, e, f.1))

full_from : (count : ℕ) (done : List Step) (at n x : ℕ) (r : Refusal) → first_refused (run 2 done) at (made_from count (numbers_of (run 2 done)) n x) ≡ Some r → Full (at + 48 * count) r
full_from zero done at n x r e = absurd (none-some r e)
full_from (suc count) done at n x r e =
    let w = run 2 done in
    let s = made_step (numbers_of w) n x in
    let next = at + step_size s.it in
    let goes_on : first_refused (run 2 (done ++ s.it ∷ [])) next (made_from count (numbers_of (run 2 (done ++ s.it ∷ []))) (n + 1) s.x) ≡ first_refused (happens w s.it) next (made_from count (n_happens (numbers_of w) s.it) (n + 1) s.x) =
    ap₂ (λ (v : World) (m : NumberWorld). first_refused v next (made_from count m (n + 1) s.x)) (runs_go_on 2 done s.it) (sym (steps_are_of_runs 2 done s.it)) in
    by_first (Full (at + 48 * suc count)) (refusal packet_size w s.it) at (first_refused (happens w s.it) next (made_from count (n_happens (numbers_of w) s.it) (n + 1) s.x)) r
    (λ c is. (made_steps_are_refused_by_bytes packet_size w n x c (clients_stay 2 done) is, omega arith))
    (λ later. further at (step_size s.it) count (suc count) r (made_short (numbers_of w) n x) refl (full_from count (done ++ s.it ∷ []) next (n + 1) s.x r (goes_on ∙ later)))
    e

full : (number count : ℕ) (r : Refusal) → made_refusal number count ≡ Some r → Full (0 + 48 * count) r
full number count r e = full_from count [] 0 0 number r (ap (λ (m : NumberWorld). first_refused (start 2) 0 (made_from count m 0 number)) (numbers_follow changed_overlays 2 []) ∙ e)

pub made_offsets_are_low : MadeOffsetsAreLow
made_offsets_are_low number count r e = let f = full number count r e in omega (arith, f.1)

-- ---- each run has an answer, and one

of_cause : (number count at : ℕ) (cause : StepFault) → IsPoolFull cause → made_refusal number count ≡ Some (record { at = at; cause = cause }) → (answer : Result (List ℕ) MadeFault) × IsAnswer answer × MakesRun number count answer
of_cause number count at (NoClient n) is e = absurd is
of_cause number count at (NoPacket n) is e = absurd is
of_cause number count at (WrongEnd n) is e = absurd is
of_cause number count at (PoolFull bytes) is e = (Err (PoolFull at bytes), tt, e)

of_refusal : (number count : ℕ) (o : Option Refusal) → made_refusal number count ≡ o → (answer : Result (List ℕ) MadeFault) × IsAnswer answer × MakesRun number count answer
of_refusal number count None e = (Ok (summary packet_size count (n_run 2 (made_steps number count))), tt, (e, refl))
of_refusal number count (Some r) e = of_cause number count r.at r.cause (full number count r e).0 e

pub each_is_made : EachIsMade
each_is_made number count = of_refusal number count (made_refusal number count) refl

abbrev bytes_in_cause : StepFault → ℕ
bytes_in_cause (NoClient n) = n
bytes_in_cause (NoPacket n) = n
bytes_in_cause (WrongEnd n) = n
bytes_in_cause (PoolFull n) = n

pub one_is_made : OneIsMade
one_is_made number count (Ok s) (Ok t) a b p q = ap (λ (text : List ℕ). Ok text) (p.1 ∙ sym q.1)
one_is_made number count (Ok s) (Err (PoolFull at bytes)) a b p q = absurd (none-some (record { at = at; cause = PoolFull bytes }) (sym p.0 ∙ q))
one_is_made number count (Ok s) (Err Memory) a b p q = absurd b
one_is_made number count (Err (PoolFull at bytes)) (Ok t) a b p q = absurd (none-some (record { at = at; cause = PoolFull bytes }) (sym q.0 ∙ p))
one_is_made number count (Err (PoolFull at bytes)) (Err (PoolFull place more)) a b p q =
    let same : record { at = at; cause = PoolFull bytes } ≡ record { at = place; cause = PoolFull more } = same_Some (record { at = at; cause = PoolFull bytes }) (record { at = place; cause = PoolFull more }) (sym p ∙ q) in
    ap (λ (r : Refusal). Err (PoolFull r.at (bytes_in_cause r.cause))) same
one_is_made number count (Err (PoolFull at bytes)) (Err Memory) a b p q = absurd b
one_is_made number count (Err Memory) t a b p q = absurd a
