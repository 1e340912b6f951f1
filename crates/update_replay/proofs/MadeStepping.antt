-- One step of a made run, and then all.
use Rattle.std.proofs.Common.{◌≡◌, ℕ, ◌+◌, ◌-◌, ◌*◌, ◌<◌, ◌≤◌, List, [], ◌∷◌, ◌++◌, length, Option, Some, None, refl, sym, ap, ap₂, ◌∙◌, subst, arith}
use Rattle.std.specs.Prelude.{⊤, Result, Ok, Err, IsErrAnd}
use Rattle.box_client.specs.States.{ClientState}
use Rattle.box_events.specs.declared.steps.Step.{Step}
use Rattle.box_server.specs.Servers.{ServerState, new_server}
use Rattle.box_server.proofs.Carrying.{changed_overlays}
use Rattle.wire_profile.specs.Indexes.{ProfileView}
use Rattle.wire_profile.specs.Profiles.{IsProfile}
use Rattle.wire_values.specs.Steps.{step_in, step_tree}
use Rattle.box_wire.specs.Framing.{Framed}
use Rattle.box_wire.specs.Kinds.{steps}
use Rattle.box_wire.proofs.StepLaws.{step_laws}
use Rattle.box_world.specs.NumberWorlds.{NumberWorld, n_run, numbers_of}
use Rattle.box_world.specs.declared.fault.StepFault.TheVariants.{NoClient, NoPacket, PoolFull, WrongEnd}
use Rattle.box_world.specs.Possible.{refusal}
use Rattle.box_world.specs.Worlds.{World, happens, new_clients, run, start}
use Rattle.box_world.proofs.NumberWorlds.{numbers_follow}
use Rattle.box_world.proofs.OneMore.{runs_go_on}
use Rattle.box_world.specs.SizeLaws.{SpelledHaveTheirSize}
use Rattle.box_world.specs.Sizes.{step_size}
use Rattle.box_world.proofs.MessageForms.{step_has}
use Rattle.box_world.proofs.SpelledMessages.{of_their_size}
use Rattle.update_replay.specs.Laws.{IsPoolFull}
use Rattle.update_replay.specs.Made.{Chosen, made_step, made_steps}
use Rattle.update_replay.proofs.Dates.{made_dates_stay_below}
use Rattle.update_replay.proofs.DrawLaws.{made_steps_are_refused_by_bytes}
use Rattle.box_world.specs.declared.fault.StepFault.{StepFault}
use Rattle.box_world.specs.declared.fault.StepFault.TheVariants as step_fault
use Rattle.tl_base.specs.declared.fault.Fault.TheVariants.{Refused}
use Rattle.update_world.specs.declared.outcome.Outcome.{Outcome}
use Rattle.update_world.specs.Shown.{Shown, StandsFor}
use Rattle.update_world.specs.Spelled.{packet_size}
use Rattle.update_world.specs.Stepping.{Happens}
use Rattle.update_replay.specs.declared.made_fault.MadeFault.{MadeFault}
use Rattle.update_replay.specs.declared.made_fault.MadeFault.TheVariants.{PoolFull, Memory}
use Rattle.update_replay.specs.MadeRuns.{MakesRun, first_refused, made_refusal, refused_or}
use Rattle.update_replay.specs.MadeSteps.{Goes, GoesOn, GoesThrough, shown_summary}
use Rattle.update_replay.specs.Making.{Chooses}
use Rattle.update_replay.proofs.MadeGrowing.{made_number, next_made, number_more, rest_made, steps_more, steps_split}
use Rattle.update_replay.proofs.MadeRefusals.{past_possible}
use Rattle.update_replay.proofs.MadeSizes.{IsShort, made_short, sizes}
use Rattle.update_replay.proofs.Standing.{summary_is}

-- ---- one step

steps_size : SpelledHaveTheirSize steps step_tree
steps_size = of_their_size steps step_tree step_in (λ _. ⊤) step_laws step_has (λ m. tt)

-- its spelling has the step's size
pub spelled_size : (p : ProfileView) → IsProfile p → (s : Step) (b : List ℕ) → Framed p steps (step_tree s) b → length b ≡ step_size s
spelled_size p is s b f = steps_size p is s b f

pub spelled_few : (p : ProfileView) → IsProfile p → (s : Step) (b : List ℕ) → Framed p steps (step_tree s) b → step_size s ≤ 48 → length b ≤ 48
spelled_few p is s b f few = subst (λ (k : ℕ). k ≤ 48) (sym (steps_size p is s b f)) few

-- which is small
pub chosen_short : (w : World) (n x y : ℕ) (s : Step) → Chooses (made_step (numbers_of w) n x) s y → step_size s ≤ 48
chosen_short w n x y s chosen = subst IsShort (sym chosen.0) (made_short (numbers_of w) n x)

-- it happens
pub goes : (w : World) (n x : ℕ) (s : Step) (y size : ℕ) (old new : Shown) (o : Outcome) → Chooses (made_step (numbers_of w) n x) s y → size ≡ step_size s → Happens old s w (Ok o) new → Goes w (made_step (numbers_of w) n x) size new y
goes w n x s y size old new o chosen long h = record {
  possible = subst (λ (t : Step). refusal packet_size w t ≡ None) chosen.0 h.0;
  size = long ∙ ap step_size chosen.0;
  few = subst (λ (k : ℕ). k ≤ 48) (sym long) (chosen_short w n x y s chosen);
  stands = subst (λ (t : Step). StandsFor new (happens w t)) chosen.0 h.2;
  fine = h.3;
  number = chosen.1;
}

-- or it is refused for the pool's bytes
pub refused_so : (w : World) (chosen : Chosen Step) (s : Step) (y : ℕ) (cause : StepFault) → Chooses chosen s y → refusal packet_size w s ≡ Some cause → refusal packet_size w chosen.it ≡ Some cause
refused_so w chosen s y cause is_chosen e = subst (λ (t : Step). refusal packet_size w t ≡ Some cause) is_chosen.0 e

pub only_full : (shown : Shown) (w : World) (n x y : ℕ) (s : Step) (cause : StepFault) → StandsFor shown w → length shown.clients ≡ 2 → Chooses (made_step (numbers_of w) n x) s y → refusal packet_size w s ≡ Some cause → IsPoolFull cause
only_full shown w n x y s cause st two is_chosen e =
    made_steps_are_refused_by_bytes packet_size w n x cause (ap (λ (cs : List ClientState). length cs) st.clients ∙ two) (refused_so w (made_step (numbers_of w) n x) s y cause is_chosen e)

-- no made step is refused for another cause
pub never_other : (shown new : Shown) (w : World) (n x y : ℕ) (s : Step) (cause : StepFault) → StandsFor shown w → length shown.clients ≡ 2 → Chooses (made_step (numbers_of w) n x) s y
    → ((bytes : ℕ) → cause ≡ step_fault.PoolFull bytes → ⊥) → Happens shown s w (Err (Refused cause)) new → ⊥
never_other shown new w n x y s (step_fault.NoClient k) st two chosen full h = only_full shown w n x y s (NoClient k) st two chosen h.0
never_other shown new w n x y s (step_fault.NoPacket m) st two chosen full h = only_full shown w n x y s (NoPacket m) st two chosen h.0
never_other shown new w n x y s (step_fault.WrongEnd m) st two chosen full h = only_full shown w n x y s (WrongEnd m) st two chosen h.0
never_other shown new w n x y s (step_fault.PoolFull bytes) st two chosen full h = absurd (full bytes refl)

-- ---- all steps

-- after so many steps of a run: where the world, the generator and the journal are
pub record Going (number k at x : ℕ) (s : Shown) : Type 0 where
  pub stands : StandsFor s (run 2 (made_steps number k))
  pub fine : s.spoiled ≡ None
  pub two : length s.clients ≡ 2
  pub next : x ≡ made_number number k
  pub bytes : at ≡ sizes (made_steps number k)
  pub possible : made_refusal number k ≡ None
  pub sound : 1 ≤ k → IsProfile s.profile
  pub low : at ≤ 48 * k

-- a new world
pub new_stands : (s : Shown) (p : ProfileView) → s ≡ record { profile = p; server = new_server; clients = new_clients 2; pool = []; spoiled = None } → StandsFor s (start 2)
new_stands s p is = subst (λ (t : Shown). StandsFor t (start 2)) (sym is) (record { server = refl; clients = refl; pool = tt })

pub begins : (number x : ℕ) (s : Shown) → x ≡ number → StandsFor s (start 2) → s.spoiled ≡ None → Going number 0 0 x s
begins number x s is st fine = record { stands = st; fine = fine; two = sym (ap (λ (cs : List ClientState). length cs) st.clients); next = is; bytes = refl; possible = refl; sound = λ some. absurd (omega (arith, some)); low = omega arith }

module _ (number k at x : ℕ) (old : Shown) (g : Going number k at x old) where
  -- the step that is chosen is the run's
  is_next : made_step (numbers_of (run 2 (made_steps number k))) k x ≡ next_made number k
  is_next = ap₂ (λ (w : NumberWorld) (y : ℕ). made_step w k y) (numbers_follow changed_overlays 2 (made_steps number k)) g.next

  pub early : (count : ℕ) → k < count → count ≤ 100000 → old.server.date < 2147483647
  early count less few =
      let below = made_dates_stay_below number k in
      let same : old.server.date ≡ (n_run 2 (made_steps number k)).server.date =
      sym (ap (λ (s : ServerState). s.date) g.stands.server) ∙ ap (λ (w : NumberWorld). w.server.date) (numbers_follow changed_overlays 2 (made_steps number k)) in
      omega (arith, below, same, less, few)

  module _ (size y : ℕ) (new : Shown) (o : Goes (run 2 (made_steps number k)) (made_step (numbers_of (run 2 (made_steps number k))) k x) size new y) where
    happened : Goes (run 2 (made_steps number k)) (next_made number k) size new y
    happened = subst (λ (s : Chosen Step). Goes (run 2 (made_steps number k)) s size new y) is_next o

    more_sizes : (ss : List Step) (s : Step) → sizes (ss ++ s ∷ []) ≡ sizes ss + step_size s
    more_sizes [] s = let same : (n : ℕ) → n + 0 ≡ 0 + n = λ n. omega arith in same (step_size s)
    more_sizes (t ∷ ss) s = let grouped : (a b c : ℕ) → a + (b + c) ≡ a + b + c = λ a b c. omega arith in ap (λ (n : ℕ). step_size t + n) (more_sizes ss s) ∙ grouped (step_size t) (sizes ss) (step_size s)

    pub goes_further : length new.clients ≡ length old.clients → IsProfile new.profile → Going number (k + 1) (at + size) y new
    goes_further clients is =
        let done = made_steps number k in
        let s = (next_made number k).it in
        let more : made_steps number (k + 1) ≡ done ++ s ∷ [] = steps_more number k in
        record {
          stands = subst (λ (w : World). StandsFor new w) (sym (ap (run 2) more ∙ runs_go_on 2 done s)) happened.stands;
          fine = happened.fine;
          two = clients ∙ g.two;
          next = happened.number ∙ sym (number_more number k);
          bytes = ap₂ (λ (a b : ℕ). a + b) g.bytes happened.size ∙ sym (ap sizes more ∙ more_sizes done s);
          possible = ap (λ (ss : List Step). first_refused (start 2) 0 ss) more ∙ past_possible (start 2) 0 done (s ∷ []) g.possible ∙ ap (λ (c : Option StepFault). refused_or c (0 + sizes done) None) happened.possible;
          sound = λ some. is;
          low = omega (arith, g.low, o.few);
        }

  -- a step that is refused is the run's first
  pub first_is : (count bytes : ℕ) → k < count → refusal packet_size (run 2 (made_steps number k)) (made_step (numbers_of (run 2 (made_steps number k))) k x).it ≡ Some (PoolFull bytes)
      → made_refusal number count ≡ Some (record { at = at; cause = PoolFull bytes })
  first_is count bytes less e =
      let done = made_steps number k in
      let s = (next_made number k).it in
      let r = count - (k + 1) in
      let rest = rest_made number k r in
      let refused : refusal packet_size (run 2 done) s ≡ Some (PoolFull bytes) = sym (ap (λ (c : Chosen Step). refusal packet_size (run 2 done) c.it) is_next) ∙ e in
      let place : 0 + sizes done ≡ at = (let same : (n : ℕ) → 0 + n ≡ n = λ n. omega arith in same (sizes done)) ∙ sym g.bytes in
      ap (λ (ss : List Step). first_refused (start 2) 0 ss) (steps_split number k r count (omega (arith, less)))
      ∙ past_possible (start 2) 0 done (s ∷ rest) g.possible
      ∙ ap₂ (λ (c : Option StepFault) (n : ℕ). refused_or c n (first_refused (happens (run 2 done) s) (0 + sizes done + step_size s) rest)) refused place

-- ---- exits

-- a step that isn't made ends the run
pub stops_so : (number k at x y count : ℕ) (old new : Shown) (e : MadeFault) (r : Result (Unit {0}) MadeFault) → Going number k at x old → k < count → GoesOn (run 2 (made_steps number k)) at (made_step (numbers_of (run 2 (made_steps number k))) k x) (Err e) new y
    → IsErrAnd r (λ z. z ≡ e) → GoesThrough number count r new
stops_so number k at x y count old new e (Ok done) g less o is = absurd is
stops_so number k at x y count old new (PoolFull place bytes) (Err z) g less o is =
    let refused : made_refusal number count ≡ Some (record { at = place; cause = PoolFull bytes }) = first_is number k at x old g count bytes less o.1 ∙ ap (λ (n : ℕ). Some (record { at = n; cause = PoolFull bytes })) (sym o.0) in
    subst (λ (f : MadeFault). GoesThrough number count (Err f) new) (sym is) refused
stops_so number k at x y count old new Memory (Err z) g less o is = subst (λ (f : MadeFault). GoesThrough number count (Err f) new) (sym is) tt

-- all steps are made
pub goes_through : (number k at x count : ℕ) (s : Shown) → Going number k at x s → k ≡ count → GoesThrough number count (Ok tt) s
goes_through number k at x count s g same = subst (λ (n : ℕ). GoesThrough number n (Ok tt) s) same (g.possible, g.stands, g.fine, g.sound)

-- and so the run
pub run_stops : (number count : ℕ) (new : Shown) (e : MadeFault) (r : Result (List ℕ) MadeFault) → GoesThrough number count (Err e) new → IsErrAnd r (λ z. z ≡ e) → MakesRun number count r
run_stops number count new e (Ok text) o is = absurd is
run_stops number count new (PoolFull at bytes) (Err z) o is = subst (λ (f : MadeFault). MakesRun number count (Err f)) (sym is) o
run_stops number count new Memory (Err z) o is = subst (λ (f : MadeFault). MakesRun number count (Err f)) (sym is) tt

pub run_ends : (number count : ℕ) (new : Shown) (text : List ℕ) → 1 ≤ count → GoesThrough number count (Ok tt) new → text ≡ shown_summary count new → MakesRun number count (Ok text)
run_ends number count new text some o is = (o.0, is ∙ summary_is new (o.3 some) 2 count (made_steps number count) o.1)

-- out of memory is free
pub no_memory_goes : (w : World) (at : ℕ) (chosen : Chosen Step) (new : Shown) (x : ℕ) (r : Result ℕ MadeFault) → IsErrAnd r (λ z. z ≡ Memory) → GoesOn w at chosen r new x
no_memory_goes w at chosen new x (Ok size) is = absurd is
no_memory_goes w at chosen new x (Err z) is = subst (λ (f : MadeFault). GoesOn w at chosen (Err f) new x) (sym is) tt

pub no_memory_runs : (number count : ℕ) (r : Result (List ℕ) MadeFault) → IsErrAnd r (λ z. z ≡ Memory) → MakesRun number count r
no_memory_runs number count (Ok text) is = absurd is
no_memory_runs number count (Err z) is = subst (λ (f : MadeFault). MakesRun number count (Err f)) (sym is) tt
