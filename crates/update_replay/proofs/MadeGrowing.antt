-- A made run, step by step.
use Rattle.std.proofs.Common.{◌≡◌, ℕ, zero, suc, ◌+◌, List, [], ◌∷◌, ◌++◌, ap, ap₂, ◌∙◌, arith}
use Rattle.box_events.specs.declared.steps.Step.{Step}
use Rattle.box_world.specs.NumberWorlds.{NumberWorld, n_happens, n_run, n_run_from}
use Rattle.update_replay.specs.Made.{Chosen, made_from, made_step, made_steps}

-- the generator's number after so many steps
abbrev pub number_from : ℕ → NumberWorld → ℕ → ℕ → ℕ
number_from zero w n x = x
number_from (suc more) w n x = let s = made_step w n x in number_from more (n_happens w s.it) (n + 1) s.x

-- the steps are the first ones, and those that are made after them
split : (k r : ℕ) (w : NumberWorld) (n x : ℕ) → made_from (k + r) w n x ≡ made_from k w n x ++ made_from r (n_run_from w (made_from k w n x)) (n + k) (number_from k w n x)
split zero r w n x = let few : 0 + r ≡ r = omega arith in let same : n ≡ n + 0 = omega arith in ap₂ (λ (m i : ℕ). made_from m w i x) few same
split (suc k) r w n x =
    let s = made_step w n x in
    let v = n_happens w s.it in
    let many : suc k + r ≡ suc (k + r) = omega arith in
    let same : n + 1 + k ≡ n + suc k = omega arith in
    ap (λ (m : ℕ). made_from m w n x) many
    ∙ ap (λ (ss : List Step). s.it ∷ ss) (split k r v (n + 1) s.x ∙ ap (λ (i : ℕ). made_from k v (n + 1) s.x ++ made_from r (n_run_from v (made_from k v (n + 1) s.x)) i (number_from k v (n + 1) s.x)) same)

number_next : (k : ℕ) (w : NumberWorld) (n x : ℕ) → number_from (suc k) w n x ≡ (made_step (n_run_from w (made_from k w n x)) (n + k) (number_from k w n x)).x
number_next zero w n x = let same : n ≡ n + 0 = omega arith in ap (λ (i : ℕ). (made_step w i x).x) same
number_next (suc k) w n x =
    let s = made_step w n x in
    let v = n_happens w s.it in
    let same : n + 1 + k ≡ n + suc k = omega arith in
    number_next k v (n + 1) s.x ∙ ap (λ (i : ℕ). (made_step (n_run_from v (made_from k v (n + 1) s.x)) i (number_from k v (n + 1) s.x)).x) same

-- ---- from the start

abbrev pub made_number : ℕ → ℕ → ℕ
made_number number k = number_from k (n_run 2 []) 0 number

-- the step after so many
abbrev pub next_made : ℕ → ℕ → Chosen Step
next_made number k = made_step (n_run 2 (made_steps number k)) k (made_number number k)

-- the steps after that one
abbrev pub rest_made : ℕ → ℕ → ℕ → List Step
rest_made number k r = made_from r (n_happens (n_run 2 (made_steps number k)) (next_made number k).it) (k + 1) (next_made number k).x

pub steps_split : (number k r count : ℕ) → count ≡ k + suc r → made_steps number count ≡ made_steps number k ++ (next_made number k).it ∷ rest_made number k r
steps_split number k r count e =
    let same : 0 + k ≡ k = omega arith in
    ap (λ (m : ℕ). made_steps number m) e
    ∙ split k (suc r) (n_run 2 []) 0 number
    ∙ ap (λ (i : ℕ). made_steps number k ++ made_from (suc r) (n_run 2 (made_steps number k)) i (made_number number k)) same

pub steps_more : (number k : ℕ) → made_steps number (k + 1) ≡ made_steps number k ++ (next_made number k).it ∷ []
steps_more number k = steps_split number k 0 (k + 1) (omega arith)

pub number_more : (number k : ℕ) → made_number number (k + 1) ≡ (next_made number k).x
number_more number k =
    let next : k + 1 ≡ suc k = omega arith in
    let same : 0 + k ≡ k = omega arith in
    ap (λ (m : ℕ). made_number number m) next
    ∙ number_next k (n_run 2 []) 0 number
    ∙ ap (λ (i : ℕ). (made_step (n_run 2 (made_steps number k)) i (made_number number k)).x) same
