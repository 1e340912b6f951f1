-- A journal has one replay at most.
use Rattle.std.proofs.Common.{◌≡◌, inl, inr, ℕ, ◌+◌, ◌<◌, ◌≤◌, List, [], ◌∷◌, ◌++◌, append_assoc, append-nil, length, length-append, Bool, true, false, Some, refl, sym, ap, ◌∙◌, subst, arith}
use Rattle.std.proofs.lemmas.Bool.{cases_lt}
use Rattle.std.proofs.lemmas.Option.{none-some, same_Some}
use Rattle.std.specs.Prelude.{IsTrue}
use Rattle.tl_numbers.specs.Bytes.{AreBytes}
use Rattle.tl_types.proofs.Numbers.{bytes_after}
use Rattle.box_events.specs.declared.steps.Step.{Step}
use Rattle.wire_profile.specs.declared.wire_fault.WireFault.{WireFault}
use Rattle.wire_profile.specs.Indexes.{ProfileView}
use Rattle.wire_profile.specs.Profiles.{IsProfile}
use Rattle.box_world.specs.NumberWorlds.{n_run}
use Rattle.box_world.specs.declared.fault.StepFault.{StepFault}
use Rattle.box_world.specs.Possible.{refusal}
use Rattle.box_world.specs.Worlds.{run}
use Rattle.update_replay.specs.Closings.{closing_lines}
use Rattle.update_replay.specs.StepLines.{StepLines}
use Rattle.update_world.specs.Spelled.{IsSpelled, packet_size}
use Rattle.update_replay.specs.Endings.{Ending, whole, not_made, too_long, of_refusal}
use Rattle.update_replay.specs.Replays.{BeginsStep, StepFollows, Began, none, one_more, NoStepFollows, Replays, no_step_follows, one_too_many, not_possible, at_its_end}
use Rattle.update_replay.specs.declared.limits.TheConstants.{MAX_STEPS}
use Rattle.update_replay.proofs.JournalSteps.{none_begins, steps_once, no_both, one_refusal}
use Rattle.update_replay.proofs.SpelledOnce.{lines_once}

apart : (b : Bool) → b ≡ false → IsTrue b → ⊥
apart true e t = cc
apart false e t = cc

-- what is left comes after a prefix
pub began_after : (p : ProfileView) (n : ℕ) (seen : List ℕ) (ss : List Step) (at : ℕ) (left lines : List ℕ) → Began p n seen ss at left lines → (front : List ℕ) × (seen ≡ front ++ left) × (length front ≡ at)
began_after p n seen ss at left lines none = ([], refl, refl)
began_after p n seen ss at left lines (one_more before q mid shown s x rest more b f) =
    let g = began_after p n seen before q mid shown b in
    (g.0 ++ x, g.1 ∙ ap (λ (y : List ℕ). g.0 ++ y) (f.begins).parts ∙ sym (append_assoc g.0 x rest), length-append g.0 x ∙ ap (λ (k : ℕ). k + length x) g.2)

-- another step follows
pub record Goes (p : ProfileView) (n : ℕ) (ss : List Step) (left : List ℕ) : Type 0 where
  pub step : Step
  pub x : List ℕ
  pub rest : List ℕ
  pub lines : List ℕ
  pub follows : StepFollows p n ss left step x rest lines

-- the first k steps of a run of `all` steps, with a prefix of its lines
pub record Front (p : ProfileView) (n : ℕ) (seen : List ℕ) (k all : ℕ) (output : List ℕ) : Type 0 where
  pub steps : List Step
  pub at : ℕ
  pub left : List ℕ
  pub lines : List ℕ
  pub behind : List ℕ
  pub began : Began p n seen steps at left lines
  pub long : length steps ≡ k
  pub split : lines ++ behind ≡ output
  pub goes : k < all → Goes p n steps left

-- how a run that can't go on ends
pub data Stop (p : ProfileView) (n : ℕ) (more : Bool) (ss : List Step) (at : ℕ) (left lines output : List ℕ) (ending : Ending) : Type 0 where
  by_bytes : (fault : WireFault) → NoStepFollows p more left fault → output ≡ lines → ending ≡ of_refusal more at fault → Stop p n more ss at left lines output ending
  by_count : (s : Step) (x rest : List ℕ) → BeginsStep p left s x rest → MAX_STEPS ≤ length ss → output ≡ lines → ending ≡ too_long at → Stop p n more ss at left lines output ending
  by_cause : (s : Step) (x rest : List ℕ) (cause : StepFault) → BeginsStep p left s x rest → length ss < MAX_STEPS → refusal packet_size (run n ss) s ≡ Some cause → output ≡ lines → ending ≡ not_made at cause → Stop p n more ss at left lines output ending
  by_end : left ≡ [] → more ≡ false → output ≡ lines ++ closing_lines (n_run n ss) → ending ≡ whole (length ss) → Stop p n more ss at left lines output ending

-- the run that a replay made
pub record Made (p : ProfileView) (n : ℕ) (seen : List ℕ) (more : Bool) (ss : List Step) (output : List ℕ) (ending : Ending) : Type 0 where
  pub at : ℕ
  pub left : List ℕ
  pub lines : List ℕ
  pub began : Began p n seen ss at left lines
  pub stop : Stop p n more ss at left lines output ending

pub made_of : (p : ProfileView) (n : ℕ) (seen : List ℕ) (more : Bool) (ss : List Step) (output : List ℕ) (ending : Ending) → Replays p n seen more ss output ending → Made p n seen more ss output ending
made_of p n seen more ss output ending (no_step_follows at left fault b h e) = record { at = at; left = left; lines = output; began = b; stop = by_bytes fault h refl e }
made_of p n seen more ss output ending (one_too_many at left s x rest b begins many e) = record { at = at; left = left; lines = output; began = b; stop = by_count s x rest begins many refl e }
made_of p n seen more ss output ending (not_possible at left s x rest cause b begins few is e) = record { at = at; left = left; lines = output; began = b; stop = by_cause s x rest cause begins few is refl e }
made_of p n seen more ss output ending (at_its_end at lines b stays told e) = record { at = at; left = []; lines = lines; began = b; stop = by_end refl stays told e }

-- no byte is left, and the journal doesn't go on
pub not_ended : (p : ProfileView) (more : Bool) (left : List ℕ) (fault : WireFault) → left ≡ [] → more ≡ false → NoStepFollows p more left fault → ⊥
not_ended p more left fault empty stays (r, inl some) = let e = ap length empty in omega (arith, e, some)
not_ended p more left fault empty stays (r, inr goes) = apart more stays goes

module _ (p : ProfileView) (good : IsProfile p) (n : ℕ) (seen : List ℕ) (are : AreBytes seen) where
  pub left_bytes : (ss : List Step) (at : ℕ) (left lines : List ℕ) → Began p n seen ss at left lines → AreBytes left
  left_bytes ss at left lines b = let f = began_after p n seen ss at left lines b in bytes_after seen f.0 left f.1 are

  -- ---- runs of one length are one

  pub runs_once : (ss os : List Step) (at q : ℕ) (left rest lines more : List ℕ) → Began p n seen ss at left lines → Began p n seen os q rest more → length ss ≡ length os
      → (ss ≡ os) × (at ≡ q) × (left ≡ rest) × (lines ≡ more)
  runs_once ss os at q left rest lines more none none e = (refl, refl, refl, refl)
  runs_once ss os at q left rest lines more none (one_more bs j m ms t y u told c g) e = absurd (omega (arith, e, length-append bs (t ∷ [])))
  runs_once ss os at q left rest lines more (one_more us i l ls s x r said b f) none e = absurd (omega (arith, e, length-append us (s ∷ [])))
  runs_once ss os at q left rest lines more (one_more us i l ls s x r said b f) (one_more bs j m ms t y u told c g) e =
      let long : length us ≡ length bs = omega (arith, e, length-append us (s ∷ []), length-append bs (t ∷ [])) in
      let same = runs_once us bs i j l m ls ms b c long in
      let here : BeginsStep p m s x r = subst (λ (z : List ℕ). BeginsStep p z s x r) same.2 f.begins in
      let one = steps_once p good m (left_bytes bs j m ms c) s t x y r u here g.begins in
      let first : StepLines (IsSpelled p) (length us) (n_run n us) t said = subst (λ (z : Step). StepLines (IsSpelled p) (length us) (n_run n us) z said) one.0 f.told in
      let shown = lines_once p (length bs) (n_run n bs) t said told (subst (λ (z : List Step). StepLines (IsSpelled p) (length z) (n_run n z) t said) same.0 first) g.told in
      (λ k. same.0 k ++ one.0 k ∷ [], λ k. same.1 k + length (one.1 k), one.2, λ k. same.3 k ++ shown k)

  -- ---- a run that can't go on is the longest

  pub front_of : (os : List Step) (q : ℕ) (rest more : List ℕ) → Began p n seen os q rest more → (k : ℕ) → k ≤ length os → Front p n seen k (length os) more
  front_of os q rest more none k le = record { steps = []; at = 0; left = seen; lines = []; behind = []; began = none; long = omega (arith, le); split = refl; goes = λ lt. absurd (omega (arith, lt)) }
  front_of os q rest more (one_more bs j m ms t y u told c g) k le =
      let count : length (bs ++ t ∷ []) ≡ length bs + 1 = length-append bs (t ∷ []) in
      elim (cases_lt k (length bs)) [
        | inl lt ↦ let f = front_of bs j m ms c k (omega (arith, lt)) in record {
          steps = f.steps;
          at = f.at;
          left = f.left;
          lines = f.lines;
          behind = f.behind ++ told;
          began = f.began;
          long = f.long;
          split = sym (append_assoc f.lines f.behind told) ∙ ap (λ (z : List ℕ). z ++ told) f.split;
          goes = λ _. f.goes lt;
        }
        | inr ge ↦ elim (cases_lt (length bs) k) [
          | inl lt ↦ record {
            steps = bs ++ t ∷ [];
            at = j + length y;
            left = u;
            lines = ms ++ told;
            behind = [];
            began = one_more bs j m ms t y u told c g;
            long = omega (arith, count, le, lt);
            split = append-nil (ms ++ told);
            goes = λ less. absurd (omega (arith, count, lt, less));
          }
          | inr same ↦ record { steps = bs; at = j; left = m; lines = ms; behind = told; began = c; long = omega (arith, ge, same); split = refl; goes = λ _. record { step = t; x = y; rest = u; lines = told; follows = g } }
        ]
      ]

  pub no_longer : (ss os : List Step) (at q : ℕ) (left rest lines more : List ℕ) → Began p n seen ss at left lines → Began p n seen os q rest more → (Goes p n ss left → ⊥) → length os ≤ length ss
  no_longer ss os at q left rest lines more b c stuck = elim (cases_lt (length ss) (length os)) [
    | inl lt ↦ let f = front_of os q rest more c (length ss) (omega (arith, lt)) in
        let same = runs_once f.steps ss f.at at f.left left f.lines lines f.began b f.long in
        absurd (stuck (subst (λ (z : List ℕ). Goes p n ss z) same.2 (subst (λ (z : List Step). Goes p n z f.left) same.0 (f.goes lt))))
    | inr ge ↦ ge
  ]

  pub stuck_once : (ss os : List Step) (at q : ℕ) (left rest lines more : List ℕ) → Began p n seen ss at left lines → Began p n seen os q rest more → (Goes p n ss left → ⊥) → (Goes p n os rest → ⊥)
      → (ss ≡ os) × (at ≡ q) × (left ≡ rest) × (lines ≡ more)
  stuck_once ss os at q left rest lines more b c stuck stays =
      let less = no_longer ss os at q left rest lines more b c stuck in
      let few = no_longer os ss q at rest left more lines c b stays in
      runs_once ss os at q left rest lines more b c (omega (arith, less, few))

  -- ---- how a run that can't go on ends

  not_that : (ss : List Step) (left : List ℕ) → AreBytes left → (s : Step) (x rest : List ℕ) (cause : StepFault) → BeginsStep p left s x rest → refusal packet_size (run n ss) s ≡ Some cause → Goes p n ss left → ⊥
  not_that ss left bytes s x rest cause b is g =
      let same = steps_once p good left bytes s g.step x g.x rest g.rest b (g.follows).begins in
      none-some cause (sym (g.follows).possible ∙ ap (refusal packet_size (run n ss)) (sym same.0) ∙ is)

  pub stuck : (more : Bool) (ss : List Step) (at : ℕ) (left lines output : List ℕ) (ending : Ending) → AreBytes left → Stop p n more ss at left lines output ending → Goes p n ss left → ⊥
  stuck more ss at left lines output ending bytes (by_bytes fault h told e) g = no_both p good left bytes g.step g.x g.rest fault (g.follows).begins h.0
  stuck more ss at left lines output ending bytes (by_count s x rest b many told e) g = absurd (omega (arith, many, (g.follows).few))
  stuck more ss at left lines output ending bytes (by_cause s x rest cause b few is told e) g = not_that ss left bytes s x rest cause b is g
  stuck more ss at left lines output ending bytes (by_end empty stays told e) g = none_begins p left g.step g.x g.rest empty (g.follows).begins

  same_cause : (left : List ℕ) → AreBytes left → (w : List Step) (s t : Step) (x y rest after : List ℕ) (a b : StepFault) → BeginsStep p left s x rest → BeginsStep p left t y after → refusal packet_size (run n w) s ≡ Some a → refusal packet_size (run n w) t ≡ Some b → a ≡ b
  same_cause left bytes w s t x y rest after a b c d is at =
      same_Some a b (sym is ∙ ap (refusal packet_size (run n w)) (steps_once p good left bytes s t x y rest after c d).0 ∙ at)

  stops_once : (more : Bool) (ss : List Step) (at : ℕ) (left lines output other : List ℕ) (e f : Ending) → AreBytes left → Stop p n more ss at left lines output e → Stop p n more ss at left lines other f → (output ≡ other) × (e ≡ f)
  stops_once more ss at left lines output other e f bytes (by_bytes u h told is) (by_bytes v i said at_f) = (told ∙ sym said, is ∙ ap (of_refusal more at) (one_refusal p good left bytes u v h.0 i.0) ∙ sym at_f)
  stops_once more ss at left lines output other e f bytes (by_bytes u h told is) (by_count t y rest b many said at_f) = absurd (no_both p good left bytes t y rest u b h.0)
  stops_once more ss at left lines output other e f bytes (by_bytes u h told is) (by_cause t y rest cause b few refused said at_f) = absurd (no_both p good left bytes t y rest u b h.0)
  stops_once more ss at left lines output other e f bytes (by_bytes u h told is) (by_end empty stays said at_f) = absurd (not_ended p more left u empty stays h)
  stops_once more ss at left lines output other e f bytes (by_count s x rest b many told is) (by_bytes v i said at_f) = absurd (no_both p good left bytes s x rest v b i.0)
  stops_once more ss at left lines output other e f bytes (by_count s x rest b many told is) (by_count t y after c much said at_f) = (told ∙ sym said, is ∙ sym at_f)
  stops_once more ss at left lines output other e f bytes (by_count s x rest b many told is) (by_cause t y after cause c few refused said at_f) = absurd (omega (arith, many, few))
  stops_once more ss at left lines output other e f bytes (by_count s x rest b many told is) (by_end empty stays said at_f) = absurd (none_begins p left s x rest empty b)
  stops_once more ss at left lines output other e f bytes (by_cause s x rest cause b few refused told is) (by_bytes v i said at_f) = absurd (no_both p good left bytes s x rest v b i.0)
  stops_once more ss at left lines output other e f bytes (by_cause s x rest cause b few refused told is) (by_count t y after c many said at_f) = absurd (omega (arith, many, few))
  stops_once more ss at left lines output other e f bytes (by_cause s x rest a b few refused told is) (by_cause t y after d c less also said at_f) = (told ∙ sym said, is ∙ ap (not_made at) (same_cause left bytes ss s t x y rest after a d b c refused also) ∙ sym at_f)
  stops_once more ss at left lines output other e f bytes (by_cause s x rest cause b few refused told is) (by_end empty stays said at_f) = absurd (none_begins p left s x rest empty b)
  stops_once more ss at left lines output other e f bytes (by_end empty stays told is) (by_bytes v i said at_f) = absurd (not_ended p more left v empty stays i)
  stops_once more ss at left lines output other e f bytes (by_end empty stays told is) (by_count t y after c many said at_f) = absurd (none_begins p left t y after empty c)
  stops_once more ss at left lines output other e f bytes (by_end empty stays told is) (by_cause t y after cause c few refused said at_f) = absurd (none_begins p left t y after empty c)
  stops_once more ss at left lines output other e f bytes (by_end empty stays told is) (by_end gone kept said at_f) = (told ∙ sym said, is ∙ sym at_f)

  pub replays_once : (more : Bool) (ss os : List Step) (output other : List ℕ) (e f : Ending) → Replays p n seen more ss output e → Replays p n seen more os other f → (ss ≡ os) × (output ≡ other) × (e ≡ f)
  replays_once more ss os output other e f h g =
      let a = made_of p n seen more ss output e h in
      let b = made_of p n seen more os other f g in
      let bytes : AreBytes a.left = left_bytes ss a.at a.left a.lines a.began in
      let also : AreBytes b.left = left_bytes os b.at b.left b.lines b.began in
      let same = stuck_once ss os a.at b.at a.left b.left a.lines b.lines a.began b.began (stuck more ss a.at a.left a.lines output e bytes a.stop) (stuck more os b.at b.left b.lines other f also b.stop) in
      let by_steps : Stop p n more os a.at a.left a.lines output e = subst (λ (z : List Step). Stop p n more z a.at a.left a.lines output e) same.0 a.stop in
      let by_place : Stop p n more os b.at a.left a.lines output e = subst (λ (z : ℕ). Stop p n more os z a.left a.lines output e) same.1 by_steps in
      let by_left : Stop p n more os b.at b.left a.lines output e = subst (λ (z : List ℕ). Stop p n more os b.at z a.lines output e) same.2 by_place in
      let by_lines : Stop p n more os b.at b.left b.lines output e = subst (λ (z : List ℕ). Stop p n more os b.at b.left z output e) same.3 by_left in
      let ends = stops_once more os b.at b.left b.lines output other e f also by_lines b.stop in
      (same.0, ends.0, ends.1)
