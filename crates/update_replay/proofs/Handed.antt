-- A replay that is made step by step: what each call keeps, and how each of its ends is one of the definition's.
use Rattle.std.proofs.Common.{◌≡◌, inl, inr, ℕ, ◌+◌, ◌-◌, ◌<◌, ◌≤◌, List, [], ◌∷◌, ◌++◌, length, length-append, take, drop, Bool, true, false, cond, Option, Some, None, Result, Ok, Err, refl, sym, ap, ◌∙◌, subst, arith}
use Rattle.std.specs.Prelude.{◌&&◌, IfSome, IsErrAnd, IsSome, IsTrue, Vec, option_map}
use Rattle.std.specs.declared.alloc.Global.{Global}
use Rattle.std.specs.Io.KnownBytes.{Consumes}
use Rattle.std.proofs.lemmas.List.{drop_at, take_all}
use Rattle.tl_base.specs.Limits.{limited_state}
use Rattle.tl_base.specs.Using.{SourceState}
use Rattle.tl_base.specs.declared.fault.Fault.TheVariants as fault
use Rattle.tl_base.specs.declared.slices.SliceSource.{SliceSource}
use Rattle.tl_base.proofs.Limiting.{limited_took, limit_kept}
use Rattle.tl_types.specs.declared.cause.Cause.TheVariants.{Truncated}
use Rattle.tl_types.specs.Refusal.{short}
use Rattle.box_events.specs.declared.steps.Step.{Step}
use Rattle.wire_profile.specs.declared.wire_fault.WireFault.{WireFault}
use Rattle.wire_profile.specs.declared.wire_fault.WireFault.TheVariants as wire
use Rattle.wire_profile.specs.Indexes.{ProfileView}
use Rattle.box_wire.specs.StepReading.{ReadsStep, StepGiven, StepRefused, no_value}
use Rattle.box_wire.specs.declared.fault.StepReadFault.{StepReadFault}
use Rattle.box_wire.specs.declared.fault.StepReadFault.TheVariants as reading
use Rattle.box_world.specs.NumberWorlds.{n_run}
use Rattle.box_world.specs.declared.fault.StepFault.TheVariants.{NoClient, NoPacket, PoolFull, WrongEnd}
use Rattle.box_world.specs.Possible.{refusal}
use Rattle.box_world.specs.Worlds.{run}
use Rattle.update_world.specs.Shown.{Shown}
use Rattle.update_world.specs.Spelled.{AreSent, IsSpelled, packet_size}
use Rattle.update_world.specs.Stepping.{Happens}
use Rattle.box_world.specs.declared.fault.StepFault.{StepFault}
use Rattle.box_world.specs.declared.fault.StepFault.TheVariants as step_fault
use Rattle.update_world.specs.declared.outcome.Outcome.{Outcome}
use Rattle.update_world.specs.declared.sent.SentPacket.{SentPacket}
use Rattle.update_replay.specs.Closings.{closing_lines}
use Rattle.update_replay.specs.Endings.{no_step, not_made, too_long, answer_of, is_cut_short, of_refusal}
use Rattle.update_replay.specs.Handing.{HasMade, HandsOut, FindsStep}
use Rattle.update_replay.specs.Replays.{BeginsStep, Began, none, one_more, Next, a_step, the_end, StepFollows, no_step_follows, one_too_many, not_possible, at_its_end, IsNew, StandsAfter, StandsThen, goes_on, seen_of}
use Rattle.update_replay.specs.StepLines.{StepLines}
use Rattle.update_replay.specs.WorldLines.{end_lines, outcome_lines}
use Rattle.update_replay.specs.declared.fault.ReplayFault.{ReplayFault}
use Rattle.update_replay.specs.declared.fault.ReplayFault.TheVariants.{Step as NotMade, TooLong, Memory}
use Rattle.update_replay.specs.declared.limits.TheConstants.{MAX_JOURNAL_BYTES, MAX_STEPS}
use Rattle.update_replay.specs.declared.machine.Replay.{Replay}
use Rattle.update_replay.proofs.OneReplay.{began_after}
use Rattle.update_replay.proofs.StepsMade.{HappensIn, here, lines_told, stands_on}
use Rattle.update_replay.proofs.Told.{ends_are_told}
use Rattle.update_replay.proofs.Windows.{seen_few}

-- ---- a step that is found

pub slice_told : (f g : SliceSource) (bytes : List ℕ) → f ≡ g → g.at ≡ 0 → g.bytes.now ≡ bytes → Some (drop f.at f.bytes.now) ≡ Some bytes
slice_told f g bytes is at same = ap (λ (z : SliceSource). Some (drop z.at z.bytes.now)) is ∙ (λ i. Some (drop (at i) (same i)))

consumed : (a b : Option (List ℕ)) (piece rest : List ℕ) → a ≡ Some (piece ++ rest) → b ≡ Some rest → Consumes a b piece
consumed a b piece rest e f = subst (λ (z : Option (List ℕ)). Consumes z b piece) (sym e) (subst (λ (z : Option (List ℕ)). Consumes (Some (piece ++ rest)) z piece) (sym f) refl)

-- a step is read of bytes through a window that is as wide
module _ (p : ProfileView) (bytes : List ℕ) (l r k s m h : ℕ) (x y : SourceState) (kept : (limited_state k s y h).aside ≡ (limited_state l r x m).aside) (wide : l ≡ length bytes) (all : r ≡ length bytes) (told : x.left ≡ Some bytes) where
  before : (limited_state l r x m).left ≡ Some bytes
  before = ap (option_map (take r)) told ∙ ap Some (take_all r bytes (omega (arith, all)))

  given : (a : Result (Option Step) StepReadFault) → IfSome (limited_state l r x m).left (λ b. ReadsStep p b (limited_state k s y h).left a) → StepGiven p bytes (limited_state k s y h).left a
  given a reads = (subst (λ (o : Option (List ℕ)). IfSome o (λ b. ReadsStep p b (limited_state k s y h).left a)) before reads).given

  pub found : (st : Step) (size : ℕ) → IfSome (limited_state l r x m).left (λ b. ReadsStep p b (limited_state k s y h).left (Ok (Some st))) → size ≡ k - s → FindsStep p bytes (Ok (Some (st, size)))
  found st size reads is =
      let g = given (Ok (Some st)) reads in
      let took = limited_took l k r s m h x y g.0 kept (consumed _ _ g.0 g.1 (before ∙ ap Some g.2) g.3) in
      (g.0, g.1, record { parts = g.2; means = g.4 }, omega (arith, is, wide, all, limit_kept l k r s m h x y kept, took.1 (subst IsSome (sym told) refl)))

  pub none_found : IfSome (limited_state l r x m).left (λ b. ReadsStep p b (limited_state k s y h).left (Ok None)) → FindsStep p bytes (Ok None)
  none_found reads = (given (Ok None) reads).0

  refused_as : (e : StepReadFault) → StepGiven p bytes (limited_state k s y h).left (Err e) → FindsStep p bytes (Err e)
  refused_as (reading.Wire fault) g = g
  refused_as reading.ReadFault g = tt
  refused_as reading.Memory g = tt

  pub not_found : (e : StepReadFault) (a : Result (Option (Step × ℕ)) StepReadFault) → IsErrAnd a (λ z. z ≡ e) → IfSome (limited_state l r x m).left (λ b. ReadsStep p b (limited_state k s y h).left (Err e)) → FindsStep p bytes a
  not_found e (Ok z) is reads = absurd is
  not_found e (Err z) is reads = subst (λ (f : StepReadFault). FindsStep p bytes (Err f)) (sym is) (refused_as e (given (Err e) reads))

pub found_by : (p q : ProfileView) (bytes : List ℕ) (a : Result (Option (Step × ℕ)) StepReadFault) → p ≡ q → FindsStep p bytes a → FindsStep q bytes a
found_by p q bytes a is h = subst (λ (z : ProfileView). FindsStep z bytes a) is h

pub found_inside : (p : ProfileView) (bytes : List ℕ) (s : Step) (size : ℕ) → FindsStep p bytes (Ok (Some (s, size))) → size ≤ length bytes
found_inside p bytes s size (x, rest, b, is) = omega (arith, is, ap length b.parts, length-append x rest)

-- ---- where a replay stands

pub new_stands : (s : Shown) → IsNew s → StandsAfter s.profile (length s.clients) s []
new_stands s is = record {
  profile = refl;
  clients = refl;
  fine = ap (λ (z : Shown). z.spoiled) is;
  stands = record {
    server = sym (ap (λ (z : Shown). z.server) is);
    clients = sym (ap (λ (z : Shown). z.clients) is);
    pool = subst (λ (z : List SentPacket). AreSent s.profile z []) (sym (ap (λ (z : Shown). z.pool) is)) tt;
  };
}

pub begun : (journal : List ℕ) (r : Replay) → r.rest.now ≡ seen_of journal → r.goes_on ≡ goes_on journal → r.at ≡ 0 → r.steps ≡ 0 → (w : Shown) → IsNew w → HasMade w.profile (length w.clients) journal [] [] w r
begun journal r left more at count w new = record {
  began = subst (λ (k : ℕ). Began w.profile (length w.clients) (seen_of journal) [] k r.rest.now []) (sym at) (subst (λ (z : List ℕ). Began w.profile (length w.clients) (seen_of journal) [] 0 z []) (sym left) none);
  more = more;
  number = count;
  stands = new_stands w new;
}

-- it has made no more steps than it may
pub few_made : (p : ProfileView) (n : ℕ) (seen : List ℕ) (ss : List Step) (at : ℕ) (left lines : List ℕ) → Began p n seen ss at left lines → length ss ≤ MAX_STEPS
few_made p n seen ss at left lines none = omega arith
few_made p n seen ss at left lines (one_more before q mid shown s x rest more b f) = omega (arith, f.few, length-append before (s ∷ []))

-- no byte is no step, but it may be that one was cut short
empty_refused : (p : ProfileView) → StepRefused p [] (wire.Refused 0 Truncated)
empty_refused p = no_value 0 Truncated (inl (short (omega arith) refl refl)) refl

true_is : (b : Bool) → b ≡ true → IsTrue b
true_is true e = refl
true_is false e = absurd cc

-- bytes that are no step leave the world as it was
stands_cut : (b : Bool) (at : ℕ) (f : WireFault) (p : ProfileView) (n : ℕ) (w : Shown) (ss : List Step) → StandsAfter p n w ss → StandsThen (cond b (too_long at) (no_step at f)) p n w ss
stands_cut true at f p n w ss h = h
stands_cut false at f p n w ss h = h

module _ (p : ProfileView) (n : ℕ) (journal : List ℕ) (ss : List Step) (output : List ℕ) (w : Shown) (old : Replay) (h : HasMade p n journal ss output w old) where
  pub inside : old.at + length old.rest.now ≤ MAX_JOURNAL_BYTES
  inside = let f = began_after p n (seen_of journal) ss old.at old.rest.now output h.began in omega (arith, f.2, ap length f.1, length-append f.0 old.rest.now, seen_few journal)

  module _ (lines : Vec ℕ Global) where
    -- the lines are of no account
    pub cleared : HasMade p n journal ss output w (record old { lines = lines })
    cleared = record { began = h.began; more = h.more; number = h.number; stands = h.stands }

    pub memory_out : (v : Shown) → lines.items ≡ [] → HandsOut p n journal ss old.rest.now output v (record old { lines = lines }) (Err Memory)
    memory_out v empty = (empty, inl refl)

    -- ---- ends

    pub closed : old.rest.now ≡ [] → old.goes_on ≡ false → lines.items ≡ end_lines w → HandsOut p n journal ss old.rest.now output w (record old { lines = lines }) (Ok false)
    closed ended stays is =
        let more : goes_on journal ≡ false = sym h.more ∙ stays in
        let closing : lines.items ≡ closing_lines (n_run n ss) = is ∙ ends_are_told n ss w (h.stands).stands in
        (cleared, at_its_end old.at output (subst (λ (z : List ℕ). Began p n (seen_of journal) ss old.at z output) ended h.began) more (ap (λ (z : List ℕ). output ++ z) closing) refl, subst (Next p n (goes_on journal) ss old.rest.now) (sym closing) (the_end ended more))

    pub past_end : lines.items ≡ [] → old.rest.now ≡ [] → old.goes_on ≡ true → HandsOut p n journal ss old.rest.now output w (record old { lines = lines }) (Err (TooLong old.at))
    past_end empty ended goes =
        let more : goes_on journal ≡ true = sym h.more ∙ goes in (
          empty,
          inr (
            too_long old.at,
            no_step_follows old.at old.rest.now (wire.Refused 0 Truncated) h.began (subst (λ (z : List ℕ). StepRefused p z (wire.Refused 0 Truncated)) (sym ended) (empty_refused p), inr (true_is (goes_on journal) more)) (ap (λ (b : Bool). of_refusal b old.at (wire.Refused 0 Truncated)) (sym more)),
            refl,
            h.stands,
          ),
        )

    pub refused : (f : WireFault) (e : ReplayFault) → lines.items ≡ [] → FindsStep w.profile old.rest.now (Err (reading.Wire f)) → answer_of (of_refusal old.goes_on old.at f) ≡ Err e → HandsOut p n journal ss old.rest.now output w (record old { lines = lines }) (Err e)
    refused f e empty (some, r) is = (
      empty,
      inr (
        of_refusal (goes_on journal) old.at f,
        no_step_follows old.at old.rest.now f h.began (subst (λ (q : ProfileView). StepRefused q old.rest.now f) (h.stands).profile r, inl some) refl,
        ap (λ (b : Bool). answer_of (of_refusal b old.at f)) (sym h.more) ∙ is,
        stands_cut (goes_on journal && is_cut_short f) old.at f p n w ss h.stands,
      ),
    )

  -- ---- a step

  module _ (s : Step) (size : ℕ) (is_found : FindsStep w.profile old.rest.now (Ok (Some (s, size)))) where
    begins : BeginsStep p old.rest.now s is_found.0 is_found.1
    begins = subst (λ (q : ProfileView). BeginsStep q old.rest.now s is_found.0 is_found.1) (h.stands).profile is_found.2

    pub too_late : old.lines.items ≡ [] → MAX_STEPS ≤ old.steps → HandsOut p n journal ss old.rest.now output w old (Err (TooLong old.at))
    too_late empty many = (empty, inr (too_long old.at, one_too_many old.at old.rest.now s is_found.0 is_found.1 h.began begins (omega (arith, many, h.number)) refl, refl, h.stands))

    module _ (v : Shown) (few : old.steps < MAX_STEPS) where
      stops : (cause : StepFault) → old.lines.items ≡ [] → refusal packet_size (run n ss) s ≡ Some cause → StandsThen (not_made old.at cause) p n v ss → HandsOut p n journal ss old.rest.now output v old (Err (NotMade old.at cause))
      stops cause empty refuses stands = (empty, inr (not_made old.at cause, not_possible old.at old.rest.now s is_found.0 is_found.1 cause h.began begins (omega (arith, few, h.number)) refuses refl, refl, stands))

      as_before : v ≡ w → StandsAfter p n v ss
      as_before is = subst (λ (z : Shown). StandsAfter p n z ss) (sym is) h.stands

      by_cause : (e : StepFault) → old.lines.items ≡ [] → Happens w s (run n ss) (Err (fault.Refused e)) v → HandsOut p n journal ss old.rest.now output v old (Err (NotMade old.at e))
      by_cause (step_fault.NoClient k) empty (refuses, same) = stops (NoClient k) empty refuses (as_before same)
      by_cause (step_fault.NoPacket k) empty (refuses, same) = stops (NoPacket k) empty refuses (as_before same)
      by_cause (step_fault.WrongEnd k) empty (refuses, same) = stops (WrongEnd k) empty refuses (as_before same)
      by_cause (step_fault.PoolFull bytes) empty (refuses, spoiled) = stops (PoolFull bytes) empty refuses tt

      pub not_stepped : (e : StepFault) → old.lines.items ≡ [] → HappensIn w s (Err (fault.Refused e)) v → HandsOut p n journal ss old.rest.now output v old (Err (NotMade old.at e))
      not_stepped e empty happens = by_cause e empty (happens (run n ss) (h.stands).fine (h.stands).stands)

      pub made_on : (new : Replay) (outcome : Outcome) → HappensIn w s (Ok outcome) v → v.profile ≡ w.profile → length v.clients ≡ length w.clients → new.lines.items ≡ outcome_lines v old.steps outcome
          → new.rest.now ≡ drop size old.rest.now → new.goes_on ≡ old.goes_on → new.at ≡ old.at + size → new.steps ≡ old.steps + 1 → HandsOut p n journal ss old.rest.now output v new (Ok true)
      made_on new outcome happens same many is left goes at count =
          let told = lines_told w v old.steps s outcome happens same many p n ss h.stands h.number in
          let follows : StepFollows p n ss old.rest.now s is_found.0 is_found.1 new.lines.items = record {
            few = omega (arith, few, h.number);
            begins = begins;
            possible = (here w v old.steps s outcome happens same many p n ss h.stands h.number).0;
            told = subst (λ (l : List ℕ). StepLines (IsSpelled p) (length ss) (n_run n ss) s l) (sym is) told;
          } in
          let rest : new.rest.now ≡ is_found.1 = left ∙ ap (drop size) begins.parts ∙ drop_at is_found.0 is_found.1 size (sym is_found.3) in
          let place : new.at ≡ old.at + length is_found.0 = at ∙ ap (λ (k : ℕ). old.at + k) is_found.3 in (
            s,
            record {
              began = subst (λ (k : ℕ). Began p n (seen_of journal) (ss ++ s ∷ []) k new.rest.now (output ++ new.lines.items)) (sym place)
                  (subst (λ (z : List ℕ). Began p n (seen_of journal) (ss ++ s ∷ []) (old.at + length is_found.0) z (output ++ new.lines.items)) (sym rest) (one_more ss old.at old.rest.now output s is_found.0 is_found.1 new.lines.items h.began follows));
              more = goes ∙ h.more;
              number = omega (arith, h.number, count, length-append ss (s ∷ []));
              stands = stands_on w v old.steps s outcome happens same many p n ss h.stands h.number;
            },
            a_step s is_found.0 is_found.1 new.lines.items follows,
          )
