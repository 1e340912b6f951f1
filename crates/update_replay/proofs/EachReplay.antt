-- Each journal is replayed to its end, or to what is refused there.
use Rattle.std.proofs.Common.{◌≡◌, ◌⊎◌, inl, inr, ℕ, zero, suc, ◌+◌, ◌*◌, ◌^◌, ◌<◌, ◌≤◌, List, [], ◌∷◌, ◌++◌, length, length-append, drop, Bool, true, false, Option, Some, None, refl, sym, ap, ◌∙◌, subst, arith}
use Rattle.std.specs.List.{All}
use Rattle.std.specs.Prelude.{IsTrue, slice_get, ⊤}
use Rattle.std.proofs.lemmas.Bool.{cases_lt}
use Rattle.std.proofs.lemmas.List.Elements.{All-nil, All-push}
use Rattle.std.proofs.lemmas.Option.{none-some}
use Rattle.tl_numbers.specs.Bytes.{AreBytes}
use Rattle.tl_types.proofs.Numbers.{bytes_after}
use Rattle.box_events.specs.declared.steps.Step.{Step}
use Rattle.box_events.specs.declared.replies.Frame.TheVariants as frame
use Rattle.wire_profile.specs.Indexes.{ProfileView}
use Rattle.wire_profile.specs.Profiles.{IsProfile}
use Rattle.wire_values.specs.Calls.{call_in, call_tree}
use Rattle.wire_values.specs.Carried.{FitsCall, FitsStep}
use Rattle.wire_values.specs.CarriedFrames.{FitsFrame, IsFrame}
use Rattle.wire_values.specs.Frames.{frame_in, frame_tree}
use Rattle.wire_values.specs.Steps.{step_in, step_tree}
use Rattle.wire_values.proofs.CallsAndValues.{call_fits}
use Rattle.wire_values.proofs.FitFrames.{frame_fits}
use Rattle.box_wire.specs.Kinds.{calls, frames, steps}
use Rattle.box_wire.specs.Laws.{AreSpelled}
use Rattle.box_wire.proofs.CallLaws.{call_laws}
use Rattle.box_wire.proofs.FrameLaws.{frame_laws}
use Rattle.box_wire.proofs.ReadBack.{are_spelled}
use Rattle.box_wire.proofs.StepLaws.{step_laws}
use Rattle.box_world.specs.SizeLaws.{MeantFit}
use Rattle.box_world.proofs.MessagesFit.{step_in_fits}
use Rattle.box_world.proofs.SpelledMessages.{meant_fit}
use Rattle.box_world.specs.SpelledWorlds.{FitsPacket, IsStep}
use Rattle.box_world.proofs.FittingWorlds.{runs_fit}
use Rattle.box_server.proofs.Carrying.{changed_overlays}
use Rattle.box_world.specs.NumberWorlds.{NumberWorld, n_run}
use Rattle.box_world.specs.declared.fault.StepFault.{StepFault}
use Rattle.box_world.specs.Possible.{bytes_in, refusal}
use Rattle.box_world.specs.Worlds.{Packet, push, request, reply, World, happens, run}
use Rattle.box_world.proofs.NumberWorlds.{numbers_follow}
use Rattle.box_world.proofs.OneMore.{runs_go_on}
use Rattle.update_replay.specs.Closings.{closing_lines}
use Rattle.update_replay.specs.StepLines as reports
use Rattle.update_replay.specs.StepLines.{StepLines, new_packets, step_lines}
use Rattle.update_replay.proofs.NextNumbers.{steps_are_of_runs}
use Rattle.update_world.specs.Spelled.{IsSpelled, packet_size}
use Rattle.update_world.proofs.Refusals.{not_full}
use Rattle.update_world.proofs.WireLaws.{calls_long, frames_long}
use Rattle.update_replay.specs.Endings.{Ending, whole, not_made, too_long, of_refusal}
use Rattle.update_replay.specs.Replays.{BeginsStep, StepFollows, Began, one_more, Replays, no_step_follows, one_too_many, not_possible, at_its_end}
use Rattle.update_replay.specs.Replays as replays
use Rattle.update_replay.specs.declared.limits.TheConstants.{MAX_STEPS}
use Rattle.update_replay.proofs.JournalSteps.{step_long, step_or_refusal}

-- ---- packets have spellings

frames_spelled : AreSpelled frames frame_tree FitsFrame
frames_spelled = are_spelled frames frame_tree frame_in IsFrame FitsFrame frame_laws frame_fits

calls_spelled : AreSpelled calls call_tree FitsCall
calls_spelled = are_spelled calls call_tree call_in (λ _. ⊤) FitsCall call_laws call_fits

packet_spelled : (p : ProfileView) → IsProfile p → (m : Packet) → FitsPacket m → (b : List ℕ) × IsSpelled p m b
packet_spelled p good (push q) fits = frames_spelled p good (frame.Push q) fits
packet_spelled p good (request k n) fits = calls_spelled p good n fits
packet_spelled p good (reply k n r s) fits = frames_spelled p good (frame.Reply n r) fits

all_spelled : (p : ProfileView) → IsProfile p → (ms : List Packet) → ((i : ℕ) (m : Packet) → slice_get ms i ≡ Some m → FitsPacket m) → (sent : List (List ℕ)) × reports.AreSpelled (IsSpelled p) ms sent
all_spelled p good [] fits = ([], tt)
all_spelled p good (m ∷ ms) fits =
    let here = packet_spelled p good m (fits 0 m refl) in
    let rest = all_spelled p good ms (λ i x at. fits (suc i) x at) in
    (here.0 ∷ rest.0, (here.1, rest.1))

behind : (ms : List Packet) (k i : ℕ) (m : Packet) → slice_get (drop k ms) i ≡ Some m → (j : ℕ) × (slice_get ms j ≡ Some m)
behind [] zero i m at = absurd (none-some m at)
behind [] (suc k) i m at = absurd (none-some m at)
behind (x ∷ ms) zero i m at = (i, at)
behind (x ∷ ms) (suc k) i m at = let r = behind ms k i m at in (suc r.0, r.1)

-- ---- a pool that isn't too full has few packets

packet_long : (m : Packet) → 8 ≤ packet_size m
packet_long (push q) = frames_long (frame.Push q)
packet_long (request k n) = calls_long n
packet_long (reply k n r s) = frames_long (frame.Reply n r)

eight_each : (ms : List Packet) → 8 * length ms ≤ bytes_in packet_size ms
eight_each [] = omega arith
eight_each (m ∷ ms) = let here = packet_long m in let rest = eight_each ms in omega (arith, here, rest)

few_packets : (w : World) (s : Step) → refusal packet_size w s ≡ None → length (happens w s).pool < 2 ^ 32
few_packets w s possible =
    let most = not_full packet_size w s possible in
    let each = eight_each (happens w s).pool in
    omega (arith, most, each)

-- ---- a step's lines

steps_fit : MeantFit steps step_tree (λ _. ⊤) FitsStep
steps_fit = meant_fit steps step_tree step_in (λ _. ⊤) step_laws FitsStep step_in_fits

is_step : (p : ProfileView) → IsProfile p → (left : List ℕ) (s : Step) (x rest : List ℕ) → BeginsStep p left s x rest → IsStep s
is_step p good left s x rest b = record { fits = steps_fit p good s x tt b.means; clear = ap steps.cause (sym (b.means).same) ∙ (b.means).clear }

sent_of : (n : ℕ) (ss : List Step) (s : Step) → new_packets (n_run n ss) s ≡ drop (length (run n ss).pool) (run n (ss ++ s ∷ [])).pool
sent_of n ss s =
    ap (λ (w : NumberWorld). new_packets w s) (sym (numbers_follow changed_overlays n ss))
    ∙ ap (λ (w : NumberWorld). drop (length (run n ss).pool) w.pool) (steps_are_of_runs n ss s)

pub step_told : (p : ProfileView) → IsProfile p → (n : ℕ) (ss : List Step) (s : Step) → All IsStep ss → IsStep s → refusal packet_size (run n ss) s ≡ None → (told : List ℕ) × StepLines (IsSpelled p) (length ss) (n_run n ss) s told
step_told p good n ss s all is possible =
    let few : length (run n (ss ++ s ∷ [])).pool < 2 ^ 32 = subst (λ (w : World). length w.pool < 2 ^ 32) (sym (runs_go_on n ss s)) (few_packets (run n ss) s possible) in
    let fits = runs_fit n (ss ++ s ∷ []) (All-push IsStep ss s all is) few in
    let sent = all_spelled p good (drop (length (run n ss).pool) (run n (ss ++ s ∷ [])).pool) (λ i m at. let b = behind (run n (ss ++ s ∷ [])).pool (length (run n ss).pool) i m at in fits.pool b.0 m b.1) in
    (step_lines (length ss) (n_run n ss) s sent.0, (sent.0, subst (λ (ms : List Packet). reports.AreSpelled (IsSpelled p) ms sent.0) (sym (sent_of n ss s)) sent.1, refl))

-- ---- a whole journal

record Answer (p : ProfileView) (n : ℕ) (seen : List ℕ) (more : Bool) : Type 0 where
  made : List Step
  output : List ℕ
  ending : Ending
  replays : Replays p n seen more made output ending

-- no byte is left and the journal doesn't go on; or bytes follow, or it goes on
either_end : (left : List ℕ) (more : Bool) → ((left ≡ []) × (more ≡ false)) ⊎ ((0 < length left) ⊎ IsTrue more)
either_end [] false = inl (refl, refl)
either_end [] true = inr (inr refl)
either_end (b ∷ left) more = inr (inl (omega arith))

possible_or : (o : Option StepFault) → (o ≡ None) ⊎ ((cause : StepFault) × (o ≡ Some cause))
possible_or None = inl refl
possible_or (Some cause) = inr (cause, refl)

shorter : (p : ProfileView) (left : List ℕ) (s : Step) (x rest : List ℕ) → BeginsStep p left s x rest → length rest < length left
shorter p left s x rest b = let long = step_long p left s x rest b in omega (arith, ap length b.parts, length-append x rest, long)

module _ (p : ProfileView) (good : IsProfile p) (n : ℕ) (seen : List ℕ) (more : Bool) where
  abbrev Further : List Step → List ℕ → Type 0
  Further ss left = (s : Step) (x rest told : List ℕ) → StepFollows p n ss left s x rest told → IsStep s → Answer p n seen more

  by_step : (ss : List Step) (at : ℕ) (left lines : List ℕ) → Began p n seen ss at left lines → All IsStep ss → (s : Step) (x rest : List ℕ) → BeginsStep p left s x rest → Further ss left → Answer p n seen more
  by_step ss at left lines b all s x rest begins further = elim (cases_lt (length ss) MAX_STEPS) [
    | inr many ↦ record { made = ss; output = lines; ending = too_long at; replays = one_too_many at left s x rest b begins many refl }
    | inl few ↦ elim (possible_or (refusal packet_size (run n ss) s)) [
      | inl possible ↦
          let is = is_step p good left s x rest begins in
          let told = step_told p good n ss s all is possible in
          further s x rest told.0 (record { few = few; begins = begins; possible = possible; told = told.1 }) is
      | inr (cause, refused) ↦ record { made = ss; output = lines; ending = not_made at cause; replays = not_possible at left s x rest cause b begins few refused refl }
    ]
  ]

  ended_or : (ss : List Step) (at : ℕ) (left lines : List ℕ) → Began p n seen ss at left lines → AreBytes left → All IsStep ss → Further ss left → Answer p n seen more
  ended_or ss at left lines b are all further = elim (either_end left more) [
    | inl (none, stays) ↦ record {
      made = ss;
      output = lines ++ closing_lines (n_run n ss);
      ending = whole (length ss);
      replays = at_its_end at lines (subst (λ (z : List ℕ). Began p n seen ss at z lines) none b) stays refl refl;
    }
    | inr goes ↦ elim (step_or_refusal p good left are) [
      | inl (s, x, rest, begins) ↦ by_step ss at left lines b all s x rest begins further
      | inr (fault, refused) ↦ record { made = ss; output = lines; ending = of_refusal more at fault; replays = no_step_follows at left fault b (refused, goes) refl }
    ]
  ]

  -- by the most bytes that may be left
  answered : (k : ℕ) (ss : List Step) (at : ℕ) (left lines : List ℕ) → Began p n seen ss at left lines → AreBytes left → All IsStep ss → length left ≤ k → Answer p n seen more
  answered zero ss at left lines b are all most = ended_or ss at left lines b are all (λ s x rest told follows is. absurd (let less = shorter p left s x rest follows.begins in omega (arith, most, less)))
  answered (suc k) ss at left lines b are all most = ended_or ss at left lines b are all (λ s x rest told follows is.
      let less = shorter p left s x rest follows.begins in
      answered k (ss ++ s ∷ []) (at + length x) rest (lines ++ told) (one_more ss at left lines s x rest told b follows) (bytes_after left x rest (follows.begins).parts are) (All-push IsStep ss s all is) (omega (arith, most, less)))

pub each_replayed : (p : ProfileView) → IsProfile p → (n : ℕ) (seen : List ℕ) (more : Bool) → AreBytes seen → (ss : List Step) × (output : List ℕ) × (ending : Ending) × Replays p n seen more ss output ending
each_replayed p good n seen more are =
    let a = answered p good n seen more (length seen) [] 0 seen [] replays.none are (All-nil IsStep) (omega arith) in
    (a.made, a.output, a.ending, a.replays)
