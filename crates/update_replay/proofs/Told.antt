-- The lines that are written of a world are those that its report is to have.
use Rattle.std.proofs.Common.{◌≡◌, ℕ, List, [], ◌∷◌, ◌++◌, length, drop, None, sym, ap, ◌∙◌, subst}
use Rattle.box_events.specs.declared.steps.Step.{Step}
use Rattle.box_server.specs.Servers.{state_of}
use Rattle.box_server.proofs.Carrying.{changed_overlays}
use Rattle.box_world.specs.NumberWorlds.{NumberWorld, n_happens, numbers_of}
use Rattle.box_world.specs.Possible.{refusal}
use Rattle.box_world.specs.Worlds.{Packet, World, happens, run}
use Rattle.box_world.proofs.NumberWorlds.{numbers_follow}
use Rattle.box_world.proofs.OneMore.{clients_stay, runs_go_on}
use Rattle.report_lines.specs.Closing.{server_line}
use Rattle.report_lines.specs.Texts.{step_line}
use Rattle.update_replay.specs.StepLines.{AreSpelled, StepLines, new_packets, packet_lines, step_text}
use Rattle.update_replay.specs.Told.{all_own_lines}
use Rattle.update_replay.proofs.NextNumbers.{steps_are_of_runs}
use Rattle.update_replay.proofs.OwnLines.{closings_are_own}
use Rattle.update_world.specs.Outcomes.{outcome_of}
use Rattle.update_world.specs.Shown.{Shown, StandsFor}
use Rattle.update_world.specs.Spelled.{IsSpelled, packet_size}
use Rattle.update_world.proofs.Refusals.{named_client, named_packet}
use Rattle.update_world.proofs.SentLists.{sent_length}
use Rattle.update_replay.specs.LineLaws.{EndsAreTold, StepsAreTold}
use Rattle.update_replay.specs.WorldLines.{bytes_from, first_new, outcome_lines, outcome_text}
use Rattle.update_replay.proofs.Packets.{first_is, spelled_from}
use Rattle.update_replay.proofs.StepTexts.{text_is}

-- ---- a step

-- the lines over a world and the one after it
lines_are : (w v : World) (s : Step) (new : Shown) (k : ℕ) → v ≡ happens w s → n_happens (numbers_of w) s ≡ numbers_of v → StandsFor new v → length v.clients ≡ length w.clients → refusal packet_size w s ≡ None
    → StepLines (IsSpelled new.profile) k (numbers_of w) s (outcome_lines new k (outcome_of w s))
lines_are w v s new k is numbers st many none =
    let pool : length new.pool ≡ length (happens w s).pool = sent_length new.profile new.pool v.pool st.pool ∙ ap (λ (u : World). length u.pool) is in
    let first : first_new new (outcome_of w s) ≡ length w.pool = first_is w s new pool in
    let text : outcome_text new (outcome_of w s) ≡ step_text (numbers_of w) s (n_happens (numbers_of w) s) =
    text_is w s new (named_client packet_size w s none, named_packet packet_size w s none) (sym (ap (λ (u : World). length u.clients) is) ∙ many) (sym st.clients ∙ ap (λ (u : World). u.clients) is)
    ∙ ap (step_text (numbers_of w) s) (sym (numbers ∙ ap numbers_of is)) in
    let packets : new_packets (numbers_of w) s ≡ drop (length w.pool) v.pool = ap (λ (n : NumberWorld). drop (length w.pool) n.pool) numbers in (
      bytes_from (length w.pool) new.pool,
      subst (λ (ms : List Packet). AreSpelled (IsSpelled new.profile) ms (bytes_from (length w.pool) new.pool)) (sym packets) (spelled_from new.profile new.pool v.pool (length w.pool) st.pool),
      λ i. step_line k (text i) ++ packet_lines (first i) (bytes_from (first i) new.pool),
    )

pub steps_are_told : StepsAreTold
steps_are_told n steps s new k after none =
    let w : World = run n steps in
    let v : World = run n (steps ++ s ∷ []) in
    let many : length v.clients ≡ length w.clients = clients_stay n (steps ++ s ∷ []) ∙ sym (clients_stay n steps) in
    subst (λ (m : NumberWorld). StepLines (IsSpelled new.profile) k m s (outcome_lines new k (outcome_of w s))) (numbers_follow changed_overlays n steps)
    (lines_are w v s new k (runs_go_on n steps s) (steps_are_of_runs n steps s) after many none)

-- ---- the end

pub ends_are_told : EndsAreTold
ends_are_told n steps s st =
    (λ i. server_line (state_of (sym st.server i)) ++ all_own_lines 0 (sym st.clients i)) ∙ sym (closings_are_own n steps)
