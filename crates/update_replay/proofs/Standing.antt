-- The lines of a summary.
use Rattle.std.proofs.Common.{◌≡◌, ℕ, ◌+◌, ◌≤◌, List, [], ◌++◌, append_assoc, length, drop, map, Some, sym, ap, ◌∙◌}
use Rattle.std.specs.Prelude.{slice_get}
use Rattle.box_client.specs.States.{ClientState}
use Rattle.box_client.specs.Numbers.{client_numbers}
use Rattle.box_server.specs.Servers.{state_of}
use Rattle.box_world.specs.NumberWorlds.{n_run}
use Rattle.box_world.specs.Worlds.{run}
use Rattle.report_lines.specs.Closing.{server_line}
use Rattle.report_lines.specs.Texts.{made_line, standing_line}
use Rattle.update_replay.specs.Summaries.{standing_lines, summary}
use Rattle.update_replay.proofs.Summing.{summaries_are_of_runs}
use Rattle.wire_profile.specs.Profiles.{IsProfile}
use Rattle.box_events.specs.declared.positions.State.{State}
use Rattle.box_events.specs.declared.steps.Step.{Step}
use Rattle.update_world.specs.Shown.{Shown, StandsFor, bytes_of}
use Rattle.update_world.specs.Spelled.{packet_size}
use Rattle.update_world.proofs.SentLists.{sent_bytes, sent_length}
use Rattle.update_replay.specs.MadeSteps.{shown_summary}
use Rattle.update_replay.proofs.LineLists.{from, no_more, one_more, past}

-- clients from a number on
abbrev pub standing_from : ℕ → List ClientState → List ℕ
standing_from k cs = standing_lines k (map client_numbers (drop k cs))

pub standing_more : (cs : List ClientState) (k : ℕ) (c : ClientState) (old new all : List ℕ) → slice_get cs k ≡ Some c → new ≡ old ++ standing_line k (client_numbers c) → old ++ standing_from k cs ≡ all → new ++ standing_from (k + 1) cs ≡ all
standing_more cs k c old new all at is before =
    one_more old (standing_line k (client_numbers c)) (standing_from (k + 1) cs) new (standing_from k cs) all is (ap (λ (ds : List ClientState). standing_lines k (map client_numbers ds)) (from cs k c at)) before

pub standing_end : (cs : List ClientState) (k : ℕ) (old all : List ℕ) → length cs ≤ k → old ++ standing_from k cs ≡ all → old ≡ all
standing_end cs k old all le before = no_more old (standing_from k cs) all (ap (λ (ds : List ClientState). standing_lines k (map client_numbers ds)) (past cs k le)) before

-- the three parts
pub three_puts : (b c d s t u : List ℕ) → b ≡ [] ++ s → c ≡ b ++ t → d ≡ c ++ u → d ≡ s ++ t ++ u
three_puts b c d s t u p q r = r ∙ (λ i. (q i) ++ u) ∙ (λ i. (p i ++ t) ++ u) ∙ (let joined : (s ++ t) ++ u ≡ s ++ t ++ u = simp append_assoc in joined)

-- the whole summary
pub summed : (a b c d : List ℕ) (count packets bytes : ℕ) (state : State) (shown : Shown) → a ≡ [] → packets ≡ length shown.pool → bytes ≡ bytes_of shown.pool → state ≡ state_of shown.server → b ≡ a ++ made_line count packets bytes → c ≡ b ++ server_line state
    → d ≡ c ++ standing_lines 0 (map client_numbers shown.clients) → d ≡ shown_summary count shown
summed a b c d count packets bytes state shown none many sum at p q r =
    three_puts b c d (made_line count (length shown.pool) (bytes_of shown.pool)) (server_line (state_of shown.server)) (standing_lines 0 (map client_numbers shown.clients))
    (p ∙ (λ i. none i ++ made_line count (many i) (sum i))) (q ∙ ap (λ (z : State). b ++ server_line z) at) r

-- what is shown of the world of a run has the run's summary
pub summary_is : (shown : Shown) → IsProfile shown.profile → (n count : ℕ) (steps : List Step) → StandsFor shown (run n steps) → shown_summary count shown ≡ summary packet_size count (n_run n steps)
summary_is shown is n count steps st =
    let w = run n steps in
    let many : length shown.pool ≡ length w.pool = sent_length shown.profile shown.pool w.pool st.pool in
    let bytes = sent_bytes shown.profile is shown.pool w.pool st.pool in
    (λ i. made_line count (many i) (bytes i) ++ server_line (state_of (sym st.server i)) ++ standing_lines 0 (map client_numbers (sym st.clients i)))
    ∙ sym (summaries_are_of_runs packet_size n count steps)
