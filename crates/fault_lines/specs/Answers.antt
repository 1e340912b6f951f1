-- The lines of answers that a client refuses. This project's own.
use Rattle.std.specs.Prelude.{List, ◌++◌, ℕ, codes, decimal}
use Rattle.std.specs.Fmt.{signed_decimal}
use Rattle.outside.specs.Answer.{unplaced_line}
use Rattle.box_events.specs.declared.difference_fault.WeaveFault.{WeaveFault}
use Rattle.box_events.specs.declared.difference_fault.WeaveFault.TheVariants as weave
use Rattle.box_client.specs.declared.fault.ClientFault.{ClientFault}
use Rattle.box_client.specs.declared.fault.ClientFault.TheVariants as client

-- causes of several values
abbrev pub uneven_words : ℕ → ℕ → ℕ → List ℕ
uneven_words from covered to = ((((codes "Uneven " ++ decimal from) ++ codes " ") ++ decimal covered) ++ codes " ") ++ decimal to

abbrev pub seq_words : ℕ → ℕ → List ℕ
seq_words at seq = ((codes "SeqBack " ++ decimal at) ++ codes " ") ++ decimal seq

-- why events make no list, with its numbers
abbrev pub weave_words : WeaveFault → List ℕ
weave_words (weave.Overlap pts) = codes "Overlap " ++ decimal pts
weave_words (weave.Uneven from covered to) = uneven_words from covered to

-- the cause, and its values
abbrev pub answer_words : ClientFault → List ℕ
answer_words (client.PeerError code) = codes "PeerError " ++ signed_decimal code
answer_words client.WrongKind = codes "WrongKind"
answer_words (client.Weave fault) = weave_words fault
answer_words (client.SeqBack at seq) = seq_words at seq

abbrev pub answer_line : ClientFault → List ℕ
answer_line fault = unplaced_line (codes "peer") (answer_words fault)
