-- What words ask to keep. This project's own.
use Rattle.std.specs.Prelude.{◌≡◌, ℕ, List, [], ◌∷◌, codes, Option, Some, None}
use Rattle.commands.specs.Numbers.{IsNumberWord}
use Rattle.commands.specs.Requests.{IsOperand, sessions_range}
use Rattle.commands.specs.declared.keep_words.KeepRequest.{KeepRequest}

-- a request to keep: of the file its name alone is asked
pub record KeepText : Type 0 where
  pub schema : List ℕ
  pub address : List ℕ
  pub sessions : ℕ
  pub file : List ℕ

-- the words are `keep SCHEMA ADDRESS SESSIONS FILE`
abbrev pub AsksToKeep : List (List ℕ) → KeepText → Type 0
AsksToKeep words k =
    (n : List ℕ) × (words ≡ codes "keep" ∷ k.schema ∷ k.address ∷ n ∷ k.file ∷ []) × IsOperand k.schema × IsOperand k.address × IsNumberWord sessions_range n k.sessions × IsOperand k.file

-- the words ask to keep nothing
abbrev pub AsksNoKeep : List (List ℕ) → Type 0
AsksNoKeep words = (k : KeepText) → AsksToKeep words k → ⊥

abbrev pub keep_text : KeepRequest → KeepText
keep_text k = record { schema = k.schema.now; address = k.address.now; sessions = k.sessions; file = k.file.now }

abbrev pub FindsKeep : List (List ℕ) → Option KeepRequest → Type 0
FindsKeep words (Some k) = AsksToKeep words (keep_text k)
FindsKeep words None = AsksNoKeep words

abbrev pub FindsOperands : List ℕ → List ℕ → List ℕ → List ℕ → Option KeepRequest → Type 0
FindsOperands schema address n file (Some k) = (k.schema.now ≡ schema) × (k.address.now ≡ address) × (k.file.now ≡ file) × IsOperand schema × IsOperand address × IsNumberWord sessions_range n k.sessions × IsOperand file
FindsOperands schema address n file None = (k : ℕ) → IsOperand schema → IsOperand address → IsNumberWord sessions_range n k → IsOperand file → ⊥
