-- Messages that are sent over the link in hand, each as a packet. This project's own.
use Rattle.std.specs.Prelude.{◌≡◌, ◌⊎◌, ℕ, ◌<◌, List, [], ◌∷◌, ◌++◌, length, Bool, true, false}
use Rattle.tl_base.specs.Packets.{packet}
use Rattle.tl_base.specs.declared.host.Out.TheVariants.{Link}
use Rattle.outside.specs.Events.{put, write_failed}
use Rattle.outside.specs.Pieces.{InPieces}
use Rattle.outside.specs.Steps.{Step}
use Rattle.update_sessions.specs.Packed.{Packed}

-- less than the packets of these messages: those before some message, and less than that one's. What wasn't begun needs no spelling.
abbrev pub PartlySent : {M : Type 0} → (M → List ℕ → Type 0) → List M → List ℕ → Type 0
PartlySent Spells [] out = ⊥
PartlySent Spells (m ∷ ms) out =
    (out ≡ [])
    ⊎ ((b : List ℕ) × Spells m b × (((rest : List ℕ) × (out ++ rest ≡ packet b) × (0 < length rest)) ⊎ ((more : List ℕ) × (out ≡ packet b ++ more) × PartlySent Spells ms more)))

-- the packets of all of them are put; or less than that, and a write failed
abbrev pub Sends : {M : Type 0} → (M → List ℕ → Type 0) → List M → Step Bool
Sends Spells ms t true = (out : List ℕ) × Packed Spells ms out × InPieces (put Link) out [] t
Sends Spells ms t false = (out : List ℕ) × PartlySent Spells ms out × InPieces (put Link) out (write_failed Link ∷ []) t
