-- What is made of a text: something, or a refusal with its line. This project's own.
use Rattle.std.specs.Prelude.{◌≡◌, ℕ, List, Result, Ok, Err, Vec}
use Rattle.std.specs.declared.alloc.Global.{Global}
use Rattle.std.specs.declared.alloc.AllocError.{AllocError}
use Rattle.tl_base.specs.declared.source.TextFault.{TextFault}
use Rattle.tl_base.specs.declared.source.TextFault.TheVariants as text
use Rattle.outside.specs.declared.stop.Stop.{Stop}
use Rattle.outside.specs.declared.stop.Stop.TheVariants as stop
use Rattle.outside.specs.declared.stop.LoadError.{LoadError}
use Rattle.outside.specs.declared.stop.LoadError.TheVariants as load_error

-- a refusal with a line of which this holds; or there was no memory
abbrev pub Refuses : (List ℕ → Type 0) → LoadError → Type 0
Refuses Says (load_error.Refused line) = Says line.items
Refuses Says load_error.ReadFault = ⊥
Refuses Says load_error.Memory = Unit {0}

-- a refusal with this line; or there was no memory for it
abbrev pub RefusesAs : List ℕ → LoadError → Type 0
RefusesAs line fault = Refuses (λ told. told ≡ line) fault

-- the other end's fault with this line, or out of memory where there is no line
abbrev pub PeerBy : Result (Vec ℕ Global) AllocError → Stop → Type 0
PeerBy (Ok line) s = s ≡ stop.Peer line
PeerBy (Err e) s = s ≡ stop.Memory

-- likewise, where the other end is at fault
abbrev pub PeerAs : List ℕ → Stop → Type 0
PeerAs line (stop.Peer told) = told.items ≡ line
PeerAs line (stop.Refused told) = ⊥
PeerAs line stop.ReadFault = ⊥
PeerAs line stop.WriteFault = ⊥
PeerAs line stop.LinkFault = ⊥
PeerAs line stop.Memory = Unit {0}

-- what is made of a text: what is the text's, or a refusal whose line tells of the text
abbrev pub Gives : {X : Type 0} → (List ℕ → X → Type 0) → (List ℕ → List ℕ → Type 0) → List ℕ → Result X LoadError → Type 0
Gives Is Tells text (Ok x) = Is text x
Gives Is Tells text (Err fault) = Refuses (Tells text) fault

abbrev pub of_text : TextFault → LoadError
of_text text.ReadFault = load_error.ReadFault
of_text text.Memory = load_error.Memory
