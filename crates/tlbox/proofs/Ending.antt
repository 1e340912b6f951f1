-- How the program's run ends, from its parts.
use Rattle.std.proofs.Common.{◌≡◌, ℕ, List, [], ◌∷◌, ◌++◌, Some, refl, sym, subst}
use Rattle.tl_base.specs.declared.host.Out.TheVariants.{State}
use Rattle.outside.specs.Answer.{write_fault_line}
use Rattle.outside.specs.declared.status.Status.{Status}
use Rattle.outside.specs.declared.status.Status.TheVariants.{Done, WriteFault}
use Rattle.outside.specs.Begun.{Did}
use Rattle.outside.specs.Events.{HostState, write_failed}
use Rattle.outside.specs.Grown.{Grew}
use Rattle.outside.specs.Pieces.{Tells}
use Rattle.outside.specs.Steps.{Grows}
use Rattle.outside.proofs.Growing.{grew_more, grew_none}
use Rattle.commands.specs.Work.{RanWords}
use Rattle.real_host.specs.declared.state_end.StateEnd.{StateEnd}
use Rattle.real_host.specs.declared.state_end.StateEnd.TheVariants.{Removed}
use Rattle.tlbox.specs.Program.{NamesState, RanProgram, done, not_done, unnamed}

pub state_unnamed : (p q r : HostState) (ends : List StateEnd) (status : Status) → Grew p (write_failed State ∷ []) q → Did (Tells write_fault_line WriteFault) q r (Some status) → Grows p r (λ t. NamesState ends t status)
state_unnamed p q r ends status fails h = record {
  trace = write_failed State ∷ h.trace;
  grew = grew_more p q r (write_failed State ∷ []) h.trace fails h.grew;
  holds = unnamed h.trace refl h.holds;
}

module _ (words : List (List ℕ)) (p q r : HostState) (ends : List StateEnd) (status : Status) where
  pub ran_named : RanWords words p q Done → Grows q r (λ t. NamesState ends t status) → RanProgram words p r ends status
  ran_named g h = record {
    trace = g.trace ++ h.trace;
    grew = grew_more p q r g.trace h.trace g.grew h.grew;
    holds = record { first = g.trace; rest = h.trace; between = Done; splits = refl; does = g.holds; goes = done refl h.holds };
  }

  pub ran_unnamed : (before : List StateEnd) → ¬ (status ≡ Done) → ends ≡ before ++ Removed ∷ [] → r ≡ q → RanWords words p q status → RanProgram words p r ends status
  ran_unnamed before other last same g = record {
    trace = g.trace ++ [];
    grew = grew_more p q r g.trace [] g.grew (subst (Grew q []) (sym same) (grew_none q));
    holds = record { first = g.trace; rest = []; between = status; splits = refl; does = g.holds; goes = not_done other (before, last) (refl, refl) };
  }
