-- A value that has a spelling is never refused.
use Rattle.std.proofs.Common.{◌≡◌, List, ℕ, Option, Some, None, Err, Result, Vec, Global, Ok}
use Rattle.std.specs.Prelude.{IfOk}
use Rattle.tl_types.specs.Fitting.{MisfitView, TellsMisfit}
use Rattle.tl_types.specs.declared.misfit.FitFault.{FitFault}
use Rattle.tl_types.specs.declared.misfit.FitFault.TheVariants as fit
use Rattle.tl_encode.specs.Encoding.{TellsFit, WritesSpelling, as_encode_fault}
use Rattle.tl_encode.specs.inner.Walks.{GivesBytes}

never_told : {P : Type 0} (m : Option MisfitView) (n : MisfitView) → m ≡ None → m ≡ Some n → P
never_told m n none some = absurd cc

pub only_memory : (m : Option MisfitView) (fault : FitFault) (old new : Option (List ℕ)) (spelling : List ℕ) → m ≡ None → TellsFit m (Err fault) → WritesSpelling old new spelling (Err (as_encode_fault fault))
only_memory m (fit.Misfit told) old new spelling none tells = never_told m (told.path.items, told.cause) none tells
only_memory m fit.Memory old new spelling none tells = tt

-- what is told of a value that doesn't fit is told of its bytes
pub never_given : (m : Option MisfitView) (fault : FitFault) → TellsMisfit m (Err fault) → TellsFit m (Err fault)
never_given m (fit.Misfit told) tells = tells
never_given m fit.Memory tells = tt

pub never_fits : (m : Option MisfitView) (fault : FitFault) → TellsFit m (Err fault) → TellsMisfit m (Err fault)
never_fits m (fit.Misfit told) tells = tells
never_fits m fit.Memory tells = tt

pub only_memory_given : (m : Option MisfitView) (bytes : List ℕ) (fault : FitFault) (old new : Option (List ℕ)) (spelling : List ℕ) → m ≡ None → GivesBytes m bytes (Err fault) → WritesSpelling old new spelling (Err (as_encode_fault fault))
only_memory_given m bytes (fit.Misfit told) old new spelling none gives = never_told m (told.path.items, told.cause) none gives
only_memory_given m bytes fit.Memory old new spelling none gives = tt

-- ---- bytes in memory

pub gives_spelling : (m : Option MisfitView) (bytes spelled : List ℕ) (r : Result (Vec ℕ Global) FitFault) → GivesBytes m bytes r → ((own : List ℕ) → own ≡ bytes → own ≡ spelled) → IfOk r (λ given. given.items ≡ spelled)
gives_spelling m bytes spelled (Ok given) gives whole = whole given.items gives.1
gives_spelling m bytes spelled (Err fault) gives whole = tt

pub tells_fit : (m : Option MisfitView) (bytes : List ℕ) (r : Result (Vec ℕ Global) FitFault) → GivesBytes m bytes r → TellsFit m r
tells_fit m bytes (Ok given) gives = gives.0
tells_fit m bytes (Err (fit.Misfit told)) gives = gives
tells_fit m bytes (Err fit.Memory) gives = tt
