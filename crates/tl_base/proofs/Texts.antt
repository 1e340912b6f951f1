-- A text is taken piece by piece, up to a fault.
use Rattle.std.proofs.Common.{◌≡◌, ℕ, ◌+◌, ◌<◌, List, ◌++◌, length, Option, Some, None, Err, arith, ap, sym, ◌∙◌, subst}
use Rattle.std.specs.Prelude.{IfSome}
use Rattle.std.specs.Io.KnownBytes.{Consumes}
use Rattle.std.proofs.KnownBytes.{Consumes-trans}
use Rattle.std.proofs.lemmas.List.{length-append}
use Rattle.tl_base.specs.Taking.{TakesPiece, TakesUpTo}
use Rattle.tl_base.specs.declared.source.TextFault.{TextFault}
use Rattle.tl_base.specs.declared.source.TextFault.TheVariants as text

-- a piece that isn't taken ends the text
pub stopped : (a b c : Option (List ℕ)) (taken new : List ℕ) (most room : ℕ) (f : TextFault) → Consumes a b taken → room + length taken ≡ most → 0 < room → new ≡ taken
    → IfSome b (λ bytes. TakesPiece room taken new bytes c (Err f)) → IfSome a (λ bytes. TakesUpTo most new bytes c (Err f))
stopped None b c taken new most room f so_far few some kept piece = tt
stopped (Some x) None c taken new most room f so_far few some kept piece = absurd so_far
stopped (Some x) (Some y) c taken new most room text.ReadFault so_far few some kept piece =
    (subst (λ (o : Option (List ℕ)). Consumes (Some x) o new) (sym piece.1) (so_far ∙ ap (λ (l : List ℕ). l ++ y) (sym kept)), omega (arith, few, some, ap length kept))
stopped (Some x) (Some y) c taken new most room text.Memory so_far few some kept piece =
    (taken ++ piece.0, Consumes-trans (Some x) (Some y) c taken piece.0 so_far piece.1, omega (arith, length-append taken piece.0, few, piece.2))
