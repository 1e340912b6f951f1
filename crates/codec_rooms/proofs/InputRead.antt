-- What reading an input does.
use Rattle.std.proofs.Common.{ℕ, List, [], sym, subst}
use Rattle.tl_base.specs.declared.host.Slot.TheVariants.{Input}
use Rattle.tl_schema.specs.Schemas.{Declared}
use Rattle.tl_schema.specs.Types.{Shape}
use Rattle.outside.specs.Events.{Event, took, ended, read_failed}
use Rattle.outside.specs.Laws.{Throughout, Keeps}
use Rattle.outside.proofs.Causing.{keeps_loop}
use Rattle.codec_rooms.specs.Decode.{ReadsOn, more, decided, at_end, failed, ReadsValue, at_once, reads}

module _ (D : Declared) (T : Shape) where
  module _ (P : Event → Type 0) (each : (bytes : List ℕ) → P (took Input bytes)) (end : P (ended Input)) (fail : P (read_failed Input)) where
    pub keeps_read : (bytes : List ℕ) → Keeps P (ReadsOn D T bytes)
    keeps_read bytes t _ (more piece is o) = subst (Throughout P) (sym is) (each piece, tt)
    keeps_read bytes t _ (decided piece why is d) = subst (Throughout P) (sym is) (each piece, tt)
    keeps_read bytes t _ (at_end r is e) = subst (Throughout P) (sym is) (end, tt)
    keeps_read bytes t _ (failed is) = subst (Throughout P) (sym is) (fail, tt)

    pub keeps_value : Keeps P (ReadsValue D T)
    keeps_value t r (at_once why none d is) = subst (Throughout P) (sym none) tt
    keeps_value t r (reads o h) = keeps_loop P (ReadsOn D T) keeps_read [] t r h
