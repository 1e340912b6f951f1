-- What holds of the values of cells holds of a record's fields, the final flag among them.
use Rattle.std.proofs.Common.{Bool, sym, subst}
use Rattle.tl_types.specs.Values.{ValueView}
use Rattle.wire_forms.specs.declared.form.Cell.{Cell}
use Rattle.wire_forms.specs.declared.form.Cell.TheVariants.{Whole, Signed, Long, Body, Key, Ids, Bodies, Flags, Final, Many, One, Bare, ManyBare, Query}
use Rattle.wire_forms.specs.Parts.{flag, is_final}
use Rattle.wire_forms.specs.IsOf.{IsField, IsOf}

module _ (P : Cell → ValueView → Type 0) (of_flag : (b : Bool) → P Final (flag b)) where
  pub field_has : (flags : ValueView) (c : Cell) (v : ValueView) → (IsOf c v → P c v) → IsField flags c v (IsOf c v) → P c v
  field_has flags Final v law is = subst (P Final) (sym is) (of_flag (is_final flags))
  field_has flags Whole v law is = law is
  field_has flags Signed v law is = law is
  field_has flags Long v law is = law is
  field_has flags Body v law is = law is
  field_has flags Key v law is = law is
  field_has flags Ids v law is = law is
  field_has flags Bodies v law is = law is
  field_has flags Flags v law is = law is
  field_has flags (Many h) v law is = law is
  field_has flags (One h) v law is = law is
  field_has flags (Bare j) v law is = law is
  field_has flags (ManyBare j) v law is = law is
  field_has flags Query v law is = law is
