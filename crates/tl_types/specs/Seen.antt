-- The value that the code's own stands for. This project's own.
use Rattle.std.specs.Prelude.{List, map}
use Rattle.tl_types.specs.Values.{ValueView, ValueViews, values_of}
use Rattle.tl_types.specs.Values as value
use Rattle.tl_types.specs.declared.value.Value.{Value, fold-Value}
use Rattle.tl_types.specs.declared.value.Value.TheOpen.{Value-F}

-- one level, with each value inside already seen
abbrev pub view_step : Value-F ValueView → ValueView
view_step (Value-F.Int z) = value.int z
view_step (Value-F.Long z) = value.long z
view_step (Value-F.Nat n) = value.nat n
view_step (Value-F.Opaque bytes) = value.opaque bytes
view_step (Value-F.Text bytes) = value.text bytes
view_step Value-F.Truth = value.truth
view_step Value-F.Absent = value.absent
view_step (Value-F.List items) = value.list (values_of items.items)
view_step (Value-F.Node i fields) = value.node i (values_of fields.items)
view_step (Value-F.Call i fields) = value.call i (values_of fields.items)

abbrev pub view : Value → ValueView
view = fold-Value ValueView view_step

abbrev pub views : List Value → ValueViews
views vs = values_of (map view vs)
