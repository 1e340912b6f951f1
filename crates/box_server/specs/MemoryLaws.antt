-- What a keeper in memory rests on.
use Rattle.std.specs.Prelude.{ℕ, ◌<◌, ◌≤◌, ◌^◌, length, Vec}
use Rattle.std.specs.declared.alloc.Global.{Global}
use Rattle.std.proofs.Common.{arith}
use Rattle.box_server.specs.declared.entry.Entry.{Entry}

pub few_entries : (es : Vec Entry Global) (room : ℕ) → length es.items ≤ room → room < 2 ^ 32 → length es.items < 2 ^ 32
few_entries es room fits few = omega (arith)
