use Rattle.std.proofs.Common.{◌≡◌, ◌++◌, drop, string_bytes}
use Rattle.tl_show.specs.Shown.{name_text}
use Rattle.tl_show.proofs.parts.name_text.Given as goal

abbrev pub invariant-loop-byte : goal.invariant-loop-byte
invariant-loop-byte l = string_bytes l.text ++ name_text (drop l.byte-index l.name) ≡ name_text l.name
