-- The lines of bytes that are no message, and of messages that are too long, where out of memory has none. This project's own.
use Rattle.std.specs.Prelude.{ℕ, ℤ, List, ◌++◌, Option, Some, None, codes, decimal}
use Rattle.std.specs.Fmt.{signed_decimal}
use Rattle.tl_types.specs.Offsets.{moved}
use Rattle.outside.specs.Answer.{placed_line, unplaced_line}
use Rattle.schema_files.specs.Lines.{cause_text}
use Rattle.wire_profile.specs.declared.wire_fault.WireFault.{WireFault}
use Rattle.wire_profile.specs.declared.wire_fault.WireFault.TheVariants as wire
use Rattle.box_wire.specs.declared.fault.SpellFault.{SpellFault}
use Rattle.box_wire.specs.declared.fault.SpellFault.TheVariants as spell

-- the offset of what is refused, or its index among the updates, where the cause has one
abbrev pub wire_place : WireFault → Option ℕ
wire_place (wire.Refused place cause) = Some place
wire_place (wire.Trailing place) = Some place
wire_place (wire.NotServed place) = Some place
wire_place (wire.WrongUpdate place) = Some place
wire_place (wire.BadVersion version) = None
wire_place (wire.BadNumber number) = None
wire_place (wire.BadCount pts count) = None
wire_place (wire.BadEnd pts) = None
wire_place (wire.BadDate date) = None
wire_place wire.UnorderedSetting = None
wire_place (wire.BadSeq seq_start seq) = None

-- causes of two values
abbrev pub count_words : ℤ → ℤ → List ℕ
count_words pts count = ((codes "BadCount " ++ signed_decimal pts) ++ codes " ") ++ signed_decimal count

abbrev pub seq_words : ℤ → ℤ → List ℕ
seq_words seq_start seq = ((codes "BadSeq " ++ signed_decimal seq_start) ++ codes " ") ++ signed_decimal seq

-- the cause, and its values; a refusal of the bytes is told by its own cause
abbrev pub wire_words : WireFault → List ℕ
wire_words (wire.Refused place cause) = cause_text cause
wire_words (wire.Trailing place) = codes "Trailing"
wire_words (wire.NotServed place) = codes "NotServed"
wire_words (wire.WrongUpdate place) = codes "WrongUpdate"
wire_words (wire.BadVersion version) = codes "BadVersion " ++ signed_decimal version
wire_words (wire.BadNumber number) = codes "BadNumber " ++ signed_decimal number
wire_words (wire.BadCount pts count) = count_words pts count
wire_words (wire.BadEnd pts) = codes "BadEnd " ++ signed_decimal pts
wire_words (wire.BadDate date) = codes "BadDate " ++ signed_decimal date
wire_words wire.UnorderedSetting = codes "UnorderedSetting"
wire_words (wire.BadSeq seq_start seq) = seq_words seq_start seq

-- a cause at its place, or without one
abbrev pub line_at : List ℕ → Option ℕ → List ℕ → List ℕ
line_at what None why = unplaced_line what why
line_at what (Some place) why = placed_line what place why

-- of bytes that are no message, by what their input is called
abbrev pub wire_line : List ℕ → WireFault → List ℕ
wire_line what fault = line_at what (wire_place fault) (wire_words fault)

-- ---- journals

-- a place after the offset at which the step begins, which stops at 2^64 - 1; that offset, where there is none
abbrev pub step_place : ℕ → Option ℕ → ℕ
step_place at None = at
step_place at (Some place) = moved at place

-- of bytes in a journal that begin no step, by the offset at which it begins
abbrev pub step_line : ℕ → WireFault → List ℕ
step_line at fault = placed_line (codes "journal") (step_place at (wire_place fault)) (wire_words fault)

-- ---- messages that are not sent

abbrev pub spell_line : SpellFault → Option (List ℕ)
spell_line (spell.TooLong length) = Some (unplaced_line (codes "input") (codes "TooLong " ++ decimal length))
spell_line spell.Memory = None
