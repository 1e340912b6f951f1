-- Numbers that a message may have. A number below 0 has 32 bits that are above each of the limits here. This project's own.
use Rattle.std.specs.Prelude.{ℕ, ◌-◌, ◌^◌, ℤ, pos, min, Option, Some, None, Bool, ◌&&◌, nat_le, ◌==◌, if◌then◌else◌}
use Rattle.tl_types.specs.Values.{ValueView, count}
use Rattle.box_events.specs.declared.limits.TheConstants.{MAX_END, MAX_IDS}
use Rattle.wire_forms.specs.Parts.{parts_of, int_of, word_of}
use Rattle.wire_profile.specs.declared.wire_fault.WireFault.{WireFault}
use Rattle.wire_profile.specs.declared.wire_fault.WireFault.TheVariants.{BadNumber, BadCount, BadEnd, BadDate, BadSeq}

-- a fault, unless this holds
abbrev pub unless : Bool → WireFault → Option WireFault
unless holds fault = if holds then None else Some fault

-- the first of two faults
abbrev pub before : Option WireFault → Option WireFault → Option WireFault
before None later = later
before (Some fault) later = Some fault

abbrev pub is_between : ℕ → ℕ → ValueView → Bool
is_between least most v = nat_le least (word_of v) && nat_le (word_of v) most

abbrev pub bad_number : ℕ → ValueView → Option WireFault
bad_number least v = unless (is_between least (2 ^ 31 - 1) v) (BadNumber (int_of v))

abbrev pub bad_end : ℕ → ValueView → Option WireFault
bad_end least pts = unless (is_between least MAX_END pts) (BadEnd (int_of pts))

abbrev pub bad_date : ValueView → Option WireFault
bad_date date = unless (is_between 0 (2 ^ 31 - 1) date) (BadDate (int_of date))

-- of a seq that stands by itself
abbrev pub bad_seq : ValueView → Option WireFault
bad_seq seq = unless (is_between 0 MAX_END seq) (BadSeq (int_of seq) (int_of seq))

abbrev pub bad_count : Bool → ValueView → ValueView → Option WireFault
bad_count holds pts count = unless holds (BadCount (int_of pts) (int_of count))

-- of an event that counts 1
abbrev pub not_one : ValueView → ValueView → Option WireFault
not_one pts count = bad_count (word_of count == 1) pts count

-- so many ids may stand in a delete
abbrev pub are_few : ℕ → Bool
are_few ids = nat_le 1 ids && nat_le ids MAX_IDS

abbrev pub is_count : ℕ → ℕ → Bool
is_count ids count = are_few ids && (count == ids)

-- of an event that counts its ids
abbrev pub not_of_ids : ValueView → ValueView → ValueView → Option WireFault
not_of_ids ids pts stated = bad_count (is_count (count (parts_of ids)) (word_of stated)) pts stated

-- a number of elements, as far as 32 bits with a sign hold it
abbrev pub small : ℕ → ℤ
small n = pos (min n (2 ^ 31 - 1))

-- of ids that stand by themselves
abbrev pub bad_ids : ValueView → Option WireFault
bad_ids ids = unless (are_few (count (parts_of ids))) (BadCount (pos 0) (small (count (parts_of ids))))
