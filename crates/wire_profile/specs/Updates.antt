-- The updates of a container, and those of a difference. This project's own.
use Rattle.std.specs.Prelude.{ℕ, ◌+◌, Option, None, Bool, ◌&&◌, ◌||◌, nat_le, ◌==◌, if◌then◌else◌}
use Rattle.tl_types.specs.Values.{ValueView, ValueViews, no_values, value}
use Rattle.box_events.specs.declared.limits.TheConstants.{MAX_END}
use Rattle.wire_forms.specs.Parts.{parts_of, entry_of, int_of, word_of, held}
use Rattle.wire_forms.specs.declared.numbers.TheConstants.{UPDATE_EDIT_MESSAGE, UPDATE_DELETE_MESSAGES, UPDATE_SETTING, UPDATE_READ_HISTORY}
use Rattle.wire_profile.specs.Ranges.{unless, before}
use Rattle.wire_profile.specs.declared.wire_fault.WireFault.{WireFault}
use Rattle.wire_profile.specs.declared.wire_fault.WireFault.TheVariants.{WrongUpdate, UnorderedSetting, BadSeq}

-- how many of the updates are settings
abbrev pub settings : ValueViews → ℕ
settings no_values = 0
settings (value v vs) = (if entry_of v == UPDATE_SETTING then 1 else 0) + settings vs

-- of a container
abbrev pub unordered : ValueView → ValueView → Option WireFault
unordered updates seq = unless (nat_le 1 (word_of seq) || (settings (parts_of updates) == 0)) UnorderedSetting

-- the seqs from `start` on are those of so many settings, the last being `seq`; without a seq nothing is asked of the rest
abbrev pub is_pack : ℕ → ℕ → ℕ → Bool
is_pack many start seq = (seq == 0) || ((nat_le 1 start && nat_le start seq) && (nat_le seq MAX_END && (many + start == seq + 1)))

-- of a container
abbrev pub bad_pack : ValueView → ValueView → ValueView → Option WireFault
bad_pack updates start seq = unless (is_pack (settings (parts_of updates)) (word_of start) (word_of seq)) (BadSeq (int_of start) (int_of seq))

-- an update of this form may stand in a difference, beside new messages
abbrev pub is_other : Bool → ℕ → Bool
is_other with_settings k = (k == UPDATE_EDIT_MESSAGE) || ((k == UPDATE_DELETE_MESSAGES) || ((k == UPDATE_READ_HISTORY) || (with_settings && (k == UPDATE_SETTING))))

-- the first update that may not stand in a difference; that many stand before these
abbrev pub wrong_among : Bool → ℕ → ValueViews → Option WireFault
wrong_among with_settings place no_values = None
wrong_among with_settings place (value v vs) = before (unless (is_other with_settings (entry_of v)) (WrongUpdate (held place))) (wrong_among with_settings (place + 1) vs)

-- of a difference's other updates
abbrev pub wrong_update : Bool → ValueView → Option WireFault
wrong_update with_settings others = wrong_among with_settings 0 (parts_of others)
