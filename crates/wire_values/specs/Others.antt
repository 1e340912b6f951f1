-- A difference's other updates: edits, deletes and read marks, and settings apart from them. This project's own.
use Rattle.std.specs.Prelude.{Bool, true, ◌&&◌, ◌||◌, not, ◌==◌, if◌then◌else◌}
use Rattle.tl_types.specs.Values.{ValueView, ValueViews, no_values, value}
use Rattle.wire_forms.specs.Parts.{entry_of}
use Rattle.wire_forms.specs.declared.numbers.TheConstants.{UPDATE_EDIT_MESSAGE, UPDATE_DELETE_MESSAGES, UPDATE_SETTING, UPDATE_READ_HISTORY}

-- a setting
abbrev pub is_setting : ValueView → Bool
is_setting t = entry_of t == UPDATE_SETTING

-- an edit, a delete or a read mark of the common box
abbrev pub is_other : ValueView → Bool
is_other t = (entry_of t == UPDATE_EDIT_MESSAGE) || ((entry_of t == UPDATE_DELETE_MESSAGES) || (entry_of t == UPDATE_READ_HISTORY))

-- those that are of a kind
abbrev pub kept : (ValueView → Bool) → ValueViews → ValueViews
kept f no_values = no_values
kept f (value t ts) = if f t then value t (kept f ts) else kept f ts

-- one list after the other
abbrev pub joined : ValueViews → ValueViews → ValueViews
joined no_values us = us
joined (value t ts) us = value t (joined ts us)

-- those that are no settings
abbrev pub others_of : ValueViews → ValueViews
others_of ts = kept (λ t. not (is_setting t)) ts

-- the settings
abbrev pub settings_of : ValueViews → ValueViews
settings_of ts = kept is_setting ts

-- only edits, deletes and read marks, and settings where they may stand there
abbrev pub are_others : Bool → ValueViews → Bool
are_others with_settings no_values = true
are_others with_settings (value t ts) = (is_other t || (with_settings && is_setting t)) && are_others with_settings ts
