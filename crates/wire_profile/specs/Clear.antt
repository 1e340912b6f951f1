-- Values that break no rule of a root. This project's own.
use Rattle.std.specs.Prelude.{◌≡◌, IsTrue, None}
use Rattle.tl_types.specs.Values.{ValueView, ValueViews}
use Rattle.wire_profile.specs.Causes.{is_for, first_broken, first_among}
use Rattle.wire_profile.specs.declared.rule.Rule.{Rule}
use Rattle.wire_profile.specs.declared.rule.Root.{Root}

-- no record in the value breaks a rule
abbrev pub IsClear : Root → ValueView → Type 0
IsClear root v = (rule : Rule) → IsTrue (is_for root rule) → first_broken rule v ≡ None

abbrev pub AreClear : Root → ValueViews → Type 0
AreClear root vs = (rule : Rule) → IsTrue (is_for root rule) → first_among rule vs ≡ None
