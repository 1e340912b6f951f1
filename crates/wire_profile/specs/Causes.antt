-- Why a value of the protocol's forms is no message: the first cause, in one order for all. This project's own.
use Rattle.std.specs.Prelude.{ℕ, List, [], ◌∷◌, Option, None, Bool, true, false, if◌then◌else◌}
use Rattle.tl_types.specs.Values.{ValueView, list, node, call, ValueViews, no_values, value}
use Rattle.wire_profile.specs.Ranges.{before}
use Rattle.wire_profile.specs.Rules.{version_fault, number_fault, update_fault, count_fault, end_fault, date_fault, setting_fault, seq_fault, not_served}
use Rattle.wire_profile.specs.declared.wire_fault.WireFault.{WireFault}
use Rattle.wire_profile.specs.declared.rule.Rule.{Rule}
use Rattle.wire_profile.specs.declared.rule.Rule.TheVariants.{Version, Number, Update, Count, End, Date, Setting, Seq}
use Rattle.wire_profile.specs.declared.rule.Root.{Root}
use Rattle.wire_profile.specs.declared.rule.Root.TheVariants.{Frame, Call, Step, Saved}

-- The rules in the order in which their causes are answered.
abbrev pub order : List Rule
order = Version ∷ Number ∷ Update ∷ Count ∷ End ∷ Date ∷ Setting ∷ Seq ∷ []

-- The rules for each root: no other cause is answered there.
abbrev pub is_for : Root → Rule → Bool
is_for Frame Version = false
is_for Frame rule = true
is_for Call Number = true
is_for Call Date = true
is_for Call rule = false
is_for Step Number = true
is_for Step Date = true
is_for Step rule = false
is_for Saved Update = false
is_for Saved Setting = false
is_for Saved rule = true

-- what one record breaks of a rule
abbrev pub broken : Rule → ℕ → ValueViews → Option WireFault
broken Version = version_fault
broken Number = number_fault
broken Update = update_fault
broken Count = count_fault
broken End = end_fault
broken Date = date_fault
broken Setting = setting_fault
broken Seq = seq_fault

-- what the first record breaks that breaks the rule, in order of fields, a record before those in its fields
abbrev mutual
  pub first_broken : Rule → ValueView → Option WireFault
  first_broken rule (list vs) = first_among rule vs
  first_broken rule (node k vs) = before (broken rule k vs) (first_among rule vs)
  first_broken rule (call k vs) = before (broken rule k vs) (first_among rule vs)
  first_broken rule v = None

  pub first_among : Rule → ValueViews → Option WireFault
  first_among rule no_values = None
  first_among rule (value v vs) = before (first_broken rule v) (first_among rule vs)

-- what is broken of a rule, where the root has it
abbrev pub looked_for : Root → Rule → ValueView → Option WireFault
looked_for root rule v = if is_for root rule then first_broken rule v else None

-- the first cause by these rules, in order
abbrev pub first_of : Root → List Rule → ValueView → Option WireFault
first_of root [] v = None
first_of root (rule ∷ rules) v = before (looked_for root rule v) (first_of root rules v)

-- the first cause in a frame, a step or a saved client
abbrev pub cause_of : Root → ValueView → Option WireFault
cause_of root v = first_of root order v

-- the first cause in a call
abbrev pub call_cause : ValueView → Option WireFault
call_cause v = before (not_served v) (cause_of Call v)
