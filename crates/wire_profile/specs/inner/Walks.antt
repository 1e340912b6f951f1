-- How one walk over a value finds its first cause: a rule that is broken ends the rules, and those before it are looked for in the rest.
-- What was found last is the cause, if none of the rules that are left is broken. This project's own.
use Rattle.std.specs.Prelude.{List, [], ◌∷◌, Option, Some, None}
use Rattle.std.specs.List.{filter}
use Rattle.tl_types.specs.Values.{ValueView, list, node, call, ValueViews, no_values, value}
use Rattle.wire_profile.specs.Ranges.{before}
use Rattle.wire_profile.specs.Causes.{order, is_for, broken}
use Rattle.wire_profile.specs.declared.wire_fault.WireFault.{WireFault}
use Rattle.wire_profile.specs.declared.rule.Rule.{Rule}
use Rattle.wire_profile.specs.declared.rule.Root.{Root}

-- the rules for a root, in order
abbrev pub rules_of : Root → List Rule
rules_of root = filter (is_for root) order

-- the first of what is broken of these rules
abbrev pub first_in : (Rule → Option WireFault) → List Rule → Option WireFault
first_in f [] = None
first_in f (rule ∷ rules) = before (f rule) (first_in f rules)

-- ---- one record

abbrev pub unless_broken : Option WireFault → Rule → List Rule → List Rule
unless_broken None rule later = rule ∷ later
unless_broken (Some fault) rule later = []

-- the rules before the first that is broken
abbrev pub unbroken : (Rule → Option WireFault) → List Rule → List Rule
unbroken f [] = []
unbroken f (rule ∷ rules) = unless_broken (f rule) rule (unbroken f rules)

-- the cause, after one that was found before
abbrev pub found_here : (Rule → Option WireFault) → List Rule → Option WireFault → Option WireFault
found_here f rules cause = before (first_in f rules) cause

-- ---- a value

abbrev mutual
  -- the rules that are left after the value
  pub left : List Rule → ValueView → List Rule
  left rules (list vs) = left_among rules vs
  left rules (node k vs) = left_among (unbroken (λ rule. broken rule k vs) rules) vs
  left rules (call k vs) = left_among (unbroken (λ rule. broken rule k vs) rules) vs
  left rules v = rules

  pub left_among : List Rule → ValueViews → List Rule
  left_among rules no_values = rules
  left_among rules (value v vs) = left_among (left rules v) vs

abbrev mutual
  -- the cause, after one that was found before
  pub found : List Rule → ValueView → Option WireFault → Option WireFault
  found rules (list vs) cause = found_among rules vs cause
  found rules (node k vs) cause = found_among (unbroken (λ rule. broken rule k vs) rules) vs (found_here (λ rule. broken rule k vs) rules cause)
  found rules (call k vs) cause = found_among (unbroken (λ rule. broken rule k vs) rules) vs (found_here (λ rule. broken rule k vs) rules cause)
  found rules v cause = cause

  pub found_among : List Rule → ValueViews → Option WireFault → Option WireFault
  found_among rules no_values cause = cause
  found_among rules (value v vs) cause = found_among (left rules v) vs (found rules v cause)
