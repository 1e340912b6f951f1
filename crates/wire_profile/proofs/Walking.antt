-- One walk finds what a walk for each rule would.
use Rattle.std.proofs.Common.{◌≡◌, List, [], ◌∷◌, Option, Some, None, refl, sym, ap, ◌∙◌}
use Rattle.tl_types.specs.Values.{ValueView, int, long, nat, opaque, text, truth, absent, list, node, call, ValueViews, no_values, value}
use Rattle.wire_profile.specs.Ranges.{before}
use Rattle.wire_profile.specs.Causes.{broken, first_broken, first_among, cause_of}
use Rattle.wire_profile.specs.inner.Walks.{rules_of, first_in, unbroken, unless_broken, found_here, left, left_among, found, found_among}
use Rattle.wire_profile.specs.declared.wire_fault.WireFault.{WireFault}
use Rattle.wire_profile.specs.declared.rule.Rule.{Rule}
use Rattle.wire_profile.specs.declared.rule.Root.{Root}
use Rattle.wire_profile.specs.declared.rule.Root.TheVariants.{Frame, Call, Step, Saved}

-- ---- faults in order

in_order : (a b c : Option WireFault) → before a (before b c) ≡ before (before a b) c
in_order None b c = refl
in_order (Some x) b c = refl

nothing_later : (a : Option WireFault) → before a None ≡ a
nothing_later None = refl
nothing_later (Some x) = refl

same_first : (f g : Rule → Option WireFault) → ((rule : Rule) → f rule ≡ g rule) → (rules : List Rule) → first_in f rules ≡ first_in g rules
same_first f g e [] = refl
same_first f g e (rule ∷ rules) = ap (λ (o : Option WireFault). before o (first_in f rules)) (e rule) ∙ ap (before (g rule)) (same_first f g e rules)

none_first : (rules : List Rule) → first_in (λ rule. None) rules ≡ None
none_first [] = refl
none_first (rule ∷ rules) = none_first rules

-- ---- one record

-- a cause in the rest comes first where its rule does
passed_rule : (g : Rule → Option WireFault) (rule : Rule) (rules : List Rule) (here first later cause : Option WireFault) → before (first_in g rules) (before first cause) ≡ before later cause → before (first_in g (unless_broken here rule rules)) (before (before here first) cause) ≡ before (before (before here (g rule)) later) cause
passed_rule g rule rules None first later cause e = sym (in_order (g rule) (first_in g rules) (before first cause)) ∙ ap (before (g rule)) e ∙ in_order (g rule) later cause
passed_rule g rule rules (Some x) first later cause e = refl

passed_here : (f g : Rule → Option WireFault) (rules : List Rule) (cause : Option WireFault) → before (first_in g (unbroken f rules)) (found_here f rules cause) ≡ before (first_in (λ rule. before (f rule) (g rule)) rules) cause
passed_here f g [] cause = refl
passed_here f g (rule ∷ rules) cause = passed_rule g rule (unbroken f rules) (f rule) (first_in f rules) (first_in (λ r. before (f r) (g r)) rules) cause (passed_here f g rules cause)

-- ---- a value

-- where the walk over a record's fields passed
record_passed : (f g : Rule → Option WireFault) (rules : List Rule) (vs : ValueViews) (cause : Option WireFault) → before (first_in g (left_among (unbroken f rules) vs)) (found_among (unbroken f rules) vs (found_here f rules cause)) ≡ before (first_in (λ rule. before (first_among rule vs) (g rule)) (unbroken f rules)) (found_here f rules cause) → before (first_in g (left_among (unbroken f rules) vs)) (found_among (unbroken f rules) vs (found_here f rules cause)) ≡ before (first_in (λ rule. before (before (f rule) (first_among rule vs)) (g rule)) rules) cause
record_passed f g rules vs cause e =
    e ∙ passed_here f (λ rule. before (first_among rule vs) (g rule)) rules cause
    ∙ ap (λ (o : Option WireFault). before o cause) (same_first _ _ (λ rule. in_order (f rule) (first_among rule vs) (g rule)) rules)

mutual
  passed : (g : Rule → Option WireFault) (rules : List Rule) (v : ValueView) (cause : Option WireFault) → before (first_in g (left rules v)) (found rules v cause) ≡ before (first_in (λ rule. before (first_broken rule v) (g rule)) rules) cause
  passed g rules (list vs) cause = passed_among g rules vs cause
  passed g rules (node k vs) cause = record_passed (λ rule. broken rule k vs) g rules vs cause (passed_among g (unbroken (λ rule. broken rule k vs) rules) vs (found_here (λ rule. broken rule k vs) rules cause))
  passed g rules (call k vs) cause = record_passed (λ rule. broken rule k vs) g rules vs cause (passed_among g (unbroken (λ rule. broken rule k vs) rules) vs (found_here (λ rule. broken rule k vs) rules cause))
  passed g rules (int z) cause = refl
  passed g rules (long z) cause = refl
  passed g rules (nat n) cause = refl
  passed g rules (opaque s) cause = refl
  passed g rules (text s) cause = refl
  passed g rules truth cause = refl
  passed g rules absent cause = refl

  passed_among : (g : Rule → Option WireFault) (rules : List Rule) (vs : ValueViews) (cause : Option WireFault) → before (first_in g (left_among rules vs)) (found_among rules vs cause) ≡ before (first_in (λ rule. before (first_among rule vs) (g rule)) rules) cause
  passed_among g rules no_values cause = refl
  passed_among g rules (value v vs) cause =
      passed_among g (left rules v) vs (found rules v cause) ∙ passed (λ rule. before (first_among rule vs) (g rule)) rules v cause
      ∙ ap (λ (o : Option WireFault). before o cause) (same_first _ _ (λ rule. in_order (first_broken rule v) (first_among rule vs) (g rule)) rules)

-- ---- the first cause

ordered : (root : Root) (v : ValueView) → first_in (λ rule. first_broken rule v) (rules_of root) ≡ cause_of root v
ordered Frame v = refl
ordered Call v = refl
ordered Step v = refl
ordered Saved v = refl

pub first_cause : (root : Root) (v : ValueView) → found (rules_of root) v None ≡ cause_of root v
first_cause root v =
    let rules = rules_of root in
    sym (ap (λ (o : Option WireFault). before o (found rules v None)) (none_first (left rules v))) ∙ passed (λ rule. None) rules v None
    ∙ nothing_later _ ∙ same_first _ _ (λ rule. nothing_later (first_broken rule v)) rules ∙ ordered root v
