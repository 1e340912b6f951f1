-- Values that break no rule, and their parts.
use Rattle.std.specs.Prelude.{if◌then◌else◌}
use Rattle.std.proofs.Common.{◌≡◌, ℕ, zero, suc, List, [], ◌∷◌, Option, Some, None, Bool, true, false, IsTrue, refl, ap, ◌∙◌}
use Rattle.tl_types.specs.Values.{ValueView, list, node, call, ValueViews, no_values, value}
use Rattle.wire_forms.specs.Parts.{first, rest, at, parts_of, each, row}
use Rattle.wire_forms.specs.IsOf.{IsOf, EachOf}
use Rattle.wire_forms.specs.declared.form.Cell.{Cell}
use Rattle.wire_profile.specs.Ranges.{unless, before}
use Rattle.wire_profile.specs.Causes.{is_for, broken, first_broken, first_among, looked_for, cause_of}
use Rattle.wire_profile.specs.Clear.{IsClear, AreClear}
use Rattle.wire_profile.specs.declared.rule.Rule.{Rule}
use Rattle.wire_profile.specs.declared.rule.Rule.TheVariants.{Version, Number, Update, Count, End, Date, Setting, Seq}
use Rattle.wire_profile.specs.declared.rule.Root.{Root}
use Rattle.wire_profile.specs.declared.wire_fault.WireFault.{WireFault}

some_none : {A : Type 0} (x : A) → Some x ≡ None → ⊥
some_none x e = cc

pub first_none : (a b : Option WireFault) → before a b ≡ None → a ≡ None
first_none None b e = refl
first_none (Some x) b e = absurd (some_none x e)

pub second_none : (a b : Option WireFault) → before a b ≡ None → b ≡ None
second_none None b e = e
second_none (Some x) b e = absurd (some_none x e)

pub both_none : (a b : Option WireFault) → a ≡ None → b ≡ None → before a b ≡ None
both_none None b e d = d
both_none (Some x) b e d = absurd (some_none x e)

-- a rule that holds, and back
pub holds : (b : Bool) (f : WireFault) → unless b f ≡ None → b ≡ true
holds true f e = refl
holds false f e = absurd (some_none f e)

pub none_of : (b : Bool) (f : WireFault) → b ≡ true → unless b f ≡ None
none_of true f e = refl
none_of false f e = absurd cc

taken : (b : Bool) (o : Option WireFault) → (if b then o else None) ≡ None → b ≡ true → o ≡ None
taken true o e is = e
taken false o e is = absurd cc

untaken : (b : Bool) (o : Option WireFault) → (b ≡ true → o ≡ None) → (if b then o else None) ≡ None
untaken true o e = e refl
untaken false o e = refl

-- ---- a whole value

pub clear_of : (root : Root) (v : ValueView) → cause_of root v ≡ None → IsClear root v
clear_of root v e =
    let looked : Rule → Option WireFault = λ rule. looked_for root rule v in
    let a = second_none (looked Version) _ e in
    let b = second_none (looked Number) _ a in
    let c = second_none (looked Update) _ b in
    let d = second_none (looked Count) _ c in
    let f = second_none (looked End) _ d in
    let g = second_none (looked Date) _ f in
    let h = second_none (looked Setting) _ g in
    λ rule. elim rule as (λ r. IsTrue (is_for root r) → first_broken r v ≡ None) [
      | Version ↦ taken _ _ (first_none (looked Version) _ e)
      | Number ↦ taken _ _ (first_none (looked Number) _ a)
      | Update ↦ taken _ _ (first_none (looked Update) _ b)
      | Count ↦ taken _ _ (first_none (looked Count) _ c)
      | End ↦ taken _ _ (first_none (looked End) _ d)
      | Date ↦ taken _ _ (first_none (looked Date) _ f)
      | Setting ↦ taken _ _ (first_none (looked Setting) _ g)
      | Seq ↦ taken _ _ (first_none (looked Seq) _ h)
    ]

pub no_cause : (root : Root) (v : ValueView) → IsClear root v → cause_of root v ≡ None
no_cause root v c =
    let is_none = λ (rule : Rule). untaken (is_for root rule) (first_broken rule v) (c rule) in
    both_none _ _ (is_none Version) (both_none _ _ (is_none Number) (both_none _ _ (is_none Update) (both_none _ _ (is_none Count)
    (both_none _ _ (is_none End) (both_none _ _ (is_none Date) (both_none _ _ (is_none Setting) (both_none _ _ (is_none Seq) refl)))))))

-- ---- a record, and its fields

pub clear_here : (root : Root) (k : ℕ) (vs : ValueViews) → IsClear root (node k vs) → (rule : Rule) → IsTrue (is_for root rule) → broken rule k vs ≡ None
clear_here root k vs c rule is = first_none (broken rule k vs) (first_among rule vs) (c rule is)

pub clear_fields : (root : Root) (k : ℕ) (vs : ValueViews) → IsClear root (node k vs) → AreClear root vs
clear_fields root k vs c = λ rule is. second_none (broken rule k vs) (first_among rule vs) (c rule is)

pub clear_node : (root : Root) (k : ℕ) (vs : ValueViews) → ((rule : Rule) → IsTrue (is_for root rule) → broken rule k vs ≡ None) → AreClear root vs → IsClear root (node k vs)
clear_node root k vs here c = λ rule is. both_none (broken rule k vs) (first_among rule vs) (here rule is) (c rule is)

pub call_here : (root : Root) (k : ℕ) (vs : ValueViews) → IsClear root (call k vs) → (rule : Rule) → IsTrue (is_for root rule) → broken rule k vs ≡ None
call_here root k vs c rule is = first_none (broken rule k vs) (first_among rule vs) (c rule is)

pub call_fields : (root : Root) (k : ℕ) (vs : ValueViews) → IsClear root (call k vs) → AreClear root vs
call_fields root k vs c = λ rule is. second_none (broken rule k vs) (first_among rule vs) (c rule is)

pub clear_call : (root : Root) (k : ℕ) (vs : ValueViews) → ((rule : Rule) → IsTrue (is_for root rule) → broken rule k vs ≡ None) → AreClear root vs → IsClear root (call k vs)
clear_call root k vs here c = λ rule is. both_none (broken rule k vs) (first_among rule vs) (here rule is) (c rule is)

-- ---- values in a row

pub clear_first : (root : Root) (vs : ValueViews) → AreClear root vs → IsClear root (first vs)
clear_first root no_values c = λ rule is. refl
clear_first root (value v vs) c = λ rule is. first_none (first_broken rule v) (first_among rule vs) (c rule is)

pub clear_rest : (root : Root) (vs : ValueViews) → AreClear root vs → AreClear root (rest vs)
clear_rest root no_values c = c
clear_rest root (value v vs) c = λ rule is. second_none (first_broken rule v) (first_among rule vs) (c rule is)

pub clear_at : (root : Root) (i : ℕ) (vs : ValueViews) → AreClear root vs → IsClear root (at i vs)
clear_at root zero vs c = clear_first root vs c
clear_at root (suc i) vs c = clear_at root i (rest vs) (clear_rest root vs c)

pub clear_parts : (root : Root) (v : ValueView) → IsClear root v → AreClear root (parts_of v)
clear_parts root (list vs) c = c
clear_parts root (node k vs) c = clear_fields root k vs c
clear_parts root (call k vs) c = call_fields root k vs c
clear_parts root v c = λ rule is. refl

pub clear_value : (root : Root) (v : ValueView) (vs : ValueViews) → IsClear root v → AreClear root vs → AreClear root (value v vs)
clear_value root v vs c cs = λ rule is. both_none (first_broken rule v) (first_among rule vs) (c rule is) (cs rule is)

-- what is made of each element, if it is clear
pub clear_row : {A : Type 0} (root : Root) (f : A → ValueView) → ((x : A) → IsClear root (f x)) → (xs : List A) → AreClear root (row f xs)
clear_row root f law [] = λ rule is. refl
clear_row root f law (x ∷ xs) = clear_value root (f x) (row f xs) (law x) (clear_row root f law xs)

-- elements that are each their own again
pub each_same : {A : Type 0} (root : Root) (c : Cell) (f : ValueView → A) (g : A → ValueView) → ((v : ValueView) → IsOf c v → IsClear root v → g (f v) ≡ v) → (vs : ValueViews) → EachOf c vs → AreClear root vs → row g (each f vs) ≡ vs
each_same root c f g law no_values is clear = refl
each_same root c f g law (value v vs) is clear =
    ap (λ (u : ValueView). value u (row g (each f vs))) (law v is.0 (clear_first root (value v vs) clear)) ∙ ap (value v) (each_same root c f g law vs is.1 (clear_rest root (value v vs) clear))
