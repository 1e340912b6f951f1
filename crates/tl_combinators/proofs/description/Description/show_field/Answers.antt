use Rattle.std.proofs.Common.{◌≡◌, ℕ, ◌+◌, ◌-◌, ◌≤◌, take, drop, List, ◌∙◌, sym, ap, ap₂, subst}
use Rattle.std.proofs.lemmas.Result.{on_ok_weaker}
use Rattle.tl_lexer.specs.declared.token.Token.{Token}
use Rattle.tl_combinators.specs.declared.description.FieldShowing.{FieldShowing}
use Rattle.tl_combinators.specs.declared.description.FieldShowing.TheVariants.{WithString}
use Rattle.tl_combinators.specs.DescriptionSoFar.{Described, all_shown, all_as_string, field_shown_by}
use Rattle.tl_combinators.proofs.TokenParts.{part_front, part_back}
use Rattle.tl_combinators.proofs.description.Description.show_field.Goals as goal

module _ (text : List ℕ) (ts : List Token) (from front n to : ℕ) (order : from + front ≤ to) (same : n ≡ front) where
  -- the part in two, at the field's type
  in_two : (d e f : Described) (s : FieldShowing) → WithString ≡ s
      → e ≡ all_shown text (take (from + n - from) (drop from ts)) d → f ≡ all_as_string text (take (to - (from + n)) (drop (from + n) ts)) e
      → f ≡ field_shown_by s text front (take (to - from) (drop from ts)) d
  in_two d e f s w p q =
      let head = ap (λ k. take (from + k - from) (drop from ts)) same ∙ sym (part_front ts from front to order) in
      let back = ap (λ k. take (to - (from + k)) (drop (from + k) ts)) same ∙ sym (part_back ts from front to order) in
      subst (λ z. f ≡ field_shown_by z text front (take (to - from) (drop from ts)) d) w
      (q ∙ ap₂ (λ (xs : List Token) (x : Described). all_as_string text xs x) back (p ∙ ap (λ (xs : List Token). all_shown text xs d) head))

pub returns-in_ok-show_all-in-WithString : goal.returns-in_ok-show_all-in-WithString
returns-in_ok-show_all-in-WithString c =
    on_ok_weaker c.show_all_as_string.result
    (λ q. in_two c.args.text.now c.args.tokens.now c.args.from _ c.before_type.result c.args.to c.requires.order c.before_type.ensures _ c.show_all.new.self c.show_all_as_string.new.self _ (sym c.in-WithString.is ∙ c.field_showing.ensures) c.in_ok-show_all-in-WithString.ensures q)
    c.show_all_as_string.ensures
