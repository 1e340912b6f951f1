-- What is decided of a list's repeats.
use Rattle.std.proofs.Common.{◌≡◌, inl, inr, ℕ, Bool, List, take, slice_get, Option, Some, None, refl, sym, ◌∙◌}
use Rattle.std.specs.Bool.{Decides}
use Rattle.std.specs.List.{list_any}
use Rattle.std.proofs.lemmas.Bool.{cases_Bool}
use Rattle.std.proofs.lemmas.Option.{none-some}
use Rattle.tl_lexer.proofs.Whole.{Decided}
use Rattle.tl_names.specs.NameLists.{IsRepeat}
use Rattle.tl_schema.proofs.Repeats.{repeat_found, repeat_not_found}

module _ {X : Type 0} (eq : X → X → Bool) (same : (x y : X) → Decides (eq x y) (x ≡ y)) where
  repeat_at : (xs : List X) (k : ℕ) (o : Option X) → slice_get xs k ≡ o → Decided (IsRepeat xs k)
  repeat_at xs k None at = inr (λ r. none-some r.item (sym at ∙ r.here))
  repeat_at xs k (Some x) at = elim (cases_Bool (list_any (eq x) (take k xs))) [ inl h ↦ inl (repeat_found eq same xs k x at h) | inr h ↦ inr (repeat_not_found eq same xs k x at h) ]

  pub repeat_decided : (xs : List X) (k : ℕ) → Decided (IsRepeat xs k)
  repeat_decided xs k = repeat_at xs k (slice_get xs k) refl
