-- Whether some element of a list, or the one at an index, is such.
use Rattle.std.proofs.Common.{◌≡◌, inl, inr, ℕ, zero, suc, ◌<◌, Bool, true, false, List, [], ◌∷◌, length, slice_get, Option, Some, None, bytes_eq, refl, sym, subst, true≢false, arith}
use Rattle.std.proofs.lemmas.Bool.{cases_order}
use Rattle.std.proofs.lemmas.Option.{none-some, same_Some, slice_get_within}
use Rattle.std.proofs.lemmas.Slice.Eq.{bytes_eq-Decides}
use Rattle.tl_lexer.proofs.Whole.{Decided}
use Rattle.tl_combinators.proofs.Decided.{decided_as}
use Rattle.tl_graph.proofs.Deciding.{below_decided}
use Rattle.tl_names.specs.NameLists.{IsRepeat}
use Rattle.tl_schema.proofs.Deciding.{repeat_decided}

-- ---- numbers and tests

pub bool_decided : (a b : Bool) → Decided (a ≡ b)
bool_decided true true = inl refl
bool_decided true false = inr true≢false
bool_decided false true = inr (λ e. true≢false (sym e))
bool_decided false false = inl refl

pub less_decided : (m n : ℕ) → Decided (m < n)
less_decided m n = elim (cases_order m n) [
  | inl e ↦ inr (λ less. omega (arith, e, less))
  | inr (inl less) ↦ inl less
  | inr (inr more) ↦ inr (λ less. omega (arith, more, less))
]

-- ---- options and lists

-- the option holds such a value
pub option_decided : {X : Type 0} (o : Option X) (P : X → Type 0) → ((x : X) → Decided (P x)) → Decided ((x : X) × (o ≡ Some x) × P x)
option_decided None P test = inr (λ h. none-some h.0 h.1)
option_decided (Some y) P test = decided_as (λ p. (y, refl, p)) (λ h. subst P (sym (same_Some y h.0 h.1)) h.2) (test y)

-- one of the elements is such at its place
pub some_decided : {X : Type 0} (xs : List X) (P : ℕ → X → Type 0) → ((i : ℕ) (x : X) → Decided (P i x)) → Decided ((i : ℕ) × (x : X) × (slice_get xs i ≡ Some x) × P i x)
some_decided [] P test = inr (λ h. none-some h.1 h.2)
some_decided {X = X} (y ∷ xs) P test = by (test 0 y) (some_decided xs (λ i. P (suc i)) (λ i. test (suc i)))
  where
    neither : (P 0 y → ⊥) → (((i : ℕ) × (x : X) × (slice_get xs i ≡ Some x) × P (suc i) x) → ⊥) → (i : ℕ) (x : X) → slice_get (y ∷ xs) i ≡ Some x → P i x → ⊥
    neither here behind zero x at p = here (subst (P 0) (sym (same_Some y x at)) p)
    neither here behind (suc i) x at p = behind (i, x, at, p)

    by : Decided (P 0 y) → Decided ((i : ℕ) × (x : X) × (slice_get xs i ≡ Some x) × P (suc i) x) → Decided ((i : ℕ) × (x : X) × (slice_get (y ∷ xs) i ≡ Some x) × P i x)
    by (inl p) d = inl (0, y, refl, p)
    by (inr here) (inl (i, x, at, p)) = inl (suc i, x, at, p)
    by (inr here) (inr behind) = inr (λ h. neither here behind h.0 h.1 h.2 h.3)

-- some name stands there twice
pub names_repeat_decided : (names : List (List ℕ)) → Decided ((i : ℕ) × IsRepeat names i)
names_repeat_decided names = decided_as (λ h. (h.0, h.2)) (λ h. (h.0, slice_get_within names h.0 h.1.item h.1.here, h.1)) (below_decided _ (repeat_decided bytes_eq bytes_eq-Decides names) (length names))
