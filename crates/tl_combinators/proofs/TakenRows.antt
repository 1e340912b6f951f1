-- A rule that gives the tokens of its row is sure, and whole, as the rule is.
use Rattle.std.proofs.Common.{◌≡◌, List, ◌++◌, sym, ◌∙◌, ap, inl, inr}
use Rattle.std.proofs.lemmas.List.{append_cancel_right}
use Rattle.tl_lexer.specs.Rule.{Rule}
use Rattle.tl_lexer.proofs.Sure.{Sure}
use Rattle.tl_lexer.proofs.Whole.{Whole, Outcome}
use Rattle.tl_combinators.specs.Taken.{taken}
use Rattle.tl_combinators.proofs.Rows.{Rows, IsSuffix}

module _ {T F A : Type 0} (r : Rule T F A) where
  pairs : (a b : A) (c d : List T) → a ≡ b → c ≡ d → ◌≡◌ {A = A × List T} (a, c) (b, d)
  pairs a b c d p q = cc

  rows_same : (ts rest more xs ys : List T) → ts ≡ xs ++ rest → ts ≡ ys ++ more → rest ≡ more → xs ≡ ys
  rows_same ts rest more xs ys p q e = append_cancel_right xs ys more (ap (λ (z : List T). xs ++ z) (sym e) ∙ sym p ∙ q)

  module _ (one : Sure r) where
    taken_same : (ts rest more : List T) (x y : A × List T) → (taken r).reads ts x rest → (taken r).reads ts y more → (x ≡ y) × (rest ≡ more)
    unfolding taken
    taken_same ts rest more x y p q =
        let e = one.same ts rest more x.0 y.0 p.0 q.0 in
        (pairs x.0 y.0 x.1 y.1 e.0 (rows_same ts rest more x.1 y.1 p.1 q.1 e.1), e.1)

    pub sure_taken : Sure (taken r)
    unfolding taken
    sure_taken = record { same = taken_same; apart = λ ts rest x f p q. one.apart ts rest x.0 f p.0 q; fault = λ ts f g p q. one.fault ts f g p q }

  taken_given : (ts : List T) → Rows r → Outcome r ts → Outcome (taken r) ts
  unfolding taken
  taken_given ts rows (inl (x, rest, h)) = with_row (rows.given ts rest x h)
    where
      with_row : IsSuffix ts rest → Outcome (taken r) ts
      with_row (row, e) = inl ((x, row), rest, (h, e))
  taken_given ts rows (inr (f, h)) = inr (f, h)

  pub whole_taken : Rows r → Whole r → Whole (taken r)
  whole_taken rows whole = record { given = λ ts. taken_given ts rows (whole.given ts) }
