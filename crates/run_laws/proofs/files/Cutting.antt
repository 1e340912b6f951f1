-- Where a trace is cut, and lines that are told.
use Rattle.std.proofs.Common.{◌≡◌, ℕ, ◌<◌, List, [], ◌∷◌, ◌++◌, length, append-nil, Bool, refl, sym, ap, ◌∙◌, subst, inl, inr, arith}
use Rattle.tl_base.specs.Outside.{View}
use Rattle.tl_base.specs.declared.host.Out.TheVariants as outs
use Rattle.outside.specs.Telling.{TellsLine}
use Rattle.outside.specs.Telling as telling
use Rattle.outside.specs.Events.{Event, Outside}
use Rattle.outside.specs.Pieces.{Tells, Writes}
use Rattle.outside.proofs.Causing.{keeps_tell}
use Rattle.outside.specs.Fits.{Fits}
use Rattle.run_laws.specs.Ended.{ErrorsFailed}
use Rattle.run_laws.proofs.serving.Lines.{errors_told}
use Rattle.run_laws.proofs.files.Spared.{ToErrors, output_left}

-- ---- where a trace is cut

-- it is cut after its first part, or within that
pub data Cut (first rest t u : List Event) : Type 0 where
  past : (more : List Event) → t ≡ first ++ more → rest ≡ more ++ u → Cut first rest t u
  within : (e : Event) (more : List Event) → first ≡ t ++ e ∷ more → u ≡ e ∷ (more ++ rest) → Cut first rest t u

first_is : (d e : Event) (t u : List Event) → d ∷ t ≡ e ∷ u → d ≡ e
first_is d e t u is = cc

rest_is : (d e : Event) (t u : List Event) → d ∷ t ≡ e ∷ u → t ≡ u
rest_is d e t u is = cc

one_later : (d e : Event) (first rest t u : List Event) → e ≡ d → Cut first rest t u → Cut (d ∷ first) rest (e ∷ t) u
one_later d e first rest t u same (past more splits after) = past more ((λ i. same i ∷ splits i)) after
one_later d e first rest t u same (within x more splits after) = within x more (λ i. sym same i ∷ splits i) after

pub cut : (first rest t u : List Event) → t ++ u ≡ first ++ rest → Cut first rest t u
cut [] rest t u is = past t refl (sym is)
cut (d ∷ first) rest [] u is = within d first refl is
cut (d ∷ first) rest (e ∷ t) u is = one_later d e first rest t u (first_is e d (t ++ u) (first ++ rest) is) (cut first rest t u (rest_is e d (t ++ u) (first ++ rest) is))

pub some_more : (e : Event) (more u rest : List Event) → u ≡ e ∷ (more ++ rest) → 0 < length u
some_more e more u rest is = omega (arith, ap length is)

-- ---- a line that is told

line_writes : {A : Type 0} (line : List ℕ) (status : A) (t : List Event) (a : A) → Tells line status t a → (ok : Bool) × Writes outs.Errors line t ok
line_writes line status t a h = (h.between, subst (λ (l : List Event). Writes outs.Errors line l h.between) (sym (h.splits ∙ ap (λ (l : List Event). h.first ++ l) h.goes.0 ∙ append-nil h.first)) h.does)

pub line_told : {A : Type 0} (line : List ℕ) (status : A) (t : List Event) (a : A) (s n : Outside) → Tells line status t a → Fits t s n → TellsLine (ErrorsFailed t) line s.view n.view
line_told line status t a s n h f =
    let w = line_writes line status t a h in
    (output_left t s n f (keeps_tell ToErrors (λ piece. tt) tt line status t a h), errors_told line t w.0 s n w.1 f)

-- after what wrote nothing to Errors
pub told_as : (W X : Type 0) (line : List ℕ) (v u w : View) → (W → X) → u.written.errors ≡ v.written.errors → telling.Tells W line u w → telling.Tells X line v w
told_as W X line v u w into same (inl all) = inl (all ∙ ap (λ (l : List ℕ). l ++ line) same)
told_as W X line v u w into same (inr (failed, (prefix, rest, join, wrote))) = inr (into failed, (prefix, rest, join, wrote ∙ ap (λ (l : List ℕ). l ++ prefix) same))
