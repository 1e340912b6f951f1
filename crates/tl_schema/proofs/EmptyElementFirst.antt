-- The first declaration that applies a name to a bare constructor without bytes.
use Rattle.std.proofs.Common.{◌⊎◌, inl, inr, ℕ, List, length, Option, refl, subst}
use Rattle.tl_lexer.proofs.Whole.{Decided}
use Rattle.tl_combinators.proofs.Decided.{decided_as, decided_and, decided_or}
use Rattle.tl_program.specs.Trees.{Tree, Trees, named, percent, any_call, no_trees, tree}
use Rattle.tl_program.specs.Program.{DeclText}
use Rattle.tl_graph.specs.Firsts.{First}
use Rattle.tl_graph.proofs.Deciding.{below_decided}
use Rattle.tl_names.specs.Parts.{SomeWritten}
use Rattle.tl_names.specs.BareReferences.{IsBareOf}
use Rattle.tl_names.specs.BareFields.{TakesNone}
use Rattle.tl_schema.specs.EmptyElement.{IsOneOf, AppliesToEmpty, EmptyElement}
use Rattle.tl_schema.proofs.WritingDecided.{writes_decided}
use Rattle.tl_schema.proofs.BareDecided.{bare_of_decided, bare_within}
use Rattle.tl_schema.proofs.TakesNoneDecided.{takes_none_decided}
use Rattle.tl_schema.proofs.Firsts.{first_that}

-- ---- one of the types is such

abbrev OneThat : (Tree → Type 0) → Trees → Type 0
OneThat P ts = (t : Tree) × IsOneOf t ts × P t

module _ (P : Tree → Type 0) where
  in_cell : (t : Tree) (ts : Trees) → P t ⊎ OneThat P ts → OneThat P (tree t ts)
  in_cell t ts (inl p) = (t, inl refl, p)
  in_cell t ts (inr (u, among, p)) = (u, inr among, p)

  of_cell : (t : Tree) (ts : Trees) (u : Tree) → IsOneOf u (tree t ts) → P u → P t ⊎ OneThat P ts
  of_cell t ts u (inl is) p = inl (subst P is p)
  of_cell t ts u (inr among) p = inr (u, among, p)

  one_that_decided : ((t : Tree) → Decided (P t)) → (ts : Trees) → Decided (OneThat P ts)
  one_that_decided test no_trees = inr (λ h. h.1)
  one_that_decided test (tree t ts) = decided_as (in_cell t ts) (λ h. of_cell t ts h.0 h.1 h.2) (decided_or (test t) (one_that_decided test ts))

-- ---- the first

-- the type is a bare constructor that takes no bytes
abbrev IsEmpty : List DeclText → DeclText → Tree → Type 0
IsEmpty ds d t = (j : ℕ) × (IsBareOf ds d t j × TakesNone ds j)

module _ (ds : List DeclText) where
  empty_decided : (d : DeclText) (t : Tree) → Decided (IsEmpty ds d t)
  empty_decided d t =
      decided_as (λ h. (h.0, h.2)) (λ h. (h.0, bare_within ds d t h.0 h.1.0, h.1))
      (below_decided (λ j. IsBareOf ds d t j × TakesNone ds j) (λ j. decided_and (bare_of_decided ds d t j) (takes_none_decided ds j)) (length ds))

  pub applies_to_empty_decided : (d : DeclText) (u : Tree) → Decided (AppliesToEmpty ds d u)
  applies_to_empty_decided d (named name args) =
      decided_as (λ h. (h.0, h.2.0, h.1, h.2.1.0, h.2.1.1)) (λ h. (h.0, h.2, (h.1, (h.3, h.4)))) (one_that_decided (IsEmpty ds d) (empty_decided d) args)
  applies_to_empty_decided d (percent u) = inr (λ h. h)
  applies_to_empty_decided d any_call = inr (λ h. h)

  pub empty_element_first : (o : Option ℕ) × First (EmptyElement ds) o
  empty_element_first = first_that ds (SomeWritten (AppliesToEmpty ds)) (λ d. writes_decided (AppliesToEmpty ds d) (applies_to_empty_decided d) d)
