-- Whether types are equal, what they are, and whether some part of one is such.
use Rattle.std.proofs.Common.{◌≡◌, ◌⊎◌, inl, inr, ℕ, List, refl, ap, sym, ◌∙◌, subst}
use Rattle.tl_lexer.proofs.Whole.{Decided}
use Rattle.tl_combinators.proofs.Decided.{decided_as, decided_or, text_decided}
use Rattle.tl_program.specs.Trees.{Tree, Trees, named, percent, any_call, no_trees, tree}
use Rattle.tl_names.specs.Parts.{IsPart, IsPartOfOne}

-- ---- equal types

same_name : (m n : List ℕ) (ts us : Trees) → named m ts ≡ named n us → m ≡ n
same_name m n ts us e = cc

same_args : (m n : List ℕ) (ts us : Trees) → named m ts ≡ named n us → ts ≡ us
same_args m n ts us e = cc

same_under : (t u : Tree) → percent t ≡ percent u → t ≡ u
same_under t u e = cc

named_same : (m n : List ℕ) (ts us : Trees) → Decided (m ≡ n) → Decided (ts ≡ us) → Decided (named m ts ≡ named n us)
named_same m n ts us (inl e) (inl f) = inl cc
named_same m n ts us (inl e) (inr other) = inr (λ f. other (same_args m n ts us f))
named_same m n ts us (inr other) d = inr (λ f. other (same_name m n ts us f))

cells : (t u : Tree) (ts us : Trees) → Decided (t ≡ u) → Decided (ts ≡ us) → Decided (tree t ts ≡ tree u us)
cells t u ts us (inl e) (inl f) = inl cc
cells t u ts us (inl e) (inr other) = inr (λ f. other cc)
cells t u ts us (inr other) d = inr (λ f. other cc)

percent_same : (t u : Tree) → Decided (t ≡ u) → Decided (percent t ≡ percent u)
percent_same t u (inl e) = inl cc
percent_same t u (inr other) = inr (λ f. other (same_under t u f))

mutual
  pub type_decided : (t u : Tree) → Decided (t ≡ u)
  type_decided (named m ts) (named n us) = named_same m n ts us (text_decided m n) (types_decided ts us)
  type_decided (named m ts) (percent u) = inr (λ e. absurd cc)
  type_decided (named m ts) any_call = inr (λ e. absurd cc)
  type_decided (percent t) (named n us) = inr (λ e. absurd cc)
  type_decided (percent t) (percent u) = percent_same t u (type_decided t u)
  type_decided (percent t) any_call = inr (λ e. absurd cc)
  type_decided any_call (named n us) = inr (λ e. absurd cc)
  type_decided any_call (percent u) = inr (λ e. absurd cc)
  type_decided any_call any_call = inl refl

  pub types_decided : (ts us : Trees) → Decided (ts ≡ us)
  types_decided no_trees no_trees = inl refl
  types_decided no_trees (tree u us) = inr (λ e. absurd cc)
  types_decided (tree t ts) no_trees = inr (λ e. absurd cc)
  types_decided (tree t ts) (tree u us) = cells t u ts us (type_decided t u) (types_decided ts us)

-- ---- what a type is

-- a name with arguments that are such
pub named_decided : (P : List ℕ → Trees → Type 0) → ((name : List ℕ) (args : Trees) → Decided (P name args)) → (t : Tree) → Decided ((name : List ℕ) × (args : Trees) × (t ≡ named name args) × P name args)
named_decided P test (named m ts) =
    decided_as (λ p. (m, ts, refl, p)) (λ h. subst (λ n. P n ts) (sym (same_name m h.0 ts h.1 h.2)) (subst (P h.0) (sym (same_args m h.0 ts h.1 h.2)) h.3)) (test m ts)
named_decided P test (percent t) = inr (λ h. let e = h.2 in absurd cc)
named_decided P test any_call = inr (λ h. let e = h.2 in absurd cc)

-- this name with some arguments
pub this_name_decided : (name : List ℕ) (t : Tree) → Decided ((args : Trees) × (t ≡ named name args))
this_name_decided name t =
    decided_as (λ h. (h.1, h.2 ∙ ap (λ n. named n h.1) h.3)) (λ h. (name, h.0, h.1, refl)) (named_decided (λ n args. n ≡ name) (λ n args. text_decided n name) t)

-- `%` before a type that is such
pub percent_decided : (P : Tree → Type 0) → ((t : Tree) → Decided (P t)) → (t : Tree) → Decided ((u : Tree) × (t ≡ percent u) × P u)
percent_decided P test (named m ts) = inr (λ h. let e = h.1 in absurd cc)
percent_decided P test (percent t) = decided_as (λ p. (t, refl, p)) (λ h. subst P (sym (same_under t h.0 h.1)) h.2) (test t)
percent_decided P test any_call = inr (λ h. let e = h.1 in absurd cc)

-- ---- parts

-- such a part of the type, of one of the types
abbrev pub PartThat : (Tree → Type 0) → Tree → Type 0
PartThat P t = (u : Tree) × IsPart u t × P u

abbrev PartOfOneThat : (Tree → Type 0) → Trees → Type 0
PartOfOneThat P ts = (u : Tree) × IsPartOfOne u ts × P u

module _ (P : Tree → Type 0) where
  module _ (name : List ℕ) (ts : Trees) where
    in_named : P (named name ts) ⊎ PartOfOneThat P ts → PartThat P (named name ts)
    in_named (inl p) = (named name ts, inl refl, p)
    in_named (inr (u, part, p)) = (u, inr part, p)

    of_named : (u : Tree) → IsPart u (named name ts) → P u → P (named name ts) ⊎ PartOfOneThat P ts
    of_named u (inl e) p = inl (subst P e p)
    of_named u (inr part) p = inr (u, part, p)

  module _ (t : Tree) where
    in_percent : P (percent t) ⊎ PartThat P t → PartThat P (percent t)
    in_percent (inl p) = (percent t, inl refl, p)
    in_percent (inr (u, part, p)) = (u, inr part, p)

    of_percent : (u : Tree) → IsPart u (percent t) → P u → P (percent t) ⊎ PartThat P t
    of_percent u (inl e) p = inl (subst P e p)
    of_percent u (inr part) p = inr (u, part, p)

    module _ (ts : Trees) where
      in_one : PartThat P t ⊎ PartOfOneThat P ts → PartOfOneThat P (tree t ts)
      in_one (inl (u, part, p)) = (u, inl part, p)
      in_one (inr (u, part, p)) = (u, inr part, p)

      of_one : (u : Tree) → IsPartOfOne u (tree t ts) → P u → PartThat P t ⊎ PartOfOneThat P ts
      of_one u (inl part) p = inl (u, part, p)
      of_one u (inr part) p = inr (u, part, p)

  module _ (test : (u : Tree) → Decided (P u)) where
    mutual
      pub part_decided : (t : Tree) → Decided (PartThat P t)
      part_decided (named name ts) = decided_as (in_named name ts) (λ h. of_named name ts h.0 h.1 h.2) (decided_or (test (named name ts)) (part_of_one_decided ts))
      part_decided (percent t) = decided_as (in_percent t) (λ h. of_percent t h.0 h.1 h.2) (decided_or (test (percent t)) (part_decided t))
      part_decided any_call = decided_as (λ p. (any_call, refl, p)) (λ h. subst P h.1 h.2) (test any_call)

      part_of_one_decided : (ts : Trees) → Decided (PartOfOneThat P ts)
      part_of_one_decided no_trees = inr (λ h. h.1)
      part_of_one_decided (tree t ts) = decided_as (in_one t ts) (λ h. of_one t ts h.0 h.1 h.2) (decided_or (part_decided t) (part_of_one_decided ts))
