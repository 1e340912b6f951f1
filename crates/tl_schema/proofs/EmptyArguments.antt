-- Types that apply a name to a bare constructor without bytes, by the marks of these.
use Rattle.std.proofs.Common.{◌↔◌, ℕ, Bool, List, Option}
use Rattle.tl_program.specs.Trees.{Tree, named, percent, any_call}
use Rattle.tl_program.specs.Program.{DeclText}
use Rattle.tl_graph.specs.Firsts.{First}
use Rattle.tl_names.specs.Writing.{DeclarationHas}
use Rattle.tl_names.specs.Parts.{SomePart, SomeWritten}
use Rattle.tl_schema.specs.EmptyElement.{AppliesToEmpty, EmptyElement}
use Rattle.tl_names.specs.inner.BareSteps.{MarksEmpty}
use Rattle.tl_schema.specs.inner.MarkedSteps.{AppliesToMarked}
use Rattle.tl_names.proofs.Indexes.{first_same}

module _ (ds : List DeclText) (marks : List Bool) (empty : MarksEmpty ds marks) (d : DeclText) where
  applies_to_empty : (u : Tree) → AppliesToMarked ds marks d u → AppliesToEmpty ds d u
  applies_to_empty (named name args) (t, one, (j, bare, marked)) = (t, j, one, bare, (empty j).0 marked)
  applies_to_empty (percent t) bad = bad
  applies_to_empty any_call bad = bad

  applies_to_marked : (u : Tree) → AppliesToEmpty ds d u → AppliesToMarked ds marks d u
  applies_to_marked (named name args) (t, j, one, bare, none) = (t, one, (j, bare, (empty j).1 none))
  applies_to_marked (percent t) bad = bad
  applies_to_marked any_call bad = bad

  pub part_applied : (t : Tree) → SomePart (AppliesToMarked ds marks d) t ↔ SomePart (AppliesToEmpty ds d) t
  part_applied t = (λ h. (h.0, h.1, applies_to_empty h.0 h.2), λ h. (h.0, h.1, applies_to_marked h.0 h.2))

-- the first declaration that writes such a type
module _ (ds : List DeclText) (marks : List Bool) (empty : MarksEmpty ds marks) where
  abbrev Marked : ℕ → Type 0
  Marked = DeclarationHas (SomeWritten (AppliesToMarked ds marks)) ds

  empty_here : (k : ℕ) → Marked k → EmptyElement ds k
  empty_here k m = record { d = m.d; here = m.here; has = (m.has.0, m.has.1, applies_to_empty ds marks empty m.d m.has.0 m.has.2) }

  marked_here : (k : ℕ) → EmptyElement ds k → Marked k
  marked_here k e = record { d = e.d; here = e.here; has = (e.has.0, e.has.1, applies_to_marked ds marks empty e.d e.has.0 e.has.2) }

  pub first_empty : (o : Option ℕ) → First Marked o → First (EmptyElement ds) o
  first_empty = first_same Marked (EmptyElement ds) empty_here marked_here
