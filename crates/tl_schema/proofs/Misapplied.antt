-- Names that are applied to a wrong number of types.
use Rattle.std.proofs.Common.{◌≡◌, ◌↔◌, ◌∙◌, ℕ, suc, Bool, IsTrue, List, [], ◌∷◌, length, refl, sym, ap, subst, arith}
use Rattle.tl_program.specs.Trees.{Tree, named, trees_of}
use Rattle.tl_program.specs.Program.{DeclText}
use Rattle.tl_schema.specs.WrongArity.{count_of, IsMisapplied, Misapplies}

count_of-trees_of : (ts : List Tree) → count_of (trees_of ts) ≡ length ts
count_of-trees_of [] = refl
count_of-trees_of (t ∷ ts) = ap suc (count_of-trees_of ts) ∙ omega arith

-- a name, applied to so many types
pub misapplied : (ds : List DeclText) (d : DeclText) (t : Tree) (name : List ℕ) (ts : List Tree) (count : ℕ) (b : Bool) → t ≡ named name (trees_of ts) → count ≡ length ts → IsTrue b ↔ IsMisapplied ds d name count → IsTrue b ↔ Misapplies ds d t
misapplied ds d t name ts count b is all told =
    subst (λ u. IsTrue b ↔ Misapplies ds d u) (sym is) (subst (λ n. IsTrue b ↔ IsMisapplied ds d name n) (all ∙ sym (count_of-trees_of ts)) told)
