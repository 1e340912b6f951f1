-- The first declaration with a name that is taken.
use Rattle.std.proofs.Common.{◌≡◌, ◌⊎◌, inl, inr, ℕ, ◌<◌, false, List, Option}
use Rattle.std.specs.Prelude.{codes}
use Rattle.tl_lexer.proofs.Whole.{Decided}
use Rattle.tl_combinators.proofs.Decided.{decided_and, decided_or, text_decided}
use Rattle.tl_program.specs.Trees.{Trees, named}
use Rattle.tl_program.specs.Program.{DeclText}
use Rattle.tl_graph.specs.Firsts.{First}
use Rattle.tl_names.specs.Writing.{At, is_variable}
use Rattle.tl_names.specs.NameLists.{IsRepeat}
use Rattle.tl_schema.specs.SameName.{SameName, declared, part, vector, part_names}
use Rattle.tl_schema.proofs.IndexesDecided.{bool_decided, less_decided, names_repeat_decided}
use Rattle.tl_schema.proofs.TypesDecided.{this_name_decided}
use Rattle.tl_schema.proofs.WritingDecided.{somewhere_decided}
use Rattle.tl_schema.proofs.Firsts.{first_declaration}

abbrev MakesVector : DeclText → Type 0
MakesVector d =
    (d.function ≡ false) × ((d.builtin ≡ false) × ((is_variable d (codes "Vector") ≡ false) × ((args : Trees) × (d.result ≡ named (codes "Vector") args))))

-- what of declaration k, which is d, is taken
abbrev Taken : List DeclText → ℕ → DeclText → Type 0
Taken ds k d =
    ((j : ℕ) × (c : DeclText) × At ds j c × ((j < k) × ((c.function ≡ d.function) × (c.name ≡ d.name))))
    ⊎ (((i : ℕ) × IsRepeat (part_names d) i) ⊎ MakesVector d)

module _ (ds : List DeclText) where
  taken : (k : ℕ) (d : DeclText) → At ds k d → Taken ds k d → SameName ds k
  taken k d here (inl (j, c, there, (before, (kind, name)))) =
      declared (record { earlier = j; c = c; d = d; before = before; there = there; here = here; kind = kind; name = name })
  taken k d here (inr (inl (i, again))) = part d i here again
  taken k d here (inr (inr (own, (plain, (free, (args, is)))))) = vector d args here own plain free is

  of_taken : (k : ℕ) → SameName ds k → (d : DeclText) × At ds k d × Taken ds k d
  of_taken k (declared b) = (b.d, b.here, inl (b.earlier, b.c, b.there, (b.before, (b.kind, b.name))))
  of_taken k (part d i here again) = (d, here, inr (inl (i, again)))
  of_taken k (vector d args here own plain free is) = (d, here, inr (inr (own, (plain, (free, (args, is))))))

  taken_decided : (k : ℕ) (d : DeclText) → Decided (Taken ds k d)
  taken_decided k d =
      decided_or (somewhere_decided ds (λ j c. (j < k) × ((c.function ≡ d.function) × (c.name ≡ d.name))) (λ j c. decided_and (less_decided j k) (decided_and (bool_decided c.function d.function) (text_decided c.name d.name))))
      (decided_or (names_repeat_decided (part_names d)) (decided_and (bool_decided d.function false) (decided_and (bool_decided d.builtin false) (decided_and (bool_decided (is_variable d (codes "Vector")) false) (this_name_decided (codes "Vector") d.result)))))

  pub same_name_first : (o : Option ℕ) × First (SameName ds) o
  same_name_first = first_declaration ds (SameName ds) (Taken ds) taken of_taken taken_decided
