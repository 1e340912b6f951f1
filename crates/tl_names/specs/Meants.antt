-- Types with each name resolved.
-- From "TL language" and "Formal description of TL" (core.telegram.org/mtproto/TL, /mtproto/TL-formal).
use Rattle.std.specs.Prelude.{ℕ, List, [], ◌∷◌}
use Rattle.tl_program.specs.Trees.{Tree, Trees}
use Rattle.tl_program.specs.Trees as written
use Rattle.tl_program.specs.Program.{DeclText}
use Rattle.tl_names.specs.What.{what_of}
use Rattle.tl_names.specs.declared.what.What.{What}

mutual
  -- the meaning of a name and the types that it is applied to, `%` and a type, or any call
  pub data MeantView : Type 0 where
    named : What → MeantViews → MeantView
    percent : MeantView → MeantView
    any_call : MeantView

  pub data MeantViews : Type 0 where
    no_meants : MeantViews
    and_meant : MeantView → MeantViews → MeantViews

abbrev pub meants_of : List MeantView → MeantViews
meants_of [] = no_meants
meants_of (m ∷ ms) = and_meant m (meants_of ms)

abbrev mutual
  -- a type, with each name resolved so
  pub meant_by : (List ℕ → What) → Tree → MeantView
  meant_by what (written.named name ts) = named (what name) (meants_by what ts)
  meant_by what (written.percent t) = percent (meant_by what t)
  meant_by what written.any_call = any_call

  pub meants_by : (List ℕ → What) → Trees → MeantViews
  meants_by what written.no_trees = no_meants
  meants_by what (written.tree t ts) = and_meant (meant_by what t) (meants_by what ts)

-- a type, where d writes it
abbrev pub meant : List DeclText → DeclText → Tree → MeantView
meant ds d t = meant_by (what_of ds d) t

abbrev pub meants : List DeclText → DeclText → Trees → MeantViews
meants ds d ts = meants_by (what_of ds d) ts
