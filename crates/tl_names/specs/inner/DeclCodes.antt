-- How the logic stores declarations: types as nested pairs, everything else by the codes of its parts. This project's own.
use Rattle.std.specs.Prelude.{◌≡◌, ◌⊎◌, ℕ, List, [], ◌∷◌, Bool, Option, Some, None, refl}
use Rattle.std.proofs.Common.{ap, ap₂, inl, inr}
use Rattle.std.specs.Coded.{Coded, code_by, coded×, coded⊎, coded_ℕ, coded_bool, coded_list, coded_option}
use base.Stored.{Gv, gnil, gnum, gcons}
use denote.Struct.Codes.{itself}
use Rattle.tl_program.specs.Trees.{Tree, Trees, named, percent, any_call, no_trees, tree}
use Rattle.tl_program.specs.Program.{KindText, nat, flag, call, of, CondText, FieldText, DeclText}

abbrev name_to : List ℕ → Gv
name_to [] = gnil
name_to (b ∷ bs) = gcons (gnum b) (name_to bs)

abbrev name_from : Gv → List ℕ
name_from gnil = []
name_from (gnum n) = []
name_from (gcons gnil bs) = []
name_from (gcons (gnum b) bs) = b ∷ name_from bs
name_from (gcons (gcons x y) bs) = []

pub name_back : (name : List ℕ) → name_from (name_to name) ≡ name
name_back [] = refl
name_back (b ∷ bs) = ap (λ rest. b ∷ rest) (name_back bs)

abbrev mutual
  tree_to : Tree → Gv
  tree_to (named name ts) = gcons (gcons (name_to name) gnil) (trees_to ts)
  tree_to (percent t) = gcons gnil (tree_to t)
  tree_to any_call = gnil

  trees_to : Trees → Gv
  trees_to no_trees = gnil
  trees_to (tree t ts) = gcons (tree_to t) (trees_to ts)

abbrev mutual
  tree_from : Gv → Tree
  tree_from gnil = any_call
  tree_from (gnum n) = any_call
  tree_from (gcons gnil t) = percent (tree_from t)
  tree_from (gcons (gnum n) t) = any_call
  tree_from (gcons (gcons name x) ts) = named (name_from name) (trees_from ts)

  trees_from : Gv → Trees
  trees_from gnil = no_trees
  trees_from (gnum n) = no_trees
  trees_from (gcons t ts) = tree (tree_from t) (trees_from ts)

mutual
  pub tree_back : (t : Tree) → tree_from (tree_to t) ≡ t
  tree_back (named name ts) = ap₂ named (name_back name) (trees_back ts)
  tree_back (percent t) = ap percent (tree_back t)
  tree_back any_call = refl

  pub trees_back : (ts : Trees) → trees_from (trees_to ts) ≡ ts
  trees_back no_trees = refl
  trees_back (tree t ts) = ap₂ tree (tree_back t) (trees_back ts)

abbrev tree_code : Coded Tree
tree_code = code_by Gv itself tree_to tree_from tree_back

abbrev pub name_code : Coded (List ℕ)
name_code = coded_list coded_ℕ

-- `#`, a flag, a call or a type
abbrev Kind : Type 0
Kind = Option (Option (List ℕ ⊎ Tree))

abbrev kind_to : KindText → Kind
kind_to nat = None
kind_to flag = Some None
kind_to (call var) = Some (Some (inl var))
kind_to (of t) = Some (Some (inr t))

abbrev kind_from : Kind → KindText
kind_from None = nat
kind_from (Some None) = flag
kind_from (Some (Some (inl var))) = call var
kind_from (Some (Some (inr t))) = of t

pub kind_back : (k : KindText) → kind_from (kind_to k) ≡ k
kind_back nat = refl
kind_back flag = refl
kind_back (call var) = refl
kind_back (of t) = refl

abbrev kind_code : Coded KindText
kind_code = code_by Kind (coded_option (coded_option (coded⊎ name_code tree_code))) kind_to kind_from kind_back

abbrev cond_code : Coded CondText
cond_code =
    code_by (List ℕ × ℕ) (coded× name_code coded_ℕ) (λ c. (c.flags, c.bit)) (λ p. record { flags = p.0; bit = p.1 }) (λ _. refl)

abbrev field_code : Coded FieldText
field_code =
    code_by (List ℕ × (Option CondText × KindText)) (coded× name_code (coded× (coded_option cond_code) kind_code))
    (λ f. (f.name, (f.cond, f.kind))) (λ p. record { name = p.0; cond = p.1.0; kind = p.1.1 }) (λ _. refl)

abbrev pub decl_code : Coded DeclText
decl_code =
    code_by (((List ℕ × Option ℕ) × (List (List ℕ) × List FieldText)) × ((Tree × Bool) × (Bool × List ℕ)))
    (coded× (coded× (coded× name_code (coded_option coded_ℕ)) (coded× (coded_list name_code) (coded_list field_code))) (coded× (coded× tree_code coded_bool) (coded× coded_bool name_code)))
    (λ d. (((d.name, d.number), (d.vars, d.fields)), ((d.result, d.function), (d.builtin, d.text))))
    (λ p. record {
      name = p.0.0.0;
      number = p.0.0.1;
      vars = p.0.1.0;
      fields = p.0.1.1;
      result = p.1.0.0;
      function = p.1.0.1;
      builtin = p.1.1.0;
      text = p.1.1.1;
    }) (λ _. refl)

abbrev pub decls_code : Coded (List DeclText)
decls_code = coded_list decl_code
