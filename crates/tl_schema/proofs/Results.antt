-- Results that are a type applied to the declaration's variables.
use Rattle.std.proofs.Common.{◌≡◌, ◌≢◌, ℕ, ◌+◌, ◌==◌, List, [], ◌∷◌, ◌++◌, map, take, slice_get, Some, Vec, Global, Bool, true, false, not, IsTrue, ◌↔◌, refl, ap, ap₂, sym, ◌∙◌, true≢false}
use Rattle.std.specs.Vec.{vec_len}
use Rattle.std.proofs.lemmas.Option.{same_Some}
use Rattle.tl_program.specs.declared.tree.TypeTree.{TypeTree, Named}
use Rattle.tl_program.specs.declared.program.Decl.{Decl}
use Rattle.tl_program.specs.Trees.{Tree, Trees, named, tree, plain, trees_of, view, views}
use Rattle.tl_program.specs.Program.{DeclText, decl_text}
use Rattle.tl_program.proofs.AppliedNames.{holds_of_applied}
use Rattle.tl_program.proofs.TreeViews.{view-Named}
use Rattle.tl_names.specs.Writing.{is_type_name, is_variable, is_constructor}
use Rattle.tl_schema.specs.BadResult.{IsGoodResult, HasBadResult}
use Rattle.tl_names.proofs.Maps.{take_push}

-- ---- types in order

trees_same : (xs ys : List Tree) → trees_of xs ≡ trees_of ys → xs ≡ ys
trees_same [] [] e = refl
trees_same [] (y ∷ ys) e = absurd cc
trees_same (x ∷ xs) [] e = absurd cc
trees_same (x ∷ xs) (y ∷ ys) e =
    let heads : x ≡ y = cc in
    let tails : trees_of xs ≡ trees_of ys = cc in
    ap₂ (λ z zs. z ∷ zs) heads (trees_same xs ys tails)

applied_is_not_plain : (head name : List ℕ) (t : Tree) (ts : Trees) → named head (tree t ts) ≢ plain name
applied_is_not_plain head name t ts e = cc

-- a name that is applied to some types
pub never_plain : (t : TypeTree) (head name : List ℕ) (args : Vec TypeTree Global) → t ≡ Named head args → false ≡ (vec_len args == 0) → view t ≢ plain name
never_plain t head name args is some e =
    holds_of_applied (λ u. u ≢ plain name) head (applied_is_not_plain head name) args some (sym (ap view is) ∙ e)

module _ (xs ys : List Tree) (i : ℕ) (x y : Tree) (first : slice_get xs i ≡ Some x) (second : slice_get ys i ≡ Some y) where
  pub differ_at : x ≢ y → xs ≢ ys
  differ_at other e = other (same_Some x y (sym first ∙ ap (λ l. slice_get l i) e ∙ second))

  pub agree_more : take i xs ≡ take i ys → x ≡ y → take (i + 1) xs ≡ take (i + 1) ys
  agree_more before e = take_push xs i x first ∙ ap₂ (λ l z. l ++ z ∷ []) before e ∙ sym (take_push ys i y second)

-- ---- results

module _ (d : Decl) (name : List ℕ) (args : Vec TypeTree Global) (is : d.result ≡ Named name args) where
  seen : view d.result ≡ named name (trees_of (views args.items))
  seen = ap view is ∙ view-Named name args

  pub good : is_type_name name ≡ true → is_variable (decl_text d) name ≡ false → views args.items ≡ map plain d.vars.items → IsGoodResult (decl_text d)
  good upper no_variable same = record {
    type = name;
    upper = upper;
    no_variable = no_variable;
    applied = seen ∙ ap (λ ts. named name (trees_of ts)) same;
  }

  pub of_good : IsGoodResult (decl_text d) → views args.items ≡ map plain d.vars.items
  of_good g =
      let whole = sym seen ∙ g.applied in
      let inside : trees_of (views args.items) ≡ trees_of (map plain d.vars.items) = cc in
      trees_same _ _ inside

-- ---- own constructors

module _ (d : DeclText) where
  pub bad_result : (b : Bool) → is_constructor d ≡ true → IsTrue b ↔ IsGoodResult d → IsTrue (not b) ↔ HasBadResult d
  bad_result true own told = (λ h. absurd (true≢false (sym h)), λ r. absurd (r.bad (told.0 refl)))
  bad_result false own told = (λ h. record { own = own; bad = λ good. true≢false (sym (told.1 good)) }, λ r. refl)

  pub no_bad_result : is_constructor d ≡ false → IsTrue false ↔ HasBadResult d
  no_bad_result other = (λ h. absurd (true≢false (sym h)), λ r. absurd (true≢false (sym r.own ∙ other)))
