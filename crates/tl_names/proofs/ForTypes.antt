-- The types, fields and declarations that resolved ones stand for.
use Rattle.std.proofs.Common.{◌≡◌, ℕ, zero, suc, ◌<◌, List, [], ◌∷◌, map, length, get_or, slice_get, Option, Some, Vec, Global, Box, refl, ap, ap₂, sym, subst, ◌∙◌, rules}
use Rattle.std.specs.Box.{box_value}
use Rattle.std.proofs.lemmas.Option.{none-some, same_Some}
use Rattle.tl_program.specs.Trees.{Tree, Trees, trees_of, no_trees, tree}
use Rattle.tl_program.specs.Trees as written
use Rattle.tl_program.specs.Program.{KindText, DeclText}
use Rattle.tl_program.specs.Program as kind
use Rattle.tl_names.specs.What.{what_of, variable_named}
use Rattle.tl_names.specs.declared.what.What.{What}
use Rattle.tl_names.specs.Meants.{MeantView, named, percent, any_call, meants_of, meant, meants}
use Rattle.tl_names.specs.MeantDecls.{nat, flag, call, of, kind_by}
use Rattle.tl_names.specs.MeantViews.{meant_view}
use Rattle.tl_names.specs.declared.meant.Meant.{Meant, Named, Percent, AnyCall, the_lemmas}
use Rattle.tl_names.specs.inner.Resolved.{ForType}
use Rattle.tl_names.proofs.Maps.{slice_get_item}
use Rattle.tl_names.proofs.BuiltMeants.{view-Percent, view-AnyCall}

-- ---- elements of equal lists

pub same_item : {X Y : Type 0} (g : X → Y) (ms : List Y) (xs : List X) (i : ℕ) (m : Y) → ms ≡ map g xs → slice_get ms i ≡ Some m → (x : X) × (slice_get xs i ≡ Some x) × (m ≡ g x)
same_item {X} {Y} g ms xs i m same at = found xs i (ap (λ (ys : List Y). slice_get ys i) (sym same) ∙ at)
  where
    found : (xs : List X) (i : ℕ) → slice_get (map g xs) i ≡ Some m → (x : X) × (slice_get xs i ≡ Some x) × (m ≡ g x)
    found [] i at = absurd (none-some m at)
    found (x ∷ xs) zero at = (x, refl, sym (same_Some (g x) m at))
    found (x ∷ xs) (suc i) at = found xs i at

-- element i of a list, and what it stands for
pub item_for : {X Y Z : Type 0} (f : Z → Y) (g : X → Y) (zs : List Z) (xs : List X) (i : ℕ) (z : Z) → map f zs ≡ map g xs → i < length zs → z ≡ get_or zs i z → (x : X) × (slice_get xs i ≡ Some x) × (f z ≡ g x)
item_for f g zs xs i z same within is = same_item g (map f zs) xs i (f z) same (slice_get_item f zs i z within is)

-- ---- types

module _ (ds : List DeclText) (d : DeclText) where
  listed : (ms : List MeantView) (ts : Trees) → meants_of ms ≡ meants ds d ts → (args : List Tree) × (ts ≡ trees_of args) × (ms ≡ map (meant ds d) args)
  listed [] no_trees same = ([], refl, refl)
  listed [] (tree t ts) same = absurd cc
  listed (m ∷ ms) no_trees same = absurd cc
  listed (m ∷ ms) (tree t ts) same =
      let first : m ≡ meant ds d t = cc in
      let later : meants_of ms ≡ meants ds d ts = cc in
      let rest = listed ms ts later in
      (t ∷ rest.0, ap (tree t) rest.1, ap₂ (λ (n : MeantView) (ns : List MeantView). n ∷ ns) first rest.2)

  named_type : (w : What) (ms : List MeantView) (t : Tree) → named w (meants_of ms) ≡ meant ds d t → (name : List ℕ) × (args : List Tree) × (t ≡ written.named name (trees_of args)) × (w ≡ what_of ds d name) × (ms ≡ map (meant ds d) args)
  named_type w ms (written.named name ts) same =
      let what : w ≡ what_of ds d name = cc in
      let each : meants_of ms ≡ meants ds d ts = cc in
      let args = listed ms ts each in
      (name, args.0, ap (written.named name) args.1, what, args.2)
  named_type w ms (written.percent t) same = absurd cc
  named_type w ms written.any_call same = absurd cc

  percent_type : (m : MeantView) (t : Tree) → percent m ≡ meant ds d t → (u : Tree) × (t ≡ written.percent u) × (m ≡ meant ds d u)
  percent_type m (written.named name ts) same = absurd cc
  percent_type m (written.percent t) same = (t, refl, cc)
  percent_type m written.any_call same = absurd cc

  call_type : (t : Tree) → any_call ≡ meant ds d t → t ≡ written.any_call
  call_type (written.named name ts) same = absurd cc
  call_type (written.percent t) same = absurd cc
  call_type written.any_call same = refl

view-Named : (w : What) (args : Vec Meant Global) → meant_view (Named w args) ≡ named w (meants_of (map meant_view args.items))
view-Named w args = search (rules, the_lemmas)

-- what holds of each type that a resolved one stands for, by its form
module _ (ds : List DeclText) (m : Meant) (P : DeclText → Tree → Type 0) where
  pub for_named : (w : What) (args : Vec Meant Global) → m ≡ Named w args → ((d : DeclText) (name : List ℕ) (ts : List Tree) → meant_view m ≡ meant ds d (written.named name (trees_of ts)) → w ≡ what_of ds d name → map meant_view args.items ≡ map (meant ds d) ts → P d (written.named name (trees_of ts))) → ForType ds (meant_view m) P
  for_named w args is each d t same =
      let n = named_type ds d w (map meant_view args.items) t (sym (ap meant_view is ∙ view-Named w args) ∙ same) in
      subst (P d) (sym n.2) (each d n.0 n.1 (subst (λ (u : Tree). meant_view m ≡ meant ds d u) n.2 same) n.3 n.4)

  pub for_percent : (b : Box Meant Global) (inner : Meant) → m ≡ Percent b → box_value b ≡ inner → ((d : DeclText) (u : Tree) → meant_view m ≡ meant ds d (written.percent u) → meant_view inner ≡ meant ds d u → P d (written.percent u)) → ForType ds (meant_view m) P
  for_percent b inner is holds each d t same =
      let p = percent_type ds d (meant_view inner) t (sym (ap meant_view is ∙ view-Percent inner b holds) ∙ same) in
      subst (P d) (sym p.1) (each d p.0 (subst (λ (u : Tree). meant_view m ≡ meant ds d u) p.1 same) p.2)

  pub for_any_call : m ≡ AnyCall → ((d : DeclText) → meant_view m ≡ meant ds d written.any_call → P d written.any_call) → ForType ds (meant_view m) P
  for_any_call is each d t same =
      subst (P d) (sym (call_type ds d t (sym (ap meant_view is ∙ view-AnyCall) ∙ same))) (each d (ap meant_view is ∙ view-AnyCall))

-- ---- what fields hold

module _ (what : List ℕ → What) (variable : List ℕ → Option ℕ) where
  pub nat_kind : (k : KindText) → nat ≡ kind_by what variable k → k ≡ kind.nat
  nat_kind kind.nat same = refl
  nat_kind kind.flag same = absurd cc
  nat_kind (kind.call var) same = absurd cc
  nat_kind (kind.of t) same = absurd cc

  pub flag_kind : (k : KindText) → flag ≡ kind_by what variable k → k ≡ kind.flag
  flag_kind kind.nat same = absurd cc
  flag_kind kind.flag same = refl
  flag_kind (kind.call var) same = absurd cc
  flag_kind (kind.of t) same = absurd cc

  pub call_kind : (o : Option ℕ) (k : KindText) → call o ≡ kind_by what variable k → (var : List ℕ) × (k ≡ kind.call var) × (o ≡ variable var)
  call_kind o kind.nat same = absurd cc
  call_kind o kind.flag same = absurd cc
  call_kind o (kind.call var) same = (var, refl, cc)
  call_kind o (kind.of t) same = absurd cc

pub of_kind : (ds : List DeclText) (d : DeclText) (m : MeantView) (k : KindText) → of m ≡ kind_by (what_of ds d) (variable_named d) k → (t : Tree) × (k ≡ kind.of t) × (m ≡ meant ds d t)
of_kind ds d m kind.nat same = absurd cc
of_kind ds d m kind.flag same = absurd cc
of_kind ds d m (kind.call var) same = absurd cc
of_kind ds d m (kind.of t) same = (t, refl, cc)
