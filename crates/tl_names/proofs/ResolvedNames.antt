-- Names that are resolved alike give the same types and fields; and the numbers of a list of names, one name more.
use Rattle.std.proofs.Common.{◌≡◌, ℕ, List, [], ◌∷◌, ◌++◌, length, map, bytes_eq, Option, Some, refl, ap, ap₂, sym, ◌∙◌, if◌then◌else◌}
use Rattle.std.specs.Option.{option_map, unwrap_or}
use Rattle.tl_program.specs.Trees.{Tree, Trees, named, percent, any_call, no_trees, tree, trees_of}
use Rattle.tl_program.specs.Program.{KindText, FieldText, DeclText}
use Rattle.tl_program.specs.Program as written
use Rattle.tl_names.specs.Writing.{own_type}
use Rattle.tl_names.specs.NameIndexes.{index_among, Notes}
use Rattle.tl_names.specs.What.{known_what, unless_variable, what_of, variable_named, field_named}
use Rattle.tl_names.specs.Meants.{MeantView, and_meant, meant, meant_by, meants_by, meants_of}
use Rattle.tl_names.specs.Meants as resolved
use Rattle.tl_names.specs.MeantDecls.{MeantFieldView, MeantDeclView, of, call, cond_by, kind_by, field_by, meant_field, meant_decl, head_number}
use Rattle.tl_names.specs.MeantViews.{what_in, NumbersNames, field_in}
use Rattle.tl_names.specs.declared.what.What.{What}
use Rattle.tl_names.proofs.Positions.{position_push}

-- ---- types

module _ (f g : List ℕ → What) (same : (name : List ℕ) → f name ≡ g name) where
  mutual
    pub meant_same : (t : Tree) → meant_by f t ≡ meant_by g t
    meant_same (named name ts) = ap₂ resolved.named (same name) (meants_same ts)
    meant_same (percent t) = ap resolved.percent (meant_same t)
    meant_same any_call = refl

    pub meants_same : (ts : Trees) → meants_by f ts ≡ meants_by g ts
    meants_same no_trees = refl
    meants_same (tree t ts) = ap₂ and_meant (meant_same t) (meants_same ts)

pub meants_of_each : (f : List ℕ → What) (ts : List Tree) → meants_of (map (meant_by f) ts) ≡ meants_by f (trees_of ts)
meants_of_each f [] = refl
meants_of_each f (t ∷ ts) = ap (and_meant (meant_by f t)) (meants_of_each f ts)

-- ---- with the variables of a declaration

module _ (ds : List DeclText) (d : DeclText) (vars : List (List ℕ × ℕ)) (numbers : NumbersNames d.vars vars) where
  pub what_same : (name : List ℕ) → what_in ds vars name ≡ what_of ds d name
  what_same name = ap (λ o. unless_variable o (known_what ds name)) (numbers name)

  pub type_same : (t : Tree) → meant_by (what_in ds vars) t ≡ meant ds d t
  type_same t = meant_same (what_in ds vars) (what_of ds d) what_same t

  kind_same : (k : KindText) → kind_by (what_in ds vars) (index_among vars) k ≡ kind_by (what_of ds d) (variable_named d) k
  kind_same written.nat = refl
  kind_same written.flag = refl
  kind_same (written.call var) = ap call (numbers var)
  kind_same (written.of t) = ap of (type_same t)

  field_same : (f : FieldText) → field_by (what_in ds vars) (index_among vars) (field_named d) f ≡ meant_field ds d f
  field_same f = ap {B = MeantFieldView} (λ kind. record { cond = option_map (cond_by (field_named d)) f.cond; kind = kind }) (kind_same f.kind)

  each_same : (fs : List FieldText) → map (field_by (what_in ds vars) (index_among vars) (field_named d)) fs ≡ map (meant_field ds d) fs
  each_same [] = refl
  each_same (f ∷ fs) = ap₂ (λ x xs. x ∷ xs) (field_same f) (each_same fs)

  pub fields_same : map (field_by (what_in ds vars) (index_among vars) (field_in d.fields)) d.fields ≡ map (meant_field ds d) d.fields
  fields_same = each_same d.fields

-- ---- numbers of names

pub names_more : (names : List (List ℕ)) (name : List ℕ) (at : ℕ) (old new : List (List ℕ × ℕ)) → length names ≡ at → Notes old new name at → NumbersNames names old → NumbersNames (names ++ name ∷ []) new
names_more names name at old new e notes before n =
    notes n ∙ ap₂ (λ o m. if bytes_eq n name then Some (unwrap_or o m) else o) (before n) (sym e) ∙ sym (position_push (bytes_eq n) names name)

-- ---- declarations

pub decl_same : (ds : List DeclText) (d : DeclText) {vars : ℕ} {fields : List MeantFieldView} {result : MeantView} {head : Option ℕ} → vars ≡ length d.vars → fields ≡ map (meant_field ds d) d.fields → result ≡ meant ds d d.result → head ≡ head_number ds (own_type d) → ◌≡◌ {A = MeantDeclView} (record { vars = vars; fields = fields; result = result; function = d.function; builtin = d.builtin; head = head }) (meant_decl ds d)
decl_same ds d vars fields result head = rw (vars, fields, result, head) refl
