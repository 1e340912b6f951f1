-- What a name means, said by the declarations and not by numbers.
use Rattle.std.proofs.Common.{◌≡◌, ◌≢◌, ℕ, Bool, true, false, not, ◌&&◌, ◌||◌, List, [], ◌∷◌, ◌++◌, bytes_eq, position, Option, Some, None, refl, ap, ap₂, sym, subst, ◌∙◌, if◌then◌else◌, true≢false}
use Rattle.std.specs.Prelude.{codes, is_some}
use Rattle.std.specs.List.{fold, list_any, position_or_len}
use Rattle.std.proofs.lemmas.List.Folds.{list_any-append}
use Rattle.std.proofs.lemmas.Option.{none-some}
use Rattle.std.proofs.lemmas.Slice.Eq.{bytes_eq-Decides}
use Rattle.tl_program.specs.Trees.{Tree, named, percent, any_call}
use Rattle.tl_program.specs.Program.{DeclText}
use Rattle.tl_program.specs.BuiltIns.{built_in}
use Rattle.tl_program.specs.declared.built_in.BuiltIn.{BuiltIn}
use Rattle.tl_names.specs.Writing.{is_built_in, is_constructor, is_type_name, is_variable, own_type, head_in, result_head, IsConstructorOf}
use Rattle.tl_names.specs.NameLists.{with_name}
use Rattle.tl_names.specs.Indexes.{is_type, types_of, with_type_of}
use Rattle.tl_names.specs.Constructors.{FirstNamed, FirstOf}
use Rattle.tl_names.specs.What.{base_what, constructor_named, constructor_what, declared_what, known_what, type_meant, type_named, type_what, unless_built_in, unless_variable, variable_named, what_of}
use Rattle.tl_names.specs.Meants.{MeantView, meant}
use Rattle.tl_names.specs.Meants as resolved
use Rattle.tl_names.specs.MeantDecls.{head_number}
use Rattle.tl_names.specs.declared.what.What.{What}
use Rattle.tl_names.proofs.Positions.{position_not_there, position_there}
use Rattle.tl_names.proofs.FirstIndexes.{first_made, first_named}

abbrev makes_type : List ℕ → DeclText → Bool
makes_type type d = is_type type (own_type d)

-- ---- a type has a number where a constructor makes it

or_false : (b : Bool) → b || false ≡ b
or_false true = refl
or_false false = refl

or_same : (a b c : Bool) → (a || b) || c ≡ a || (b || c)
or_same true b c = refl
or_same false b c = refl

among_with : (type name : List ℕ) (names : List (List ℕ)) → list_any (bytes_eq type) (with_name names name) ≡ list_any (bytes_eq type) names || bytes_eq type name
among_with type name names = by (list_any (bytes_eq name) names) refl
  where
    known : list_any (bytes_eq name) names ≡ true → (b : Bool) → bytes_eq type name ≡ b → list_any (bytes_eq type) names ≡ list_any (bytes_eq type) names || b
    known there true h =
        let here = ap (λ (n : List ℕ). list_any (bytes_eq n) names) ((bytes_eq-Decides type name).0 h) ∙ there in here ∙ sym (ap (λ b. b || true) here)
    known there false h = sym (or_false (list_any (bytes_eq type) names))

    by : (b : Bool) → list_any (bytes_eq name) names ≡ b → list_any (bytes_eq type) (if list_any (bytes_eq name) names then names else names ++ name ∷ []) ≡ list_any (bytes_eq type) names || bytes_eq type name
    by true e = ap (λ b. list_any (bytes_eq type) (if b then names else names ++ name ∷ [])) e ∙ known e (bytes_eq type name) refl
    by false e =
        ap (λ b. list_any (bytes_eq type) (if b then names else names ++ name ∷ [])) e ∙ list_any-append (bytes_eq type) names (name ∷ []) ∙ ap (λ b. list_any (bytes_eq type) names || b) (or_false (bytes_eq type name))

among_more : (type : List ℕ) (names : List (List ℕ)) (o : Option (List ℕ)) → list_any (bytes_eq type) (with_type_of names o) ≡ list_any (bytes_eq type) names || is_type type o
among_more type names None = sym (or_false (list_any (bytes_eq type) names))
among_more type names (Some name) = among_with type name names

among_folded : (type : List ℕ) (names : List (List ℕ)) (ds : List DeclText) → list_any (bytes_eq type) (fold (λ types d. with_type_of types (own_type d)) names ds) ≡ list_any (bytes_eq type) names || list_any (makes_type type) ds
among_folded type names [] = sym (or_false (list_any (bytes_eq type) names))
among_folded type names (d ∷ ds) =
    among_folded type (with_type_of names (own_type d)) ds ∙ ap (λ b. b || list_any (makes_type type) ds) (among_more type names (own_type d))
    ∙ or_same (list_any (bytes_eq type) names) (is_type type (own_type d)) (list_any (makes_type type) ds)

module _ (ds : List DeclText) (type : List ℕ) where
  -- a type with a number has a first constructor, and one without has none
  pub type_first : (o : Option ℕ) → type_named ds type ≡ o → (k : Option ℕ) × FirstOf ds type k × (is_some k ≡ is_some o)
  type_first o at = by (list_any (makes_type type) ds) refl
    where
      by : (b : Bool) → list_any (makes_type type) ds ≡ b → (k : Option ℕ) × FirstOf ds type k × (is_some k ≡ is_some o)
      by true e =
          let there = position_there (bytes_eq type) (types_of ds) (among_folded type [] ds ∙ e) in
          (position (makes_type type) ds, first_made ds type, ap is_some (position_there (makes_type type) ds e) ∙ ap is_some (sym there ∙ at))
      by false e =
          let none = position_not_there (bytes_eq type) (types_of ds) (among_folded type [] ds ∙ e) in
          (position (makes_type type) ds, first_made ds type, ap is_some (position_not_there (makes_type type) ds e) ∙ ap is_some (sym none ∙ at))

  -- so a type that a constructor makes has a number
  pub type_number : (j : ℕ) (c : DeclText) → IsConstructorOf ds type j c → (n : ℕ) × (type_named ds type ≡ Some n)
  type_number j c one = by (type_named ds type) refl
    where
      by : (o : Option ℕ) → type_named ds type ≡ o → (n : ℕ) × (type_named ds type ≡ Some n)
      by (Some n) at = (n, at)
      by None at = none_made (type_first None at)
        where
          none_made : ((k : Option ℕ) × FirstOf ds type k × (is_some k ≡ false)) → (n : ℕ) × (type_named ds type ≡ Some n)
          none_made (Some k, first, e) = absurd (true≢false e)
          none_made (None, none, e) = absurd (none j (c, one))

-- ---- the meanings of a name

if_vector : (a b c d e f g h : Bool) → ◌≡◌ {A = Option BuiltIn} (if a then Some BuiltIn.Int else if b then Some BuiltIn.Long else if c then Some BuiltIn.Double else if d then Some BuiltIn.Str else if e then Some BuiltIn.Bytes else if f then Some BuiltIn.Vector else if g then Some BuiltIn.Int128 else if h then Some BuiltIn.Int256 else None) (Some BuiltIn.Vector) → f ≡ true
if_vector true b c d e f g h is = absurd cc
if_vector false true c d e f g h is = absurd cc
if_vector false false true d e f g h is = absurd cc
if_vector false false false true e f g h is = absurd cc
if_vector false false false false true f g h is = absurd cc
if_vector false false false false false true g h is = refl
if_vector false false false false false false true h is = absurd cc
if_vector false false false false false false false true is = absurd cc
if_vector false false false false false false false false is = absurd cc

pub vector_name : (name : List ℕ) → built_in name ≡ Some BuiltIn.Vector → name ≡ codes "vector"
vector_name name is = (bytes_eq-Decides name (codes "vector")).0 (if_vector _ _ _ _ _ _ _ _ is)

-- what the name means where d writes it, in each case what it is there
pub data Means (ds : List DeclText) (d : DeclText) (name : List ℕ) : What → Type 0 where
  variable : (index : ℕ) → is_variable d name ≡ true → variable_named d name ≡ Some index → Means ds d name (What.Variable index)
  base : (b : BuiltIn) → is_variable d name ≡ false → is_built_in name ≡ true → built_in name ≡ Some b → name ≢ codes "vector" → Means ds d name (What.Base b)
  bare_vector : is_variable d name ≡ false → name ≡ codes "vector" → Means ds d name (What.Vector false)
  boxed_vector : is_variable d name ≡ false → name ≡ codes "Vector" → Means ds d name (What.Vector true)
  type : (number first : ℕ) → is_variable d name ≡ false → is_built_in name ≡ false → is_type_name name ≡ true → type_named ds name ≡ Some number → FirstOf ds name (Some first) → Means ds d name (What.Type number)
  constructor : (index : ℕ) → is_variable d name ≡ false → is_built_in name ≡ false → is_type_name name ≡ false → FirstNamed ds name (Some index) → Means ds d name (What.Constructor index)
  no_type : is_variable d name ≡ false → is_built_in name ≡ false → is_type_name name ≡ true → type_named ds name ≡ None → FirstOf ds name None → Means ds d name What.Unknown
  no_constructor : is_variable d name ≡ false → is_built_in name ≡ false → is_type_name name ≡ false → FirstNamed ds name None → Means ds d name What.Unknown

module _ (ds : List DeclText) (d : DeclText) (name : List ℕ) where
  module _ (v : is_variable d name ≡ false) where
    is_base : (b : BuiltIn) → built_in name ≡ Some b → Means ds d name (base_what b)
    is_base b is = by b is
      where
        plain : (c : BuiltIn) → built_in name ≡ Some c → built_in (codes "vector") ≢ Some c → Means ds d name (What.Base c)
        plain c at other = base c v (ap (λ o. is_some o || bytes_eq name (codes "Vector")) at) at (λ e. other (ap built_in (sym e) ∙ at))

        by : (c : BuiltIn) → built_in name ≡ Some c → Means ds d name (base_what c)
        by BuiltIn.Int at = plain BuiltIn.Int at (λ e. absurd cc)
        by BuiltIn.Long at = plain BuiltIn.Long at (λ e. absurd cc)
        by BuiltIn.Double at = plain BuiltIn.Double at (λ e. absurd cc)
        by BuiltIn.Str at = plain BuiltIn.Str at (λ e. absurd cc)
        by BuiltIn.Bytes at = plain BuiltIn.Bytes at (λ e. absurd cc)
        by BuiltIn.Vector at = bare_vector v (vector_name name at)
        by BuiltIn.Int128 at = plain BuiltIn.Int128 at (λ e. absurd cc)
        by BuiltIn.Int256 at = plain BuiltIn.Int256 at (λ e. absurd cc)

    module _ (other : is_built_in name ≡ false) where
      is_type_of : is_type_name name ≡ true → (o : Option ℕ) → type_named ds name ≡ o → Means ds d name (type_what o)
      is_type_of upper o at = by o at (type_first ds name o at)
        where
          by : (o : Option ℕ) → type_named ds name ≡ o → ((k : Option ℕ) × FirstOf ds name k × (is_some k ≡ is_some o)) → Means ds d name (type_what o)
          by (Some number) at (Some first, is, e) = type number first v other upper at is
          by (Some number) at (None, is, e) = absurd (true≢false (sym e))
          by None at (Some first, is, e) = absurd (true≢false e)
          by None at (None, is, e) = no_type v other upper at is

      is_constructor_of : is_type_name name ≡ false → (o : Option ℕ) → FirstNamed ds name o → Means ds d name (constructor_what o)
      is_constructor_of lower (Some index) is = constructor index v other lower is
      is_constructor_of lower None is = no_constructor v other lower is

      is_declared : Means ds d name (declared_what ds name)
      is_declared = by (is_type_name name) refl
        where
          by : (b : Bool) → is_type_name name ≡ b → Means ds d name (if b then type_what (type_named ds name) else constructor_what (constructor_named ds name))
          by true upper = is_type_of upper (type_named ds name) refl
          by false lower = is_constructor_of lower (constructor_named ds name) (first_named ds name)

    is_known : Means ds d name (known_what ds name)
    is_known = by (built_in name) refl
      where
        by : (o : Option BuiltIn) → built_in name ≡ o → Means ds d name (unless_built_in o ds name)
        by (Some b) at = is_base b at
        by None at = boxed (bytes_eq name (codes "Vector")) refl
          where
            boxed : (b : Bool) → bytes_eq name (codes "Vector") ≡ b → Means ds d name (if b then What.Vector true else declared_what ds name)
            boxed true e = boxed_vector v ((bytes_eq-Decides name (codes "Vector")).0 e)
            boxed false e = is_declared (ap₂ (λ o b. is_some o || b) at e)

  pub means : Means ds d name (what_of ds d name)
  means = by (is_variable d name) refl
    where
      by : (b : Bool) → is_variable d name ≡ b → Means ds d name (what_of ds d name)
      by true e =
          let at = position_there (bytes_eq name) d.vars e in
          subst (λ o. Means ds d name (unless_variable o (known_what ds name))) (sym at) (variable (position_or_len (bytes_eq name) d.vars) e at)
      by false e =
          subst (λ o. Means ds d name (unless_variable o (known_what ds name))) (sym (position_not_there (bytes_eq name) d.vars e)) (is_known e)

-- ---- the type that a declaration constructs

is_lower : (name lower : List ℕ) → is_type_name name ≡ true → is_type_name lower ≡ false → bytes_eq name lower ≡ false
is_lower name lower upper e = by (bytes_eq name lower) refl
  where
    by : (b : Bool) → bytes_eq name lower ≡ b → bytes_eq name lower ≡ false
    by true h = absurd (true≢false (sym upper ∙ ap is_type_name ((bytes_eq-Decides name lower).0 h) ∙ e))
    by false h = h

-- no built-in bare type has a type's name
pub upper_no_base : (name : List ℕ) → is_type_name name ≡ true → built_in name ≡ None
upper_no_base name up =
    rw (is_lower name (codes "int") up refl, is_lower name (codes "long") up refl, is_lower name (codes "double") up refl, is_lower name (codes "string") up refl, is_lower name (codes "bytes") up refl, is_lower name (codes "vector") up refl, is_lower name (codes "int128") up refl, is_lower name (codes "int256") up refl) refl

module _ (ds : List DeclText) (d : DeclText) (name : List ℕ) where
  abbrev pub head_by : Bool → Bool → Option ℕ
  head_by upper taken = head_number ds (if upper && not taken then Some name else None)

  no_head : (b : Bool) → None ≡ head_by b true
  no_head true = refl
  no_head false = refl

  lower_base : (b : BuiltIn) → built_in name ≡ Some b → (upper taken : Bool) → is_type_name name ≡ upper → None ≡ head_by upper taken
  lower_base b at true taken up = absurd (none-some b (sym (upper_no_base name up) ∙ at))
  lower_base b at false taken low = refl

  head_meant : (what : What) → Means ds d name what → type_meant ds what ≡ head_by (is_type_name name) (is_variable d name)
  head_meant _ (variable index v at) = no_head (is_type_name name) ∙ sym (ap (head_by (is_type_name name)) v)
  head_meant _ (base b v k at other) = lower_base b at (is_type_name name) (is_variable d name) refl
  head_meant _ (bare_vector v e) = sym (ap (λ u. head_by u (is_variable d name)) (ap is_type_name e))
  head_meant _ (boxed_vector v e) = ap (type_named ds) (sym e) ∙ sym (ap₂ head_by (ap is_type_name e) v)
  head_meant _ (type number first v k up at is) = sym at ∙ sym (ap₂ head_by up v)
  head_meant _ (constructor index v k low is) = sym (ap₂ head_by low v)
  head_meant _ (no_type v k up at is) = sym at ∙ sym (ap₂ head_by up v)
  head_meant _ (no_constructor v k low is) = sym (ap₂ head_by low v)

-- the number of the type that a declaration constructs is that of what its result begins with
abbrev pub head_in_meant : List DeclText → MeantView → Option ℕ
head_in_meant ds (resolved.named what ms) = type_meant ds what
head_in_meant ds (resolved.percent m) = None
head_in_meant ds resolved.any_call = None

result_meant : (ds : List DeclText) (d : DeclText) (t : Tree) → head_in_meant ds (meant ds d t) ≡ head_number ds (head_in d t)
result_meant ds d (named name ts) = head_meant ds d name (what_of ds d name) (means ds d name)
result_meant ds d (percent t) = refl
result_meant ds d any_call = refl

pub own_meant : (ds : List DeclText) (d : DeclText) → is_constructor d ≡ true → head_in_meant ds (meant ds d d.result) ≡ head_number ds (own_type d)
own_meant ds d own = result_meant ds d d.result ∙ sym (ap (λ b. head_number ds (if b then result_head d else None)) own)

pub no_own : (ds : List DeclText) (d : DeclText) → is_constructor d ≡ false → None ≡ head_number ds (own_type d)
no_own ds d other = sym (ap (λ b. head_number ds (if b then result_head d else None)) other)
