-- What the names of a program are: those of types and of constructors, variables, and what a declaration constructs.
-- From "TL language" and "Formal description of TL" (core.telegram.org/mtproto/TL, /mtproto/TL-formal).
use Rattle.std.specs.Prelude.{◌≡◌, ℕ, List, [], ◌∷◌, Bool, ◌==◌, ◌&&◌, ◌||◌, not, true, bytes_eq, codes, slice_get, Option, Some, None, is_some, if◌then◌else◌}
use Rattle.std.specs.List.{list_any}
use Rattle.tl_program.specs.Letters.{first_is, is_upper}
use Rattle.tl_program.specs.Trees.{Tree, named, percent, any_call}
use Rattle.tl_program.specs.Program.{DeclText}
use Rattle.tl_program.specs.BuiltIns.{built_in}

-- ---- names

-- what stands after the last `.` of a name
abbrev pub last_word : List ℕ → List ℕ
last_word [] = []
last_word (b ∷ bs) = if list_any (λ c. c == 46) bs then last_word bs else if b == 46 then bs else b ∷ bs

-- a name whose last Word begins in upper case is a type's, any other a constructor's
abbrev pub is_type_name : List ℕ → Bool
is_type_name name = first_is is_upper (last_word name)

abbrev pub is_vector_name : List ℕ → Bool
is_vector_name name = (bytes_eq name (codes "vector")) || (bytes_eq name (codes "Vector"))

-- the names that need no declaration
abbrev pub is_built_in : List ℕ → Bool
is_built_in name = (is_some (built_in name)) || (bytes_eq name (codes "Vector"))

-- the name is a variable of the declaration, which hides every other meaning
abbrev pub is_variable : DeclText → List ℕ → Bool
is_variable d name = list_any (bytes_eq name) d.vars

-- ---- declarations

-- declaration k is d
abbrev pub At : List DeclText → ℕ → DeclText → Type 0
At ds k d = slice_get ds k ≡ Some d

-- declaration k has the property
pub record DeclarationHas (P : DeclText → Type 0) (ds : List DeclText) (k : ℕ) : Type 0 where
  pub d : DeclText
  pub here : At ds k d
  pub has : P d

-- an own constructor: no function, and no line of a built-in type
abbrev pub is_constructor : DeclText → Bool
is_constructor d = not d.function && not d.builtin

-- an own function
abbrev pub is_function : DeclText → Bool
is_function d = d.function && not d.builtin

-- the name of the type that a result begins with: a type's name that is no variable
abbrev pub head_in : DeclText → Tree → Option (List ℕ)
head_in d (named name ts) = if is_type_name name && not (is_variable d name) then Some name else None
head_in d (percent t) = None
head_in d any_call = None

abbrev pub result_head : DeclText → Option (List ℕ)
result_head d = head_in d d.result

-- declaration j is c, an own constructor of the type of this name
pub record IsConstructorOf (ds : List DeclText) (type : List ℕ) (j : ℕ) (c : DeclText) : Type 0 where
  pub there : At ds j c
  pub own : is_constructor c ≡ true
  pub head : result_head c ≡ Some type

-- declaration j is c, an own constructor of this name
pub record IsConstructorNamed (ds : List DeclText) (name : List ℕ) (j : ℕ) (c : DeclText) : Type 0 where
  pub there : At ds j c
  pub own : is_constructor c ≡ true
  pub named : c.name ≡ name

-- the type of an own constructor
abbrev pub own_type : DeclText → Option (List ℕ)
own_type d = if is_constructor d then result_head d else None
