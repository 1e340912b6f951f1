-- Which schemas are profiles, and what the first difference of another is. This project's own.
use Rattle.std.specs.Prelude.{◌≡◌, ℕ, suc, List, [], ◌∷◌, length, map, Bool, true, false, not, ◌&&◌, ◌||◌, ◌==◌, nat_lt, bytes_eq, if◌then◌else◌, Option, Some, None, Result, Ok, Err, slice_get}
use Rattle.std.specs.List.{position_or_len}
use Rattle.tl_schema.specs.Schemas.{Slot, Declaration, Declared}
use Rattle.tl_names.specs.Indexes.{types_of}
use Rattle.tl_plan.specs.Types.{is_equal, is_same}
use Rattle.wire_forms.specs.Forms.{FormView, PartView, forms, type_names, constructs}
use Rattle.wire_profile.specs.Indexes.{ProfileView, number_at, form_at, cell_cond, cell_shape, cell_var, result_shape, variables_of}
use Rattle.wire_profile.specs.Profiles.{AreHeads}
use Rattle.wire_profile.specs.declared.fault.ProfileFault.{ProfileFault}
use Rattle.wire_profile.specs.declared.fault.ProfileFault.TheVariants as fault

-- ---- one form

abbrev pub has_name : FormView → Declaration → Bool
has_name f d = bytes_eq f.name d.name && is_equal f.function d.function

-- the index of the first declaration of the form's name; where there is none, the number of declarations
abbrev pub declaration_index : Declared → FormView → ℕ
declaration_index S f = position_or_len (has_name f) S.decls

abbrev pub is_condition : Option (ℕ × ℕ) → Option (ℕ × ℕ) → Bool
is_condition None None = true
is_condition (Some c) (Some d) = (c.0 == d.0) && (c.1 == d.1)
is_condition c d = false

abbrev pub is_variable : Option ℕ → Option ℕ → Bool
is_variable None None = true
is_variable (Some i) (Some j) = i == j
is_variable c d = false

abbrev pub is_slot : ProfileView → PartView → Slot → Bool
is_slot p part slot = bytes_eq part.name slot.name && is_condition (cell_cond part.cell) slot.cond && is_variable (cell_var part.cell) slot.var && is_same (cell_shape p part.cell) slot.of

abbrev pub are_slots : ProfileView → List PartView → List Slot → Bool
are_slots p [] [] = true
are_slots p (part ∷ parts) (slot ∷ slots) = is_slot p part slot && are_slots p parts slots
are_slots p parts slots = false

-- a constructor makes the form's type; a function needs make none
abbrev pub has_head : ProfileView → Bool → Option ℕ → ℕ → Bool
has_head p false (Some h) head = (head == number_at p.heads h) && nat_lt head (length (types_of p.schema.program))
has_head p is_function made head = is_function

-- the declaration, which has the form's name, declares the form
abbrev pub declares : ProfileView → FormView → Declaration → Bool
declares p f d = (d.vars == variables_of f.result) && are_slots p f.parts d.fields && is_same (result_shape p f.result) d.result && has_head p f.function f.result d.head

-- ---- the first difference

pub data FaultView : Type 0 where
  missing : List ℕ → FaultView
  differs : List ℕ → FaultView

abbrev pub or_else : Option FaultView → Option FaultView → Option FaultView
or_else None later = later
or_else (Some fault) later = Some fault

-- of a form, whose declaration is this one if there is any
abbrev pub form_fault : ProfileView → FormView → Option Declaration → Option FaultView
form_fault p f None = Some (missing f.name)
form_fault p f (Some d) = if declares p f d then None else Some (differs f.name)

-- the first form's that has one
abbrev pub first_fault : ProfileView → List FormView → Option FaultView
first_fault p [] = None
first_fault p (f ∷ fs) = or_else (form_fault p f (slice_get p.schema.decls (declaration_index p.schema f))) (first_fault p fs)

-- form k makes none of the types with this head, whose numbers are counted from h
abbrev pub is_further : ℕ → List ℕ → ℕ → ℕ → Bool
is_further h [] head k = false
is_further h (n ∷ ns) head k = ((n == head) && not (constructs h k)) || is_further (suc h) ns head k

-- the first constructor of one of the types that is none of its forms, the declarations being counted from i
abbrev pub first_further : ProfileView → ℕ → List Declaration → Option FaultView
first_further p i [] = None
first_further p i (d ∷ ds) = if is_further 0 p.heads d.head (form_at p.indexes i) then Some (differs d.name) else first_further p (suc i) ds

-- all names before all further constructors
abbrev pub profile_fault : ProfileView → Option FaultView
profile_fault p = or_else (first_fault p forms) (first_further p 0 p.schema.decls)

-- ---- answers

-- the indexes are those of the forms' names, and the heads those of the types'
pub record IsFound (p : ProfileView) : Type 0 where
  pub indexes : p.indexes ≡ map (declaration_index p.schema) forms
  pub heads : AreHeads p.schema type_names p.heads

-- where the schema has the forms, if it has them
unfoldable pub profile_of : Declared → List ℕ → ProfileView
profile_of S heads = record { schema = S; indexes = map (declaration_index S) forms; heads = heads }

abbrev pub told_by : ProfileView → Option FaultView → Result ProfileView FaultView
told_by p None = Ok p
told_by p (Some fault) = Err fault

-- the profile that the schema is, its types having these numbers, or its first difference
unfoldable pub profile_answer : Declared → List ℕ → Result ProfileView FaultView
profile_answer S heads = told_by (profile_of S heads) (profile_fault (profile_of S heads))

-- this is answered, by the numbers of the schema's types
abbrev pub IsAnswer : Declared → Result ProfileView FaultView → Type 0
IsAnswer S told = (heads : List ℕ) × AreHeads S type_names heads × (profile_answer S heads ≡ told)

-- out of memory is free
abbrev pub AnswersProfile : Declared → Result ProfileView ProfileFault → Type 0
AnswersProfile S (Ok p) = IsAnswer S (Ok p)
AnswersProfile S (Err (fault.Missing name)) = IsAnswer S (Err (missing name))
AnswersProfile S (Err (fault.Differs name)) = IsAnswer S (Err (differs name))
AnswersProfile S (Err fault.Memory) = Unit {0}

-- what is told is the fault, if there is one
abbrev pub TellsFault : Option FaultView → Result (Unit {0}) ProfileFault → Type 0
TellsFault m (Ok passes) = m ≡ None
TellsFault m (Err (fault.Missing name)) = m ≡ Some (missing name)
TellsFault m (Err (fault.Differs name)) = m ≡ Some (differs name)
TellsFault m (Err fault.Memory) = Unit {0}
