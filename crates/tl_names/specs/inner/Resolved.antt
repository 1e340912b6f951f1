-- What holds of each type and declaration that a resolved one stands for. This project's own.
use Rattle.std.specs.Prelude.{◌≡◌, ℕ, List, map}
use Rattle.tl_program.specs.Trees.{Tree}
use Rattle.tl_program.specs.Program.{KindText, FieldText, DeclText}
use Rattle.tl_names.specs.What.{what_of, variable_named}
use Rattle.tl_names.specs.declared.what.What.{What}
use Rattle.tl_names.specs.Meants.{MeantView, meant}
use Rattle.tl_names.specs.MeantDecls.{MeantKindView, MeantFieldView, MeantDeclView, kind_by, meant_field, meant_decl}

-- where w is what the name means, as d writes it
abbrev pub ForName : List DeclText → What → (DeclText → List ℕ → Type 0) → Type 0
ForName ds w P = (d : DeclText) (name : List ℕ) → w ≡ what_of ds d name → P d name

-- where m is the type t, as d writes it
abbrev pub ForType : List DeclText → MeantView → (DeclText → Tree → Type 0) → Type 0
ForType ds m P = (d : DeclText) (t : Tree) → m ≡ meant ds d t → P d t

abbrev pub ForTypes : List DeclText → List MeantView → (DeclText → List Tree → Type 0) → Type 0
ForTypes ds ms P = (d : DeclText) (ts : List Tree) → ms ≡ map (meant ds d) ts → P d ts

-- where k is what a field of d holds
abbrev pub ForKind : List DeclText → MeantKindView → (DeclText → KindText → Type 0) → Type 0
ForKind ds k P = (d : DeclText) (kind : KindText) → k ≡ kind_by (what_of ds d) (variable_named d) kind → P d kind

-- where they are fields as d writes them
abbrev pub ForFields : List DeclText → List MeantFieldView → (DeclText → List FieldText → Type 0) → Type 0
ForFields ds ms P = (d : DeclText) (fs : List FieldText) → ms ≡ map (meant_field ds d) fs → P d fs

-- where m is the declaration d
abbrev pub ForDecl : List DeclText → MeantDeclView → (DeclText → Type 0) → Type 0
ForDecl ds m P = (d : DeclText) → m ≡ meant_decl ds d → P d

-- they are the declarations of the program
abbrev pub AreResolved : List DeclText → List MeantDeclView → Type 0
AreResolved ds ms = ms ≡ map (meant_decl ds) ds
