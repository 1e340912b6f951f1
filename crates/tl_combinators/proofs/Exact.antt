-- What a call that follows the rule of programs, or of types, answers.
use Rattle.std.proofs.Common.{ℕ, List, [], Bool, Result, Ok, Err, refl, ap}
use Rattle.tl_lexer.specs.Rule.{Rule, Parses}
use Rattle.tl_lexer.specs.declared.token.Token.{Token}
use Rattle.tl_lexer.proofs.Sure.{Sure}
use Rattle.tl_combinators.specs.declared.fault.SyntaxFault.{SyntaxFault}
use Rattle.tl_combinators.specs.declared.fault.SyntaxFault.TheVariants.{Unexpected, NotProfile, TooMany, Memory}
use Rattle.tl_program.specs.declared.program.Program.{Program}
use Rattle.tl_program.specs.declared.tree.TypeTree.{TypeTree}
use Rattle.tl_combinators.specs.Tokens.{fault_of}
use Rattle.tl_program.specs.Trees.{Tree, view}
use Rattle.tl_combinators.specs.Types.{whole_type}
use Rattle.tl_program.specs.Program.{DeclText, program_text}
use Rattle.tl_combinators.specs.Sentences.{ProgramText, program_so_far, program, Reads, SyntaxRefused, ReadsType, TypeRefused, Accepts, Refuses}
use Rattle.tl_combinators.proofs.LawfulProgram.{lawful_program, lawful_whole_type}

-- ---- of a rule that is sure

module _ {X A : Type 0} (look : X → A) (r : Rule Token SyntaxFault A) (sure : Sure r) (tokens : List Token) where
  accepts : (x : Result X SyntaxFault) → Parses fault_of look r tokens [] x → (a : A) → r.reads tokens a [] → Accepts look a x
  accepts (Ok x) h a p = (sure.same tokens [] [] (look x) a h.given p).0
  accepts (Err (Unexpected at)) h a p = absurd (sure.apart tokens [] a (Unexpected at) p h.given)
  accepts (Err (NotProfile at form)) h a p = absurd (sure.apart tokens [] a (NotProfile at form) p h.given)
  accepts (Err (TooMany at)) h a p = absurd (sure.apart tokens [] a (TooMany at) p h.given)
  accepts (Err Memory) h a p = refl

  refuses : (x : Result X SyntaxFault) → Parses fault_of look r tokens [] x → (fault : SyntaxFault) → r.refused tokens fault → Refuses fault x
  refuses (Ok x) h fault p = sure.apart tokens [] (look x) fault h.given p
  refuses (Err (Unexpected at)) h fault p = sure.fault tokens (Unexpected at) fault h.given p
  refuses (Err (NotProfile at form)) h fault p = sure.fault tokens (NotProfile at form) fault h.given p
  refuses (Err (TooMany at)) h fault p = sure.fault tokens (TooMany at) fault h.given p
  refuses (Err Memory) h fault p = tt

-- ---- types

module _ (text : List ℕ) (tokens : List Token) where
  pub type_accepts : (x : Result TypeTree SyntaxFault) → Parses fault_of view (whole_type text) tokens [] x → (t : Tree) → ReadsType text tokens t → Accepts view t x
  type_accepts x h = accepts view (whole_type text) (lawful_whole_type text).sure tokens x h

  pub type_refuses : (x : Result TypeTree SyntaxFault) → Parses fault_of view (whole_type text) tokens [] x → (fault : SyntaxFault) → TypeRefused text tokens fault → Refuses fault x
  type_refuses x h = refuses view (whole_type text) (lawful_whole_type text).sure tokens x h

-- ---- programs, whose last section the answer doesn't say

abbrev pub last_in : Bool → Program → ProgramText
last_in function p = program_so_far (program_text p) function

module _ (text : List ℕ) (tokens : List Token) (function : Bool) where
  same_program : (x : Result Program SyntaxFault) (ds : List DeclText) (other : Bool) → Accepts (last_in function) (program_so_far ds other) x → Accepts program_text ds x
  same_program (Ok p) ds other e = ap (λ (r : ProgramText). r.decls) e
  same_program (Err f) ds other e = e

  pub program_accepts : (x : Result Program SyntaxFault) → Parses fault_of (last_in function) (program text) tokens [] x → (ds : List DeclText) → Reads text tokens ds → Accepts program_text ds x
  program_accepts x h ds p = same_program x ds p.0 (accepts (last_in function) (program text) (lawful_program text).sure tokens x h (program_so_far ds p.0) p.1)

  pub program_refuses : (x : Result Program SyntaxFault) → Parses fault_of (last_in function) (program text) tokens [] x → (fault : SyntaxFault) → SyntaxRefused text tokens fault → Refuses fault x
  program_refuses x h = refuses (last_in function) (program text) (lawful_program text).sure tokens x h
