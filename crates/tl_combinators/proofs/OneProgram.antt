-- Each list of tokens has its program or its fault, and its type or its fault.
use Rattle.std.proofs.Common.{◌≡◌, ℕ, List, [], ◌∷◌, ◌∙◌, subst, ap, inl, inr}
use Rattle.std.specs.Prelude.{◌⊎◌}
use Rattle.tl_lexer.specs.Rule.{gives, fails, chain, choice, loop}
use Rattle.tl_lexer.specs.declared.token.Token.{Token}
use Rattle.tl_lexer.proofs.Whole.{Outcome}
use Rattle.tl_combinators.specs.declared.fault.SyntaxFault.{SyntaxFault}
use Rattle.tl_program.specs.Trees.{Tree}
use Rattle.tl_combinators.specs.Types.{at_end, whole_type}
use Rattle.tl_program.specs.Program.{DeclText}
use Rattle.tl_combinators.specs.Sentences.{ProgramText, program, Reads, SyntaxRefused, ReadsType, TypeRefused}
use Rattle.tl_combinators.specs.OneReading.{HasOneProgram, HasOneType}
use Rattle.tl_combinators.proofs.DecidedTokens.{cell_left}
use Rattle.tl_combinators.proofs.LawfulProgram.{lawful_program, lawful_whole_type}

-- ---- what is read goes on to the end

program_to_end : (text : List ℕ) (tokens rest : List Token) (p : ProgramText) → (program text).reads tokens p rest → (program text).reads tokens p []
unfolding program loop
program_to_end text tokens [] p h = h
program_to_end text tokens (t ∷ ts) p (xs, d, n) = absurd (n (λ e. cell_left e))

ended : (text : List ℕ) (mid rest : List Token) (u : Unit {0}) → (at_end text).reads mid u rest → rest ≡ []
unfolding at_end choice gives fails
ended text mid rest u (inl (e, f)) = cc
ended text mid rest u (inr (n, h)) = absurd h

type_ended : (text : List ℕ) (tokens rest : List Token) (t : Tree) → (whole_type text).reads tokens t rest → rest ≡ []
unfolding whole_type choice chain gives
type_ended text tokens rest t (inl (b, (x, mid, h, (u, end, e, (p, q))))) = q ∙ ended text mid end u e
type_ended text tokens rest t (inr (b, (x, mid, h, (u, end, e, (p, q))))) = q ∙ ended text mid end u e

type_to_end : (text : List ℕ) (tokens rest : List Token) (t : Tree) → (whole_type text).reads tokens t rest → (whole_type text).reads tokens t []
type_to_end text tokens rest t h = subst (λ (z : List Token). (whole_type text).reads tokens t z) (type_ended text tokens rest t h) h

-- ---- one reading or one fault

some_program : (text : List ℕ) (tokens : List Token) → Outcome (program text) tokens → ((ds : List DeclText) × Reads text tokens ds) ⊎ ((fault : SyntaxFault) × SyntaxRefused text tokens fault)
some_program text tokens (inl (p, rest, h)) = inl (p.decls, (p.function, program_to_end text tokens rest p h))
some_program text tokens (inr (f, h)) = inr (f, h)

pub one_program : (text : List ℕ) (tokens : List Token) → HasOneProgram text tokens
one_program text tokens =
    record {
      either = some_program text tokens ((lawful_program text).whole.given tokens);
      never_both = λ ds f p q. (lawful_program text).sure.apart tokens [] _ f p.1 q;
      same = λ ds es p q. ap (λ (r : ProgramText). r.decls) ((lawful_program text).sure.same tokens [] [] _ _ p.1 q.1).0;
      same_fault = λ f g p q. (lawful_program text).sure.fault tokens f g p q;
    }

some_type : (text : List ℕ) (tokens : List Token) → Outcome (whole_type text) tokens → ((t : Tree) × ReadsType text tokens t) ⊎ ((fault : SyntaxFault) × TypeRefused text tokens fault)
some_type text tokens (inl (t, rest, h)) = inl (t, type_to_end text tokens rest t h)
some_type text tokens (inr (f, h)) = inr (f, h)

pub one_type : (text : List ℕ) (tokens : List Token) → HasOneType text tokens
one_type text tokens =
    record {
      either = some_type text tokens ((lawful_whole_type text).whole.given tokens);
      never_both = λ t f p q. (lawful_whole_type text).sure.apart tokens [] t f p q;
      same = λ t u p q. ((lawful_whole_type text).sure.same tokens [] [] t u p q).0;
      same_fault = λ f g p q. (lawful_whole_type text).sure.fault tokens f g p q;
    }
