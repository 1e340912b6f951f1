-- The rule that gives a description: it is sure and whole, takes no token, and never refuses.
use Rattle.std.proofs.Common.{◌≡◌, ℕ, List, [], Ok, refl, sym, ap, inl, ◌∙◌, subst}
use Rattle.tl_lexer.specs.Rule.{Parses}
use Rattle.tl_lexer.specs.declared.token.Token.{Token}
use Rattle.tl_lexer.proofs.Sure.{Sure}
use Rattle.tl_lexer.proofs.Whole.{Whole}
use Rattle.tl_combinators.specs.Tokens.{fault_of}
use Rattle.tl_combinators.specs.Description.{Piece, Describes, description}
use Rattle.tl_combinators.specs.DescriptionSoFar.{Described, so_far}
use Rattle.tl_combinators.proofs.Describing.{one_description, has_description, describes_so_far}
use Rattle.tl_combinators.proofs.Rows.{Rows}
use Rattle.tl_combinators.proofs.Lawful.{Lawful}

pub describes_here : (ps : List Piece) (ts : List Token) → (description ps).reads ts (has_description ps).0 ts
unfolding description
describes_here ps ts = ((has_description ps).1, refl)

description_sure : (ps : List Piece) → Sure (description ps)
unfolding description
description_sure ps = record { same = λ ts rest more x y p q. (one_description ps x y p.0 q.0, p.1 ∙ sym q.1); apart = λ ts rest x f p q. q; fault = λ ts f g p q. absurd p }

description_whole : (ps : List Piece) → Whole (description ps)
unfolding description
description_whole ps = record { given = λ ts. inl ((has_description ps).0, ts, ((has_description ps).1, refl)) }

description_rows : (ps : List Piece) → Rows (description ps)
unfolding description
description_rows ps = record { given = λ ts rest x h. ([], sym h.1) }

pub lawful_description : (ps : List Piece) → Lawful (description ps)
lawful_description ps = record { sure = description_sure ps; rows = description_rows ps; whole = description_whole ps }

-- the bytes of what the code made of the pieces
pub description_ok : (ps : List Piece) (d : Described) (bytes : List ℕ) (ts : List Token) → d ≡ so_far ps → bytes ≡ d.bytes → Parses fault_of (λ (x : List ℕ). x) (description ps) ts ts (Ok bytes)
unfolding description
description_ok ps d bytes ts e f = record { given = (subst (Describes ps) (sym (f ∙ ap (λ (x : Described). x.bytes) e)) (describes_so_far ps), refl) }
