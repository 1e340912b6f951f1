-- Printed types are read back.
use Rattle.std.proofs.Common.{◌≡◌, ℕ, zero, suc, ◌≤◌, List, [], ◌∷◌, ◌++◌, append_assoc, Bool, true, false, IsTrue, Some, refl, sym, ◌∙◌, ap, subst, inl, inr, arith}
use Rattle.std.specs.Prelude.{◌||◌, nat_lt}
use Rattle.std.proofs.lemmas.Bool.{false≢true}
use Rattle.std.proofs.lemmas.List.{append-nil}
use Rattle.tl_lexer.specs.Rule.{Rule, gives, one, chain, choice, loop}
use Rattle.tl_lexer.specs.declared.token.Token.{Token}
use Rattle.tl_lexer.specs.declared.token.TokenKind.{TokenKind}
use Rattle.tl_lexer.specs.declared.token.TokenKind.TheVariants.{Word, Dot, Less, Greater, Comma, LParen, Percent, Bang}
use Rattle.tl_combinators.specs.declared.fault.SyntaxFault.{SyntaxFault}
use Rattle.tl_combinators.specs.Tokens.{Begins, OfKind, token}
use Rattle.tl_program.specs.Trees.{Tree, Trees, named, percent, any_call, no_trees, tree, trees_of}
use Rattle.tl_combinators.specs.Types.{opens, in_parens, one_term, terms, one_listed, listed, applied, application, after_percent, bare, core, type_in, term, expression}
use Rattle.tl_combinators.specs.Fields.{BeginsCondition}
use Rattle.tl_print.specs.Written.{written_tree, written_args}
use Rattle.tl_print.proofs.PrintedPieces.{Piece, sign, bytes_in, Stops, Good, first_kind, Stands}
use Rattle.tl_print.proofs.PrintableForm.{IsTypeName, IsShape, AreShapes, levels, bare_levels, most, IsTree}
use Rattle.tl_combinators.specs.Names.{type_name}
use Rattle.tl_print.proofs.PrintedParts.{Left, Printed, loop_turn, left_yes, left_no, next_at, other_kind, one_kind, kind_first, token_reads, not_condition, NameLeft, type_name_printed}

-- what may stand after a type: no `<` and no `.`, and where its name may be a head no further term
pub record Follows (head : Bool) (k : List Piece) : Type 0 where
  pub less : first_kind k ≡ Some Less → ⊥
  pub dot : first_kind k ≡ Some Dot → ⊥
  pub terms : IsTrue head → (first_kind k ≡ Some Word → ⊥) × (first_kind k ≡ Some LParen → ⊥) × (first_kind k ≡ Some Percent → ⊥)

no_head : (head : Bool) (k : List Piece) → Follows head k → Follows false k
no_head head k f = record { less = f.less; dot = f.dot; terms = λ h. absurd (false≢true h) }

-- the kind of a type's first token
abbrev pub tree_kind : Tree → TokenKind
tree_kind (named bytes args) = Word
tree_kind (percent t) = Percent
tree_kind any_call = Bang

kind_no_paren : (t : Tree) → tree_kind t ≡ LParen → ⊥
kind_no_paren (named bytes args) e = absurd cc
kind_no_paren (percent t) e = absurd cc
kind_no_paren any_call e = absurd cc

pub record PrintedTree (r : List ℕ → Rule Token SyntaxFault Tree) (t : Tree) (k : List Piece) : Type 0 where
  pub row : Printed r t (written_tree t) k
  pub starts : (text : List ℕ) (p : ℕ) (ts : List Token) → Stands text p row.pieces ts → Begins (tree_kind t) ts
  pub no_condition : (text : List ℕ) (p : ℕ) (ts : List Token) → Stands text p row.pieces ts → BeginsCondition text ts → ⊥

-- ---- parentheses, of which there are none

or_none : (head : Bool) → (head || nat_lt 0 0) ≡ head
or_none true = refl
or_none false = refl

module _ (text : List ℕ) (inner : Bool → Rule Token SyntaxFault Tree) (head : Bool) (ts : List Token) (t : Tree) (k : List Piece) where
  parens_read : (Begins LParen ts → ⊥) → Left text (inner head) ts t k → Left text (in_parens text inner head) ts t k
  unfolding in_parens chain opens loop gives
  parens_read n l = record {
    at = l.at;
    rest = l.rest;
    stands = l.stands;
    reads = (0, ts, ([], (refl, refl), n), (t, l.rest, subst (λ (b : Bool). (inner b).reads ts t l.rest) (sym (or_none head)) l.reads, (tt, l.rest, (refl, refl), (refl, refl))));
  }

parens_printed : (inner : List ℕ → Bool → Rule Token SyntaxFault Tree) (head : Bool) (t : Tree) (k : List Piece) → PrintedTree (λ text. inner text head) t k → PrintedTree (λ text. in_parens text (inner text) head) t k
parens_printed inner head t k h = record {
  row = record {
    pieces = h.row.pieces;
    bytes_are = h.row.bytes_are;
    good = h.row.good;
    reads = λ text p ts s.
        parens_read text (inner text) head ts t k (λ b. kind_no_paren t (one_kind (tree_kind t) LParen ts (h.starts text p ts s) b)) (h.row.reads text p ts s);
  };
  starts = h.starts;
  no_condition = h.no_condition;
}

-- ---- what a name is applied to

-- the type below n levels
abbrev below_type : List ℕ → ℕ → Bool → Rule Token SyntaxFault Tree
below_type text n = in_parens text (core text n)

abbrev list_of : Trees → List Tree
list_of no_trees = []
list_of (tree t ts) = t ∷ list_of ts

trees_are : (ts : Trees) → trees_of (list_of ts) ≡ ts
trees_are no_trees = refl
trees_are (tree t ts) = ap (tree t) (trees_are ts)

-- the types after these in `<..>`
record PrintedMore (n : ℕ) (so : List Tree) (ts : Trees) (k : List Piece) : Type 0 where
  pieces : List Piece
  bytes_are : bytes_in pieces ≡ written_args false ts ++ bytes_in k
  good : Good k → Good pieces
  stops : Stops pieces
  follows : Follows true pieces
  reads : (text : List ℕ) (p : ℕ) (us : List Token) → Stands text p pieces us → Left text (loop (Begins Comma) (one_listed text (below_type text n true)) so) us (so ++ list_of ts) (sign Greater ∷ k)

module _ (n : ℕ) (so : List Tree) where
  more_done_reads : (k : List Piece) (text : List ℕ) (p : ℕ) (us : List Token) → Stands text p (sign Greater ∷ k) us → Left text (loop (Begins Comma) (one_listed text (below_type text n true)) so) us (so ++ []) (sign Greater ∷ k)
  unfolding loop
  more_done_reads k text p us (t, rest, e, f, s) = record {
    at = p;
    rest = us;
    stands = (t, rest, e, f, s);
    reads = ([], (append-nil so, refl), other_kind Greater Comma us rest t e f.kind_is (λ h. absurd cc));
  }

  more_done : (k : List Piece) → PrintedMore n so no_trees k
  more_done k = record {
    pieces = sign Greater ∷ k;
    bytes_are = refl;
    good = λ g. (refl, g);
    stops = λ h. absurd cc;
    follows = record { less = λ e. absurd cc; dot = λ e. absurd cc; terms = λ h. ((λ e. absurd cc), (λ e. absurd cc), (λ e. absurd cc)) };
    reads = more_done_reads k;
  }

  comma_reads : (text : List ℕ) (us mid rest : List Token) (c : Token) (t : Tree) → us ≡ c ∷ mid → c.kind ≡ Comma → (below_type text n true).reads mid t rest → (one_listed text (below_type text n true) so).reads us (so ++ (t ∷ [])) rest
  unfolding one_listed one_term chain gives
  comma_reads text us mid rest c t e k h = (c, mid, token_reads text Comma us mid c e k, (t, rest, h, (refl, refl)))

  more_turn_reads : (t : Tree) (ts : Trees) (k : List Piece) (m : PrintedMore n (so ++ (t ∷ [])) ts k) (r : PrintedTree (λ text. below_type text n true) t m.pieces)
      (text : List ℕ) (p : ℕ) (us : List Token) → Stands text p (sign Comma ∷ r.row.pieces) us → Left text (loop (Begins Comma) (one_listed text (below_type text n true)) so) us (so ++ (t ∷ list_of ts)) (sign Greater ∷ k)
  more_turn_reads t ts k m r text p us (c, mid, e, f, s) =
      let a = r.row.reads text c.end mid s in
      let b = m.reads text a.at a.rest a.stands in
      record {
        at = b.at;
        rest = b.rest;
        stands = b.stands;
        reads = subst (λ (end : List Tree). (loop (Begins Comma) (one_listed text (below_type text n true)) so).reads us end b.rest) (append_assoc so (t ∷ []) (list_of ts))
            (loop_turn (Begins Comma) (one_listed text (below_type text n true)) so (so ++ (t ∷ [])) ((so ++ (t ∷ [])) ++ list_of ts) us a.rest b.rest
            (next_at (OfKind Comma) us mid c e f.kind_is) (comma_reads text us mid a.rest c t e f.kind_is a.reads) b.reads);
      }

  more_turn : (t : Tree) (ts : Trees) (k : List Piece) (m : PrintedMore n (so ++ (t ∷ [])) ts k) (r : PrintedTree (λ text. below_type text n true) t m.pieces) → PrintedMore n so (tree t ts) k
  more_turn t ts k m r = record {
    pieces = sign Comma ∷ r.row.pieces;
    bytes_are = ap (λ (b : List ℕ). 44 ∷ b) (r.row.bytes_are ∙ ap (λ (b : List ℕ). written_tree t ++ b) m.bytes_are ∙ sym (append_assoc (written_tree t) (written_args false ts) (bytes_in k)));
    good = λ g. (refl, r.row.good m.stops (m.good g));
    stops = λ h. absurd cc;
    follows = record { less = λ e. absurd cc; dot = λ e. absurd cc; terms = λ h. ((λ e. absurd cc), (λ e. absurd cc), (λ e. absurd cc)) };
    reads = more_turn_reads t ts k m r;
  }

-- what stands after a name
record PrintedArgs (n : ℕ) (head : Bool) (bytes : List ℕ) (args : Trees) (k : List Piece) : Type 0 where
  row : Printed (λ text. applied text (below_type text n) head bytes) (named bytes args) (written_args true args) k
  dot : first_kind row.pieces ≡ Some Dot → ⊥
  stops : Stops k → Stops row.pieces

module _ (n : ℕ) (bytes : List ℕ) (k : List Piece) where
  no_args_reads : (head : Bool) → Follows head k → (text : List ℕ) (p : ℕ) (us : List Token) → Stands text p k us → Left text (applied text (below_type text n) head bytes) us (named bytes no_trees) k
  unfolding applied choice chain terms loop gives
  no_args_reads true f text p us s = record {
    at = p;
    rest = us;
    stands = s;
    reads = inr (
      (λ h. f.less (kind_first text p k us Less s h)),
      inl (
        refl,
        (
          [],
          us,
          (
            [],
            (refl, refl),
            λ h. elim h [
              | inl w ↦ (f.terms refl).0 (kind_first text p k us Word s w)
              | inr q ↦ elim q [ inl l ↦ (f.terms refl).1 (kind_first text p k us LParen s l) | inr c ↦ (f.terms refl).2 (kind_first text p k us Percent s c) ]
            ],
          ),
          (refl, refl),
        ),
      ),
    );
  }
  no_args_reads false f text p us s = record {
    at = p;
    rest = us;
    stands = s;
    reads = inr ((λ h. f.less (kind_first text p k us Less s h)), inr (false≢true, (refl, refl)));
  }

  no_args : (head : Bool) → Follows head k → PrintedArgs n head bytes no_trees k
  no_args head f = record {
    row = record { pieces = k; bytes_are = refl; good = λ n g. g; reads = no_args_reads head f };
    dot = f.dot;
    stops = λ h. h;
  }

  some_args_reads : (head : Bool) (t : Tree) (ts : Trees) (m : PrintedMore n (t ∷ []) ts k) (r : PrintedTree (λ text. below_type text n true) t m.pieces)
      (text : List ℕ) (p : ℕ) (us : List Token) → Stands text p (sign Less ∷ r.row.pieces) us → Left text (applied text (below_type text n) head bytes) us (named bytes (tree t ts)) k
  unfolding applied choice chain listed token one gives
  some_args_reads head t ts m r text p us (l, mid, e, f, s) =
      let a = r.row.reads text l.end mid s in
      let b = m.reads text a.at a.rest a.stands in
      let g = b.stands in
      record {
        at = g.0.end;
        rest = g.1;
        stands = g.4;
        reads = inl (
          next_at (OfKind Less) us mid l e f.kind_is,
          (
            l,
            mid,
            (e, f.kind_is),
            (
              (t ∷ []) ++ list_of ts,
              b.rest,
              (t, a.rest, a.reads, b.reads),
              (
                g.0,
                g.1,
                (g.2, g.3.kind_is),
                (ap (λ (us : Trees). named bytes (tree t us)) (sym (trees_are ts)), refl),
              ),
            ),
          ),
        );
      }

  some_args : (head : Bool) (t : Tree) (ts : Trees) (m : PrintedMore n (t ∷ []) ts k) (r : PrintedTree (λ text. below_type text n true) t m.pieces) → PrintedArgs n head bytes (tree t ts) k
  some_args head t ts m r = record {
    row = record {
      pieces = sign Less ∷ r.row.pieces;
      bytes_are = ap (λ (b : List ℕ). 60 ∷ b) (r.row.bytes_are ∙ ap (λ (b : List ℕ). written_tree t ++ b) m.bytes_are ∙ sym (append_assoc (written_tree t) (written_args false ts) (bytes_in k)));
      good = λ n g. (refl, r.row.good m.stops (m.good g));
      reads = some_args_reads head t ts m r;
    };
    dot = λ e. absurd cc;
    stops = λ n h. absurd cc;
  }

-- ---- names that are applied, and `%`

application_reads : (text : List ℕ) (n : ℕ) (head : Bool) (bytes : List ℕ) (args : Trees) (k more : List Piece) (ts : List Token) → NameLeft text (type_name text) ts bytes more
    → ((q : ℕ) (us : List Token) → Stands text q more us → Left text (applied text (below_type text n) head bytes) us (named bytes args) k) → Left text (application text (below_type text n) head) ts (named bytes args) k
unfolding application chain
application_reads text n head bytes args k more ts l f =
    let b = f l.at l.rest l.stands in
    record { at = b.at; rest = b.rest; stands = b.stands; reads = (record { bytes = bytes; end = l.at }, l.rest, l.reads, b.reads) }

application_printed : (n : ℕ) (head : Bool) (bytes : List ℕ) (args : Trees) (k : List Piece) → IsTypeName bytes → PrintedArgs n head bytes args k → PrintedTree (λ text. application text (below_type text n) head) (named bytes args) k
application_printed n head bytes args k i a =
    let w = type_name_printed bytes a.row.pieces a.dot i in
    record {
      row = record {
        pieces = w.pieces;
        bytes_are = w.bytes_are ∙ ap (λ (b : List ℕ). bytes ++ b) a.row.bytes_are ∙ sym (append_assoc bytes (written_args true args) (bytes_in k));
        good = λ n g. w.good (a.stops n) (a.row.good n g);
        reads = λ text p ts s. application_reads text n head bytes args k a.row.pieces ts (w.reads text p ts s) (a.row.reads text);
      };
      starts = λ text p ts s. let b = w.starts text p ts s in next_at (OfKind Word) ts b.behind b.token b.whole b.front.kind_is;
      no_condition = λ text p ts s. (w.starts text p ts s).no_condition;
    }

-- the type after `%`
abbrev behind_type : List ℕ → ℕ → Bool → Rule Token SyntaxFault Tree
behind_type text n = after_percent text (core text n) (below_type text n)

no_percent : (ts : List Token) → Begins Word ts → Begins Percent ts → ⊥
no_percent ts h g = let e : Word ≡ Percent = one_kind Word Percent ts h g in absurd cc

core_named : (n : ℕ) (head : Bool) (bytes : List ℕ) (args : Trees) (k : List Piece) → PrintedTree (λ text. application text (below_type text n) head) (named bytes args) k → PrintedTree (λ text. core text (suc n) head) (named bytes args) k
core_named n head bytes args k r = record {
  row = record {
    pieces = r.row.pieces;
    bytes_are = r.row.bytes_are;
    good = r.row.good;
    reads = λ text p ts s. left_no text _ _ _ ts (named bytes args) k (no_percent ts (r.starts text p ts s)) (r.row.reads text p ts s);
  };
  starts = r.starts;
  no_condition = r.no_condition;
}

behind_named : (n : ℕ) (bytes : List ℕ) (args : Trees) (k : List Piece) → PrintedTree (λ text. application text (below_type text n) false) (named bytes args) k → PrintedTree (λ text. behind_type text n false) (named bytes args) k
unfolding after_percent
behind_named n bytes args k r = record {
  row = record {
    pieces = r.row.pieces;
    bytes_are = r.row.bytes_are;
    good = r.row.good;
    reads = λ text p ts s. left_no text _ _ _ ts (named bytes args) k (no_percent ts (r.starts text p ts s)) (r.row.reads text p ts s);
  };
  starts = r.starts;
  no_condition = r.no_condition;
}

behind_deeper : (n : ℕ) (t : Tree) (k : List Piece) → PrintedTree (λ text. core text n false) (percent t) k → PrintedTree (λ text. behind_type text n false) (percent t) k
unfolding after_percent
behind_deeper n t k r = record {
  row = record {
    pieces = r.row.pieces;
    bytes_are = r.row.bytes_are;
    good = r.row.good;
    reads = λ text p ts s. left_yes text _ _ _ ts (percent t) k (r.starts text p ts s) (r.row.reads text p ts s);
  };
  starts = r.starts;
  no_condition = r.no_condition;
}

bare_reads : (text : List ℕ) (n : ℕ) (t : Tree) (k : List Piece) (ts rest : List Token) (c : Token) → ts ≡ c ∷ rest → c.kind ≡ Percent → Left text (in_parens text (behind_type text n) false) rest t k → Left text (bare text (core text n) (below_type text n)) ts (percent t) k
unfolding bare chain gives token one
bare_reads text n t k ts rest c e h l = record { at = l.at; rest = l.rest; stands = l.stands; reads = (c, rest, (e, h), (t, l.rest, l.reads, (refl, refl))) }

core_percent : (n : ℕ) (head : Bool) (t : Tree) (k : List Piece) → PrintedTree (λ text. in_parens text (behind_type text n) false) t k → PrintedTree (λ text. core text (suc n) head) (percent t) k
core_percent n head t k r = record {
  row = record {
    pieces = sign Percent ∷ r.row.pieces;
    bytes_are = ap (λ (b : List ℕ). 37 ∷ b) r.row.bytes_are;
    good = λ n g. (refl, r.row.good n g);
    reads = λ text p ts s.
        left_yes text _ _ _ ts (percent t) k (next_at (OfKind Percent) ts s.1 s.0 s.2 s.3.kind_is) (bare_reads text n t k ts s.1 s.0 s.2 s.3.kind_is (r.row.reads text s.0.end s.1 s.4));
  };
  starts = λ text p ts s. next_at (OfKind Percent) ts s.1 s.0 s.2 s.3.kind_is;
  no_condition = λ text p ts s. not_condition text ts s.1 s.0 s.2 (λ h. let e : Percent ≡ Word = sym s.3.kind_is ∙ h in absurd cc);
}

-- ---- types

some_levels : (t : Tree) → IsShape t → 1 ≤ bare_levels t
some_levels (named bytes args) h = omega arith
some_levels (percent t) h = omega arith
some_levels any_call h = absurd h

mutual
  core_printed : (t : Tree) → IsShape t → (n : ℕ) → levels t ≤ n → (head : Bool) (k : List Piece) → Follows head k → PrintedTree (λ text. core text n head) t k
  core_printed (named bytes args) h zero w head k f = absurd (omega (arith, w))
  core_printed (named bytes args) h (suc n) w head k f = core_named n head bytes args k (application_printed n head bytes args k h.0 (args_printed args h.1 n (omega (arith, w)) head bytes k f))
  core_printed (percent t) h zero w head k f = absurd (omega (arith, w, some_levels t h))
  core_printed (percent t) h (suc n) w head k f = core_percent n head t k (behind_printed t h n w k (no_head head k f))
  core_printed any_call h n w head k f = absurd h

  behind_printed : (t : Tree) → IsShape t → (n : ℕ) → bare_levels t ≤ suc n → (k : List Piece) → Follows false k → PrintedTree (λ text. in_parens text (behind_type text n) false) t k
  behind_printed (named bytes args) h n w k f =
      parens_printed (λ text. behind_type text n) false (named bytes args) k
      (behind_named n bytes args k (application_printed n false bytes args k h.0 (args_printed args h.1 n (omega (arith, w)) false bytes k f)))
  behind_printed (percent t) h zero w k f = absurd (omega (arith, w, some_levels t h))
  behind_printed (percent t) h (suc n) w k f =
      parens_printed (λ text. behind_type text (suc n)) false (percent t) k (behind_deeper (suc n) t k (core_percent n false t k (behind_printed t h n (omega (arith, w)) k f)))
  behind_printed any_call h n w k f = absurd h

  args_printed : (args : Trees) → AreShapes args → (n : ℕ) → most args ≤ n → (head : Bool) (bytes : List ℕ) (k : List Piece) → Follows head k → PrintedArgs n head bytes args k
  args_printed no_trees h n w head bytes k f = no_args n bytes k head f
  args_printed (tree t ts) h n w head bytes k f =
      let m = more_printed ts h.1 n (omega (arith, w)) k (t ∷ []) in
      some_args n bytes k head t ts m (parens_printed (λ text. core text n) true t m.pieces (core_printed t h.0 n (omega (arith, w)) true m.pieces m.follows))

  more_printed : (ts : Trees) → AreShapes ts → (n : ℕ) → most ts ≤ n → (k : List Piece) (so : List Tree) → PrintedMore n so ts k
  more_printed no_trees h n w k so = more_done n so k
  more_printed (tree t ts) h n w k so =
      let m = more_printed ts h.1 n (omega (arith, w)) k (so ++ (t ∷ [])) in
      more_turn n so t ts k m (parens_printed (λ text. core text n) true t m.pieces (core_printed t h.0 n (omega (arith, w)) true m.pieces m.follows))

type_printed : (t : Tree) (head : Bool) (k : List Piece) → IsTree 16 t → Follows head k → PrintedTree (λ text. type_in text 16 head) t k
type_printed t head k i f = parens_printed (λ text. core text 16) head t k (core_printed t i.shape 16 i.few head k f)

pub term_printed : (t : Tree) (k : List Piece) → IsTree 16 t → Follows false k → PrintedTree (λ text. term text) t k
unfolding term
term_printed t k i f = type_printed t false k i f

pub expression_printed : (t : Tree) (k : List Piece) → IsTree 16 t → Follows true k → PrintedTree (λ text. expression text) t k
unfolding expression
expression_printed t k i f = type_printed t true k i f
