-- Bytes that are written one after the other.
use Rattle.std.specs.Prelude.{◌≡◌, ℕ, ◌+◌, ◌<◌, List, [], ◌∷◌, ◌++◌, length, map, true, false, Some}
use Rattle.std.proofs.Common.{refl, sym, ap, ◌∙◌, subst, arith, append-nil, append_assoc, length-append}
use Rattle.std.proofs.lemmas.List.{map-append}
use Rattle.tl_base.specs.declared.host.Out.{Out}
use Rattle.outside.specs.Begun.{Did}
use Rattle.outside.specs.Events.{Event, HostState, put, write_failed}
use Rattle.outside.specs.Pieces.{InPieces, Writes, joined}
use Rattle.outside.proofs.Growing.{grew_more}

joined-append : (ps qs : List (List ℕ)) → joined (ps ++ qs) ≡ joined ps ++ joined qs
joined-append [] qs = refl
joined-append (p ∷ ps) qs = ap (λ (l : List ℕ). p ++ l) (joined-append ps qs) ∙ sym (append_assoc p (joined ps) (joined qs))

pieces_both : (event : List ℕ → Event) (xs ys : List ℕ) (last t u : List Event) → InPieces event xs [] t → InPieces event ys last u → InPieces event (xs ++ ys) last (t ++ u)
pieces_both event xs ys last t u first next = record {
  pieces = first.pieces ++ next.pieces;
  events = ap (λ (l : List Event). l ++ u) (first.events ∙ append-nil (map event first.pieces)) ∙ ap (λ (l : List Event). map event first.pieces ++ l) next.events
      ∙ sym (append_assoc (map event first.pieces) (map event next.pieces) last) ∙ ap (λ (l : List Event). l ++ last) (sym (map-append event first.pieces next.pieces));
  join = joined-append first.pieces next.pieces ∙ ap (λ (l : List ℕ). l ++ joined next.pieces) first.join ∙ ap (λ (l : List ℕ). xs ++ l) next.join;
}

pub writes_both : (out : Out) (xs ys : List ℕ) (p q r : HostState) → Did (Writes out xs) p q (Some true) → Did (Writes out ys) q r (Some true) → Did (Writes out (xs ++ ys)) p r (Some true)
writes_both out xs ys p q r first next = record {
  trace = first.trace ++ next.trace;
  grew = grew_more p q r first.trace next.trace first.grew next.grew;
  holds = pieces_both (put out) xs ys [] first.trace next.trace first.holds next.holds;
}

pub writes_fail : (out : Out) (xs ys : List ℕ) (p q r : HostState) → Did (Writes out xs) p q (Some true) → Did (Writes out ys) q r (Some false) → Did (Writes out (xs ++ ys)) p r (Some false)
writes_fail out xs ys p q r first next =
    let h = next.holds in
    record {
      trace = first.trace ++ next.trace;
      grew = grew_more p q r first.trace next.trace first.grew next.grew;
      holds = (xs ++ h.0, h.1, pieces_both (put out) xs h.0 (write_failed out ∷ []) first.trace next.trace first.holds h.2, append_assoc xs h.0 h.1 ∙ ap (λ (l : List ℕ). xs ++ l) h.3, h.4);
    }

pub writes_longer : (out : Out) (xs ys : List ℕ) (p q : HostState) → Did (Writes out xs) p q (Some false) → Did (Writes out (xs ++ ys)) p q (Some false)
writes_longer out xs ys p q d =
    let h = d.holds in
    record {
      trace = d.trace;
      grew = d.grew;
      holds = (h.0, h.1 ++ ys, h.2, sym (append_assoc h.0 h.1 ys) ∙ ap (λ (l : List ℕ). l ++ ys) h.3, omega (arith, h.4, length-append h.1 ys));
    }
