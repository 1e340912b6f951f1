-- An answer whose Output is put by parts.
use Rattle.std.proofs.Common.{◌≡◌, ℕ, List, [], ◌∷◌, ◌++◌, length-append, map, Bool, true, false, Some, None, refl, sym, ap, ◌∙◌, subst, arith, inl}
use Rattle.std.proofs.lemmas.List.{append-nil, append_assoc, map-append}
use Rattle.tl_base.specs.declared.host.Out.TheVariants.{Output}
use Rattle.outside.specs.Answer.{Answer, done, refused_after, write_fault_line}
use Rattle.outside.specs.declared.status.Status.{Status}
use Rattle.outside.specs.declared.status.Status.TheVariants.{Refused, WriteFault}
use Rattle.outside.specs.Events.{Event, HostState, put}
use Rattle.outside.specs.Pieces.{InPieces, Tells, Writes, joined}
use Rattle.outside.specs.Printing.{Prints, after_output}
use Rattle.outside.specs.Begun.{Did, DidIn, WritesOnly, to_output}
use Rattle.outside.specs.Steps.{Grows}
use Rattle.outside.proofs.Causing.{keeps_pieces}
use Rattle.outside.proofs.Growing.{did_any, did_both, grew_more}
use Rattle.outside.proofs.Piecewise.{can_tell, more_pieces}

joined_both : (ps qs : List (List ℕ)) → joined (ps ++ qs) ≡ joined ps ++ joined qs
joined_both [] qs = refl
joined_both (p ∷ ps) qs = ap (λ (l : List ℕ). p ++ l) (joined_both ps qs) ∙ sym (append_assoc p (joined ps) (joined qs))

pieces_then : (event : List ℕ → Event) (xs ys : List ℕ) (last t u : List Event) → InPieces event xs [] t → InPieces event ys last u → InPieces event (xs ++ ys) last (t ++ u)
pieces_then event xs ys last t u q r =
    let first : t ≡ map event q.pieces = q.events ∙ append-nil (map event q.pieces) in
    record {
      pieces = q.pieces ++ r.pieces;
      events = (λ i. first i ++ r.events i) ∙ sym (append_assoc (map event q.pieces) (map event r.pieces) last) ∙ ap (λ (l : List Event). l ++ last) (sym (map-append event q.pieces r.pieces));
      join = joined_both q.pieces r.pieces ∙ (λ i. q.join i ++ r.join i);
    }

-- so much of Output was put
abbrev pub HasPut : List ℕ → HostState → HostState → Type 0
HasPut output x y = Grows x y (InPieces (put Output) output [])

module _ (x y : HostState) (output : List ℕ) (g : HasPut output x y) where
  writes_after : (lines : List ℕ) (ok : Bool) (u : List Event) → Writes Output lines u ok → Writes Output (output ++ lines) (g.trace ++ u) ok
  writes_after lines true u w = pieces_then (put Output) output lines [] g.trace u g.holds w
  writes_after lines false u (before, after, q, split, some) = (output ++ before, after, pieces_then (put Output) output before _ g.trace u g.holds q, append_assoc output before after ∙ ap (λ (l : List ℕ). output ++ l) split, some)

  pub put_more : (z : HostState) (lines : List ℕ) → Did (Writes Output lines) y z (Some true) → HasPut (output ++ lines) x z
  put_more z lines h = record { trace = g.trace ++ h.trace; grew = grew_more x y z g.trace h.trace g.grew h.grew; holds = writes_after lines true h.trace h.holds }

  same_after : (lines : List ℕ) (ok : Bool) (u : List Event) (status : Status) → after_output (done lines) ok u status → after_output (done (output ++ lines)) ok u status
  same_after lines true u status h = h
  same_after lines false u status h = h

  -- the rest of it is printed
  pub rest_printed : (z : HostState) (lines : List ℕ) (status : Status) → Did (Prints (done lines)) y z (Some status) → DidIn to_output (Prints (done (output ++ lines))) x z (Some status)
  rest_printed z lines status h =
      let m = h.holds in
      record {
        trace = g.trace ++ h.trace;
        grew = grew_more x y z g.trace h.trace g.grew h.grew;
        holds = record {
          first = g.trace ++ m.first;
          rest = m.rest;
          between = m.between;
          splits = ap (λ (l : List Event). g.trace ++ l) m.splits ∙ sym (append_assoc g.trace m.first m.rest);
          does = writes_after lines m.between m.first m.does;
          goes = same_after lines m.between m.rest status m.goes;
        };
      }

  -- it is all, and then a refusal is told
  pub refusal_printed : (z : HostState) (line : List ℕ) (status : Status) → Did (Tells line Refused) y z (Some status) → DidIn to_output (Prints (refused_after output line)) x z (Some status)
  refusal_printed z line status h = did_both (Writes Output output) (after_output (refused_after output line)) x y z true status (record { trace = g.trace; grew = g.grew; holds = g.holds }) (did_any _ y z status h)

  module _ (a : Answer) where
    -- a write of what comes next fails, and that is told
    pub fault_printed : (z w : HostState) (lines more : List ℕ) (status : Status) → (output ++ lines) ++ more ≡ a.output → Did (Writes Output lines) y z (Some false) → Did (Tells write_fault_line WriteFault) z w (Some status) → DidIn to_output (Prints a) x w (Some status)
    fault_printed z w lines more status split h told =
        let k = h.holds in
        let parts : (output ++ k.0) ++ (k.1 ++ more) ≡ a.output =
        sym (append_assoc (output ++ k.0) k.1 more) ∙ (ap (λ (l : List ℕ). l ++ more) (append_assoc output k.0 k.1 ∙ ap (λ (l : List ℕ). output ++ l) k.3) ∙ split) in
        did_both (Writes Output a.output) (after_output a) x z w false status
        (record {
          trace = g.trace ++ h.trace;
          grew = grew_more x y z g.trace h.trace g.grew h.grew;
          holds = (output ++ k.0, k.1 ++ more, pieces_then (put Output) output k.0 _ g.trace h.trace g.holds k.2, parts, omega (arith, k.4, length-append k.1 more));
        })
        (did_any _ z w status told)

    -- memory runs out
    pub part_printed : (more : List ℕ) → output ++ more ≡ a.output → DidIn to_output (Prints a) x y None
    part_printed more split =
        let m = can_tell a.errors a.status in
        record {
          trace = g.trace;
          grew = g.grew;
          holds = record {
            rest = put Output more ∷ m.rest;
            answer = m.answer;
            whole = record {
              first = g.trace ++ put Output more ∷ [];
              rest = m.rest;
              between = true;
              splits = sym (append_assoc g.trace (put Output more ∷ []) m.rest);
              does = subst (λ (l : List ℕ). InPieces (put Output) l [] (g.trace ++ put Output more ∷ [])) split (more_pieces (put Output) output more g.trace g.holds);
              goes = m.whole;
            };
            only = keeps_pieces (WritesOnly to_output) (put Output) (λ bytes. inl refl) output [] g.trace tt g.holds;
          };
        }
