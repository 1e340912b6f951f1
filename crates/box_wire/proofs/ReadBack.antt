-- What is spelled of a message in range means it.
use Rattle.std.proofs.Common.{◌≡◌, ℕ, ◌≤◌, None, sym, ap, ◌∙◌, subst}
use Rattle.tl_types.specs.Values.{ValueView, depth}
use Rattle.tl_types.specs.declared.value.TheConstants.{MAX_LEVELS}
use Rattle.wire_forms.specs.IsOf.{IsOf}
use Rattle.wire_profile.specs.Indexes.{form_at, number_at}
use Rattle.wire_profile.specs.SpelledForms.{owned, placed}
use Rattle.wire_profile.proofs.ProfileFacts.{own_again}
use Rattle.wire_profile.proofs.Renamings.{has_forms, renamed_back}
use Rattle.wire_profile.proofs.PlacedValues.{placed_of}
use Rattle.box_wire.specs.Kinds.{Kind}
use Rattle.box_wire.specs.Laws.{AreSpelled, AreReadBack}
use Rattle.box_wire.proofs.Exactly.{KindLaws}
use Rattle.box_wire.proofs.Levels.{depth_same}

module _ {M : Type 0} (kind : Kind) (tree : M → ValueView) (inside : ValueView → M) (Is Fits : M → Type 0) (laws : KindLaws kind tree inside Is) (fit : (m : M) → Fits m → IsOf kind.cell (tree m)) where
  pub are_spelled : AreSpelled kind tree Fits
  are_spelled p good m fits = placed_of p good (tree m) kind.cell laws.alone (fit m fits)

  pub are_read_back : ((t : ValueView) → IsOf kind.cell t → kind.cause t ≡ None → depth t ≤ MAX_LEVELS) → AreReadBack kind tree Is Fits
  are_read_back few p good m range b s =
      let t_is = fit m range.fits in
      let again : owned p (placed p (tree m)) ≡ tree m = renamed_back (number_at p.indexes) (form_at p.indexes) (tree m) (λ k form. own_again p good k form.0 form.1) (has_forms (tree m) kind.cell laws.alone t_is) in
      record {
        v = placed p (tree m);
        spelled = (s, subst (λ (n : ℕ). n ≤ MAX_LEVELS) (sym (depth_same (number_at p.indexes) (tree m))) (few (tree m) t_is range.clear));
        clear = ap kind.cause again ∙ range.clear;
        same = ap kind.normal again ∙ sym (laws.same (tree m) t_is range.clear) ∙ ap tree (laws.back m range.is);
      }
