-- What is spelled of a message is of its kind, has its size, and means it; what is meant fits.
use Rattle.std.proofs.Common.{◌≡◌, ℕ, ◌≤◌, List, length, None, sym, ap, ◌∙◌, subst}
use Rattle.tl_types.specs.Values.{ValueView, depth}
use Rattle.tl_types.specs.declared.value.TheConstants.{MAX_LEVELS}
use Rattle.wire_forms.specs.IsOf.{IsOf}
use Rattle.wire_profile.specs.Indexes.{ProfileView, form_at, number_at}
use Rattle.wire_profile.specs.Profiles.{IsProfile}
use Rattle.wire_profile.specs.SpelledForms.{owned, placed, IsServed}
use Rattle.wire_profile.proofs.ProfileFacts.{own_again}
use Rattle.wire_profile.proofs.Renamings.{HasForms, renamed_back}
use Rattle.wire_profile.proofs.OwnValues.{own_of}
use Rattle.box_wire.specs.Kinds.{Kind}
use Rattle.box_wire.specs.Framing.{Framed, Means}
use Rattle.box_wire.proofs.Exactly.{KindLaws}
use Rattle.box_wire.proofs.Levels.{depth_same}
use Rattle.box_world.specs.Sizes.{size_in}
use Rattle.box_world.specs.SizeLaws.{SpelledAreOfTheKind, SpelledHaveTheirSize, SpelledAreWhole, SpelledAreMeant, MeantFit}
use Rattle.box_world.proofs.Lengths.{has_size}
use Rattle.box_world.proofs.Multiples.{is_whole, whole}
use Rattle.box_world.proofs.PartsFit.{Fits, fits_of}

module _ {M : Type 0} (kind : Kind) (tree : M → ValueView) (inside : ValueView → M) (Is : M → Type 0) (laws : KindLaws kind tree inside Is) (has : (m : M) → HasForms (tree m)) (served : (m : M) → IsServed kind.cell (tree m)) where
  again : (p : ProfileView) → IsProfile p → (m : M) → owned p (placed p (tree m)) ≡ tree m
  again p good m = renamed_back (number_at p.indexes) (form_at p.indexes) (tree m) (λ k form. own_again p good k form.0 form.1) (has m)

  owned_is : (p : ProfileView) → IsProfile p → (m : M) (b : List ℕ) → Framed p kind (tree m) b → IsOf kind.cell (owned p (placed p (tree m)))
  owned_is p good m b s = own_of p good (placed p (tree m)) kind.cell b laws.alone s (subst (λ (t : ValueView). IsServed kind.cell t) (sym (again p good m)) (served m))

  pub of_the_kind : SpelledAreOfTheKind kind tree
  of_the_kind p good m b s = subst (λ (t : ValueView). IsOf kind.cell t) (again p good m) (owned_is p good m b s)

  pub of_their_size : SpelledHaveTheirSize kind tree
  of_their_size p good m b s = has_size p good (placed p (tree m)) kind.cell b laws.alone s (owned_is p good m b s) ∙ ap (λ (t : ValueView). size_in kind.cell t) (again p good m)

  pub are_whole : SpelledAreWhole kind tree
  are_whole p good m b s = whole (length b) (let q = is_whole (tree m) kind.cell (of_the_kind p good m b s) in (q.0, of_their_size p good m b s ∙ q.1))

  pub are_meant : ((t : ValueView) → IsOf kind.cell t → kind.cause t ≡ None → depth t ≤ MAX_LEVELS) → SpelledAreMeant kind tree Is
  are_meant few p good m b is clear s =
      let kind_is = of_the_kind p good m b s in
      record {
        v = placed p (tree m);
        spelled = (s, subst (λ (n : ℕ). n ≤ MAX_LEVELS) (sym (depth_same (number_at p.indexes) (tree m))) (few (tree m) kind_is clear));
        clear = ap kind.cause (again p good m) ∙ clear;
        same = ap kind.normal (again p good m) ∙ sym (laws.same (tree m) kind_is clear) ∙ ap tree (laws.back m is);
      }

-- the value that is spelled is of the kind, and the message is that which is read of it
pub record IsRead {M : Type 0} (kind : Kind) (inside : ValueView → M) (p : ProfileView) (m : M) (v : ValueView) : Type 0 where
  pub kind_is : IsOf kind.cell (owned p v)
  pub clear : kind.cause (owned p v) ≡ None
  pub message : inside (owned p v) ≡ m

module _ {M : Type 0} (kind : Kind) (tree : M → ValueView) (inside : ValueView → M) (Is : M → Type 0) (laws : KindLaws kind tree inside Is) where
  pub read_of : (p : ProfileView) → IsProfile p → (m : M) (b : List ℕ) → Is m → (means : Means p kind (tree m) b) → IsRead kind inside p m means.v
  read_of p good m b is means =
      let t : ValueView = owned p means.v in
      let kind_is = own_of p good means.v kind.cell b laws.alone means.spelled.0 (laws.served t means.clear) in
      record {
        kind_is = kind_is;
        clear = means.clear;
        message = sym (laws.back (inside t) (laws.read t kind_is means.clear)) ∙ ap inside (laws.same t kind_is means.clear ∙ means.same) ∙ laws.back m is;
      }

  pub meant_fit : (Fit : M → Type 0) → ((t : ValueView) → Fits t → Fit (inside t)) → MeantFit kind tree Is Fit
  meant_fit Fit law p good m b is means =
      let r = read_of p good m b is means in
      subst Fit r.message (law (owned p means.v) (fits_of (owned p means.v) kind.cell r.kind_is))
